-- Every place and every size of the layout by its name, once; src/sizes.rt has those that the code needs as constants of the same names. A size counts
-- bytes, and a place those before it in what it belongs to.
use Rattle.std.specs.Prelude.{ℕ, ◌+◌, ◌*◌}

-- a set of states is a word, a set of events half of one
abbrev pub word_size : ℕ
word_size = 8

abbrev pub half_size : ℕ
half_size = 4

-- a header: the initial state, K, the secret set, the observable set, the symbols of all events
abbrev pub event_count : ℕ
event_count = 32

abbrev pub initial_place : ℕ
initial_place = 0

abbrev pub header_kPlace : ℕ
header_kPlace = 1

abbrev pub header_secret_place : ℕ
header_secret_place = 2

abbrev pub observable_place : ℕ
observable_place = header_secret_place + word_size

abbrev pub symbols_place : ℕ
symbols_place = observable_place + half_size

abbrev pub header_size : ℕ
header_size = symbols_place + event_count

-- a further secret: the set of its states, its K
abbrev pub secret_kPlace : ℕ
secret_kPlace = word_size

abbrev pub secret_size : ℕ
secret_size = secret_kPlace + 1

-- further secrets: how many are given, and three of them
abbrev pub further_count : ℕ
further_count = 3

abbrev pub first_secret_place : ℕ
first_secret_place = 1

abbrev pub second_secret_place : ℕ
second_secret_place = first_secret_place + secret_size

abbrev pub third_secret_place : ℕ
third_secret_place = second_secret_place + secret_size

abbrev pub further_size : ℕ
further_size = third_secret_place + secret_size

-- an estimator: how many symbols are remembered, those symbols, a state set for each of them and one more, the further secrets
abbrev pub most_remembered : ℕ
most_remembered = 15

abbrev pub entry_count : ℕ
entry_count = 16

abbrev pub remembered_place : ℕ
remembered_place = 0

abbrev pub remembered_symbols_place : ℕ
remembered_symbols_place = 1

abbrev pub entries_place : ℕ
entries_place = remembered_symbols_place + most_remembered

abbrev pub further_place : ℕ
further_place = entries_place + word_size * entry_count

abbrev pub estimator_size : ℕ
estimator_size = further_place + further_size

-- an enforcer: its estimator, its notion, how many symbols are pending, those symbols, their waits
abbrev pub most_pending : ℕ
most_pending = 16

abbrev pub notion_place : ℕ
notion_place = estimator_size

abbrev pub pending_place : ℕ
pending_place = notion_place + 1

abbrev pub pending_symbols_place : ℕ
pending_symbols_place = pending_place + 1

abbrev pub waits_place : ℕ
waits_place = pending_symbols_place + most_pending

abbrev pub enforcer_size : ℕ
enforcer_size = waits_place + most_pending

-- the bytes of the two notions
abbrev pub weak_byte : ℕ
weak_byte = 0

abbrev pub strong_byte : ℕ
strong_byte = 1

-- the byte of a verdict that is no leak
abbrev pub no_leak_byte : ℕ
no_leak_byte = 255

-- the two verdicts of one secret
abbrev pub strong_place : ℕ
strong_place = 1

abbrev pub verdicts_size : ℕ
verdicts_size = 2

-- a judgement: the verdicts of the automaton's own secret and of three further ones, how many states are possible
abbrev pub own_verdicts_place : ℕ
own_verdicts_place = 0

abbrev pub first_verdicts_place : ℕ
first_verdicts_place = own_verdicts_place + verdicts_size

abbrev pub second_verdicts_place : ℕ
second_verdicts_place = first_verdicts_place + verdicts_size

abbrev pub third_verdicts_place : ℕ
third_verdicts_place = second_verdicts_place + verdicts_size

abbrev pub judged_possible_place : ℕ
judged_possible_place = third_verdicts_place + verdicts_size

abbrev pub judgement_size : ℕ
judgement_size = judged_possible_place + 1

-- a release: how many symbols were released, how many states are possible
abbrev pub released_place : ℕ
released_place = 0

abbrev pub released_possible_place : ℕ
released_possible_place = 1

abbrev pub release_size : ℕ
release_size = released_possible_place + 1

-- an exploration: the number of configurations, the largest weak wait, the largest strong one
abbrev pub explored_place : ℕ
explored_place = 0

abbrev pub explored_size : ℕ
explored_size = 2

abbrev pub weak_wait_place : ℕ
weak_wait_place = explored_place + explored_size

abbrev pub strong_wait_place : ℕ
strong_wait_place = weak_wait_place + 1

abbrev pub exploration_size : ℕ
exploration_size = strong_wait_place + 1

-- a first leak: the number of an accepted event, a word
abbrev pub first_leak_size : ℕ
first_leak_size = word_size

-- a written size: how many bytes were written, a word
abbrev pub written_size : ℕ
written_size = word_size

-- the run of a witness: the state it starts in, the number of its pairs
abbrev pub run_start_place : ℕ
run_start_place = 0

abbrev pub run_pairs_place : ℕ
run_pairs_place = 1

abbrev pub run_pairs_size : ℕ
run_pairs_size = 2

abbrev pub run_size : ℕ
run_size = run_pairs_place + run_pairs_size

-- what the checker of witnesses says: one byte
abbrev pub invalid_byte : ℕ
invalid_byte = 0

abbrev pub valid_byte : ℕ
valid_byte = 1

abbrev pub valid_place : ℕ
valid_place = 0

abbrev pub valid_size : ℕ
valid_size = valid_place + 1

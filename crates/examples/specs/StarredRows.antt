-- The starred examples of 01's section "Feeds to try" as one table, with the numbers of possible states (02, S-5: for P's four lines 2, 2, 2, 1), and
-- examples for 02's S-2 and S-6.
use Rattle.std.specs.Prelude.{List, [], ◌∷◌, ◌++◌, take, replicate, ℕ, ◌+◌, ◌^◌}
use Rattle.encoding.specs.declared.ListedTransition.{ListedTransition}
use Rattle.opacity.specs.declared.Notion.TheVariants.{Weak, Strong}
use Rattle.opacity.specs.declared.Further.{Further}
use Rattle.opacity.specs.Verdicts.{Steps, none, leak}
use Rattle.verifier.specs.Replies.{Told, Said, refused, verdicts}
use Rattle.verifier.specs.Calls.{Call}
use Rattle.enforcer.specs.Offerings.{started, not_started}
use Rattle.examples.specs.Meaning.{Example, verdicts_of, answers_after, start_of, releases_of, verdicts_of_all, start_for_all, releases_for_all}
use Rattle.examples.specs.Meaning.{automaton, refusal, Row, about, description, All}

abbrev pub transition : (from event to : ℕ) → ListedTransition
transition from event to = record { from = from; event = event; to = to }

-- 01's P, with any K. A set is written as a sum of powers: {1, 2} is 2 ^ 1 + 2 ^ 2. Without symbols each observable event has its own number, and the others 0
abbrev pub P : ℕ → Example
P k = record {
  transitions = transition 0 0 2 ∷ transition 0 1 1 ∷ transition 1 2 0 ∷ transition 2 1 3 ∷ transition 3 1 3 ∷ [];
  header = record { initial = 0; k = k; secret = 2 ^ 1; observable = 2 ^ 1 + 2 ^ 2; symbols = 0 ∷ 1 ∷ 2 ∷ replicate 29 0 };
}

-- 01's Q
abbrev pub Q : Example
Q = record {
  transitions = transition 0 1 1 ∷ transition 1 0 2 ∷ [];
  header = record { initial = 0; k = 1; secret = 2 ^ 1; observable = 2 ^ 1; symbols = 0 ∷ 1 ∷ replicate 30 0 };
}

-- 01's T: event 0 is not observable, and there is no other
abbrev pub T : Example
T = record {
  transitions = transition 0 0 1 ∷ [];
  header = record { initial = 0; k = 0; secret = 2 ^ 0; observable = 0; symbols = replicate 32 0 };
}

-- the one state 0, secret
abbrev pub One : Example
One = record { transitions = []; header = record { initial = 0; k = 0; secret = 2 ^ 0; observable = 0; symbols = replicate 32 0 } }

-- 01's U
abbrev pub U : Example
U = record {
  transitions = transition 0 1 1 ∷ transition 1 1 0 ∷ [];
  header = record { initial = 0; k = 0; secret = 2 ^ 1; observable = 2 ^ 1; symbols = 0 ∷ 1 ∷ replicate 30 0 };
}

-- 02's two pumps: event 0 leads to the secret state 1, event 1 to state 2. With symbols 0 and 1 the reader tells them apart; with one symbol for both not
abbrev pub Pumps : (first second : ℕ) → Example
Pumps first second = record {
  transitions = transition 0 0 1 ∷ transition 0 1 2 ∷ [];
  header = record { initial = 0; k = 0; secret = 2 ^ 1; observable = 2 ^ 0 + 2 ^ 1; symbols = first ∷ second ∷ replicate 30 0 };
}

-- two events with symbol 7, of which the next symbol tells which it was: a leak that begins one step back
abbrev pub Later : Example
Later = record {
  transitions = transition 0 0 1 ∷ transition 0 1 2 ∷ transition 1 2 3 ∷ transition 3 0 3 ∷ transition 3 1 0 ∷ [];
  header = record { initial = 0; k = 2; secret = 2 ^ 1; observable = 2 ^ 0 + 2 ^ 1 + 2 ^ 2; symbols = 7 ∷ 7 ∷ 3 ∷ replicate 29 0 };
}

-- P whose events 1 and 2 have the symbols 2 and 0. Its encoding lists 31 for event 0, which is unobservable: the header has 0 there
abbrev pub PSymbols : Example
PSymbols = record {
  transitions = (P 2).transitions;
  header = record
      { initial = 0; k = 2; secret = 2 ^ 1; observable = 2 ^ 1 + 2 ^ 2; symbols = 0 ∷ 2 ∷ replicate 30 0 };
}

abbrev pub call : ℕ → Said → Call
call byte says = record { byte = byte; says = says }

-- the two verdicts of a secret; and an answer with those of the one secret
abbrev pub pair : (weak strong : Steps) → Told
pair weak strong = record { weak = weak; strong = strong }

abbrev pub told : (weak strong : Steps) (size : ℕ) → Said
told weak strong size = verdicts (record { each = pair weak strong ∷ []; size = size })

-- one further secret, number 1; and two of them, numbers 1 and 2, with the same states
abbrev pub one_further : (states k : ℕ) → Further
one_further states k = record { states = states ∷ 0 ∷ 0 ∷ []; k = k ∷ 0 ∷ 0 ∷ []; count = 1 }

abbrev pub two_further : (states first second : ℕ) → Further
two_further states first second = record { states = states ∷ states ∷ 0 ∷ []; k = first ∷ second ∷ 0 ∷ []; count = 2 }

-- Q's description, its fourth and its last byte given; and P's
abbrev pub q_bytes : ℕ → ℕ → List ℕ
q_bytes fourth last = 0x08 ∷ 0x22 ∷ 0x00 ∷ fourth ∷ 0x48 ∷ 0x01 ∷ 0x04 ∷ 0x10 ∷ last ∷ []

abbrev pub p_bytes : List ℕ
p_bytes = 0x0C ∷ 0x44 ∷ 0x00 ∷ 0x0A ∷ 0x46 ∷ 0x00 ∷ 0x02 ∷ 0x00 ∷ 0x20 ∷ 0x82 ∷ 0x20 ∷ 0x02 ∷ 0x08 ∷ 0x61 ∷ 0x84 ∷ 0x30 ∷ []

-- with symbol 7 for both events
abbrev pub pumps_bytes : List ℕ
pumps_bytes = 0x08 ∷ 0x20 ∷ 0x00 ∷ 0x05 ∷ 0x59 ∷ 0xCE ∷ 0x00 ∷ 0x01 ∷ 0x00 ∷ 0x21 ∷ 0x00 ∷ []

abbrev pub p_symbols_bytes : List ℕ
p_symbols_bytes =
    0x0C ∷ 0x44 ∷ 0x00 ∷ 0x0B ∷ 0x47 ∷ 0xF1 ∷ 0x00 ∷ 0x00 ∷ 0x04 ∷ 0x00 ∷ 0x41 ∷ 0x04 ∷ 0x40 ∷ 0x04 ∷ 0x10 ∷ 0xC3 ∷ 0x08 ∷ 0x60 ∷ []

-- K 0 and U are shown under both notions, and P's description too
abbrev pub rows : List Row
rows =
    about (P 2) (verdicts_of [] none none 2)
    ∷ about (P 2) (verdicts_of (1 ∷ []) none none 2)
    ∷ about (P 2) (verdicts_of (1 ∷ 2 ∷ []) (leak 1) (leak 1) 2)
    ∷ about (P 2) (verdicts_of (1 ∷ 2 ∷ 1 ∷ []) (leak 2) (leak 2) 2)
    ∷ about (P 2) (verdicts_of (1 ∷ 2 ∷ 1 ∷ 1 ∷ []) none none 1)
    -- refused with 7, then as after 1 2 1
    ∷ about (P 2) (answers_after (1 ∷ 2 ∷ []) (call 2 (refused 7) ∷ call 1 (told (leak 2) (leak 2) 2) ∷ []))
    ∷ about (P 2) (answers_after (1 ∷ 2 ∷ []) (call 0 (refused 6) ∷ call 200 (refused 6) ∷ []))
    ∷ about (P 1) (releases_of Weak (1 ∷ 2 ∷ 1 ∷ 1 ∷ []) ((1 ∷ []) ∷ [] ∷ (2 ∷ 1 ∷ []) ∷ (1 ∷ []) ∷ []))
    ∷ about (P 0) (releases_of Weak (1 ∷ 2 ∷ 1 ∷ 1 ∷ []) ((1 ∷ []) ∷ (2 ∷ []) ∷ (1 ∷ []) ∷ (1 ∷ []) ∷ []))
    ∷ about (P 0) (releases_of Strong (1 ∷ 2 ∷ 1 ∷ 1 ∷ []) ((1 ∷ []) ∷ (2 ∷ []) ∷ (1 ∷ []) ∷ (1 ∷ []) ∷ []))
    ∷ about Q (verdicts_of (1 ∷ []) none (leak 0) 2)
    ∷ description (q_bytes 0x04 0x04) (automaton Q)
    -- without its last byte; last byte 05; one more 00; fourth byte 05
    ∷ description (take 8 (q_bytes 0x04 0x04)) (refusal 1)
    ∷ description (q_bytes 0x04 0x05) (refusal 5)
    ∷ description (q_bytes 0x04 0x04 ++ 0x00 ∷ []) (refusal 5)
    ∷ description (q_bytes 0x05 0x04) (refusal 3)
    ∷ about T (verdicts_of [] none (leak 0) 2)
    ∷ about T (start_of Weak started)
    ∷ about T (start_of Strong (not_started 8))
    ∷ about One (verdicts_of [] (leak 0) (leak 0) 1)
    ∷ about One (start_of Weak (not_started 8))
    ∷ about One (start_of Strong (not_started 8))
    ∷ about U (releases_of Weak (1 ∷ 1 ∷ []) ([] ∷ (1 ∷ 1 ∷ []) ∷ []))
    ∷ about U (releases_of Strong (1 ∷ 1 ∷ []) ([] ∷ (1 ∷ 1 ∷ []) ∷ []))
    ∷ description p_bytes (automaton (P 2))
    ∷ about (Pumps 0 1) (verdicts_of (0 ∷ []) (leak 0) (leak 0) 1)
    ∷ about (Pumps 7 7) (verdicts_of (7 ∷ []) none none 2)
    -- 6 is judged by the symbols: an event's number that is none is refused
    ∷ about (Pumps 7 7) (answers_after [] (call 0 (refused 6) ∷ call 7 (told none none 2) ∷ call 7 (refused 7) ∷ []))
    ∷ about (Pumps 7 7) (releases_of Weak (7 ∷ []) ((7 ∷ []) ∷ []))
    -- without symbols; with one symbol for both; cut inside the first symbol
    ∷ description (0x08 ∷ 0x20 ∷ 0x00 ∷ 0x04 ∷ 0x58 ∷ 0x00 ∷ 0x04 ∷ 0x00 ∷ 0x84 ∷ []) (automaton (Pumps 0 1))
    ∷ description pumps_bytes (automaton (Pumps 7 7))
    ∷ description (take 5 pumps_bytes) (refusal 1)
    ∷ about Later (verdicts_of (7 ∷ []) none none 2)
    ∷ about Later (verdicts_of (7 ∷ 3 ∷ []) (leak 1) (leak 1) 1)
    ∷ about Later (releases_of Weak (7 ∷ 3 ∷ 7 ∷ 7 ∷ []) ((7 ∷ []) ∷ [] ∷ [] ∷ (3 ∷ 7 ∷ 7 ∷ []) ∷ []))
    ∷ about PSymbols (verdicts_of (2 ∷ 0 ∷ 2 ∷ []) (leak 2) (leak 2) 2)
    ∷ description p_symbols_bytes (automaton PSymbols)
    -- P's own secret leaks and number 1 does not; one event later it is number 1 that leaks, and it alone
    ∷ about (P 2) (verdicts_of_all (one_further (2 ^ 3) 0) (1 ∷ 2 ∷ 1 ∷ []) (pair (leak 2) (leak 2) ∷ pair none none ∷ []) 2)
    ∷ about (P 2) (verdicts_of_all (one_further (2 ^ 3) 0) (1 ∷ 2 ∷ 1 ∷ 1 ∷ []) (pair none none ∷ pair (leak 0) (leak 0) ∷ []) 1)
    -- the same states three times: each is judged by its own K, 2, 0 and 1
    ∷ about (P 2) (verdicts_of_all (two_further (2 ^ 1) 0 1) (1 ∷ 2 ∷ []) (pair (leak 1) (leak 1) ∷ pair none none ∷ pair (leak 1) (leak 1) ∷ []) 2)
    -- a start that number 1 alone has refused
    ∷ about (P 2) (verdicts_of_all (one_further (2 ^ 0 + 2 ^ 2) 0) [] (pair none none ∷ pair (leak 0) (leak 0) ∷ []) 2)
    ∷ about (P 2) (start_for_all (one_further (2 ^ 0 + 2 ^ 2) 0) Weak (not_started 8))
    ∷ about (P 2) (start_for_all (one_further (2 ^ 0 + 2 ^ 2) 0) Strong (not_started 8))
    -- P's own secret keeps symbol 2 back, and number 1 the last 1
    ∷ about (P 1) (releases_for_all (one_further (2 ^ 3) 0) Weak (1 ∷ 2 ∷ 1 ∷ 1 ∷ []) ((1 ∷ []) ∷ [] ∷ (2 ∷ 1 ∷ []) ∷ [] ∷ []))
    ∷ about (P 1) (releases_for_all (one_further (2 ^ 3) 0) Strong (1 ∷ 2 ∷ 1 ∷ 1 ∷ []) ((1 ∷ []) ∷ [] ∷ (2 ∷ 1 ∷ []) ∷ [] ∷ []))
    -- and number 1, with a larger K, what P's own secret would let go
    ∷ about (P 0) (releases_for_all (one_further (2 ^ 1) 1) Weak (1 ∷ 2 ∷ 1 ∷ []) ((1 ∷ []) ∷ [] ∷ (2 ∷ 1 ∷ []) ∷ []))
    ∷ []

-- the statement; the proof is every_row_holds of proofs/EveryRow
abbrev pub EveryRowHolds : Type 0
EveryRowHolds = All rows

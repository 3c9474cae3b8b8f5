-- Every row of the table holds: the checker computes a check of each row. Assumes nothing.
use mathlib.Core.Path.{◌≡◌, refl}
use mathlib.Core.Bool.{not}
use mathlib.Core.List.{List, [], ◌∷◌, ◌++◌}
use mathlib.Core.Logic.{inl, inr, ⊎_elim}
use Prim.Native.Nat.{ℕ, ◌≤◌, ◌<◌}
use native.Mathlib.Omega.{arith}
use native.Mathlib.Decide.{dec_lt}
use lib.Dec.{T, T_not}
use lib.ListN.{length, get_or, take, get_or-eq_default}
use Rattle.stateset.specs.Set.{bit}
use Rattle.lists.specs.Calls.{end, more}
use Rattle.automaton.specs.Run.{automaton_of, shows_by, Observable, SmallSymbols}
use Rattle.automaton.specs.Reaching.{EstimateSize, SizeWithin}
use Rattle.automaton.specs.declared.Header.{Header}
use Rattle.bitfields.specs.Bits.{bits_of, byte_bits, number_at, number_from, set_of}
use Rattle.bitfields.specs.Parser.{field, flags}
use Rattle.encoding.specs.Encoding.{encoding, fixed, front, symbols, preamble, transition, transitions, ending}
use Rattle.encoding.specs.Answers.{header_symbols}
use Rattle.encoding.specs.declared.ListedTransition.{ListedTransition}
use Rattle.opacity.specs.declared.Notion.{Notion}
use Rattle.opacity.specs.declared.Notion.TheVariants.{Weak, Strong}
use Rattle.opacity.specs.declared.Secret.{Secret}
use Rattle.opacity.specs.declared.Further.{Further}
use Rattle.opacity.specs.Secrets.{own, further_of, secrets_of, secret_at, ForEach, no_further, Allowed}
use Rattle.opacity.specs.Verdicts.{Steps, none, leak, Tells, Exactly}
use Rattle.verifier.specs.Replies.{Told, steps_by, told_at, Said, refused, verdicts}
use Rattle.verifier.specs.Calls.{Call, taken_by, Right, Answered, AllAnswered}
use Rattle.opacity.proofs.Exactness.{exactly}
use Rattle.automaton.proofs.Estimates.{right_size}
use Rattle.enforcer.specs.Offerings.{StartOutcome, started, not_started}
use Rattle.enforcer.proofs.ForAll.{only}
use Rattle.examples.specs.Meaning.{Question, verdicts_of, answers_after, start_of, releases_of, verdicts_of_all, start_for_all, releases_for_all}
use Rattle.examples.specs.Meaning.{VerdictsAre, Opened, StartIs, ReleasedIs, EachReleases, VerdictsOfAll, OpenedForAll, StartForAll, ReleasedForAll}
use Rattle.examples.specs.Meaning.{Says, Example, Row, about, description, AboutHolds, RowHolds, All}
use Rattle.examples.specs.StarredRows.{rows, EveryRowHolds}
use Rattle.examples.proofs.Booleans.{every, same_list, same-list, list_same}
use Rattle.examples.proofs.Checks.{Check, done, failed, checked, map, then, both, either, by, le?, eq?, all_below, some_below}
use Rattle.examples.proofs.TableLaw.{in_range, some_table, table_well_formed}
use Rattle.examples.proofs.Descriptions.{description?}
use Rattle.examples.proofs.NotionChecks.{For, possible?, impossible?, size?, tells?, longest?, tells_each?, opens_as_leak?, longest_for_all?}

all_small : (observable : ℕ) (symbols : List ℕ) → length symbols ≡ 32 → ((e : ℕ) → e < 32 → get_or symbols e 0 ≤ 31) → SmallSymbols observable symbols
all_small observable symbols size small e i =
    elim (dec_lt e 32) [
      | yes l ↦ small e l
      | no l ↦ omega (arith, get_or-eq_default symbols 0 {n = e} (omega arith))
    ]

abbrev out_of : Header → ℕ → List ℕ
out_of h e = shows_by h.observable h.symbols e

abbrev observable? : (h : Header) (byte : ℕ) → Check (Observable h byte)
observable? h byte =
    map (λ b. record { event = b.at; event_small = b.small; shows_it = b.holds })
    (some_below {A = λ e. out_of h e ≡ byte ∷ []} (λ e. by (same_list (out_of h e) (byte ∷ [])) (same-list (out_of h e) (byte ∷ []))) 32)

abbrev not_observable? : (h : Header) (byte : ℕ) → Check (Observable h byte → ⊥)
not_observable? h byte =
    map (λ f o. f o.event o.event_small o.shows_it)
    (all_below {A = λ e. out_of h e ≡ byte ∷ [] → ⊥}
    (λ e. by (not (same_list (out_of h e) (byte ∷ []))) (λ t same. T_not (same_list (out_of h e) (byte ∷ [])) t (list_same (out_of h e) (byte ∷ []) same))) 32)

-- past the 32 symbols there is none
abbrev symbols? : (h : Header) → Check (SmallSymbols h.observable h.symbols)
symbols? h =
    map (λ f. all_small h.observable h.symbols f.0 f.1)
    (both (eq? (length h.symbols) 32) (all_below {A = λ e. get_or h.symbols e 0 ≤ 31} (λ e. le? (get_or h.symbols e 0) 31) 32))

-- by the definition, so exactly so in 01's words
right : (t : List ℕ) (h : Header) (trace : List ℕ) (v : Told) (n : ℕ) → SizeWithin n → VerdictsAre t h trace v.weak v.strong n
    → Right t h no_further trace (record { each = v ∷ []; size = n })
right t h trace v n within told = record {
  as_many = refl;
  each = λ notion. only h no_further refl (λ i c. Exactly notion (automaton_of t h) c trace (told_at notion (v ∷ []) i)) (alone notion);
  size = right_size (automaton_of t h) trace n within told.size;
}
  where
    alone : (notion : Notion) → Exactly notion (automaton_of t h) (own h) trace (steps_by notion v)
    alone Weak = exactly Weak (automaton_of t h) (own h) trace v.weak told.weak
    alone Strong = exactly Strong (automaton_of t h) (own h) trace v.strong told.strong

-- for every secret, by both notions
right_for_all : (t : List ℕ) (h : Header) (f : Further) (trace : List ℕ) (vs : List Told) (n : ℕ) → length vs ≡ length (secrets_of h f) → SizeWithin n
    → ForEach (secrets_of h f) (λ i c. Tells Weak (automaton_of t h) c trace (told_at Weak vs i))
    → ForEach (secrets_of h f) (λ i c. Tells Strong (automaton_of t h) c trace (told_at Strong vs i)) → EstimateSize (automaton_of t h) trace n
    → Right t h f trace (record { each = vs; size = n })
right_for_all t h f trace vs n as_many within weak strong size = record {
  as_many = as_many;
  each = each;
  size = right_size (automaton_of t h) trace n within size;
}
  where
    each : (notion : Notion) → ForEach (secrets_of h f) (λ i c. Exactly notion (automaton_of t h) c trace (told_at notion vs i))
    each Weak i given = exactly Weak (automaton_of t h) _ trace _ (weak i given)
    each Strong i given = exactly Strong (automaton_of t h) _ trace _ (strong i given)

abbrev allowed? : (f : Further) → Check (Allowed f)
allowed? f =
    map (λ g. record { few = g.0; back = g.1 })
    (both (le? f.count 3) (all_below {A = λ i. (secret_at (further_of f) i).k ≤ 15} (λ i. le? (secret_at (further_of f) i).k 15) (length (further_of f))))

abbrev within? : (n : ℕ) → Check (SizeWithin n)
within? n = map (λ f. record { some = f.0; most = f.1 }) (both (le? 1 n) (le? n 64))

module _ (ts : List ListedTransition) (h : Header) (range : T (every in_range ts)) where
  abbrev told? : (notion : Notion) (trace : List ℕ) (v : Steps) → Check (For ts (λ t. Tells notion (automaton_of t h) (own h) trace v))
  told? notion trace v = tells? ts h range (own h) notion trace v

  abbrev verdicts? : (trace : List ℕ) (v w : Steps) (n : ℕ) → Check (For ts (λ t. VerdictsAre t h trace v w n))
  verdicts? trace v w n =
      map (λ f x. record { possible = f.0 x; weak = f.1.0 x; strong = f.1.1.0 x; size = f.1.1.1 x })
      (both (possible? ts h range trace) (both (told? Weak trace v) (both (told? Strong trace w) (size? ts h range trace n))))

  -- the answer holds the verdicts of the one secret
  abbrev alone? : (trace : List ℕ) (byte : ℕ) (vs : List Told) (n : ℕ)
      → Check (For ts (λ t. Answered t h no_further trace byte (verdicts (record { each = vs; size = n }))))
  alone? trace byte [] n = failed
  alone? trace byte (v ∷ []) n =
      map (λ f x. (f.0, (f.1.1 x).possible, right x.table h (trace ++ byte ∷ []) v n f.1.0 (f.1.1 x)))
      (both (observable? h byte) (both (within? n) (verdicts? (trace ++ byte ∷ []) v.weak v.strong n)))
  alone? trace byte (v ∷ w ∷ vs) n = failed

  abbrev answered? : (trace : List ℕ) (byte : ℕ) (s : Said) → Check (For ts (λ t. Answered t h no_further trace byte s))
  answered? trace byte (refused n) =
      map (λ f x. ⊎_elim (λ a. inl a) (λ b. inr (b.0, b.1.0, b.1.1 x)) f)
      (either (both (eq? n 6) (not_observable? h byte))
      (both (eq? n 7) (both (observable? h byte) (impossible? ts h range (trace ++ byte ∷ [])))))
  answered? trace byte (verdicts j) = alone? trace byte j.each j.size

  abbrev all_answered? : (calls : List Call) (trace : List ℕ) → Check (For ts (λ t. AllAnswered t h no_further trace calls))
  all_answered? [] trace = done (λ x. end)
  all_answered? (c ∷ cs) trace =
      map (λ f x. more (f.0 x) (f.1 x))
      (both (answered? trace c.byte c.says) (all_answered? cs (trace ++ taken_by c.says c.byte)))

  abbrev opened? : (notion : Notion) (answer : StartOutcome) → Check (For ts (λ t. Opened t h notion answer))
  opened? notion started = told? notion [] none
  opened? notion (not_started n) = map (λ f x. (f.0, f.1 x)) (both (eq? n 8) (told? notion [] (leak 0)))

  abbrev start? : (notion : Notion) (answer : StartOutcome) → Check (For ts (λ t. StartIs t h notion answer))
  start? notion answer = map (λ f x. record { possible = f.0 x; opened = f.1 x }) (both (possible? ts h range []) (opened? notion answer))

  abbrev released? : (notion : Notion) (trace out : List ℕ) → Check (For ts (λ t. ReleasedIs t h notion trace out))
  released? notion trace out =
      map (λ f x. record { possible = f.0 x; prefix = f.1.0; longest = f.1.1 x })
      (both (possible? ts h range trace)
      (both (by (same_list out (take (length out) trace)) (same-list out (take (length out) trace)))
      (longest? ts h range (own h) notion trace (length out))))

  abbrev each_releases? : (Released : (t accepted out : List ℕ) → Type 0) → ((accepted out : List ℕ) → Check (For ts (λ t. Released t accepted out)))
      → (rest : List ℕ) (events : List (List ℕ)) (accepted out : List ℕ) → Check (For ts (λ t. EachReleases h (Released t) accepted out rest events))
  each_releases? Released check [] [] accepted out = done (λ x. EachReleases.end)
  each_releases? Released check [] (now ∷ later) accepted out = failed
  each_releases? Released check (e ∷ rest) [] accepted out = failed
  each_releases? Released check (e ∷ rest) (now ∷ later) accepted out =
      map (λ f x. EachReleases.more f.0 (f.1.0 x) (f.1.1 x))
      (both (observable? h e)
      (both (check (accepted ++ e ∷ []) (out ++ now)) (each_releases? Released check rest later (accepted ++ e ∷ []) (out ++ now))))

  -- with further secrets
  abbrev verdicts_of_all? : (f : Further) (trace : List ℕ) (vs : List Told) (n : ℕ) → Check (For ts (λ t. VerdictsOfAll t h f trace vs n))
  verdicts_of_all? f trace vs n =
      let cs : List Secret = secrets_of h f in
      map (λ g x. record {
        allowed = g.0;
        possible = g.1.0 x;
        right = right_for_all x.table h f trace vs n g.1.1.0 g.1.1.1.0 (g.1.1.1.1.0 x) (g.1.1.1.1.1.0 x) (g.1.1.1.1.1.1 x);
      })
      (both (allowed? f) (both (possible? ts h range trace) (both (eq? (length vs) (length cs)) (both (within? n)
      (both (tells_each? ts h range cs Weak trace (told_at Weak vs))
      (both (tells_each? ts h range cs Strong trace (told_at Strong vs)) (size? ts h range trace n)))))))

  abbrev opened_for_all? : (f : Further) (notion : Notion) (answer : StartOutcome) → Check (For ts (λ t. OpenedForAll t h f notion answer))
  opened_for_all? f notion started = tells_each? ts h range (secrets_of h f) notion [] (λ i. none)
  opened_for_all? f notion (not_started n) = map (λ g x. (g.0, g.1 x)) (both (eq? n 8) (opens_as_leak? ts h range (secrets_of h f) notion))

  abbrev start_for_all? : (f : Further) (notion : Notion) (answer : StartOutcome) → Check (For ts (λ t. StartForAll t h f notion answer))
  start_for_all? f notion answer =
      map (λ g x. record { allowed = g.0; possible = g.1.0 x; opened = g.1.1 x })
      (both (allowed? f) (both (possible? ts h range []) (opened_for_all? f notion answer)))

  abbrev released_for_all? : (f : Further) (notion : Notion) (trace out : List ℕ) → Check (For ts (λ t. ReleasedForAll t h f notion trace out))
  released_for_all? f notion trace out =
      map (λ g x. record { possible = g.0 x; prefix = g.1.0; longest = g.1.1 x })
      (both (possible? ts h range trace)
      (both (by (same_list out (take (length out) trace)) (same-list out (take (length out) trace)))
      (longest_for_all? ts h range (secrets_of h f) notion trace (length out))))

  abbrev says? : (q : Question) → Check (For ts (λ t. Says t h q))
  says? (verdicts_of trace v w n) = verdicts? trace v w n
  says? (answers_after trace calls) =
      map (λ f x. record { possible = f.0 x; answered = f.1 x }) (both (possible? ts h range trace) (all_answered? calls trace))
  says? (start_of notion answer) = start? notion answer
  says? (releases_of notion trace events) =
      map (λ f x. record { start = f.0 x; each = f.1 x })
      (both (start? notion started) (each_releases? (λ t. ReleasedIs t h notion) (released? notion) trace events [] []))
  says? (verdicts_of_all f trace vs n) = verdicts_of_all? f trace vs n
  says? (start_for_all f notion answer) = start_for_all? f notion answer
  says? (releases_for_all f notion trace events) =
      map (λ g x. record { start = g.0 x; each = g.1 x })
      (both (start_for_all? f notion started) (each_releases? (λ t. ReleasedForAll t h f notion) (released_for_all? f notion) trace events [] []))

abbrev about? : (e : Example) (q : Question) → Check (AboutHolds e q)
about? e q =
    let ts : List ListedTransition = e.transitions in
    let h : Header = e.header in
    then (by (every in_range ts) (λ range. range)) (λ range.
    map (λ f. record {
      some = some_table ts range;
      well_formed = λ t law. table_well_formed ts t law h f.0 f.1.0 f.1.1.0;
      says = λ t law. f.1.1.1 (record { table = t; holds = law });
    })
    (both (le? h.k 15) (both (le? h.initial 63) (both (symbols? h) (says? ts h range q)))))

abbrev row? : (r : Row) → Check (RowHolds r)
row? (about e q) = about? e q
row? (description bytes contents) = description? bytes contents

abbrev all? : (rs : List Row) → Check (All rs)
all? [] = done tt
all? (r ∷ rs) = both (row? r) (all? rs)

-- THE THEOREM: every check passes
pub every_row_holds : EveryRowHolds
unfolding bit encoding fixed front symbols preamble header_symbols transition transitions ending field flags bits_of byte_bits number_at number_from set_of
every_row_holds = checked (all? rows) tt

use Rattle.std.proofs.Common.{◌≡◌, ℕ, ◌<◌, ◌≤◌, Bool, true, false, List, length, get_or, take, min, MatchBool, arith, rules, tests}
use Rattle.std.specs.List.{HoldsAt, AllWithin}
use Rattle.std.proofs.lemmas.Iterator.{cases_from_all, YieldsList-from_slice}
use Rattle.std.proofs.lemmas.List.{get_or-take}
use lib.ListN.{get_or-eq_default, length-take}
use native.Mathlib.Decide.{dec_lt}
use Rattle.stateset.specs.Set.{Decided}
use Rattle.automaton.proofs.in_range.Goals as goal

-- past the end of the slice every byte reads as 0
decided : (bytes : List ℕ) (count n : ℕ) → n ≡ min (length bytes) count → (r : Bool)
    → MatchBool r (AllWithin (λ x. x ≤ 31) (take n bytes) 0 (length (take n bytes)))
    ((k : ℕ) × (k < length (take n bytes)) × HoldsAt (λ x. 31 < x) (take n bytes) k)
    → Decided r ((i : ℕ) → i < count → get_or bytes i 0 ≤ 31)
decided bytes count n e true h = λ i l. go i l (dec_lt i (length bytes))
  where
    go : (i : ℕ) → i < count → Dec (i < length bytes) → get_or bytes i 0 ≤ 31
    go i l (yes m) =
        let below : i < n = omega arith in
        omega (arith, h i 0 (omega arith) (omega (arith, length-take n bytes)), get_or-take n bytes i 0 below)
    go i l (no m) = omega (arith, get_or-eq_default bytes 0 {n = i} (omega arith))
decided bytes count n e false h = λ all.
    let k = h.0 in
    let l : k < n = omega (arith, h.1, length-take n bytes) in
    omega (arith, h.2 0, get_or-take n bytes k 0 l, all k (omega arith))

pub returns : goal.returns
returns c =
    let bytes = c.args.bytes.now in
    let n = c.min-n.result in
    decided bytes c.args.count n c.min-n.ensures _
    (cases_from_all _ _ _ (λ x. x ≤ 31) (λ x. 31 < x) c.all.ensures.ran (YieldsList-from_slice (take n bytes) cc)
    (λ x q k. search (rules, tests)) (λ x q k. search (rules, tests)))

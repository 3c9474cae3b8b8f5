-- The definitions leave no choice: an offered list has one first leak, or none. Assumes nothing.
use mathlib.Core.Path.{◌≡◌, ap, subst}
use mathlib.Core.List.{List, [], ◌∷◌}
use Prim.Native.Nat.{ℕ, ◌≤◌, ◌<◌}
use native.Mathlib.Omega.{arith}
use native.Mathlib.Decide.{dec_lt}
use lib.ListN.{length, take, length-append}
use Rattle.automaton.specs.Run.{automaton_of}
use Rattle.automaton.specs.declared.Header.{Header}
use Rattle.opacity.specs.declared.Notion.{Notion}
use Rattle.opacity.specs.declared.Further.{Further}
use Rattle.opacity.specs.Secrets.{secrets_of}
use Rattle.verifier.specs.Replies.{Said, refused, verdicts}
use Rattle.verifier.specs.Calls.{Call, taken_by, taken_of, accepted_of, offered_of}
use Rattle.leaks.specs.FirstLeaks.{AcceptedPart, SomeLeak, FirstLeak, NoneLeaks}
use Rattle.leaks.proofs.Parts.{part_unique}
use Rattle.leaks.proofs.Leaking.{leak_or_none}

-- a byte is taken once or not at all
taken_one : (says : Said) (b : ℕ) → length (taken_by says b) ≤ 1
taken_one (refused n) b = omega arith
taken_one (verdicts j) b = omega arith

fewer : (cs : List Call) → length (accepted_of cs) ≤ length (offered_of cs)
fewer [] = omega arith
fewer (c ∷ cs) =
    let one = taken_one c.says c.byte in
    let rest = fewer cs in
    omega (arith, one, rest, length-append (taken_of c) (accepted_of cs))

module _ (notion : Notion) (t : List ℕ) (h : Header) (f : Further) (bytes : List ℕ) where
  -- no more bytes are accepted than are offered
  pub part_short : (trace : List ℕ) → AcceptedPart t h f [] bytes trace → length trace ≤ length bytes
  part_short trace u = omega (arith, fewer u.calls, ap length u.offered, ap length u.accepted)

  -- so a place is no more than there are bytes
  pub place_short : (p : ℕ) → FirstLeak notion t h f bytes p → p ≤ length bytes
  place_short p x = omega (arith, x.among, part_short x.trace x.part)

  same_trace : (p q : ℕ) → (x : FirstLeak notion t h f bytes p) (y : FirstLeak notion t h f bytes q) → x.trace ≡ y.trace
  same_trace p q x y = part_unique t h f [] bytes x.trace y.trace x.part y.part

  -- none leaks before the first
  not_before : (p q : ℕ) → FirstLeak notion t h f bytes p → FirstLeak notion t h f bytes q → p < q → ⊥
  not_before p q x y less =
      leak_or_none notion (automaton_of t h) (secrets_of h f) (take p y.trace)
      (subst (λ (l : List ℕ). SomeLeak notion (automaton_of t h) (secrets_of h f) (take p l)) (same_trace p q x y) x.leaks) (y.first p x.counted less)

  -- there is one first leak
  pub one_place : (p q : ℕ) → FirstLeak notion t h f bytes p → FirstLeak notion t h f bytes q → p ≡ q
  one_place p q x y = go (dec_lt p q) (dec_lt q p)
    where
      go : Dec (p < q) → Dec (q < p) → p ≡ q
      go (yes d) e = absurd (not_before p q x y d)
      go (no d) (yes e) = absurd (not_before q p y x e)
      go (no d) (no e) = omega (arith, d, e)

  -- or none
  pub place_or_none : (p : ℕ) → FirstLeak notion t h f bytes p → NoneLeaks notion t h f bytes → ⊥
  place_or_none p x n =
      let e : x.trace ≡ n.trace = part_unique t h f [] bytes x.trace n.trace x.part n.part in
      leak_or_none notion (automaton_of t h) (secrets_of h f) (take p n.trace)
      (subst (λ (l : List ℕ). SomeLeak notion (automaton_of t h) (secrets_of h f) (take p l)) e x.leaks)
      (n.none_leaks p x.counted (omega (arith, x.among, ap length e)))

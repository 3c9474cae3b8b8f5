-- The first point of `witness` and `check_witness`: each row of a contract on its condition, and the others' conditions fail there. Assumes nothing.
use mathlib.Core.Path.{◌≡◌, refl, ap, sym}
use mathlib.Core.List.{List}
use mathlib.Core.Logic.{◌⊎◌, inl, inr}
use Prim.Native.Nat.{ℕ}
use native.Mathlib.Omega.{arith}
use Rattle.automaton.specs.declared.Header.{Header}
use Rattle.opacity.specs.declared.Notion.{Notion}
use Rattle.verifier.specs.declared.Estimator.{Estimator}
use Rattle.witness.specs.Answers.{Says, Told, Usable, InReachOf, IsWitness, CheckingIn, WritingIn}
use Rattle.witness.specs.Answers.{Checking, Writing, too_far, too_small, looked_for, no_run, a_run}
use Rattle.witness.proofs.Answering.{malformed_exactly, exact_writing, unusable_exactly, exact_checking}
use Rattle.guarantees.specs.FirstPoint.{EveryWitness, EveryCheck}

-- the number of a refusal
number_of : Told → ℕ
number_of (Told.refused n) = n
number_of (Told.written start pairs) = 0

number_said : Says → ℕ
number_said (Says.refused n) = n
number_said Says.yes = 0
number_said Says.no = 0

abbrev Number : ℕ → Type 0
Number n = (n ≡ 9) ⊎ ((n ≡ 17) ⊎ ((n ≡ 10) ⊎ (n ≡ 16)))

module _ (t : List ℕ) (h : Header) (s : Estimator) (notion : Notion) (number k : ℕ) (output : List ℕ) where
  numbers : (said : Told) (after : List ℕ) → WritingIn t h s notion number k output said after → (n : ℕ) → said ≡ Told.refused n → Number n
  unfolding number_of
  numbers said after (Writing.malformed bad) n e = inl (sym (ap number_of e))
  numbers said after (too_far u far) n e = inr (inl (sym (ap number_of e)))
  numbers said after (too_small u r short) n e = inr (inr (inl (sym (ap number_of e))))
  numbers said after (looked_for u r room (no_run none)) n e = inr (inr (inr (sym (ap number_of e))))
  numbers said after (looked_for u r room (a_run w few)) n e = let z : ◌≡◌ {A = ℕ} 0 1 = cc in absurd (omega arith)

  unchanged : (said : Told) (after : List ℕ) → WritingIn t h s notion number k output said after → (n : ℕ) → said ≡ Told.refused n → after ≡ output
  unchanged said after (Writing.malformed bad) n e = refl
  unchanged said after (too_far u far) n e = refl
  unchanged said after (too_small u r short) n e = refl
  unchanged said after (looked_for u r room (no_run none)) n e = refl
  unchanged said after (looked_for u r room (a_run w few)) n e = let z : ◌≡◌ {A = ℕ} 0 1 = cc in absurd (omega arith)

pub witness_answers : EveryWitness
witness_answers t h s notion number k output said after x =
    record {
      malformed = malformed_exactly (Usable t h s) (InReachOf h s number k) (IsWitness t h s notion number k) output said after x;
      others = λ u. exact_writing (Usable t h s) (InReachOf h s number k) (IsWitness t h s notion number k) output u said after x;
      no_other = numbers t h s notion number k output said after x;
      unchanged = unchanged t h s notion number k output said after x;
    }

by_nine : (t : List ℕ) (h : Header) (s : Estimator) (notion : Notion) (number k start : ℕ) (bytes : List ℕ) (said : Says)
    → CheckingIn t h s notion number k start bytes said → (n : ℕ) → said ≡ Says.refused n → n ≡ 9
unfolding number_said
by_nine t h s notion number k start bytes said (Checking.malformed bad) n e = sym (ap number_said e)
by_nine t h s notion number k start bytes said (Checking.valid u r x) n e = let z : ◌≡◌ {A = ℕ} 0 1 = cc in absurd (omega arith)
by_nine t h s notion number k start bytes said (Checking.invalid u f) n e = let z : ◌≡◌ {A = ℕ} 0 1 = cc in absurd (omega arith)

pub check_answers : EveryCheck
check_answers t h s notion number k start bytes said x =
    record {
      malformed = unusable_exactly (Usable t h s) (InReachOf h s number k) (IsWitness t h s notion number k start) bytes said x;
      others = λ u. exact_checking (Usable t h s) (InReachOf h s number k) (IsWitness t h s notion number k start) bytes u said x;
      no_other = by_nine t h s notion number k start bytes said x;
    }

-- The definitions leave no choice: an input has one output for a notion. Assumes nothing.
use mathlib.Core.Path.{◌≡◌, refl, ap}
use mathlib.Core.List.{List, [], ◌∷◌}
use Prim.Native.Nat.{ℕ, ◌≤◌, ◌<◌, ◌^◌}
use native.Mathlib.Omega.{arith}
use lib.ListN.{length, take, drop, length-take}
use Rattle.automaton.specs.declared.Header.{Header}
use Rattle.opacity.specs.declared.Notion.{Notion}
use Rattle.opacity.specs.Secrets.{no_further}
use Rattle.leaks.specs.FirstLeaks.{FirstLeak, NoneLeaks}
use Rattle.leaks.proofs.Only.{place_short, one_place, place_or_none}
use Rattle.report.specs.Text.{decimal, line, place_line}
use Rattle.monitor.specs.Opening.{front_size}
use Rattle.monitor.specs.Log.{events_of}
use Rattle.monitor.proofs.OneOutput.{one_decodes, one_automaton, not_accepted, one_number}
use Rattle.leak_log.specs.LeakOutput.{Refused, truncated, not_decoded, Searchable, Output, refused, found, none}

-- a log has one refusal
one_refusal : {input : List ℕ} {n m : ℕ} → Refused input n → Refused input m → n ≡ m
one_refusal (truncated a) (truncated b) = refl
one_refusal (truncated a) (not_decoded b d) = absurd (omega arith)
one_refusal (not_decoded a d) (truncated b) = absurd (omega arith)
one_refusal (not_decoded a d) (not_decoded b d') = one_number (one_decodes d d').answer

-- and where it has one it is not searched
not_both : {input t : List ℕ} {h : Header} {n : ℕ} → Refused input n → Searchable input t h → ⊥
not_both (truncated a) s = omega (arith, s.whole)
not_both (not_decoded a d) s = not_accepted (one_decodes d s.decodes).answer

few : (n : ℕ) (l : List ℕ) → length (take n l) ≤ n
few n l = omega (arith, length-take n l)

below : (p n : ℕ) → p ≤ n → n ≤ 4294967295 → p < 2 ^ 32
below p n a b = omega arith

-- every place fits the ten digits in which it is printed (report: Decimal, in_base_ten)
pub place_small : (notion : Notion) (input t : List ℕ) (h : Header) (place : ℕ) → FirstLeak notion t h no_further (events_of input) place → place < 2 ^ 32
place_small notion input t h place x =
    below place (length (events_of input)) (place_short notion t h no_further (events_of input) place x) (few 4294967295 (drop (front_size input) input))

module _ (notion : Notion) (input : List ℕ) where
  pub one_leak_output : {a b : List ℕ} → Output notion input a → Output notion input b → a ≡ b
  one_leak_output (refused r x) (refused q y) =
      ap (λ (n : ℕ). line ((114 ∷ 101 ∷ 102 ∷ 117 ∷ 115 ∷ 101 ∷ 100 ∷ []) ∷ decimal n ∷ [])) (one_refusal x y)
  one_leak_output (refused r x) (found s l) = absurd (not_both x s)
  one_leak_output (refused r x) (none s l) = absurd (not_both x s)
  one_leak_output (found s l) (refused r x) = absurd (not_both x s)
  one_leak_output (found {t = t} {h = h} {place = p} s l) (found {place = q} s' l') =
      let here = one_automaton (λ (x : List ℕ) (y : Header). FirstLeak notion x y no_further (events_of input) q) s'.decodes s.decodes l' in
      ap place_line (one_place notion t h no_further (events_of input) p q l here)
  one_leak_output (found {t = t} {h = h} {place = p} s l) (none s' l') =
      let here = one_automaton (λ (x : List ℕ) (y : Header). NoneLeaks notion x y no_further (events_of input)) s'.decodes s.decodes l' in
      absurd (place_or_none notion t h no_further (events_of input) p l here)
  one_leak_output (none s l) (refused r x) = absurd (not_both x s)
  one_leak_output (none {t = t} {h = h} s l) (found {place = p} s' l') =
      let here = one_automaton (λ (x : List ℕ) (y : Header). FirstLeak notion x y no_further (events_of input) p) s'.decodes s.decodes l' in
      absurd (place_or_none notion t h no_further (events_of input) p here l)
  one_leak_output (none s l) (none s' l') = refl

-- The output of an idle log is one of two, by its automaton; and no log is refused by 11 (02, S-4). Assumes nothing.
use mathlib.Core.Path.{◌≡◌, refl, sym, ap, subst, ◌∙◌}
use mathlib.Core.List.{List, [], ◌∷◌, ◌++◌, append_assoc}
use mathlib.Core.Logic.{◌⊎◌, inl, inr, ◌↔◌}
use Prim.Native.Nat.{ℕ}
use native.Mathlib.Omega.{arith}
use lib.ListN.{length}
use Rattle.automaton.specs.Run.{automaton_of}
use Rattle.automaton.specs.Reaching.{EstimateSize, RightSize}
use Rattle.automaton.specs.declared.Header.{Header}
use Rattle.automaton.proofs.Estimates.{size_some, size_most, right_size}
use Rattle.opacity.specs.declared.Notion.{Notion}
use Rattle.opacity.specs.declared.Notion.TheVariants.{Weak, Strong}
use Rattle.opacity.specs.declared.Verdict.{Verdict}
use Rattle.opacity.specs.declared.Verdict.TheVariants.{NoLeak, Leak}
use Rattle.opacity.specs.Secrets.{own}
use Rattle.opacity.specs.Verdicts.{none, leak, steps_of, LeakAt, IsVerdict}
use Rattle.opacity.proofs.Exactness.{words_exactly}
use Rattle.decoding.proofs.Refusing.{decoding_never}
use Rattle.decoding.proofs.Listing.{decoded_well_formed}
use Rattle.report.specs.Text.{digits, decimal, idle_line, end_line}
use Rattle.monitor.specs.Opening.{front_size, encoding_of, RightOwn}
use Rattle.monitor.specs.Log.{OpeningLeak, Refused, truncated, not_decoded, initial_leak, Monitored, Output, refused, idle, ended, Idle, clear, leaks}
use Rattle.monitor.proofs.OneOutput.{one_automaton, not_both}

module _ (t : List ℕ) (h : Header) (notion : Notion) where
  -- there is no event to look back to, so that every leak is leak 0
  at_zero : (l : ℕ) → LeakAt notion (automaton_of t h) (own h) [] l → l ≡ 0
  at_zero l x = omega (arith, x.reached)

  none_words : (OpeningLeak notion t h → ⊥) → IsVerdict notion (automaton_of t h) (own h) [] none
  none_words never l x = never (subst (LeakAt notion (automaton_of t h) (own h) []) (at_zero l x) x)

  leak_words : OpeningLeak notion t h → IsVerdict notion (automaton_of t h) (own h) [] (leak 0)
  leak_words x = (x, λ m below y. omega arith)

  -- the verdict of the opening: none, or leak 0
  opening_verdict : (v : Verdict) → IsVerdict notion (automaton_of t h) (own h) [] (steps_of v)
      → ((v ≡ NoLeak) × (OpeningLeak notion t h → ⊥)) ⊎ ((v ≡ Leak 0) × OpeningLeak notion t h)
  opening_verdict NoLeak w = inl (refl, w 0)
  opening_verdict (Leak l) w =
      let first = at_zero l w.0 in
      inr (ap Leak first, subst (LeakAt notion (automaton_of t h) (own h) []) first w.0)

-- whose weak verdict is none, since it is not refused by 8
idle_text : (t : List ℕ) (h : Header) (v w : Verdict) (n : ℕ) → (OpeningLeak Weak t h → ⊥) → RightOwn t h [] (record { weak = v; strong = w }) n
    → Idle t h (idle_line v w n ++ end_line 0 0 0)
idle_text t h v w n closed right =
    by (opening_verdict t h Weak v ((right.weak (steps_of v)).0 refl)) (opening_verdict t h Strong w ((right.strong (steps_of w)).0 refl))
    ((right.size.exactly n).0 refl)
  where
    by : ((v ≡ NoLeak) × (OpeningLeak Weak t h → ⊥)) ⊎ ((v ≡ Leak 0) × OpeningLeak Weak t h)
        → ((w ≡ NoLeak) × (OpeningLeak Strong t h → ⊥)) ⊎ ((w ≡ Leak 0) × OpeningLeak Strong t h) → EstimateSize (automaton_of t h) [] n
        → Idle t h (idle_line v w n ++ end_line 0 0 0)
    by (inr x) y size = absurd (closed x.1)
    by (inl x) (inl y) size = subst (Idle t h) (λ i. idle_line (sym x.0 i) (sym y.0 i) n ++ end_line 0 0 0) (clear size y.1)
    by (inl x) (inr y) size = subst (Idle t h) (λ i. idle_line (sym x.0 i) (sym y.0 i) n ++ end_line 0 0 0) (leaks size y.1)

-- the run without a step is compatible with no event, so that some state is possible, and at most 64 are
opening_size : {input t : List ℕ} {h : Header} (n : ℕ) → Monitored input t h → EstimateSize (automaton_of t h) [] n → RightSize (automaton_of t h) [] n
opening_size {input} {t} {h} n m size =
    let d = m.decodes in
    let well_formed = decoded_well_formed (encoding_of input) d.before h t d.decoding in
    right_size (automaton_of t h) [] n record {
      some = size_some (automaton_of t h) [] n (record { run = []; compatible = record { takes = tt; shown_is = refl } }) size;
      most = size_most (automaton_of t h) [] n well_formed.start size;
    } size

text_idle : {input t text : List ℕ} {h : Header} → Monitored input t h → length input ≡ front_size input → Idle t h text → Output input text
text_idle {t = t} {h = h} m e (clear {n = n} size never) = idle (record { weak = NoLeak; strong = NoLeak }) n m e record {
  weak = words_exactly Weak _ _ [] none (none_words t h Weak m.closed);
  strong = words_exactly Strong _ _ [] none (none_words t h Strong never);
  size = opening_size n m size;
}
text_idle {t = t} {h = h} m e (leaks {n = n} size x) = idle (record { weak = NoLeak; strong = Leak 0 }) n m e record {
  weak = words_exactly Weak _ _ [] none (none_words t h Weak m.closed);
  strong = words_exactly Strong _ _ [] (leak 0) (leak_words t h Strong x);
  size = opening_size n m size;
}

-- THE OUTPUT OF AN IDLE LOG that is not refused
pub idle_exactly : {input t : List ℕ} {h : Header} → Monitored input t h → length input ≡ front_size input → (text : List ℕ) → Output input text ↔ Idle t h text
idle_exactly {input} {t} {h} m e text = (go, text_idle m e)
  where
    go : {text : List ℕ} → Output input text → Idle t h text
    go (refused r x) = absurd (not_both x m)
    go (ended m' l p) = absurd (omega arith)
    go (idle v n m' e' right) =
        idle_text t h v.weak v.strong n m.closed
        (one_automaton (λ (x : List ℕ) (y : Header). RightOwn x y [] v n) m'.decodes m.decodes right)

-- their bytes: around the number's digits
around : (ds rest : List ℕ) → ((ds ++ (32 ∷ 45 ∷ [])) ++ (10 ∷ [])) ++ rest ≡ ds ++ (32 ∷ 45 ∷ 10 ∷ rest)
around ds rest = append_assoc (ds ++ (32 ∷ 45 ∷ [])) (10 ∷ []) rest ∙ append_assoc ds (32 ∷ 45 ∷ []) (10 ∷ rest)

pub idle_none : (n : ℕ) → idle_line NoLeak NoLeak n ++ end_line 0 0 0
    ≡ 48 ∷ 32 ∷ 45 ∷ 32 ∷ 45 ∷ 32 ∷ 45 ∷ 32 ∷ (decimal n ++ (32 ∷ 45 ∷ 10 ∷ 101 ∷ 110 ∷ 100 ∷ 32 ∷ 48 ∷ 32 ∷ 48 ∷ 32 ∷ 48 ∷ 10 ∷ []))
unfolding decimal digits
idle_none n = ap (λ (l : List ℕ). 48 ∷ 32 ∷ 45 ∷ 32 ∷ 45 ∷ 32 ∷ 45 ∷ 32 ∷ l) (around (decimal n) (end_line 0 0 0))

pub idle_leak : (n : ℕ) → idle_line NoLeak (Leak 0) n ++ end_line 0 0 0
    ≡ 48 ∷ 32 ∷ 45 ∷ 32 ∷ 45 ∷ 32 ∷ 48 ∷ 32 ∷ (decimal n ++ (32 ∷ 45 ∷ 10 ∷ 101 ∷ 110 ∷ 100 ∷ 32 ∷ 48 ∷ 32 ∷ 48 ∷ 32 ∷ 48 ∷ 10 ∷ []))
unfolding decimal digits
idle_leak n = ap (λ (l : List ℕ). 48 ∷ 32 ∷ 45 ∷ 32 ∷ 45 ∷ 32 ∷ 48 ∷ 32 ∷ l) (around (decimal n) (end_line 0 0 0))

-- REFUSAL 11 IS GIVEN NO MORE
pub never_eleven : {input : List ℕ} {n : ℕ} → Refused input n → n ≡ 11 → ⊥
never_eleven (truncated short) e = omega arith
never_eleven (not_decoded le d) e = decoding_never 11 refl (λ z. omega arith) (λ z. omega arith) d.decoding e
never_eleven (initial_leak le d opens) e = omega arith

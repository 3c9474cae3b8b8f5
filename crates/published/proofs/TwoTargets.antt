-- With two targets Definition 4 over words is not the one over steps: there the word leads to the secret, here a run of it does not. Assumes nothing.
use mathlib.Core.Path.{◌≡◌, refl, ap, sym, subst, ◌∙◌}
use mathlib.Core.List.{List, [], ◌∷◌, ◌++◌, append_assoc, append-nil}
use mathlib.Core.Logic.{◌⊎◌, inl, inr}
use Prim.Native.Nat.{ℕ, ◌+◌, ◌*◌, ◌^◌, ◌<◌}
use native.Mathlib.Omega.{arith}
use native.Mathlib.Decide.{ℕ_discrete}
use lib.ListN.{length, get_or, replicate, get_or-replicate}
use lib.Seq.{get_or-set_other}
use Rattle.stateset.specs.Set.{bit, In}
use Rattle.stateset.proofs.Bits.{empty}
use Rattle.automaton.specs.Run.{Transition, Step, Takes, end_of}
use Rattle.opacity.specs.Secrets.{secret_of}
use Rattle.published.specs.Source.{FreeLike, StronglyOpaque}
use Rattle.published.specs.ByWords.{word_of, Marked, projected, StronglyByWords, two_targets}
use Rattle.published.proofs.WordLaws.{word_shown, lead_steps}

-- its only transitions, and both are there
nowhere : (q e r : ℕ) → q < 64 → e < 32 → In r (get_or two_targets.table (64 * e + q) 0) → Dec (64 * e + q ≡ 64) → 64 * e + q ≡ 64
nowhere q e r h k i (yes at) = at
nowhere q e r h k i (no other) =
    absurd (empty r _ (get_or-set_other (replicate 2048 0) 64 (64 * e + q) 6 0 other ∙ get_or-replicate 2048 (64 * e + q) 0 0 (omega arith)) i)

only : (q e r : ℕ) → Transition two_targets.table q e r → (q ≡ 0) × (e ≡ 1) × (r ≡ 0 → ⊥)
unfolding bit
only q e r x =
    let small = x.from_small in
    let at : 64 * e + q ≡ 64 = nowhere q e r x.from_small x.event_small x.listed (ℕ_discrete (64 * e + q) 64) in
    let six : In r 6 = subst (In r) (ap (λ (n : ℕ). get_or two_targets.table n 0) at) x.listed in
    (omega arith, omega arith, λ z. let bad : bit 0 6 ≡ 1 = subst (λ (n : ℕ). In n 6) z six in absurd (omega arith))

there : (r : ℕ) → r < 64 → In r 6 → Transition two_targets.table 0 1 r
there r h i = record { from_small = omega arith; event_small = omega arith; to_small = h; listed = i }

-- so its words are the empty one and that of event 1
short : (t : List Step) → Takes two_targets 0 t → (word_of t ≡ []) ⊎ (word_of t ≡ 1 ∷ [])
short [] x = inl refl
short (s ∷ []) x = inr (ap (λ (e : ℕ). e ∷ []) (only 0 s.event s.to x.0).1)
short (s ∷ s₁ ∷ ss) x = absurd ((only 0 s.event s.to x.0).2 (only s.to s₁.event s₁.to x.1.0).0)

abbrev aside : Step
aside = record { event = 1; to = 2 }

-- the run to 2 is never in 1
clear : (b a : List Step) → b ++ a ≡ aside ∷ [] → In (end_of 0 b) 2 → ⊥
unfolding bit
clear [] a e bad = absurd (omega arith)
clear (s ∷ []) a e bad =
    let same : s ≡ aside = cc in
    let two : bit 2 2 ≡ 1 = subst (λ (x : Step). In x.to 2) same bad in
    absurd (omega arith)
clear (s ∷ s₁ ∷ b) a e bad = absurd (omega (arith, ap length e))

two : Takes two_targets 0 (aside ∷ [])
unfolding bit
two = (there 2 (omega arith) refl, tt)

steps_opaque : (K : ℕ) → StronglyOpaque two_targets (secret_of 2 K)
steps_opaque K t lang = go (short t lang)
  where
    go : (word_of t ≡ []) ⊎ (word_of t ≡ 1 ∷ []) → FreeLike two_targets (secret_of 2 K) t
    go (inl e) = record {
      s = [];
      takes = tt;
      like = sym (word_shown two_targets t ∙ ap (projected two_targets) e);
      free = λ t' pre near bad. clear t' (pre.rest ++ aside ∷ [])
          (sym (append_assoc t' pre.rest (aside ∷ [])) ∙ ap (λ (l : List Step). l ++ aside ∷ []) pre.joins) bad;
    }
    go (inr e) = record {
      s = aside ∷ [];
      takes = two;
      like = sym (word_shown two_targets t ∙ ap (projected two_targets) e);
      free = λ t' pre near bad. clear t' pre.rest pre.joins bad;
    }

word_marked : Marked two_targets 2 (1 ∷ [])
unfolding bit
word_marked = (1, refl, (1, there 1 (omega arith) refl, refl))

-- and no word that shows 1 is free of it
never_free : (s : List ℕ) → (s ≡ []) ⊎ (s ≡ 1 ∷ []) → projected two_targets s ≡ 1 ∷ [] → (Marked two_targets 2 s → ⊥) → ⊥
never_free s (inl e) like free = absurd (omega (arith, ap length (sym (ap (projected two_targets) e) ∙ like)))
never_free s (inr e) like free = free (subst (Marked two_targets 2) (sym e) word_marked)

words_not : (K : ℕ) → StronglyByWords two_targets (secret_of 2 K) → ⊥
unfolding bit
words_not K opaque =
    let x = opaque (1 ∷ []) (word_marked.0, word_marked.2) in
    let y = lead_steps two_targets 0 x.s x.inside.0 x.inside.1 in
    let word : (x.s ≡ []) ⊎ (x.s ≡ 1 ∷ []) = subst (λ (l : List ℕ). (l ≡ []) ⊎ (l ≡ 1 ∷ [])) y.spells (short y.run y.takes) in
    never_free x.s word x.like (x.free x.s (record { rest = []; joins = append-nil x.s }) (omega arith))

-- for every K
pub two-targets : (K : ℕ) → StronglyOpaque two_targets (secret_of (2 ^ 1) K) × (StronglyByWords two_targets (secret_of (2 ^ 1) K) → ⊥)
two-targets K = (steps_opaque K, words_not K)

-- Whether an event leaks, from the verdicts of the secrets that are given; and a first leak stays the first, whatever is offered later. Assumes nothing.
use mathlib.Core.Path.{◌≡◌, refl, ap, sym, subst, ◌∙◌}
use mathlib.Core.List.{List, [], ◌∷◌, ◌++◌, map}
use Prim.Native.Nat.{ℕ, zero, suc, ◌+◌, ◌≤◌, ◌<◌}
use native.Mathlib.Omega.{arith}
use native.Mathlib.Decide.{dec_lt}
use lib.ListN.{length, get_or, take, length-append}
use lib.Seq.{take-length, take-append-le, get_or-take}
use Rattle.automaton.specs.Run.{Automaton, automaton_of, WellFormed}
use Rattle.automaton.specs.declared.Header.{Header}
use Rattle.opacity.specs.declared.Notion.{Notion}
use Rattle.opacity.specs.declared.Secret.{Secret}
use Rattle.opacity.specs.declared.Further.{Further}
use Rattle.opacity.specs.declared.Verdict.{Verdict}
use Rattle.opacity.specs.declared.Verdict.TheVariants as verdict
use Rattle.opacity.specs.Secrets.{secrets_of, secret_at, ForEach}
use Rattle.opacity.specs.Verdicts.{none, leak, steps_of, Tells, IsVerdict}
use Rattle.opacity.proofs.Exactness.{in_words}
use Rattle.opacity.proofs.Numbering.{get_d_map}
use Rattle.verifier.specs.Replies.{numbered_by, steps_each}
use Rattle.leaks.specs.FirstLeaks.{SomeLeak, NoneBelow, FirstLeak}
use Rattle.leaks.specs.Inner.{LeakAmong}
use Rattle.leaks.proofs.Parts.{part_append, part_exists}
use Rattle.verifier.specs.declared.EachSecret.{EachSecret}

-- ---- the four verdicts

leak_steps : (v : Verdict) → (v ≡ verdict.NoLeak → ⊥) → (l : ℕ) × (v ≡ verdict.Leak l)
leak_steps verdict.NoLeak x = absurd (x refl)
leak_steps (verdict.Leak l) x = (l, refl)

pub none_is_none : (v : Verdict) → ((v ≡ verdict.NoLeak → ⊥) → ⊥) → v ≡ verdict.NoLeak
none_is_none verdict.NoLeak x = refl
none_is_none (verdict.Leak l) x = absurd (x (λ e. let z : ◌≡◌ {A = ℕ} 0 1 = cc in absurd (omega arith)))

pub leak_not_none : {v : Verdict} {l : ℕ} → v ≡ verdict.Leak l → v ≡ verdict.NoLeak → ⊥
leak_not_none a b = let z : ◌≡◌ {A = ℕ} 0 1 = cc in absurd (omega arith)

pub leak_among : (v : EachSecret Verdict) (i : ℕ) → (get_or (numbered_by v) i verdict.NoLeak ≡ verdict.NoLeak → ⊥) → LeakAmong v
leak_among v i x = let y = leak_steps (get_or (numbered_by v) i verdict.NoLeak) x in record { number = i; steps = y.0; is = y.1 }

-- where three of them are none, only the last can be a leak
pub last_among : (v : EachSecret Verdict) → ((v.own ≡ verdict.NoLeak → ⊥) → ⊥) → ((v.first ≡ verdict.NoLeak → ⊥) → ⊥)
    → ((v.second ≡ verdict.NoLeak → ⊥) → ⊥) → LeakAmong v → v.third ≡ verdict.NoLeak → ⊥
last_among v a b c x d = go x.number x.is
  where
    go : (i : ℕ) → get_or (numbered_by v) i verdict.NoLeak ≡ verdict.Leak x.steps → ⊥
    go zero e = leak_not_none e (none_is_none v.own a)
    go (suc zero) e = leak_not_none e (none_is_none v.first b)
    go (suc (suc zero)) e = leak_not_none e (none_is_none v.second c)
    go (suc (suc (suc zero))) e = leak_not_none e d
    go (suc (suc (suc (suc i)))) e = leak_not_none e refl

-- the verdict of a secret that is given
pub steps_at : (f : Further) (v : EachSecret Verdict) (i : ℕ) → i < suc f.count → get_or (steps_each f v) i none ≡ steps_of (get_or (numbered_by v) i verdict.NoLeak)
steps_at f v i given = get_or-take (suc f.count) (map steps_of (numbered_by v)) i none given ∙ get_d_map steps_of (numbered_by v) i verdict.NoLeak none refl

-- ---- some leak of a trace

pub take_whole : (trace : List ℕ) (b : ℕ) → take (length trace + 1) (trace ++ b ∷ []) ≡ trace ++ b ∷ []
take_whole trace b = ap (λ (n : ℕ). take n (trace ++ b ∷ [])) (sym (length-append trace (b ∷ []))) ∙ take-length (trace ++ b ∷ [])

module _ (notion : Notion) (p : Automaton) (cs : List Secret) where
  module _ (trace : List ℕ) (v : ℕ → Verdict) (tells : ForEach cs (λ i c. Tells notion p c trace (steps_of (v i)))) where
    pub some_leak : (i l : ℕ) → i < length cs → v i ≡ verdict.Leak l → SomeLeak notion p cs trace
    some_leak i l given e = record {
      number = i;
      given = given;
      steps = l;
      leaks = in_words notion p (secret_at cs i) trace (leak l)
          (subst (λ (x : Verdict). Tells notion p (secret_at cs i) trace (steps_of x)) e (tells i given));
    }

    pub none_leak : ((i : ℕ) → v i ≡ verdict.NoLeak) → ForEach cs (λ i c. IsVerdict notion p c trace none)
    none_leak all i given =
        in_words notion p (secret_at cs i) trace none
        (subst (λ (x : Verdict). Tells notion p (secret_at cs i) trace (steps_of x)) (all i) (tells i given))

  -- not both
  pub leak_or_none : (trace : List ℕ) → SomeLeak notion p cs trace → ForEach cs (λ i c. IsVerdict notion p c trace none) → ⊥
  leak_or_none trace s all = all s.number s.given s.steps s.leaks.0

  -- places that there are are judged by what stands up to them
  pub none_kept : (trace later : List ℕ) (n : ℕ) → n ≤ length trace + 1 → NoneBelow notion p cs trace n → NoneBelow notion p cs (trace ++ later) n
  none_kept trace later n h x q one below i given =
      subst (λ (l : List ℕ). IsVerdict notion p (secret_at cs i) l none) (sym (take-append-le q trace later (omega arith))) (x q one below i given)

  pub none_more : (trace : List ℕ) (b : ℕ) → NoneBelow notion p cs trace (length trace + 1)
      → ForEach cs (λ i c. IsVerdict notion p c (trace ++ b ∷ []) none) → NoneBelow notion p cs (trace ++ b ∷ []) (length (trace ++ b ∷ []) + 1)
  none_more trace b x here q one below i given = go (dec_lt q (length trace + 1))
    where
      go : Dec (q < length trace + 1) → IsVerdict notion p (secret_at cs i) (take q (trace ++ b ∷ [])) none
      go (yes d) = none_kept trace (b ∷ []) (length trace + 1) (omega arith) x q one d i given
      go (no d) =
          let e : q ≡ length trace + 1 = omega (arith, length-append trace (b ∷ [])) in
          subst (λ (l : List ℕ). IsVerdict notion p (secret_at cs i) l none) (sym (ap (λ (n : ℕ). take n (trace ++ b ∷ [])) e ∙ take_whole trace b))
          (here i given)

-- ---- the first leak, and what is offered later

module _ (notion : Notion) (t : List ℕ) (h : Header) (f : Further) (well_formed : WellFormed t h) where
  pub first_kept : (bytes later : List ℕ) (place : ℕ) → FirstLeak notion t h f bytes place → FirstLeak notion t h f (bytes ++ later) place
  first_kept bytes later place x =
      let y = part_exists t h f well_formed x.trace later in
      record {
        trace = x.trace ++ y.0;
        part = part_append t h f [] bytes later x.trace y.0 x.part y.1;
        counted = x.counted;
        among = omega (arith, x.among, length-append x.trace y.0);
        leaks = rw (take-append-le place x.trace y.0 x.among) x.leaks;
        first = none_kept notion (automaton_of t h) (secrets_of h f) x.trace y.0 place (omega (arith, x.among)) x.first;
      }

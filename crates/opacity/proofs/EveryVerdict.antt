-- Each trace has a verdict, with its runs in hand: whether a run excuses the system can be tested (Deciding). Assumes nothing.
use mathlib.Core.Path.{◌≡◌, refl, ap, subst}
use mathlib.Core.List.{List, [], ◌∷◌, ◌++◌}
use mathlib.Core.Logic.{◌⊎◌, inl, inr}
use Prim.Native.Nat.{ℕ, zero, suc, ◌-◌, ◌≤◌, min}
use native.Mathlib.Omega.{arith}
use native.Mathlib.Decide.{dec_le}
use lib.ListN.{length}
use Rattle.stateset.specs.Set.{In}
use Rattle.stateset.proofs.Bits.{in?}
use Rattle.stateset.proofs.Tests.{both}
use Rattle.automaton.specs.Run.{Automaton, Step, end_of, shown, Compatible, Position, count, state_at}
use Rattle.automaton.specs.Notion.{Crossed}
use Rattle.opacity.specs.declared.Notion.{Notion}
use Rattle.opacity.specs.declared.Notion.TheVariants.{Weak, Strong}
use Rattle.opacity.specs.declared.Secret.{Secret}
use Rattle.opacity.specs.Verdicts.{Steps, none, leak, Sure, Clear, NoLeakBelow, Tells}
use Rattle.opacity.proofs.Exactness.{below_start, below_step}
use Rattle.opacity.proofs.Deciding.{clear_at?, clear_from?}

-- whether some position of a run has a property that can be tested
record Found (P : List Step → Type 0) (run : List Step) : Type 0 where
  position : Position run
  holds : P position.before

nil_before : (b a : List Step) → b ++ a ≡ [] → b ≡ []
nil_before [] a e = refl
nil_before (s ∷ b) a e = absurd (omega (arith, ap length e))

cons_before : (P : List Step → Type 0) (s : Step) (ss b a : List Step) → b ++ a ≡ s ∷ ss → (P [] → ⊥)
    → ((m : Position ss) → P (s ∷ m.before) → ⊥) → P b → ⊥
cons_before P s ss [] a e first later x = first x
cons_before P s ss (s₁ ∷ b) a e first later x =
    let here : s₁ ≡ s = cc in
    let rest : b ++ a ≡ ss = cc in
    later (record { before = b; after = a; splits = rest }) (subst (λ (y : Step). P (y ∷ b)) here x)

find : (P : List Step → Type 0) → ((s : List Step) → Dec (P s)) → (run : List Step)
    → Found P run ⊎ ((m : Position run) → P m.before → ⊥)
find P dec [] = elim (dec []) [
  | yes d ↦ inl (record { position = record { before = []; after = []; splits = refl }; holds = d })
  | no d ↦ inr (λ m x. d (subst P (nil_before m.before m.after m.splits) x))
]
find P dec (s ∷ ss) = go (dec []) (find (λ b. P (s ∷ b)) (λ b. dec (s ∷ b)) ss)
  where
    go : Dec (P []) → Found (λ b. P (s ∷ b)) ss ⊎ ((m : Position ss) → P (s ∷ m.before) → ⊥) → Found P (s ∷ ss) ⊎ ((m : Position (s ∷ ss)) → P m.before → ⊥)
    go (yes d) r = inl (record { position = record { before = []; after = s ∷ ss; splits = refl }; holds = d })
    go (no d) (inl f) = inl (record {
      position = record { before = s ∷ f.position.before; after = f.position.after; splits = ap (λ (l : List Step). s ∷ l) f.position.splits };
      holds = f.holds;
    })
    go (no d) (inr missing) = inr (λ m x. cons_before P s ss m.before m.after m.splits d missing x)

-- a run crosses the secret from a count on, or no position of it does
pub crossed? : (p : Automaton) (secret j : ℕ) (run : List Step)
    → Crossed p secret run j ⊎ ((m : Position run) → j ≤ count p m → In (state_at p m) secret → ⊥)
crossed? p secret j run = go (find Late (λ s. both (dec_le j (length (shown p s))) (in? (end_of p.initial s) secret)) run)
  where
    Late : List Step → Type 0
    Late s = (j ≤ length (shown p s)) × In (end_of p.initial s) secret

    go : Found Late run ⊎ ((m : Position run) → Late m.before → ⊥) → Crossed p secret run j
        ⊎ ((m : Position run) → j ≤ count p m → In (state_at p m) secret → ⊥)
    go (inl f) = inl (record { position = f.position; late = f.holds.0; inside = f.holds.1 })
    go (inr missing) = inr (λ m late bad. missing m (late, bad))

clear? : (notion : Notion) (p : Automaton) (secret : Secret) (trace : List ℕ) (j : ℕ) → j ≤ length trace → Dec (Clear notion p secret trace j)
clear? Weak p secret trace j h = clear_at? p secret.states trace j h
clear? Strong p secret trace j h = clear_from? p secret.states trace j

-- where no run excuses the system, the reader is sure
pub unclear_sure : (notion : Notion) (p : Automaton) (secret : Secret) (trace : List ℕ) (j : ℕ) → (Clear notion p secret trace j → ⊥)
    → Sure notion p secret trace j
unclear_sure Weak p secret trace j never = λ run f m c. elim (in? (state_at p m) secret.states) [
  | yes bad ↦ bad
  | no good ↦ absurd (never (record { run = run; compatible = f; position = m; here = c; outside = good }))
]
unclear_sure Strong p secret trace j never = λ run f. go run f (crossed? p secret.states j run)
  where
    go : (run : List Step) → Compatible p trace run → Crossed p secret.states run j
        ⊎ ((m : Position run) → j ≤ count p m → In (state_at p m) secret.states → ⊥) → Crossed p secret.states run j
    go run f (inl x) = x
    go run f (inr out) = absurd (never (record { run = run; compatible = f; outside = out }))

module _ (notion : Notion) (p : Automaton) (secret : Secret) (trace : List ℕ) where
  -- the steps from 0 upward: a leak among the first k, or none of them is one
  search_back : (k : ℕ) → k ≤ suc secret.k → k ≤ suc (length trace) → ((l : ℕ) × Tells notion p secret trace (leak l)) ⊎ NoLeakBelow notion p secret trace k
  search_back zero low near = inr (below_start notion p secret trace)
  search_back (suc k) low near = go (search_back k (omega arith) (omega arith))
    where
      take_up : NoLeakBelow notion p secret trace k → Dec (Clear notion p secret trace (length trace - k))
          → ((l : ℕ) × Tells notion p secret trace (leak l)) ⊎ NoLeakBelow notion p secret trace (suc k)
      take_up x (yes c) = inr (λ m less. below_step notion p secret trace k x c m (omega arith))
      take_up x (no never) = inl (
        k,
        record {
          within = omega arith;
          reached = omega arith;
          sure = unclear_sure notion p secret trace (length trace - k) never;
          least = x;
        },
      )

      go : ((l : ℕ) × Tells notion p secret trace (leak l)) ⊎ NoLeakBelow notion p secret trace k
          → ((l : ℕ) × Tells notion p secret trace (leak l)) ⊎ NoLeakBelow notion p secret trace (suc k)
      go (inl x) = inl x
      go (inr x) = take_up x (clear? notion p secret trace (length trace - k) (omega arith))

  -- each trace has a verdict
  pub every_verdict : (v : Steps) × Tells notion p secret trace v
  every_verdict = go (search_back (suc (min secret.k (length trace))) (omega arith) (omega arith))
    where
      go : ((l : ℕ) × Tells notion p secret trace (leak l)) ⊎ NoLeakBelow notion p secret trace (suc (min secret.k (length trace)))
          → (v : Steps) × Tells notion p secret trace v
      go (inl (l, x)) = (leak l, x)
      go (inr x) = (none, λ l low short. x l (omega arith))

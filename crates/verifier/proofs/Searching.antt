-- What a search over the steps back has found so far, step by step. Assumes nothing.
use mathlib.Core.Path.{◌≡◌}
use mathlib.Core.List.{List}
use Prim.Native.Nat.{ℕ, ◌+◌, ◌≤◌, ◌-◌}
use lib.Bits.{bit_and}
use lib.ListN.{length}
use Rattle.automaton.specs.Run.{Automaton}
use Rattle.opacity.specs.declared.Notion.{Notion}
use Rattle.opacity.specs.declared.Secret.{Secret}
use Rattle.opacity.specs.declared.Verdict.{Verdict}
use Rattle.opacity.specs.declared.Verdict.TheVariants.{NoLeak, Leak}
use Rattle.opacity.specs.Verdicts.{leak, steps_of, Bounded, Sure, Clear, NoLeakBelow, Tells}
use Rattle.opacity.proofs.Exactness.{below_step, below_leak, below_last}
use Rattle.verifier.specs.Inner.{WithStep, stays, leaks, clears}

-- what a search over the steps below l has found: no leak among them, or the least one
abbrev pub Searched : Notion → Automaton → Secret → List ℕ → (l : ℕ) → Verdict → Type 0
Searched notion p secret trace l NoLeak = NoLeakBelow notion p secret trace l
Searched notion p secret trace l (Leak m) = Tells notion p secret trace (leak m)

module _ (notion : Notion) (p : Automaton) (secret : Secret) (trace : List ℕ) where
  -- one step more, by what is tested at it
  pub searched_step : (l entry then : ℕ) (v w : Verdict) → WithStep entry then l v w → l ≤ secret.k → secret.k ≤ length trace
      → (bit_and entry then ≡ 0 → Sure notion p secret trace (length trace - l))
      → ((bit_and entry then ≡ 0 → ⊥) → Clear notion p secret trace (length trace - l))
      → Searched notion p secret trace l v → Searched notion p secret trace (l + 1) w
  searched_step l entry then v w stays h r sure clear x = x
  searched_step l entry then v w (leaks z) h r sure clear x = below_leak notion p secret trace l h r x (sure z)
  searched_step l entry then v w (clears n) h r sure clear x = below_step notion p secret trace l x (clear n)

  -- past the last step
  pub searched_end : (l : ℕ) (v : Verdict) → secret.k ≤ l → Searched notion p secret trace (l + 1) v → Tells notion p secret trace (steps_of v)
  searched_end l NoLeak h x = below_last notion p secret trace l h x
  searched_end l (Leak m) h x = x

pub searched_bounded : {l entry then last : ℕ} {v w : Verdict} → WithStep entry then l v w → l ≤ last → Bounded last (steps_of v) → Bounded last (steps_of w)
searched_bounded stays h b = b
searched_bounded (leaks z) h b = h
searched_bounded (clears n) h b = tt

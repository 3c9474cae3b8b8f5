-- For a secret at an arbitrary place: what was found of the steps below l (`Searched`), and the states that the last l events can follow (`Follows`).
use Rattle.std.proofs.Common.{◌≡◌, List, ℕ, ◌^◌, ◌<◌}
use Rattle.std.specs.Int.Bits.{bit_and}
use Rattle.stateset.specs.Set.{complement}
use Rattle.relation.specs.Relation.{set_at}
use Rattle.opacity.specs.declared.Notion.TheVariants.{Strong}
use Rattle.opacity.specs.Secrets.{secret_of}
use Rattle.opacity.specs.Verdicts.{steps_of, Bounded}
use Rattle.verifier.specs.Inner.{verdict_at}
use Rattle.estimates.specs.StepsBack.{Follows, looked_at, LooksAt}
use Rattle.verifier.proofs.Searching.{Searched}
use Rattle.verifier.proofs.several.strong_verdicts.Given as goal

abbrev pub invariant-loop-l : goal.invariant-loop-l
invariant-loop-l v = record {
  each : (i secret : ℕ) → i < 4 → secret < 2 ^ 64 → set_at v.clear i ≡ bit_and v.look_back.states (complement secret)
      → (set_at v.then i < 2 ^ 64) × ((trace : List ℕ) → LooksAt v.look_back v.last trace
      → Searched Strong (looked_at v.look_back) (secret_of secret v.last) trace v.l (verdict_at v.found i)
      × Follows (looked_at v.look_back) (set_at v.clear i) trace v.l (set_at v.then i));
  bounded : (i : ℕ) → i < 4 → Bounded v.last (steps_of (verdict_at v.found i));
}

-- What a line says: `no alibi` exactly where there is no run. Assumes nothing.
use mathlib.Core.Path.{◌≡◌, refl}
use mathlib.Core.List.{List}
use mathlib.Core.Logic.{◌↔◌}
use Prim.Native.Nat.{ℕ}
use Rattle.automaton.specs.Run.{Step}
use Rattle.opacity.specs.declared.Notion.{Notion}
use Rattle.witness.specs.Witnesses.{bytes_of}
use Rattle.report.specs.Witnesses.{no_witness_line}
use Rattle.report.proofs.Pairing.{lines_apart}
use Rattle.witness_log.specs.WitnessOutput.{LineOf, a_run, no_run}

pub no_alibi_exactly : {W : (start : ℕ) → List Step → Type 0} {notion : Notion} {k : ℕ} {text : List ℕ} → LineOf W notion k text
    → (text ≡ no_witness_line notion k) ↔ ((start : ℕ) (steps : List Step) → W start steps → ⊥)
no_alibi_exactly {notion = notion} {k = k} (a_run {start = start} {steps = steps} w) =
    ((λ e. absurd (lines_apart notion k start (bytes_of steps) e)), (λ never. absurd (never start steps w)))
no_alibi_exactly (no_run never) = ((λ e. never), (λ n. refl))

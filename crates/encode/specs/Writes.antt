-- What a step of the writer leaves: in its output, and where it stands.
use Rattle.std.specs.Prelude.{ℕ, ◌+◌, ◌≡◌, List, length}
use Rattle.encode.specs.declared.Writer.{Writer}
use Rattle.encode.specs.Wrote.{Wrote}

-- in the same output these bits were written where the writer stood, and it stands behind them
pub record Writes (bits : List ℕ) (before after : Writer) : Type 0 where
  pub same : after.output.ghost_name ≡ before.output.ghost_name
  pub next : after.at ≡ before.at + length bits
  pub wrote : Wrote bits before.at before.output.now after.output.now

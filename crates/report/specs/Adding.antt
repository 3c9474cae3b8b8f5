-- What a step of the writer leaves: in its output, and where it stands.
use Rattle.std.specs.Prelude.{ℕ, ◌≡◌, List}
use Rattle.report.specs.declared.Writer.{Writer}
use Rattle.report.specs.Writing.{Wrote}

-- in the same output a part of a line was written where the writer stood, and it stands behind it
pub record Adds (most : ℕ) (text : List ℕ) (before after : Writer) : Type 0 where
  pub same : after.out.ghost_name ≡ before.out.ghost_name
  pub wrote : Wrote most before.out.now before.at text after.out.now after.at

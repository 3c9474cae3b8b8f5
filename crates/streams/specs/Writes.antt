-- The one line that a refused log leaves on an output. (No contract speaks of what a system call writes: that a written out line is out is tested.)
use Rattle.std.specs.Prelude.{List, ℕ, Option}
use Rattle.refusal.specs.declared.Refusal.{Refusal}
use Rattle.report.specs.Text.{refused_log}
use Rattle.report.specs.Writing.{room_for, Written}

-- the one line of a refused log, at the front of the output
pub record RefusalLine (r : Refusal) (out out' : List ℕ) : Type 0 where
  pub line : Option ℕ
  pub put : Written (room_for 0) out 0 (refused_log r) line out'

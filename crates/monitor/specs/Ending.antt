-- What `end` writes.
use Rattle.std.specs.Prelude.{List, [], ◌++◌, ℕ, zero, suc}
use Rattle.report.specs.Text.{idle_line, end_line}
use Rattle.monitor.specs.declared.Monitor.{Monitor}
use Rattle.verifier.specs.declared.Judgement.{Judgement}
use Rattle.opacity.specs.declared.Verdicts.{Verdicts}

-- where no event byte was offered, the line of an idle log; else nothing, also where every byte was refused
abbrev pub before_last : (offered : ℕ) → Judgement Verdicts → List ℕ
before_last zero opening = idle_line opening.verdicts.own.weak opening.verdicts.own.strong opening.size
before_last (suc n) opening = []

-- and the last line, behind it
abbrev pub last_lines : Monitor → List ℕ
last_lines m = before_last m.offered m.opening ++ end_line m.accepted m.released m.enforcer.count

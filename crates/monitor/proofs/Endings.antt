-- The last lines of a log, by how many event bytes were offered. Assumes nothing.
use mathlib.Core.Path.{◌≡◌, refl, sym, ap}
use mathlib.Core.List.{List, [], ◌++◌}
use Prim.Native.Nat.{ℕ, zero, suc, ◌<◌}
use native.Mathlib.Omega.{arith}
use Rattle.report.specs.Text.{idle_line, end_line}
use Rattle.monitor.specs.Ending.{before_last, last_lines}
use Rattle.monitor.specs.declared.Monitor.{Monitor}
use Rattle.verifier.specs.declared.Judgement.{Judgement}
use Rattle.opacity.specs.declared.Verdicts.{Verdicts}

not_idle : (n : ℕ) (j : Judgement Verdicts) → 0 < n → before_last n j ≡ []
not_idle zero j l = absurd (omega arith)
not_idle (suc n) j l = refl

-- none
pub with_none : (m : Monitor) → m.offered ≡ 0
    → idle_line m.opening.verdicts.own.weak m.opening.verdicts.own.strong m.opening.size ++ end_line m.accepted m.released
    m.enforcer.count ≡ last_lines m
with_none m e = ap (λ (n : ℕ). before_last n m.opening ++ end_line m.accepted m.released m.enforcer.count) (sym e)

-- some
pub with_some : (m : Monitor) → 0 < m.offered → end_line m.accepted m.released m.enforcer.count ≡ last_lines m
with_some m l = ap (λ (line : List ℕ). line ++ end_line m.accepted m.released m.enforcer.count) (sym (not_idle m.offered m.opening l))

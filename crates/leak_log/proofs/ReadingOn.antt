-- Laws of a log that has begun and is read on. Assumes nothing.
use mathlib.Core.Path.{◌≡◌, ap, ◌∙◌}
use mathlib.Core.List.{List}
use Prim.Native.Nat.{ℕ, ◌+◌, ◌-◌, ◌≤◌}
use native.Mathlib.Omega.{arith}
use lib.ListN.{length, take}
use lib.Seq.{length-take-le}
use Rattle.automaton.specs.declared.Header.{Header}
use Rattle.opacity.specs.declared.Notion.{Notion}
use Rattle.leaks.specs.declared.Search.{Search}
use Rattle.monitor.specs.Opening.{started}
use Rattle.leak_log.specs.Opens.{Opening}
use Rattle.leak_log.specs.Feeding.{Ran, Searches, ran}
use Rattle.leak_log.proofs.Beginnings.{started_begun, begun_none}

-- all event bytes that a log may have can follow
pub begun_takes : {notion : Notion} {log t : List ℕ} {h : Header} {s : Search} {n : ℕ} → Opening notion log (started n) t h s
    → s.accepted + 4294967295 ≤ 4294967295
begun_takes o = omega (arith, begun_none (started_begun o))

-- a log whose first bytes were gathered
pub runs : (input : List ℕ) {notion : Notion} {n size : ℕ} {out out' : List ℕ} {over : ℕ} → n ≤ length input → n ≤ size
    → Ran notion (take (n - 0) input) out (size - n) out' over → Searches notion size out over out'
runs input {n = n} h few r = let z : n - 0 ≡ n = omega arith in ran (ap (λ (k : ℕ). length (take k input)) z ∙ length-take-le n input h) few r

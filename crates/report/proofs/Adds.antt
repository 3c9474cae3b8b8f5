-- Laws of `Adds`: one step behind another, and a text said in another way.
use Prim.Native.Nat.{ℕ, ◌+◌, ◌≤◌}
use mathlib.Core.Path.{◌≡◌, refl, ◌∙◌}
use mathlib.Core.List.{List, [], ◌++◌}
use lib.ListN.{length}
use Rattle.report.specs.declared.Writer.{Writer}
use Rattle.report.specs.Adding.{Adds}
use Rattle.report.specs.Writing.{Written}
use Rattle.std.specs.Prelude.{Some}
use Rattle.report.proofs.Laws.{then, none, same, fit, entered}

pub adds_then : {m n : ℕ} {xs ys : List ℕ} {a b c : Writer} → Adds m xs a b → Adds n ys b c → Adds (m + n) (xs ++ ys) a c
adds_then p q = record { same = q.same ∙ p.same; wrote = then p.wrote q.wrote }

pub adds_same : {m n : ℕ} {xs ys : List ℕ} {a b : Writer} → xs ≡ ys → m ≤ n → Adds m xs a b → Adds n ys a b
adds_same e h p = record { same = p.same; wrote = same e h p.wrote }

pub adds_fit : {m n : ℕ} {xs ys : List ℕ} {a b : Writer} → xs ≡ ys → length ys ≤ n → Adds m xs a b → Adds n ys a b
adds_fit e h p = record { same = p.same; wrote = fit e h p.wrote }

pub adds_none : {w : Writer} → Adds 0 [] w w
adds_none = record { same = refl; wrote = none }

-- the whole line, in the output that was lent
pub finished : {room : ℕ} {text : List ℕ} {a b : Writer} → a.at + room ≤ length a.out.now → Adds room text a b
    → (b.out.ghost_name ≡ a.out.ghost_name) × Written room a.out.now a.at text (Some b.at) b.out.now
finished h w = (w.same, entered h w.wrote)

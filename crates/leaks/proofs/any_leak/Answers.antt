-- Each test decides one of the verdicts.
use Rattle.std.proofs.Common.{◌≡◌, Bool, true, false, sym, ◌∙◌}
use Rattle.stateset.specs.Set.{Decided}
use Rattle.stateset.proofs.Decides.{holds, fails, decided_as}
use Rattle.leaks.proofs.Leaking.{leak_among, last_among}
use Rattle.leaks.proofs.any_leak.Goals as goal
use Rattle.leaks.proofs.any_leak.Goals.{then-is_leak, else-is_leak, then-is_leak-2, else-is_leak-2}

yes : {A : Type 0} (b : Bool) → b ≡ true → A → Decided b A
yes true e a = a
yes false e a = cc

-- one of the first three is a leak
pub returns-then-is_leak-3 : goal.returns-then-is_leak-3
returns-then-is_leak-3 c =
    yes c.if-is_leak-2.value c.if-is_leak-3.true
    (elim c.if-is_leak-2.branch [
      | then-is_leak-2 w ↦ elim c.if-is_leak.branch [
        | then-is_leak u ↦ leak_among _ 0 (holds c.is_leak.result u.if-is_leak.true c.is_leak.ensures)
        | else-is_leak u ↦
            leak_among _ 1 (holds u.is_leak-else-is_leak.result (sym u.value-is ∙ w.if-is_leak-2.true) u.is_leak-else-is_leak.ensures)
      ]
      | else-is_leak-2 w ↦
          leak_among _ 2 (holds w.is_leak-else-is_leak-2.result (sym w.value-is ∙ c.if-is_leak-3.true) w.is_leak-else-is_leak-2.ensures)
    ])

-- the last decides, where none of these is
pub returns-else-is_leak-3 : goal.returns-else-is_leak-3
returns-else-is_leak-3 c =
    elim c.if-is_leak-2.branch [
      | then-is_leak-2 w ↦ cc
      | else-is_leak-2 w ↦ elim c.if-is_leak.branch [
        | then-is_leak u ↦ cc
        | else-is_leak u ↦
            decided_as c.is_leak-else-is_leak-3.result (leak_among _ 3)
            (last_among _
            (fails c.is_leak.result u.if-is_leak.false c.is_leak.ensures)
            (fails u.is_leak-else-is_leak.result (sym u.value-is ∙ w.if-is_leak-2.false) u.is_leak-else-is_leak.ensures)
            (fails w.is_leak-else-is_leak-2.result (sym w.value-is ∙ c.if-is_leak-3.false) w.is_leak-else-is_leak-2.ensures))
            c.is_leak-else-is_leak-3.ensures
      ]
    ]

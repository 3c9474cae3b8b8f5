use Rattle.std.proofs.Common.{ℕ, List, ◌+◌, ◌-◌, ◌≤◌, length, take, drop, length-take, refl, ◌∙◌, ◌≡◌, arith, rules}
use Rattle.log_output.specs.declared.Status.TheVariants.{Going}
use Rattle.log_output.proofs.Keeping.{along_start, along_next, along_closed, along_full}
use Rattle.log_output.proofs.following.follow.Goals as goal

-- the bytes that were taken are among those of the read
part_within : (l : List ℕ) (i n : ℕ) → i ≤ length l → n ≤ length (take (length l - i) (drop i l)) → i + n ≤ length l
part_within l i n h k = omega (arith, length-take (length l - i) (drop i l))

pub loop-i-init : goal.loop-i-init
loop-i-init g c =
    let a = c.args in
    (omega arith, refl, along_start a.table.now a.header a.progress a.events.now a.out.now)

pub returns-then-ne : goal.returns-then-ne
returns-then-ne g c =
    let a = c.args in
    let stopped : c.with_room-now.result.status ≡ Going → ⊥ = search rules in
    λ u. along_closed a.table.now a.header a.progress a.events.now a.out.now (c.loop-i.invariant.2 u) c.loop-i.invariant.0
    c.with_room-now.ensures
    stopped

pub returns-then-taken-eq0 : goal.returns-then-taken-eq0
returns-then-taken-eq0 g c =
    let a = c.args in
    let going : c.with_room-now.result.status ≡ Going = search rules in
    λ u. along_full a.table.now a.header a.progress a.events.now a.out.now (c.loop-i.invariant.2 u) c.with_room-now.ensures
    going c.loop-i-test.true
    c.advance-part.ensures.parted c.if-taken-eq0.true refl

pub loop-i-preserved : goal.loop-i-preserved
loop-i-preserved g c =
    let a = c.args in
    let going : c.with_room-now.result.status ≡ Going = search rules in
    let l = c.loop-i in (
      part_within a.events.now l.i c.advance-part.result.taken l.invariant.0 c.advance-part.ensures.taken_in_bounds,
      c.advance-part.auto.out ∙ l.invariant.1,
      λ u. along_next a.table.now a.header a.progress a.events.now a.out.now (l.invariant.2 u) c.with_room-now.ensures
          going l.invariant.0 c.advance-part.ensures.parted,
    )

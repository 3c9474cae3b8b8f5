use Rattle.std.proofs.Common.{◌≡◌, arith, rules}
use Rattle.log_output.specs.declared.Status.TheVariants.{Going}
use Rattle.log_output.proofs.ReadingOn.{so_more, fed_stopped, fed_last}
use Rattle.log_output.proofs.all.Goals as goal

pub returns-then-ne : goal.returns-then-ne
returns-then-ne g c =
    let stopped : c.loop-header.now.status ≡ Going → ⊥ = search rules in
    fed_stopped c.loop-header.invariant.3 stopped

pub returns-then-brought-eq0 : goal.returns-then-brought-eq0
returns-then-brought-eq0 g c =
    let going : c.loop-header.now.status ≡ Going = search rules in
    fed_last c.loop-header.invariant.3 going c.turn-one.ensures (omega (arith, c.if-brought-eq0.true))

pub loop-header-preserved : goal.loop-header-preserved
loop-header-preserved g c =
    let going : c.loop-header.now.status ≡ Going = search rules in
    let so = c.loop-header.invariant in (
      search rules,
      search rules,
      omega (arith, so.2),
      so_more so.3 going c.turn-one.ensures (λ e. omega (arith, c.if-brought-eq0.false)),
    )

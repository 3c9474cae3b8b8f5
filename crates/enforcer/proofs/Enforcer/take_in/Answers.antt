-- The law `took_in`, with what each callee ensures.
use Rattle.std.proofs.Common.{refl, rules}
use Rattle.enforcer.proofs.TakingIn.{took_in}
use Rattle.enforcer.proofs.Enforcer.take_in.Goals as goal

pub returns : goal.returns
returns c =
    let a = c.args in
    let symbols = c.joined-symbols in
    let pending = c.rest in
    let waits = c.rest-2 in
    let soon = c.nearer-soon in (
      took_in a.k a.self a.estimator a.w a.byte a.output.now c.ready-f.result
          symbols.result soon.result pending.result waits.result c.write_front.new.output
          (search rules) symbols.ensures.0 pending.ensures.0 waits.ensures.0 c.requires.0 c.requires.1
          symbols.ensures.1 symbols.ensures.2 soon.ensures.1 soon.ensures.2
          c.ready-f.ensures c.write_front.ensures pending.ensures.1 waits.ensures.1,
      refl,
    )

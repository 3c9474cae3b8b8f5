-- `enforcer::wait_at` meets its contract, for an arbitrary number.
use mathlib.Core.Path.{ap, ◌∙◌}
use Prim.Native.Nat.{◌<◌}
use native.Mathlib.Omega.{arith}
use borrow.Author.Rules.{rules}
use lib.ListN.{length}
use Rattle.opacity.specs.declared.Secret.{Secret}
use Rattle.opacity.specs.Secrets.{secrets_of}
use Rattle.opacity.specs.Verdicts.{steps_of}
use Rattle.opacity.proofs.Numbering.{how_many, how_many_most, secret_back, look_back_small}
use Rattle.enforcer.specs.Waits.{wait_of}
use Rattle.enforcer.proofs.ForAll.{no_wait}
use Rattle.enforcer.proofs.wait_at.Statement.{statement}
use Rattle.enforcer.proofs.wait_at.Tie as tie

-- it is given
given : (u : tie.Else-further-i) → u.args.i < length (secrets_of u.args.header u.args.further)
given u = omega (arith, u.if-further-i.false, how_many u.args.header u.args.further u.requires.1.few)

returns : tie.Need-returns-then-further-i
returns c =
    let a = c.args in
    no_wait (secrets_of a.header a.further) a.i _ (omega (arith, c.if-further-i.true, how_many_most a.header a.further))

secret-at-requires : tie.Need-secret_at-secret-requires
secret-at-requires c κs = search rules

wait-requires : tie.Need-wait-requires
wait-requires c κs =
    let low = secret_back c.args.header c.args.further c.args.i (given c.before) in
    let small = look_back_small c.args.header c.args.further c.requires.0 c.requires.1 in
    omega (arith, ap (λ (x : Secret). x.k) c.secret_at-secret.ensures, low, small)

returns-2 : tie.Need-returns
returns-2 c =
    record {
      given = λ g. c.wait.ensures ∙ ap (λ (x : Secret). wait_of x.k (steps_of c.args.verdict)) c.secret_at-secret.ensures;
      other = λ o. absurd (omega (arith, given c.before.before, o));
    }

pub wait_at_spec : {M : Type 1} → statement M
wait_at_spec = tie.close (tie.spec returns secret-at-requires wait-requires returns-2)

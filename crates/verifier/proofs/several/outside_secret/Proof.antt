-- `verifier::several::outside_secret` meets its contract.
use mathlib.Core.Path.{refl, ap, subst}
use Prim.Native.Nat.{◌^◌, ◌<◌}
use native.Mathlib.Omega.{arith}
use borrow.Author.Rules.{rules}
use lib.Bits.{bit_and}
use Rattle.stateset.specs.Set.{complement}
use Rattle.opacity.specs.declared.Secret.{Secret}
use Rattle.verifier.proofs.several.outside_secret.Statement.{statement}
use Rattle.verifier.proofs.several.outside_secret.Tie as tie

returns : tie.Need-returns-then-further-i
returns c = (λ past. refl, λ given. absurd (omega (arith, c.if-further-i.true)))

secret-at-requires : tie.Need-secret_at-secret-requires
secret-at-requires c κs = search rules

returns-2 : tie.Need-returns
returns-2 c = (
  λ past. absurd (omega (arith, c.if-further-i.false)),
  λ given. (
    subst (λ (x : Secret). x.states < 2 ^ 64) c.secret_at-secret.ensures (search rules),
    ap (λ (x : Secret). bit_and c.args.states (complement x.states)) c.secret_at-secret.ensures,
  ),
)

pub outside_secret_spec : {M : Type 1} → statement M
outside_secret_spec = tie.close (tie.spec returns secret-at-requires returns-2)

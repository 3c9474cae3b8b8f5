-- `explore::with_waits` meets its contract.
use mathlib.Core.Path.{subst}
use Prim.Native.Nat.{ℕ}
use borrow.Author.Rules.{rules}
use Rattle.opacity.specs.Secrets.{secrets_of}
use Rattle.verifier.specs.Replies.{steps_each}
use Rattle.enforcer.specs.Waits.{LargestWait}
use Rattle.explore.proofs.with_waits.Statement.{statement}
use Rattle.explore.proofs.with_waits.Tie as tie
use Rattle.verifier.specs.declared.EachSecret.{EachSecret}
use Rattle.opacity.specs.declared.Verdict.{Verdict}

choose-each-requires : tie.Need-choose_each-weak-requires
choose-each-requires c κs = search rules

choose-each-requires-2 : tie.Need-choose_each-strong-requires
choose-each-requires-2 c κs = search rules

largest-wait-requires : tie.Need-largest_wait-weak_wait-requires
largest-wait-requires c κs = search rules

largest-wait-requires-2 : tie.Need-largest_wait-strong_wait-requires
largest-wait-requires-2 c κs = search rules

remembered-of-requires : tie.Need-remembered_of-remembered-requires
remembered-of-requires c κs = search rules

returns : tie.Need-returns
returns c =
    let a = c.args in
    let Largest : EachSecret Verdict → ℕ → Type 0 = λ v w. LargestWait (secrets_of a.header a.further) (steps_each a.further v) w in (
      c.remembered_of-remembered.ensures,
      subst (λ (v : EachSecret Verdict). Largest v c.largest_wait-weak_wait.result) c.choose_each-weak.ensures c.largest_wait-weak_wait.ensures,
      subst (λ (v : EachSecret Verdict). Largest v c.largest_wait-strong_wait.result) c.choose_each-strong.ensures c.largest_wait-strong_wait.ensures,
    )

pub with_waits_spec : {M : Type 1} → statement M
with_waits_spec =
    tie.close
    (tie.spec
    choose-each-requires
    choose-each-requires-2
    largest-wait-requires
    largest-wait-requires-2
    remembered-of-requires
    returns)

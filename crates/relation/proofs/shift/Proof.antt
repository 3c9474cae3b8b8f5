-- `relation::shift` meets its contract: the test says whether the row and the set share a state. Assumes nothing.
use mathlib.Core.Path.{sym, subst}
use mathlib.Core.Logic.{inl, ⊎_elim}
use Prim.Native.Nat.{ℕ}
use native.Mathlib.Omega.{arith}
use Rattle.stateset.specs.Set.{In}
use Rattle.stateset.proofs.Bits.{bit_0, in_one, meet, meet_none}
use Rattle.relation.proofs.Words.{or_is, moved_is}
use Rattle.relation.proofs.shift.Statement.{statement}
use Rattle.relation.proofs.shift.Tie as tie

returns : tie.Need-returns-then-row-set-ne0
returns c =
    let m = meet c.args.row c.args.set c.ranges.set.fits c.if-row-set-ne0.true in
    or_is _ 1 (moved_is 1 c.args.r)
    (record { sound = λ p i. (in_one p 0 (omega arith) i, (m.0, m.2, m.1)); whole = λ p x. subst (λ (y : ℕ). In y 1) (sym x.0) (bit_0 1) })

returns-2 : tie.Need-returns
returns-2 c =
    let s = c.args in
    let up = moved_is 1 s.r in
    record {
      sound = λ p i. inl (up.sound p i);
      whole = λ p m. ⊎_elim (up.whole p) (λ x. absurd (meet_none s.row s.set x.1.0 c.if-row-set-ne0.false x.1.2 x.1.1)) m;
    }

pub shift_spec : {M : Type 1} → statement M
shift_spec = tie.close (tie.spec returns returns-2)

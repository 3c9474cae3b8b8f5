use Rattle.std.proofs.Common.{Bool, true, false, List, ℕ, Ok, Some, sym, subst}
use Rattle.stateset.specs.Set.{Decided}
use Rattle.stateset.proofs.Decides.{holds, fails}
use Rattle.automaton.specs.Run.{automaton_of}
use Rattle.automaton.specs.declared.Header.{Header}
use Rattle.opacity.specs.declared.Notion.{Notion}
use Rattle.verifier.specs.declared.Estimator.{Estimator}
use Rattle.witness.specs.Witnesses.{WitnessIn}
use Rattle.witness.specs.Answers.{Pairs, Usable, CheckingIn, Checking, says}
use Rattle.witness.specs.Inner.{Reaching}
use Rattle.witness.proofs.check_witness.Goals as goal

-- what the run that was judged says of the secret with the number
judged : (t : List ℕ) (h : Header) (s : Estimator) (notion : Notion) (number k start : ℕ) (bytes : List ℕ) (states : ℕ) → Usable t h s
    → Reaching h s number k (Some states) → (yes : Bool) → Decided yes (Pairs (WitnessIn notion (automaton_of t h) states s k start) bytes)
    → CheckingIn t h s notion number k start bytes (says (Ok yes))
judged t h s notion number k start bytes states ok within true x =
    Checking.valid ok within.0 (subst (λ (w : ℕ). Pairs (WitnessIn notion (automaton_of t h) w s k start) bytes) within.1 x)
judged t h s notion number k start bytes states ok within false n =
    Checking.invalid ok (λ x. n (subst (λ (w : ℕ). Pairs (WitnessIn notion (automaton_of t h) w s k start) bytes) (sym within.1) x.1))

pub returns-then-not-well_formed : goal.returns-then-not-well_formed
returns-then-not-well_formed c = Checking.malformed (fails c.well_formed-2.result c.if-not-well_formed.true c.well_formed-2.ensures)

pub secret_within-requires : goal.secret_within-requires
secret_within-requires c = (holds c.well_formed-2.result c.if-not-well_formed.false c.well_formed-2.ensures).1

pub returns-in_default : goal.returns-in_default
returns-in_default c = Checking.invalid c.if-not-well_formed.ensures (λ x. c.in_default.ensures x.0)

pub is_witness-requires : goal.is_witness-requires
is_witness-requires c =
    let ok = c.if-not-well_formed.ensures in
    (ok.0, ok.1, c.in-Some.ensures.0.reached)

pub returns : goal.returns
returns c =
    let a = c.args in
    judged a.table.now a.header a.estimator a.notion a.number a.k a.start a.pairs.now c.in-Some.secret c.if-not-well_formed.ensures c.in-Some.ensures
    c.is_witness.result c.is_witness.ensures

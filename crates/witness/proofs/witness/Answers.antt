use Rattle.std.proofs.Common.{List, ℕ, ◌≤◌, length, Some, subst}
use Rattle.stateset.proofs.Decides.{holds, fails}
use Rattle.automaton.specs.Run.{automaton_of}
use Rattle.automaton.specs.declared.Header.{Header}
use Rattle.opacity.specs.declared.Notion.{Notion}
use Rattle.verifier.specs.declared.Estimator.{Estimator}
use Rattle.witness.specs.Witnesses.{WitnessIn}
use Rattle.witness.specs.Answers.{Told, Usable, Written, Writing, too_far, too_small, looked_for, WritingIn}
use Rattle.witness.specs.Inner.{Reaching}
use Rattle.witness.proofs.witness.Goals as goal

-- what was written of the set that was found is so of the secret with the number
written_so : (t : List ℕ) (h : Header) (s : Estimator) (notion : Notion) (number k : ℕ) (output : List ℕ) (states : ℕ) (said : Told) (after : List ℕ)
    → Usable t h s
    → Reaching h s number k (Some states) → 2172 ≤ length output → Written (WitnessIn notion (automaton_of t h) states s k) output said after
    → WritingIn t h s notion number k output said after
written_so t h s notion number k output states said after ok within room w =
    looked_for ok within.0 room (subst (λ (x : ℕ). Written (WitnessIn notion (automaton_of t h) x s k) output said after) within.1 w)

pub returns-then-not-well_formed : goal.returns-then-not-well_formed
returns-then-not-well_formed c = Writing.malformed (fails c.well_formed-2.result c.if-not-well_formed.true c.well_formed-2.ensures)

pub secret_within-requires : goal.secret_within-requires
secret_within-requires c = (holds c.well_formed-2.result c.if-not-well_formed.false c.well_formed-2.ensures).1

pub returns-in_default : goal.returns-in_default
returns-in_default c = too_far c.if-not-well_formed.ensures c.in_default.ensures

pub returns-then-output-lt-LEAST_OUTPUT : goal.returns-then-output-lt-LEAST_OUTPUT
returns-then-output-lt-LEAST_OUTPUT c = too_small c.if-not-well_formed.ensures c.in-Some.ensures.0 c.if-output-lt-LEAST_OUTPUT.true

pub write_witness-requires : goal.write_witness-requires
write_witness-requires c =
    let ok = c.if-not-well_formed.ensures in
    (ok.0, ok.1, c.in-Some.ensures.0.reached, c.if-output-lt-LEAST_OUTPUT.false)

pub returns : goal.returns
returns c =
    let a = c.args in
    written_so a.table.now a.header a.estimator a.notion a.number a.k a.output.now c.in-Some.secret _ _ c.if-not-well_formed.ensures c.in-Some.ensures
    c.if-output-lt-LEAST_OUTPUT.false c.write_witness.ensures

-- The candidates of this automaton are the runs that excuse the system.
use Rattle.std.proofs.Common.{arith}
use Rattle.opacity.proofs.Numbering.{look_back_small}
use Rattle.witness.proofs.Outcomes.{goes, candidate_written}
use Rattle.witness.proofs.writer.write_witness.Goals as goal

pub look_back-then-requires : goal.look_back-then-requires
look_back-then-requires c =
    let far = look_back_small c.args.header c.args.estimator.further c.requires.0.back c.requires.1.allowed in
    (omega (arith, far, c.requires.1.few, c.requires.2), (_, goes c.requires.0.words c.allowed_by.type_inv c.prepare.ensures))

pub write_run-requires : goal.write_run-requires
write_run-requires c =
    let far = look_back_small c.args.header c.args.estimator.further c.requires.0.back c.requires.1.allowed in
    let P = c.prepare.ensures in
    (omega (arith, far, c.requires.1.few, c.requires.2), (_, goes c.requires.0.words c.allowed_by.type_inv P, c.look_back-then.ensures _ (goes c.requires.0.words c.allowed_by.type_inv P)), c.requires.3)

pub returns : goal.returns
returns c =
    let e = c.word_at-entry in
    let P = c.prepare.ensures in
    candidate_written _ c.args.estimator c.args.notion _ _ c.ranges.secret.fits _ e.ensures.0 e.ensures.1 _
    c.allowed_by.ensures _ _ _
    (c.write_run.ensures _ (goes c.requires.0.words c.allowed_by.type_inv P) (c.look_back-then.ensures _ (goes c.requires.0.words c.allowed_by.type_inv P)))

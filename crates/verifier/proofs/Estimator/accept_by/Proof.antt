-- `Estimator::accept_by` meets its contract: its notion is asked for, and its verdict chosen.
use borrow.Author.Rules.{rules}
use Rattle.verifier.proofs.Judging.{asked_one}
use Rattle.verifier.proofs.Estimator.accept_by.Statement.{statement}
use Rattle.verifier.proofs.Estimator.accept_by.Tie as tie

ask-requires : tie.Need-ask-requires
ask-requires c κs = search rules

accept-asked-requires : tie.Need-accept_asked-reply-requires
accept-asked-requires c κs = search rules

choose-answer-requires : tie.Need-choose_answer-requires
choose-answer-requires c κs = search rules

returns : tie.Need-returns
returns c =
    rw c.choose_answer.ensures (asked_one _ _ _ _ _ _ c.accept_asked-reply.result.answer c.accept_asked-reply.result.estimator
    c.ask.ensures c.accept_asked-reply.ensures)

pub accept_by_spec : {M : Type 1} → statement M
accept_by_spec = tie.close (tie.spec ask-requires accept-asked-requires choose-answer-requires returns)

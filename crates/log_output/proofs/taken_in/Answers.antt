use Rattle.std.proofs.Common.{◌≡◌, List, ℕ, sym, subst}
use Rattle.automaton.specs.declared.Header.{Header}
use Rattle.streams.specs.declared.Fetched.{Fetched}
use Rattle.log_output.specs.declared.Progress.{Progress}
use Rattle.log_output.specs.declared.Reading.{Reading}
use Rattle.log_output.specs.Feeding.{TakenIn, followed_all, no_more, not_fetched}
use Rattle.log_output.proofs.ReadingOn.{whole_front}
use Rattle.log_output.proofs.taken_in.Goals as goal

by_cases : {t : List ℕ} {h : Header} {q : Progress} {out input : List ℕ} {f g : Fetched} {r : Reading} {out' : List ℕ} → f ≡ g
    → TakenIn t h q out input g r out' → TakenIn t h q out input f r out'
by_cases {t} {h} {q} {out} {input} {r = r} {out' = out'} e x = subst (λ (y : Fetched). TakenIn t h q out input y r out') (sym e) x

pub returns-in-Bytes : goal.returns-in-Bytes
returns-in-Bytes g c =
    by_cases c.in-Bytes.is (followed_all (whole_front c.in-Bytes.n c.args.input.now c.follow.ensures))

pub returns-in-End : goal.returns-in-End
returns-in-End g c = by_cases c.in-End.is (rw c.over.ensures no_more)

pub returns-in-Failed : goal.returns-in-Failed
returns-in-Failed g c = by_cases c.in-Failed.is (rw c.over-in-Failed.ensures not_fetched)

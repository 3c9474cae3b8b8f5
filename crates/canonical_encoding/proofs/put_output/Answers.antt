use Rattle.std.proofs.Common.{ℕ, Result, subst}
use Rattle.refusal.specs.declared.Refusal.{Refusal}
use Rattle.canonical.specs.Writing.{Writing, answer_means}
use Rattle.canonical_encoding.proofs.Standing.{form_stands, refusal_stands}
use Rattle.canonical_encoding.proofs.put_output.Goals as goal

pub returns-in-Ok : goal.returns-in-Ok
returns-in-Ok c =
    let a = c.args in
    let after = c.canonical.new.output in
    form_stands a.bytes.now a.out.now after c.in-Ok.n
    (subst (λ (r : Result ℕ Refusal). Writing a.bytes.now a.out.now (answer_means r) after) c.in-Ok.is c.canonical.ensures)

pub returns-in-Err : goal.returns-in-Err
returns-in-Err c =
    let a = c.args in
    let after = c.canonical.new.output in
    let line = c.refused_log in
    rw c.place.ensures (refusal_stands a.bytes.now a.out.now after c.in-Err.refusal line.result line.new.out c.requires
    (subst (λ (r : Result ℕ Refusal). Writing a.bytes.now a.out.now (answer_means r) after) c.in-Err.is c.canonical.ensures)
    line.ensures)

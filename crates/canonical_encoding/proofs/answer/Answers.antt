use Rattle.std.proofs.Common.{sym, subst}
use Rattle.streams.specs.declared.Gathered.{Gathered}
use Rattle.canonical_encoding.specs.Answering.{Answers, unread}
use Rattle.canonical_encoding.proofs.Standing.{ends, fills}
use Rattle.canonical_encoding.proofs.answer.Goals as goal

pub returns-in-Bytes : goal.returns-in-Bytes
returns-in-Bytes g c =
    let a = c.args in
    let written = c.write_output in
    fills a.input.now a.out.now c.in-Bytes.n written.result written.new.out a.gathered c.in-Bytes.is
    c.requires.0 c.requires.1 written.ensures

pub returns-in-All : goal.returns-in-All
returns-in-All g c =
    let a = c.args in
    let written = c.write_output-in-All in
    ends a.input.now a.out.now c.in-All.n written.result written.new.out a.gathered c.in-All.is
    c.requires.0 written.ensures

pub returns-in-Failed : goal.returns-in-Failed
returns-in-Failed g c =
    let a = c.args in
    subst (λ (x : Gathered). Answers a.input.now a.out.now x 0 a.out.now) (sym c.in-Failed.is) unread

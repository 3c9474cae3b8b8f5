use Rattle.std.proofs.Common.{subst}
use Rattle.opacity.specs.declared.Further.{Further}
use Rattle.leaks.specs.FirstLeaks.{said}
use Rattle.leaks.specs.Searches.{Beginning}
use Rattle.leak_log.specs.Opens.{begun}
use Rattle.leak_log.proofs.Beginnings.{never_refused}
use Rattle.leak_log.proofs.opening.start.Goals as goal

pub returns : goal.returns
returns c =
    let a = c.args in
    let called = c.begin-begun in
    begun (never_refused a.notion a.table a.header (said called.result.answer) called.result.search c.requires
    (subst (λ (f : Further). Beginning a.notion a.table a.header f (said called.result.answer) called.result.search)
    c.no_further-alone.ensures called.ensures))

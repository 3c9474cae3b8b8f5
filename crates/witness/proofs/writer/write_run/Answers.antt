-- Where no state of the entry set was found, no run exists, and else both walks are the run.
use Rattle.std.proofs.Common.{arith}
use Rattle.witness.specs.Answers.{no_run}
use Rattle.witness.proofs.Following.{closure_leads}
use Rattle.witness.proofs.Moving.{moved_size, moved_place}
use Rattle.witness.proofs.Starting.{no_start, some_start, clear_state, run_started}
use Rattle.witness.proofs.writer.write_run.Goals as goal

pub returns-then-starts-eq0 : goal.returns-then-starts-eq0
returns-then-starts-eq0 c = λ p P L.
    let fits = P.small in
    no_run (no_start p _ _ fits c.ranges.secret.fits _ _ (L c.args.k (omega arith)) _
    (closure_leads p _ P.prepared.silently.entered _ _ _ fits c.closure-reached.ensures) _ c.if-starts-eq0.true)

pub overflow_cast-start : goal.overflow_cast-start
overflow_cast-start c =
    let a = c.requires.1 in
    let fits = a.1.small in
    let x = some_start a.0 _ _ fits c.ranges.secret.fits _ _ (a.2 c.args.k (omega arith)) _
    (closure_leads a.0 _ a.1.prepared.silently.entered _ _ _ fits c.closure-reached.ensures) _ c.ranges.entry.fits c.if-starts-eq0.false (omega arith) in
    omega (arith, x.small)

pub silent_walk-clear-requires : goal.silent_walk-clear-requires
silent_walk-clear-requires c =
    let a = c.requires.1 in
    let fits = a.1.small in
    let x = some_start a.0 _ _ fits c.ranges.secret.fits _ _ (a.2 c.args.k (omega arith)) _
    (closure_leads a.0 _ a.1.prepared.silently.entered _ _ _ fits c.closure-reached.ensures) _ c.ranges.entry.fits c.if-starts-eq0.false (omega arith) in
    ((a.0, a.1, x.leads), omega (arith, c.requires.2))

pub follow_symbols-last-requires : goal.follow_symbols-last-requires
follow_symbols-last-requires c =
    let a = c.requires.1 in
    let fits = a.1.small in
    let w = c.silent_walk-clear in
    let m = w.ensures.0 a.0 a.1 in (
      c.requires.0,
      (a.0, a.1, a.2),
      (clear_state a.0 _ _ fits c.ranges.secret.fits _ _ (a.2 c.args.k (omega arith)) _
          (closure_leads a.0 _ a.1.prepared.silently.entered _ _ _ fits c.closure-reached.ensures) c.args.entry _ w.ensures.1).0,
      omega (arith, c.requires.0, c.requires.2, moved_size _ _ _ _ _ _ _ _ _ m, moved_place _ _ _ _ _ _ _ _ _ m),
    )

pub returns : goal.returns
returns c = λ p P L.
    let fits = P.small in
    let T = L c.args.k (omega arith) in
    let found = closure_leads p _ P.prepared.silently.entered _ _ _ fits c.closure-reached.ensures in
    let x = some_start p _ _ fits c.ranges.secret.fits _ _ T _ found _ c.ranges.entry.fits c.if-starts-eq0.false (omega arith) in
    let w = c.silent_walk-clear in
    let f = c.follow_symbols-last in
    run_started p _ _ fits c.ranges.secret.fits _ _ T _ found _ c.args.k _ _ _ _ w.result f.result
    c.requires.0 c.requires.2 x.inside x.leads (w.ensures.0 p P) w.ensures.1 (f.ensures p P L)

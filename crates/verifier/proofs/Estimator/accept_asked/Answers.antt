-- The tests in their order, the estimate after the symbol, and the verdicts of the look back from it.
use Rattle.std.proofs.Common.{ℕ, sym, subst, arith}
use Rattle.stateset.proofs.Decides.{holds, fails}
use Rattle.automaton.specs.Run.{automaton_of, WellFormed, Observable}
use Rattle.automaton.specs.Reaching.{Showing}
use Rattle.automaton.proofs.SymbolSets.{some_observable, none_observable, observable_small}
use Rattle.automaton.proofs.Entering.{known_none}
use Rattle.refusal.specs.declared.Refusal.TheVariants as refusal
use Rattle.estimates.proofs.Estimating.{some_left, none_left, reach_as, gained_part}
use Rattle.opacity.proofs.Numbering.{look_back_small}
use Rattle.verifier.specs.Estimators.{Limits, InLimits}
use Rattle.verifier.specs.Replies.{Accepting, not_observable, incompatible, Moved}
use Rattle.verifier.proofs.Judging.{grown_entry, limits_as, moved_by, judged_by, refused_asked}
use Rattle.verifier.proofs.Estimator.accept_asked.Goals as goal
use Rattle.verifier.proofs.Estimator.accept_asked.Goals.{Else-not-well_formed, After-events_with-shown, Else-shown-eq0}

-- the tests that were passed
ok : (c : Else-not-well_formed) → WellFormed c.args.table.now c.args.header × InLimits c.args.header c.args.self
ok c = holds c.well_formed-2.result c.if-not-well_formed.false c.well_formed-2.ensures

-- the events that show the symbol
showing : (c : After-events_with-shown) → WellFormed c.args.table.now c.args.header
    → Showing (automaton_of c.args.table.now c.args.header) c.args.symbol c.events_with-shown.result
showing c w = c.events_with-shown.ensures _ w.symbols_small (c.by_symbol.ensures c.args.table.now)

observed : (c : Else-shown-eq0) → Showing (automaton_of c.args.table.now c.args.header) c.args.symbol c.events_with-shown.result
    → Observable c.args.header c.args.symbol
observed c s = some_observable c.args.table.now c.args.header _ _ s (omega arith) c.if-shown-eq0.false

pub returns-then-not-well_formed : goal.returns-then-not-well_formed
returns-then-not-well_formed c =
    let r = c.refused.ensures in
    refused_asked _ _ _ _ _ refusal.Malformed _ r.0 r.1
    (Accepting.malformed (fails c.well_formed-2.result c.if-not-well_formed.true c.well_formed-2.ensures))

pub returns-then-shown-eq0 : goal.returns-then-shown-eq0
returns-then-shown-eq0 c =
    let x = goal.at.returns-then-shown-eq0 c in
    let r = c.refused-then-shown-eq0.ensures in
    let o = ok x.Else-not-well_formed in
    let a = c.args in
    refused_asked _ _ _ _ _ refusal.NotObservable _ r.0 r.1
    (not_observable o.0 o.1 (none_observable a.table.now a.header _ _ (showing x.After-events_with-shown o.0) c.if-shown-eq0.true))

pub silent_rows-near-requires : goal.silent_rows-near-requires
silent_rows-near-requires c = ((ok (goal.at.silent_rows-near-requires c).Else-not-well_formed).0.words, known_none _ _)

pub next_estimate-next-requires : goal.next_estimate-next-requires
next_estimate-next-requires c =
    let x = goal.at.next_estimate-next-requires c in
    let o = ok x.Else-not-well_formed in (
      o.0.words,
      o.0.start,
      λ e i. ((showing x.After-events_with-shown o.0).sound e i).0,
      gained_part _ _ _ _ _ (λ q i. c.entered-from.ensures 0 q (omega arith) i) c.silent_rows-near.ensures,
    )

pub returns-in_default : goal.returns-in_default
returns-in_default c =
    let x = goal.at.returns-in_default c in
    let r = c.refused-in_default.ensures in
    let o = ok x.Else-not-well_formed in
    let s = showing x.After-events_with-shown o.0 in
    refused_asked _ _ _ _ _ refusal.Incompatible _ r.0 r.1
    (incompatible o.0 o.1 (observed x.Else-shown-eq0 s)
    (λ trace g. none_left (c.next_estimate-next.ensures _ s) c.in_default.is trace (grown_entry _ _ trace _ g)))

pub push-after-requires : goal.push-after-requires
push-after-requires c =
    let x = goal.at.push-after-requires c in
    let o = ok x.Else-not-well_formed in
    let a = c.args in
    let K = c.look_back-k.ensures in (
      omega (arith, K, look_back_small a.header a.self.further o.0.back o.1.allowed),
      observable_small a.table.now _ _ o.0 (observed x.Else-shown-eq0 (showing x.After-events_with-shown o.0)),
      subst (λ (n : ℕ). Limits n a.self) (sym K) o.1,
    )

pub assess-judgement-requires : goal.assess-judgement-requires
assess-judgement-requires c =
    let x = goal.at.assess-judgement-requires c in
    let o = ok x.Else-not-well_formed in
    let e = (some_left (c.next_estimate-next.ensures _ (showing x.After-events_with-shown o.0)) c.in-Some.is).estimated in
    let after = c.push-after.ensures in
    record {
      well_formed = o.0;
      limits = limits_as c.args.header c.args.self _ _ c.look_back-k.ensures after.0 after.1;
      sets_are = c.by_symbol.ensures _;
      near = record {
        closed = e.closed;
        inside = after.3 _ e.new (λ l q h i. e.old q (c.silent_rows-near.ensures.more q (c.entered-from.ensures l q h i)));
      };
      reach = reach_as after.2 e.reach;
    }

pub returns : goal.returns
returns c =
    let x = goal.at.returns c in
    let a = c.args in
    let o = ok x.Else-not-well_formed in
    let s = showing x.After-events_with-shown o.0 in
    let e = some_left (c.next_estimate-next.ensures _ s) c.in-Some.is in
    let after = c.push-after.ensures in
    let moved : Moved a.table.now a.header a.self a.symbol c.assess-judgement.result.size c.push-after.result =
    moved_by _ _ _ _ _ _ _ _ _ _ o.0 o.1 (observed x.Else-shown-eq0 s) e c.assess-judgement.ensures.1 c.look_back-k.ensures after.0 after.1
    (λ trace g E y. after.4 _ trace g E y) in
    judged_by _ _ _ _ _ c.assess-judgement.result _ moved c.assess-judgement.ensures.0

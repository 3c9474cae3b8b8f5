-- `Enforcer::offer` meets its contract: the tests in their order, and the verdicts by the enforcer's notion.
use Rattle.std.specs.Prelude.{Result}
use mathlib.Core.Path.{subst}
use Prim.Native.Nat.{ℕ, ◌≤◌}
use native.Mathlib.Omega.{arith}
use lib.ListN.{get_or}
use Rattle.opacity.specs.Secrets.{ForEach, look_back_of}
use Rattle.opacity.specs.Verdicts.{none}
use Rattle.verifier.specs.Replies.{said_by, AcceptingBy, Moved, TellsBy}
use Rattle.verifier.proofs.Judging.{refused_of, accepted-of}
use Rattle.opacity.proofs.Numbering.{look_back_small}
use Rattle.enforcer.specs.Enforcers.{secrets_in}
use Rattle.verifier.specs.Replies.{steps_each}
use Rattle.enforcer.specs.Inner.{PendingWithin, Enqueues}
use Rattle.stateset.specs.Set.{Decided}
use Rattle.stateset.proofs.Decides.{holds, fails}
use Rattle.enforcer.specs.Offerings.{Offering, output_too_small}
use Rattle.refusal.specs.Refusals.{number_of}
use Rattle.refusal.specs.declared.Refusal.TheVariants as refusal
use Rattle.enforcer.proofs.Outcomes.{refused_given, refused_outcome, taken_outcome}
use Rattle.enforcer.proofs.TakingIn.{limits_joined}
use borrow.Author.Rules.{rules}
use Rattle.enforcer.proofs.Enforcer.offer.Statement.{statement}
use Rattle.enforcer.proofs.Enforcer.offer.Tie as tie
use Rattle.verifier.specs.declared.Judgement.{Judgement}
use Rattle.refusal.specs.declared.Refusal.{Refusal}
use Rattle.opacity.specs.declared.Verdict.{Verdict}

-- the second test decides whether the pending symbols are within their limits, by the largest K
pending_test : (u : tie.After-pending_within) → Decided u.pending_within.result
    (PendingWithin (look_back_of u.args.header u.args.self.estimator.further) u.args.self)
pending_test u =
    subst (λ (k : ℕ). Decided u.pending_within.result (PendingWithin k u.args.self)) u.look_back-k.ensures u.pending_within.ensures

-- past it they are
pending : (x : tie.Else-not-pending_within) → PendingWithin (look_back_of x.args.header x.args.self.estimator.further)
    x.args.self
pending x = holds x.pending_within.result x.if-not-pending_within.false (pending_test x.before)

-- and where the verifier has accepted the symbol, it has tested the rest
all : (x : tie.In-Ok) → Moved x.args.table.now x.args.header x.args.self.estimator x.args.byte
    x.in-Ok.judgement.size
    x.accept_by-reply.result.estimator
    × ForEach (secrets_in x.args.header x.args.self)
    (λ i c. TellsBy x.args.self.notion x.args.table.now x.args.header
    x.args.self.estimator x.args.byte c
    (get_or (steps_each x.args.self.estimator.further x.in-Ok.judgement.verdicts) i none))
all x =
    let a = x.args in
    accepted-of
    (subst (λ (y : Result (Judgement Verdict) Refusal). AcceptingBy a.self.notion a.table.now a.header a.self.estimator a.byte (said_by a.self.estimator.further y)
    x.accept_by-reply.result.estimator)
    x.in-Ok.is x.accept_by-reply.ensures.0)

-- so the largest K is at most 15
small : (x : tie.In-Ok) → look_back_of x.args.header x.args.self.estimator.further ≤ 15
small x = let m = (all x).0 in look_back_small x.args.header x.args.self.estimator.further m.well_formed.back m.limits.allowed

well-formed-requires : tie.Need-well_formed-requires
well-formed-requires c κs = search rules

refused-requires : tie.Need-refused-requires
refused-requires c κs = search rules

returns : tie.Need-returns-then-not-well_formed
returns c =
    let r = c.refused.ensures in
    let s = c.well_formed-then-output-lt17 in
    refused_given _ _ _ _ _ refusal.Malformed _ r.0 r.1 (Offering.malformed (fails s.result c.if-not-well_formed.true s.ensures))

refused-requires-2 : tie.Need-refused-requires-then-output-lt17
refused-requires-2 c κs = search rules

returns-2 : tie.Need-returns-then-output-lt17
returns-2 c =
    let r = c.refused-then-output-lt17.ensures in
    let s = c.well_formed-then-output-lt17 in
    let good = holds s.result c.if-not-well_formed.false s.ensures in
    refused_given _ _ _ _ _ refusal.OutputTooSmall _ r.0 r.1 (output_too_small good.0 good.1 c.if-output-lt17.true)

look-back-requires : tie.Need-look_back-k-requires
look-back-requires c κs = search rules

pending-within-requires : tie.Need-pending_within-requires
pending-within-requires c κs = search rules

refused-requires-3 : tie.Need-refused-requires-then-not-pending_within
refused-requires-3 c κs = search rules

returns-3 : tie.Need-returns-then-not-pending_within
returns-3 c =
    let r = c.refused-then-not-pending_within.ensures in
    let bad = fails c.pending_within.result c.if-not-pending_within.true (pending_test c.before.before) in
    refused_given _ _ _ _ _ refusal.Malformed _ r.0 r.1 (Offering.malformed (λ both. bad (record { few = both.1.few; small = both.1.small })))

accept-by-requires : tie.Need-accept_by-reply-requires
accept-by-requires c κs = search rules

enum-known-answer : tie.Need-enum_known-answer
enum-known-answer c = search rules

enum-known-answer-2 : tie.Need-enum_known-answer-in-Ok-1
enum-known-answer-2 c = search rules

largest-wait-requires : tie.Need-largest_wait-w-requires
largest-wait-requires c κs = let m = (all c.before.before).0 in (m.well_formed.back, m.limits.allowed)

take-in-requires : tie.Need-take_in-requires
take-in-requires c κs =
    let k = c.look_back-k.ensures in
    (omega (arith, k, small c.before.before.before.before), omega (arith, k, (pending c.before.before.before.before.before.before).few), c.if-output-lt17.false)

refused-requires-4 : tie.Need-refused-requires-in-Err
refused-requires-4 c κs = search rules

returns-4 : tie.Need-returns-in-Err
returns-4 c =
    let r = c.refused-in-Err.ensures in
    let a = c.args in
    refused_given _ _ _ _ _ c.in-Err.refusal _ r.0 r.1
    (refused_outcome a.table.now a.header a.self a.byte a.output.now (number_of c.in-Err.refusal) c.accept_by-reply.result.estimator
    (pending c.before.before.before) c.if-output-lt17.false
    (refused_of
    (subst (λ (x : Result (Judgement Verdict) Refusal). AcceptingBy a.self.notion a.table.now a.header a.self.estimator a.byte (said_by a.self.estimator.further x)
    c.accept_by-reply.result.estimator)
    c.in-Err.is c.accept_by-reply.ensures.0)))

same_length : tie.Need-shape_of-output
same_length c = search rules

returns-5 : tie.Need-returns-in-Ok
returns-5 c =
    let a = c.args in
    let taken = c.take_in in
    let j = c.in-Ok.judgement in
    let moved = (all c.before.before.before.before.before.before.before).0 in
    taken_outcome a.table.now a.header a.self a.byte a.output.now (steps_each a.self.estimator.further j.verdicts)
    c.largest_wait-w.result j.size
    c.accept_by-reply.result.estimator taken.result.answer taken.result.enforcer taken.new.output moved.well_formed
    (limits_joined _ a.self moved.limits (pending c.before.before.before.before.before.before.before.before.before)) c.if-output-lt17.false moved (all c.before.before.before.before.before.before.before).1
    c.largest_wait-w.ensures
    (subst (λ (k : ℕ). Enqueues k a.self c.accept_by-reply.result.estimator c.largest_wait-w.result j.size a.byte a.output.now
    taken.result.answer
    taken.result.enforcer taken.new.output) c.look_back-k.ensures taken.ensures)

pub offer_spec : {M : Type 1} → statement M
offer_spec =
    tie.close
    (tie.spec
    well-formed-requires
    refused-requires
    returns
    refused-requires-2
    returns-2
    look-back-requires
    pending-within-requires
    refused-requires-3
    returns-3
    accept-by-requires
    enum-known-answer
    refused-requires-4
    enum-known-answer-2
    largest-wait-requires
    take-in-requires
    returns-4
    same_length
    returns-5)

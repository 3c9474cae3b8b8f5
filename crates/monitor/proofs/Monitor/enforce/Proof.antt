use Rattle.std.specs.Prelude.{Result}
use Prim.Native.Nat.{ℕ, ◌≤◌}
use mathlib.Core.Path.{◌≡◌, refl, sym, subst}
use mathlib.Core.List.{List}
use native.Mathlib.Omega.{arith}
use Rattle.monitor.specs.Stepping.{Countable, accepted_once}
use lib.ListN.{length, replicate}
use Rattle.enforcer.specs.Offerings as enforcer
use Rattle.enforcer.specs.Offerings.{Offering}
use Rattle.enforcer.specs.declared.Release.{Release}
use Rattle.monitor.proofs.Outcomes.{countable, part_size, part_is, by_enforcer, by_both}
use borrow.Author.Rules.{rules}
use Rattle.monitor.proofs.Monitor.enforce.Statement.{statement}
use Rattle.monitor.proofs.Monitor.enforce.Tie as tie
use Rattle.refusal.specs.declared.Refusal.{Refusal}

-- what the enforcer answered to a byte that it accepted
abbrev left : tie.In-Ok → List ℕ
left x = x.offer-given.new.output

abbrev given : tie.In-Ok → Release
given x = x.in-Ok.release

abbrev count : tie.In-Ok → ℕ
count x = (given x).count

offered : (x : tie.In-Ok)
    → Offering x.args.table.now x.args.header x.args.self.enforcer x.args.byte (replicate 17 0)
    (enforcer.released (given x)) x.offer-given.result.enforcer (left x)
offered x =
    let a = x.args in
    let called = x.offer-given in
    subst (λ (r : Result Release Refusal). Offering a.table.now a.header a.self.enforcer a.byte (replicate 17 0) (enforcer.offer_outcome r)
    called.result.enforcer (left x))
    x.in-Ok.is called.ensures

counts : (x : tie.In-Ok) → Countable x.args.self (count x)
counts x =
    let a = x.args in
    let p = x.requires in
    countable a.table.now a.header a.self a.byte (given x) x.offer-given.result.enforcer (replicate 17 0) (left x)
    a.out.now a.at p.0 p.1 (offered x)

within : (x : tie.In-Ok) → count x ≤ length (left x)
within x = omega (arith, (counts x).few)

slice-aggregate-offer : tie.Need-slice_bounds-offer-end
slice-aggregate-offer c = search rules

offer-requires : tie.Need-offer-given-requires
offer-requires c κs = search rules

enum-known-answer : tie.Need-enum_known-answer
enum-known-answer c = search rules

log-refused-requires : tie.Need-log_refused-requires
log-refused-requires c κs = search rules

enum-known-answer-2 : tie.Need-enum_known-answer-in-Ok-1
enum-known-answer-2 c = search rules

cast-m : tie.Need-overflow_cast-m
cast-m c = search rules

sub-log-accepted : tie.Need-slice_bounds-log_accepted-count
sub-log-accepted c = search rules

part-log-accepted-start : tie.Need-slice_bounds-log_accepted-start
part-log-accepted-start c = search rules

part-log-accepted-end : tie.Need-slice_bounds-log_accepted-end
part-log-accepted-end c = within c.before.before

log-accepted-requires : tie.Need-log_accepted-requires
log-accepted-requires c κs = (
  c.requires.1,
  subst (Countable c.args.self) (sym (part_size (left c.before.before.before.before) (count c.before.before.before.before) (within c.before.before.before.before)))
      (counts c.before.before.before.before),
)

same_length : tie.Need-shape_of-out-in-Err
same_length c = search rules

returns : tie.Need-returns-in-Err
returns c =
    let a = c.args in
    let p = c.requires in
    let called = c.offer-given in
    let done = c.log_refused in
    let r = c.in-Err.refusal in
    by_enforcer a.table.now a.header a.self a.byte r _ a.estimator called.result.enforcer (replicate 17 0) called.new.output
    done.result.monitor
    p.0 p.2 refl
    (subst (λ (x : Result Release Refusal). Offering a.table.now a.header a.self.enforcer a.byte (replicate 17 0) (enforcer.offer_outcome x)
    called.result.enforcer called.new.output) c.in-Err.is called.ensures)
    done.ensures.0 done.ensures.1

same-length-2 : tie.Need-shape_of-out-in-Ok
same-length-2 c = search rules

returns-2 : tie.Need-returns-in-Ok
returns-2 c =
    let a = c.args in
    let p = c.requires in
    let done = c.log_accepted in
    let e = c.offer-given.result.enforcer in
    by_both a.table.now a.header a.self a.byte a.judgement a.estimator (given c.before.before.before.before.before.before.before) e (replicate 17 0) (left c.before.before.before.before.before.before.before) done.result.monitor
    p.0 p.2 refl (offered c.before.before.before.before.before.before.before)
    (subst (λ (k : ℕ). done.result.monitor ≡ accepted_once a.self a.estimator e k) (part_size (left c.before.before.before.before.before.before.before) (count c.before.before.before.before.before.before.before) (within c.before.before.before.before.before.before.before)) done.ensures.0)
    (rw (part_is (left c.before.before.before.before.before.before.before) (count c.before.before.before.before.before.before.before)) at done.ensures.1)

pub enforce_spec : {M : Type 1} → statement M
enforce_spec =
    tie.close
    (tie.spec
    slice-aggregate-offer
    offer-requires
    enum-known-answer
    log-refused-requires
    enum-known-answer-2
    cast-m
    sub-log-accepted
    part-log-accepted-start
    part-log-accepted-end
    log-accepted-requires
    same_length
    returns
    same-length-2
    returns-2)

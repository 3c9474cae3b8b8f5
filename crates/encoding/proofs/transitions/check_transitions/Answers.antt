-- A transition that passed its own checks lies within the bits; a refusal, also of one that was listed before, ends the parsing.
use Rattle.std.proofs.Common.{◌+◌, ◌*◌, ◌∙◌, refl, sym, add-one, arith, Ok, Err}
use native.Mathlib.Nat.{add-zero}
use Rattle.bitfields.specs.Bits.{bits_of}
use Rattle.encoding.specs.Transitions.{transitions_at}
use Rattle.encoding.specs.Encoding.{transitions}
use Rattle.encoding.proofs.Ended.{transition_in, transitions_more, transitions_refused, transitions_repeated, transitions_stop}
use Rattle.encoding.proofs.Carried.{transition_moved, handed}
use Rattle.encoding.proofs.transitions.check_transitions.Goals as goal

pub loop-i-init : goal.loop-i-init
unfolding transitions transitions_at
loop-i-init c = (refl, omega arith, rw add-zero)

pub returns-in_err-check_transition : goal.returns-in_err-check_transition
returns-in_err-check_transition c =
    let b = c.args.reader.bytes in
    let at = c.args.reader.position in
    let f = c.args.fixed in
    let l = c.loop-i in
    let x = c.in_err-check_transition.field-0.0 in
    let t = transition_moved l.next f.topstate f.topevent (Err x) b (at + l.i * 17) l.invariant.0 l.invariant.1 c.in_err-check_transition.ensures in
    rw (handed c.from_residual.result x c.from_residual.ensures.1)
    (sym (transitions_stop f.topstate f.topevent (bits_of b.now) at l.i (transitions_refused f.topstate f.topevent (bits_of b.now) at l.i l.invariant.2 t) f.count
    (omega arith)))

pub repeated-requires : goal.repeated-requires
repeated-requires c =
    let b = c.args.reader.bytes in
    let at = c.args.reader.position in
    let f = c.args.fixed in
    let l = c.loop-i in
    let t = transition_moved l.next f.topstate f.topevent (Ok tt) b (at + l.i * 17) l.invariant.0 l.invariant.1 c.in_ok-check_transition.ensures in
    (omega arith, omega arith, omega (arith, transition_in f.topstate f.topevent (bits_of b.now) (at + l.i * 17) t))

pub returns-then-repeated : goal.returns-then-repeated
returns-then-repeated c =
    let b = c.args.reader.bytes in
    let at = c.args.reader.position in
    let f = c.args.fixed in
    let l = c.loop-i in
    let t = transition_moved l.next f.topstate f.topevent (Ok tt) b (at + l.i * 17) l.invariant.0 l.invariant.1 c.in_ok-check_transition.ensures in
    sym (transitions_stop f.topstate f.topevent (bits_of b.now) at l.i (transitions_repeated f.topstate f.topevent (bits_of b.now) at l.i l.invariant.2 t
    (sym c.repeated.ensures ∙ c.if-repeated.true)) f.count (omega arith))

pub loop-i-preserved : goal.loop-i-preserved
loop-i-preserved c =
    let b = c.args.reader.bytes in
    let at = c.args.reader.position in
    let f = c.args.fixed in
    let l = c.loop-i in
    let t = transition_moved l.next f.topstate f.topevent (Ok tt) b (at + l.i * 17) l.invariant.0 l.invariant.1 c.in_ok-check_transition.ensures in (
      c.past-next.ensures.0 ∙ l.invariant.0,
      omega (arith, c.past-next.ensures.1),
      rw (add-one l.i)
          (transitions_more f.topstate f.topevent (bits_of b.now) at l.i l.invariant.2 t (sym c.repeated.ensures ∙ c.if-repeated.false)),
    )

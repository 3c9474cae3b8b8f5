-- Each field was read where the reader then stood, over the same bytes; and the test behind it.
use Rattle.std.proofs.Common.{◌+◌, refl, arith, Ok, Err}
use borrow.Author.Tests.{le-leb, lt-leb}
use Rattle.bitfields.specs.Bits.{bits_of}
use Rattle.bitfields.proofs.Parsing.{field_in}
use Rattle.encoding.specs.Encoding.{transition}
use Rattle.encoding.proofs.Ended.{same-transition}
use Rattle.encoding.proofs.Carried.{field_at, handed}
use Rattle.encoding.proofs.transitions.check_transition.Goals as goal

pub returns-in_err-from : goal.returns-in_err-from
unfolding transition
returns-in_err-from c =
    let b = c.args.reader.bytes in
    let f1 = field_at c.args.reader 6 (Err c.in_err-from.field-0.0) b c.args.reader.position refl refl c.in_err-from.ensures in
    rw (handed c.from_residual.result c.in_err-from.field-0.0 c.from_residual.ensures.1, f1)

pub returns-then-topstate-from : goal.returns-then-topstate-from
unfolding transition
returns-then-topstate-from c =
    let b = c.args.reader.bytes in
    let f1 = field_at c.args.reader 6 (Ok c.in_ok-from.from) b c.args.reader.position refl refl c.in_ok-from.ensures in
    rw (f1, lt-leb _ _ c.if-topstate-from.true)

pub returns-in_err-event : goal.returns-in_err-event
unfolding transition
returns-in_err-event c =
    let b = c.args.reader.bytes in
    let f1 = field_at c.args.reader 6 (Ok c.in_ok-from.from) b c.args.reader.position refl refl c.in_ok-from.ensures in
    let f2 = field_at c.past-reader.result 5 (Err c.in_err-event.field-0.0) b (c.args.reader.position + 6) (cc) (omega arith) c.in_err-event.ensures in
    rw (handed c.from_residual-in_err-event.result c.in_err-event.field-0.0 c.from_residual-in_err-event.ensures.1, f1, le-leb _ _ c.if-topstate-from.false, f2)

pub returns-then-topevent-event : goal.returns-then-topevent-event
unfolding transition
returns-then-topevent-event c =
    let b = c.args.reader.bytes in
    let f1 = field_at c.args.reader 6 (Ok c.in_ok-from.from) b c.args.reader.position refl refl c.in_ok-from.ensures in
    let f2 = field_at c.past-reader.result 5 (Ok c.in_ok-event.event) b (c.args.reader.position + 6) (cc) (omega arith) c.in_ok-event.ensures in
    rw (f1, le-leb _ _ c.if-topstate-from.false, f2, lt-leb _ _ c.if-topevent-event.true)

pub returns-in_err-to : goal.returns-in_err-to
unfolding transition
returns-in_err-to c =
    let b = c.args.reader.bytes in
    let f1 = field_at c.args.reader 6 (Ok c.in_ok-from.from) b c.args.reader.position refl refl c.in_ok-from.ensures in
    let f2 = field_at c.past-reader.result 5 (Ok c.in_ok-event.event) b (c.args.reader.position + 6) (cc) (omega arith) c.in_ok-event.ensures in
    let f3 = field_at c.past-reader-2.result 6 (Err c.in_err-to.field-0.0) b (c.args.reader.position + 6 + 5) (cc) (omega arith) c.in_err-to.ensures in
    rw (handed c.from_residual-in_err-to.result c.in_err-to.field-0.0 c.from_residual-in_err-to.ensures.1, f1, le-leb _ _ c.if-topstate-from.false, f2, le-leb _ _ c.if-topevent-event.false, f3)

pub returns-then-topstate-to : goal.returns-then-topstate-to
unfolding transition
returns-then-topstate-to c =
    let b = c.args.reader.bytes in
    let f1 = field_at c.args.reader 6 (Ok c.in_ok-from.from) b c.args.reader.position refl refl c.in_ok-from.ensures in
    let f2 = field_at c.past-reader.result 5 (Ok c.in_ok-event.event) b (c.args.reader.position + 6) (cc) (omega arith) c.in_ok-event.ensures in
    let f3 = field_at c.past-reader-2.result 6 (Ok c.in_ok-to.to) b (c.args.reader.position + 6 + 5) (cc) (omega arith) c.in_ok-to.ensures in
    rw (f1, le-leb _ _ c.if-topstate-from.false, f2, le-leb _ _ c.if-topevent-event.false, f3, lt-leb _ _ c.if-topstate-to.true)

pub returns : goal.returns
unfolding transition
returns c =
    let b = c.args.reader.bytes in
    let f1 = field_at c.args.reader 6 (Ok c.in_ok-from.from) b c.args.reader.position refl refl c.in_ok-from.ensures in
    let f2 = field_at c.past-reader.result 5 (Ok c.in_ok-event.event) b (c.args.reader.position + 6) (cc) (omega arith) c.in_ok-event.ensures in
    let f3 = field_at c.past-reader-2.result 6 (Ok c.in_ok-to.to) b (c.args.reader.position + 6 + 5) (cc) (omega arith) c.in_ok-to.ensures in
    let at = c.args.reader.position in
    let bits = bits_of b.now in
    rw (f1, le-leb _ _ c.if-topstate-from.false, f2, le-leb _ _ c.if-topevent-event.false, f3, le-leb _ _ c.if-topstate-to.false)
    (same-transition _ (field_in 6 bits at f1).1 (field_in 5 bits (at + 6) f2).1 (field_in 6 bits (at + 6 + 5) f3).1)

-- Each field was read where the reader then stood, over the same bytes; and the test behind it.
use Rattle.std.proofs.Common.{refl, arith, Ok, Err}
use borrow.Author.Tests.{le-leb, lt-leb}
use Rattle.encoding.specs.Encoding.{fixed}
use Rattle.encoding.proofs.Carried.{field_at, handed}
use Rattle.encoding.proofs.preamble.read_fixed.Goals as goal

pub returns-in_err-topstate : goal.returns-in_err-topstate
unfolding fixed
returns-in_err-topstate c =
    let b = c.args.reader.bytes in
    let f1 = field_at c.args.reader 6 (Err c.in_err-topstate.field-0.0) b 0 refl c.requires c.in_err-topstate.ensures in
    rw (handed c.from_residual.result c.in_err-topstate.field-0.0 c.from_residual.ensures.1, f1)

pub returns-in_err-topevent : goal.returns-in_err-topevent
unfolding fixed
returns-in_err-topevent c =
    let b = c.args.reader.bytes in
    let f1 = field_at c.args.reader 6 (Ok c.in_ok-topstate.topstate) b 0 refl c.requires c.in_ok-topstate.ensures in
    let f2 = field_at c.past-reader.result 5 (Err c.in_err-topevent.field-0.0) b 6 (cc) (omega arith) c.in_err-topevent.ensures in
    rw (handed c.from_residual-in_err-topevent.result c.in_err-topevent.field-0.0 c.from_residual-in_err-topevent.ensures.1, f1, f2)

pub returns-in_err-k : goal.returns-in_err-k
unfolding fixed
returns-in_err-k c =
    let b = c.args.reader.bytes in
    let f1 = field_at c.args.reader 6 (Ok c.in_ok-topstate.topstate) b 0 refl c.requires c.in_ok-topstate.ensures in
    let f2 = field_at c.past-reader.result 5 (Ok c.in_ok-topevent.topevent) b 6 (cc) (omega arith) c.in_ok-topevent.ensures in
    let f3 = field_at c.past-reader-2.result 4 (Err c.in_err-k.field-0.0) b 11 (cc) (omega arith) c.in_err-k.ensures in
    rw (handed c.from_residual-in_err-k.result c.in_err-k.field-0.0 c.from_residual-in_err-k.ensures.1, f1, f2, f3)

pub returns-in_err-initial : goal.returns-in_err-initial
unfolding fixed
returns-in_err-initial c =
    let b = c.args.reader.bytes in
    let f1 = field_at c.args.reader 6 (Ok c.in_ok-topstate.topstate) b 0 refl c.requires c.in_ok-topstate.ensures in
    let f2 = field_at c.past-reader.result 5 (Ok c.in_ok-topevent.topevent) b 6 (cc) (omega arith) c.in_ok-topevent.ensures in
    let f3 = field_at c.past-reader-2.result 4 (Ok c.in_ok-k.k) b 11 (cc) (omega arith) c.in_ok-k.ensures in
    let f4 = field_at c.past-reader-3.result 6 (Err c.in_err-initial.field-0.0) b 15 (cc) (omega arith) c.in_err-initial.ensures in
    rw (handed c.from_residual-in_err-initial.result c.in_err-initial.field-0.0 c.from_residual-in_err-initial.ensures.1, f1, f2, f3, f4)

pub returns-then-topstate-initial : goal.returns-then-topstate-initial
unfolding fixed
returns-then-topstate-initial c =
    let b = c.args.reader.bytes in
    let f1 = field_at c.args.reader 6 (Ok c.in_ok-topstate.topstate) b 0 refl c.requires c.in_ok-topstate.ensures in
    let f2 = field_at c.past-reader.result 5 (Ok c.in_ok-topevent.topevent) b 6 (cc) (omega arith) c.in_ok-topevent.ensures in
    let f3 = field_at c.past-reader-2.result 4 (Ok c.in_ok-k.k) b 11 (cc) (omega arith) c.in_ok-k.ensures in
    let f4 = field_at c.past-reader-3.result 6 (Ok c.in_ok-initial.initial) b 15 (cc) (omega arith) c.in_ok-initial.ensures in
    rw (f1, f2, f3, f4, lt-leb _ _ c.if-topstate-initial.true)

pub returns-in_err-count : goal.returns-in_err-count
unfolding fixed
returns-in_err-count c =
    let b = c.args.reader.bytes in
    let f1 = field_at c.args.reader 6 (Ok c.in_ok-topstate.topstate) b 0 refl c.requires c.in_ok-topstate.ensures in
    let f2 = field_at c.past-reader.result 5 (Ok c.in_ok-topevent.topevent) b 6 (cc) (omega arith) c.in_ok-topevent.ensures in
    let f3 = field_at c.past-reader-2.result 4 (Ok c.in_ok-k.k) b 11 (cc) (omega arith) c.in_ok-k.ensures in
    let f4 = field_at c.past-reader-3.result 6 (Ok c.in_ok-initial.initial) b 15 (cc) (omega arith) c.in_ok-initial.ensures in
    let f5 = field_at c.past-reader-4.result 10 (Err c.in_err-count.field-0.0) b 21 (cc) (omega arith) c.in_err-count.ensures in
    rw (handed c.from_residual-in_err-count.result c.in_err-count.field-0.0 c.from_residual-in_err-count.ensures.1, f1, f2, f3, f4, le-leb _ _ c.if-topstate-initial.false, f5)

pub returns-in_err-symbols : goal.returns-in_err-symbols
unfolding fixed
returns-in_err-symbols c =
    let b = c.args.reader.bytes in
    let f1 = field_at c.args.reader 6 (Ok c.in_ok-topstate.topstate) b 0 refl c.requires c.in_ok-topstate.ensures in
    let f2 = field_at c.past-reader.result 5 (Ok c.in_ok-topevent.topevent) b 6 (cc) (omega arith) c.in_ok-topevent.ensures in
    let f3 = field_at c.past-reader-2.result 4 (Ok c.in_ok-k.k) b 11 (cc) (omega arith) c.in_ok-k.ensures in
    let f4 = field_at c.past-reader-3.result 6 (Ok c.in_ok-initial.initial) b 15 (cc) (omega arith) c.in_ok-initial.ensures in
    let f5 = field_at c.past-reader-4.result 10 (Ok c.in_ok-count.count) b 21 (cc) (omega arith) c.in_ok-count.ensures in
    let f6 = field_at c.past-reader-5.result 1 (Err c.in_err-symbols.field-0.0) b 31 (cc) (omega arith) c.in_err-symbols.ensures in
    rw (handed c.from_residual-in_err-symbols.result c.in_err-symbols.field-0.0 c.from_residual-in_err-symbols.ensures.1, f1, f2, f3, f4, le-leb _ _ c.if-topstate-initial.false, f5, f6)

pub returns : goal.returns
unfolding fixed
returns c =
    let b = c.args.reader.bytes in
    let f1 = field_at c.args.reader 6 (Ok c.in_ok-topstate.topstate) b 0 refl c.requires c.in_ok-topstate.ensures in
    let f2 = field_at c.past-reader.result 5 (Ok c.in_ok-topevent.topevent) b 6 (cc) (omega arith) c.in_ok-topevent.ensures in
    let f3 = field_at c.past-reader-2.result 4 (Ok c.in_ok-k.k) b 11 (cc) (omega arith) c.in_ok-k.ensures in
    let f4 = field_at c.past-reader-3.result 6 (Ok c.in_ok-initial.initial) b 15 (cc) (omega arith) c.in_ok-initial.ensures in
    let f5 = field_at c.past-reader-4.result 10 (Ok c.in_ok-count.count) b 21 (cc) (omega arith) c.in_ok-count.ensures in
    let f6 = field_at c.past-reader-5.result 1 (Ok c.in_ok-symbols.symbols) b 31 (cc) (omega arith) c.in_ok-symbols.ensures in
    rw (f1, f2, f3, f4, le-leb _ _ c.if-topstate-initial.false, f5, f6)

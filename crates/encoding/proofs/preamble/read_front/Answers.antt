-- The fixed fields' numbers are small, so that the reader goes on within the limits; and each set was read where the reader then stood.
use Rattle.std.proofs.Common.{◌+◌, sym, arith, Ok, Err}
use Rattle.encoding.specs.Encoding.{front}
use Rattle.encoding.proofs.Ended.{fixed_in}
use Rattle.encoding.proofs.Carried.{flags_at, handed}
use Rattle.encoding.proofs.preamble.read_front.Goals as goal

pub returns-in_err-fixed : goal.returns-in_err-fixed
unfolding front
returns-in_err-fixed c =
    rw (handed c.from_residual.result c.in_err-fixed.field-0.0 c.from_residual.ensures.1, ← c.in_err-fixed.ensures)

pub states-states-requires : goal.states-states-requires
states-states-requires c = fixed_in c.args.reader.bytes.now (sym c.in_ok-fixed.ensures)

pub read_flags-requires : goal.read_flags-requires
read_flags-requires c =
    let s = fixed_in c.args.reader.bytes.now (sym c.in_ok-fixed.ensures) in
    (omega (arith, c.states-states.ensures, s.topstate), omega arith)

pub returns-in_err-secret : goal.returns-in_err-secret
unfolding front
returns-in_err-secret c =
    let b = c.args.reader.bytes in
    let f1 = flags_at c.past-reader.result c.states-states.result (c.in_ok-fixed.fixed.topstate + 1) (Err c.in_err-secret.field-0.0) b 32 (cc) (omega arith) c.states-states.ensures
    c.in_err-secret.ensures in
    rw (
      handed c.from_residual-in_err-secret.result c.in_err-secret.field-0.0 c.from_residual-in_err-secret.ensures.1,
      ← c.in_ok-fixed.ensures,
      f1,
    )

pub past-reader-requires-2 : goal.past-reader-requires-2
past-reader-requires-2 c =
    let s = fixed_in c.args.reader.bytes.now (sym c.in_ok-fixed.ensures) in
    omega (arith, c.states-states.ensures, s.topstate)

pub events-requires : goal.events-requires
events-requires c = fixed_in c.args.reader.bytes.now (sym c.in_ok-fixed.ensures)

pub read_flags-requires-2 : goal.read_flags-requires-2
read_flags-requires-2 c =
    let s = fixed_in c.args.reader.bytes.now (sym c.in_ok-fixed.ensures) in
    (omega (arith, c.events.ensures, s.topevent), omega (arith, c.states-states.ensures, s.topstate))

pub returns-in_err-observable : goal.returns-in_err-observable
unfolding front
returns-in_err-observable c =
    let b = c.args.reader.bytes in
    let f1 = flags_at c.past-reader.result c.states-states.result (c.in_ok-fixed.fixed.topstate + 1) (Ok c.in_ok-secret.secret) b 32 (cc) (omega arith) c.states-states.ensures
    c.in_ok-secret.ensures in
    let f2 = flags_at c.past-reader-2.result c.events.result (c.in_ok-fixed.fixed.topevent + 1) (Err c.in_err-observable.field-0.0) b (32 + (c.in_ok-fixed.fixed.topstate + 1)) (cc)
    (omega (arith, c.states-states.ensures)) c.events.ensures c.in_err-observable.ensures in
    rw (
      handed c.from_residual-in_err-observable.result c.in_err-observable.field-0.0 c.from_residual-in_err-observable.ensures.1,
      ← c.in_ok-fixed.ensures,
      f1,
      f2,
    )

pub returns : goal.returns
unfolding front
returns c =
    let b = c.args.reader.bytes in
    let f1 = flags_at c.past-reader.result c.states-states.result (c.in_ok-fixed.fixed.topstate + 1) (Ok c.in_ok-secret.secret) b 32 (cc) (omega arith) c.states-states.ensures
    c.in_ok-secret.ensures in
    let f2 = flags_at c.past-reader-2.result c.events.result (c.in_ok-fixed.fixed.topevent + 1) (Ok c.in_ok-observable.observable) b (32 + (c.in_ok-fixed.fixed.topstate + 1)) (cc)
    (omega (arith, c.states-states.ensures)) c.events.ensures c.in_ok-observable.ensures in
    rw (← c.in_ok-fixed.ensures, f1, f2)

use Rattle.std.proofs.Common.{◌≡◌, length, take, rules, arith}
use Rattle.std.proofs.lemmas.List.{length-take-le, get_or-take}
use Rattle.encode.specs.Rising.{in_rows}
use Rattle.encode.proofs.Lengths.{outgoing_bits}
use Rattle.encode.proofs.Steps.{writes_start, writes_more, outgoing_none, outgoing_row}
use Rattle.encode.proofs.put_state.Goals as goal

pub loop-event-init : goal.loop-event-init
loop-event-init c = writes_start _ _ (outgoing_none _ _ _)

pub put_row-requires : goal.put_row-requires
put_row-requires c =
    let a = c.args in
    let some : length (take a.events a.rows.now) ≡ a.events = length-take-le a.events a.rows.now (omega arith) in
    omega (arith, c.loop-event.invariant.next, outgoing_bits (in_rows a.rows.now) a.from a.states c.loop-event.event (omega arith))

pub loop-event-preserved : goal.loop-event-preserved
loop-event-preserved c =
    let a = c.args in
    let some : length (take a.events a.rows.now) ≡ a.events = length-take-le a.events a.rows.now (omega arith) in
    writes_more _ _ _ (outgoing_row a.rows.now _ _ _ _ (get_or-take a.events a.rows.now _ 0 (omega arith))) c.loop-event.invariant c.put_row.ensures

pub returns : goal.returns
returns c =
    let a = c.args in
    let some : length (take a.events a.rows.now) ≡ a.events = length-take-le a.events a.rows.now (omega arith) in
    let e : c.loop-event.event ≡ a.events = omega arith in
    let next = c.loop-event.invariant.next in
    let wrote = c.loop-event.invariant.wrote in
    let same = c.loop-event.invariant.same in
    rw (← e) (search rules)

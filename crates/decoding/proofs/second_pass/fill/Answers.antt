-- Each transition lies within the bits, so that it has a place in the table, and is one more of those that the table holds.
use Rattle.std.proofs.Common.{◌≡◌, ℕ, ◌+◌, ◌≤◌, List, length, ap, ◌∙◌, arith, Bor}
use Rattle.std.proofs.lemmas.List.{length-replicate}
use Rattle.bitfields.specs.Bits.{bits_of}
use Rattle.encoding.specs.Transitions.{transition_at}
use Rattle.encoding.proofs.Carried.{moved}
use Rattle.decoding.proofs.Filling.{none_filled, more_filled, place_small}
use Rattle.decoding.proofs.second_pass.fill.Goals as goal

pub loop-placed-init : goal.loop-placed-init
loop-placed-init c = c.requires.3 ∙ none_filled _ _

pub read_transition-requires : goal.read_transition-requires
read_transition-requires c =
    let r = c.past-next.result in
    let same : length (bits_of r.bytes.now) ≡ length (bits_of c.args.reader.bytes.now) =
    ap (λ (x : Bor (List ℕ)). length (bits_of x.now)) c.past-next.ensures.0 in
    (omega (arith, c.past-next.ensures.1), omega (arith, c.past-next.ensures.1, same, c.requires.2))

pub place-requires : goal.place-requires
place-requires c =
    let l = c.loop-placed in
    let r = c.past-next.result in
    let same : length (bits_of r.bytes.now) ≡ length (bits_of c.args.reader.bytes.now) =
    ap (λ (x : Bor (List ℕ)). length (bits_of x.now)) c.past-next.ensures.0 in
    let inside : r.position + 17 ≤ length (bits_of r.bytes.now) = omega (arith, c.past-next.ensures.1, same, c.requires.2) in
    let small = place_small r c.read_transition.result _ inside c.read_transition.ensures in
    (l.auto.table ∙ ap length c.requires.3 ∙ length-replicate {A = ℕ} 2048 0, small.0, small.1, small.2)

pub loop-placed-preserved : goal.loop-placed-preserved
loop-placed-preserved c =
    let l = c.loop-placed in
    let read = moved (λ (x : Bor (List ℕ)) (n : ℕ). c.read_transition.result ≡ transition_at (bits_of x.now) n) c.past-next.result c.past-next.ensures.0
    c.past-next.ensures.1 c.read_transition.ensures in
    more_filled _ _ l.placed l.table _ l.invariant read c.place.ensures

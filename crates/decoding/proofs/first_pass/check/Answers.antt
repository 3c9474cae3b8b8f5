-- The numbers of the front are small, so that the reader goes on within the limits; and what follows was judged where the reader then stood.
use Rattle.std.proofs.Common.{◌+◌, ◌*◌, ◌≡◌, ℕ, List, Bor, Result, sym, subst₂, arith, Ok, Err}
use Rattle.refusal.specs.declared.Refusal.{Refusal}
use Rattle.bitfields.specs.Bits.{bits_of}
use Rattle.bitfields.specs.declared.Reader.{Reader}
use Rattle.encoding.specs.Transitions.{transitions_at}
use Rattle.encoding.specs.Encoding.{transitions, ending, encoding}
use Rattle.encoding.specs.Answers.{preamble_end, checked_means}
use Rattle.encoding.specs.declared.Fixed.{Fixed}
use Rattle.encoding.proofs.Ended.{preamble_in, symbols_few}
use Rattle.encoding.proofs.Carried.{moved, handed}
use Rattle.decoding.proofs.first_pass.check.Goals as goal

listed_at : (r : Reader) (f : Fixed) (t : Result (Unit {0}) Refusal) (b : Bor (List ℕ)) (at : ℕ) → r.bytes ≡ b → r.position ≡ at
    → checked_means (transitions_at (bits_of r.bytes.now) r.position f.count) (r.position + f.count * 17) t
    ≡ transitions f.topstate f.topevent f.count (bits_of r.bytes.now) r.position
    → transitions f.topstate f.topevent f.count (bits_of b.now) at ≡ checked_means (transitions_at (bits_of b.now) at f.count) (at + f.count * 17) t
listed_at r f t b at e p h =
    sym (moved (λ (x : Bor (List ℕ)) (n : ℕ). checked_means (transitions_at (bits_of x.now) n f.count) (n + f.count * 17) t
    ≡ transitions f.topstate f.topevent f.count (bits_of x.now) n) r e p h)

ended_at : (t : Result (Unit {0}) Refusal) {b b' : Bor (List ℕ)} {at at' : ℕ} → b ≡ b' → at ≡ at'
    → checked_means tt at t ≡ ending (bits_of b.now) at → ending (bits_of b'.now) at' ≡ checked_means tt at' t
ended_at t e p h = sym (subst₂ (λ (x : Bor (List ℕ)) (n : ℕ). checked_means tt n t ≡ ending (bits_of x.now) n) e p h)

pub returns-in_err-front : goal.returns-in_err-front
unfolding encoding
returns-in_err-front c =
    rw (handed c.from_residual.result c.in_err-front.field-0.0 c.from_residual.ensures.1, ← c.in_err-front.ensures)

pub preamble_end-requires : goal.preamble_end-requires
preamble_end-requires c = (preamble_in c.args.reader.bytes.now (sym c.in_ok-front.ensures)).front

pub past-reader-requires : goal.past-reader-requires
past-reader-requires c =
    let s = (preamble_in c.args.reader.bytes.now (sym c.in_ok-front.ensures)).front.fixed in
    omega (arith, c.requires, c.preamble_end.ensures, s.topstate, s.topevent, symbols_few _ s)

pub check_transitions-requires : goal.check_transitions-requires
check_transitions-requires c =
    let s = (preamble_in c.args.reader.bytes.now (sym c.in_ok-front.ensures)).front.fixed in
    (omega (arith, c.requires, c.past-reader.ensures.1, c.preamble_end.ensures, s.topstate, s.topevent, symbols_few _ s), omega (arith, s.count))

pub returns-in_err-check_transitions : goal.returns-in_err-check_transitions
unfolding encoding
returns-in_err-check_transitions c =
    let x = c.in_err-check_transitions.field-0.0 in
    let listed = listed_at c.past-reader.result c.in_ok-front.front.fixed (Err x) c.args.reader.bytes (preamble_end c.in_ok-front.front) c.past-reader.ensures.0
    (omega (arith, c.requires, c.past-reader.ensures.1, c.preamble_end.ensures)) c.in_err-check_transitions.ensures in
    rw (handed c.from_residual-in_err-check_transitions.result x c.from_residual-in_err-check_transitions.ensures.1, ← c.in_ok-front.ensures, listed)

pub end-requires : goal.end-requires
end-requires c = (preamble_in c.args.reader.bytes.now (sym c.in_ok-front.ensures)).front

pub ending_at-requires : goal.ending_at-requires
ending_at-requires c =
    let s = (preamble_in c.args.reader.bytes.now (sym c.in_ok-front.ensures)).front.fixed in
    omega (arith, c.end.ensures, s.topstate, s.topevent, s.count, symbols_few _ s)

pub returns-in_err-ending_at : goal.returns-in_err-ending_at
unfolding encoding
returns-in_err-ending_at c =
    let x = c.in_err-ending_at.field-0.0 in
    let listed = listed_at c.past-reader.result c.in_ok-front.front.fixed (Ok tt) c.args.reader.bytes (preamble_end c.in_ok-front.front) c.past-reader.ensures.0
    (omega (arith, c.requires, c.past-reader.ensures.1, c.preamble_end.ensures)) c.in_ok-check_transitions.ensures in
    let ended = ended_at (Err x) c.past-reader.ensures.0 c.end.ensures c.in_err-ending_at.ensures in
    rw (handed c.from_residual-in_err-ending_at.result x c.from_residual-in_err-ending_at.ensures.1, ← c.in_ok-front.ensures, listed, ended)

pub returns : goal.returns
unfolding encoding
returns c =
    let listed = listed_at c.past-reader.result c.in_ok-front.front.fixed (Ok tt) c.args.reader.bytes (preamble_end c.in_ok-front.front) c.past-reader.ensures.0
    (omega (arith, c.requires, c.past-reader.ensures.1, c.preamble_end.ensures)) c.in_ok-check_transitions.ensures in
    let ended = ended_at (Ok tt) c.past-reader.ensures.0 c.end.ensures c.in_ok-ending_at.ensures in
    rw (← c.in_ok-front.ensures, listed, ended)

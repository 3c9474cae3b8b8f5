-- The two numbers compare as the two transitions do.
use Rattle.std.proofs.Common.{◌≡◌, ◌+◌, ◌*◌, ◌<◌, ◌≤◌, ◌∙◌, ℕ, List, length, sym, add-one, arith}
use borrow.Author.Tests.{eq-eqb, ne_eqb}
use lib.Dec.{eqb}
use Rattle.bitfields.specs.Bits.{bits_of, number_at}
use Rattle.encoding.specs.Transitions.{same_transition, transition_at}
use Rattle.encoding.proofs.Listed.{listed_none, listed_more, listed_stays, same_bits}
use Rattle.encoding.proofs.transitions.repeated.Goals as goal

compared : (bytes : List ℕ) (at n i x y : ℕ) → at + n * 17 + 17 ≤ length (bits_of bytes) → i < n
    → x ≡ number_at (bits_of bytes) (at + i * 17) 17 → y ≡ number_at (bits_of bytes) (at + n * 17) 17
    → eqb x y ≡ same_transition (transition_at (bits_of bytes) (at + n * 17)) (transition_at (bits_of bytes) (at + i * 17))
compared bytes at n i x y h l p q = rw (p, q) (same_bits bytes (at + i * 17) (at + n * 17) (omega arith) (omega arith))

pub loop-i-init : goal.loop-i-init
loop-i-init c = listed_none _ _ _

pub returns-then-number_at-last : goal.returns-then-number_at-last
returns-then-number_at-last c =
    let a = c.args in
    let l = c.loop-i in
    let same = compared a.bytes.now a.at a.n l.i _ _ c.requires.2 (omega arith) c.number_at.ensures c.number_at-last.ensures in
    sym (listed_stays _ (bits_of a.bytes.now) a.at l.i (sym same ∙ eq-eqb _ _ c.if-number_at-last.true) a.n (omega arith))

pub loop-i-preserved : goal.loop-i-preserved
loop-i-preserved c =
    let a = c.args in
    let l = c.loop-i in
    let same = compared a.bytes.now a.at a.n l.i _ _ c.requires.2 (omega arith) c.number_at.ensures c.number_at-last.ensures in
    rw (add-one l.i, listed_more _ (bits_of a.bytes.now) a.at l.i, l.invariant, sym same ∙ ne_eqb _ _ c.if-number_at-last.false)

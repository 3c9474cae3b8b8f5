-- The first test says that fewer than 8 bits are left, the last that they write 0.
use Prim.Native.Nat.{ℕ, ◌-◌, ◌*◌, ◌<◌}
use mathlib.Core.Path.{◌≡◌, refl}
use mathlib.Core.List.{List}
use borrow.Author.Tests.{le-ltb, lt-ltb, eq-eqb, ne_eqb}
use native.Mathlib.Omega.{arith}
use lib.ListN.{length}
use Rattle.encoding.specs.Encoding.{ending}
use Rattle.refusal.specs.declared.Refusal.TheVariants.{TrailingData}
use Rattle.bitfields.specs.Bits.{bits_of, number_at}
use Rattle.bitfields.specs.Parser.{done, refused}
use Rattle.bitfields.proofs.Bits.{length_bits, number_none}
use Rattle.encoding.proofs.ending.ending_at.Goals as goal

-- fewer than 8 bits are left, and v is the number that all of them write
loose : (bytes : List ℕ) (at v : ℕ) → length bytes * 8 - at < 8 → v ≡ number_at (bits_of bytes) at (length bytes * 8 - at) → (v ≡ 0 → ⊥)
    → refused TrailingData ≡ ending (bits_of bytes) at
unfolding ending
loose bytes at v few is other = rw (length_bits bytes, lt-ltb (length bytes * 8 - at) 8 few, ← is, ne_eqb v 0 other)

padded : (bytes : List ℕ) (at v : ℕ) → length bytes * 8 - at < 8 → v ≡ number_at (bits_of bytes) at (length bytes * 8 - at) → v ≡ 0
    → done tt at ≡ ending (bits_of bytes) at
unfolding ending
padded bytes at v few is nothing = rw (length_bits bytes, lt-ltb (length bytes * 8 - at) 8 few, ← is, eq-eqb v 0 nothing)

pub returns-then-at-bytes : goal.returns-then-at-bytes
unfolding ending
returns-then-at-bytes c =
    let a = c.args in
    rw (length_bits a.bytes.now, le-ltb (length a.bytes.now * 8 - a.at) 8 (omega arith))

pub returns-then-bytes-at : goal.returns-then-bytes-at
returns-then-bytes-at c =
    let a = c.args in
    let none : length a.bytes.now * 8 - a.at ≡ 0 = omega arith in
    padded a.bytes.now a.at 0 (omega arith) (rw (none, number_none (bits_of a.bytes.now) a.at)) refl

pub number_at-requires : goal.number_at-requires
number_at-requires c = omega (arith, length_bits c.args.bytes.now)

pub returns-then-number_at-ne0 : goal.returns-then-number_at-ne0
returns-then-number_at-ne0 c =
    let a = c.args in
    loose a.bytes.now a.at c.number_at.result (omega arith) c.number_at.ensures c.if-number_at-ne0.true

pub returns : goal.returns
returns c =
    let a = c.args in
    padded a.bytes.now a.at c.number_at.result (omega arith) c.number_at.ensures c.if-number_at-ne0.false

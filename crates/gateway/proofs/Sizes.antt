-- The header of an accepted encoding fits its bytes, and so reads back. Assumes nothing.
use Prim.Native.Nat.{ℕ}
use mathlib.Core.Path.{◌≡◌}
use mathlib.Core.List.{List}
use Rattle.automaton.specs.declared.Header.{Header}
use Rattle.decoding.specs.Decoding.{Decoding, accept}
use Rattle.encoding.proofs.Ended.{secret_fits, observable_fits, encoding_in}
use Rattle.encoding.proofs.HeaderSymbols.{header_length}
use Rattle.layout.specs.Layout.{header_at, header_bytes, HeaderSized}
use Rattle.layout.proofs.Inverse.{header_back}

-- the header of an accepted encoding
pub header_sized : (bytes table : List ℕ) (h : Header) (after : List ℕ) → Decoding bytes table h accept after → HeaderSized h
header_sized bytes table h after (Decoding.accepted size e next is after' holds) =
    let small = (encoding_in bytes is).front in
    record { secret = secret_fits e.front small; observable = observable_fits e.front small; symbols = header_length e.front.observable e.symbols }

pub decoded_header_back : (bytes table : List ℕ) (h : Header) (after : List ℕ) → Decoding bytes table h accept after → header_at (header_bytes h) ≡ h
decoded_header_back bytes table h after x = header_back h (header_sized bytes table h after x)

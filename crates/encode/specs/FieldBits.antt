-- The bits of an encoding, field by field in the order of the layout (`encoding/specs/Encoding`).
use Rattle.std.specs.Prelude.{ℕ, ◌+◌, List, [], ◌∷◌, ◌++◌}
use Rattle.encoding.specs.Encoding.{Encoding}
use Rattle.encoding.specs.declared.ListedTransition.{ListedTransition}
use Rattle.encoding.specs.declared.Fixed.{Fixed}
use Rattle.encoding.specs.declared.Front.{Front}
use Rattle.encode.specs.Packing.{number_bits, flag_bits, packed}

-- top state, top event, K, initial state, number of transitions, whether symbols follow
unfoldable pub fixed_bits : Fixed → List ℕ
fixed_bits f =
    number_bits 6 f.topstate ++ (number_bits 5 f.topevent ++ (number_bits 4 f.k ++ (number_bits 6 f.initial
    ++ (number_bits 10 f.count ++ number_bits 1 f.symbols))))

-- then the secret states and the observable events
unfoldable pub front_bits : Front → List ℕ
front_bits f = fixed_bits f.fixed ++ (flag_bits (f.fixed.topstate + 1) f.secret ++ flag_bits (f.fixed.topevent + 1) f.observable)

-- then the symbols that are listed, five bits each
unfoldable pub symbols_bits : List ℕ → List ℕ
symbols_bits [] = []
symbols_bits (x ∷ xs) = number_bits 5 x ++ symbols_bits xs

-- and the transitions
unfoldable pub transition_bits : ListedTransition → List ℕ
transition_bits t = number_bits 6 t.from ++ (number_bits 5 t.event ++ number_bits 6 t.to)

unfoldable pub transitions_bits : List ListedTransition → List ℕ
transitions_bits [] = []
transitions_bits (t ∷ ts) = transition_bits t ++ transitions_bits ts

-- all but the transitions
unfoldable pub preamble_bits : Front → List ℕ → List ℕ
preamble_bits f symbols = front_bits f ++ symbols_bits symbols

-- all of them
unfoldable pub encoding_bits : Encoding → List ℕ
encoding_bits e = preamble_bits e.front e.symbols ++ transitions_bits e.transitions

-- the bytes of an encoding: zero bits to the end of the last byte
unfoldable pub encoding_bytes : Encoding → List ℕ
encoding_bytes e = packed (encoding_bits e)

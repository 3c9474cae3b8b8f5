-- Encodings that list a transition twice, by computing. Assumes nothing.
use mathlib.Core.Path.{◌≡◌, refl}
use mathlib.Core.List.{[], ◌∷◌}
use Rattle.refusal.specs.declared.Refusal.TheVariants.{RepeatedTransition}
use Rattle.bitfields.specs.Bits.{byte_bits, bits_of, number_from, number_at, set_of}
use Rattle.bitfields.specs.Parser.{refused, field, flags}
use Rattle.encoding.specs.Encoding.{encoding, fixed, front, symbols, preamble, transition, transitions}

-- 01's Q with its first transition listed twice; and cut behind the second, so that all of the third is missing
pub q_repeats : (encoding (bits_of (8 ∷ 34 ∷ 0 ∷ 6 ∷ 72 ∷ 1 ∷ 4 ∷ 0 ∷ 130 ∷ 8 ∷ 2 ∷ [])) 0 ≡ refused RepeatedTransition)
    × (encoding (bits_of (8 ∷ 34 ∷ 0 ∷ 6 ∷ 72 ∷ 1 ∷ 4 ∷ 0 ∷ 130 ∷ [])) 0 ≡ refused RepeatedTransition)
unfolding byte_bits bits_of number_from number_at set_of field flags fixed front symbols preamble transition transitions encoding
q_repeats = (refl, refl)

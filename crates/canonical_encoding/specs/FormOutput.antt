-- What is printed for an input that is to be an encoding (02, S-9), by the definitions alone: no program stands here. There is one such output
-- (OneFormOutput, one_output), and no line of a refusal is a form (apart).
use Rattle.std.specs.Prelude.{◌≡◌, List, ℕ}
use Rattle.refusal.specs.declared.Refusal.{Refusal}
use Rattle.bitfields.specs.Bits.{bits_of}
use Rattle.bitfields.specs.Parser.{refused}
use Rattle.encoding.specs.Encoding.{encoding}
use Rattle.canonical.specs.Meanings.{Meaning, Means, canonical_bytes}
use Rattle.report.specs.Text.{refused_log}

-- the output, whole: of an accepted encoding the canonical form of its automaton, byte for byte; else the line of the decoder's refusal
pub data OutputOf (input : List ℕ) : List ℕ → Type 0 where
  form : (m : Meaning) → Means input m → OutputOf input (canonical_bytes m)
  refusal : (r : Refusal) → encoding (bits_of input) 0 ≡ refused r → OutputOf input (refused_log r)

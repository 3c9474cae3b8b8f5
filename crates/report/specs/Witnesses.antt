-- The lines of the witnesses of a log (02, S-10), as bytes.
use Rattle.std.specs.Prelude.{ℕ, List, [], ◌∷◌, ◌++◌}
use Rattle.opacity.specs.declared.Notion.{Notion}
use Rattle.opacity.specs.declared.Notion.TheVariants.{Weak, Strong}
use Rattle.report.specs.Text.{decimal, line}

-- `weak` or `strong`
abbrev pub word : Notion → List ℕ
word Weak = 119 ∷ 101 ∷ 97 ∷ 107 ∷ []
word Strong = 115 ∷ 116 ∷ 114 ∷ 111 ∷ 110 ∷ 103 ∷ []

-- an event and the state that it reaches, a comma between them
abbrev pub pair_field : (event state : ℕ) → List ℕ
pair_field event state = decimal event ++ (44 ∷ decimal state)

-- pairs of bytes, event and state. (A last byte that is alone is no pair)
abbrev pub pair_fields : List ℕ → List (List ℕ)
pair_fields [] = []
pair_fields (event ∷ []) = []
pair_fields (event ∷ state ∷ rest) = pair_field event state ∷ pair_fields rest

-- a run that excuses the system at step k: the notion, k, the state in which it starts, and its pairs
abbrev pub witness_line : Notion → (k start : ℕ) → (pairs : List ℕ) → List ℕ
witness_line notion k start pairs = line (word notion ∷ decimal k ∷ decimal start ∷ pair_fields pairs)

-- no run does: the notion, k, `no alibi`
abbrev pub no_witness_line : Notion → (k : ℕ) → List ℕ
no_witness_line notion k = line (word notion ∷ decimal k ∷ (110 ∷ 111 ∷ []) ∷ (97 ∷ 108 ∷ 105 ∷ 98 ∷ 105 ∷ []) ∷ [])

-- `end`, and how many events were accepted
abbrev pub accepted_end : ℕ → List ℕ
accepted_end accepted = line ((101 ∷ 110 ∷ 100 ∷ []) ∷ decimal accepted ∷ [])

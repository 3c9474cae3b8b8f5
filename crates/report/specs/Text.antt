-- The lines of the log program, as bytes.
use Rattle.std.specs.Prelude.{ℕ, zero, suc, ◌+◌, ◌*◌, ◌-◌, ◌/◌, ◌%◌, ◌≤◌, ◌<◌, ◌≡◌, cond, ltb, length, get_or}
use mathlib.Core.List.{List, [], ◌∷◌, ◌++◌, map, foldl}
use Rattle.refusal.specs.declared.Refusal.{Refusal}
use Rattle.refusal.specs.Refusals.{number_of}
use Rattle.opacity.specs.declared.Verdict.{Verdict}
use Rattle.opacity.specs.declared.Verdict.TheVariants.{NoLeak, Leak}

-- n in base ten, where n has at most `most` digits
unfoldable pub digits : (most n : ℕ) → List ℕ
digits zero n = []
digits (suc most) n = cond (ltb n 10) ((48 + n) ∷ []) (digits most (n / 10) ++ ((48 + n % 10) ∷ []))

-- n in base ten. (Ten digits hold every number below 2 ^ 32, and say it: Decimal, in_base_ten)
unfoldable pub decimal : ℕ → List ℕ
decimal n = digits 10 n

-- the number that digits say
abbrev pub value_of : List ℕ → ℕ
value_of ds = foldl (λ (v d : ℕ). 10 * v + (d - 48)) 0 ds

-- 01: base ten. Digits `0` to `9`, at least one, a `0` in front where it is the only one, and they say the number
pub record BaseTen (n : ℕ) (ds : List ℕ) : Type 0 where
  pub some : 0 < length ds
  pub digit : (i : ℕ) → i < length ds → (48 ≤ get_or ds i 0) × (get_or ds i 0 ≤ 57)
  pub front : get_or ds 0 0 ≡ 48 → length ds ≡ 1
  pub value : value_of ds ≡ n

-- each part with the separator in front of it
abbrev pub led : ℕ → List (List ℕ) → List ℕ
led s [] = []
led s (x ∷ xs) = s ∷ (x ++ led s xs)

-- the parts, the separator between each two
abbrev pub joined : ℕ → List (List ℕ) → List ℕ
joined s [] = []
joined s (x ∷ xs) = x ++ led s xs

-- a line: its fields one space apart
abbrev pub line : List (List ℕ) → List ℕ
line fields = joined 32 fields ++ (10 ∷ [])

-- the steps of a leak, or `-`
abbrev pub steps : Verdict → List ℕ
steps NoLeak = 45 ∷ []
steps (Leak l) = decimal l

-- symbols, joined by commas, or `-`
abbrev pub symbols : List ℕ → List ℕ
symbols [] = 45 ∷ []
symbols (e ∷ es) = joined 44 (map decimal (e ∷ es))

-- an accepted event: its place from 1, its symbol (01: the event; 02: a lamp), the verdicts, how many states are possible (02: how many fit), the
-- symbols that it released (01: freed)
abbrev pub accepted_line : ℕ → ℕ → Verdict → Verdict → ℕ → List ℕ → List ℕ
accepted_line place symbol weak strong size released =
    line (decimal place ∷ decimal symbol ∷ steps weak ∷ steps strong ∷ decimal size ∷ symbols released ∷ [])

-- a log without event bytes (02: a chamber still in its opening): `0`, `-`, the opening verdicts, how many states are possible then, `-`
abbrev pub idle_line : Verdict → Verdict → ℕ → List ℕ
idle_line weak strong size = line (decimal 0 ∷ (45 ∷ []) ∷ steps weak ∷ steps strong ∷ decimal size ∷ (45 ∷ []) ∷ [])

-- a refused event: `!`, the byte, the number of the refusal
abbrev pub refused_line : ℕ → Refusal → List ℕ
refused_line byte refusal = line ((33 ∷ []) ∷ decimal byte ∷ decimal (number_of refusal) ∷ [])

-- `end`, and the numbers of accepted, released and pending events (01: freed, held)
abbrev pub end_line : ℕ → ℕ → ℕ → List ℕ
end_line accepted released pending = line ((101 ∷ 110 ∷ 100 ∷ []) ∷ decimal accepted ∷ decimal released ∷ decimal pending ∷ [])

-- a refused log: `refused`, and the number of the refusal
abbrev pub refused_log : Refusal → List ℕ
refused_log refusal = line ((114 ∷ 101 ∷ 102 ∷ 117 ∷ 115 ∷ 101 ∷ 100 ∷ []) ∷ decimal (number_of refusal) ∷ [])

-- the first leak of a log (02, S-8): its place, or `-` where there is none
abbrev pub place_line : ℕ → List ℕ
place_line place = line (decimal place ∷ [])

abbrev pub no_place_line : List ℕ
no_place_line = line ((45 ∷ []) ∷ [])

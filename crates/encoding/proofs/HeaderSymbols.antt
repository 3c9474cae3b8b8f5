-- The symbols of a decoded header. Assumes nothing.
use Prim.Native.Nat.{ℕ, zero, suc, ◌+◌, ◌*◌, ◌^◌, ◌≤◌, ◌<◌}
use mathlib.Core.Path.{◌≡◌, refl, sym, ap, ap₂, ◌∙◌}
use mathlib.Core.List.{List, [], ◌∷◌, ◌++◌}
use native.Mathlib.Omega.{arith}
use native.Mathlib.Nat.{zero-add}
use native.Mathlib.Decide.{dec_lt}
use lib.ListN.{length, get_or, length-append, get_or-append, get_or-eq_default}
use lib.Seq.{ext_get_or, get_or-append-add}
use Rattle.stateset.specs.Set.{bit, In}
use Rattle.stateset.proofs.Bits.{bit_lt, in_lt}
use Rattle.automaton.specs.Run.{SmallSymbols}
use Rattle.automaton.proofs.Spelling.{each_at, each_length}
use Rattle.bitfields.specs.Bits.{number_at}
use Rattle.encoding.specs.Transitions.{symbols_at}
use Rattle.encoding.specs.Encoding.{count_if, symbol_count}
use Rattle.encoding.specs.Answers.{FiveBits, given_symbol, symbol_if, symbol_for, header_symbols, front_end, given_symbols, header_of}
use Rattle.encoding.specs.declared.Front.{Front}
use Rattle.automaton.specs.declared.Header.{Header}

pub header_at : (observable : ℕ) (given : List ℕ) (e : ℕ) → e < 32 → get_or (header_symbols observable given) e 0 ≡ symbol_for observable given e
unfolding header_symbols
header_at observable given e h = each_at (symbol_for observable given) 0 32 e h ∙ ap (symbol_for observable given) (zero-add e)

pub header_length : (observable : ℕ) (given : List ℕ) → length (header_symbols observable given) ≡ 32
unfolding header_symbols
header_length observable given = each_length (symbol_for observable given) 0 32

-- an array with these symbols is the header's
pub header_is : (observable : ℕ) (given l : List ℕ) → length l ≡ 32 → ((e : ℕ) → e < 32 → get_or l e 0 ≡ symbol_for observable given e)
    → l ≡ header_symbols observable given
header_is observable given l size each =
    ext_get_or 0 l (header_symbols observable given) (size ∙ sym (header_length observable given))
    (λ e h. each e (omega arith) ∙ sym (header_at observable given e (omega arith)))

-- an observable event's is the one that is listed for it
pub symbol_observable : (observable : ℕ) (given : List ℕ) (e : ℕ) → In e observable → symbol_for observable given e ≡ given_symbol given e
symbol_observable observable given e i = ap (λ (b : ℕ). symbol_if b (given_symbol given e)) i

pub symbol_unobservable : (observable : ℕ) (given : List ℕ) (e : ℕ) → (In e observable → ⊥) → symbol_for observable given e ≡ 0
symbol_unobservable observable given e n =
    let other : bit e observable ≡ 1 → ⊥ = n in
    let z : bit e observable ≡ 0 = omega (arith, bit_lt e observable) in
    ap (λ (b : ℕ). symbol_if b (given_symbol given e)) z

pub symbol_small : (given : List ℕ) → FiveBits given → (e : ℕ) → e < 32 → given_symbol given e ≤ 31
symbol_small [] all e h = omega arith
symbol_small (x ∷ xs) all e h = all e

pub header_small : (observable : ℕ) (given : List ℕ) → observable < 2 ^ 32 → FiveBits given → SmallSymbols observable (header_symbols observable given)
header_small observable given h all e i =
    let l : e < 32 = in_lt 32 e observable h i in
    omega (arith, header_at observable given e l, symbol_observable observable given e i, symbol_small given all e l)

-- ---- the given that stand in the bits

symbols_length : (bits : List ℕ) (at n : ℕ) → length (symbols_at bits at n) ≡ n
unfolding symbols_at
symbols_length bits at zero = refl
symbols_length bits at (suc n) = omega (arith, symbols_length bits at n, length-append (symbols_at bits at n) (number_at bits (at + n * 5) 5 ∷ []))

symbols-at : (bits : List ℕ) (at n e : ℕ) → e < n → get_or (symbols_at bits at n) e 0 ≡ number_at bits (at + e * 5) 5
unfolding symbols_at
symbols-at bits at zero e h = absurd (omega arith)
symbols-at bits at (suc n) e h = go (dec_lt e n) (λ l. symbols-at bits at n e l)
  where
    go : Dec (e < n) → (e < n → get_or (symbols_at bits at n) e 0 ≡ number_at bits (at + e * 5) 5)
        → get_or (symbols_at bits at (suc n)) e 0 ≡ number_at bits (at + e * 5) 5
    go (yes l) ih = get_or-append (symbols_at bits at n) (number_at bits (at + n * 5) 5 ∷ []) 0 e (omega (arith, symbols_length bits at n)) ∙ ih l
    go (no l) ih =
        let same : n ≡ e = omega arith in
        let place : e ≡ length (symbols_at bits at n) + 0 = omega (arith, symbols_length bits at n) in
        ap (λ (k : ℕ). get_or (symbols_at bits at n ++ (number_at bits (at + n * 5) 5 ∷ [])) k 0) place
        ∙ get_or-append-add (symbols_at bits at n) (number_at bits (at + n * 5) 5 ∷ []) 0 0
        ∙ ap (λ (k : ℕ). number_at bits (at + k * 5) 5) same

pub symbol_some : (given : List ℕ) (e : ℕ) → 0 < length given → given_symbol given e ≡ get_or given e 0
symbol_some [] e h = absurd (omega arith)
symbol_some (x ∷ xs) e h = refl

pub symbol_own : (bits : List ℕ) (at n e : ℕ) → n ≡ 0 → given_symbol (symbols_at bits at n) e ≡ e
unfolding symbols_at
symbol_own bits at zero e z = refl
symbol_own bits at (suc n) e z = absurd (omega arith)

pub symbol_listed : (bits : List ℕ) (at n e : ℕ) → e < n → given_symbol (symbols_at bits at n) e ≡ number_at bits (at + e * 5) 5
symbol_listed bits at n e h = symbol_some (symbols_at bits at n) e (omega (arith, symbols_length bits at n)) ∙ symbols-at bits at n e h

pub symbol_behind : (bits : List ℕ) (at n e : ℕ) → (n ≡ 0 → ⊥) → n ≤ e → given_symbol (symbols_at bits at n) e ≡ 0
symbol_behind bits at n e z h =
    let some : n ≡ 0 → ⊥ = z in
    symbol_some (symbols_at bits at n) e (omega (arith, symbols_length bits at n))
    ∙ get_or-eq_default (symbols_at bits at n) 0 (omega (arith, symbols_length bits at n))

-- how many symbols are listed
pub count_none : (b n : ℕ) → b ≡ 0 → count_if b n ≡ 0
count_none zero n z = refl
count_none (suc b) n z = absurd (omega arith)

pub count_some : (b n : ℕ) → (b ≡ 0 → ⊥) → count_if b n ≡ n
count_some zero n z = absurd (z refl)
count_some (suc b) n z = refl

-- the header, from what was found
pub header_made : (bits : List ℕ) (f : Front) (at n : ℕ) (l : List ℕ) → at ≡ front_end f → n ≡ symbol_count f.fixed
    → l ≡ header_symbols f.observable (symbols_at bits at n)
    → ◌≡◌ {A = Header} (record { initial = f.fixed.initial; k = f.fixed.k; secret = f.secret; observable = f.observable; symbols = l })
    (header_of f (given_symbols bits f))
header_made bits f at n l a c e =
    ap (λ (s : List ℕ). record { initial = f.fixed.initial; k = f.fixed.k; secret = f.secret; observable = f.observable; symbols = s })
    (e ∙ ap₂ (λ (x y : ℕ). header_symbols f.observable (symbols_at bits x y)) a c)

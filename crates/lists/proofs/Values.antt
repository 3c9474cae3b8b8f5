-- The list of the first values of a function, and with 0 behind them. Assumes nothing.
use mathlib.Core.Path.{◌≡◌, refl, ap, sym, ◌∙◌}
use mathlib.Core.List.{List, [], ◌∷◌, ◌++◌}
use Prim.Native.Nat.{ℕ, zero, suc, ◌+◌, ◌-◌, ◌≤◌, ◌<◌}
use native.Mathlib.Omega.{arith}
use native.Mathlib.Decide.{dec_lt}
use lib.ListN.{length, get_or, replicate, length-append, length-replicate, get_or-append}
use lib.Seq.{get_or_at, get_or-append-add}
use Rattle.lists.proofs.Filled.{zeros}

-- the list of the first n values of a function
abbrev pub list_of : {A : Type 0} → (ℕ → A) → ℕ → List A
list_of f zero = []
list_of f (suc n) = list_of f n ++ f n ∷ []

pub length_list_of : {A : Type 0} (f : ℕ → A) (n : ℕ) → length (list_of f n) ≡ n
length_list_of f zero = refl
length_list_of f (suc n) = length-append (list_of f n) (f n ∷ []) ∙ omega (arith, length_list_of f n)

pub get_d_list_of : {A : Type 0} (f : ℕ → A) (n i : ℕ) (d : A) → i < n → get_or (list_of f n) i d ≡ f i
get_d_list_of f zero i d h = absurd (omega arith)
get_d_list_of f (suc n) i d h = go (get_d_list_of f n i d) (dec_lt i n)
  where
    go : (i < n → get_or (list_of f n) i d ≡ f i) → Dec (i < n) → get_or (list_of f (suc n)) i d ≡ f i
    go before (yes l) = get_or-append (list_of f n) (f n ∷ []) d i (omega (arith, length_list_of f n)) ∙ before l
    go before (no l) =
        let e : i ≡ n = omega arith in
        get_or_at (list_of f n) (f n) [] d i (length_list_of f n ∙ sym e) ∙ ap f (sym e)

-- numbers, and 0 behind them, up to a size
abbrev pub padded : (ℕ → ℕ) → (n size : ℕ) → List ℕ
padded f n size = list_of f n ++ replicate (size - n) 0

module _ (f : ℕ → ℕ) (n size : ℕ) where
  pub length_padded : n ≤ size → length (padded f n size) ≡ size
  length_padded h = length-append (list_of f n) (replicate (size - n) 0) ∙ omega (arith, length_list_of f n, length-replicate {A = ℕ} (size - n) 0)

  pub get_d_padded : (i : ℕ) → i < n → get_or (padded f n size) i 0 ≡ f i
  get_d_padded i h = get_or-append (list_of f n) (replicate (size - n) 0) 0 i (omega (arith, length_list_of f n)) ∙ get_d_list_of f n i 0 h

  pub get_d_behind : (i : ℕ) → n ≤ i → get_or (padded f n size) i 0 ≡ 0
  get_d_behind i h =
      let e : i ≡ length (list_of f n) + (i - n) = omega (arith, length_list_of f n) in
      ap (λ (k : ℕ). get_or (padded f n size) k 0) e ∙ get_or-append-add (list_of f n) (replicate (size - n) 0) (i - n) 0 ∙ zeros (size - n) (i - n)

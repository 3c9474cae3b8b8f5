-- Which events have a symbol other than their own number: tests of one event, of all below a number, and the symbols that are listed then.
use Prim.Native.Nat.{ℕ, zero, suc, ◌+◌, ◌≤◌, ◌<◌}
use mathlib.Core.Path.{◌≡◌, refl, sym, ap, ap₂, ◌∙◌}
use mathlib.Core.Bool.{Bool, true, false, not, ◌&&◌, ◌||◌, or-true, or-false, false≢true}
use mathlib.Core.List.{List, [], ◌∷◌, ◌++◌}
use mathlib.Core.Logic.{◌⊎◌, inl, inr, ⊎_elim}
use native.Mathlib.Omega.{arith}
use native.Mathlib.Nat.{zero-add, eq-or-lt_of_le, le_of_suc-le-suc}
use native.Mathlib.Decide.{ℕ_discrete, dec_lt}
use borrow.Author.Tests.{eq-eqb, ne_eqb}
use lib.Dec.{eqb}
use Rattle.std.specs.List.{list_any, range_with_len}
use Rattle.std.proofs.lemmas.List.Folds.{list_any-append}
use lib.ListN.{length, get_or, take, get_or-eq_default}
use Rattle.stateset.specs.Set.{bit, In}
use Rattle.stateset.proofs.Bits.{in?}
use Rattle.automaton.specs.Symbols.{each_from}
use Rattle.automaton.proofs.Spelling.{each_at, each_length}
use Rattle.encoding.specs.Encoding.{count_if}
use Rattle.encoding.specs.Table.{one_if}
use Rattle.encoding.specs.Answers.{FiveBits, given_symbol, symbol_if, symbol_for, header_symbols}
use Rattle.encoding.proofs.Listed.{or_split}
use Rattle.encoding.proofs.HeaderSymbols.{header_at, symbol_observable, symbol_unobservable, symbol_small, symbol_some}
use Rattle.canonical.specs.Meanings.{renamed, some_renamed, symbols_if}

-- one event
pub not_observable : (observable : ℕ) (symbols : ℕ → ℕ) (e : ℕ) → (In e observable → ⊥) → false ≡ renamed observable symbols e
not_observable observable symbols e n = rw (ne_eqb (bit e observable) 1 n)

pub own_number : (observable : ℕ) (symbols : ℕ → ℕ) (e : ℕ) → In e observable → symbols e ≡ e → false ≡ renamed observable symbols e
own_number observable symbols e i own = rw (eq-eqb (bit e observable) 1 i, eq-eqb (symbols e) e own)

pub other_number : (observable : ℕ) (symbols : ℕ → ℕ) (e : ℕ) → In e observable → (symbols e ≡ e → ⊥) → true ≡ renamed observable symbols e
other_number observable symbols e i other = rw (eq-eqb (bit e observable) 1 i, ne_eqb (symbols e) e other)

-- all below a number, as `any` tests them in turn; and where one is
range_snoc : (a n : ℕ) → range_with_len a (suc n) ≡ range_with_len a n ++ ((a + n) ∷ [])
range_snoc a zero = ap (λ (x : ℕ). x ∷ []) (omega arith)
range_snoc a (suc n) =
    ap (λ (l : List ℕ). a ∷ l) (range_snoc (a + 1) n ∙ ap (λ (x : ℕ). range_with_len (a + 1) n ++ (x ∷ [])) (omega arith))

pub any_renamed : (observable : ℕ) (symbols : ℕ → ℕ) (n : ℕ) → list_any (renamed observable symbols) (range_with_len 0 n) ≡ some_renamed observable symbols n
unfolding some_renamed
any_renamed observable symbols zero = refl
any_renamed observable symbols (suc n) =
    let e : 0 + n ≡ n = zero-add n in
    ap (list_any (renamed observable symbols)) (range_snoc 0 n)
    ∙ list_any-append (renamed observable symbols) (range_with_len 0 n) ((0 + n) ∷ [])
    ∙ ap₂ (λ (a b : Bool). a || b) (any_renamed observable symbols n) (or-false (renamed observable symbols (0 + n)) ∙ ap (renamed observable symbols) e)

pub some_found : (observable : ℕ) (symbols : ℕ → ℕ) (e n : ℕ) → renamed observable symbols e ≡ true → e < n → some_renamed observable symbols n ≡ true
unfolding some_renamed
some_found observable symbols e zero this l = absurd (omega arith)
some_found observable symbols e (suc n) this l =
    ⊎_elim (λ (q : e ≡ n). rw (← q, this, or-true)) (λ (q : e < n). rw (some_found observable symbols e n this q)) (eq-or-lt_of_le (le_of_suc-le-suc l))

-- where some is, there is such an event
pub record Renamed (observable : ℕ) (symbols : ℕ → ℕ) (n : ℕ) : Type 0 where
  pub event : ℕ
  pub below : event < n
  pub event_observable : In event observable
  pub other : symbols event ≡ event → ⊥

pub some_event : (observable : ℕ) (symbols : ℕ → ℕ) (n : ℕ) → some_renamed observable symbols n ≡ true → Renamed observable symbols n
unfolding some_renamed
some_event observable symbols zero h = absurd (false≢true h)
some_event observable symbols (suc n) h = go (or_split (some_renamed observable symbols n) (renamed observable symbols n) h) (some_event observable symbols n)
  where
    last : Dec (In n observable) → Dec (symbols n ≡ n) → renamed observable symbols n ≡ true → Renamed observable symbols (suc n)
    last (no out) _ this = absurd (false≢true (not_observable observable symbols n out ∙ this))
    last (yes i) (yes own) this = absurd (false≢true (own_number observable symbols n i own ∙ this))
    last (yes i) (no other) this = record { event = n; below = omega arith; event_observable = i; other = other }

    go : (some_renamed observable symbols n ≡ true) ⊎ (renamed observable symbols n ≡ true)
        → (some_renamed observable symbols n ≡ true → Renamed observable symbols n) → Renamed observable symbols (suc n)
    go (inl some) earlier = let x = earlier some in
        record { event = x.event; below = omega (arith, x.below); event_observable = x.event_observable; other = x.other }
    go (inr this) earlier = last (in? n observable) (ℕ_discrete (symbols n) n) this

-- where none is, each observable event has its own number
pub none_renamed : (observable : ℕ) (symbols : ℕ → ℕ) (n e : ℕ) → some_renamed observable symbols n ≡ false → e < n → In e observable → symbols e ≡ e
none_renamed observable symbols n e none l i = go (ℕ_discrete (symbols e) e)
  where
    go : Dec (symbols e ≡ e) → symbols e ≡ e
    go (yes own) = own
    go (no other) = absurd (false≢true (sym none ∙ some_found observable symbols e n (sym (other_number observable symbols e i other)) l))

-- without symbols none is
pub none_unlisted : (observable n : ℕ) → some_renamed observable (symbol_for observable []) n ≡ false
unfolding some_renamed
none_unlisted observable zero = refl
none_unlisted observable (suc n) = rw (none_unlisted observable n) (go (in? n observable))
  where
    go : Dec (In n observable) → renamed observable (symbol_for observable []) n ≡ false
    go (yes i) = sym (own_number observable (symbol_for observable []) n i (symbol_observable observable [] n i))
    go (no out) = sym (not_observable observable (symbol_for observable []) n out)

-- symbols that agree up to there
some_same : (observable : ℕ) (f g : ℕ → ℕ) (n : ℕ) → ((e : ℕ) → e < n → f e ≡ g e) → some_renamed observable f n ≡ some_renamed observable g n
unfolding some_renamed
some_same observable f g zero agree = refl
some_same observable f g (suc n) agree =
    ap₂ (λ (a b : Bool). a || b) (some_same observable f g n (λ e l. agree e (omega arith)))
    (ap (λ (x : ℕ). eqb (bit n observable) 1 && not (eqb x n)) (agree n (omega arith)))

-- the header's symbols agree with those of the meaning
pub needed_same : (observable : ℕ) (given : List ℕ) (n : ℕ) → n ≤ 32
    → some_renamed observable (λ e. get_or (header_symbols observable given) e 0) n ≡ some_renamed observable (symbol_for observable given) n
needed_same observable given n l =
    some_same observable (λ e. get_or (header_symbols observable given) e 0) (symbol_for observable given) n (λ e h. header_at observable given e (omega arith))

-- the first of them are those that are listed, where they are needed
take_each : (f : ℕ → ℕ) (first n m : ℕ) → n ≤ m → take n (each_from f first m) ≡ each_from f first n
take_each f first zero m l = refl
take_each f first (suc n) zero l = absurd (omega arith)
take_each f first (suc n) (suc m) l = ap (λ (xs : List ℕ). f first ∷ xs) (take_each f (suc first) n m (omega arith))

pub listed_first : (observable : ℕ) (given : List ℕ) (needed : Bool) (n : ℕ) → n ≤ 32
    → take (count_if (one_if needed) n) (header_symbols observable given) ≡ symbols_if needed (each_from (symbol_for observable given) 0 n)
unfolding header_symbols
listed_first observable given true n l = take_each (symbol_for observable given) 0 n 32 l
listed_first observable given false n l = refl

-- as many as the flag says, of five bits
pub listed_number : (f : ℕ → ℕ) (needed : Bool) (n : ℕ) → length (symbols_if needed (each_from f 0 n)) ≡ count_if (one_if needed) n
listed_number f true n = each_length f 0 n
listed_number f false n = refl

pub symbol_five : (observable : ℕ) (given : List ℕ) → FiveBits given → (e : ℕ) → e < 32 → symbol_for observable given e ≤ 31
symbol_five observable given five e l = go (bit e observable)
  where
    go : (b : ℕ) → symbol_if b (given_symbol given e) ≤ 31
    go zero = omega arith
    go (suc b) = symbol_small given five e l

pub listed_five : (f : ℕ → ℕ) (needed : Bool) (n : ℕ) → ((e : ℕ) → e < n → f e ≤ 31) → FiveBits (symbols_if needed (each_from f 0 n))
listed_five f false n small i = omega arith
listed_five f true n small i = go (dec_lt i n)
  where
    go : Dec (i < n) → get_or (each_from f 0 n) i 0 ≤ 31
    go (yes l) = omega (arith, each_at f 0 n i l, ap f (zero-add i), small i l)
    go (no l) = omega (arith, get_or-eq_default (each_from f 0 n) 0 {n = i} (omega (arith, each_length f 0 n)))

-- what is listed is read back as the symbol of each event
pub listed_back : (observable : ℕ) (f : ℕ → ℕ) (n : ℕ) → 0 < n → ((e : ℕ) → In e observable → e < n) → ((e : ℕ) → (In e observable → ⊥) → f e ≡ 0)
    → (e : ℕ) → symbol_for observable (symbols_if (some_renamed observable f n) (each_from f 0 n)) e ≡ f e
listed_back observable f n some below none e = go (some_renamed observable f n) refl (in? e observable)
  where
    go : (needed : Bool) → some_renamed observable f n ≡ needed → Dec (In e observable) → symbol_for observable (symbols_if needed (each_from f 0 n)) e ≡ f e
    go needed is (no out) = symbol_unobservable observable (symbols_if needed (each_from f 0 n)) e out ∙ sym (none e out)
    go true is (yes i) =
        symbol_observable observable (each_from f 0 n) e i ∙ symbol_some (each_from f 0 n) e (omega (arith, each_length f 0 n))
        ∙ each_at f 0 n e (below e i) ∙ ap f (zero-add e)
    go false is (yes i) = symbol_observable observable [] e i ∙ sym (none_renamed observable f n e is (below e i) i)

-- The three clauses of the form (02, S-9): they hold of the canonical form, and of no other encoding with its meaning. Assumes nothing.
use Prim.Native.Nat.{ℕ, ◌+◌, ◌<◌}
use mathlib.Core.Path.{◌≡◌, refl, sym, ap, subst, ◌∙◌}
use mathlib.Core.Bool.{Bool, true, false}
use mathlib.Core.List.{List, [], ◌∷◌}
use native.Mathlib.Omega.{arith}
use native.Mathlib.Nat.{zero-add}
use native.Mathlib.Decide.{dec_lt, ℕ_discrete}
use lib.ListN.{length, get_or, get_or-eq_default}
use lib.Seq.{ext_get_or}
use Rattle.stateset.specs.Set.{In}
use Rattle.stateset.proofs.Bits.{in?, in_lt}
use Rattle.automaton.specs.Symbols.{each_from}
use Rattle.automaton.proofs.Spelling.{each_at, each_length}
use Rattle.encoding.specs.Encoding.{Encoding, count_if}
use Rattle.encoding.specs.Table.{one_if}
use Rattle.encoding.specs.Answers.{given_symbol, symbol_for}
use Rattle.encoding.proofs.HeaderSymbols.{symbol_observable, symbol_unobservable, symbol_some}
use Rattle.decoding.proofs.Listing.{one_true}
use Rattle.encode.specs.Valid.{Valid}
use Rattle.encode.proofs.Accepted.{accepted_valid}
use Rattle.encode.proofs.Ordered.{ascending_one}
use Rattle.canonical.specs.Meanings.{Meaning, Means, meaning_of, rising_of, symbols_needed, symbols_if, InForm, canonical_of}
use Rattle.canonical.proofs.Renaming.{some_event, some_found, other_number, none_renamed}
use Rattle.canonical.proofs.OneForm.{form_ascending, form_count, form_lists, form_symbols}

-- a symbol that is 0 is 0 in the list, whether symbols are listed or not
zero_listed : (f : ℕ → ℕ) (needed : Bool) (n x : ℕ) → f x ≡ 0 → get_or (symbols_if needed (each_from f 0 n)) x 0 ≡ 0
zero_listed f false n x z = refl
zero_listed f true n x z = go (dec_lt x n)
  where
    go : Dec (x < n) → get_or (each_from f 0 n) x 0 ≡ 0
    go (yes l) = each_at f 0 n x l ∙ ap f (zero-add x) ∙ z
    go (no l) = get_or-eq_default (each_from f 0 n) 0 {n = x} (omega (arith, each_length f 0 n))

-- THE CANONICAL FORM IS IN THE FORM
valid_in_form : (e : Encoding) → Valid e → InForm (canonical_of (meaning_of e))
valid_in_form e v =
    let o = e.front.observable in
    let f = symbol_for o e.symbols in
    let n = e.front.fixed.topevent + 1 in
    let given = (canonical_of (meaning_of e)).symbols in
    let back : (x : ℕ) → In x o → given_symbol given x ≡ f x = λ x i. sym (symbol_observable o given x i) ∙ form_symbols e v x in
    record {
      rises = form_ascending (meaning_of e);
      symbols = (
        (λ flag.
            let r = some_event o f n (one_true (symbols_needed (meaning_of e)) flag) in
            record {
              event = r.event;
              event_observable = r.event_observable;
              other = λ own. r.other (sym (back r.event r.event_observable) ∙ own);
            }),
        (λ s.
            let i = s.event_observable in
            ap one_if (some_found o f s.event n (sym (other_number o f s.event i (λ own. s.other (back s.event i ∙ own))))
            (in_lt n s.event o v.small.events i))),
      );
      zeros = λ x out. zero_listed f (symbols_needed (meaning_of e)) n x (symbol_unobservable o e.symbols x out);
    }

pub form_in_form : (bytes : List ℕ) (m : Meaning) → Means bytes m → InForm (canonical_of m)
form_in_form bytes m x =
    subst (λ (n : Meaning). InForm (canonical_of n)) x.meaning (valid_in_form x.encoded (accepted_valid bytes x.decodes))

-- of an encoding in the form: it says that symbols follow exactly where they are needed, and lists those of its meaning
flag_is : (e : Encoding) → Valid e → InForm e → e.front.fixed.symbols ≡ one_if (symbols_needed (meaning_of e))
flag_is e v i = go (symbols_needed (meaning_of e)) refl
  where
    read : (x : ℕ) → In x e.front.observable → symbol_for e.front.observable e.symbols x ≡ given_symbol e.symbols x
    read x j = symbol_observable e.front.observable e.symbols x j

    go : (needed : Bool) → symbols_needed (meaning_of e) ≡ needed → e.front.fixed.symbols ≡ one_if needed
    go true is =
        let r = some_event e.front.observable (symbol_for e.front.observable e.symbols) (e.front.fixed.topevent + 1) is in
        i.symbols.1 (record {
          event = r.event;
          event_observable = r.event_observable;
          other = λ own. r.other (read r.event r.event_observable ∙ own);
        })
    go false is = unless (ℕ_discrete e.front.fixed.symbols 1)
      where
        unless : Dec (e.front.fixed.symbols ≡ 1) → e.front.fixed.symbols ≡ 0
        unless (no other) = omega (arith, v.small.fixed.symbols)
        unless (yes one) =
            let s = i.symbols.0 one in
            let j = s.event_observable in
            absurd (s.other (sym (read s.event j)
            ∙ none_renamed e.front.observable (symbol_for e.front.observable e.symbols) (e.front.fixed.topevent + 1) s.event is
            (in_lt (e.front.fixed.topevent + 1) s.event e.front.observable v.small.events j) j))

empty : (l : List ℕ) → length l ≡ 0 → l ≡ []
empty [] z = refl
empty (x ∷ xs) z = absurd (omega arith)

symbols_are : (e : Encoding) → InForm e → (needed : Bool) → length e.symbols ≡ count_if (one_if needed) (e.front.fixed.topevent + 1)
    → e.symbols ≡ symbols_if needed (each_from (symbol_for e.front.observable e.symbols) 0 (e.front.fixed.topevent + 1))
symbols_are e i false size = empty e.symbols size
symbols_are e i true size =
    let f = symbol_for e.front.observable e.symbols in
    let n = e.front.fixed.topevent + 1 in
    ext_get_or 0 e.symbols (each_from f 0 n) (size ∙ sym (each_length f 0 n))
    (λ x l. point x (in? x e.front.observable) ∙ sym (each_at f 0 n x (omega arith) ∙ ap f (zero-add x)))
  where
    point : (x : ℕ) → Dec (In x e.front.observable) → get_or e.symbols x 0 ≡ symbol_for e.front.observable e.symbols x
    point x (yes j) = sym (symbol_some e.symbols x (omega arith)) ∙ sym (symbol_observable e.front.observable e.symbols x j)
    point x (no out) = i.zeros x out ∙ sym (symbol_unobservable e.front.observable e.symbols x out)

-- AND IT IS THE ONLY ENCODING OF ITS MEANING THAT IS
pub one_in_form : (e : Encoding) → Valid e → InForm e → e ≡ canonical_of (meaning_of e)
one_in_form e v i =
    let m = meaning_of e in
    let flag = flag_is e v i in
    let count : e.front.fixed.count ≡ length (rising_of m) = sym (form_count e v) in
    let number : length e.symbols ≡ count_if (one_if (symbols_needed m)) (e.front.fixed.topevent + 1) =
    v.number ∙ ap (λ (b : ℕ). count_if b (e.front.fixed.topevent + 1)) flag in
    let given = symbols_are e i (symbols_needed m) number in
    let ts : e.transitions ≡ rising_of m = ascending_one e.transitions (rising_of m) i.rises (form_ascending m) (λ t. sym (form_lists e v t)) in
    λ j. record {
      front = record {
        fixed = record {
          topstate = e.front.fixed.topstate;
          topevent = e.front.fixed.topevent;
          k = e.front.fixed.k;
          initial = e.front.fixed.initial;
          count = count j;
          symbols = flag j;
        };
        secret = e.front.secret;
        observable = e.front.observable;
      };
      symbols = given j;
      transitions = ts j;
    }

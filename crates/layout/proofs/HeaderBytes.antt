-- The bytes of two headers that are the same but for the symbols of unobservable events (02, S-2) hold the same automaton but for these. Assumes nothing.
use mathlib.Core.Path.{◌≡◌, refl, sym, ap₂, subst, ◌∙◌}
use mathlib.Core.List.{List}
use Prim.Native.Nat.{ℕ, zero, suc, ◌+◌, ◌*◌, ◌≤◌, ◌<◌}
use native.Mathlib.Omega.{arith}
use native.Mathlib.Decide.{dec_lt}
use lib.ListN.{length, get_or, get_or-eq_default}
use Rattle.stateset.specs.Set.{In}
use Rattle.automaton.specs.Run.{automaton_of}
use Rattle.automaton.specs.Symbols.{SameSymbols}
use Rattle.layout.specs.Sizes.{word_size, half_size, event_count, initial_place, header_kPlace, header_secret_place, observable_place, symbols_place, header_size}
use Rattle.layout.specs.Layout.{little_endian_at, bytes_at, header_at}
use Rattle.layout.proofs.Bytes.{number_more, number_none, part_length, part_at}

-- all that stands before the symbols is the same, and of these those of observable events
pub record SameHeaders (a b : List ℕ) : Type 0 where
  pub size : length a ≡ header_size
  pub other_size : length b ≡ header_size
  pub front : (i : ℕ) → i < symbols_place → get_or a i 0 ≡ get_or b i 0
  pub symbols : (e : ℕ) → e < event_count → In e (header_at a).observable → get_or a (symbols_place + e) 0 ≡ get_or b (symbols_place + e) 0

number_same : (a b : List ℕ) (at n : ℕ) → ((i : ℕ) → at ≤ i → i < at + n → get_or a i 0 ≡ get_or b i 0) → little_endian_at a at n ≡ little_endian_at b at n
number_same a b at zero same = number_none a at ∙ sym (number_none b at)
number_same a b at (suc n) same =
    number_more a at n
    ∙ ap₂ (λ (x y : ℕ). x + 256 * y) (same at (omega arith) (omega arith)) (number_same a b (suc at) n (λ i l h. same i (omega arith) (omega arith)))
    ∙ sym (number_more b at n)

module _ (a b : List ℕ) (x : SameHeaders a b) where
  pub same_k : (header_at a).k ≡ (header_at b).k
  same_k = x.front header_kPlace (omega arith)

  pub same_secret : (header_at a).secret ≡ (header_at b).secret
  same_secret = number_same a b header_secret_place word_size (λ i l h. x.front i (omega arith))

  same_observable : (header_at a).observable ≡ (header_at b).observable
  same_observable = number_same a b observable_place half_size (λ i l h. x.front i (omega arith))

  symbol_same : (e : ℕ) → In e (header_at a).observable → get_or (bytes_at a symbols_place event_count) e 0 ≡ get_or (bytes_at b symbols_place event_count) e 0
  symbol_same e i = go (dec_lt e event_count)
    where
      go : Dec (e < event_count) → get_or (bytes_at a symbols_place event_count) e 0 ≡ get_or (bytes_at b symbols_place event_count) e 0
      go (yes l) = part_at a symbols_place event_count e l ∙ x.symbols e l i ∙ sym (part_at b symbols_place event_count e l)
      go (no l) =
          get_or-eq_default (bytes_at a symbols_place event_count) 0 (omega (arith, part_length a symbols_place event_count (omega (arith, x.size))))
          ∙ sym
          (get_or-eq_default (bytes_at b symbols_place event_count) 0 (omega (arith, part_length b symbols_place event_count (omega (arith, x.other_size)))))

  pub same_symbols : (t : List ℕ) → SameSymbols (automaton_of t (header_at a)) (automaton_of t (header_at b))
  same_symbols t =
      record {
        same = record { table = refl; initial = x.front initial_place (omega arith); observable = same_observable };
        symbols_are = λ e i. symbol_same e i;
      }

  pub headers_back : SameHeaders b a
  headers_back =
      record {
        size = x.other_size;
        other_size = x.size;
        front = λ i l. sym (x.front i l);
        symbols = λ e l i. sym (x.symbols e l (subst (λ (w : ℕ). In e w) (sym same_observable) i));
      }

-- What a decoded header says of symbols (02, S-2). Assumes nothing.
use Prim.Native.Nat.{ℕ, ◌+◌, ◌≤◌, ◌<◌}
use mathlib.Core.Path.{◌≡◌, sym, ap, subst, ◌∙◌}
use mathlib.Core.List.{List, []}
use native.Mathlib.Omega.{arith}
use lib.ListN.{get_or}
use lib.Seq.{ext_get_or}
use Rattle.stateset.specs.Set.{In}
use Rattle.stateset.proofs.Bits.{in?, in_lt}
use Rattle.automaton.specs.Run.{automaton_of}
use Rattle.automaton.specs.Symbols.{WithoutSymbols}
use Rattle.bitfields.specs.Bits.{bits_of}
use Rattle.bitfields.specs.Parser.{done}
use Rattle.bitfields.proofs.Parsing.{on_done, same_done}
use Rattle.encoding.specs.Encoding.{Encoding, encoding, front, symbols, symbol_count, Preamble, preamble}
use Rattle.encoding.specs.Answers.{given_symbol, header_symbols, header_of}
use Rattle.encoding.specs.declared.Front.{Front}
use Rattle.encoding.proofs.Ended.{encoding_read, encoding_in}
use Rattle.encoding.proofs.HeaderSymbols.{header_at, header_length, symbol_observable, symbol_unobservable, count_none}

-- an observable event is at most the top event: one above it has no symbol, as every unobservable one
pub below_top : (bs : List ℕ) {d : Encoding} {n : ℕ} → encoding (bits_of bs) 0 ≡ done d n → (e : ℕ) → In e d.front.observable → e ≤ d.front.fixed.topevent
below_top bs {d} is e i = let l = in_lt (d.front.fixed.topevent + 1) e d.front.observable (encoding_in bs is).front.events i in omega arith

-- EACH OF THE 32 SYMBOLS OF A HEADER: the one that is given for an observable event, or its own number where none are given; 0 for every other
pub header_given : (f : Front) (given : List ℕ) (e : ℕ) → e < 32 → In e f.observable → get_or (header_of f given).symbols e 0 ≡ given_symbol given e
header_given f given e h i = header_at f.observable given e h ∙ symbol_observable f.observable given e i

pub header_none : (f : Front) (given : List ℕ) (e : ℕ) → e < 32 → (In e f.observable → ⊥) → get_or (header_of f given).symbols e 0 ≡ 0
header_none f given e h n = header_at f.observable given e h ∙ symbol_unobservable f.observable given e n

-- EQUAL AUTOMATA HAVE EQUAL HEADERS, whatever the encodings say of the symbols of unobservable events, and whether own numbers are given or not
pub equal_headers : (f g : Front) (a b : List ℕ) → f.fixed.initial ≡ g.fixed.initial → f.fixed.k ≡ g.fixed.k → f.secret ≡ g.secret
    → f.observable ≡ g.observable
    → ((e : ℕ) → e < 32 → In e f.observable → given_symbol a e ≡ given_symbol b e) → header_of f a ≡ header_of g b
equal_headers f g a b start back secret observable same =
    let o = f.observable in
    let each : (e : ℕ) → e < 32 → get_or (header_symbols o a) e 0 ≡ get_or (header_symbols o b) e 0 = λ e h.
    elim (in? e o) [
      | yes i ↦ header_at o a e h ∙ symbol_observable o a e i ∙ same e h i ∙ sym (header_at o b e h ∙ symbol_observable o b e i)
      | no n ↦ header_at o a e h ∙ symbol_unobservable o a e n ∙ sym (header_at o b e h ∙ symbol_unobservable o b e n)
    ] in
    let list : header_symbols o a ≡ header_symbols o b =
    ext_get_or 0 (header_symbols o a) (header_symbols o b) (header_length o a ∙ sym (header_length o b)) (λ e h. each e (omega (arith, header_length o a))) in
    let symbols_are : header_symbols f.observable a ≡ header_symbols g.observable b = list ∙ ap (λ (x : ℕ). header_symbols x b) observable in
    λ i. record { initial = start i; k = back i; secret = secret i; observable = observable i; symbols = symbols_are i }

-- where the bit is 0, none are given
preamble_none : (bits : List ℕ) {d : Preamble} {n : ℕ} → preamble bits 0 ≡ done d n → d.front.fixed.symbols ≡ 0 → d.symbols ≡ []
unfolding preamble symbols
preamble_none bits {d} e zeroed =
    on_done (front bits 0) _ e λ f n1 e1 r1.
    on_done (symbols (symbol_count f.fixed) bits n1) _ r1 λ given n2 e2 r2.
    let s : record { front = f; symbols = given } ≡ d = (same_done r2).0 in
    let none : symbol_count f.fixed ≡ 0 =
    count_none f.fixed.symbols (f.fixed.topevent + 1) (ap (λ (x : Preamble). x.front.fixed.symbols) s ∙ zeroed) in
    sym (ap (λ (x : Preamble). x.symbols) s) ∙ sym (same_done (subst (λ (k : ℕ). symbols k bits n1 ≡ done given n2) none e2)).0

-- WITHOUT SYMBOLS IN THE ENCODING the decoded automaton is one without symbols: each observable event has its own number
pub decoded_without : (bytes : List ℕ) {d : Encoding} {n : ℕ} → encoding (bits_of bytes) 0 ≡ done d n → d.front.fixed.symbols ≡ 0
    → (t : List ℕ) → WithoutSymbols (automaton_of t (header_of d.front d.symbols))
decoded_without bytes {d} is zeroed t =
    let none = preamble_none (bits_of bytes) (encoding_read (bits_of bytes) is).preamble_read zeroed in
    record { own = λ e h i. header_given d.front d.symbols e h i ∙ ap (λ (l : List ℕ). given_symbol l e) none }

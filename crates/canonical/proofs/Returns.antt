-- What `write_form` has found before it writes, and the promise of `canonical` at each of its returns.
use Prim.Native.Nat.{ℕ, ◌+◌, ◌*◌, ◌≤◌, ◌<◌}
use mathlib.Core.Path.{◌≡◌, sym, ap, subst, ◌∙◌}
use mathlib.Core.Bool.{Bool}
use mathlib.Core.List.{List, ◌++◌}
use native.Mathlib.Omega.{arith}
use lib.ListN.{length, get_or, take, drop}
use Rattle.bitfields.specs.Bits.{bits_of}
use Rattle.encoding.specs.Encoding.{Encoding, count_if, encoding}
use Rattle.encoding.specs.Table.{one_if}
use Rattle.encoding.specs.Answers.{FrontSmall, encoding_at, preamble_end, given_symbols, header_symbols, encoding_means}
use Rattle.encoding.specs.declared.Front.{Front}
use Rattle.std.specs.Prelude.{Ok}
use Rattle.encoding.proofs.Ended.{encoding_in, symbols_few}
use Rattle.encoding.proofs.HeaderSymbols.{header_length}
use Rattle.encode.specs.Packing.{size_of}
use Rattle.encode.specs.FieldBits.{encoding_bytes}
use Rattle.encode.specs.Valid.{Valid}
use Rattle.encode.proofs.Accepted.{accepted_valid}
use Rattle.canonical.specs.Meanings.{Meaning, meaning_of, rising_of, some_renamed, symbols_needed, canonical_of, canonical_bits, canonical_bytes}
use Rattle.canonical.specs.Rows.{Stand, with_flag, form_at}
use Rattle.canonical.specs.Writing.{wrote, refuse, Writing}
use Rattle.canonical.proofs.Renaming.{needed_same, listed_first}
use Rattle.canonical.proofs.OneForm.{form_count, form_bits, bytes_length, flag_small}

-- what an accepted encoding with this front means
abbrev pub meant : List ℕ → Front → Meaning
meant bytes f = meaning_of (encoding_at (bits_of bytes) f)

-- of an accepted encoding: its symbols, the front of its form, and how many bytes the form takes
pub record Found (bytes : List ℕ) (f form : Front) (symbols : List ℕ) (size : ℕ) : Type 0 where
  pub accepted : encoding (bits_of bytes) 0 ≡ encoding_means (bits_of bytes) (Ok f)
  pub symbols_are : symbols ≡ header_symbols f.observable (given_symbols (bits_of bytes) f)
  pub form_is : form ≡ with_flag f (one_if (symbols_needed (meant bytes f)))
  pub size_is : size ≡ size_of (preamble_end form + form.fixed.count * 17)

-- the symbols that were tested are those of the meaning
needed_is : (bytes : List ℕ) (f : Front) (symbols : List ℕ) (needed : Bool) → FrontSmall f
    → symbols ≡ header_symbols f.observable (given_symbols (bits_of bytes) f)
    → needed ≡ some_renamed f.observable (λ e. get_or symbols e 0) (f.fixed.topevent + 1) → needed ≡ symbols_needed (meant bytes f)
needed_is bytes f symbols needed small s n =
    n ∙ ap (λ (l : List ℕ). some_renamed f.observable (λ e. get_or l e 0) (f.fixed.topevent + 1)) s
    ∙ needed_same f.observable (given_symbols (bits_of bytes) f) (f.fixed.topevent + 1) (omega (arith, small.fixed.topevent))

-- the numbers of the form's front are small too
pub flagged_small : (f form : Front) (needed : Bool) → FrontSmall f → form ≡ with_flag f (one_if needed) → FrontSmall form
flagged_small f form needed small e =
    let fixed = small.fixed in
    subst FrontSmall (sym e) (record {
      fixed = record {
        topstate = fixed.topstate;
        topevent = fixed.topevent;
        k = fixed.k;
        initial = fixed.initial;
        count = fixed.count;
        symbols = flag_small needed;
      };
      states = small.states;
      events = small.events;
    })

pub found : {bytes : List ℕ} {f form : Front} {symbols : List ℕ} {size : ℕ} (needed : Bool)
    → encoding (bits_of bytes) 0 ≡ encoding_means (bits_of bytes) (Ok f) → symbols ≡ header_symbols f.observable (given_symbols (bits_of bytes) f)
    → needed ≡ some_renamed f.observable (λ e. get_or symbols e 0) (f.fixed.topevent + 1) → form ≡ with_flag f (one_if needed)
    → size ≡ size_of (preamble_end form + form.fixed.count * 17) → Found bytes f form symbols size
found {bytes} {f} {symbols = symbols} needed accepted s n form size = record {
  accepted = accepted;
  symbols_are = s;
  form_is = form ∙ ap (λ (b : Bool). with_flag f (one_if b)) (needed_is bytes f symbols needed (encoding_in bytes accepted).front s n);
  size_is = size;
}

-- what is written is the canonical form
form_canonical : (bits : List ℕ) (f : Front) → Valid (encoding_at bits f)
    → form_at bits (preamble_end f) (with_flag f (one_if (symbols_needed (meaning_of (encoding_at bits f))))) (header_symbols f.observable (given_symbols bits f))
    ≡ canonical_of (meaning_of (encoding_at bits f))
form_canonical bits f v =
    let m = meaning_of (encoding_at bits f) in
    let count : f.fixed.count ≡ length (rising_of m) = sym (form_count (encoding_at bits f) v) in
    let given : take (count_if (one_if (symbols_needed m)) (f.fixed.topevent + 1)) (header_symbols f.observable (given_symbols bits f)) ≡ (canonical_of m
    ).symbols =
    listed_first f.observable (given_symbols bits f) (symbols_needed m) (f.fixed.topevent + 1) (omega (arith, v.small.fixed.topevent)) in
    λ i. record {
      front = record {
        fixed = record {
          topstate = f.fixed.topstate;
          topevent = f.fixed.topevent;
          k = f.fixed.k;
          initial = f.fixed.initial;
          count = count i;
          symbols = one_if (symbols_needed m);
        };
        secret = f.secret;
        observable = f.observable;
      };
      symbols = given i;
      transitions = rising_of m;
    }

pub found_form : {bytes : List ℕ} {f form : Front} {symbols : List ℕ} {size : ℕ} (at : ℕ) → Found bytes f form symbols size → at ≡ preamble_end f
    → form_at (bits_of bytes) at form symbols ≡ canonical_of (meant bytes f)
found_form {bytes} {f} at x a =
    (λ i. form_at (bits_of bytes) (a i) (x.form_is i) (x.symbols_are i)) ∙ form_canonical (bits_of bytes) f (accepted_valid bytes x.accepted)

-- the size that is tested is that of the form
pub found_size : {bytes : List ℕ} {f form : Front} {symbols : List ℕ} {size : ℕ} → Found bytes f form symbols size
    → size ≡ size_of (length (canonical_bits (meant bytes f)))
found_size {bytes} {f} x =
    x.size_is ∙ ap (λ (g : Front). size_of (preamble_end g + g.fixed.count * 17)) x.form_is
    ∙ ap size_of (sym (form_bits (encoding_at (bits_of bytes) f) (accepted_valid bytes x.accepted)))

-- the transitions stand in the bytes
pub found_stand : {bytes : List ℕ} {f form : Front} {symbols : List ℕ} {size : ℕ} (at : ℕ) → Found bytes f form symbols size → at ≡ preamble_end f
    → Stand bytes at form.fixed.count
found_stand {bytes} {f} {form} at x a =
    let inside = encoding_in bytes x.accepted in
    let fixed = inside.front.fixed in
    let count : form.fixed.count ≡ f.fixed.count = ap (λ (g : Front). g.fixed.count) x.form_is in (
      omega (arith, symbols_few f.fixed fixed, fixed.topstate, fixed.topevent),
      omega (arith, fixed.count),
      omega (arith, inside.ends),
    )

pub found_length : {bytes : List ℕ} {f form : Front} {symbols : List ℕ} {size : ℕ} → Found bytes f form symbols size → length symbols ≡ 32
found_length {bytes} {f} x = ap length x.symbols_are ∙ header_length f.observable (given_symbols (bits_of bytes) f)

-- THE PROMISE where there is no space, and where the form was written
pub lacking : {bytes : List ℕ} {f form : Front} {symbols : List ℕ} {size : ℕ} (output : List ℕ) → Found bytes f form symbols size → length output < size
    → Writing bytes output (refuse 10) output
lacking {bytes} {f} output x l = Writing.too_small _ _ x.accepted (omega (arith, found_size x, bytes_length (meant bytes f)))

pub written : {bytes : List ℕ} {f form : Front} {symbols : List ℕ} {size : ℕ} (at : ℕ) (output after : List ℕ) → Found bytes f form symbols size
    → at ≡ preamble_end f → size ≤ length output → after ≡ encoding_bytes (form_at (bits_of bytes) at form symbols) ++ drop size output
    → Writing bytes output (wrote size) after
unfolding canonical_bytes
written {bytes} {f} {size = size} at output after x a l w =
    let s : size ≡ length (canonical_bytes (meant bytes f)) = found_size x ∙ sym (bytes_length (meant bytes f)) in
    let is : after ≡ canonical_bytes (meant bytes f) ++ drop size output =
    w ∙ ap (λ (e : Encoding). encoding_bytes e ++ drop size output) (found_form at x a) in
    rw (is, s) (Writing.written _ _ x.accepted (omega arith))

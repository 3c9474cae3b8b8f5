-- What is saved reads back: a header, further secrets, an estimator, an enforcer, an exploration and a run whose numbers fit their bytes and whose arrays
-- have their sizes, and a verdict. Assumes nothing.
use Prim.Native.Nat.{ℕ, zero, suc, ◌+◌, ◌*◌, ◌/◌, ◌%◌, ◌^◌, ◌≤◌, ◌<◌}
use mathlib.Core.Path.{◌≡◌, refl, ap, sym, ◌∙◌}
use mathlib.Core.Bool.{Bool, true, false}
use mathlib.Core.List.{List, [], ◌∷◌, ◌++◌, append_assoc, append-nil}
use native.Mathlib.Omega.{arith}
use borrow.Author.Tests.{ne_eqb}
use lib.Pow.{pow-add}
use lib.ListN.{length, get_or, take, length-append}
use lib.Seq.{take_at, drop_at, get_or_at}
use Rattle.automaton.specs.declared.Header.{Header}
use Rattle.opacity.specs.declared.Notion.{Notion}
use Rattle.opacity.specs.declared.Notion.TheVariants.{Weak, Strong}
use Rattle.opacity.specs.declared.Secret.{Secret}
use Rattle.opacity.specs.declared.Further.{Further}
use Rattle.verifier.specs.declared.Estimator.{Estimator}
use Rattle.opacity.specs.Secrets.{place_of}
use Rattle.opacity.specs.Verdicts.{Steps, none, leak, Bounded}
use Rattle.enforcer.specs.declared.Enforcer.{Enforcer}
use Rattle.explore.specs.declared.Exploration.{Exploration}
use Rattle.layout.specs.Sizes as sizes
use Rattle.layout.specs.Layout.{little_endian_at, little_endian_bytes, word_bytes, words_at, words_bytes, bytes_at, header_at, header_bytes, HeaderSized}
use Rattle.layout.specs.Layout.{place_at, place_bytes, further_at, further_bytes, FurtherSized, estimator_at, estimator_bytes, EstimatorSized, EstimatorSaved}
use Rattle.layout.specs.Layout.{notion_at, notion_byte, enforcer_at, enforcer_bytes, EnforcerSized, EnforcerSaved, verdict_at, verdict_byte}
use Rattle.layout.specs.Layout.{exploration_bytes, ExplorationSaved, NumberSaved, run_bytes, RunSaved, valid_bytes, valid_at}
use Rattle.layout.proofs.Bytes.{number_more, number_none, bytes_length, words_bytes_length}

-- a text stands in the bytes from a place on, between others
record Stands (all : List ℕ) (at : ℕ) (text : List ℕ) : Type 0 where
  front : List ℕ
  behind : List ℕ
  is : all ≡ front ++ (text ++ behind)
  place : at ≡ length front

stands_all : (text : List ℕ) → Stands text 0 text
stands_all text = record { front = []; behind = []; is = sym (append-nil text); place = refl }

-- of two texts the first stands there, and the second behind it
module _ {all : List ℕ} {at : ℕ} (xs ys : List ℕ) (x : Stands all at (xs ++ ys)) where
  stands_first : Stands all at xs
  stands_first =
      record { front = x.front; behind = ys ++ x.behind; is = x.is ∙ ap (λ (l : List ℕ). x.front ++ l) (append_assoc xs ys x.behind); place = x.place }

  stands_second : (next : ℕ) → at + length xs ≡ next → Stands all next ys
  unfolding stands_first
  stands_second next e =
      record {
        front = x.front ++ xs;
        behind = x.behind;
        is = stands_first.is ∙ sym (append_assoc x.front xs (ys ++ x.behind));
        place = sym e ∙ omega (arith, x.place, length-append x.front xs);
      }

-- one byte
byte_back : {all : List ℕ} {at x : ℕ} {xs : List ℕ} → Stands all at (x ∷ xs) → get_or all at 0 ≡ x
byte_back {at = at} {x} {xs} s = ap (λ (l : List ℕ). get_or l at 0) s.is ∙ get_or_at s.front x (xs ++ s.behind) 0 at (sym s.place)

-- bytes as they are
part_back : {all xs : List ℕ} {at : ℕ} (n : ℕ) → length xs ≡ n → Stands all at xs → bytes_at all at n ≡ xs
part_back {xs = xs} {at} n e s =
    ap (λ (l : List ℕ). bytes_at l at n) s.is ∙ ap (take n) (drop_at s.front (xs ++ s.behind) at (sym s.place)) ∙ take_at xs s.behind n e

-- a number
number_back : {all : List ℕ} {at : ℕ} (n w : ℕ) → w < 2 ^ (8 * n) → Stands all at (little_endian_bytes n w) → little_endian_at all at n ≡ w
unfolding little_endian_bytes
number_back {all} {at} zero w h s = number_none all at ∙ omega arith
number_back {all} {at} (suc n) w h s =
    let here : get_or all at 0 ≡ w % 256 = byte_back s in
    let later : little_endian_at all (suc at) n ≡ w / 256 =
    number_back n (w / 256) (smaller w n h) (stands_second (w % 256 ∷ []) (little_endian_bytes n (w / 256)) s (suc at) (omega arith)) in
    number_more all at n ∙ omega (arith, here, later)
  where
    smaller : (w n : ℕ) → w < 2 ^ (8 * suc n) → w / 256 < 2 ^ (8 * n)
    smaller w n h =
        let e : 8 * suc n ≡ 8 * n + 8 = omega arith in
        omega (arith, rw e at h, pow-add 2 (8 * n) 8)

-- words
words_back : {all : List ℕ} {at : ℕ} (ws : List ℕ) → ((l : ℕ) → get_or ws l 0 < 2 ^ 64) → Stands all at (words_bytes ws) → words_at all at (length ws) ≡ ws
unfolding words_at words_bytes
words_back [] small s = refl
words_back {at = at} (w ∷ ws) small s =
    let first = number_back sizes.word_size w (small 0) (stands_first (word_bytes w) (words_bytes ws) s) in
    let next = stands_second (word_bytes w) (words_bytes ws) s (at + sizes.word_size) (omega (arith, bytes_length sizes.word_size w)) in
    let others = words_back {at = at + sizes.word_size} ws (λ l. small (suc l)) next in
    λ i. first i ∷ others i

-- a header
pub header_length : (h : Header) → length h.symbols ≡ sizes.event_count → length (header_bytes h) ≡ sizes.header_size
header_length h x =
    omega (
      arith,
      length-append (word_bytes h.secret) (little_endian_bytes sizes.half_size h.observable ++ h.symbols),
      length-append (little_endian_bytes sizes.half_size h.observable) h.symbols,
      bytes_length sizes.word_size h.secret,
      bytes_length sizes.half_size h.observable,
    )

pub header_back : (h : Header) → HeaderSized h → header_at (header_bytes h) ≡ h
header_back h x =
    let secret = word_bytes h.secret in
    let observable = little_endian_bytes sizes.half_size h.observable in
    let all = stands_all (header_bytes h) in
    let from-k = stands_second (h.initial ∷ []) (h.k ∷ secret ++ (observable ++ h.symbols)) all sizes.header_kPlace refl in
    let from-secret = stands_second (h.k ∷ []) (secret ++ (observable ++ h.symbols)) from-k sizes.header_secret_place refl in
    let from-observable =
    stands_second secret (observable ++ h.symbols) from-secret sizes.observable_place (omega (arith, bytes_length sizes.word_size h.secret)) in
    let from-symbols =
    stands_second observable h.symbols from-observable sizes.symbols_place (omega (arith, bytes_length sizes.half_size h.observable)) in
    let s = number_back sizes.word_size h.secret x.secret (stands_first secret (observable ++ h.symbols) from-secret) in
    let o = number_back sizes.half_size h.observable x.observable (stands_first observable h.symbols from-observable) in
    let n = part_back sizes.event_count x.symbols from-symbols in
    λ i. record { initial = h.initial; k = h.k; secret = s i; observable = o i; symbols = n i }

-- a further secret
pub place_length : (c : Secret) → length (place_bytes c) ≡ sizes.secret_size
place_length c = length-append (word_bytes c.states) (c.k ∷ []) ∙ omega (arith, bytes_length sizes.word_size c.states)

place_back : {all : List ℕ} {at : ℕ} (c : Secret) → c.states < 2 ^ 64 → Stands all at (place_bytes c) → place_at all at ≡ c
place_back {at = at} c small s =
    let bytes = word_bytes c.states in
    let states = number_back sizes.word_size c.states small (stands_first bytes (c.k ∷ []) s) in
    let k = byte_back (stands_second bytes (c.k ∷ []) s (at + sizes.secret_kPlace) (omega (arith, bytes_length sizes.word_size c.states))) in
    λ i. record { states = states i; k = k i }

-- three elements are the whole of an array of three
three_of : (l : List ℕ) → length l ≡ 3 → get_or l 0 0 ∷ get_or l 1 0 ∷ get_or l 2 0 ∷ [] ≡ l
three_of [] e = absurd (omega arith)
three_of (a ∷ []) e = absurd (omega arith)
three_of (a ∷ b ∷ []) e = absurd (omega arith)
three_of (a ∷ b ∷ c ∷ []) e = refl
three_of (a ∷ b ∷ c ∷ d ∷ l) e = absurd (omega arith)

-- further secrets: three places behind their number
pub further_length : (f : Further) → length (further_bytes f) ≡ sizes.further_size
further_length f =
    omega (
      arith,
      length-append (place_bytes (place_of f 0)) (place_bytes (place_of f 1) ++ place_bytes (place_of f 2)),
      length-append (place_bytes (place_of f 1)) (place_bytes (place_of f 2)),
      place_length (place_of f 0),
      place_length (place_of f 1),
      place_length (place_of f 2),
    )

further_back : {all : List ℕ} {at : ℕ} (f : Further) → FurtherSized f → Stands all at (further_bytes f) → further_at all at ≡ f
further_back {at = at} f x s =
    let p = place_bytes (place_of f 0) in
    let q = place_bytes (place_of f 1) in
    let r = place_bytes (place_of f 2) in
    let from_First = stands_second (f.count ∷ []) (p ++ (q ++ r)) s (at + sizes.first_secret_place) refl in
    let from_Second = stands_second p (q ++ r) from_First (at + sizes.second_secret_place) (omega (arith, place_length (place_of f 0))) in
    let from-third = stands_second q r from_Second (at + sizes.third_secret_place) (omega (arith, place_length (place_of f 1))) in
    let count = byte_back s in
    let first = place_back (place_of f 0) (x.words 0) (stands_first p (q ++ r) from_First) in
    let second = place_back (place_of f 1) (x.words 1) (stands_first q r from_Second) in
    let third = place_back (place_of f 2) (x.words 2) from-third in
    let states = (λ i. (first i).states ∷ (second i).states ∷ (third i).states ∷ []) ∙ three_of f.states x.states in
    let k = (λ i. (first i).k ∷ (second i).k ∷ (third i).k ∷ []) ∙ three_of f.k x.k in
    λ i. record { states = states i; k = k i; count = count i }

-- an estimator
pub estimator_length : (s : Estimator) → EstimatorSized s → length (estimator_bytes s) ≡ sizes.estimator_size
estimator_length s x =
    omega (
      arith,
      length-append s.symbols (words_bytes s.entries ++ further_bytes s.further),
      length-append (words_bytes s.entries) (further_bytes s.further),
      x.symbols,
      x.entries,
      words_bytes_length s.entries,
      further_length s.further,
    )

-- at the front, as in an enforcer
estimator_back : {all : List ℕ} (s : Estimator) → EstimatorSized s → Stands all 0 (estimator_bytes s) → estimator_at all ≡ s
estimator_back {all} s x b =
    let words = words_bytes s.entries in
    let kept = further_bytes s.further in
    let from-symbols = stands_second (s.count ∷ []) (s.symbols ++ (words ++ kept)) b sizes.remembered_symbols_place refl in
    let from_entries = stands_second s.symbols (words ++ kept) from-symbols sizes.entries_place (omega (arith, x.symbols)) in
    let from-further = stands_second words kept from_entries sizes.further_place (omega (arith, x.entries, words_bytes_length s.entries)) in
    let count = byte_back b in
    let symbols = part_back sizes.most_remembered x.symbols (stands_first s.symbols (words ++ kept) from-symbols) in
    let entries =
    ap (λ (n : ℕ). words_at all sizes.entries_place n) (sym x.entries) ∙ words_back s.entries x.words (stands_first words kept from_entries) in
    let further = further_back s.further x.further from-further in
    λ i. record { count = count i; symbols = symbols i; entries = entries i; further = further i }

-- a notion
notion_back : (notion : Notion) → notion_at (notion_byte notion) ≡ notion
notion_back Weak = refl
notion_back Strong = refl

notion_small : (notion : Notion) → notion_byte notion ≤ sizes.strong_byte
notion_small Weak = omega arith
notion_small Strong = omega arith

-- a byte that is not the weak notion's
pub strong : (byte : ℕ) → (byte ≡ sizes.weak_byte → ⊥) → Strong ≡ notion_at byte
strong zero n = absurd (n refl)
strong (suc byte) n = refl

-- an enforcer
pub enforcer_length : (s : Enforcer) → EnforcerSized s → length (enforcer_bytes s) ≡ sizes.enforcer_size
enforcer_length s x =
    let behind = notion_byte s.notion ∷ s.count ∷ s.pending ++ s.waits in
    omega (
      arith,
      length-append (estimator_bytes s.estimator) behind,
      length-append s.pending s.waits,
      estimator_length s.estimator x.estimator,
      x.pending,
      x.waits,
    )

module _ (s : Enforcer) (x : EnforcerSized s) where
  abbrev text : List ℕ
  text = s.pending ++ s.waits

  from_notion : Stands (enforcer_bytes s) sizes.notion_place (notion_byte s.notion ∷ s.count ∷ text)
  from_notion =
      stands_second (estimator_bytes s.estimator) (notion_byte s.notion ∷ s.count ∷ text) (stands_all (enforcer_bytes s)) sizes.notion_place
      (omega (arith, estimator_length s.estimator x.estimator))

  enforcer_back : enforcer_at (enforcer_bytes s) ≡ s
  enforcer_back =
      let front = stands_first (estimator_bytes s.estimator) (notion_byte s.notion ∷ s.count ∷ text) (stands_all (enforcer_bytes s)) in
      let from-count = stands_second (notion_byte s.notion ∷ []) (s.count ∷ text) from_notion sizes.pending_place refl in
      let from-pending = stands_second (s.count ∷ []) text from-count sizes.pending_symbols_place refl in
      let from-waits = stands_second s.pending s.waits from-pending sizes.waits_place (omega (arith, x.pending)) in
      let estimator = estimator_back s.estimator x.estimator front in
      let notion = ap notion_at (byte_back from_notion) ∙ notion_back s.notion in
      let count = byte_back from-count in
      let pending = part_back sizes.most_pending x.pending (stands_first s.pending s.waits from-pending) in
      let waits = part_back sizes.most_pending x.waits from-waits in
      λ i. record { estimator = estimator i; notion = notion i; count = count i; pending = pending i; waits = waits i }

-- so what was written for a state is its bytes, whole
pub estimator_saved : (s : Estimator) → EstimatorSized s → EstimatorSaved s
estimator_saved s x = record { size = estimator_length s x; back = estimator_back s x (stands_all (estimator_bytes s)) }

pub enforcer_saved : (s : Enforcer) → EnforcerSized s → EnforcerSaved s
enforcer_saved s x =
    record { sized = x; size = enforcer_length s x; notion_known = rw (byte_back (from_notion s x)) (notion_small s.notion); back = enforcer_back s x }

-- a verdict with at most 15 steps
pub verdict_back : (K : ℕ) (v : Steps) → K ≤ sizes.most_remembered → Bounded K v → verdict_at (verdict_byte v) ≡ v
verdict_back K none h b = refl
verdict_back K (leak l) h b = let other : l ≡ sizes.no_leak_byte → ⊥ = λ e. absurd (omega arith) in rw (ne_eqb l sizes.no_leak_byte other)

-- an exploration
pub exploration_length : (e : Exploration) → length (exploration_bytes e) ≡ sizes.exploration_size
exploration_length e =
    length-append (little_endian_bytes sizes.explored_size e.number) (e.weak ∷ e.strong ∷ []) ∙ omega (arith, bytes_length sizes.explored_size e.number)

pub exploration_saved : (e : Exploration) → e.number < 2 ^ 16 → ExplorationSaved e
exploration_saved e small =
    let number = little_endian_bytes sizes.explored_size e.number in
    let all = stands_all (exploration_bytes e) in
    let from-weak = stands_second number (e.weak ∷ e.strong ∷ []) all sizes.weak_wait_place (omega (arith, bytes_length sizes.explored_size e.number)) in
    let from-strong = stands_second (e.weak ∷ []) (e.strong ∷ []) from-weak sizes.strong_wait_place refl in
    let n = number_back sizes.explored_size e.number small (stands_first number (e.weak ∷ e.strong ∷ []) all) in
    let w = byte_back from-weak in
    let s = byte_back from-strong in
    record { size = exploration_length e; back = λ i. record { number = n i; weak = w i; strong = s i } }

-- a number of a word: the place of a first leak, a written size
pub number_saved : (number : ℕ) → number < 2 ^ 64 → NumberSaved number
number_saved number small = record { size = bytes_length sizes.word_size number; back = number_back sizes.word_size number small (stands_all (word_bytes number)) }

-- the run of a witness
pub run_length : (start pairs : ℕ) → length (run_bytes start pairs) ≡ sizes.run_size
run_length start pairs = ap suc (bytes_length sizes.run_pairs_size pairs)

pub run_saved : (start pairs : ℕ) → pairs < 2 ^ 16 → RunSaved start pairs
run_saved start pairs small =
    let number = little_endian_bytes sizes.run_pairs_size pairs in
    let from-pairs = stands_second (start ∷ []) number (stands_all (run_bytes start pairs)) sizes.run_pairs_place refl in
    record { size = run_length start pairs; start_back = refl; pairs_back = number_back sizes.run_pairs_size pairs small from-pairs }

-- what the checker says
pub valid_back : (valid : Bool) → valid_at (valid_bytes valid) ≡ valid
valid_back false = refl
valid_back true = refl

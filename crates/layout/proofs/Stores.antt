-- What stores leave of a slice, one behind the other. Assumes nothing.
use Prim.Native.Nat.{ℕ, zero, suc, ◌+◌, ◌-◌, ◌≤◌, ◌<◌}
use mathlib.Core.Path.{◌≡◌, refl, ap, sym, ◌∙◌}
use mathlib.Core.List.{List, [], ◌∷◌, ◌++◌, append-nil}
use native.Mathlib.Omega.{arith}
use native.Mathlib.Numerals.{add-one}
use borrow.Rule.Slice.PartMut.{put_mid}
use lib.ListN.{length, get_or, take, drop}
use lib.Seq.{sets, sets-eq, length-sets, drop-cons, take-length}
use Rattle.std.proofs.lemmas.Slice.{put_mid-paste}
use Rattle.lists.proofs.Filled.{sets_append}
use Rattle.layout.specs.Sizes.{word_size}
use Rattle.layout.specs.Layout.{Stored, word_bytes, words_bytes}
use Rattle.layout.proofs.Bytes.{bytes_length}

drop_all : (i : ℕ) (l : List ℕ) → length l ≤ i → drop i l ≡ []
drop_all zero [] h = refl
drop_all zero (x ∷ xs) h = absurd (omega arith)
drop_all (suc i) [] h = refl
drop_all (suc i) (x ∷ xs) h = drop_all i xs (omega arith)

-- a second text that is stored where the first one ends
pub then : {before between after : List ℕ} {at next : ℕ} {xs ys : List ℕ} → Stored before at xs between → at + length xs ≡ next → Stored between next ys after
    → Stored before at (xs ++ ys) after
then {before} {at = at} {next} {xs} {ys} a e b =
    record { is = b.is ∙ ap (λ (l : List ℕ). sets l next ys) a.is ∙ rw (← e) (sets_append xs ys before at) }

-- a text as long as the slice is all that is left
pub whole : {before after xs : List ℕ} → Stored before 0 xs after → length xs ≡ length before → after ≡ xs
whole {before} {xs = xs} a e =
    a.is ∙ sets-eq xs before 0 (omega arith) ∙ ap (λ (l : List ℕ). xs ++ l) (drop_all (0 + length xs) before (omega arith)) ∙ append-nil xs

-- a text that is written over a part of the slice
pub stored_part : (before : List ℕ) (at : ℕ) (text part : List ℕ) → at + length text ≤ length before → part ≡ text
    → Stored before at text (put_mid at (at + length text - at) before part)
stored_part before at text part h e = record {
  is = put_mid-paste at (at + length text - at) before part text (length text) e (omega arith) refl
      ∙ ap (λ (l : List ℕ). take at before ++ l ++ drop (at + length text) before) (take-length text)
      ∙ sym (sets-eq text before at h);
}

-- ---- a loop that stores a text part by part: with what is left, stored from a place on, the slice is as it should be

pub record Storing (before : List ℕ) (at : ℕ) (text : List ℕ) (next : ℕ) (bytes left : List ℕ) : Type 0 where
  pub size : length bytes ≡ length before
  pub is : sets bytes next left ≡ sets before at text

pub store_start : (before : List ℕ) (at next : ℕ) (text : List ℕ) → next ≡ at → Storing before at text next before text
store_start before at next text e = record { size = refl; is = rw e }

pub store_turn : {before text bytes after xs left : List ℕ} {at place next : ℕ} → Storing before at text place bytes (xs ++ left) → place + length xs ≡ next
    → Stored bytes place xs after → Storing before at text next after left
store_turn {bytes = bytes} {xs = xs} {left} {place = place} {next} x e s =
    record {
      size = ap length s.is ∙ length-sets bytes place xs ∙ x.size;
      is = ap (λ (l : List ℕ). sets l next left) s.is ∙ rw (← e) (sets_append xs left bytes place) ∙ x.is;
    }

store_end : {before text bytes : List ℕ} {at place : ℕ} → Storing before at text place bytes [] → Stored before at text bytes
store_end x = record { is = x.is }

-- an array of words
pub words_turn : {before text bytes after : List ℕ} {at place next : ℕ} (words : List ℕ) (i : ℕ)
    → Storing before at text place bytes (words_bytes (drop i words)) → i < length words → Stored bytes place (word_bytes (get_or words i 0)) after
    → place + word_size ≡ next → Storing before at text next after (words_bytes (drop (i + 1) words))
unfolding words_bytes
words_turn words i x h s e =
    rw (add-one i) (store_turn (rw (drop-cons words i 0 h) at x) (omega (arith, bytes_length word_size (get_or words i 0))) s)

pub words_left : {before text bytes : List ℕ} {at place : ℕ} (words : List ℕ) (i : ℕ) → Storing before at text place bytes (words_bytes (drop i words))
    → length words ≤ i → Stored before at text bytes
unfolding words_bytes
words_left words i x h = store_end (rw (drop_all i words h) at x)

-- Laws of writing: two texts one behind the other, lists of fields, and the answers of the public functions.
use Prim.Native.Nat.{ℕ, ◌+◌, ◌-◌, ◌≤◌, ◌<◌}
use native.Mathlib.Numerals.{add-one}
use native.Mathlib.Omega.{arith}
use mathlib.Core.Path.{◌≡◌, refl, sym, ap, ◌∙◌, subst}
use mathlib.Core.List.{List, [], ◌∷◌, ◌++◌, append_assoc, append-nil, map}
use lib.ListN.{length, take, drop, get_or, length-append}
use lib.Seq.{sets, sets-eq, length-sets, take-suc, take_all}
use borrow.Rule.Slice.PartMut.{put_mid}
use Rattle.std.proofs.lemmas.Slice.{put_mid-paste}
use Rattle.std.proofs.lemmas.List.Edits.{paste_all}
use Rattle.lists.proofs.Filled.{sets_append}
use Rattle.report.specs.Text.{decimal, led, line, symbols}
use Rattle.report.specs.Writing.{Wrote, Written, written}
use Rattle.std.specs.Prelude.{Some}

-- two texts, one behind the other
pub then : {m n at next next' : ℕ} {d d' d'' xs ys : List ℕ} → Wrote m d at xs d' next → Wrote n d' next ys d'' next' → Wrote (m + n) d at (xs ++ ys) d'' next'
then {m} {n} {at} {next} {next'} {d} {d'} {d''} {xs} {ys} p q = record {
  bytes = q.bytes ∙ ap (λ (l : List ℕ). sets l next ys) p.bytes ∙ ap (λ (k : ℕ). sets (sets d at xs) k ys) p.place ∙ sets_append xs ys d at;
  place = omega (arith, length-append xs ys);
  limit = omega arith;
  size = q.size ∙ p.size;
}

-- nothing is written
pub none : {at : ℕ} {d : List ℕ} → Wrote 0 d at [] d at
none {at} {d} = record { bytes = refl; place = omega arith; limit = omega arith; size = refl }

-- the same text, and a larger limit
pub same : {m n at next : ℕ} {d d' xs ys : List ℕ} → xs ≡ ys → m ≤ n → Wrote m d at xs d' next → Wrote n d at ys d' next
same {m} {n} {at} {next} {d} {d'} {xs} {ys} e h p = record {
  bytes = p.bytes ∙ ap (sets d at) e;
  place = p.place ∙ ap (λ (l : List ℕ). at + length l) e;
  limit = omega arith;
  size = p.size;
}

-- the same text, whose length is within the limit
pub fit : {m n at next : ℕ} {d d' xs ys : List ℕ} → xs ≡ ys → length ys ≤ n → Wrote m d at xs d' next → Wrote n d at ys d' next
fit {m} {n} {at} {next} {d} {d'} {xs} {ys} e h p = record {
  bytes = p.bytes ∙ ap (sets d at) e;
  place = p.place ∙ ap (λ (l : List ℕ). at + length l) e;
  limit = omega (arith, ap length e);
  size = p.size;
}

-- a text that was copied
pub copied : {at k next : ℕ} {d s r : List ℕ} → at + length s ≤ length d → r ≡ s → length s ≡ k → next ≡ at + length s
    → Wrote (length s) d at s (put_mid at k d r) next
copied {at} {k} {next} {d} {s} {r} room e n p =
    let b : put_mid at k d r ≡ sets d at s = put_mid-paste at k d r s (length s) e n refl ∙ paste_all d at s (length s) refl
    ∙ sym (append_assoc (take at d) s (drop (at + length s) d)) ∙ sym (sets-eq s d at room) in
    record { bytes = b; place = p; limit = omega arith; size = ap length b ∙ length-sets d at s }

pub led_snoc : (s : ℕ) (xs : List (List ℕ)) (x : List ℕ) → led s (xs ++ (x ∷ [])) ≡ led s xs ++ (s ∷ x)
led_snoc s [] x = ap (λ (l : List ℕ). s ∷ l) (append-nil x)
led_snoc s (y ∷ ys) x = ap (λ (l : List ℕ). s ∷ (y ++ l)) (led_snoc s ys x) ∙ ap (λ (l : List ℕ). s ∷ l) (sym (append_assoc y (led s ys) (s ∷ x)))

map_snoc : (f : ℕ → List ℕ) (xs : List ℕ) (x : ℕ) → map f (xs ++ (x ∷ [])) ≡ map f xs ++ (f x ∷ [])
map_snoc f [] x = refl
map_snoc f (y ∷ ys) x = ap (λ (l : List (List ℕ)). f y ∷ l) (map_snoc f ys x)

-- one more element of a list, and one more number of a list of numbers
pub take_one : (l : List ℕ) (i : ℕ) → i < length l → take i l ++ (get_or l i 0 ∷ []) ≡ take (i + 1) l
take_one l i h = sym (take-suc l i 0 h) ∙ ap (λ (k : ℕ). take k l) (sym (add-one i))

pub led_one : (s : ℕ) (l : List ℕ) (i : ℕ) → i < length l
    → led s (map decimal (take i l)) ++ (s ∷ decimal (get_or l i 0)) ≡ led s (map decimal (take (i + 1) l))
led_one s l i h =
    sym (led_snoc s (map decimal (take i l)) (decimal (get_or l i 0)))
    ∙ ap (led s) (sym (map_snoc decimal (take i l) (get_or l i 0)) ∙ ap (map decimal) (take_one l i h))

-- a list of symbols: none, or the first and the others
pub symbols_none : (l : List ℕ) → length l ≡ 0 → 32 ∷ 45 ∷ [] ≡ 32 ∷ symbols l
symbols_none [] h = refl
symbols_none (x ∷ l) h = absurd (omega arith)

tail_part : (x : ℕ) (l : List ℕ) → take (length (x ∷ l) - 1) (drop 1 (x ∷ l)) ≡ l
tail_part x l = take_all (length (x ∷ l) - 1) l (omega arith)

pub symbols_some : (l : List ℕ) (k : ℕ) → (length l ≡ 0 → ⊥) → k ≡ get_or l 0 0
    → (32 ∷ decimal k) ++ led 44 (map decimal (take (length l - 1) (drop 1 l))) ≡ 32 ∷ symbols l
symbols_some [] k h e = absurd (h refl)
symbols_some (x ∷ l) k h e =
    ap (λ (j : ℕ). (32 ∷ decimal j) ++ led 44 (map decimal (take (length (x ∷ l) - 1) (drop 1 (x ∷ l))))) e
    ∙ ap (λ (t : List ℕ). (32 ∷ decimal x) ++ led 44 (map decimal t)) (tail_part x l)

pub part_shorter : (l : List ℕ) → (length l ≡ 0 → ⊥) → 1 + length (take (length l - 1) (drop 1 l)) ≡ length l
part_shorter [] h = absurd (h refl)
part_shorter (x ∷ l) h = rw (tail_part x l) (omega arith)

-- the fields behind the first, each with a space in front of it, and what follows them
abbrev flat : List (List ℕ) → List ℕ → List ℕ
flat [] t = t
flat (x ∷ xs) t = (32 ∷ x) ++ flat xs t

flat_led : (fs : List (List ℕ)) (t : List ℕ) → flat fs t ≡ led 32 fs ++ t
flat_led [] t = refl
flat_led (x ∷ xs) t = ap (λ (l : List ℕ). 32 ∷ l) (ap (λ (l : List ℕ). x ++ l) (flat_led xs t) ∙ sym (append_assoc x (led 32 xs) t))

pub lined : (a : List ℕ) (fs : List (List ℕ)) → a ++ flat fs (10 ∷ []) ≡ line (a ∷ fs)
lined a fs = ap (λ (l : List ℕ). a ++ l) (flat_led fs (10 ∷ [])) ∙ sym (append_assoc a (led 32 fs) (10 ∷ []))

-- a line with two verdicts and the number of possible states in it
pub judgement_lined : (a b w s n c : List ℕ)
    → a ++ ((32 ∷ b) ++ (((32 ∷ w) ++ ((32 ∷ s) ++ (32 ∷ n))) ++ ((32 ∷ c) ++ (10 ∷ [])))) ≡ line (a ∷ b ∷ w ∷ s ∷ n ∷ c ∷ [])
judgement_lined a b w s n c =
    let t = (32 ∷ c) ++ (10 ∷ []) in
    ap (λ (l : List ℕ). a ++ ((32 ∷ b) ++ l))
    (append_assoc (32 ∷ w) ((32 ∷ s) ++ (32 ∷ n)) t ∙ ap (λ (l : List ℕ). (32 ∷ w) ++ l) (append_assoc (32 ∷ s) (32 ∷ n) t))
    ∙ lined a (b ∷ w ∷ s ∷ n ∷ c ∷ [])

-- the answers of the public functions
pub entered : {room at next : ℕ} {before after text : List ℕ} → at + room ≤ length before → Wrote room before at text after next
    → Written room before at text (Some next) after
entered {room} {at} {next} {before} {after} {text} h w =
    subst (λ (l : List ℕ). Written room before at text (Some next) l) (sym w.bytes)
    (subst (λ (k : ℕ). Written room before at text (Some k) (sets before at text)) (sym w.place) (written h (omega (arith, w.place, w.limit))))

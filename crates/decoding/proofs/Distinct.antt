-- Of an accepted encoding no transition is listed twice, so that their number is the number of different ones. Assumes nothing.
use Prim.Native.Nat.{ℕ, zero, suc, ◌≤◌, ◌<◌}
use mathlib.Core.Path.{◌≡◌, refl, sym, ap, subst, ◌∙◌}
use mathlib.Core.Bool.{Bool, true, false, ◌||◌, false≢true}
use mathlib.Core.List.{List, [], ◌∷◌, ◌++◌}
use mathlib.Core.Logic.{⊎_elim, ◌↔◌}
use native.Mathlib.Omega.{arith}
use lib.ListN.{length, length-append}
use Rattle.bitfields.specs.Bits.{bits_of}
use Rattle.bitfields.specs.Parser.{done}
use Rattle.bitfields.proofs.Parsing.{same_done}
use Rattle.encoding.specs.Transitions.{same_transition, listed}
use Rattle.encoding.specs.declared.ListedTransition.{ListedTransition}
use Rattle.decoding.specs.Repeats.{Distinct, Counted, Different}
use Rattle.encoding.specs.Encoding.{Encoding, encoding, transitions}
use Rattle.encoding.proofs.Listed.{unless_true, or_split, same_equal, first_listed, later_listed, listed_snoc}
use Rattle.encoding.proofs.Ended.{transitions_read, encoding_read}

-- a list with a transition put in front, unless the test holds
add_unless : Bool → ListedTransition → List ListedTransition → List ListedTransition
add_unless true y l = l
add_unless false y l = y ∷ l

-- a list without one of its transitions
without : ListedTransition → List ListedTransition → List ListedTransition
without x [] = []
without x (y ∷ ys) = add_unless (same_transition x y) y (without x ys)

add_unless_most : (b : Bool) (y : ListedTransition) (l : List ListedTransition) → length (add_unless b y l) ≤ suc (length l)
unfolding add_unless
add_unless_most true y l = omega arith
add_unless_most false y l = omega arith

without_most : (x : ListedTransition) (ts : List ListedTransition) → length (without x ts) ≤ length ts
unfolding without
without_most x [] = omega arith
without_most x (y ∷ ys) = omega (arith, add_unless_most (same_transition x y) y (without x ys), without_most x ys)

without_fewer : (x : ListedTransition) (ts : List ListedTransition) → listed x ts ≡ true → length (without x ts) < length ts
unfolding without add_unless
without_fewer x [] h = absurd (false≢true h)
without_fewer x (y ∷ ys) h = go (without_fewer x ys) (same_transition x y) h
  where
    go : (listed x ys ≡ true → length (without x ys) < length ys) → (b : Bool) → b || listed x ys ≡ true
        → length (add_unless b y (without x ys)) < suc (length ys)
    go later true h = omega (arith, without_most x ys)
    go later false h = omega (arith, later h)

add_unless_later : (b : Bool) (u y : ListedTransition) (l : List ListedTransition) → listed u l ≡ true → listed u (add_unless b y l) ≡ true
unfolding add_unless
add_unless_later true u y l h = h
add_unless_later false u y l h = later_listed u y l h

without_has : (x u : ListedTransition) (ts : List ListedTransition) → listed u ts ≡ true → (same_transition x u ≡ true → ⊥) → listed u (without x ts) ≡ true
unfolding without add_unless
without_has x u [] h n = h
without_has x u (y ∷ ys) h n =
    ⊎_elim first (λ (i : listed u ys ≡ true). add_unless_later (same_transition x y) u y (without x ys) (without_has x u ys i n))
    (or_split (same_transition u y) (listed u ys) h)
  where
    go : (b : Bool) → same_transition x u ≡ b → listed u (add_unless b u (without x ys)) ≡ true
    go true e = absurd (n e)
    go false e = first_listed u (without x ys)

    first : same_transition u y ≡ true → listed u (add_unless (same_transition x y) y (without x ys)) ≡ true
    first i = subst (λ (z : ListedTransition). listed u (add_unless (same_transition x z) z (without x ys)) ≡ true) (same_equal u y i)
        (go (same_transition x u) refl)

-- a list in which no transition stands twice is no longer than any list that has its transitions
pub distinct_fewest : (xs ts : List ListedTransition) → Distinct xs → ((u : ListedTransition) → listed u xs ≡ true → listed u ts ≡ true) → length xs ≤ length ts
distinct_fewest [] ts d f = omega arith
distinct_fewest (x ∷ xs) ts d f =
    let other : (u : ListedTransition) → listed u xs ≡ true → same_transition x u ≡ true → ⊥ =
    λ u h s. false≢true (sym d.0 ∙ subst (λ (z : ListedTransition). listed z xs ≡ true) (sym (same_equal x u s)) h) in
    let sub : (u : ListedTransition) → listed u xs ≡ true → listed u (without x ts) ≡ true =
    λ u h. without_has x u ts (f u (later_listed u x xs h)) (other u h) in
    omega (arith, distinct_fewest xs (without x ts) d.1 sub, without_fewer x ts (f x (first_listed x xs)))

-- one more at the end, which is none of them
pub distinct_snoc : (ts : List ListedTransition) (t : ListedTransition) → Distinct ts → listed t ts ≡ false → Distinct (ts ++ (t ∷ []))
distinct_snoc [] t d n = (refl, tt)
distinct_snoc (x ∷ xs) t d n =
    let later : listed t xs ≡ true → ⊥ = λ h. false≢true (sym n ∙ later_listed t x xs h) in
    let first : same_transition x t ≡ true → ⊥ =
    λ s. false≢true (sym n ∙ subst (λ (z : ListedTransition). listed t (z ∷ xs) ≡ true) (sym (same_equal x t s)) (first_listed t xs)) in
    (listed_snoc x xs t ∙ rw (d.0, unless_true (same_transition x t) first), distinct_snoc xs t d.1 (unless_true (listed t xs) later))

transitions_counted : (s e : ℕ) (bits : List ℕ) (at n : ℕ) {ts : List ListedTransition} {next : ℕ} → transitions s e n bits at ≡ done ts next → Counted n ts
unfolding transitions
transitions_counted s e bits at zero r = subst (Counted 0) (same_done r).0 (record { once = tt; number = refl })
transitions_counted s e bits at (suc n) r =
    let l = transitions_read s e n bits at r in
    let before = transitions_counted s e bits at n l.earlier_read in
    let counted : Counted (suc n) (l.earlier ++ (l.last ∷ [])) =
    record {
      once = distinct_snoc l.earlier l.last before.once l.new;
      number = omega (arith, length-append l.earlier (l.last ∷ []), before.number);
    } in
    subst (Counted (suc n)) l.all counted

-- no transition is listed twice, and as many are listed as the encoding says
pub encoding_counted : (bs : List ℕ) {d : Encoding} {n : ℕ} → encoding (bits_of bs) 0 ≡ done d n → Counted d.front.fixed.count d.transitions
encoding_counted bs {d} e =
    let r = encoding_read (bits_of bs) e in
    transitions_counted d.front.fixed.topstate d.front.fixed.topevent (bits_of bs) r.start d.front.fixed.count r.listed_read

-- a list has one number of different transitions
pub one_number : (ts : List ListedTransition) {n m : ℕ} → Different ts n → Different ts m → n ≡ m
one_number ts x y = omega
    (arith, x.number, y.number, fewest x y, fewest y x)
  where
    fewest : {n m : ℕ} (a : Different ts n) (b : Different ts m) → length a.each ≤ length b.each
    fewest a b = distinct_fewest a.each b.each a.once (λ u h. b.same u ∙ sym (a.same u) ∙ h)

-- and every list has some
pub some_number : (ts : List ListedTransition) → (n : ℕ) × Different ts n
some_number [] = (0, record { each = []; once = tt; same = λ t. refl; number = refl })
some_number (t ∷ ts) = go (some_number ts) (listed t ts) refl
  where
    go : ((n : ℕ) × Different ts n) → (b : Bool) → listed t ts ≡ b → (n : ℕ) × Different (t ∷ ts) n
    go (n, x) true h = (n, record { each = x.each; once = x.once; same = λ u. x.same u ∙ again u (same_transition u t) refl; number = x.number })
      where
        again : (u : ListedTransition) (b : Bool) → same_transition u t ≡ b → listed u ts ≡ b || listed u ts
        again u true e = subst (λ (z : ListedTransition). listed z ts ≡ true) (sym (same_equal u t e)) h
        again u false e = refl
    go (n, x) false h = (
      suc n,
      record {
        each = t ∷ x.each;
        once = (x.same t ∙ h, x.once);
        same = λ u. ap (λ (b : Bool). same_transition u t || b) (x.same u);
        number = ap suc x.number;
      },
    )

-- a list without repeats has as many as it has transitions
distinct_number : (ts : List ListedTransition) → Distinct ts → Different ts (length ts)
distinct_number ts d = record { each = ts; once = d; same = λ t. refl; number = refl }

-- THE NUMBER OF TRANSITIONS of an accepted encoding is the number of different ones
pub different_transitions : (bs : List ℕ) {d : Encoding} {next : ℕ} → encoding (bits_of bs) 0 ≡ done d next
    → (n : ℕ) → Different d.transitions n ↔ (n ≡ d.front.fixed.count)
different_transitions bs {d} e n =
    let c = encoding_counted bs e in
    let all = distinct_number d.transitions c.once in
    ((λ x. one_number d.transitions x all ∙ c.number), (λ is. subst (Different d.transitions) (c.number ∙ sym is) all))

-- A check that a description says what a row says: the layout is computed, and compared field by field. Assumes nothing.
use mathlib.Core.Path.{◌≡◌, refl, ap, ap₂}
use mathlib.Core.Bool.{Bool, true, false, ◌&&◌}
use mathlib.Core.List.{List, [], ◌∷◌}
use Prim.Native.Nat.{ℕ}
use lib.Dec.{T, eqb, eqb→eq}
use lib.ListN.{get_or}
use Rattle.automaton.specs.declared.Header.{Header}
use Rattle.bitfields.specs.Bits.{bits_of}
use Rattle.encoding.specs.Transitions.{same_transition}
use Rattle.encoding.specs.declared.ListedTransition.{ListedTransition}
use Rattle.encoding.specs.Encoding.{encoding}
use Rattle.examples.specs.Meaning.{Contents, automaton, refusal, contents_of}
use Rattle.encoding.proofs.Listed.{same_equal}
use Rattle.examples.proofs.Booleans.{and_left, and_right, is_true, same_list, same-list}
use Rattle.examples.proofs.Checks.{Check, by}

abbrev same_header : Header → Header → Bool
same_header a b =
    same_list (a.initial ∷ a.k ∷ a.secret ∷ a.observable ∷ []) (b.initial ∷ b.k ∷ b.secret ∷ b.observable ∷ []) && same_list a.symbols b.symbols

-- a field at its place in the list of numbers
abbrev place : List ℕ → ℕ → ℕ
place l n = get_or l n 0

same-header : (a b : Header) → T (same_header a b) → a ≡ b
same-header a b t =
    let x = a.initial ∷ a.k ∷ a.secret ∷ a.observable ∷ [] in
    let y = b.initial ∷ b.k ∷ b.secret ∷ b.observable ∷ [] in
    let numbers : x ≡ y = same-list x y (and_left (same_list x y) (same_list a.symbols b.symbols) t) in
    let symbols : a.symbols ≡ b.symbols = same-list a.symbols b.symbols (and_right (same_list x y) (same_list a.symbols b.symbols) t) in
    λ i. record { initial = place (numbers i) 0; k = place (numbers i) 1; secret = place (numbers i) 2; observable = place (numbers i) 3; symbols = symbols i }

abbrev same_transitions : List ListedTransition → List ListedTransition → Bool
same_transitions [] [] = true
same_transitions [] (y ∷ ys) = false
same_transitions (x ∷ xs) [] = false
same_transitions (x ∷ xs) (y ∷ ys) = same_transition x y && same_transitions xs ys

same-transitions : (xs ys : List ListedTransition) → T (same_transitions xs ys) → xs ≡ ys
same-transitions [] [] t = refl
same-transitions [] (y ∷ ys) t = absurd t
same-transitions (x ∷ xs) [] t = absurd t
same-transitions (x ∷ xs) (y ∷ ys) t =
    ap₂ (λ (a : ListedTransition) (rest : List ListedTransition). a ∷ rest) (same_equal x y (is_true (and_left (same_transition x y) (same_transitions xs ys) t)))
    (same-transitions xs ys (and_right (same_transition x y) (same_transitions xs ys) t))

abbrev same_contents : Contents → Contents → Bool
same_contents (automaton a) (automaton b) = same_transitions a.transitions b.transitions && same_header a.header b.header
same_contents (automaton a) (refusal n) = false
same_contents (refusal n) (automaton b) = false
same_contents (refusal n) (refusal m) = eqb n m

pub same-contents : (a b : Contents) → T (same_contents a b) → a ≡ b
same-contents (automaton a) (automaton b) t =
    let ts = same_transitions a.transitions b.transitions in
    let h = same_header a.header b.header in
    let transitions : a.transitions ≡ b.transitions = same-transitions a.transitions b.transitions (and_left ts h t) in
    let header : a.header ≡ b.header = same-header a.header b.header (and_right ts h t) in
    λ i. automaton (record { transitions = transitions i; header = header i })
same-contents (automaton a) (refusal n) t = absurd t
same-contents (refusal n) (automaton b) t = absurd t
same-contents (refusal n) (refusal m) t = ap refusal (eqb→eq n m t)

abbrev pub description? : (bytes : List ℕ) (contents : Contents) → Check (contents_of (encoding (bits_of bytes) 0) ≡ contents)
description? bytes contents = by (same_contents (contents_of (encoding (bits_of bytes) 0)) contents)
    (same-contents (contents_of (encoding (bits_of bytes) 0)) contents)

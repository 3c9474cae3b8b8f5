-- Laws of the lines of witnesses: pairs one after another, and a line of them. Assumes nothing.
use Prim.Native.Nat.{ℕ, ◌+◌, ◌-◌, ◌*◌, ◌≤◌, ◌<◌}
use native.Mathlib.Omega.{arith}
use mathlib.Core.Path.{◌≡◌, refl, sym, ap, ◌∙◌}
use mathlib.Core.List.{List, [], ◌∷◌, ◌++◌, append_assoc, append-nil}
use lib.ListN.{length, take, drop, get_or, get_or-append}
use lib.Seq.{take_all, get_or-append-add}
use Rattle.opacity.specs.declared.Notion.{Notion}
use Rattle.report.specs.Text.{decimal, led, line}
use Rattle.report.specs.Witnesses.{word, pair_field, pair_fields, witness_line, no_witness_line}
use Rattle.report.proofs.Decimal.{begins_digit}
use Rattle.report.specs.declared.Writer.{Writer}
use Rattle.report.specs.Adding.{Adds}
use Rattle.report.proofs.Laws.{lined}
use Rattle.report.proofs.Adds.{adds_then, adds_none, adds_same}

-- the first pair, and the rest
pub pair_first : (l : List ℕ) → 2 ≤ length l → l ≡ get_or l 0 0 ∷ get_or l 1 0 ∷ take (length l - 2) (drop 2 l)
pair_first [] h = absurd (omega arith)
pair_first (x ∷ []) h = absurd (omega arith)
pair_first (x ∷ y ∷ l) h = ap (λ (r : List ℕ). x ∷ y ∷ r) (sym (take_all (length (x ∷ y ∷ l) - 2) l (omega arith)))

-- the pairs before those that are left are put
pub record PairsPut (pairs : List ℕ) (before : Writer) (left : List ℕ) (after : Writer) : Type 0 where
  pub text : List ℕ
  pub joins : text ++ led 32 (pair_fields left) ≡ led 32 (pair_fields pairs)
  pub most : ℕ
  pub room : most + 11 * length left ≤ 11 * length pairs
  pub adds : Adds most text before after

pub pairs_begin : (pairs : List ℕ) (before : Writer) → PairsPut pairs before pairs before
pairs_begin pairs before = record { text = []; joins = refl; most = 0; room = omega arith; adds = adds_none }

pub pairs_turn : {pairs left : List ℕ} {before after later : Writer} {event state : ℕ} (more : List ℕ) → left ≡ event ∷ state ∷ more
    → PairsPut pairs before left after → Adds 22 (32 ∷ pair_field event state) after later → PairsPut pairs before more later
pairs_turn {event = event} {state = state} more e x w =
    record {
      text = x.text ++ (32 ∷ pair_field event state);
      joins = append_assoc x.text (32 ∷ pair_field event state) (led 32 (pair_fields more))
          ∙ ap (λ (l : List ℕ). x.text ++ led 32 (pair_fields l)) (sym e)
          ∙ x.joins;
      most = x.most + 22;
      room = omega (arith, x.room, ap length e);
      adds = adds_then x.adds w;
    }

pub pairs_end : {pairs left : List ℕ} {before after : Writer} → length left < 2 → PairsPut pairs before left after
    → Adds (11 * length pairs) (led 32 (pair_fields pairs)) before after
pairs_end {left = left} h x =
    adds_same (sym (append-nil x.text) ∙ ap (λ (l : List (List ℕ)). x.text ++ led 32 l) (sym (nothing left h)) ∙ x.joins) (omega (arith, x.room)) x.adds
  where
    nothing : (l : List ℕ) → length l < 2 → pair_fields l ≡ []
    nothing [] h = refl
    nothing (a ∷ []) h = refl
    nothing (a ∷ b ∷ l) h = absurd (omega arith)

-- the parts of a line of pairs
parts_lined : (w k s : List ℕ) (ps : List (List ℕ)) → (w ++ (32 ∷ k)) ++ ((32 ∷ s) ++ (led 32 ps ++ (10 ∷ []))) ≡ line (w ∷ k ∷ s ∷ ps)
parts_lined w k s ps =
    let e : List ℕ = 10 ∷ [] in
    append_assoc w (32 ∷ k) ((32 ∷ s) ++ (led 32 ps ++ e))
    ∙ ap (λ (x : List ℕ). w ++ (32 ∷ (k ++ (32 ∷ x)))) (sym (append_assoc s (led 32 ps) e))
    ∙ ap (λ (x : List ℕ). w ++ (32 ∷ x)) (sym (append_assoc k (32 ∷ (s ++ led 32 ps)) e))
    ∙ sym (append_assoc w (32 ∷ (k ++ (32 ∷ (s ++ led 32 ps)))) e)

-- numbers as they are handed on
pub step_same : {a k : ℕ} (notion : Notion) → a ≡ k → word notion ++ (32 ∷ decimal a) ≡ word notion ++ (32 ∷ decimal k)
step_same notion e = ap (λ (n : ℕ). word notion ++ (32 ∷ decimal n)) e

pub pair_same : {a b event state : ℕ} → a ≡ event → b ≡ state → (32 ∷ decimal a) ++ (44 ∷ decimal b) ≡ 32 ∷ pair_field event state
pair_same {b = b} {event = event} e q = ap (λ (n : ℕ). (32 ∷ decimal n) ++ (44 ∷ decimal b)) e ∙ ap (λ (n : ℕ). 32 ∷ pair_field event n) q

-- a line of pairs
pub witness_lined : (w k : List ℕ) {n start : ℕ} → n ≡ start → (ps : List (List ℕ))
    → (w ++ (32 ∷ k)) ++ ((32 ∷ decimal n) ++ (led 32 ps ++ (10 ∷ []))) ≡ line (w ∷ k ∷ decimal start ∷ ps)
witness_lined w k {n} {start} is ps =
    ap (λ (m : ℕ). (w ++ (32 ∷ k)) ++ ((32 ∷ decimal m) ++ (led 32 ps ++ (10 ∷ [])))) is ∙ parts_lined w k (decimal start) ps

-- a line without any
pub no_witness_lined : (w k a b : List ℕ) → (w ++ (32 ∷ k)) ++ ((32 ∷ a) ++ ((32 ∷ b) ++ (10 ∷ []))) ≡ line (w ∷ k ∷ a ∷ b ∷ [])
no_witness_lined w k a b = append_assoc w (32 ∷ k) ((32 ∷ a) ++ ((32 ∷ b) ++ (10 ∷ []))) ∙ lined w (k ∷ a ∷ b ∷ [])

-- NO LINE OF A RUN IS ONE WITHOUT: behind the step stands a digit, or `no`
pub lines_apart : (notion : Notion) (k start : ℕ) (pairs : List ℕ) → witness_line notion k start pairs ≡ no_witness_line notion k → ⊥
lines_apart notion k start pairs e =
    let front : List ℕ = word notion ++ (32 ∷ decimal k) in
    let rest : List ℕ = led 32 (pair_fields pairs) ++ (10 ∷ []) in
    let run : List ℕ = (32 ∷ decimal start) ++ rest in
    let none : List ℕ = (32 ∷ 110 ∷ 111 ∷ []) ++ ((32 ∷ 97 ∷ 108 ∷ 105 ∷ 98 ∷ 105 ∷ []) ++ (10 ∷ [])) in
    let lines : front ++ run ≡ front ++ none =
    parts_lined (word notion) (decimal k) (decimal start) (pair_fields pairs) ∙ e
    ∙ sym (no_witness_lined (word notion) (decimal k) (110 ∷ 111 ∷ []) (97 ∷ 108 ∷ 105 ∷ 98 ∷ 105 ∷ [])) in
    let behind : get_or run 1 0 ≡ get_or none 1 0 =
    sym (get_or-append-add front run 1 0) ∙ ap (λ (l : List ℕ). get_or l (length front + 1) 0) lines ∙ get_or-append-add front none 1 0 in
    let digit = begins_digit start in
    let first : get_or run 1 0 ≡ get_or (decimal start) 0 0 = get_or-append (decimal start) rest 0 0 digit.0 in
    omega (arith, behind, first, digit.1)

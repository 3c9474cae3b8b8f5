-- The loops that turn the rows of a relation round, a bit of row p at a time. Assumes nothing.
use mathlib.Core.Path.{◌≡◌, subst, sym}
use mathlib.Core.Logic.{◌⊎◌, inl, inr, ⊎_elim}
use mathlib.Core.List.{List}
use Prim.Native.Nat.{ℕ, ◌+◌, ◌*◌, ◌%◌, ◌^◌, ◌<◌}
use native.Mathlib.Omega.{arith}
use native.Mathlib.Decide.{ℕ_discrete}
use lib.ListN.{length, get_or, set, replicate, length-set, length-replicate, get_or-replicate}
use lib.Seq.{get_or-set_same, get_or-set_other}
use lib.Bits.{bit_or}
use Rattle.stateset.specs.Set.{In, Is}
use Rattle.relation.specs.Relation.{Row, Rows}
use Rattle.stateset.proofs.Bits.{Taken, empty, with_is}

-- x stands before p, or is p, whose row has q no longer in todo
abbrev Past : ℕ → ℕ → ℕ → ℕ → Type 0
Past p todo q x = (x < p) ⊎ ((x ≡ p) × (In q todo → ⊥))

pub record Turning (rows out : List ℕ) (p todo : ℕ) : Type 0 where
  pub size : length out ≡ 64
  pub sub : (q : ℕ) → In q todo → In q (get_or rows p 0)
  pub each : (q : ℕ) → q < 64 → Is (get_or out q 0) (λ x. Row rows x q × Past p todo q x)

module _ (rows : List ℕ) where
  pub turning_start : Turning rows (replicate 64 0) 0 (get_or rows 0 0)
  turning_start =
      record {
        size = length-replicate {A = ℕ} 64 0;
        sub = λ q i. i;
        each = λ q l. record {
          sound = λ x i. absurd (empty x (get_or (replicate 64 0) q 0) (get_or-replicate {A = ℕ} 64 q 0 0 l) i);
          whole = λ x m. absurd (⊎_elim (λ k. omega arith) (λ k. k.1 (subst (λ (y : ℕ). In q (get_or rows y 0)) k.0 m.0)) m.1);
        };
      }

  pub turning_turn : (out : List ℕ) (p todo q rest : ℕ) → p < 64 → Taken todo q rest → Turning rows out p todo
      → Turning rows (set out q (bit_or (get_or out q 0) ((1 * 2 ^ p) % 2 ^ 64))) p rest
  turning_turn out p todo q rest hp k t =
      record {
        size = simp length-set t.size;
        sub = λ x i. t.sub x (k.kept x i);
        each = λ x l. go x l (ℕ_discrete x q);
      }
    where
      same : Is (bit_or (get_or out q 0) ((1 * 2 ^ p) % 2 ^ 64)) (λ x. Row rows x q × Past p rest q x)
      same =
          let D = with_is (get_or out q 0) p hp in
          let E = t.each q k.small in
          record {
            sound = λ x i. ⊎_elim
                (λ j. let m = E.sound x j in (m.0, ⊎_elim (λ l. inl l) (λ l. absurd (l.1 k.inside)) m.1))
                (λ e. (subst (λ (y : ℕ). Row rows y q) (sym e) (t.sub q k.inside), inr (e, k.gone))) (D.sound x i);
            whole = λ x m. D.whole x (⊎_elim (λ l. inl (E.whole x (m.0, inl l))) (λ l. inr l.0) m.1);
          }

      other : (y : ℕ) → y < 64 → (y ≡ q → ⊥) → Is (get_or out y 0) (λ x. Row rows x y × Past p rest y x)
      other y l n =
          let E = t.each y l in
          record {
            sound = λ x i. let m = E.sound x i in (m.0, ⊎_elim (λ h. inl h) (λ h. inr (h.0, λ j. h.1 (k.kept y j))) m.1);
            whole = λ x m. E.whole x (m.0, ⊎_elim (λ h. inl h) (λ h. inr (h.0, λ j. ⊎_elim n h.1 (k.left y j))) m.1);
          }

      go : (y : ℕ) → y < 64 → Dec (y ≡ q) → Is (get_or (set out q (bit_or (get_or out q 0) ((1 * 2 ^ p) % 2 ^ 64))) y 0) (λ x. Row rows x y × Past p rest y x)
      go y l (yes e) = rw e (rw (get_or-set_same out q (bit_or (get_or out q 0) ((1 * 2 ^ p) % 2 ^ 64)) 0 (omega (arith, k.small, t.size))) same)
      go y l (no n) = rw (get_or-set_other out q y (bit_or (get_or out q 0) ((1 * 2 ^ p) % 2 ^ 64)) 0 n) (other y l n)

  pub turning_next : (out : List ℕ) (p todo : ℕ) → todo ≡ 0 → Turning rows out p todo → Turning rows out (p + 1) (get_or rows (p + 1) 0)
  turning_next out p todo z t =
      record {
        size = t.size;
        sub = λ q i. i;
        each = λ q l. record {
          sound = λ x i. let m = (t.each q l).sound x i in (m.0, inl (⊎_elim (λ k. omega arith) (λ k. omega (arith, k.0)) m.1));
          whole = λ x m. (t.each q l).whole x (
            m.0,
            ⊎_elim (λ k. early q x (ℕ_discrete x p) k)
                (λ k. absurd (k.1 (subst (λ (y : ℕ). In q (get_or rows y 0)) k.0 m.0))) m.1,
          );
        };
      }
    where
      early : (q x : ℕ) → Dec (x ≡ p) → x < p + 1 → Past p todo q x
      early q x (yes e) l = inr (e, empty q todo z)
      early q x (no n) l = inl (omega arith)

  pub turning_end : (out : List ℕ) (p few : ℕ) → p ≡ few → Turning rows out p (get_or rows p 0) → Rows out (λ q x. Row rows x q × (x < few))
  turning_end out p few e t =
      record {
        size = t.size;
        each = λ q k. record {
          sound = λ x i. let m = (t.each q k).sound x i in (
            m.0,
            ⊎_elim (λ l. omega arith) (λ l. absurd (l.1 (subst (λ (y : ℕ). In q (get_or rows y 0)) l.0 m.0))) m.1,
          );
          whole = λ x r. (t.each q k).whole x (r.0, inl (omega arith));
        };
      }

-- Compatible runs, the states in which they end and the notions of opacity as questions about marked positions, for any automaton. Assumes nothing.
use mathlib.Core.Path.{◌≡◌, refl, ap, sym, ◌∙◌, subst}
use mathlib.Core.Bool.{Bool, true, false, not, ◌&&◌, false≢true}
use mathlib.Core.List.{List, [], ◌∷◌, append-nil}
use Prim.Native.Nat.{ℕ, ◌+◌, ◌<◌}
use native.Mathlib.Omega.{arith}
use lib.Dec.{T, eqb, leb, eqb→eq, leb→le, le→leb, T_not}
use lib.ListN.{length, get_or}
use Rattle.stateset.specs.Set.{bit}
use Rattle.automaton.specs.Run.{Automaton, Step, shows, Position, count, state_at, Possible, Impossible}
use Rattle.automaton.specs.Reaching.{Arrives, EstimateSize}
use Rattle.automaton.specs.Notion.{SureAt, SureFrom, ClearAt, ClearFrom}
use Rattle.automaton.proofs.Estimates.{delayed_arrives}
use Rattle.examples.proofs.Booleans.{any, any_place, and_left, and_right, and_both, is_true, from_true, unless_false, unless_not, eq_eqb}
use Rattle.examples.proofs.Search.{flag_of}
use Rattle.examples.proofs.Marks.{flag_from, flag_to}
use Rattle.examples.proofs.SearchLaws.{Flagged, Unflagged}

abbrev inside : ℕ → ℕ → Bool
inside secret q = eqb (bit q secret) 1

-- weak: the positions of count j outside the secret
abbrev pub out_at : ℕ → ℕ → ℕ → ℕ → Bool
out_at secret j c q = eqb c j && not (inside secret q)

-- strong: the positions of count at least j inside it
abbrev pub in_from : ℕ → ℕ → ℕ → ℕ → Bool
in_from secret j c q = leb j c && inside secret q

-- the positions of count n in the state q; and in a state that is not listed
abbrev pub ends_at : ℕ → ℕ → ℕ → ℕ → Bool
ends_at q n c s = eqb c n && eqb s q

abbrev pub ends_outside : List ℕ → ℕ → ℕ → ℕ → Bool
ends_outside states n c s = eqb c n && not (any (eqb s) states)

abbrev pub nowhere : ℕ → ℕ → Bool
nowhere c q = false

flag_nowhere : (view : ℕ → List ℕ) (run : List Step) (c q : ℕ) → flag_of view nowhere c q run ≡ false
flag_nowhere view [] c q = refl
flag_nowhere view (s ∷ ss) c q = flag_nowhere view ss (c + length (view s.event)) s.to

module _ (p : Automaton) (trace : List ℕ) where
  pub possible : Flagged p nowhere false trace → Possible p trace
  possible r = record { run = r.run; compatible = r.compatible }

  pub impossible : Unflagged p nowhere false trace → Impossible p trace
  impossible never run ok = never run ok (flag_nowhere (shows p) run 0 p.initial)

  pub arrives : (q : ℕ) → Flagged p (ends_at q (length trace)) true trace → Arrives p trace q
  arrives q r =
      let h = flag_to p (ends_at q (length trace)) r.run (from_true r.flagged) in
      let m = h.position in
      delayed_arrives p trace q (record {
        run = r.run;
        compatible = r.compatible;
        position = m;
        here = eqb→eq (count p m) (length trace) (and_left (eqb (count p m) (length trace)) (eqb (state_at p m) q) h.marked);
        is = eqb→eq (state_at p m) q (and_right (eqb (count p m) (length trace)) (eqb (state_at p m) q) h.marked);
      })

  pub arrives_listed : (states : List ℕ) → Unflagged p (ends_outside states (length trace)) true trace → (q : ℕ) → Arrives p trace q → T (any (eqb q) states)
  arrives_listed states never q a =
      let m : Position a.run = record { before = a.run; after = []; splits = append-nil a.run } in
      subst (λ (s : ℕ). T (any (eqb s) states)) a.ends
      (unless_not (any (eqb (state_at p m)) states)
      (λ out. never a.run a.compatible
      (is_true (flag_from p (ends_outside states (length trace)) a.run m
      (and_both (eqb (count p m) (length trace)) (not (any (eqb (state_at p m)) states))
      (eq_eqb (count p m) (length trace) (ap length a.compatible.shown_is)) out)))))

  -- the listed states are those in which compatible runs end, and none is listed twice
  pub size : (states : List ℕ) (n : ℕ) → length states ≡ n → ((i : ℕ) → i < n → Flagged p (ends_at (get_or states i 0) (length trace)) true trace)
      → Unflagged p (ends_outside states (length trace)) true trace → ((j : ℕ) → j < n → (i : ℕ) → i < j → get_or states i 0 ≡ get_or states j 0 → ⊥)
      → EstimateSize p trace n
  size states n e some never distinct =
      record {
        members = states;
        number_is = e;
        sound = λ i h. arrives (get_or states i 0) (some i h);
        whole = λ q a.
            let w = any_place q states (arrives_listed states never q a) in
            (w.0, omega (arith, w.1), w.2);
        distinct = λ i j h l same. distinct j l i h same;
      }

  module _ (secret j : ℕ) where
    pub sure_at : Unflagged p (out_at secret j) true trace → SureAt p secret trace j
    sure_at never run ok m here =
        eqb→eq (bit (state_at p m) secret) 1
        (unless_not (inside secret (state_at p m))
        (λ out. never run ok
        (is_true (flag_from p (out_at secret j) run m (and_both (eqb (count p m) j) (not (inside secret (state_at p m))) (eq_eqb (count p m) j here) out)))))

    pub clear_at : Flagged p (out_at secret j) true trace → ClearAt p secret trace j
    clear_at r =
        let h = flag_to p (out_at secret j) r.run (from_true r.flagged) in
        let m = h.position in
        record {
          run = r.run;
          compatible = r.compatible;
          position = m;
          here = eqb→eq (count p m) j (and_left (eqb (count p m) j) (not (inside secret (state_at p m))) h.marked);
          outside = λ bad. T_not (inside secret (state_at p m)) (and_right (eqb (count p m) j) (not (inside secret (state_at p m))) h.marked)
              (eq_eqb (bit (state_at p m) secret) 1 bad);
        }

    pub sure_from : Unflagged p (in_from secret j) false trace → SureFrom p secret trace j
    sure_from never run ok =
        let h = flag_to p (in_from secret j) run (unless_false _ (never run ok)) in
        let m = h.position in
        record {
          position = m;
          late = leb→le j (count p m) (and_left (leb j (count p m)) (inside secret (state_at p m)) h.marked);
          inside = eqb→eq (bit (state_at p m) secret) 1 (and_right (leb j (count p m)) (inside secret (state_at p m)) h.marked);
        }

    pub clear_from : Flagged p (in_from secret j) false trace → ClearFrom p secret trace j
    clear_from r = record {
      run = r.run;
      compatible = r.compatible;
      outside = λ m late bad.
          false≢true (sym r.flagged ∙ is_true (flag_from p (in_from secret j) r.run m
          (and_both (leb j (count p m)) (inside secret (state_at p m)) (le→leb j (count p m) late) (eq_eqb (bit (state_at p m) secret) 1 bad))));
    }

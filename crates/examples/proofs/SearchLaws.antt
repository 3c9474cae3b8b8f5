-- What the search's tests say of runs, for any automaton, trace and marks. Assumes nothing.
use mathlib.Core.Path.{◌≡◌, refl, ap, sym, ◌∙◌, subst, subst₂}
use mathlib.Core.Bool.{Bool, true, false, ◌&&◌, ◌||◌, beq}
use mathlib.Core.List.{List, [], ◌∷◌, ◌++◌}
use Prim.Native.Nat.{ℕ, ◌+◌, ◌≤◌}
use native.Mathlib.Omega.{arith}
use lib.Dec.{T, eqb, eqb→eq, T_not}
use lib.ListN.{length}
use Rattle.automaton.specs.Run as run
use Rattle.automaton.specs.Run.{Automaton, Step, Takes, shows, shown, Compatible}
use Rattle.automaton.proofs.Runs.{shows_short}
use Rattle.encoding.specs.Transitions.{same_transition, listed}
use Rattle.encoding.specs.declared.ListedTransition.{ListedTransition}
use Rattle.examples.proofs.Booleans.{every, any, implied, meet, and_left, and_right, and_both, or_assoc, same_eq, eq_same, eq_eqb, same_list, same-list}
use Rattle.examples.proofs.Search.{Node, is_node, is_nil, is_one, flag_of, trace_of, silent, showing, covered, passes, other, ahead, first, after, none}
use Rattle.examples.proofs.Search.{find, steps_listed, is_run, some}
use Rattle.examples.proofs.Marks.{flag}

abbrev pub triple : (from event to : ℕ) → ListedTransition
triple q e r = record { from = q; event = e; to = r }

-- the automaton's transitions are the listed ones
pub record Listing (p : Automaton) (ts : List ListedTransition) : Type 0 where
  pub taken : (q e r : ℕ) → T (listed (triple q e r) ts) → run.Transition p.table q e r
  pub named : (q e r : ℕ) → run.Transition p.table q e r → T (listed (triple q e r) ts)

pub listed_any : (t : ListedTransition) (ts : List ListedTransition) → listed t ts ≡ any (same_transition t) ts
listed_any t [] = refl
listed_any t (x ∷ xs) = ap (λ (b : Bool). same_transition t x || b) (listed_any t xs)

node_is : (q : ℕ) (f : Bool) (x : Node) → T (is_node q f x) → (q ≡ x.state) × (f ≡ x.flag)
node_is q f x t =
    (eqb→eq q x.state (and_left (eqb q x.state) (beq f x.flag) t), same_eq f x.flag (and_right (eqb q x.state) (beq f x.flag) t))

pub transition_is : (q e r : ℕ) (x : ListedTransition) → T (same_transition (triple q e r) x) → (q ≡ x.from) × (e ≡ x.event) × (r ≡ x.to)
transition_is q e r x t =
    let rest = and_right (eqb q x.from) (eqb e x.event && eqb r x.to) t in (
      eqb→eq q x.from (and_left (eqb q x.from) (eqb e x.event && eqb r x.to) t),
      eqb→eq e x.event (and_left (eqb e x.event) (eqb r x.to) rest),
      eqb→eq r x.to (and_right (eqb e x.event) (eqb r x.to) rest),
    )

-- some run that is compatible with the trace has the flag b
pub record Flagged (p : Automaton) (mark : ℕ → ℕ → Bool) (b : Bool) (trace : List ℕ) : Type 0 where
  pub run : List Step
  pub compatible : Compatible p trace run
  pub flagged : flag p mark run ≡ b

-- none has
abbrev pub Unflagged : Automaton → (ℕ → ℕ → Bool) → Bool → List ℕ → Type 0
Unflagged p mark b trace = (run : List Step) → Compatible p trace run → flag p mark run ≡ b → ⊥

module _ (ts : List ListedTransition) (p : Automaton) (d : Listing p ts) (mark : ℕ → ℕ → Bool) (b : Bool) where
  abbrev W : ℕ → List ℕ
  W = shows p

  pass : (keep : ℕ → Bool) (c : ℕ) (S S' : List Node) → T (passes W mark ts keep c S S')
      → (q e r : ℕ) (f : Bool) → T (any (is_node q f) S) → run.Transition p.table q e r → T (keep e) → T (any (is_node r (f || mark c q)) S')
  pass keep c S S' all q e r f here t kept =
      let X = meet (λ (x : Node). every (covered W mark ts keep c S' x) ts) (is_node q f) S all here in
      let x = X.item in
      let there : T (any (same_transition (triple q e r)) ts) = subst T (listed_any (triple q e r) ts) (d.named q e r t) in
      let Y = meet (covered W mark ts keep c S' x) (same_transition (triple q e r)) ts X.first there in
      let y = Y.item in
      let here-is = node_is q f x X.second in
      let there-is = transition_is q e r y Y.second in
      subst (λ (n : ℕ). T (any (is_node n (f || mark c q)) S')) (sym there-is.2)
      (subst₂ (λ (g : Bool) (n : ℕ). T (any (is_node y.to (g || mark c n)) S')) (sym here-is.1) (sym here-is.0)
      (implied (eqb y.from x.state && keep y.event) (any (is_node y.to (x.flag || mark c x.state)) S') Y.first
      (and_both (eqb y.from x.state) (keep y.event) (eq_eqb y.from x.state (sym there-is.0 ∙ here-is.0))
      (subst (λ (n : ℕ). T (keep n)) there-is.1 kept))))

  abbrev Closed : ℕ → List Node → Bool
  Closed c S = passes W mark ts (silent W mark) c S S

  abbrev Onward : ℕ → ℕ → List Node → Bool
  Onward a c S = passes W mark ts (showing W mark a) c S (after W mark ts a c S)

  abbrev Ahead : ℕ → List ℕ → List Node → Bool
  Ahead c rest S = ahead W mark ts b c rest S

  closed : (c : ℕ) (rest : List ℕ) (S : List Node) → T (Ahead c rest S) → T (Closed c S)
  closed c [] S t = and_left (Closed c S) (every (other W mark ts b c) S) t
  closed c (a ∷ rest) S t = and_left (Closed c S) (Onward a c S && Ahead (c + 1) rest (after W mark ts a c S)) t

  -- these steps, from a node, do not show the rest with the flag
  abbrev Never : List Step → Type 0
  Never run =
      (c : ℕ) (rest : List ℕ) (S : List Node) (q : ℕ) (f : Bool) → T (Ahead c rest S) → T (any (is_node q f) S)
      → Takes p q run → shown p run ≡ rest → (f || flag_of W mark c q run) ≡ b → ⊥

  never_step : (s : Step) (ss : List Step) → Never ss → (v : List ℕ) → W s.event ≡ v → length v ≤ 1
      → (c : ℕ) (rest : List ℕ) (S : List Node) (q : ℕ) (f : Bool) → T (Ahead c rest S) → T (any (is_node q f) S)
      → run.Transition p.table q s.event s.to → Takes p s.to ss → v ++ shown p ss ≡ rest
      → (f || (mark c q || flag_of W mark (c + length v) s.to ss)) ≡ b → ⊥
  never_step s ss rec [] e short c rest S q f t here step takes sh fl =
      rec c rest S s.to (f || mark c q) t
      (pass (silent W mark) c S S (closed c rest S t) q s.event s.to f here step (subst (λ (v : List ℕ). T (is_nil v)) (sym e) tt))
      takes sh (sym (or_assoc f (mark c q) (flag_of W mark c s.to ss))
      ∙ subst (λ (n : ℕ). (f || (mark c q || flag_of W mark n s.to ss)) ≡ b) (omega arith) fl)
  never_step s ss rec (x ∷ []) e short c [] S q f t here step takes sh fl = let z : ◌≡◌ {A = ℕ} 0 1 = cc in omega arith
  never_step s ss rec (x ∷ []) e short c (a ∷ rest) S q f t here step takes sh fl =
      let same-a : x ≡ a = cc in
      let same_rest : shown p ss ≡ rest = cc in
      let S' : List Node = after W mark ts a c S in
      let on = and_right (Closed c S) (Onward a c S && Ahead (c + 1) rest S') t in
      rec (c + 1) rest S' s.to (f || mark c q) (and_right (Onward a c S) (Ahead (c + 1) rest S') on)
      (pass (showing W mark a) c S S' (and_left (Onward a c S) (Ahead (c + 1) rest S') on) q s.event s.to f here step
      (subst (λ (v : List ℕ). T (is_one a v)) (sym e) (and_both (eqb x a) true (eq_eqb x a same-a) tt)))
      takes same_rest (sym (or_assoc f (mark c q) (flag_of W mark (c + 1) s.to ss)) ∙ fl)
  never_step s ss rec (x ∷ y ∷ v) e short c rest S q f t here step takes sh fl = omega arith

  never : (run : List Step) → Never run
  never [] c [] S q f t here takes sh fl =
      let x = meet (other W mark ts b c) (is_node q f) S (and_right (Closed c S) (every (other W mark ts b c) S) t) here in
      let here-is = node_is q f x.item x.second in
      T_not (beq (x.item.flag || mark c x.item.state) b) x.first
      (eq_same (x.item.flag || mark c x.item.state) b (subst₂ (λ (g : Bool) (n : ℕ). (g || mark c n) ≡ b) here-is.1 here-is.0 fl))
  never [] c (a ∷ rest) S q f t here takes sh fl = let z : ◌≡◌ {A = ℕ} 0 1 = cc in omega arith
  never (s ∷ ss) c rest S q f t here takes sh fl =
      never_step s ss (never ss) (W s.event) refl (shows_short p s.event) c rest S q f t here takes.0 takes.1 sh fl

  pub none_sound : (trace : List ℕ) → T (none W mark ts b p.initial trace) → Unflagged p mark b trace
  none_sound trace t run ok fl =
      let S : List Node = first W mark ts p.initial in
      never run 0 trace S p.initial false (and_right (any (is_node p.initial false) S) (Ahead 0 trace S) t)
      (and_left (any (is_node p.initial false) S) (Ahead 0 trace S) t) ok.takes ok.shown_is fl

  trace_shown : (run : List Step) → trace_of W mark run ≡ shown p run
  trace_shown [] = refl
  trace_shown (s ∷ ss) = ap (λ (l : List ℕ). shows p s.event ++ l) (trace_shown ss)

  takes : (run : List Step) (q : ℕ) → T (steps_listed W mark ts q run) → Takes p q run
  takes [] q t = tt
  takes (s ∷ ss) q t =
      let here : Bool = listed (triple q s.event s.to) ts in
      let rest : Bool = steps_listed W mark ts s.to ss in
      (d.taken q s.event s.to (and_left here rest t), takes ss s.to (and_right here rest t))

  flagged_by : (trace : List ℕ) (run : List Step) → T (is_run W mark ts b p.initial trace run) → Flagged p mark b trace
  flagged_by trace run t =
      let steps : Bool = steps_listed W mark ts p.initial run in
      let trace_is : Bool = same_list (trace_of W mark run) trace in
      let flag_is : Bool = beq (flag p mark run) b in
      let rest = and_right steps (trace_is && flag_is) t in
      record {
        run = run;
        compatible = record {
          takes = takes run p.initial (and_left steps (trace_is && flag_is) t);
          shown_is = sym (trace_shown run) ∙ same-list (trace_of W mark run) trace (and_left trace_is flag_is rest);
        };
        flagged = same_eq (flag p mark run) b (and_right trace_is flag_is rest);
      }

  pub some_sound : (trace : List ℕ) → T (some W mark ts b p.initial trace) → Flagged p mark b trace
  some_sound trace t = flagged_by trace (find W mark ts b p.initial trace) t

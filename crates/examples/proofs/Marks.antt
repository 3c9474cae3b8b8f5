-- A run's flag against its positions. Assumes nothing.
use mathlib.Core.Path.{◌≡◌, refl, ap, sym, subst}
use mathlib.Core.Bool.{Bool}
use mathlib.Core.List.{List, [], ◌∷◌, ◌++◌}
use mathlib.Core.Logic.{inl, inr}
use Prim.Native.Nat.{ℕ, ◌+◌}
use native.Mathlib.Nat.{zero-add, add-zero}
use native.Mathlib.Omega.{arith}
use lib.Dec.{T}
use lib.ListN.{length, length-append}
use Rattle.automaton.specs.Run.{Automaton, Step, end_of, shows, shown, Position, count, state_at}
use Rattle.examples.proofs.Booleans.{or_cases, or_left, or_right}
use Rattle.examples.proofs.Search.{flag_of}

module _ (p : Automaton) (mark : ℕ → ℕ → Bool) where
  abbrev Marked : ℕ → ℕ → List Step → Type 0
  Marked c q before = T (mark (c + length (shown p before)) (end_of q before))

  abbrev step : ℕ → Step → ℕ
  step c s = c + length (shows p s.event)

  shift : (c : ℕ) (s : Step) (before : List Step) → step c s + length (shown p before) ≡ c + length (shown p (s ∷ before))
  shift c s before = omega (arith, length-append (shows p s.event) (shown p before))

  -- a marked position of the steps from q, with c events shown before
  record Later (c q : ℕ) (run : List Step) : Type 0 where
    position : Position run
    marked : Marked c q position.before

  now : (c q : ℕ) (run : List Step) → T (mark c q) → Later c q run
  now c q run t = record { position = record { before = []; after = run; splits = refl }; marked = subst (λ (n : ℕ). T (mark n q)) (sym (add-zero c)) t }

  later : (run : List Step) (c q : ℕ) → T (flag_of (shows p) mark c q run) → Later c q run
  later [] c q t = now c q [] t
  later (s ∷ ss) c q t =
      elim (or_cases (mark c q) (flag_of (shows p) mark (step c s) s.to ss) t) [
        | inl h ↦ now c q (s ∷ ss) h
        | inr h ↦
            let l = later ss (step c s) s.to h in
            let m = l.position in
            record {
              position = record { before = s ∷ m.before; after = m.after; splits = ap (λ (r : List Step). s ∷ r) m.splits };
              marked = subst (λ (n : ℕ). T (mark n (end_of s.to m.before))) (shift c s m.before) l.marked;
            }
      ]

  flag_here : (run : List Step) (c q : ℕ) → T (mark c q) → T (flag_of (shows p) mark c q run)
  flag_here [] c q t = t
  flag_here (s ∷ ss) c q t = or_left (mark c q) (flag_of (shows p) mark (step c s) s.to ss) t

  flag_at : (before after : List Step) (c q : ℕ) → Marked c q before → T (flag_of (shows p) mark c q (before ++ after))
  flag_at [] after c q t = flag_here after c q (subst (λ (n : ℕ). T (mark n q)) (add-zero c) t)
  flag_at (s ∷ before) after c q t =
      or_right (mark c q) (flag_of (shows p) mark (step c s) s.to (before ++ after))
      (flag_at before after (step c s) s.to (subst (λ (n : ℕ). T (mark n (end_of s.to before))) (sym (shift c s before)) t))

  -- whether a position of a run is marked
  abbrev pub flag : List Step → Bool
  flag run = flag_of (shows p) mark 0 p.initial run

  pub flag_from : (run : List Step) (m : Position run) → T (mark (count p m) (state_at p m)) → T (flag run)
  flag_from run m t =
      subst (λ (r : List Step). T (flag r)) m.splits
      (flag_at m.before m.after 0 p.initial (subst (λ (n : ℕ). T (mark n (state_at p m))) (sym (zero-add (count p m))) t))

  pub record Hit (run : List Step) : Type 0 where
    pub position : Position run
    pub marked : T (mark (count p position) (state_at p position))

  pub flag_to : (run : List Step) → T (flag run) → Hit run
  flag_to run t =
      let l = later run 0 p.initial t in
      record { position = l.position; marked = subst (λ (n : ℕ). T (mark n (state_at p l.position))) (zero-add (count p l.position)) l.marked }

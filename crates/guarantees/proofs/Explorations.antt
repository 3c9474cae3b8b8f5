-- The first point of an exploration: each row of its contract on its condition, and the others' conditions fail there; so it has one answer. Assumes nothing.
use mathlib.Core.Path.{◌≡◌, refl, ap, subst, sym}
use mathlib.Core.List.{List}
use mathlib.Core.Logic.{inl, inr}
use Prim.Native.Nat.{ℕ}
use native.Mathlib.Omega.{arith}
use Rattle.automaton.specs.Run.{automaton_of}
use Rattle.automaton.specs.declared.Header.{Header}
use Rattle.opacity.specs.declared.Further.{Further}
use Rattle.opacity.specs.Secrets.{secrets_of, look_back_of}
use Rattle.opacity.proofs.Numbering.{allowed_not_large}
use Rattle.explore.specs.Explorations.{Said, refused, explored, ExploredAll, Exploring}
use Rattle.explore.proofs.Counting.{more_than_number, one_number, one_largest}
use Rattle.guarantees.specs.FirstPoint.{ExploreAnswers}
use Rattle.guarantees.specs.Exploration.{OneExploration}

-- refusals with one number, and a refusal is no other answer
same_refused : {m n : ℕ} → refused m ≡ refused n → m ≡ n
same_refused e = ap number e
  where
    number : Said → ℕ
    number (refused n) = n
    number (explored n w s) = 0

not_refused : {n number weak strong : ℕ} → explored number weak strong ≡ refused n → ⊥
not_refused e = subst Gives e tt
  where
    Gives : Said → Type 0
    Gives (refused n) = ⊥
    Gives (explored n w s) = Unit {0}

-- an exploration's three numbers
same_explored : {n w s n' w' s' : ℕ} → explored n w s ≡ explored n' w' s' → (n ≡ n') × (w ≡ w') × (s ≡ s')
same_explored e = (ap number e, ap weak e, ap strong e)
  where
    number : Said → ℕ
    number (refused n) = 0
    number (explored n w s) = n

    weak : Said → ℕ
    weak (refused n) = 0
    weak (explored n w s) = w

    strong : Said → ℕ
    strong (refused n) = 0
    strong (explored n w s) = s

pub explore_answers : (t : List ℕ) (h : Header) (f : Further) (limit : ℕ) (says : Said) → Exploring t h f limit says → ExploreAnswers t h f limit says
explore_answers t h f limit says (Exploring.malformed bad) = record {
  malformed = (λ e. bad, λ x. refl);
  too_many_secrets = (λ e. absurd (omega (arith, same_refused e)), λ x. absurd (bad x.0));
  look_back_too_large = (λ e. absurd (omega (arith, same_refused e)), λ x. absurd (bad x.0));
  budget_spent = (λ e. absurd (omega (arith, same_refused e)), λ x. absurd (bad x.0));
  explored = λ n v w. (λ e. absurd (not_refused (sym e)), λ x. absurd (bad x.well_formed));
  no_other = λ n e. inl (sym (same_refused e));
}
explore_answers t h f limit says (Exploring.too_many_secrets so many) = record {
  malformed = (λ e. absurd (omega (arith, same_refused e)), λ x. absurd (x so));
  too_many_secrets = (λ e. (so, many), λ x. refl);
  look_back_too_large = (λ e. absurd (omega (arith, same_refused e)), λ x. absurd (omega (arith, x.1, many)));
  budget_spent = (λ e. absurd (omega (arith, same_refused e)), λ x. absurd (omega (arith, x.1.few, many)));
  explored = λ n v w. (λ e. absurd (not_refused (sym e)), λ x. absurd (omega (arith, x.allowed.few, many)));
  no_other = λ n e. inr (inl (sym (same_refused e)));
}
explore_answers t h f limit says (Exploring.look_back_too_large so few large) = record {
  malformed = (λ e. absurd (omega (arith, same_refused e)), λ x. absurd (x so));
  too_many_secrets = (λ e. absurd (omega (arith, same_refused e)), λ x. absurd (omega (arith, x.1, few)));
  look_back_too_large = (λ e. (so, few, large), λ x. refl);
  budget_spent = (λ e. absurd (omega (arith, same_refused e)), λ x. absurd (allowed_not_large f x.1 large));
  explored = λ n v w. (λ e. absurd (not_refused (sym e)), λ x. absurd (allowed_not_large f x.allowed large));
  no_other = λ n e. inr (inr (inl (sym (same_refused e))));
}
explore_answers t h f limit says (Exploring.budget_spent so allowed more) = record {
  malformed = (λ e. absurd (omega (arith, same_refused e)), λ x. absurd (x so));
  too_many_secrets = (λ e. absurd (omega (arith, same_refused e)), λ x. absurd (omega (arith, x.1, allowed.few)));
  look_back_too_large = (λ e. absurd (omega (arith, same_refused e)), λ x. absurd (allowed_not_large f allowed x.2));
  budget_spent = (λ e. (so, allowed, more), λ x. refl);
  explored = λ n v w. (
    λ e. absurd (not_refused (sym e)),
    λ x. absurd (omega (arith, x.few, (more_than_number (automaton_of t h) (look_back_of h f) _ _ x.number_is).0 more)),
  );
  no_other = λ n e. inr (inr (inr (sym (same_refused e))));
}
explore_answers t h f limit says (Exploring.explored_all {number = number} {weak = weak} {strong = strong} here) = record {
  malformed = (λ e. absurd (not_refused e), λ z. absurd (z here.well_formed));
  too_many_secrets = (λ e. absurd (not_refused e), λ z. absurd (omega (arith, z.1, here.allowed.few)));
  look_back_too_large = (λ e. absurd (not_refused e), λ z. absurd (allowed_not_large f here.allowed z.2));
  budget_spent = (
    λ e. absurd (not_refused e),
    λ z. absurd (omega (arith, here.few, (more_than_number (automaton_of t h) (look_back_of h f) _ _ here.number_is).0 z.2)),
  );
  explored = λ n v w. (right n v w, only n v w);
  no_other = λ n e. absurd (not_refused e);
}
  where
    right : (n v w : ℕ) → explored number weak strong ≡ explored n v w → ExploredAll t h f limit n v w
    right n v w e =
        let s = same_explored e in
        subst (λ (k : ℕ). ExploredAll t h f limit n v k) s.2
        (subst (λ (k : ℕ). ExploredAll t h f limit n k strong) s.1 (subst (λ (k : ℕ). ExploredAll t h f limit k weak strong) s.0 here))

    only : (n v w : ℕ) → ExploredAll t h f limit n v w → explored number weak strong ≡ explored n v w
    only n v w z =
        let a = one_number (automaton_of t h) (look_back_of h f) _ _ here.number_is z.number_is in
        let b = one_largest _ (automaton_of t h) (secrets_of h f) _ _ here.weak_is z.weak_is in
        let c = one_largest _ (automaton_of t h) (secrets_of h f) _ _ here.strong_is z.strong_is in
        λ i. explored (a i) (b i) (c i)

-- so there is one answer
pub one_exploration : OneExploration
one_exploration t h f limit a b (Exploring.malformed bad) y = sym ((explore_answers t h f limit b y).malformed.1 bad)
one_exploration t h f limit a b (Exploring.too_many_secrets so many) y = sym ((explore_answers t h f limit b y).too_many_secrets.1 (so, many))
one_exploration t h f limit a b (Exploring.look_back_too_large so few large) y =
    sym ((explore_answers t h f limit b y).look_back_too_large.1 (so, few, large))
one_exploration t h f limit a b (Exploring.budget_spent so allowed more) y = sym ((explore_answers t h f limit b y).budget_spent.1 (so, allowed, more))
one_exploration t h f limit a b (Exploring.explored_all e) y = sym (((explore_answers t h f limit b y).explored _ _ _).1 e)

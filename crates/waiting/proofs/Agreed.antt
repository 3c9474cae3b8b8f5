-- What counts for nothing in an exploration: an unobservable event's symbol (02, S-2), and what stands past the count of further secrets (02, S-6). Assumes
-- nothing.
use mathlib.Core.Path.{◌≡◌, refl, subst}
use mathlib.Core.List.{List, []}
use mathlib.Core.Logic.{◌↔◌}
use Prim.Native.Nat.{ℕ, ◌<◌}
use native.Mathlib.Omega.{arith}
use lib.ListN.{length, get_or}
use Rattle.automaton.specs.Run.{Automaton, automaton_of, Possible}
use Rattle.automaton.specs.Symbols.{SameSymbols}
use Rattle.automaton.specs.Reaching.{Enters}
use Rattle.automaton.specs.declared.Header.{Header}
use Rattle.automaton.proofs.Agreeing.{possible_agree, enters_agree}
use Rattle.automaton.proofs.Spelling.{same_agree, same_back}
use Rattle.automaton.proofs.Headers.{relabelled, same_well_formed, same-header}
use Rattle.opacity.specs.declared.Notion.{Notion}
use Rattle.opacity.specs.declared.Notion.TheVariants.{Weak, Strong}
use Rattle.opacity.specs.declared.Secret.{Secret}
use Rattle.opacity.specs.declared.Further.{Further}
use Rattle.opacity.specs.Secrets.{secrets_of, secret_at, largest, cleared_of}
use Rattle.verifier.proofs.Agreed.{same_tells}
use Rattle.verifier.proofs.PastCount.{past_count, past_secrets, past_allowed, past_large}
use Rattle.explore.specs.Configurations.{SameConfiguration, Number, MoreThan}
use Rattle.explore.specs.LargestWaits.{WaitIs, LargestOfAll}
use Rattle.explore.specs.Explorations.{Said, Exploring, budget_spent, explored_all}

-- two automata that are the same but for the symbols of unobservable events
module _ (p q : Automaton) (g : SameSymbols p q) where
  possible_to : (trace : List ℕ) → Possible p trace → Possible q trace
  possible_to trace x = possible_agree p q trace trace (same_agree p q g trace) x

  enters_to : (trace : List ℕ) (r : ℕ) → Enters p trace r → Enters q trace r
  enters_to trace r x = enters_agree p q trace trace (same_agree p q g trace) r x

  wait_to : (notion : Notion) (c : Secret) (trace : List ℕ) (w : ℕ) → WaitIs notion p c trace w → WaitIs notion q c trace w
  wait_to notion c trace w x = record { steps = x.steps; tells = (same_tells p q g trace c notion x.steps).0 x.tells; wait_is = x.wait_is }

module _ (p q : Automaton) (g : SameSymbols p q) (K : ℕ) where
  same_to : (a b : List ℕ) → SameConfiguration p K a b → SameConfiguration q K a b
  same_to a b x = record {
    as_many = x.as_many;
    symbols = x.symbols;
    entries = λ l h r.
        let y = x.entries l h r in
        let back = enters_to q p (same_back p q g) in
        (λ e. enters_to p q g _ r (y.0 (back _ r e)), λ e. enters_to p q g _ r (y.1 (back _ r e)));
  }

module _ (p q : Automaton) (g : SameSymbols p q) (K : ℕ) where
  distinct_to : (traces : List (List ℕ)) (n : ℕ)
      → ((i j : ℕ) → i < j → j < n → SameConfiguration p K (get_or traces i []) (get_or traces j []) → ⊥)
      → (i j : ℕ) → i < j → j < n → SameConfiguration q K (get_or traces i []) (get_or traces j []) → ⊥
  distinct_to traces n x i j less h same = x i j less h (same_to q p (same_back p q g) K _ _ same)

  number_to : (n : ℕ) → Number p K n → Number q K n
  number_to n x = record {
    members = x.members;
    number_is = x.number_is;
    sound = λ i h. possible_to p q g _ (x.sound i h);
    whole = λ trace possible.
        let y = x.whole trace (possible_to q p (same_back p q g) trace possible) in
        (y.0, y.1, same_to p q g K _ _ y.2);
    distinct = distinct_to x.members n x.distinct;
  }

  more_to : (n : ℕ) → MoreThan p K n → MoreThan q K n
  more_to n x = record {
    members = x.members;
    more = x.more;
    sound = λ i h. possible_to p q g _ (x.sound i h);
    distinct = distinct_to x.members (length x.members) x.distinct;
  }

largest_to : (p q : Automaton) → SameSymbols p q → (notion : Notion) (cs : List Secret) (w : ℕ) → LargestOfAll notion p cs w → LargestOfAll notion q cs w
largest_to p q g notion cs w x =
    let g' = same_back p q g in
    let a = x.attained in
    record {
      most = λ trace possible i given v is. x.most trace (possible_to q p g' trace possible) i given v (wait_to q p g' notion (secret_at cs i) trace v is);
      attained = record {
        trace = a.trace;
        possible = possible_to p q g a.trace a.possible;
        waits = record {
          number = a.waits.number;
          given = a.waits.given;
          wait = wait_to p q g notion (secret_at cs a.waits.number) a.trace w a.waits.wait;
        };
      };
    }

module _ (t : List ℕ) (h : Header) (symbols : List ℕ) (g : SameSymbols (automaton_of t h) (automaton_of t (relabelled h symbols))) where
  exploring_to : (f : Further) (limit : ℕ) (r : Said) → Exploring t h f limit r → Exploring t (relabelled h symbols) f limit r
  exploring_to f limit r (Exploring.malformed bad) = Exploring.malformed (λ x. bad ((same_well_formed t h (relabelled h symbols) g refl).1 x))
  exploring_to f limit r (Exploring.too_many_secrets so many) = Exploring.too_many_secrets ((same_well_formed t h (relabelled h symbols) g refl).0 so) many
  exploring_to f limit r (Exploring.look_back_too_large so few large) =
      Exploring.look_back_too_large ((same_well_formed t h (relabelled h symbols) g refl).0 so) few large
  exploring_to f limit r (budget_spent so allowed more) =
      budget_spent ((same_well_formed t h (relabelled h symbols) g refl).0 so) allowed (more_to _ _ g _ _ more)
  exploring_to f limit r (explored_all e) =
      explored_all (record {
        well_formed = (same_well_formed t h (relabelled h symbols) g refl).0 e.well_formed;
        allowed = e.allowed;
        few = e.few;
        number_is = number_to _ _ g _ _ e.number_is;
        weak_is = largest_to _ _ g _ (secrets_of h f) _ e.weak_is;
        strong_is = largest_to _ _ g _ (secrets_of h f) _ e.strong_is;
      })

pub same_exploring : (t : List ℕ) (h h' : Header) → SameSymbols (automaton_of t h) (automaton_of t h') → h.secret ≡ h'.secret → h.k ≡ h'.k → (f : Further)
    (limit : ℕ) (r : Said) → Exploring t h f limit r ↔ Exploring t h' f limit r
same_exploring t h h' g secret k f limit r =
    same-header t (λ x. Exploring t x f limit r) (λ h symbols g. exploring_to t h symbols g f limit r) h h' g secret k

-- further secrets that differ past their count alone are explored alike
pub past_exploring : (f g : Further) → cleared_of f ≡ cleared_of g → (t : List ℕ) (h : Header) (limit : ℕ) (r : Said) → Exploring t h f limit r
    → Exploring t h g limit r
past_exploring f g same t h limit r (Exploring.malformed bad) = Exploring.malformed bad
past_exploring f g same t h limit r (Exploring.too_many_secrets so many) = Exploring.too_many_secrets so (omega (arith, past_count f g same))
past_exploring f g same t h limit r (Exploring.look_back_too_large so few large) =
    Exploring.look_back_too_large so (omega (arith, past_count f g same)) (past_large f g same large)
past_exploring f g same t h limit r (budget_spent so allowed more) =
    budget_spent so (past_allowed f g same allowed)
    (subst (λ (cs : List Secret). MoreThan (automaton_of t h) (largest cs) limit) (past_secrets f g same h) more)
past_exploring f g same t h limit r (explored_all {number = n} {weak = v} {strong = w} e) =
    let are = past_secrets f g same h in
    explored_all (record {
      well_formed = e.well_formed;
      allowed = past_allowed f g same e.allowed;
      few = e.few;
      number_is = subst (λ (cs : List Secret). Number (automaton_of t h) (largest cs) n) are e.number_is;
      weak_is = subst (λ (cs : List Secret). LargestOfAll Weak (automaton_of t h) cs v) are e.weak_is;
      strong_is = subst (λ (cs : List Secret). LargestOfAll Strong (automaton_of t h) cs w) are e.strong_is;
    })

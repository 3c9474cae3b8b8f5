-- Checks of verdicts, numbers of possible states and safe prefixes, each for every table that holds the listed transitions. Assumes nothing.
use mathlib.Core.Path.{◌≡◌}
use mathlib.Core.Bool.{Bool, true, false, not}
use mathlib.Core.List.{List, []}
use mathlib.Core.Logic.{inl, inr, ⊎_elim}
use Prim.Native.Nat.{ℕ, suc, ◌+◌, ◌-◌, ◌≤◌, ◌<◌}
use native.Mathlib.Omega.{arith}
use lib.Dec.{T, eqb, T_not}
use lib.ListN.{length, get_or, take}
use Rattle.automaton.specs.Run.{Automaton, automaton_of, shows, Possible, Impossible}
use Rattle.automaton.specs.Reaching.{EstimateSize}
use Rattle.automaton.specs.Notion.{SureAt, ClearFrom}
use Rattle.automaton.specs.declared.Header.{Header}
use Rattle.encoding.specs.declared.ListedTransition.{ListedTransition}
use Rattle.opacity.specs.declared.Notion.{Notion}
use Rattle.opacity.specs.declared.Notion.TheVariants.{Weak, Strong}
use Rattle.opacity.specs.declared.Secret.{Secret}
use Rattle.opacity.specs.Secrets.{secret_at, ForEach}
use Rattle.opacity.specs.Verdicts.{Steps, none, leak, Sure, Clear, Tells}
use Rattle.enforcer.specs.SafePrefix.{Excused, Safe, SafeByRuns, Unsafe, SafeForAll}
use Rattle.enforcer.specs.Queues.{Longest}
use Rattle.enforcer.specs.Offerings.{OpensAsLeak}
use Rattle.enforcer.proofs.SafeLaws.{by_runs_safe, unsafe_not_safe}
use Rattle.examples.specs.Meaning.{TableOf}
use Rattle.examples.proofs.Booleans.{every, eq_eqb}
use Rattle.examples.proofs.Checks.{Check, map, both, either, by, le?, eq?, where_le, all_below, some_below, Below}
use Rattle.examples.proofs.Search as search
use Rattle.examples.proofs.SearchLaws.{Flagged, Unflagged, none_sound, some_sound}
use Rattle.examples.proofs.TableLaw.{in_range, listing}
use Rattle.examples.proofs.NotionLaws as laws
use Rattle.examples.proofs.NotionLaws.{nowhere, ends_at, ends_outside, out_at, in_from}

-- a run that excuses the system from count n - K on
pub excused : (p : Automaton) (secret : Secret) (first : List ℕ) (n : ℕ) → ClearFrom p secret.states first (n - secret.k) → Excused p secret first n
excused p secret first n c = record { run = c.run; compatible = c.compatible; outside = λ m near bad. c.outside m (omega arith) bad }

-- for every table that holds the transitions. A check is computed from their list alone, so that one serves all tables
abbrev pub For : List ListedTransition → (List ℕ → Type 0) → Type 0
For ts A = (x : TableOf ts) → A x.table

module _ (ts : List ListedTransition) (h : Header) (range : T (every in_range ts)) where
  abbrev M : TableOf ts → Automaton
  M x = automaton_of x.table h

  -- what an event shows does not depend on the table
  abbrev view : ℕ → List ℕ
  view = shows (automaton_of [] h)

  abbrev none? : (mark : ℕ → ℕ → Bool) (b : Bool) (trace : List ℕ) → Check (For ts (λ t. Unflagged (automaton_of t h) mark b trace))
  none? mark b trace =
      by (search.none view mark ts b h.initial trace) (λ ok x. none_sound ts (M x) (listing ts x.table x.holds range h) mark b trace ok)

  abbrev some? : (mark : ℕ → ℕ → Bool) (b : Bool) (trace : List ℕ) → Check (For ts (λ t. Flagged (automaton_of t h) mark b trace))
  some? mark b trace =
      by (search.some view mark ts b h.initial trace) (λ ok x. some_sound ts (M x) (listing ts x.table x.holds range h) mark b trace ok)

  abbrev pub possible? : (trace : List ℕ) → Check (For ts (λ t. Possible (automaton_of t h) trace))
  possible? trace = map (λ r x. laws.possible (M x) trace (r x)) (some? nowhere false trace)

  abbrev pub impossible? : (trace : List ℕ) → Check (For ts (λ t. Impossible (automaton_of t h) trace))
  impossible? trace = map (λ r x. laws.impossible (M x) trace (r x)) (none? nowhere false trace)

  abbrev different? : (states : List ℕ) (n : ℕ) → Check ((j : ℕ) → j < n → (i : ℕ) → i < j → get_or states i 0 ≡ get_or states j 0 → ⊥)
  different? states n =
      all_below (λ j. all_below
      (λ i. by (not (eqb (get_or states i 0) (get_or states j 0)))
      (λ t same. T_not (eqb (get_or states i 0) (get_or states j 0)) t (eq_eqb (get_or states i 0) (get_or states j 0) same))) j) n

  -- how many states are possible: the search lists them
  abbrev pub size? : (trace : List ℕ) (n : ℕ) → Check (For ts (λ t. EstimateSize (automaton_of t h) trace n))
  size? trace n =
      let states : List ℕ = search.ends view nowhere ts h.initial trace in
      map (λ f x. laws.size (M x) trace states n f.0 (λ i l. f.1.0 i l x) (f.1.1.0 x) f.1.1.1)
      (both (eq? (length states) n) (both (all_below (λ i. some? (ends_at (get_or states i 0) (length trace)) true trace) n)
      (both (none? (ends_outside states (length trace)) true trace) (different? states n))))

  module _ (secret : Secret) where
    abbrev sure? : (notion : Notion) (trace : List ℕ) (j : ℕ) → Check (For ts (λ t. Sure notion (automaton_of t h) secret trace j))
    sure? Weak trace j = map (λ r x. laws.sure_at (M x) trace secret.states j (r x)) (none? (out_at secret.states j) true trace)
    sure? Strong trace j = map (λ r x. laws.sure_from (M x) trace secret.states j (r x)) (none? (in_from secret.states j) false trace)

    abbrev clear? : (notion : Notion) (trace : List ℕ) (j : ℕ) → Check (For ts (λ t. Clear notion (automaton_of t h) secret trace j))
    clear? Weak trace j = map (λ r x. laws.clear_at (M x) trace secret.states j (r x)) (some? (out_at secret.states j) true trace)
    clear? Strong trace j = map (λ r x. laws.clear_from (M x) trace secret.states j (r x)) (some? (in_from secret.states j) false trace)

    abbrev pub tells? : (notion : Notion) (trace : List ℕ) (v : Steps) → Check (For ts (λ t. Tells notion (automaton_of t h) secret trace v))
    tells? notion trace none =
        map (λ f x l low short. f l (omega arith) short x)
        (all_below (λ l. where_le l (length trace) (clear? notion trace (length trace - l))) (suc secret.k))
    tells? notion trace (leak l) =
        map (λ f x. record { within = f.0; reached = f.1.0; sure = f.1.1.0 x; least = λ m less. f.1.1.1 m less x })
        (both (le? l secret.k) (both (le? l (length trace))
        (both (sure? notion trace (length trace - l)) (all_below (λ m. clear? notion trace (length trace - m)) l))))

    abbrev by_runs? : (notion : Notion) (first : List ℕ) (n : ℕ) → Check (For ts (λ t. SafeByRuns notion (automaton_of t h) secret first n))
    by_runs? Weak first n =
        map (λ f x j low near. f j (omega arith) near x) (all_below (λ j. where_le n (j + secret.k) (clear? Weak first j)) (suc (length first)))
    by_runs? Strong first n =
        map (λ f x. ⊎_elim (λ old. inl old) (λ c. inr (excused (M x) secret first n (c x))) f)
        (either (le? (suc (length first + secret.k)) n) (clear? Strong first (n - secret.k)))

    pub unsafe_weak : (first : List ℕ) (n : ℕ) → Below (λ j. (n ≤ j + secret.k) × For ts (λ t. SureAt (automaton_of t h) secret.states first j))
        (suc (length first))
        → For ts (λ t. Unsafe Weak (automaton_of t h) secret first n)
    unsafe_weak first n b x = let s = b.small in record { at = b.at; reached = omega arith; near = b.holds.0; sure = b.holds.1 x }

    abbrev unsafe? : (notion : Notion) (first : List ℕ) (n : ℕ) → Check (For ts (λ t. Unsafe notion (automaton_of t h) secret first n))
    unsafe? Weak first n = map (unsafe_weak first n) (some_below (λ j. both (le? n (j + secret.k)) (sure? Weak first j)) (suc (length first)))
    unsafe? Strong first n = map (λ f x. record { near = f.0; sure = f.1 x }) (both (le? n (length first + secret.k)) (sure? Strong first (n - secret.k)))

    abbrev pub longest? : (notion : Notion) (trace : List ℕ) (r : ℕ) → Check (For ts (λ t. Longest (Safe notion (automaton_of t h) secret) trace r))
    longest? notion trace r =
        map (λ f x. record {
          within = f.0;
          safe = by_runs_safe notion (M x) secret (take r trace) (length trace) (f.1.0 x);
          longest = λ s above short. unsafe_not_safe notion (M x) secret (take s trace) (length trace) (f.1.1 s (omega arith) above x);
        })
        (both (le? r (length trace)) (both (by_runs? notion (take r trace) (length trace))
        (all_below (λ s. where_le (suc r) s (unsafe? notion (take s trace) (length trace))) (suc (length trace)))))

  -- of several secrets, each by its own K
  module _ (cs : List Secret) where
    abbrev pub tells_each? : (notion : Notion) (trace : List ℕ) (v : ℕ → Steps)
        → Check (For ts (λ t. ForEach cs (λ i c. Tells notion (automaton_of t h) c trace (v i))))
    tells_each? notion trace v =
        map (λ f x i given. f i given x)
        (all_below {A = λ i. For ts (λ t. Tells notion (automaton_of t h) (secret_at cs i) trace (v i))} (λ i. tells? (secret_at cs i) notion trace (v i))
        (length cs))

    abbrev pub opens_as_leak? : (notion : Notion) → Check (For ts (λ t. OpensAsLeak notion (automaton_of t h) cs))
    opens_as_leak? notion =
        map (λ b x. record { number = b.at; given = b.small; tells = b.holds x })
        (some_below {A = λ i. For ts (λ t. Tells notion (automaton_of t h) (secret_at cs i) [] (leak 0))} (λ i. tells? (secret_at cs i) notion [] (leak 0))
        (length cs))

    -- no longer prefix is safe for all: one of them is unsafe
    abbrev pub longest_for_all? : (notion : Notion) (trace : List ℕ) (r : ℕ) → Check (For ts (λ t. Longest (SafeForAll notion (automaton_of t h) cs) trace r))
    longest_for_all? notion trace r =
        map (λ f x. record {
          within = f.0;
          safe = record { each = λ i given. by_runs_safe notion (M x) (secret_at cs i) (take r trace) (length trace) (f.1.0 i given x) };
          longest = λ s above short safe.
              let b = f.1.1 s (omega arith) above in
              unsafe_not_safe notion (M x) (secret_at cs b.at) (take s trace) (length trace) (b.holds x) (safe.each b.at b.small);
        })
        (both (le? r (length trace))
        (both (all_below {A = λ i. For ts (λ t. SafeByRuns notion (automaton_of t h) (secret_at cs i) (take r trace) (length trace))}
        (λ i. by_runs? (secret_at cs i) notion (take r trace) (length trace)) (length cs))
        (all_below (λ s. where_le (suc r) s (some_below {A = λ i. For ts (λ t. Unsafe notion (automaton_of t h) (secret_at cs i) (take s trace) (length trace))}
        (λ i. unsafe? (secret_at cs i) notion (take s trace) (length trace)) (length cs))) (suc (length trace)))))

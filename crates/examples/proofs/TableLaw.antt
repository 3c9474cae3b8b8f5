-- What the table law of `encoding` says of the transitions of runs; no other module looks into a table. Assumes nothing.
use mathlib.Core.Path.{sym, subst}
use mathlib.Core.Bool.{Bool, ◌&&◌}
use mathlib.Core.List.{List, [], ◌∷◌}
use Prim.Native.Nat.{ℕ, ◌≤◌, ◌<◌}
use lib.Dec.{T, ltb, ltb→lt}
use Rattle.automaton.specs.Run.{automaton_of, SmallSymbols, WellFormed}
use Rattle.automaton.specs.declared.Header.{Header}
use Rattle.encoding.specs.Transitions.{same_transition}
use Rattle.encoding.specs.declared.ListedTransition.{ListedTransition}
use Rattle.encoding.specs.Table.{Holds, table_of}
use Rattle.decoding.proofs.Stored.{Small, holds_all}
use Rattle.decoding.proofs.Listing.{Placed, listed_exactly}
use Rattle.examples.specs.Meaning.{TableOf}
use Rattle.examples.proofs.Booleans.{every, and_left, and_right, is_true, from_true, meet}
use Rattle.examples.proofs.SearchLaws.{triple, Listing, listed_any, transition_is}

-- the numbers of a transition are those of states and events
abbrev pub in_range : ListedTransition → Bool
in_range t = ltb t.from 64 && (ltb t.event 32 && ltb t.to 64)

placed : (t : ListedTransition) → T (in_range t) → Placed t
placed t h =
    let rest = and_right (ltb t.from 64) (ltb t.event 32 && ltb t.to 64) h in
    record {
      from = ltb→lt t.from 64 (and_left (ltb t.from 64) (ltb t.event 32 && ltb t.to 64) h);
      event = ltb→lt t.event 32 (and_left (ltb t.event 32) (ltb t.to 64) rest);
      to = ltb→lt t.to 64 (and_right (ltb t.event 32) (ltb t.to 64) rest);
    }

small : (ts : List ListedTransition) → T (every in_range ts) → Small ts
small [] all = tt
small (t ∷ ts) all = ((placed t (and_left (in_range t) (every in_range ts) all)).from, small ts (and_right (in_range t) (every in_range ts) all))

-- some table holds them: the one that decoding makes
pub some_table : (ts : List ListedTransition) → T (every in_range ts) → TableOf ts
some_table ts all = record { table = table_of ts; holds = holds_all ts (small ts all) }

module _ (ts : List ListedTransition) (table : List ℕ) (law : Holds ts table) where
  pub table_well_formed : (h : Header) → h.k ≤ 15 → h.initial ≤ 63 → SmallSymbols h.observable h.symbols → WellFormed table h
  table_well_formed h back start small = record { words = law.size; back = back; start = start; symbols_small = small }

  pub listing : T (every in_range ts) → (h : Header) → Listing (automaton_of table h) ts
  listing all h = record {
    taken = λ q e r t.
        let X = meet in_range (same_transition (triple q e r)) ts all (subst T (listed_any (triple q e r) ts) t) in
        let x = X.item in
        let same = transition_is q e r x X.second in
        let in-x = placed x X.first in
        (listed_exactly ts table law (triple q e r)
        (record {
          from = subst (λ (n : ℕ). n < 64) (sym same.0) in-x.from;
          event = subst (λ (n : ℕ). n < 32) (sym same.1) in-x.event;
          to = subst (λ (n : ℕ). n < 64) (sym same.2) in-x.to;
        })).1 (is_true t);
    named = λ q e r t. from_true ((listed_exactly ts table law (triple q e r) (record { from = t.from_small; event = t.event_small; to = t.to_small })).0 t);
  }

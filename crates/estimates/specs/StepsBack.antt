-- What the functions of `look_back` promise: source 000's m(l), and the verdicts that it gives, of what is remembered of a trace.
use Rattle.std.specs.Prelude.{◌≡◌, List, ℕ, suc, ◌≤◌, ◌<◌, ◌-◌, length, get_or, take, drop}
use Rattle.stateset.specs.Set.{In, Is}
use Rattle.relation.specs.Relation.{Sub}
use Rattle.automaton.specs.Run.{Automaton, automaton_of, SmallSymbols, Possible}
use Rattle.automaton.specs.Reaching.{Enters, DelayedEstimate, Leaves, BySymbol, Closed, Entered}
use Rattle.automaton.specs.declared.Header.{Header}
use Rattle.opacity.specs.declared.Notion.{Notion}
use Rattle.opacity.specs.declared.Secret.{Secret}
use Rattle.opacity.specs.declared.Verdict.{Verdict}
use Rattle.opacity.specs.Verdicts.{steps_of, Bounded, Tells}
use Rattle.opacity.specs.Secrets.{secret_of}
use Rattle.estimates.specs.Estimates.{Inside, UnobservableReach}
use Rattle.estimates.specs.declared.look_back.LookBack.{LookBack}

-- a part of the states of which P holds that decides whether all of them are secret: one that is not excuses the system, so that it need not be the
-- whole. Where all of the part are secret, all are
pub record DecidedBy (secret : ℕ) (P : ℕ → Type 0) (part : ℕ) : Type 0 where
  pub sound : (q : ℕ) → In q part → P q
  pub whole : Sub part secret → (q : ℕ) → P q → In q secret

-- so for the possible states: in which runs can be, by A, and that are in `then`
abbrev pub Sampled : (secret then : ℕ) → (ℕ → Type 0) → ℕ → Type 0
Sampled secret then A r = DecidedBy secret (λ q. A q × In q then) r

-- states that a look back does not leave: no unobservable event leaves them, and every entry set is among them
pub record Near (p : Automaton) (entries silent : List ℕ) (states : ℕ) : Type 0 where
  pub closed : Closed p states silent
  pub inside : Inside entries states

-- what a look back over `last` steps uses of an automaton: its table, the events of each symbol, such states, and, where it takes a step, the
-- unobservable transitions the other way round.
pub record Looks (p : Automaton) (t sets entries silent back : List ℕ) (states last : ℕ) : Type 0 where
  pub table_is : p.table ≡ t
  pub start : p.initial ≤ 63
  pub symbols_small : SmallSymbols p.observable p.symbols
  pub sets_are : BySymbol p sets
  pub near : Near p entries silent states
  pub back_are : 0 < last → Entered p states back

-- what a look back over `last` steps requires: a table of 2,048 words, at most 15 steps, and all this
pub record Prepared (t : List ℕ) (h : Header) (sets entries silent back : List ℕ) (states last : ℕ) : Type 0 where
  pub words : length t ≡ 2048
  pub few : last ≤ 15
  pub looks : Looks (automaton_of t h) t sets entries silent back states last

-- the last symbols of the trace, the newest first, and the entry sets after all but 0, 1, .. of them
pub record Remembers (p : Automaton) (trace : List ℕ) (last : ℕ) (symbols entries : List ℕ) : Type 0 where
  pub possible : Possible p trace
  pub reached : last ≤ length trace
  pub symbols_are : (l : ℕ) → l < last → get_or symbols l 0 ≡ get_or trace (length trace - suc l) 0
  pub entries_are : (l : ℕ) → l ≤ last → Is (get_or entries l 0) (Enters p (take (length trace - l) trace))

-- the verdict of a secret by a notion, of each trace of which n symbols are remembered. The secret's K is how far the look back goes
pub record Found (notion : Notion) (p : Automaton) (secret : Secret) (n : ℕ) (symbols entries : List ℕ) (v : Verdict) : Type 0 where
  pub bounded : Bounded secret.k (steps_of v)
  pub exact : (trace : List ℕ) → Remembers p trace n symbols entries → Tells notion p secret trace (steps_of v)

-- source 000's m(l), all of it, for each step l up to `last`. It depends on no secret, and is worked out once for all
pub record Delayed (p : Automaton) (symbols entries : List ℕ) (last : ℕ) (past : List ℕ) : Type 0 where
  pub size : length past ≡ 16
  pub are : (trace : List ℕ) (l : ℕ) → l ≤ last → Remembers p trace l symbols entries → Is (get_or past l 0) (DelayedEstimate p trace (length trace - l))

-- `then` has the states that the last l symbols can follow through allowed ones
abbrev pub Follows : Automaton → (allowed : ℕ) → List ℕ → (l then : ℕ) → Type 0
Follows p allowed trace l then = Is then (Leaves p allowed (drop (length trace - l) trace))

-- the automaton that a look back works on, and the traces of which the first n of its symbols and their entry sets are remembered
abbrev pub looked_at : LookBack → Automaton
looked_at b = automaton_of b.table.now b.header.now

abbrev pub LooksAt : LookBack → ℕ → List ℕ → Type 0
LooksAt b n trace = Remembers (looked_at b) trace n b.remembered.now.symbols b.remembered.now.entries

-- it has what it requires; and its estimate is of the states right after the last symbol
abbrev pub Ready : LookBack → Type 0
Ready b =
    Prepared b.table.now b.header.now b.sets.now b.remembered.now.entries b.silent.now b.back.now b.states b.remembered.now.count

abbrev pub Begins : LookBack → Type 0
Begins b = UnobservableReach (looked_at b) (get_or b.remembered.now.entries 0 0) b.estimate

-- the verdict of a secret by a notion, and the sets m(l), over all steps that it goes
abbrev pub FoundBy : Notion → LookBack → ℕ → Verdict → Type 0
FoundBy notion b secret v =
    Found notion (looked_at b) (secret_of secret b.remembered.now.count) b.remembered.now.count b.remembered.now.symbols b.remembered.now.entries v

abbrev pub DelayedBy : LookBack → List ℕ → Type 0
DelayedBy b past = Delayed (looked_at b) b.remembered.now.symbols b.remembered.now.entries b.remembered.now.count past

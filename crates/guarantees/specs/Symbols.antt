-- Automata with and without observation symbols (02, S-2: lamps). Where no two observable events share a symbol, what is said is that of the automaton without
-- symbols, over the events behind them.
use Rattle.std.specs.Prelude.{◌≡◌, List, ℕ, ◌<◌, ◌^◌}
use Rattle.automaton.specs.Run.{automaton_of}
use Rattle.automaton.specs.Symbols.{Distinct, WithoutSymbols, SameButSymbols, Alike, Pairs}
use Rattle.automaton.specs.declared.Header.{Header}
use Rattle.opacity.specs.declared.Notion.{Notion}
use Rattle.opacity.specs.declared.Further.{Further}
use Rattle.verifier.specs.declared.Estimator.{Estimator}
use Rattle.verifier.specs.Replies.{Findings, Said, verdicts, Opening}
use Rattle.verifier.specs.Calls.{Call, Calls}
use Rattle.verifier.specs.Paired as calls
use Rattle.enforcer.specs.declared.Enforcer.{Enforcer}
use Rattle.enforcer.specs.Offerings.{StartOutcome, started, Starting}
use Rattle.enforcer.specs.Offers.{Offer, Offers}
use Rattle.enforcer.specs.Paired as offers

-- the same automaton but for the symbols, under two headers with the same own secret
pub record Relabelled (t : List ℕ) (h h' : Header) : Type 0 where
  pub like : Alike (automaton_of t h) (automaton_of t h')
  pub secret : h.secret ≡ h'.secret
  pub k : h.k ≡ h'.k

-- and the second has no symbols, and the first no symbol of two events
pub record Spelled (t : List ℕ) (h h' : Header) : Type 0 where
  pub distinct : Distinct (automaton_of t h)
  pub without : WithoutSymbols (automaton_of t h')
  pub same : SameButSymbols (automaton_of t h) (automaton_of t h')
  pub secret : h.secret ≡ h'.secret
  pub k : h.k ≡ h'.k
  pub small : h.observable < 2 ^ 32

-- lists of calls with bytes of the same events are answered alike
abbrev pub CallsAlike : Type 0
CallsAlike = (t : List ℕ) (h h' : Header) → Relabelled t h h' → (f : Further) (j j' : Findings) (s s' : Estimator) (cs cs' : List Call) (e e' : Estimator)
    → Opening t h f (verdicts j) s → Opening t h' f (verdicts j') s' → Pairs (calls.SameCalled t h h') cs cs' → Calls t h s cs e → Calls t h' s' cs' e'
    → (verdicts j ≡ verdicts j') × calls.Corresponds (automaton_of t h) (automaton_of t h') cs cs'

abbrev pub OffersAlike : Type 0
OffersAlike = (notion : Notion) (t : List ℕ) (h h' : Header) → Relabelled t h h' → (f : Further) (s s' : Enforcer) (os os' : List Offer) (e e' : Enforcer)
    → Starting t h f notion started s → Starting t h' f notion started s' → Pairs (offers.SameOffered t h h') os os' → Offers t h s os e → Offers t h' s' os' e'
    → offers.Corresponds (automaton_of t h) (automaton_of t h') os os'

-- where no two observable events share a symbol, and the one with symbols was not refused
abbrev pub CallsSpelled : Type 0
CallsSpelled = (t : List ℕ) (h h' : Header) → Spelled t h h' → (f : Further) (j : Findings) (r' : Said) (s s' : Estimator) → Opening t h f (verdicts j) s
    → Opening t h' f r' s' → (r' ≡ verdicts j) × calls.CallsFollow t h h' s s'

abbrev pub OffersSpelled : Type 0
OffersSpelled = (notion : Notion) (t : List ℕ) (h h' : Header) → Spelled t h h' → (f : Further) (r' : StartOutcome) (s s' : Enforcer)
    → Starting t h f notion started s → Starting t h' f notion r' s' → (r' ≡ started) × offers.OffersFollow t h h' s s'

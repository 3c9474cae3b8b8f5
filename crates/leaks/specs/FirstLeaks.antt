-- The first leak of an offered list (02, S-8), over lists and runs.
use Rattle.std.specs.Prelude.{◌≡◌, List, [], ℕ, ◌+◌, ◌≤◌, ◌<◌, length, take, Err, None, Ok, Option, Result, Some}
use Rattle.automaton.specs.Run.{Automaton, automaton_of, WellFormed}
use Rattle.refusal.specs.Refusals.{number_of}
use Rattle.automaton.specs.declared.Header.{Header}
use Rattle.opacity.specs.declared.Notion.{Notion}
use Rattle.opacity.specs.declared.Secret.{Secret}
use Rattle.opacity.specs.declared.Further.{Further}
use Rattle.opacity.specs.Secrets.{secrets_of, secret_at, ForEach, Allowed, TooLarge}
use Rattle.opacity.specs.Verdicts.{none, leak, IsVerdict}
use Rattle.verifier.specs.Calls.{Call, accepted_of, offered_of, AllAnswered}
use Rattle.refusal.specs.declared.Refusal.{Refusal}

-- the accepted part of offered bytes, after those accepted before them, as the mission's second point has it: calls with these bytes, each answered as it says,
-- judged with the bytes accepted before it. So a byte that 6 or 7 turns back is passed over. (On an automaton every list has one accepted part: proofs/Parts)
pub record AcceptedPart (t : List ℕ) (h : Header) (f : Further) (before bytes trace : List ℕ) : Type 0 where
  pub calls : List Call
  pub offered : offered_of calls ≡ bytes
  pub answered : AllAnswered t h f before calls
  pub accepted : accepted_of calls ≡ trace

-- after the trace the verdict of a secret that is given is a leak: the number of the secret, and the steps
pub record SomeLeak (notion : Notion) (p : Automaton) (cs : List Secret) (trace : List ℕ) : Type 0 where
  pub number : ℕ
  pub given : number < length cs
  pub steps : ℕ
  pub leaks : IsVerdict notion p (secret_at cs number) trace (leak steps)

-- the accepted events are counted from 1: at place q stands the q-th of them, and its verdicts are those of the first q. At each place below n the verdict of
-- every secret that is given is none. (The opening is no event: whether the empty trace leaks is not asked)
abbrev pub NoneBelow : Notion → Automaton → List Secret → List ℕ → ℕ → Type 0
NoneBelow notion p cs trace n = (q : ℕ) → 1 ≤ q → q < n → ForEach cs (λ i c. IsVerdict notion p c (take q trace) none)

-- the place of the first accepted event whose verdict is a leak: the least place p such that p bytes are accepted, and after them some secret's verdict is one
pub record FirstLeak (notion : Notion) (t : List ℕ) (h : Header) (f : Further) (bytes : List ℕ) (place : ℕ) : Type 0 where
  pub trace : List ℕ
  pub part : AcceptedPart t h f [] bytes trace
  pub counted : 1 ≤ place
  pub among : place ≤ length trace
  pub leaks : SomeLeak notion (automaton_of t h) (secrets_of h f) (take place trace)
  pub first : NoneBelow notion (automaton_of t h) (secrets_of h f) trace place

-- no accepted event's verdict is a leak
pub record NoneLeaks (notion : Notion) (t : List ℕ) (h : Header) (f : Further) (bytes : List ℕ) : Type 0 where
  pub trace : List ℕ
  pub part : AcceptedPart t h f [] bytes trace
  pub none_leaks : NoneBelow notion (automaton_of t h) (secrets_of h f) trace (length trace + 1)

-- what an answer says: the number of a refusal, that no accepted event leaks, or the place of the first that does
pub data Said : Type 0 where
  refused : ℕ → Said
  nowhere : Said
  at : ℕ → Said

abbrev pub said : Result (Option ℕ) Refusal → Said
said (Err r) = refused (number_of r)
said (Ok None) = nowhere
said (Ok (Some place)) = at place

-- the question over an automaton (01: plan) with further secrets, a notion and a list of offered bytes: refused as a fresh estimator is, 9, 13, 14, and else
-- answered. (There is no 8)
pub data Finding (notion : Notion) (t : List ℕ) (h : Header) (f : Further) (bytes : List ℕ) : Said → Type 0 where
  malformed : (WellFormed t h → ⊥) → Finding notion t h f bytes (refused 9)
  too_many_secrets : WellFormed t h → 3 < f.count → Finding notion t h f bytes (refused 13)
  look_back_too_large : WellFormed t h → f.count ≤ 3 → TooLarge f → Finding notion t h f bytes (refused 14)
  none_leaks : WellFormed t h → Allowed f → NoneLeaks notion t h f bytes → Finding notion t h f bytes nowhere
  first_leaks : {place : ℕ} → WellFormed t h → Allowed f → FirstLeak notion t h f bytes place → Finding notion t h f bytes (at place)

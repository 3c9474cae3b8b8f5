-- Lists of calls, over any state, call and answer: what the theorems about verifier, enforcer, monitor and gateway step by.
use Rattle.std.specs.Prelude.{List, [], ◌∷◌, ◌++◌, ℕ, ◌+◌}

-- calls, one after another, each on the state that the one before it handed back. A step is the contract of the function that is called
pub data Chain {State Call : Type 0} (Step : State → Call → State → Type 0) : State → List Call → State → Type 0 where
  done : {s : State} → Chain Step s [] s
  next : {s m e : State} {c : Call} {cs : List Call} → Step s c m → Chain Step m cs e → Chain Step s (c ∷ cs) e

-- what each call gives, joined: with the bytes that a call accepts, the accepted part of an offered list
abbrev pub joined : {Call A : Type 0} → (Call → List A) → List Call → List A
joined part [] = []
joined part (c ∷ cs) = part c ++ joined part cs

-- what each call offers, whatever was answered
abbrev pub offered : {Call A : Type 0} → (Call → A) → List Call → List A
offered byte cs = joined (λ c. byte c ∷ []) cs

-- so of each call of a list
abbrev pub Every : {Call : Type 0} → (Call → Type 0) → List Call → Type 0
Every P [] = Unit {0}
Every P (c ∷ cs) = P c × Every P cs

-- what each call counts, added up
abbrev pub total : {Call : Type 0} → (Call → ℕ) → List Call → ℕ
total count [] = 0
total count (c ∷ cs) = count c + total count cs

-- each call of the list, judged with what was accepted before it
pub data Each {Call A : Type 0} (taken : Call → List A) (Judged : List A → Call → Type 0) : List A → List Call → Type 0 where
  end : {trace : List A} → Each taken Judged trace []
  more : {trace : List A} {c : Call} {cs : List Call} → Judged trace c → Each taken Judged (trace ++ taken c) cs → Each taken Judged trace (c ∷ cs)

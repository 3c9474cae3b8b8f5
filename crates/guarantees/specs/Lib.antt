-- Every final theorem, each a name that can be read without a proof: what is promised of every input (FirstPoint), of lists of calls of the verifier
-- (SecondPoint) and of offers to the enforcer (ThirdPoint), by the published paper's own definitions (Published), of automata with and without observation
-- symbols (Symbols), of the exploration before delivery (Exploration), of the first leak of a long log (FirstLeaks), of one encoding for one
-- automaton (OneEncoding), of the run that excuses the system (Witnesses), of a whole log (WholeLog), and of a gateway that keeps bytes
-- (SavedBytes). proofs/Shown proves each.
pub mod FirstPoint
pub mod SecondPoint
pub mod ThirdPoint
pub mod Published
pub mod Symbols
pub mod Exploration
pub mod FirstLeaks
pub mod OneEncoding
pub mod Witnesses
pub mod WholeLog
pub mod SavedBytes

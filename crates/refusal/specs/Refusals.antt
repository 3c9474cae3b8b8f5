-- The number that 01's refusal table gives each refusal. In the table's words: Short, Stray state, Stray event, Loose end, Unseen,
-- Impossible, Open secret, Torn, Small tray; S-1's: Repeated move; S-6's: Too many secrets, Wide look-back; S-7's: Survey spent; S-10's: No
-- alibi, Step too far. (Blank log, 11, is given no more: S-4.)
use Rattle.std.specs.Prelude.{ℕ}
use Rattle.refusal.specs.declared.Refusal.{Refusal}
use Rattle.refusal.specs.declared.Refusal.TheVariants as refusal

abbrev pub number_of : Refusal → ℕ
number_of refusal.Truncated = 1
number_of refusal.StateOutOfRange = 3
number_of refusal.EventOutOfRange = 4
number_of refusal.TrailingData = 5
number_of refusal.NotObservable = 6
number_of refusal.Incompatible = 7
number_of refusal.InitialLeak = 8
number_of refusal.Malformed = 9
number_of refusal.OutputTooSmall = 10
number_of refusal.RepeatedTransition = 12
number_of refusal.TooManySecrets = 13
number_of refusal.LookBackTooLarge = 14
number_of refusal.BudgetSpent = 15
number_of refusal.NoWitness = 16
number_of refusal.StepTooFar = 17

-- What the turns know: `Progress`, and how far they are. Each turn tries one symbol on one configuration.
use Rattle.std.proofs.Common.{◌≡◌, ◌-◌, ◌*◌, ◌≤◌, length}
use Rattle.automaton.specs.Run.{automaton_of}
use Rattle.opacity.specs.Secrets.{secrets_of}
use Rattle.explore.proofs.Progressing.{Progress}
use Rattle.explore.proofs.visit.Given as goal

abbrev pub invariant-turns : goal.invariant-turns
invariant-turns l = record {
  some : 1 ≤ l.count;
  few : l.count ≤ l.most;
  most : l.most ≤ 256;
  within : l.turn ≤ 32 * l.count;
  room : length l.found ≡ 256;
  progress : Progress (automaton_of l.table l.header) (secrets_of l.header l.further) l.further l.found l.count l.weak l.strong l.turn;
}

abbrev pub decreases-turns : goal.decreases-turns
decreases-turns l = 32 * l.most - l.turn

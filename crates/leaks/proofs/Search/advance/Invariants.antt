-- What is so of the search after the first bytes of the block.
use Rattle.leaks.proofs.Searching.{Along}
use Rattle.leaks.proofs.Search.advance.Given as goal

abbrev pub invariant-loop-byte : goal.invariant-loop-byte
invariant-loop-byte l = Along l.table l.header l.initial.now l.bytes l.now l.byte-index

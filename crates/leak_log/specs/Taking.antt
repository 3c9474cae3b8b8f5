-- How many events a search counts: no more than it was given bytes.
use Rattle.std.specs.Prelude.{List, ℕ, ◌+◌, ◌≤◌, length}
use Rattle.std.proofs.Math.Nat.{le-add_right}
use Rattle.automaton.specs.declared.Header.{Header}
use Rattle.leaks.specs.declared.Search.{Search}
use Rattle.leaks.specs.FirstLeaks.{Said}
use Rattle.leaks.specs.Searches.{Advancing}
use Rattle.leak_log.specs.declared.Searching.{Searching}
use Rattle.leak_log.specs.Feeding.{Block}

advance_counts : {t : List ℕ} {h : Header} {s m : Search} {bytes : List ℕ} {says : Said} → Advancing t h s bytes says m → m.accepted ≤ s.accepted + length bytes
advance_counts {s = s} {bytes = bytes} (Advancing.malformed bad) = le-add_right s.accepted (length bytes)
advance_counts (Advancing.searched within on) = on.most

pub block_counts : {t : List ℕ} {h : Header} {s m : Searching} {bytes : List ℕ} → Block t h s bytes m → m.search.accepted ≤ s.search.accepted + length bytes
block_counts b = advance_counts b.advancing

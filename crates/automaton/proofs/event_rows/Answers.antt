use Rattle.std.proofs.Common.{◌≡◌, List, [], ℕ, zero, suc, ◌+◌, ◌*◌, ◌/◌, ◌<◌, length, get_or, take, drop, ap, ◌∙◌, arith}
use Rattle.std.proofs.lemmas.List.{drop-drop}
use Rattle.std.specs.Simd.{first_chunks}
use Rattle.automaton.proofs.event_rows.Goals as goal

-- the chunk with a number
chunk_at : (n k i : ℕ) (t : List ℕ) → i < k → get_or (first_chunks n k t) i [] ≡ take n (drop (n * i) t)
chunk_at n zero i t l = absurd (omega (arith, l))
chunk_at n (suc k) zero t l = ap (λ (j : ℕ). take n (drop j t)) {x = 0} {y = n * 0} (omega arith)
chunk_at n (suc k) (suc i) t l =
    chunk_at n k i (drop n t) (omega (arith, l)) ∙ ap (take n) (drop-drop (n * i) n t)
    ∙ ap (λ (j : ℕ). take n (drop j t)) {x = n + n * i} {y = n * suc i} (grind arith)

pub returns : goal.returns
returns c =
    rw c.as_chunks.ensures.front (chunk_at 64 (length c.args.table.now / 64) c.args.event c.args.table.now (omega (arith, c.requires.0, c.requires.1)))

use Rattle.std.proofs.Common.{◌≡◌, List, ℕ, ◌≤◌, length, subst, ◌⊎◌, inl, inr}
use Rattle.streams.specs.declared.Gathered.{Gathered}
use Rattle.streams.specs.declared.Gathered.TheVariants.{Bytes, All}
use Rattle.streams.specs.Reads.{UpTo}
use Rattle.log_output.specs.Feeding.{unread}
use Rattle.log_output.proofs.ReadingOn.{runs}
use Rattle.log_output.proofs.monitor_input.Goals as goal

-- so many bytes were gathered, whatever follows
gathered : (input : List ℕ) (size : ℕ) {r : Gathered} {n : ℕ} → UpTo input size r → (r ≡ Bytes n) ⊎ (r ≡ All n) → (n ≤ length input) × (n ≤ size)
gathered input size u (inl e) = let up = subst (λ (r : Gathered). UpTo input size r) e u in (up.0, up.1)
gathered input size u (inr e) = subst (λ (r : Gathered). UpTo input size r) e u

pub returns-in-Bytes : goal.returns-in-Bytes
returns-in-Bytes g c =
    let few = gathered c.gather.new.input c.args.size c.gather.ensures c.in-Bytes.is in
    runs c.gather.new.input few.0 few.1 c.run.ensures

pub returns-in-Failed : goal.returns-in-Failed
returns-in-Failed g c = unread

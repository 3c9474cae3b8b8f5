-- What one read finds, the first bytes of a log, and as much of an input as there is space for. No contract says which bytes a system call brings: the
-- bytes of a read are those at the front of the lent input after it, as many as it answered. That they are the input's is tested.
use Rattle.std.specs.Prelude.{◌≡◌, List, ◌⊎◌, ℕ, ◌+◌, ◌≤◌, ◌<◌, min, length, take}
use Rattle.std.specs.declared.result.Result.{Result}
use Rattle.std.specs.declared.result.Result.TheVariants.{Ok, Err}
use Rattle.monitor.specs.Opening.{front_size}
use Rattle.streams.specs.declared.Fetched.{Fetched}
use Rattle.streams.specs.declared.Fetched.TheVariants as fetched
use Rattle.streams.specs.declared.Gathered.{Gathered}
use Rattle.streams.specs.declared.Gathered.TheVariants as gathered

-- what a read finds, by what the system answered: an error is a failure, 0 the end of the input, and else so many bytes of those that were lent
abbrev pub FoundBy : {E : Type 0} → Result ℕ E → ℕ → Fetched → Type 0
FoundBy (Ok k) lent (fetched.Bytes n) = (n ≡ min k lent) × (0 < n)
FoundBy (Ok k) lent fetched.End = min k lent ≡ 0
FoundBy (Ok k) lent fetched.Failed = ⊥
FoundBy (Err e) lent (fetched.Bytes n) = ⊥
FoundBy (Err e) lent fetched.End = ⊥
FoundBy (Err e) lent fetched.Failed = Unit {0}

pub record Found {E : Type 0} (answered : Result ℕ E) (lent : ℕ) (r : Fetched) : Type 0 where
  pub by : FoundBy answered lent r

-- no more bytes than there is space for
abbrev pub There : ℕ → Fetched → Type 0
There size (fetched.Bytes n) = n ≤ size
There size fetched.End = Unit {0}
There size fetched.Failed = Unit {0}

-- a read brings at least one byte, no more than there is space for and no more than may follow
abbrev pub Brought : (size left : ℕ) → Fetched → Type 0
Brought size left (fetched.Bytes n) = (0 < n) × (n ≤ size) × (n ≤ left)
Brought size left fetched.End = Unit {0}
Brought size left fetched.Failed = Unit {0}

-- how the first bytes go on with what a read found
abbrev pub gathered_by : Fetched → ℕ → Gathered
gathered_by (fetched.Bytes n) have = gathered.Bytes (have + n)
gathered_by fetched.End have = gathered.All have
gathered_by fetched.Failed have = gathered.Failed

-- one read more, of at most `left` bytes, behind those that are there: some follow, no more than there is space for; or none; or the read failed
abbrev pub Further : (size have left : ℕ) → Gathered → Type 0
Further size have left (gathered.Bytes n) = (have < n) × (n ≤ size) × (n ≤ have + left)
Further size have left (gathered.All n) = n ≡ have
Further size have left gathered.Failed = Unit {0}

-- the first bytes of a log: enough to open it, as `has_encoding` tests them, or as many as there is space for; or all that the input had; or a read failed
abbrev pub UpTo : (input : List ℕ) (size : ℕ) → Gathered → Type 0
UpTo input size (gathered.Bytes n) = (n ≤ length input) × (n ≤ size) × ((front_size (take n input) ≤ n) ⊎ (n ≡ length input))
UpTo input size (gathered.All n) = (n ≤ length input) × (n ≤ size)
UpTo input size gathered.Failed = Unit {0}

-- as much of an input as there is space for: the space is full, and perhaps more follows; or the input ended before it was; or a read failed. Without any
-- space it is full, with no read
abbrev pub Filled : (input : List ℕ) → Gathered → Type 0
Filled input (gathered.Bytes n) = n ≡ length input
Filled input (gathered.All n) = n < length input
Filled input gathered.Failed = 0 < length input

-- Event bytes that are followed, read after read: what some bytes make of what follows them is `Goes`, and it asks for no more where it is `done`. No
-- contract says which bytes a system call brings: the bytes of a read are those at the front of the lent input after it, as many as it answered. That they
-- are the input's is tested.
use Rattle.std.specs.Prelude.{◌≡◌, Bool, true, false, List, [], ◌++◌, ℕ, ◌-◌, ◌≤◌, ◌<◌, length, take}
use Rattle.streams.specs.declared.Fetched.TheVariants as fetched
use Rattle.streams.specs.declared.Begun.{Begun}
use Rattle.streams.specs.declared.Reading.{Reading}
use Rattle.streams.specs.declared.Rest.{Rest}
use Rattle.streams.specs.declared.Ending.TheVariants.{Done, Ended, Failed}

-- the events among the first bytes of a log, all of them that a log may have; and how many more it may have
pub record Begins {F : Type 0} (Goes : F → List ℕ → F → Type 0) (s : F) (events : List ℕ) (b : Begun F) : Type 0 where
  pub on : Goes s (take 4294967295 events) b.follower
  pub allowed : b.allowed ≡ 4294967295 - length (take 4294967295 events)

-- one more read: it brings bytes, no more than may follow, and all of them are followed, in order; or the input has ended, or the read failed. (The input
-- has ended too where no more bytes may follow.) `input` is what was lent, after the read
pub data Turning {F : Type 0} (Goes : F → List ℕ → F → Type 0) (left : ℕ) (s : F) (input : List ℕ) : Reading F → Type 0 where
  brought : {n : ℕ} {m : F} → 0 < n → n ≤ length input → n ≤ left → Goes s (take n input) m
      → Turning Goes left s input (record { follower = m; fetched = fetched.Bytes n })
  no_more : Turning Goes left s input (record { follower = s; fetched = fetched.End })
  not_fetched : Turning Goes left s input (record { follower = s; fetched = fetched.Failed })

-- read after read, while more is asked for: a read brings bytes, no more than may follow, and all of them are followed, in order; or the input has ended, or
-- the read failed. (The input has ended too where no more bytes may follow.) The bytes that were followed, why it stopped, and how many might still follow
pub data Feeding {F : Type 0} (Goes : F → List ℕ → F → Type 0) (done : F → Bool) : (left : ℕ) → F → (bytes : List ℕ) → Rest F → Type 0 where
  stopped : {left : ℕ} {s : F} → done s ≡ true → Feeding Goes done left s [] (record { follower = s; ending = Done; left = left })
  ended : {left : ℕ} {s : F} → done s ≡ false → Feeding Goes done left s [] (record { follower = s; ending = Ended; left = left })
  failed : {left : ℕ} {s : F} → done s ≡ false → Feeding Goes done left s [] (record { follower = s; ending = Failed; left = left })
  more : {left n : ℕ} {s m : F} (input : List ℕ) {later : List ℕ} {r : Rest F} → done s ≡ false → 0 < n → n ≤ length input → n ≤ left → Goes s (take n input) m
      → Feeding Goes done (left - n) m later r → Feeding Goes done left s (take n input ++ later) r

-- the bytes that were read
pub record Fed {F : Type 0} (Goes : F → List ℕ → F → Type 0) (done : F → Bool) (left : ℕ) (s : F) (r : Rest F) : Type 0 where
  pub bytes : List ℕ
  pub feeding : Feeding Goes done left s bytes r

-- Laws of reading on, whatever follows the bytes. Assumes nothing.
use mathlib.Core.Path.{◌≡◌, sym, ap, subst, ◌∙◌}
use mathlib.Core.Bool.{Bool, true, false}
use mathlib.Core.List.{List, [], ◌++◌, append_assoc}
use Prim.Native.Nat.{ℕ, ◌+◌, ◌-◌, ◌≤◌, ◌<◌, min}
use native.Mathlib.Omega.{arith}
use native.Mathlib.Decide.{dec_le}
use lib.ListN.{length, take, length-append, length-take}
use lib.Seq.{take-length, take_all, length-take-le}
use Rattle.streams.specs.declared.Fetched.{Fetched}
use Rattle.streams.specs.declared.Fetched.TheVariants as fetched
use Rattle.streams.specs.declared.Reading.{Reading}
use Rattle.streams.specs.declared.Rest.{Rest}
use Rattle.streams.specs.declared.Ending.TheVariants.{Done, Ended}
use Rattle.streams.specs.Reads.{Brought}
use Rattle.streams.specs.Following.{Begins, Turning, brought, no_more, not_fetched, Feeding, stopped, ended, failed, more, Fed}

-- what a read brought, by the case that was taken
pub some_brought : {size left n : ℕ} {f : Fetched} → f ≡ fetched.Bytes n → Brought size left f → (0 < n) × (n ≤ size) × (n ≤ left)
some_brought {size} {left} e b = subst (Brought size left) e b

-- the events that a log may have, of those that are there
pub record Fits (events : List ℕ) (n : ℕ) : Type 0 where
  pub bytes : take (n - 0) events ≡ take 4294967295 events
  pub count : n ≡ length (take 4294967295 events)

pub fits : (events : List ℕ) (n : ℕ) → n ≡ min (length events) 4294967295 → Fits events n
fits events n is = go (dec_le (length events) 4294967295)
  where
    go : Dec (length events ≤ 4294967295) → Fits events n
    go (yes l) =
        let z : n - 0 ≡ length events = omega arith in
        let e : n ≡ length events = omega arith in
        let all_of : take 4294967295 events ≡ events = take_all 4294967295 events l in
        record { bytes = ap (λ (k : ℕ). take k events) z ∙ take-length events ∙ sym all_of; count = e ∙ sym (ap length all_of) }
    go (no l) =
        let z : n - 0 ≡ 4294967295 = omega arith in
        let e : n ≡ 4294967295 = omega arith in
        record { bytes = ap (λ (k : ℕ). take k events) z; count = e ∙ sym (length-take-le 4294967295 events (omega arith)) }

pub begins : {F : Type 0} {Goes : F → List ℕ → F → Type 0} (s m : F) (events : List ℕ) (n : ℕ) → n ≡ min (length events) 4294967295
    → Goes s (take (n - 0) events) m → Begins Goes s events (record { follower = m; allowed = 4294967295 - n })
begins {Goes = Goes} s m events n is x =
    let f = fits events n is in
    record { on = subst (λ (l : List ℕ). Goes s l m) f.bytes x; allowed = ap (λ (k : ℕ). 4294967295 - k) f.count }

-- what a log may still have can be followed
pub few_allowed : (events : List ℕ) (n : ℕ) → n ≡ min (length events) 4294967295 → length (take (n - 0) events) + (4294967295 - n) ≡ 4294967295
few_allowed events n is = omega (arith, length-take (n - 0) events)

-- what a read brought, and what might still follow then
pub rest_of : (input : List ℕ) (n left : ℕ) → (0 < n) × (n ≤ length input) × (n ≤ left) → length (take (n - 0) input) + (left - n) ≡ left
rest_of input n left b = omega (arith, b.1, b.2, length-take (n - 0) input)

-- ---- one more read

pub turn_brought : {F : Type 0} {Goes : F → List ℕ → F → Type 0} {s m : F} (input : List ℕ) (n left : ℕ) → (0 < n) × (n ≤ length input) × (n ≤ left)
    → Goes s (take (n - 0) input) m → Turning Goes left s input (record { follower = m; fetched = fetched.Bytes n })
turn_brought {Goes = Goes} {s} {m} input n left b x =
    let z : n - 0 ≡ n = omega arith in
    brought b.0 b.1 b.2 (subst (λ (k : ℕ). Goes s (take k input) m) z x)

-- so many bytes came, and they were followed
module _ {F : Type 0} {Goes : F → List ℕ → F → Type 0} {left : ℕ} {input : List ℕ} (n : ℕ) where
  pub few_brought : {s : F} {r : Reading F} → r.fetched ≡ fetched.Bytes n → Turning Goes left s input r → (0 < n) × (n ≤ length input) × (n ≤ left)
  few_brought e (brought {n = k} some there fits x) = let is : k ≡ n = cc in (omega arith, omega arith, omega arith)
  few_brought e no_more = let z : ◌≡◌ {A = ℕ} 0 1 = cc in absurd (omega arith)
  few_brought e not_fetched = let z : ◌≡◌ {A = ℕ} 0 1 = cc in absurd (omega arith)

  pub goes_brought : {s : F} {r : Reading F} → r.fetched ≡ fetched.Bytes n → Turning Goes left s input r → Goes s (take (n - 0) input) r.follower
  goes_brought {s} e (brought {n = k} {m = m} some there fits x) =
      let is : k ≡ n = cc in
      let z : k ≡ n - 0 = omega arith in
      subst (λ (j : ℕ). Goes s (take j input) m) z x
  goes_brought e no_more = let z : ◌≡◌ {A = ℕ} 0 1 = cc in absurd (omega arith)
  goes_brought e not_fetched = let z : ◌≡◌ {A = ℕ} 0 1 = cc in absurd (omega arith)

module _ {F : Type 0} {Goes : F → List ℕ → F → Type 0} {done : F → Bool} where
  -- all bytes that were handed on are among those that might follow
  pub feeding_read : {left : ℕ} {s : F} {bytes : List ℕ} {r : Rest F} → Feeding Goes done left s bytes r → r.left + length bytes ≡ left
  feeding_read (stopped e) = omega arith
  feeding_read (ended e) = omega arith
  feeding_read (failed e) = omega arith
  feeding_read (more {n = n} input {later = later} e some there fits g f) =
      let size : length (take n input) ≡ n = length-take-le n input there in
      omega (arith, feeding_read f, size, length-append (take n input) later)

  -- why it stopped
  pub feeding_done : {left : ℕ} {s : F} {bytes : List ℕ} {r : Rest F} → Feeding Goes done left s bytes r → r.ending ≡ Done → done r.follower ≡ true
  feeding_done (stopped e) is = e
  feeding_done (ended e) is = let z : ◌≡◌ {A = ℕ} 0 1 = cc in absurd (omega arith)
  feeding_done (failed e) is = let z : ◌≡◌ {A = ℕ} 0 1 = cc in absurd (omega arith)
  feeding_done (more input e some there fits g f) is = feeding_done f is

  pub feeding_ended : {left : ℕ} {s : F} {bytes : List ℕ} {r : Rest F} → Feeding Goes done left s bytes r → r.ending ≡ Ended → done r.follower ≡ false
  feeding_ended (stopped e) is = let z : ◌≡◌ {A = ℕ} 0 1 = cc in absurd (omega arith)
  feeding_ended (ended e) is = e
  feeding_ended (failed e) is = let z : ◌≡◌ {A = ℕ} 0 1 = cc in absurd (omega arith)
  feeding_ended (more input e some there fits g f) is = feeding_ended f is

-- ---- the reads so far: whatever follows on from here follows on from the start

pub record SoFar {F : Type 0} (Goes : F → List ℕ → F → Type 0) (done : F → Bool) (left : ℕ) (s : F) (rest : ℕ) (now : F) : Type 0 where
  pub bytes : List ℕ
  pub on : (later : List ℕ) (r : Rest F) → Feeding Goes done rest now later r → Feeding Goes done left s (bytes ++ later) r

module _ {F : Type 0} {Goes : F → List ℕ → F → Type 0} {done : F → Bool} where
  pub so_start : {left : ℕ} {s : F} → SoFar Goes done left s left s
  so_start = record { bytes = []; on = λ later r f. f }

  pub so_more : {left : ℕ} {s : F} {rest : ℕ} {now m : F} (input : List ℕ) (n : ℕ) → SoFar Goes done left s rest now → done now ≡ false
      → (0 < n) × (n ≤ length input) × (n ≤ rest) → Goes now (take (n - 0) input) m → SoFar Goes done left s (rest - n) m
  so_more {left} {s} {rest} {now} {m} input n so going b x =
      let z : n - 0 ≡ n = omega arith in
      let y = subst (λ (k : ℕ). Goes now (take k input) m) z x in
      record {
        bytes = so.bytes ++ take n input;
        on = λ later last f. subst (λ (l : List ℕ). Feeding Goes done left s l last) (sym (append_assoc so.bytes (take n input) later))
            (so.on (take n input ++ later) last (more input going b.0 b.1 b.2 y f));
      }

  pub fed_by : {left : ℕ} {s : F} {rest : ℕ} {now : F} {r : Rest F} → SoFar Goes done left s rest now → Feeding Goes done rest now [] r
      → Fed Goes done left s r
  fed_by so f = record { bytes = so.bytes ++ []; feeding = so.on [] _ f }

-- With one target for each state and event, execution sequences are words, and Definitions 3 and 4 over words are those over steps. Assumes nothing.
use mathlib.Core.Path.{◌≡◌, refl, ap, ap₂, sym, ◌∙◌, subst}
use mathlib.Core.List.{List, [], ◌∷◌, ◌++◌}
use mathlib.Core.Logic.{◌↔◌}
use Prim.Native.Nat.{ℕ, ◌≤◌, ◌-◌}
use native.Mathlib.Omega.{arith}
use lib.ListN.{length}
use Rattle.stateset.specs.Set.{In}
use Rattle.automaton.specs.Run.{Automaton, Transition, Step, Takes, end_of, shows, shown}
use Rattle.automaton.proofs.Runs.{takes_front}
use Rattle.opacity.specs.declared.Secret.{Secret}
use Rattle.opacity.specs.declared.Notion.{Notion}
use Rattle.opacity.specs.declared.Notion.TheVariants.{Weak, Strong}
use Rattle.published.specs.Source.{Prefix, Lang, Secretly, WeaklyOpaque, StronglyOpaque, Opaque}
use Rattle.published.specs.ByWords.{OneTarget, word_of, Leads, WordLang, Marked, projected, WeaklyByWords, StronglyByWords, OpaqueByWords}

abbrev step_of : ℕ → ℕ → Step
step_of e r = record { event = e; to = r }

word_append : (a b : List Step) → word_of (a ++ b) ≡ word_of a ++ word_of b
word_append [] b = refl
word_append (s ∷ a) b = ap (λ (l : List ℕ). s.event ∷ l) (word_append a b)

-- what steps show is the projection of their word
pub word_shown : (p : Automaton) (ss : List Step) → shown p ss ≡ projected p (word_of ss)
word_shown p [] = refl
word_shown p (s ∷ ss) = ap (λ (l : List ℕ). shows p s.event ++ l) (word_shown p ss)

-- steps give a word that leads to their end, and a word that leads somewhere gives steps
pub steps_lead : (p : Automaton) (q : ℕ) (ss : List Step) → Takes p q ss → Leads p q (word_of ss) (end_of q ss)
steps_lead p q [] t = refl
steps_lead p q (s ∷ ss) t = (s.to, t.0, steps_lead p s.to ss t.1)

pub record Spelled (p : Automaton) (q : ℕ) (s : List ℕ) : Type 0 where
  pub run : List Step
  pub takes : Takes p q run
  pub spells : word_of run ≡ s

pub lead_steps : (p : Automaton) (q : ℕ) (s : List ℕ) (r : ℕ) → Leads p q s r → Spelled p q s
lead_steps p q [] r x = record { run = []; takes = tt; spells = refl }
lead_steps p q (e ∷ s) r x =
    let y = lead_steps p x.0 s r x.2 in
    record { run = step_of e x.0 ∷ y.run; takes = (x.1, y.takes); spells = ap (λ (l : List ℕ). e ∷ l) y.spells }

-- a word that leads from q to r and to r' leads to one state
pub same_end : (p : Automaton) → OneTarget p → (q : ℕ) (s : List ℕ) (r r' : ℕ) → Leads p q s r → Leads p q s r' → r ≡ r'
same_end p d q [] r r' x y = sym x ∙ y
same_end p d q (e ∷ s) r r' x y =
    same_end p d y.0 s r r' (subst (λ (m : ℕ). Leads p m s r) (d.one q e x.0 y.0 x.1 y.1) x.2) y.2

-- and steps from one state with equal words are equal
pub same_steps : (p : Automaton) → OneTarget p → (q : ℕ) (a b : List Step) → Takes p q a → Takes p q b → word_of a ≡ word_of b → a ≡ b
same_steps p d q [] [] t u e = refl
same_steps p d q [] (s ∷ b) t u e = absurd (omega (arith, ap length e))
same_steps p d q (s ∷ a) [] t u e = absurd (omega (arith, ap length e))
same_steps p d q (s ∷ a) (s₁ ∷ b) t u e =
    let event : s.event ≡ s₁.event = cc in
    let rest : word_of a ≡ word_of b = cc in
    let to : s.to ≡ s₁.to = d.one q s₁.event s.to s₁.to (subst (λ (x : ℕ). Transition p.table q x s.to) event t.0) u.0 in
    let others : a ≡ b = same_steps p d s₁.to a b (subst (λ (x : ℕ). Takes p x a) to t.1) u.1 rest in
    ap₂ (λ (x : Step) (l : List Step). x ∷ l) (ap₂ step_of event to) others

-- steps, cut where a prefix of their word ends
record FrontOf (b : List ℕ) (ss : List Step) : Type 0 where
  front : List Step
  begins : Prefix Step front ss
  spells : word_of front ≡ b

cut_word : (ss : List Step) (b a : List ℕ) → b ++ a ≡ word_of ss → FrontOf b ss
cut_word ss [] a e = record { front = []; begins = record { rest = ss; joins = refl }; spells = refl }
cut_word [] (x ∷ b) a e = absurd (omega (arith, ap length e))
cut_word (s ∷ ss) (x ∷ b) a e =
    let here : s.event ≡ x = cc in
    let later : b ++ a ≡ word_of ss = cc in
    let y = cut_word ss b a later in
    record {
      front = s ∷ y.front;
      begins = record { rest = y.begins.rest; joins = ap (λ (l : List Step). s ∷ l) y.begins.joins };
      spells = ap₂ (λ (n : ℕ) (l : List ℕ). n ∷ l) here y.spells;
    }

-- an execution sequence and its word
record Reading (p : Automaton) (s : List ℕ) (run : List Step) : Type 0 where
  takes : Lang p run
  spells : word_of run ≡ s

module _ (p : Automaton) where
  own : (run : List Step) → Lang p run → Reading p (word_of run) run
  own run lang = record { takes = lang; spells = refl }

  record Read (s : List ℕ) : Type 0 where
    run : List Step
    reading : Reading p s run

  read : (s : List ℕ) → WordLang p s → Read s
  read s x = let y = lead_steps p p.initial s x.0 x.1 in record { run = y.run; reading = record { takes = y.takes; spells = y.spells } }

  leads : (s : List ℕ) (run : List Step) → Reading p s run → Leads p p.initial s (end_of p.initial run)
  leads s run x = subst (λ (l : List ℕ). Leads p p.initial l (end_of p.initial run)) x.spells (steps_lead p p.initial run x.takes)

  shown_word : (s : List ℕ) (run : List Step) → Reading p s run → shown p run ≡ projected p s
  shown_word s run x = word_shown p run ∙ ap (projected p) x.spells

  -- prefixes of the one are prefixes of the other
  record Start (s' : List ℕ) (run : List Step) : Type 0 where
    front : List Step
    begins : Prefix Step front run
    reading : Reading p s' front

  start : (s : List ℕ) (run : List Step) → Reading p s run → (s' : List ℕ) → Prefix ℕ s' s → Start s' run
  start s run x s' pre =
      let y = cut_word run s' pre.rest (pre.joins ∙ sym x.spells) in
      record {
        front = y.front;
        begins = y.begins;
        reading = record { takes = takes_front p p.initial y.front y.begins.rest (rw y.begins.joins x.takes); spells = y.spells };
      }

  front_read : (run front : List Step) → Lang p run → Prefix Step front run → Reading p (word_of front) front
  front_read run front lang pre = own front (takes_front p p.initial front pre.rest (rw pre.joins lang))

  word_prefix : (s : List ℕ) (run : List Step) → Reading p s run → (front : List Step) → Prefix Step front run → Prefix ℕ (word_of front) s
  word_prefix s run x front pre = record { rest = word_of pre.rest; joins = sym (word_append front pre.rest) ∙ ap word_of pre.joins ∙ x.spells }

  module _ (secret : Secret) where
    -- and the one ends in a secret state where the other leads to one
    marked : (s : List ℕ) (run : List Step) → Reading p s run → Secretly p secret.states run → Marked p secret.states s
    marked s run x bad = (end_of p.initial run, bad, leads s run x)

    secretly : OneTarget p → (s : List ℕ) (run : List Step) → Reading p s run → Marked p secret.states s → Secretly p secret.states run
    secretly d s run x m = subst (λ (q : ℕ). In q secret.states) (same_end p d p.initial s m.0 (end_of p.initial run) m.2 (leads s run x)) m.1

    near_steps : (s s' : List ℕ) (run front : List Step) → Reading p s run → Reading p s' front → length (projected p s) - length (projected p s') ≤ secret.k
        → length (shown p run) - length (shown p front) ≤ secret.k
    near_steps s s' run front x y near = omega (arith, ap length (shown_word s run x), ap length (shown_word s' front y))

    near_words : (s s' : List ℕ) (run front : List Step) → Reading p s run → Reading p s' front → length (shown p run) - length (shown p front) ≤ secret.k
        → length (projected p s) - length (projected p s') ≤ secret.k
    near_words s s' run front x y near = omega (arith, ap length (shown_word s run x), ap length (shown_word s' front y))

    weak_words : OneTarget p → WeaklyOpaque p secret → WeaklyByWords p secret
    weak_words d opaque t lang t' pre near bad =
        let T = read t lang in
        let T' = start t T.run T.reading t' pre in
        let x = opaque T.run T.reading.takes T'.front T'.begins (near_steps t t' T.run T'.front T.reading T'.reading near)
        (secretly d t' T'.front T'.reading bad) in
        let S = own x.s x.takes in
        let S' = front_read x.s x.s' x.takes x.begins in
        record {
          s = word_of x.s;
          s' = word_of x.s';
          inside = (end_of p.initial x.s, leads (word_of x.s) x.s S);
          begins = word_prefix (word_of x.s) x.s S x.s' x.begins;
          like = sym (word_shown p x.s) ∙ x.like ∙ shown_word t T.run T.reading;
          like' = sym (word_shown p x.s') ∙ x.like' ∙ shown_word t' T'.front T'.reading;
          free = λ m. x.free (secretly d (word_of x.s') x.s' S' m);
        }

    words_weak : WeaklyByWords p secret → WeaklyOpaque p secret
    words_weak opaque t lang t' pre near bad =
        let T = own t lang in
        let T' = front_read t t' lang pre in
        let x = opaque (word_of t) (end_of p.initial t, leads (word_of t) t T) (word_of t') (word_prefix (word_of t) t T t' pre)
        (near_words (word_of t) (word_of t') t t' T T' near) (marked (word_of t') t' T' bad) in
        let S = read x.s x.inside in
        let S' = start x.s S.run S.reading x.s' x.begins in
        record {
          s = S.run;
          s' = S'.front;
          takes = S.reading.takes;
          begins = S'.begins;
          like = shown_word x.s S.run S.reading ∙ x.like ∙ sym (word_shown p t);
          like' = shown_word x.s' S'.front S'.reading ∙ x.like' ∙ sym (word_shown p t');
          free = λ b. x.free (marked x.s' S'.front S'.reading b);
        }

    strong_words : OneTarget p → StronglyOpaque p secret → StronglyByWords p secret
    strong_words d opaque t lang =
        let T = read t lang in
        let x = opaque T.run T.reading.takes in
        let S = own x.s x.takes in
        record {
          s = word_of x.s;
          inside = (end_of p.initial x.s, leads (word_of x.s) x.s S);
          like = sym (word_shown p x.s) ∙ x.like ∙ shown_word t T.run T.reading;
          free = λ s' pre near m.
              let S' = start (word_of x.s) x.s S s' pre in
              x.free S'.front S'.begins (near_steps (word_of x.s) s' x.s S'.front S S'.reading near)
              (secretly d s' S'.front S'.reading m);
        }

    words_strong : StronglyByWords p secret → StronglyOpaque p secret
    words_strong opaque t lang =
        let x = opaque (word_of t) (end_of p.initial t, leads (word_of t) t (own t lang)) in
        let S = read x.s x.inside in
        record {
          s = S.run;
          takes = S.reading.takes;
          like = shown_word x.s S.run S.reading ∙ x.like ∙ sym (word_shown p t);
          free = λ s' pre near bad.
              let S' = front_read S.run s' S.reading.takes pre in
              x.free (word_of s') (word_prefix x.s S.run S.reading s' pre) (near_words x.s (word_of s') S.run s' S.reading S' near)
              (marked (word_of s') s' S' bad);
        }

-- so with one target for each state and event the two forms of Definitions 3 and 4 are the same
pub by_words : (notion : Notion) (p : Automaton) (secret : Secret) → OneTarget p → Opaque notion p secret ↔ OpaqueByWords notion p secret
by_words Weak p secret d = (weak_words p secret d, words_weak p secret)
by_words Strong p secret d = (strong_words p secret d, words_strong p secret)

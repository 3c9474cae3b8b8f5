-- Laws of lists of calls. Assumes nothing.
use mathlib.Core.Path.{◌≡◌, refl, ap, ap₂, sym, subst, ◌∙◌}
use mathlib.Core.List.{List, [], ◌∷◌, ◌++◌, append_assoc, append-nil}
use Rattle.lists.specs.Calls.{Chain, done, next, joined, offered, Every, Each, more}

-- calls and then more calls
pub chain_append : {State Call : Type 0} {Step : State → Call → State → Type 0} {s m e : State} {cs ds : List Call} → Chain Step s cs m → Chain Step m ds e
    → Chain Step s (cs ++ ds) e
chain_append done q = q
chain_append (next x p) q = next x (chain_append p q)

pub joined_append : {Call A : Type 0} (part : Call → List A) (cs ds : List Call) → joined part (cs ++ ds) ≡ joined part cs ++ joined part ds
joined_append part [] ds = refl
joined_append part (c ∷ cs) ds = ap (λ (l : List _). part c ++ l) (joined_append part cs ds) ∙ sym (append_assoc (part c) (joined part cs) (joined part ds))

-- calls that are judged, and then more of them
pub each_append : {Call A : Type 0} {taken : Call → List A} {Judged : List A → Call → Type 0} (trace : List A) (cs ds : List Call) → Each taken Judged trace cs
    → Each taken Judged (trace ++ joined taken cs) ds → Each taken Judged trace (cs ++ ds)
each_append {A = A} {taken} {Judged} trace [] ds x y = subst (λ (l : List A). Each taken Judged l ds) (append-nil trace) y
each_append {A = A} {taken} {Judged} trace (c ∷ cs) ds (more j x) y =
    more j (each_append (trace ++ taken c) cs ds x (subst (λ (l : List A). Each taken Judged l ds) (sym (append_assoc trace (taken c) (joined taken cs))) y))

-- where each call that offers what can follow is taken, calls that offer what can follow, one after another, are all taken
module _ {Call A : Type 0} (taken : Call → List A) (byte : Call → A) (Judged : List A → Call → Type 0) (Good : Call → Type 0) (Can : List A → Type 0)
    (front : (a b : List A) → Can (a ++ b) → Can a)
    (one : (trace : List A) (c : Call) → Judged trace c → Good c → Can (trace ++ byte c ∷ []) → taken c ≡ byte c ∷ []) where
  pub all_taken : (trace : List A) (cs : List Call) → Each taken Judged trace cs → Every Good cs → Can (trace ++ offered byte cs)
      → joined taken cs ≡ offered byte cs
  all_taken trace [] x good can = refl
  all_taken trace (c ∷ cs) (more x y) good can =
      let whole = append_assoc trace (byte c ∷ []) (offered byte cs) in
      let later : Can ((trace ++ byte c ∷ []) ++ offered byte cs) = subst Can (sym whole) can in
      let here : taken c ≡ byte c ∷ [] = one trace c x good.0 (front (trace ++ byte c ∷ []) (offered byte cs) later) in
      let rest = all_taken (trace ++ byte c ∷ []) cs (subst (λ (l : List A). Each taken Judged (trace ++ l) cs) here y) good.1 later in
      ap₂ (λ (a b : List A). a ++ b) here rest

-- what holds of every call holds of each of a list
pub every : {Call : Type 0} {P : Call → Type 0} → ((c : Call) → P c) → (cs : List Call) → Every P cs
every all [] = tt
every all (c ∷ cs) = (all c, every all cs)

-- and what holds of each of two lists joined holds of each of both
pub every_split : {Call : Type 0} (P : Call → Type 0) (cs ds : List Call) → Every P (cs ++ ds) → Every P cs × Every P ds
every_split P [] ds x = (tt, x)
every_split P (c ∷ cs) ds x = let y = every_split P cs ds x.1 in ((x.0, y.0), y.1)

-- Images and preimages by the events of a mask, joined event by event. Assumes nothing.
use mathlib.Core.Path.{◌≡◌}
use mathlib.Core.List.{List}
use Prim.Native.Nat.{ℕ, ◌*◌, ◌^◌, ◌<◌}
use lib.ListN.{length, get_or, take, drop}
use Rattle.stateset.specs.Set.{In, Is}
use Rattle.relation.specs.Relation.{Row, Image, Preimage}
use Rattle.relation.proofs.Falling.{Leading}
use Rattle.relation.proofs.Holding.{row_sound, row_whole}
use Rattle.automaton.specs.Reaching.{Listed}
use Rattle.automaton.proofs.Entering.{part_rows}

-- the words of one event
abbrev pub words_of : List ℕ → ℕ → List ℕ
words_of t e = take 64 (drop (64 * e) t)

module _ (t : List ℕ) (events set r : ℕ) (size : length t ≡ 2048) (words : (k : ℕ) → get_or t k 0 < 2 ^ 64) (small : (e : ℕ) → In e events → e < 32) where
  -- the images by the events of a mask, joined
  pub image_joined : Is r (λ x. (e : ℕ) × In e events × Image (Row (words_of t e)) set x) → Is r (Image (Listed t events) set)
  image_joined g =
      record {
        sound = λ x i.
            let m = g.sound x i in
            (m.2.0, m.2.1, (m.0, m.1, row_sound _ _ (part_rows t m.0 (small m.0 m.1) size words) m.2.0 x m.2.2));
        whole = λ x m.
            let l = m.2 in
            g.whole x (l.0, l.1, (m.0, m.1, row_whole _ _ (part_rows t l.0 (small l.0 l.1) size words) m.0 x l.2.from_small l.2));
      }

  pub preimage_joined : (few : ℕ) → Is r (λ q. (e : ℕ) × In e events × Leading (words_of t e) few set q)
      → Is r (λ q. (q < few) × Preimage (Listed t events) set q)
  preimage_joined few g =
      record {
        sound = λ q i.
            let m = g.sound q i in
            let x = m.2.1 in
            (m.2.0, (x.0, (x.1.0, x.1.1, (m.0, m.1, row_sound _ _ (part_rows t m.0 (small m.0 m.1) size words) q x.1.0 x.1.2))));
        whole = λ q m.
            let x = m.1 in
            let l = x.1.2 in
            g.whole q (
              l.0,
              l.1,
              (
                m.0,
                (
                  x.0,
                  (
                    x.1.0,
                    x.1.1,
                    row_whole _ _ (part_rows t l.0 (small l.0 l.1) size words) q x.1.0 x.0 l.2,
                  ),
                ),
              ),
            );
      }

-- Along the rows of a point, the parts of a value do not fall.
-- Assumes nothing.
use mathlib.Core.Path.{◌≡◌, refl, ap₂}
use mathlib.Core.Bool.{Bool, true, false, ◌&&◌, cond}
use mathlib.Core.List.{List, [], ◌∷◌}
use Prim.Native.Nat.{ℕ, ◌+◌, ◌-◌, ◌*◌, ◌/◌, ◌≤◌, ◌<◌, min}
use native.Mathlib.Nat.{le-div_iff_mul-le}
use native.Mathlib.Omega.{arith}
use lib.Dec.{leb}
use borrow.Author.Tests.{leb-true, le-leb}
use Rattle.model.specs.Table.{Point, Range, span, pattern}
use Rattle.model.specs.Values.{in_range}
use Rattle.model.proofs.Readers.{All}
use Rattle.model.proofs.Booleans.{and_left, and_right}
use Rattle.spans.specs.Spans.{rises_from}
use Rattle.parts.specs.Rows.{Row, part_in, parts_at}
use Rattle.parts.specs.Words.{RowFits}
use Rattle.parts.specs.Point.{Typed, start_of, end_of, climbs}

module _ (before share last : ℕ) (some : 1 ≤ share) where
  -- the part does not fall where the place rises
  steps_rise : (d e : ℕ) → d ≤ e → min ((before + d) / share) last ≤ min ((before + e) / share) last
  steps_rise d e h =
      let j = (before + d) / share in
      let x : j * share ≤ before + d = (le-div_iff_mul-le {k = share} {x = j} {y = before + d} some).0 (omega arith) in
      let y : j ≤ (before + e) / share = (le-div_iff_mul-le {k = share} {x = j} {y = before + e} some).1 (omega arith) in
      omega arith

module _ (q : Point) (m v : ℕ) where
  -- a value's part is none below that of the row's first value, and none above that of its last
  part_between : (r : Row) → RowFits m r → (R : Range) → r.range ≡ R → Typed q R → in_range R v ≡ true → (start_of r 0 R ≤ part_in r v) × (part_in r v ≤ end_of r 0 R)
  part_between r fit (span lo hi) e typed h =
      let a = leb-true lo v (and_left (leb lo v) (leb v hi) h) in
      let b = leb-true v hi (and_right (leb lo v) (leb v hi) h) in
      (rw e (omega (arith, steps_rise r.before r.share r.last fit.share (lo - lo) (v - lo) (omega arith))), rw e (omega (arith, steps_rise r.before r.share r.last fit.share (v - lo) (hi - lo) (omega arith))))
  part_between r fit (pattern bits mask) e typed h = (rw e (omega arith), rw e (omega arith))

  climbs_end : (r : Row) → RowFits m r → (R : Range) → r.range ≡ R → Typed q R → start_of r 0 R ≤ end_of r 0 R
  climbs_end r fit (span lo hi) e typed =
      let h = typed.1 in
      rw e (omega (arith, steps_rise r.before r.share r.last fit.share (lo - lo) (hi - lo) (omega arith)))
  climbs_end r fit (pattern bits mask) e typed = rw e (omega arith)

  rises_from_lem : (x y : ℕ) (l : List ℕ) → y ≤ x → rises_from x l ≡ true → rises_from y l ≡ true
  unfolding rises_from
  rises_from_lem x y [] h a = refl
  rises_from_lem x y (z ∷ zs) h a =
      let g = leb-true x z (and_left (leb x z) (rises_from z zs) a) in
      ap₂ ◌&&◌ (le-leb y z (omega arith)) (and_right (leb x z) (rises_from z zs) a)

  pub parts_rise : (x : ℕ) (rs : List Row) → All (RowFits m) rs → All (λ r. Typed q r.range) rs → climbs x rs ≡ true → rises_from x (parts_at v rs) ≡ true
  unfolding rises_from parts_at climbs
  parts_rise x [] fit typed c = refl
  parts_rise x (r ∷ rs) fit typed c =
      let others = parts_rise (end_of r 0 r.range) rs fit.1 typed.1 (and_right (leb x (start_of r 0 r.range)) (climbs (end_of r 0 r.range) rs) c) in
      go (in_range r.range v) refl others
    where
      start : x ≤ start_of r 0 r.range
      start = leb-true x (start_of r 0 r.range) (and_left (leb x (start_of r 0 r.range)) (climbs (end_of r 0 r.range) rs) c)

      go : (b : Bool) → in_range r.range v ≡ b → rises_from (end_of r 0 r.range) (parts_at v rs) ≡ true → rises_from x (cond b (part_in r v ∷ parts_at v rs) (parts_at v rs)) ≡ true
      go true e others =
          let z = part_between r fit.0 r.range refl typed.0 e in
          ap₂ ◌&&◌ (le-leb x (part_in r v) (omega (arith, z.0, start))) (rises_from_lem (end_of r 0 r.range) (part_in r v) (parts_at v rs) z.1 others)
      go false e others = rises_from_lem (end_of r 0 r.range) x (parts_at v rs) (omega (arith, start, climbs_end r fit.0 r.range refl typed.0)) others

pub parts_below : (m v : ℕ) (rs : List Row) → All (RowFits m) rs → All (λ k. k < m) (parts_at v rs)
unfolding parts_at
parts_below m v [] fit = tt
parts_below m v (r ∷ rs) fit = go (in_range r.range v) (parts_below m v rs fit.1)
  where
    go : (b : Bool) → All (λ k. k < m) (parts_at v rs) → All (λ k. k < m) (cond b (part_in r v ∷ parts_at v rs) (parts_at v rs))
    go true h = (omega (arith, fit.0.room), h)
    go false h = h

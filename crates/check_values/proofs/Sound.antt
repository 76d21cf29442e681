-- What a section that was read tells of its bytes: the bounds of its count, widths that are widths, and bins of points that are there.
-- Assumes nothing.
use mathlib.Core.Path.{◌≡◌, subst}
use mathlib.Core.List.{List, [], ◌∷◌}
use Prim.Native.Nat.{ℕ, zero, suc, ◌+◌, ◌*◌, ◌<◌, ◌≤◌}
use native.Mathlib.Nat.{not-suc-le-zero}
use native.Mathlib.Omega.{arith}
use borrow.Author.Tests.{ltb-true}
use Rattle.model.specs.Table.{Point, no_point}
use Rattle.model.specs.Format.{got, and_then, times, read_record, byte, u16, section_count, read_point_section, read_point, point_tests, point_record, BinHead, bin_head, bin_rules, bin_tests, defaults_with, read_bin_heads, read_bin_section}
use Rattle.model.proofs.Readers.{then_elim, bind_elim, got_record}
use Rattle.model.proofs.Access.{section-count, records}
use Rattle.words.specs.Points.{PointsBelow}
use Rattle.ranges.specs.Types.{Wide, AllWide}
use Rattle.check_values.proofs.Bounds.{within-wide}

-- ---- points

module _ (s : List ℕ) (at : ℕ) (ps : List Point) (end : ℕ) (e : read_point_section s at ≡ got ps end) where
  pub points_counted : (1 ≤ u16 s at) × (u16 s at ≤ 16)
  unfolding read_point_section
  points_counted =
      bind_elim (section_count s 1 16) (λ n. times n (read_point s)) at e λ n next e₁ e₂.
      let c = section-count s 1 16 at n next e₁ in
      (omega (arith, c.said, c.low), omega (arith, c.said, c.high))

  pub points_wide : AllWide s (at + 2) (u16 s at)
  unfolding read_point_section read_point
  points_wide i h =
      bind_elim (section_count s 1 16) (λ n. times n (read_point s)) at e λ n next e₁ e₂.
      let c = section-count s 1 16 at n next e₁ in
      let r = records s 11 (point_tests s) (point_record s) no_point n next ps end e₂ in
      let p = (r.2.record_at i (omega (arith, r.0, c.said))).passed.0 in
      let y : next + i * 11 ≡ at + 2 + 11 * i = omega (arith, c.begins) in
      subst (λ (x : ℕ). Wide s x) y (within-wide s (next + i * 11) p)

-- ---- value bins

heads_known : (s : List ℕ) (points n : ℕ) (defaults : List ℕ) (at : ℕ) (hs : List BinHead) (end : ℕ) → read_bin_heads s points n defaults at ≡ got hs end → PointsBelow s 8 at n points
unfolding read_bin_heads bin_rules
heads_known s points zero defaults at hs end e i h = absurd (not-suc-le-zero h)
heads_known s points (suc n) defaults at hs end e i h =
    then_elim (read_record s 8 (bin_tests s points defaults) (bin_head s) at) (λ h next. and_then (read_bin_heads s points n (defaults_with h defaults) next) λ hs end. got (h ∷ hs) end) e
    λ b next e₁ e₂.
    then_elim (read_bin_heads s points n (defaults_with b defaults) next) (λ hs end. got (b ∷ hs) end) e₂
    λ others end' e₃ e₄.
    let r = got_record s 8 (bin_tests s points defaults) (bin_head s) at e₁ in
    first next (ltb-true (byte s at) points r.passed.0) r.ends (heads_known s points n (defaults_with b defaults) next others end' e₃) i h
  where
    first : (next : ℕ) → byte s at < points → next ≡ at + 8 → PointsBelow s 8 next n points → PointsBelow s 8 at (suc n) points
    first next k y rest zero h = subst (λ (x : ℕ). byte s x < points) (let z : at ≡ at + 8 * 0 = omega arith in z) k
    first next k y rest (suc i) h = subst (λ (x : ℕ). byte s x < points) (let z : next + 8 * i ≡ at + 8 * suc i = omega arith in z) (rest i (omega arith))

module _ (s : List ℕ) (points at : ℕ) (hs : List BinHead) (end : ℕ) (e : read_bin_section s points at ≡ got hs end) where
  pub bins_counted : u16 s at ≤ 512
  unfolding read_bin_section
  bins_counted =
      bind_elim (section_count s 0 512) (λ n. read_bin_heads s points n []) at e λ n next e₁ e₂.
      let c = section-count s 0 512 at n next e₁ in
      omega (arith, c.said, c.high)

  pub bins_known : PointsBelow s 8 (at + 2) (u16 s at) points
  unfolding read_bin_section
  bins_known i h =
      bind_elim (section_count s 0 512) (λ n. read_bin_heads s points n []) at e λ n next e₁ e₂.
      let c = section-count s 0 512 at n next e₁ in
      let y : next + 8 * i ≡ at + 2 + 8 * i = omega (arith, c.begins) in
      subst (λ (x : ℕ). byte s x < points) y (heads_known s points n [] next hs end e₂ i (omega (arith, c.said)))

-- The tests of a sample, by the table's bytes and counts.
-- Assumes nothing.
use mathlib.Core.Path.{◌≡◌, refl, sym, ap, ◌∙◌}
use mathlib.Core.Bool.{◌&&◌}
use mathlib.Core.List.{List}
use Prim.Native.Nat.{ℕ, ◌^◌}
use native.Mathlib.Omega.{arith}
use lib.Dec.{ltb, eqb}
use Rattle.model.specs.Lists.{up_from, all, first_failed}
use Rattle.model.specs.Table.{Point, Table}
use Rattle.model.specs.Sampling.{value_word, unknown_word}
use Rattle.model.specs.Format.{decode, decoded}
use Rattle.model.specs.Register.{point_total, illegal_total, in_widths, sample_tests}
use Rattle.model.proofs.Lists.{all_same}
use Rattle.values.proofs.PointExact.{point_raw}
use Rattle.refusals.specs.Refusals.{in_width_at, in_widths_at, own_refusal}

module _ (s v report : List ℕ) where
  widths_by : (t : Table) → decode s ≡ decoded t → (n : ℕ) → n ≡ point_total t → in_widths_at s v n ≡ in_widths t v
  unfolding in_widths_at in_widths
  widths_by t e n k =
      ap (λ (n : ℕ). all (in_width_at s v) (up_from 0 n)) k
      ∙ all_same (in_width_at s v) _ 0 (point_total t) λ p lo h.
      ap (λ (x : Point). ltb (value_word v p) (2 ^ x.width) && ltb (unknown_word v p) (2 ^ x.width)) (sym (point_raw s t e p (omega arith)))

  pub own_by : (t : Table) → decode s ≡ decoded t → (points illegals : ℕ) → points ≡ point_total t → illegals ≡ illegal_total t → (flag samples : ℕ)
      → own_refusal s points illegals v report flag samples ≡ first_failed (sample_tests t v report (eqb flag 1) samples)
  unfolding own_refusal first_failed
  own_by t e points illegals p i flag samples = rw (p, i, widths_by t e (point_total t) refl)

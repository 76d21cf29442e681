-- The ten sections one after the other.
-- Assumes nothing.
use Prim.Native.Nat.{ℕ, ◌+◌, ◌*◌, ◌≤◌}
use mathlib.Core.Path.{◌≡◌, sym, ap, ◌∙◌}
use mathlib.Core.List.{List}
use native.Mathlib.Omega.{arith}
use lib.ListN.{length}
use Rattle.model.specs.Table.{Point}
use Rattle.model.specs.Format.{got, u16, BinHead, bin_head, point_record, read_point_section, read_bin_section, read_range_section, read_transition_bins, read_crosses, read_table}
use Rattle.model.specs.Raw.{rows, points_at}
use Rattle.model.proofs.RawLaws.{Says, length-rows}
use Rattle.model.proofs.RawValues.{points_raw, bins_raw, ranges_raw}
use Rattle.model.proofs.RawTransitions.{transition-bins_raw}
use Rattle.std.proofs.Common.{Ok, Err}
use Rattle.words.specs.Verdicts.{Verdict, verdict_of}
use Rattle.words.specs.declared.verdicts.Fault.{Fault}
use Rattle.words.proofs.Chain.{bind_stop, bind_done, says-sound, says_in, says_on}
use Rattle.words.specs.Points.{PointsBelow}
use Rattle.ranges.specs.Types.{AllWide}
use Rattle.check_values.proofs.Sound.{points_counted, points_wide, bins_known}
use Rattle.table.specs.Check.{after_bins}

-- ---- sections 3 to 10, after np points from `points` on and nb bins from `bins` on

module _ (s : List ℕ) (points np bins nb at : ℕ) where
  abbrev ps : List Point
  ps = points_at s points np

  abbrev heads : List BinHead
  heads = rows (bin_head s) 8 bins nb

  pub ranges_stop : (f : Fault) → Err f ≡ verdict_of (read_range_section s ps heads at) → Err f ≡ verdict_of (after_bins s ps heads at)
  unfolding after_bins
  ranges_stop f e = bind_stop (read_range_section s ps heads) _ at f e

  module _ (fourth : ℕ) (er : Ok fourth ≡ verdict_of (read_range_section s ps heads at)) where
    pub ranges_in : fourth ≤ length s
    ranges_in = says_in _ _ _ (length s) fourth (ranges_raw s ps bins nb at) er

    pub transitions-stop : (f : Fault) → Err f ≡ verdict_of (read_transition_bins s ps fourth) → Err f ≡ verdict_of (after_bins s ps heads at)
    unfolding after_bins
    transitions-stop f e =
        says_on (read_range_section s ps heads) _ at _ _ (length s) fourth (Err f) (ranges_raw s ps bins nb at) er
        (bind_stop (read_transition_bins s ps) _ fourth f e)

    module _ (eighth : ℕ) (et : Ok eighth ≡ verdict_of (read_transition_bins s ps fourth)) where
      pub transitions-in : eighth ≤ length s
      transitions-in = says_in _ _ _ (length s) eighth (transition-bins_raw s ps fourth) et

      pub crosses-last : (c : Verdict) → c ≡ verdict_of (read_crosses s ps heads eighth) → c ≡ verdict_of (after_bins s ps heads at)
      unfolding after_bins
      crosses-last c e =
          says_on (read_range_section s ps heads) _ at _ _ (length s) fourth c (ranges_raw s ps bins nb at) er
          (says_on (read_transition_bins s ps) _ fourth _ _ (length s) eighth c (transition-bins_raw s ps fourth) et
          (bind_done (read_crosses s ps heads) _ eighth c e))

-- ---- all sections

module _ (s : List ℕ) where
  pub points_stop : (f : Fault) → Err f ≡ verdict_of (read_point_section s 0) → Err f ≡ verdict_of (read_table s 0)
  unfolding read_table
  points_stop f e = bind_stop (read_point_section s) _ 0 f e

  module _ (second : ℕ) (ep : Ok second ≡ verdict_of (read_point_section s 0)) (np : ℕ) (en : np ≡ u16 s 0) where
    points-at : Says (read_point_section s 0) (points_at s 2 np) (2 + 11 * np) (length s)
    points-at = rw en (points_raw s 0)

    points-got : (read_point_section s 0 ≡ got (points_at s 2 np) (2 + 11 * np)) × (second ≡ 2 + 11 * np) × (2 + 11 * np ≤ length s)
    points-got = says-sound _ _ _ (length s) second points-at ep

    pub points_in : (second ≤ length s) × (2 + 11 * np ≤ length s) × (np ≤ 16)
    points_in =
        let g = points-got in
        let l = g.2 in
        let a = g.1 in
        (omega arith, l, omega (arith, (points_counted s 0 (points_at s 2 np) (2 + 11 * np) g.0).1))

    pub wide : AllWide s 2 np
    wide = rw en (points_wide s 0 (points_at s 2 np) (2 + 11 * np) points-got.0)

    by-length : verdict_of (read_bin_section s np second) ≡ verdict_of (read_bin_section s (length (points_at s 2 np)) second)
    by-length = ap (λ (n : ℕ). verdict_of (read_bin_section s n second)) (sym (length-rows (point_record s) 11 2 np))

    pub bins-stop : (f : Fault) → Err f ≡ verdict_of (read_bin_section s np second) → Err f ≡ verdict_of (read_table s 0)
    unfolding read_table
    bins-stop f e =
        says_on (read_point_section s) _ 0 _ _ (length s) second (Err f) points-at ep
        (bind_stop (read_bin_section s (length (points_at s 2 np))) _ second f (e ∙ by-length))

    module _ (third : ℕ) (eb : Ok third ≡ verdict_of (read_bin_section s np second)) (nb : ℕ) (em : nb ≡ u16 s second) where
      bins_at : (n : ℕ) → Says (read_bin_section s n second) (rows (bin_head s) 8 (second + 2) nb) (second + 2 + 8 * nb) (length s)
      bins_at n = rw em (bins_raw s n second)

      bins-got : (read_bin_section s np second ≡ got (rows (bin_head s) 8 (second + 2) nb) (second + 2 + 8 * nb)) × (third ≡ second + 2 + 8 * nb) × (second + 2 + 8 * nb ≤ length s)
      bins-got = says-sound _ _ _ (length s) third (bins_at np) eb

      pub bins_in : (third ≤ length s) × (second + 2 + 8 * nb ≤ length s)
      bins_in =
          let g = bins-got in
          let l = g.2 in
          let a = g.1 in
          (omega arith, l)

      pub known : PointsBelow s 8 (second + 2) nb np
      known = rw em (bins_known s np second (rows (bin_head s) 8 (second + 2) nb) (second + 2 + 8 * nb) bins-got.0)

      pub bins_on : (y : Verdict) → y ≡ verdict_of (after_bins s (points_at s 2 np) (rows (bin_head s) 8 (second + 2) nb) third) → y ≡ verdict_of (read_table s 0)
      unfolding read_table after_bins
      bins_on y e =
          says_on (read_point_section s) _ 0 _ _ (length s) second y points-at ep
          (says_on (read_bin_section s (length (points_at s 2 np))) _ second _ _ (length s) third y (bins_at (length (points_at s 2 np))) (eb ∙ by-length) e)

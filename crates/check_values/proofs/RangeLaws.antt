-- The ranges of a value bin: what its record says of them.
-- Assumes nothing.
use Prim.Native.Nat.{ℕ, ◌+◌, ◌*◌, ◌<◌, ◌≤◌}
use mathlib.Core.Path.{◌≡◌, ap₂, sym, ◌∙◌}
use mathlib.Core.Bool.{Bool, true, ◌&&◌}
use mathlib.Core.List.{List}
use native.Mathlib.Omega.{arith}
use lib.Dec.{eqb}
use lib.ListN.{length, get_or}
use Rattle.model.specs.Table.{Point, no_point}
use Rattle.model.specs.Format.{byte, u16, point_record, bin_head, ◌>>=◌, times, range_tests, range_record, read_range, BinHead, read_bin_ranges, allows_patterns, with_ranges}
use Rattle.model.specs.Raw.{points_at}
use Rattle.model.proofs.RawLaws.{get_d_rows}
use Rattle.std.proofs.Common.{Ok}
use Rattle.words.specs.Verdicts.{Verdict, verdict_of}
use Rattle.words.proofs.Laws.{verdict-done, eachs}
use Rattle.words.proofs.Chain.{times_in}
use Rattle.words.specs.Points.{PointsBelow}
use Rattle.ranges.specs.Types.{AllWide, sound_spans}
use Rattle.ranges.proofs.SpanLaws.{sound-read}
use Rattle.check_values.specs.Places.{Typed}
use Rattle.model.proofs.Fields.{cover-kind, single-form}

verdict-bin-ranges : (s : List ℕ) (ps : List Point) (h : BinHead) (at : ℕ)
    → verdict_of (read_bin_ranges s ps h at) ≡ verdict_of (times h.ranges (read_range s (get_or ps h.bin.point no_point) (allows_patterns h.bin)) at)
unfolding read_bin_ranges ◌>>=◌
verdict-bin-ranges s ps h at = verdict-done (times h.ranges (read_range s (get_or ps h.bin.point no_point) (allows_patterns h.bin)) at) (with_ranges h.bin)

-- the bin at `bin`: its ranges are of the point that it names
pub verdict-bin-at : (s : List ℕ) (points np bin at : ℕ) → byte s bin < np
    → verdict_of (read_bin_ranges s (points_at s points np) (bin_head s bin) at)
    ≡ verdict_of (times (u16 s (bin + 6)) (read_range s (point_record s (points + 11 * byte s bin)) (eqb (byte s (bin + 1)) 0 && eqb (byte s (bin + 2)) 0)) at)
verdict-bin-at s points np bin at h =
    verdict-bin-ranges s (points_at s points np) (bin_head s bin) at
    ∙ ap₂ (λ (p : Point) (b : Bool). verdict_of (times (u16 s (bin + 6)) (read_range s p b) at)) (get_d_rows (point_record s) 11 points np (byte s bin) no_point h)
    (ap₂ (λ (x y : Bool). x && y) (cover-kind (byte s (bin + 1))) (single-form (byte s (bin + 2)) (u16 s (bin + 3))))

-- ranges that are spans of the point have no fault
pub spans-at : (s : List ℕ) (points np bin at p n : ℕ) (b : Bool) (r : Verdict) → byte s bin < np → p ≡ byte s bin → n ≡ u16 s (bin + 6) → b ≡ sound_spans s (points + 11 * p) n at → b ≡ true
    → r ≡ Ok (at + 17 * n) → r ≡ verdict_of (read_bin_ranges s (points_at s points np) (bin_head s bin) at)
spans-at s points np bin at p n b r k ep en eb z e =
    let patterns = eqb (byte s (bin + 1)) 0 && eqb (byte s (bin + 2)) 0 in
    sound-read s (points + 11 * p) n at patterns r (sym eb ∙ z) e
    ∙ ap₂ (λ (q m : ℕ). verdict_of (times m (read_range s (point_record s (points + 11 * q)) patterns) at)) ep en
    ∙ sym (verdict-bin-at s points np bin at k)

module _ (s : List ℕ) (points np bins n : ℕ) (wide : AllWide s points np) (known : PointsBelow s 8 bins n np) (i bin : ℕ) (h : i < n) (e : bin ≡ bins + 8 * i) where
  known_at : byte s bin < np
  known_at = rw e (known i h)

  pub typed_at : points + 11 * np ≤ length s → Typed s points np bin
  typed_at l = let k : byte s bin < np = known_at in record { known = k; place = omega arith; wide = wide (byte s bin) k }

  pub ranges_in : (at end : ℕ) → at ≤ length s → Ok end ≡ verdict_of (read_bin_ranges s (points_at s points np) (bin_head s bin) at) → end ≤ length s
  unfolding read_range
  ranges_in at end l q =
      times_in s 17 (range_tests s (point_record s (points + 11 * byte s bin)) (eqb (byte s (bin + 1)) 0 && eqb (byte s (bin + 2)) 0)) (range_record s) (u16 s (bin + 6)) at end l
      (q ∙ verdict-bin-at s points np bin at known_at)

pub ruleset owned_ranges = (eachs, typed_at, ranges_in)

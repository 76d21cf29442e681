-- The verdict of section 7, in the form in which `search` applies it.
-- Assumes nothing.
use Prim.Native.Nat.{ℕ, zero, suc, ◌+◌, ◌*◌, ◌-◌, ◌<◌, ◌≤◌}
use mathlib.Core.Path.{◌≡◌, refl, sym, ap, ap₂, ◌∙◌, subst}
use mathlib.Core.Bool.{true}
use mathlib.Core.List.{List}
use native.Mathlib.Nat.{sub-zero}
use native.Mathlib.Omega.{arith}
use lib.ListN.{length, get_or}
use borrow.Author.Rules.{rules}
use Rattle.model.specs.Lists.{sum_of}
use Rattle.model.specs.Table.{Point, no_point}
use Rattle.model.specs.Format.{times, each, byte, owned_count, point_record, transition_head, step_ranges_owned, ranges_of_step, with_owned, StepHead, step_head, range_tests, range_record, read_range, read_step_ranges, read_transition_ranges, read_step_range_section}
use Rattle.model.specs.Raw.{points_at, step_total, range_total, sequence_heads_at, transition_heads_at}
use Rattle.model.proofs.RawLaws.{get_d_rows}
use Rattle.model.proofs.RawTransitions.{bin-range-total}
use Rattle.model.proofs.Lists.{none_left, one_left}
use Rattle.std.proofs.Common.{Ok, Err}
use Rattle.words.specs.Verdicts.{Verdict, verdict_of}
use Rattle.words.specs.declared.verdicts.Fault.{Fault}
use Rattle.words.proofs.Laws.{record_in, owners_done, owners_stop, owners_on}
use Rattle.words.proofs.Chain.{bind_done, times_in}
use Rattle.ranges.specs.Types.{Wide, AllWide}
use Rattle.words.specs.Sums.{byte_sum}
use Rattle.words.proofs.Chain.{count_stop, count_on}
use Rattle.words.proofs.Flat.{each_times}
use Rattle.words.specs.Points.{PointsBelow}
use Rattle.words.proofs.ByteSums.{byte_field₀, bytes-add}

-- ---- points

pub wide_of : (s : List ℕ) (points np j : ℕ) → AllWide s points np → j < np → Wide s (points + 11 * j)
wide_of s points np j w h = w j h

pub point_below_lem : (s : List ℕ) (b n np i bin : ℕ) → PointsBelow s 4 b n np → i < n → bin ≡ b + 4 * i → byte s bin < np
point_below_lem s b n np i bin below h e = subst (λ (x : ℕ). byte s x < np) (sym e) (below i h)

-- n ranges of the point with number j, by the place of its record
pub ranges_of-point : (s : List ℕ) (points np b j n total at : ℕ) (r : Verdict) → j ≡ byte s b → byte s b < np → n ≡ total
    → r ≡ verdict_of (times n (read_range s (point_record s (points + 11 * j)) true) at)
    → r ≡ verdict_of (times total (read_range s (get_or (points_at s points np) (byte s b) no_point) true) at)
ranges_of-point s points np b j n total at r ej below en e =
    e ∙ ap₂ (λ (k : ℕ) (pt : Point). verdict_of (times k (read_range s pt true) at)) en
    (ap (λ (x : ℕ). point_record s (points + 11 * x)) ej ∙ sym (get_d_rows (point_record s) 11 points np (byte s b) no_point below))

pub ruleset bin_ranges = (rules, wide_of, ranges_of-point)

-- ---- how many ranges there are

-- m sequences have so many steps
steps_are : (s : List ℕ) (q m : ℕ) → step_total s q m ≡ byte_sum s 1 q m
unfolding step_total
steps_are s q m = sym (byte_field₀ s (λ k. k) (byte s) 1 (λ at. refl) q m)

-- and these so many ranges
ranges_are : (s : List ℕ) (q p m : ℕ) → sum_of (sum_of ranges_of_step) (sequence_heads_at s q p m) ≡ byte_sum s 3 p (byte_sum s 1 q m)
unfolding range_total
ranges_are s q p m =
    bin-range-total s m q p ∙ sym (byte_field₀ s ranges_of_step (step_head s) 3 (λ at. refl) p (step_total s q m)) ∙ ap (byte_sum s 3 p) (steps_are s q m)

-- n bins
range-total : (s : List ℕ) (n b q p : ℕ) → byte_sum s 3 p (byte_sum s 1 q (byte_sum s 4 (b + 3) n)) ≡ sum_of step_ranges_owned (transition_heads_at s b q p n)
unfolding transition_heads_at sum_of byte_sum
range-total s zero b q p = refl
range-total s (suc n) b q p =
    let m = byte s (b + 3) in
    let k = byte_sum s 1 q m in
    let rest = byte_sum s 4 (b + 3 + 4) n in
    ap (byte_sum s 3 p) (bytes-add s 1 q m rest)
    ∙ bytes-add s 3 p k (byte_sum s 1 (q + 1 * m) rest)
    ∙ ap₂ ◌+◌ (sym (ranges_are s q p m))
    (ap (λ (x : ℕ). byte_sum s 3 (p + 3 * x) (byte_sum s 1 (q + 1 * m) rest)) (sym (steps_are s q m))
    ∙ ap₂ (λ (x y : ℕ). byte_sum s 3 (p + 3 * step_total s q m) (byte_sum s 1 x (byte_sum s 4 y n))) (let y : q + 1 * m ≡ q + m = omega arith in y) (let y : b + 3 + 4 ≡ b + 4 + 3 = omega arith in y)
    ∙ range-total s n (b + 4) (q + m) (p + 3 * step_total s q m))

-- ---- the ranges of one bin are one row

module _ (s : List ℕ) (pt : Point) where
  steps_row : (hs : List StepHead) (at : ℕ) → verdict_of (each (read_step_ranges s pt) hs at) ≡ verdict_of (times (sum_of ranges_of_step hs) (read_range s pt true) at)
  unfolding read_step_ranges
  steps_row hs at = each_times (read_step_ranges s pt) (read_range s pt true) ranges_of_step (λ h at. sym (bind_done (times h.ranges (read_range s pt true)) _ at _ refl)) hs at

  sequences_row : (hss : List (List StepHead)) (at : ℕ)
      → verdict_of (each (each (read_step_ranges s pt)) hss at) ≡ verdict_of (times (sum_of (sum_of ranges_of_step) hss) (read_range s pt true) at)
  sequences_row hss at = each_times (each (read_step_ranges s pt)) (read_range s pt true) (sum_of ranges_of_step) steps_row hss at

bin-row : (s : List ℕ) (ps : List Point) (b q p m k at : ℕ) → k ≡ byte_sum s 1 q m
    → verdict_of (times (byte_sum s 3 p k) (read_range s (get_or ps (byte s b) no_point) true) at) ≡ verdict_of (read_transition_ranges s ps (with_owned (transition_head s b) (sequence_heads_at s q p m)) at)
unfolding read_transition_ranges
bin-row s ps b q p m k at e =
    let pt = get_or ps (byte s b) no_point in
    ap (λ (n : ℕ). verdict_of (times n (read_range s pt true) at)) (ap (byte_sum s 3 p) e ∙ sym (ranges_are s q p m))
    ∙ sym (sequences_row s pt (sequence_heads_at s q p m) at)
    ∙ bind_done (each (each (read_step_ranges s pt)) (sequence_heads_at s q p m)) _ at _ refl

-- ---- a loop over the bins

module _ (s : List ℕ) (ps : List Point) where
  pub bins_start : (n b q p at : ℕ)
      → verdict_of (each (read_transition_ranges s ps) (transition_heads_at s b q p n) at) ≡ verdict_of (each (read_transition_ranges s ps) (transition_heads_at s b q p (n - 0)) at)
  bins_start n b q p at = rw sub-zero

  module _ (n i b q p at : ℕ) (x : Verdict) (inv : x ≡ verdict_of (each (read_transition_ranges s ps) (transition_heads_at s b q p (n - i)) at)) where
    pub bins_done : n ≤ i → Ok at ≡ x
    unfolding transition_heads_at
    bins_done h = owners_done (read_transition_ranges s ps) _ at x inv (ap (transition_heads_at s b q p) (none_left n i h))

    module _ (m k : ℕ) (h : i < n) (em : m ≡ byte s (b + 3)) (ek : k ≡ byte_sum s 1 q m) where
      first-is : (r : Verdict) → r ≡ verdict_of (times (byte_sum s 3 p k) (read_range s (get_or ps (byte s b) no_point) true) at)
          → r ≡ verdict_of (read_transition_ranges s ps (with_owned (transition_head s b) (sequence_heads_at s q p (byte s (b + 3)))) at)
      first-is r e = e ∙ bin-row s ps b q p (byte s (b + 3)) k at (ek ∙ ap (byte_sum s 1 q) em)

      pub bins-stop : (f : Fault) → Err f ≡ verdict_of (times (byte_sum s 3 p k) (read_range s (get_or ps (byte s b) no_point) true) at) → Err f ≡ x
      unfolding transition_heads_at
      bins-stop f e = owners_stop (read_transition_ranges s ps) _ at x inv _ _ f (ap (transition_heads_at s b q p) (one_left n i h)) (first-is (Err f) e)

      pub bins_on : (next : ℕ) → Ok next ≡ verdict_of (times (byte_sum s 3 p k) (read_range s (get_or ps (byte s b) no_point) true) at)
          → x ≡ verdict_of (each (read_transition_ranges s ps) (transition_heads_at s (b + 4) (q + m) (p + 3 * k) (n - (i + 1))) next)
      unfolding transition_heads_at
      bins_on next e =
          owners_on (read_transition_ranges s ps) _ at x inv _ _ next (ap (transition_heads_at s b q p) (one_left n i h)) (first-is (Ok next) e)
          ∙ ap₂ (λ (m k : ℕ). verdict_of (each (read_transition_ranges s ps) (transition_heads_at s (b + 4) (q + m) (p + 3 * k) (n - (i + 1))) next)) (sym em)
          (steps_are s q (byte s (b + 3)) ∙ sym (ek ∙ ap (byte_sum s 1 q) em))

pub ranges_in : (s : List ℕ) (pt : Point) (n at end : ℕ) → at ≤ length s → Ok end ≡ verdict_of (times n (read_range s pt true) at) → end ≤ length s
unfolding read_range
ranges_in s pt n at end h e = times_in s 17 (range_tests s pt true) (range_record s) n at end h e

pub ruleset ranges_each = (rules, point_below_lem, ranges_in, bins_start, bins_done, bins-stop, bins_on)

-- ---- the section

module _ (s : List ℕ) (ps : List Point) (b q p n at sequences steps sum : ℕ)
    (many : sequences ≡ byte_sum s 4 (b + 3) n) (more : steps ≡ byte_sum s 1 q sequences) (own : sum ≡ byte_sum s 3 p steps) where
  total_is : sum ≡ sum_of step_ranges_owned (transition_heads_at s b q p n)
  total_is = own ∙ ap (byte_sum s 3 p) (more ∙ ap (byte_sum s 1 q) many) ∙ range-total s n b q p

  pub section_stop : (f : Fault) → Err f ≡ verdict_of (owned_count s 512 sum at) → Err f ≡ verdict_of (read_step_range_section s ps (transition_heads_at s b q p n) at)
  unfolding read_step_range_section
  section_stop f e = count_stop s 512 at sum _ _ total_is f e

  pub section_on : (next : ℕ) (y : Verdict) → Ok next ≡ verdict_of (owned_count s 512 sum at) → y ≡ verdict_of (each (read_transition_ranges s ps) (transition_heads_at s b q p n) next)
      → y ≡ verdict_of (read_step_range_section s ps (transition_heads_at s b q p n) at)
  unfolding read_step_range_section
  section_on next y e h = count_on s 512 at sum _ _ total_is next y e h

pub ruleset step_range_section = (rules, record_in, section_stop, section_on)

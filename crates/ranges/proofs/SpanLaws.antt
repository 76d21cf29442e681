-- Spans that are tested lightly: where the tests pass, reading them finds no fault.
-- Assumes nothing.
use Rattle.std.proofs.Common.{Ok, ◌≡◌, ℕ, zero, suc, ◌+◌, ◌-◌, ◌*◌, ◌<◌, ◌≤◌, Bool, true, false, not, ◌&&◌, eqb, leb, List, length, sym, refl, ap, ◌∙◌, arith, rules, leb-true}
use native.Mathlib.Nat.{sub-zero}
use Rattle.model.specs.Format.{byte, u64, times, read_range, range_tests, range_record, range_rules, value_tests, point_record}
use Rattle.model.proofs.Booleans.{and_left, and_right, false-true}
use Rattle.model.proofs.Lists.{none_left, one_left}
use Rattle.words.specs.Verdicts.{Verdict, verdict_of, verdict_in}
use Rattle.words.proofs.Laws.{record_whole, verdict-cons_on}
use Rattle.ranges.specs.Types.{typed, value_at, power_of, lowest_of, limits_of, end_tests, all_pass, span_in, spans_in, sound_spans}
use Rattle.ranges.specs.declared.Limits.{Limits}
use Rattle.ranges.proofs.RangeLaws.{range-typed}

-- ---- the loop

module _ (s : List ℕ) (l : Limits) where
  pub spans_start : (m at : ℕ) → spans_in s l m at ≡ spans_in s l (m - 0) at
  spans_start m at = rw sub-zero

  module _ (m i at : ℕ) (x : Bool) (inv : x ≡ spans_in s l (m - i) at) where
    pub spans-done : m ≤ i → true ≡ x
    unfolding spans_in
    spans-done h = sym (rw (none_left m i h) at inv)

    spans_step : (r : Bool) → i < m → r ≡ span_in s l at → x ≡ (r && spans_in s l (m - (i + 1)) (at + 17))
    unfolding spans_in
    spans_step r h e = (rw (one_left m i h) at inv) ∙ ap (◌&& spans_in s l (m - (i + 1)) (at + 17)) (sym e)

    pub spans-stop : (r : Bool) → i < m → r ≡ span_in s l at → not r ≡ true → false ≡ x
    spans-stop true h e z = absurd (false-true z)
    spans-stop false h e z = sym (spans_step false h e)

    pub spans_on : (r : Bool) → i < m → r ≡ span_in s l at → not r ≡ false → x ≡ spans_in s l (m - (i + 1)) (at + 17)
    spans_on true h e z = spans_step true h e
    spans_on false h e z = absurd (false-true (sym z))

pub ruleset spanss = (rules, spans_start, spans-done, spans-stop, spans_on)

-- ---- what it says

module _ (s : List ℕ) (width : ℕ) (signed patterns : Bool) where
  -- the tests of one
  span_passes : (a b kind at : ℕ) (rest : Verdict) → (eqb kind 0 && all_pass (end_tests (limits_of width signed) a b)) ≡ true → rest ≡ verdict_in (range_rules (typed width signed) patterns kind a b at) rest
  unfolding range_rules value_tests verdict_in end_tests limits_of lowest_of power_of value_at
  span_passes a b kind at rest h =
      let e = end_tests (limits_of width signed) a b in
      let both = and_right (eqb kind 0) (all_pass e) h in
      let two = and_left (e.first && e.last) e.ordered both in
      let k : eqb kind 0 ≡ true = and_left (eqb kind 0) (all_pass e) h in
      let first : e.first ≡ true = and_left e.first e.last two in
      let last : e.last ≡ true = and_right e.first e.last two in
      let ordered : e.ordered ≡ true = and_right (e.first && e.last) e.ordered both in
      rw (k, first, last, ordered)

  span_read : (at : ℕ) → at + 17 ≤ length s → span_in s (limits_of width signed) at ≡ true → Ok (at + 17) ≡ verdict_of (read_range s (typed width signed) patterns at)
  unfolding read_range span_in
  span_read at w h = record_whole s 17 (range_tests s (typed width signed) patterns) (range_record s) at (Ok (at + 17)) w (span_passes (u64 s (at + 1)) (u64 s (at + 9)) (byte s at) at (Ok (at + 17)) h)

  spans_read : (n at : ℕ) → at + 17 * n ≤ length s → spans_in s (limits_of width signed) n at ≡ true → Ok (at + 17 * n) ≡ verdict_of (times n (read_range s (typed width signed) patterns) at)
  unfolding spans_in times verdict_of
  spans_read zero at w h = ap (λ (x : ℕ). Ok x) (let y : at + 17 * 0 ≡ at = omega arith in y)
  spans_read (suc n) at w h =
      let one = read_range s (typed width signed) patterns in
      let l = limits_of width signed in
      let e : Ok (at + 17) ≡ verdict_of (one at) = span_read at (omega arith) (and_left (span_in s l at) (spans_in s l n (at + 17)) h) in
      ap (λ (x : ℕ). Ok x) (let y : at + 17 * suc n ≡ at + 17 + 17 * n = omega arith in y)
      ∙ spans_read n (at + 17) (omega arith) (and_right (span_in s l at) (spans_in s l n (at + 17)) h)
      ∙ sym (verdict-cons_on (one at) (times n one) (at + 17) e)

-- where they are spans of a point's, no range of them has a fault
pub sound-read : (s : List ℕ) (point n at : ℕ) (patterns : Bool) (r : Verdict) → sound_spans s point n at ≡ true → r ≡ Ok (at + 17 * n)
    → r ≡ verdict_of (times n (read_range s (point_record s point) patterns) at)
unfolding sound_spans
sound-read s point n at patterns r h e =
    let l = limits_of (byte s point) (eqb (byte s (point + 1)) 1) in
    e ∙ spans_read s (byte s point) (eqb (byte s (point + 1)) 1) patterns n at (leb-true _ _ (and_left (leb (at + 17 * n) (length s)) (spans_in s l n at) h))
    (and_right (leb (at + 17 * n) (length s)) (spans_in s l n at) h)
    ∙ (rw (range-typed s (point_record s point) patterns))

-- Sections 4 to 7 by their places: what was got of them is what `Raw` says.
-- Assumes nothing.
use mathlib.Core.Path.{◌≡◌, refl, sym, ap, ◌∙◌}
use mathlib.Core.Bool.{true}
use mathlib.Core.List.{List, []}
use Prim.Native.Nat.{ℕ, zero, suc, ◌+◌, ◌*◌, ◌≤◌}
use native.Mathlib.Omega.{arith}
use lib.ListN.{length, get_or}
use Rattle.model.specs.Lists.{sum_of}
use Rattle.model.specs.Table.{Point, no_point}
use Rattle.model.specs.Format.{times, each, byte, u16, section_count, ranges_of_step, sequences_owned, steps_owned, step_ranges_owned, with_owned, transition_tests, transition_head, read_transition, read_sequence, read_sequences, step_tests, step_head, read_step, read_steps, read_bin_steps, range_tests, range_record, read_range, read_step_ranges, read_transition_ranges, read_transition_section, read_sequence_section, read_step_section, read_step_range_section, read_transition_bins}
use Rattle.model.specs.Raw.{rows, lengths_at, step_total, length_heads_at, step_heads_at, sequence_heads_at, transition_heads_at, range_total, step_at, steps_at, sequences_at, transition_at, transitions_at}
use Rattle.model.proofs.Readers.{got-tested, done_elim}
use Rattle.model.proofs.RawLaws.{Says, says-to, says_map, rows-add, sum-append, says_bind, says-owned, says_record, says-cons, says-got, says-times}

-- ---- section 4

pub transitions_raw : (s : List ℕ) (points at : ℕ) → Says (read_transition_section s points at) (rows (transition_head s) 4 (at + 2) (u16 s at)) (at + 2 + 4 * u16 s at) (length s)
unfolding read_transition_section read_transition
transitions_raw s points at =
    says_bind (section_count s 0 64) _ at (u16 s at) (at + 2) _ _ (length s) (says_record s 2 _ (u16 s) at)
    (λ h. says-times s 4 (transition_tests s points) (transition_head s) (u16 s at) (at + 2) h)

-- ---- section 5

bin-sequences : (s : List ℕ) (b q : ℕ) → q ≤ length s
    → Says (read_sequences s (transition_head s b) q) (with_owned (transition_head s b) (lengths_at s q (byte s (b + 3)))) (q + byte s (b + 3)) (length s)
unfolding read_sequences read_sequence
bin-sequences s b q h =
    let m = byte s (b + 3) in
    says_map (times m (read_sequence s)) (with_owned (transition_head s b)) q (lengths_at s q m) (q + m) (length s)
    (says-to _ _ _ _ _ (let y : q + 1 * m ≡ q + m = omega arith in y) (says-times s 1 _ (byte s) m q h))

sequences-each : (s : List ℕ) (n b q : ℕ) → q ≤ length s
    → Says (each (read_sequences s) (rows (transition_head s) 4 b n) q) (length_heads_at s b q n) (q + sum_of sequences_owned (rows (transition_head s) 4 b n)) (length s)
unfolding each rows length_heads_at sum_of
sequences-each s zero b q h = says-to _ _ _ _ _ (let y : q ≡ q + 0 = omega arith in y) (says-got [] q (length s) h)
sequences-each s (suc n) b q h =
    let m = byte s (b + 3) in
    says-to _ _ _ _ _ (let y : q + m + sum_of sequences_owned (rows (transition_head s) 4 (b + 4) n) ≡ q + (m + sum_of sequences_owned (rows (transition_head s) 4 (b + 4) n)) = omega arith in y)
    (says-cons (read_sequences s (transition_head s b) q) (each (read_sequences s) (rows (transition_head s) 4 (b + 4) n)) _ (q + m) _ _ (length s)
    (bin-sequences s b q h)
    (λ l. sequences-each s n (b + 4) (q + m) l))

pub sequences_raw : (s : List ℕ) (b n at : ℕ) → Says (read_sequence_section s (rows (transition_head s) 4 b n) at) (length_heads_at s b (at + 2) n) (at + 2 + u16 s at) (length s)
unfolding read_sequence_section
sequences_raw s b n at =
    says-owned s 64 (sum_of sequences_owned (rows (transition_head s) 4 b n)) _ at _ _ (length s) refl
    (λ e h. says-to _ _ _ _ _ (ap (at + 2 +◌) (sym e)) (sequences-each s n b (at + 2) h))

-- ---- section 6

pub steps_says : (s : List ℕ) (k p : ℕ) → p ≤ length s → Says (read_steps s k p) (step_heads_at s p k) (p + 3 * k) (length s)
unfolding read_steps read_step
steps_says s k p h =
    says_bind (times k (read_step s)) _ p (step_heads_at s p k) (p + 3 * k) _ _ (length s) (says-times s 3 (step_tests s) (step_head s) k p h)
    (λ l b next e. let y = done_elim (got-tested _ _ e).1 in (sym y.0, sym y.1, l))

sequence-steps : (s : List ℕ) (m q p : ℕ) → p ≤ length s → Says (each (read_steps s) (lengths_at s q m) p) (sequence_heads_at s q p m) (p + 3 * step_total s q m) (length s)
unfolding each rows sequence_heads_at step_total sum_of
sequence-steps s zero q p h = says-to _ _ _ _ _ (let y : p ≡ p + 3 * 0 = omega arith in y) (says-got [] p (length s) h)
sequence-steps s (suc m) q p h =
    let k = byte s q in
    let rest = step_total s (q + 1) m in
    says-to _ _ _ _ _ (let y : p + 3 * k + 3 * rest ≡ p + 3 * (k + rest) = omega arith in y)
    (says-cons (read_steps s k p) (each (read_steps s) (lengths_at s (q + 1) m)) _ (p + 3 * k) _ _ (length s) (steps_says s k p h)
    (λ l. sequence-steps s m (q + 1) (p + 3 * k) l))

bin-steps : (s : List ℕ) (b q p m : ℕ) → p ≤ length s
    → Says (read_bin_steps s (with_owned (transition_head s b) (lengths_at s q m)) p) (with_owned (transition_head s b) (sequence_heads_at s q p m)) (p + 3 * step_total s q m) (length s)
unfolding read_bin_steps
bin-steps s b q p m h = says_map (each (read_steps s) (lengths_at s q m)) (with_owned (transition_head s b)) p (sequence_heads_at s q p m) _ (length s) (sequence-steps s m q p h)

steps-each : (s : List ℕ) (n b q p : ℕ) → p ≤ length s
    → Says (each (read_bin_steps s) (length_heads_at s b q n) p) (transition_heads_at s b q p n) (p + 3 * sum_of steps_owned (length_heads_at s b q n)) (length s)
unfolding each length_heads_at transition_heads_at sum_of step_total
steps-each s zero b q p h = says-to _ _ _ _ _ (let y : p ≡ p + 3 * 0 = omega arith in y) (says-got [] p (length s) h)
steps-each s (suc n) b q p h =
    let m = byte s (b + 3) in
    let k = step_total s q m in
    let rest = sum_of steps_owned (length_heads_at s (b + 4) (q + m) n) in
    says-to _ _ _ _ _ (let y : p + 3 * k + 3 * rest ≡ p + 3 * (k + rest) = omega arith in y)
    (says-cons (read_bin_steps s (with_owned (transition_head s b) (lengths_at s q m)) p) (each (read_bin_steps s) (length_heads_at s (b + 4) (q + m) n)) _ (p + 3 * k) _ _ (length s)
    (bin-steps s b q p m h)
    (λ l. steps-each s n (b + 4) (q + m) (p + 3 * k) l))

pub steps_raw : (s : List ℕ) (b q n at : ℕ) → Says (read_step_section s (length_heads_at s b q n) at) (transition_heads_at s b q (at + 2) n) (at + 2 + 3 * u16 s at) (length s)
unfolding read_step_section
steps_raw s b q n at =
    says-owned s 256 (sum_of steps_owned (length_heads_at s b q n)) _ at _ _ (length s) refl
    (λ e h. says-to _ _ _ _ _ (ap (λ (x : ℕ). at + 2 + 3 * x) (sym e)) (steps-each s n b q (at + 2) h))

-- ---- section 7

-- how many ranges the steps of m sequences have
pub bin-range-total : (s : List ℕ) (m q p : ℕ) → sum_of (sum_of ranges_of_step) (sequence_heads_at s q p m) ≡ range_total s p (step_total s q m)
unfolding sequence_heads_at range_total step_total rows sum_of
bin-range-total s zero q p = refl
bin-range-total s (suc m) q p =
    ap (sum_of ranges_of_step (step_heads_at s p (byte s q)) +◌) (bin-range-total s m (q + 1) (p + 3 * byte s q))
    ∙ sym (sum-append ranges_of_step (step_heads_at s p (byte s q)) (step_heads_at s (p + 3 * byte s q) (step_total s (q + 1) m)))
    ∙ ap (sum_of ranges_of_step) (sym (rows-add (step_head s) 3 p (byte s q) (step_total s (q + 1) m)))

module _ (s : List ℕ) (pt : Point) where
  step_ranges : (p r : ℕ) → r ≤ length s → Says (read_step_ranges s pt (step_head s p) r) (step_at s p r) (r + 17 * byte s p) (length s)
  unfolding read_step_ranges read_range
  step_ranges p r h = says_map (times (byte s p) (read_range s pt true)) _ r _ _ (length s) (says-times s 17 (range_tests s pt true) (range_record s) (byte s p) r h)

  steps_ranges : (k p r : ℕ) → r ≤ length s → Says (each (read_step_ranges s pt) (step_heads_at s p k) r) (steps_at s p r k) (r + 17 * range_total s p k) (length s)
  unfolding each rows steps_at range_total sum_of
  steps_ranges zero p r h = says-to _ _ _ _ _ (let y : r ≡ r + 17 * 0 = omega arith in y) (says-got [] r (length s) h)
  steps_ranges (suc k) p r h =
      let n = byte s p in
      let rest = range_total s (p + 3) k in
      says-to _ _ _ _ _ (let y : r + 17 * n + 17 * rest ≡ r + 17 * (n + rest) = omega arith in y)
      (says-cons (read_step_ranges s pt (step_head s p) r) (each (read_step_ranges s pt) (step_heads_at s (p + 3) k)) _ (r + 17 * n) _ _ (length s)
      (step_ranges p r h)
      (λ l. steps_ranges k (p + 3) (r + 17 * n) l))

  sequences_ranges : (m q p r : ℕ) → r ≤ length s
      → Says (each (each (read_step_ranges s pt)) (sequence_heads_at s q p m) r) (sequences_at s q p r m) (r + 17 * sum_of (sum_of ranges_of_step) (sequence_heads_at s q p m)) (length s)
  unfolding each sequence_heads_at sequences_at sum_of range_total
  sequences_ranges zero q p r h = says-to _ _ _ _ _ (let y : r ≡ r + 17 * 0 = omega arith in y) (says-got [] r (length s) h)
  sequences_ranges (suc m) q p r h =
      let k = byte s q in
      let n = range_total s p k in
      let rest = sum_of (sum_of ranges_of_step) (sequence_heads_at s (q + 1) (p + 3 * k) m) in
      says-to _ _ _ _ _ (let y : r + 17 * n + 17 * rest ≡ r + 17 * (n + rest) = omega arith in y)
      (says-cons (each (read_step_ranges s pt) (step_heads_at s p k) r) (each (each (read_step_ranges s pt)) (sequence_heads_at s (q + 1) (p + 3 * k) m)) _ (r + 17 * n) _ _ (length s)
      (steps_ranges k p r h)
      (λ l. sequences_ranges m (q + 1) (p + 3 * k) (r + 17 * n) l))

bin-ranges : (s : List ℕ) (ps : List Point) (b q p r : ℕ) → r ≤ length s
    → Says (read_transition_ranges s ps (with_owned (transition_head s b) (sequence_heads_at s q p (byte s (b + 3)))) r) (transition_at s b q p r)
    (r + 17 * range_total s p (step_total s q (byte s (b + 3)))) (length s)
unfolding read_transition_ranges
bin-ranges s ps b q p r h =
    let m = byte s (b + 3) in
    let pt = get_or ps (byte s b) no_point in
    says_map (each (each (read_step_ranges s pt)) (sequence_heads_at s q p m)) _ r _ _ (length s)
    (says-to _ _ _ _ _ (ap (λ (x : ℕ). r + 17 * x) (bin-range-total s m q p)) (sequences_ranges s pt m q p r h))

ranges-each : (s : List ℕ) (ps : List Point) (n b q p r : ℕ) → r ≤ length s
    → Says (each (read_transition_ranges s ps) (transition_heads_at s b q p n) r) (transitions_at s b q p r n) (r + 17 * sum_of step_ranges_owned (transition_heads_at s b q p n)) (length s)
unfolding each transition_heads_at transitions_at sum_of
ranges-each s ps zero b q p r h = says-to _ _ _ _ _ (let y : r ≡ r + 17 * 0 = omega arith in y) (says-got [] r (length s) h)
ranges-each s ps (suc n) b q p r h =
    let m = byte s (b + 3) in
    let k = step_total s q m in
    let own = sum_of (sum_of ranges_of_step) (sequence_heads_at s q p m) in
    let total : own ≡ range_total s p k = bin-range-total s m q p in
    let rest = sum_of step_ranges_owned (transition_heads_at s (b + 4) (q + m) (p + 3 * k) n) in
    says-to _ _ _ _ _ (let y : r + 17 * range_total s p k + 17 * rest ≡ r + 17 * (own + rest) = omega arith in y)
    (says-cons (read_transition_ranges s ps (with_owned (transition_head s b) (sequence_heads_at s q p m)) r) (each (read_transition_ranges s ps) (transition_heads_at s (b + 4) (q + m) (p + 3 * k) n)) _ (r + 17 * range_total s p k) _ _ (length s)
    (bin-ranges s ps b q p r h)
    (λ l. ranges-each s ps n (b + 4) (q + m) (p + 3 * k) (r + 17 * range_total s p k) l))

pub step-ranges_raw : (s : List ℕ) (ps : List Point) (b q p n at : ℕ)
    → Says (read_step_range_section s ps (transition_heads_at s b q p n) at) (transitions_at s b q p (at + 2) n) (at + 2 + 17 * u16 s at) (length s)
unfolding read_step_range_section
step-ranges_raw s ps b q p n at =
    says-owned s 512 (sum_of step_ranges_owned (transition_heads_at s b q p n)) _ at _ _ (length s) refl
    (λ e h. says-to _ _ _ _ _ (ap (λ (x : ℕ). at + 2 + 17 * x) (sym e)) (ranges-each s ps n b q p (at + 2) h))

-- ---- sections 4 to 7: the counts of sections 5 to 7 stand at q, p and r

pub transition-bins_raw : (s : List ℕ) (ps : List Point) (at : ℕ)
    → let q = at + 2 + 4 * u16 s at in
    let p = q + 2 + u16 s q in
    let r = p + 2 + 3 * u16 s p in
    Says (read_transition_bins s ps at) (transitions_at s (at + 2) (q + 2) (p + 2) (r + 2) (u16 s at)) (r + 2 + 17 * u16 s r) (length s)
unfolding read_transition_bins
transition-bins_raw s ps at =
    let n = u16 s at in
    let q = at + 2 + 4 * n in
    let p = q + 2 + u16 s q in
    let r = p + 2 + 3 * u16 s p in
    says_bind (read_transition_section s (length ps)) _ at (rows (transition_head s) 4 (at + 2) n) q _ _ (length s) (transitions_raw s (length ps) at)
    (λ h. says_bind (read_sequence_section s (rows (transition_head s) 4 (at + 2) n)) _ q (length_heads_at s (at + 2) (q + 2) n) p _ _ (length s) (sequences_raw s (at + 2) n q)
    (λ h. says_bind (read_step_section s (length_heads_at s (at + 2) (q + 2) n)) _ p (transition_heads_at s (at + 2) (q + 2) (p + 2) n) r _ _ (length s) (steps_raw s (at + 2) (q + 2) n p)
    (λ h. step-ranges_raw s ps (at + 2) (q + 2) (p + 2) n r)))

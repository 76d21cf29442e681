-- Sections 4 to 7 by offsets: transition bins, sequences, steps, step ranges.
-- Assumes nothing.
use mathlib.Core.Path.{◌≡◌, refl, sym, ap, ap₂, ◌∙◌, subst, subst₂}
use mathlib.Core.Bool.{true}
use mathlib.Core.List.{List, [], ◌∷◌, map}
use Prim.Native.Nat.{ℕ, zero, suc, ◌+◌, ◌*◌, ◌<◌}
use native.Mathlib.Omega.{arith}
use lib.ListN.{length, take, get_or, length-map, get_or-map}
use Rattle.model.specs.Lists.{sum_of, within}
use Rattle.model.specs.Table.{Point, Step, TransitionBin, Table, no_point, no_transition_bin}
use Rattle.model.specs.Counters.{point_at, transition_bin_at}
use Rattle.model.specs.Format.{Test, got, each, byte, count, disagreement, range_tests, range_record, read_range, TransitionHead, StepHead, with_owned, transition_tests, transition_head, read_transition, read_sequence, read_sequences, step_tests, step_head, read_step, sums_ok, read_steps, read_bin_steps, read_step_ranges, read_transition_ranges}
use Rattle.model.proofs.Readers.{bind_elim, done_elim, got-tested, all_any, Owned, owned, each_back}
use Rattle.model.proofs.Sections.{Layout}
use Rattle.model.proofs.Access.{CountAt, section-count, owned-count, sum-times, Records, records, no_range}
use Rattle.model.proofs.Lists.{map-map}

-- ---- the records of a decoded transition bin

abbrev pub step_head_of : Step → StepHead
step_head_of st = record { ranges = length st.ranges; least = st.least; most = st.most }

abbrev pub head_with : {A : Type 0} → TransitionBin → A → TransitionHead A
head_with b a = record { point = b.point; kind = b.kind; guard = b.guard; owned = a }

abbrev pub no_step : Step
no_step = record { ranges = []; least = 0; most = 0 }

-- how many ranges some steps have, and a bin; how many steps a bin has
unfoldable pub ranges_in : List Step → ℕ
ranges_in ss = sum_of (λ st. length st.ranges) ss

unfoldable pub bin_ranges_in : TransitionBin → ℕ
bin_ranges_in b = sum_of ranges_in b.sequences

unfoldable pub steps_in : TransitionBin → ℕ
steps_in b = sum_of length b.sequences

-- ---- step ranges

module _ (s : List ℕ) (p : Point) where
  StepRecords : ℕ → Step → Type 0
  StepRecords at st = Records s 17 (range_tests s p true) (range_record s) no_range at st.ranges

  record OneStep (h : StepHead) (at next : ℕ) (st : Step) : Type 0 where
    head : h ≡ step_head_of st
    ends : next ≡ at + length st.ranges * 17
    ranges : StepRecords at st

  one_step : (h : StepHead) (at next : ℕ) (st : Step) → read_step_ranges s p h at ≡ got st next → OneStep h at next st
  unfolding read_step_ranges read_range StepRecords
  one_step h at next st e =
      bind_elim _ _ _ e λ rs end e₁ e₂.
      let z = done_elim e₂ in
      let r = records s 17 (range_tests s p true) (range_record s) no_range h.ranges at rs end e₁ in
      subst (OneStep h at next) z.0
      (record { head = ap (λ (n : ℕ). head_from n) (sym r.0); ends = omega (arith, z.1, r.0, r.1); ranges = r.2 })
    where
      head_from : ℕ → StepHead
      head_from n = record { ranges = n; least = h.least; most = h.most }

  -- the steps of a sequence
  record OneSequence (hs : List StepHead) (at next : ℕ) (ss : List Step) : Type 0 where
    heads : hs ≡ map step_head_of ss
    ends : next ≡ at + ranges_in ss * 17
    ranges : (k : ℕ) → k < length ss → StepRecords (at + ranges_in (take k ss) * 17) (get_or ss k no_step)

  one_sequence : (hs : List StepHead) (at next : ℕ) (ss : List Step) → each (read_step_ranges s p) hs at ≡ got ss next → OneSequence hs at next ss
  unfolding ranges_in
  one_sequence hs at next ss e =
      let o = owned (read_step_ranges s p) (λ st. length st.ranges * 17) (step_head_of no_step) no_step (λ h at next st e. (one_step h at next st e).ends) hs at ss next e in
      record {
        heads = each_back (λ h. Unit {0}) step_head_of (read_step_ranges s p) (λ h u at next st e. (one_step h at next st e).head) hs (all_any hs) at ss next e;
        ends = o.ends ∙ ap (at +◌) (sum-times (λ st. length st.ranges) 17 ss);
        ranges = λ k h. subst (λ (n : ℕ). StepRecords (at + n) (get_or ss k no_step)) (sum-times (λ st. length st.ranges) 17 (take k ss))
            (one_step (get_or hs k (step_head_of no_step)) _ _ (get_or ss k no_step) (o.row k h)).ranges;
      }

-- the sequences of a bin
record OneBin (s : List ℕ) (ps : List Point) (h : TransitionHead (List (List StepHead))) (at next : ℕ) (b : TransitionBin) : Type 0 where
  head : h ≡ head_with b (map (map step_head_of) b.sequences)
  ends : next ≡ at + bin_ranges_in b * 17
  ranges : (q : ℕ) → q < length b.sequences → (k : ℕ) → k < length (get_or b.sequences q [])
      → Records s 17 (range_tests s (get_or ps b.point no_point) true) (range_record s) no_range
      (at + sum_of ranges_in (take q b.sequences) * 17 + ranges_in (take k (get_or b.sequences q [])) * 17) (get_or (get_or b.sequences q []) k no_step).ranges

one-bin : (s : List ℕ) (ps : List Point) (h : TransitionHead (List (List StepHead))) (at next : ℕ) (b : TransitionBin) → read_transition_ranges s ps h at ≡ got b next → OneBin s ps h at next b
unfolding read_transition_ranges bin_ranges_in StepRecords
one-bin s ps h at next b e =
    let p = get_or ps h.point no_point in
    bind_elim _ _ _ e λ sss end e₁ e₂.
    let z = done_elim e₂ in
    let o = owned (each (read_step_ranges s p)) (λ ss. ranges_in ss * 17) [] [] (λ hs at next ss e. (one_sequence s p hs at next ss e).ends) h.owned at sss end e₁ in
    subst (OneBin s ps h at next) z.0
    (record {
      head = ap (λ (x : List (List StepHead)). head_from x)
          (each_back (λ hs. Unit {0}) (map step_head_of) (each (read_step_ranges s p)) (λ hs u at next ss e. (one_sequence s p hs at next ss e).heads) h.owned (all_any h.owned) at sss end e₁);
      ends = sym z.1 ∙ o.ends ∙ ap (at +◌) (sum-times ranges_in 17 sss);
      ranges = λ q hq k hk. subst (λ (n : ℕ). Records s 17 (range_tests s p true) (range_record s) no_range (at + n + ranges_in (take k (get_or sss q [])) * 17) (get_or (get_or sss q []) k no_step).ranges)
          (sum-times ranges_in 17 (take q sss))
          ((one_sequence s p (get_or h.owned q []) _ _ (get_or sss q []) (o.row q hq)).ranges k hk);
    })
  where
    head_from : List (List StepHead) → TransitionHead (List (List StepHead))
    head_from x = record { point = h.point; kind = h.kind; guard = h.guard; owned = x }

-- ---- steps

abbrev no_step_head : StepHead
no_step_head = step_head_of no_step

-- the steps of a sequence, and those of a bin
record SequenceSteps (s : List ℕ) (n at next : ℕ) (hs : List StepHead) : Type 0 where
  counted : n ≡ length hs
  ends : next ≡ at + length hs * 3
  steps : Records s 3 (step_tests s) (step_head s) no_step_head at hs
  sums : sums_ok hs ≡ true

sequence-steps : (s : List ℕ) (n at next : ℕ) (hs : List StepHead) → read_steps s n at ≡ got hs next → SequenceSteps s n at next hs
unfolding read_steps read_step
sequence-steps s n at next hs e =
    bind_elim _ _ _ e λ hs' end e₁ e₂.
    let g = got-tested ((sums_ok hs', disagreement, _) ∷ []) (got hs' end) e₂ in
    let z = done_elim g.1 in
    let r = records s 3 (step_tests s) (step_head s) no_step_head n at hs' end e₁ in
    subst (SequenceSteps s n at next) z.0 (record { counted = sym r.0; ends = omega (arith, z.1, r.0, r.1); steps = r.2; sums = g.0.0 })

record BinSteps (s : List ℕ) (h : TransitionHead (List ℕ)) (at next : ℕ) (b : TransitionHead (List (List StepHead))) : Type 0 where
  head : h ≡ with_owned b (map length b.owned)
  ends : next ≡ at + sum_of length b.owned * 3
  steps : (q : ℕ) → q < length b.owned → Records s 3 (step_tests s) (step_head s) no_step_head (at + sum_of length (take q b.owned) * 3) (get_or b.owned q [])

bin-steps : (s : List ℕ) (h : TransitionHead (List ℕ)) (at next : ℕ) (b : TransitionHead (List (List StepHead))) → read_bin_steps s h at ≡ got b next → BinSteps s h at next b
unfolding read_bin_steps
bin-steps s h at next b e =
    bind_elim _ _ _ e λ hss end e₁ e₂.
    let z = done_elim e₂ in
    let o = owned (read_steps s) (λ hs. length hs * 3) 0 [] (λ n at next hs e. (sequence-steps s n at next hs e).ends) h.owned at hss end e₁ in
    subst (BinSteps s h at next) z.0
    (record {
      head = ap (λ (x : List ℕ). head_from x) (each_back (λ n. Unit {0}) length (read_steps s) (λ n u at next hs e. (sequence-steps s n at next hs e).counted) h.owned (all_any h.owned) at hss end e₁);
      ends = sym z.1 ∙ o.ends ∙ ap (at +◌) (sum-times length 3 hss);
      steps = λ q hq. subst (λ (n : ℕ). Records s 3 (step_tests s) (step_head s) no_step_head (at + n) (get_or hss q [])) (sum-times length 3 (take q hss))
          (sequence-steps s (get_or h.owned q 0) _ _ (get_or hss q []) (o.row q hq)).steps;
    })
  where
    head_from : List ℕ → TransitionHead (List ℕ)
    head_from x = record { point = h.point; kind = h.kind; guard = h.guard; owned = x }

-- ---- sequences

abbrev pub sequence_tests : List ℕ → ℕ → List Test
sequence_tests s at = (within 1 16 (byte s at), count, at) ∷ []

record BinSequences (s : List ℕ) (h : TransitionHead ℕ) (at next : ℕ) (b : TransitionHead (List ℕ)) : Type 0 where
  head : h ≡ with_owned b (length b.owned)
  ends : next ≡ at + length b.owned * 1
  sequences : Records s 1 (sequence_tests s) (byte s) 0 at b.owned

bin-sequences : (s : List ℕ) (h : TransitionHead ℕ) (at next : ℕ) (b : TransitionHead (List ℕ)) → read_sequences s h at ≡ got b next → BinSequences s h at next b
unfolding read_sequences read_sequence
bin-sequences s h at next b e =
    bind_elim _ _ _ e λ ns end e₁ e₂.
    let z = done_elim e₂ in
    let r = records s 1 (sequence_tests s) (byte s) 0 h.owned at ns end e₁ in
    subst (BinSequences s h at next) z.0 (record { head = ap (λ (n : ℕ). head_from n) (sym r.0); ends = omega (arith, z.1, r.0, r.1); sequences = r.2 })
  where
    head_from : ℕ → TransitionHead ℕ
    head_from n = record { point = h.point; kind = h.kind; guard = h.guard; owned = n }

-- ---- sums over mapped lists

module _ {A B : Type 0} (f : B → ℕ) (g : A → B) (h : A → ℕ) (same : (x : A) → f (g x) ≡ h x) where
  pub sum_mapped : (xs : List A) → sum_of f (map g xs) ≡ sum_of h xs
  unfolding sum_of
  sum_mapped [] = refl
  sum_mapped (x ∷ xs) = ap₂ ◌+◌ (same x) (sum_mapped xs)

  pub sum_taken : (i : ℕ) (xs : List A) → sum_of f (take i (map g xs)) ≡ sum_of h (take i xs)
  unfolding sum_of
  sum_taken zero xs = refl
  sum_taken (suc i) [] = refl
  sum_taken (suc i) (x ∷ xs) = ap₂ ◌+◌ (same x) (sum_taken i xs)

-- ---- the sections

abbrev steps_head : TransitionBin → TransitionHead (List (List StepHead))
steps_head b = head_with b (map (map step_head_of) b.sequences)

abbrev lengths_head : TransitionBin → TransitionHead (List ℕ)
lengths_head b = head_with b (map length b.sequences)

-- the record of a transition bin: with its number of sequences
abbrev pub transition_head_of : TransitionBin → TransitionHead ℕ
transition_head_of b = head_with b (length b.sequences)

module _ (s : List ℕ) (t : Table) (end : ℕ) (l : Layout s t end) where
  bins₇ : Owned (read_transition_ranges s t.points) (λ b. bin_ranges_in b * 17) (steps_head no_transition_bin) no_transition_bin
      (λ h at next b e. (one-bin s t.points h at next b e).ends) l.steps l.at₇ t.transition_bins l.next₈
  bins₇ = owned (read_transition_ranges s t.points) (λ b. bin_ranges_in b * 17) (steps_head no_transition_bin) no_transition_bin
      (λ h at next b e. (one-bin s t.points h at next b e).ends) l.steps l.at₇ t.transition_bins l.next₈ l.transition_bins

  steps_known : l.steps ≡ map steps_head t.transition_bins
  steps_known = each_back (λ h. Unit {0}) steps_head (read_transition_ranges s t.points) (λ h u at next b e. (one-bin s t.points h at next b e).head) l.steps (all_any l.steps) l.at₇ t.transition_bins l.next₈ l.transition_bins

  lengths_known : l.lengths ≡ map lengths_head t.transition_bins
  lengths_known =
      each_back (λ h. Unit {0}) (λ b. with_owned b (map length b.owned)) (read_bin_steps s) (λ h u at next b e. (bin-steps s h at next b e).head) l.lengths (all_any l.lengths) l.at₆ l.steps l.next₇ l.steps_read
      ∙ ap (map (λ b. with_owned b (map length b.owned))) steps_known
      ∙ map-map (λ b. with_owned b (map length b.owned)) steps_head lengths_head
      (λ b. ap (head_with b) (map-map length (map step_head_of) length (λ ss. length-map ss step_head_of) b.sequences)) t.transition_bins

  transitions_known : l.transitions ≡ map transition_head_of t.transition_bins
  transitions_known =
      each_back (λ h. Unit {0}) (λ b. with_owned b (length b.owned)) (read_sequences s) (λ h u at next b e. (bin-sequences s h at next b e).head) l.transitions (all_any l.transitions) l.at₅ l.lengths l.next₆ l.lengths_read
      ∙ ap (map (λ b. with_owned b (length b.owned))) lengths_known
      ∙ map-map (λ b. with_owned b (length b.owned)) lengths_head transition_head_of (λ b. ap (head_with b) (length-map b.sequences length)) t.transition_bins

  -- Section 4: the i-th record says the i-th transition bin, and how many sequences it has.
  pub transitions_access : (CountAt s l.next₄ 0 64 (length t.transition_bins) l.at₄) × (l.next₅ ≡ l.at₄ + length t.transition_bins * 4)
      × Records s 4 (transition_tests s (length t.points)) (transition_head s) (transition_head_of no_transition_bin) l.at₄ (map transition_head_of t.transition_bins)
  unfolding read_transition
  transitions_access =
      let r = records s 4 (transition_tests s (length t.points)) (transition_head s) (transition_head_of no_transition_bin) l.count₄ l.at₄ l.transitions l.next₅ l.transitions_read in
      let number : l.count₄ ≡ length t.transition_bins = sym r.0 ∙ ap length transitions_known ∙ length-map t.transition_bins transition_head_of in (
        subst (λ (n : ℕ). CountAt s l.next₄ 0 64 n l.at₄) number (section-count s 0 64 l.next₄ l.count₄ l.at₄ l.counted₄),
        omega (arith, number, r.1),
        subst (Records s 4 (transition_tests s (length t.points)) (transition_head s) (transition_head_of no_transition_bin) l.at₄) transitions_known r.2,
      )

  -- Section 5: the sequences of bin i stand after those of the bins before it, each with its number of steps.
  pub sequences_access : (CountAt s l.next₅ 0 64 (sum_of (λ b. length b.sequences) t.transition_bins) l.at₅)
      × (l.next₆ ≡ l.at₅ + sum_of (λ b. length b.sequences) t.transition_bins * 1)
      × ((i : ℕ) → i < length t.transition_bins
      → Records s 1 (sequence_tests s) (byte s) 0 (l.at₅ + sum_of (λ b. length b.sequences) (take i t.transition_bins) * 1) (map length (transition_bin_at t i).sequences))
  sequences_access =
      let c = owned-count s 64 (sum_of (λ h. h.owned) l.transitions) l.next₅ l.count₅ l.at₅ l.counted₅ in
      let number = c.1 ∙ ap (sum_of (λ h. h.owned)) transitions_known ∙ sum_mapped (λ h. h.owned) transition_head_of (λ b. length b.sequences) (λ b. refl) t.transition_bins in
      let o = owned (read_sequences s) (λ h. length h.owned * 1) (transition_head_of no_transition_bin) (lengths_head no_transition_bin) (λ h at next b e. (bin-sequences s h at next b e).ends) l.transitions l.at₅ l.lengths l.next₆ l.lengths_read in
      let total = ap (sum_of (λ h. length h.owned * 1)) lengths_known ∙ sum_mapped (λ h. length h.owned * 1) lengths_head (λ b. length b.sequences * 1) (λ b. ap (◌* 1) (length-map b.sequences length)) t.transition_bins ∙ sum-times (λ b. length b.sequences) 1 t.transition_bins in (
        subst (λ (n : ℕ). CountAt s l.next₅ 0 64 n l.at₅) number c.0,
        o.ends ∙ ap (l.at₅ +◌) total,
        λ i h. subst₂ (λ (n : ℕ) (xs : List ℕ). Records s 1 (sequence_tests s) (byte s) 0 (l.at₅ + n) xs)
            (sum_taken (λ h. length h.owned * 1) lengths_head (λ b. length b.sequences * 1) (λ b. ap (◌* 1) (length-map b.sequences length)) i t.transition_bins ∙ sum-times (λ b. length b.sequences) 1 (take i t.transition_bins))
            (ap (λ (x : TransitionHead (List ℕ)). x.owned) (get_or-map lengths_head t.transition_bins i no_transition_bin))
            (subst (λ (hs : List (TransitionHead (List ℕ))). Records s 1 (sequence_tests s) (byte s) 0 (l.at₅ + sum_of (λ h. length h.owned * 1) (take i hs)) (get_or hs i (lengths_head no_transition_bin)).owned) lengths_known
            (bin-sequences s (get_or l.transitions i (transition_head_of no_transition_bin)) _ _ (get_or l.lengths i (lengths_head no_transition_bin)) (o.row i (omega (arith, ap length lengths_known, length-map t.transition_bins lengths_head)))).sequences),
      )

  -- Section 7: the ranges of step k of sequence q of bin i.
  pub step_ranges_access : (CountAt s l.next₇ 0 512 (sum_of bin_ranges_in t.transition_bins) l.at₇)
      × (l.next₈ ≡ l.at₇ + sum_of bin_ranges_in t.transition_bins * 17)
      × ((i : ℕ) → i < length t.transition_bins → (let ss = (transition_bin_at t i).sequences in
      (q : ℕ) → q < length ss → (k : ℕ) → k < length (get_or ss q [])
      → Records s 17 (range_tests s (point_at t (transition_bin_at t i).point) true) (range_record s) no_range
      (l.at₇ + sum_of bin_ranges_in (take i t.transition_bins) * 17 + sum_of ranges_in (take q ss) * 17 + ranges_in (take k (get_or ss q [])) * 17) (get_or (get_or ss q []) k no_step).ranges))
  step_ranges_access =
      let c = owned-count s 512 (sum_of (λ h. sum_of (sum_of (λ st. st.ranges)) h.owned) l.steps) l.next₇ l.count₇ l.at₇ l.counted₇ in
      let number = c.1 ∙ ap (sum_of (λ h. sum_of (sum_of (λ st. st.ranges)) h.owned)) steps_known
      ∙ sum_mapped (λ h. sum_of (sum_of (λ st. st.ranges)) h.owned) steps_head bin_ranges_in same-ranges t.transition_bins in (
        subst (λ (n : ℕ). CountAt s l.next₇ 0 512 n l.at₇) number c.0,
        bins₇.ends ∙ ap (l.at₇ +◌) (sum-times bin_ranges_in 17 t.transition_bins),
        λ i h q hq k hk. subst (λ (n : ℕ). Records s 17 (range_tests s (point_at t (transition_bin_at t i).point) true) (range_record s) no_range
            (l.at₇ + n + sum_of ranges_in (take q (transition_bin_at t i).sequences) * 17 + ranges_in (take k (get_or (transition_bin_at t i).sequences q [])) * 17) (get_or (get_or (transition_bin_at t i).sequences q []) k no_step).ranges)
            (sum-times bin_ranges_in 17 (take i t.transition_bins))
            ((one-bin s t.points (get_or l.steps i (steps_head no_transition_bin)) _ _ (transition_bin_at t i) (bins₇.row i h)).ranges q hq k hk),
      )
    where
      same-ranges : (b : TransitionBin) → sum_of (sum_of (λ st. st.ranges)) (map (map step_head_of) b.sequences) ≡ bin_ranges_in b
      same-ranges b = unfold bin_ranges_in ranges_in in (
          sum_mapped (sum_of (λ st. st.ranges)) (map step_head_of) (sum_of (λ st. length st.ranges))
          (λ ss. sum_mapped (λ st. st.ranges) step_head_of (λ st. length st.ranges) (λ st. refl) ss) b.sequences)

  -- Section 6: the steps of sequence q of bin i, each with its number of ranges.
  pub steps_access : (CountAt s l.next₆ 0 256 (sum_of steps_in t.transition_bins) l.at₆)
      × (l.next₇ ≡ l.at₆ + sum_of steps_in t.transition_bins * 3)
      × ((i : ℕ) → i < length t.transition_bins → (let ss = (transition_bin_at t i).sequences in
      (q : ℕ) → q < length ss
      → Records s 3 (step_tests s) (step_head s) (step_head_of no_step) (l.at₆ + sum_of steps_in (take i t.transition_bins) * 3 + sum_of length (take q ss) * 3) (map step_head_of (get_or ss q []))))
  steps_access =
      let c = owned-count s 256 (sum_of (λ h. sum_of (λ n. n) h.owned) l.lengths) l.next₆ l.count₆ l.at₆ l.counted₆ in
      let number = c.1 ∙ ap (sum_of (λ h. sum_of (λ n. n) h.owned)) lengths_known
      ∙ sum_mapped (λ h. sum_of (λ n. n) h.owned) lengths_head steps_in same-lengths t.transition_bins in
      let o = owned (read_bin_steps s) (λ h. sum_of length h.owned * 3) (lengths_head no_transition_bin) (steps_head no_transition_bin) (λ h at next b e. (bin-steps s h at next b e).ends) l.lengths l.at₆ l.steps l.next₇ l.steps_read in
      let total = ap (sum_of (λ h. sum_of length h.owned * 3)) steps_known
      ∙ sum_mapped (λ h. sum_of length h.owned * 3) steps_head (λ b. steps_in b * 3) (λ b. ap (◌* 3) (same-steps b)) t.transition_bins ∙ sum-times steps_in 3 t.transition_bins in (
        subst (λ (n : ℕ). CountAt s l.next₆ 0 256 n l.at₆) number c.0,
        o.ends ∙ ap (l.at₆ +◌) total,
        λ i h q hq.
            let b = transition_bin_at t i in
            let found = subst (λ (hs : List (TransitionHead (List (List StepHead)))). (q : ℕ) → q < length (get_or hs i (steps_head no_transition_bin)).owned
            → Records s 3 (step_tests s) (step_head s) (step_head_of no_step) (l.at₆ + sum_of (λ h. sum_of length h.owned * 3) (take i hs) + sum_of length (take q (get_or hs i (steps_head no_transition_bin)).owned) * 3) (get_or (get_or hs i (steps_head no_transition_bin)).owned q [])) steps_known
            (bin-steps s (get_or l.lengths i (lengths_head no_transition_bin)) _ _ (get_or l.steps i (steps_head no_transition_bin)) (o.row i (omega (arith, ap length steps_known, length-map t.transition_bins steps_head)))).steps in
            let own : (get_or (map steps_head t.transition_bins) i (steps_head no_transition_bin)).owned ≡ map (map step_head_of) b.sequences = ap (λ (x : TransitionHead (List (List StepHead))). x.owned) (get_or-map steps_head t.transition_bins i no_transition_bin) in
            subst₂ (λ (n : ℕ) (xs : List StepHead). Records s 3 (step_tests s) (step_head s) (step_head_of no_step) (l.at₆ + n + sum_of length (take q b.sequences) * 3) xs)
            (sum_taken (λ h. sum_of length h.owned * 3) steps_head (λ b. steps_in b * 3) (λ b. ap (◌* 3) (same-steps b)) i t.transition_bins ∙ sum-times steps_in 3 (take i t.transition_bins))
            (ap (λ (xs : List (List StepHead)). get_or xs q []) own ∙ get_or-map (map step_head_of) b.sequences q [])
            (subst (λ (n : ℕ). Records s 3 (step_tests s) (step_head s) (step_head_of no_step) (l.at₆ + sum_of (λ h. sum_of length h.owned * 3) (take i (map steps_head t.transition_bins)) + n * 3) (get_or (get_or (map steps_head t.transition_bins) i (steps_head no_transition_bin)).owned q []))
            (ap (λ (xs : List (List StepHead)). sum_of length (take q xs)) own ∙ sum_taken length (map step_head_of) length (λ ss. length-map ss step_head_of) q b.sequences)
            (found q (omega (arith, ap length own, length-map b.sequences (map step_head_of))))),
      )
    where
      same-steps : (b : TransitionBin) → sum_of length (map (map step_head_of) b.sequences) ≡ steps_in b
      same-steps b = unfold steps_in in (sum_mapped length (map step_head_of) length (λ ss. length-map ss step_head_of) b.sequences)

      same-lengths : (b : TransitionBin) → sum_of (λ n. n) (map length b.sequences) ≡ steps_in b
      same-lengths b = unfold steps_in in (sum_mapped (λ n. n) length length (λ ss. refl) b.sequences)

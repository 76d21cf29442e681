-- What a table that was read is known to be: its points and value ranges are legal, no sequence takes more than 32 readings,
-- and crosses name points of the table.
-- Assumes nothing.
use mathlib.Core.Path.{◌≡◌, refl, sym, ap, ap₂, ◌∙◌, subst}
use mathlib.Core.Bool.{Bool, true, false, not, ◌&&◌, ◌||◌, cond}
use mathlib.Core.List.{List, [], ◌∷◌, map}
use Prim.Native.Nat.{ℕ, zero, suc, ◌+◌, ◌^◌, ◌≤◌, ◌<◌}
use native.Mathlib.Omega.{arith}
use lib.Dec.{leb, ltb, eqb}
use lib.ListN.{length, get_or}
use lib.Bits.{bit_and}
use borrow.Author.Tests.{leb-true, leb-false, ltb-true, lt-ltb, eqb-true, not-true}
use Rattle.model.specs.Lists.{up_from, sum_of}
use Rattle.model.specs.Table.{Point, Range, span, pattern, ValueBin, Step, TransitionBin, Cross, Table, no_point}
use Rattle.model.specs.Values.{lowest, highest, field_value}
use Rattle.model.specs.Sampling.{run_length}
use Rattle.model.specs.Format.{field, unused, Test, got, each, byte, u16, u32, u64, disagreement, point_tests, point_record, read_point, value_tests, pattern_tests, range_rules, range_tests, range_record, read_range, BinHead, allows_patterns, read_bin_ranges, TransitionHead, StepHead, sums_ok, read_steps, read_bin_steps, read_step_ranges, read_transition_ranges, CrossHead, cross_point_test, cross_tests, cross_head, read_cross, CrossBinHead, CrossParts, read_cross_bins, read_selects, decode, decoded}
use Rattle.model.proofs.Booleans.{and_left, and_right}
use Rattle.model.proofs.Readers.{bind_elim, done_elim, AllPass, all_any, got-tested, got_record, All, Consed, consed, got-cons, times-all, each_all, pass-left}
use Rattle.model.proofs.Sections.{Layout, acceptance}
use Rattle.model.proofs.Lists.{all_row}

-- ---- points

pub record GoodPoint (p : Point) : Type 0 where
  pub wide : 1 ≤ p.width
  pub narrow : p.width ≤ 32
  pub needed : 1 ≤ p.at_least
  pub some_auto : 1 ≤ p.auto_max
  pub few_auto : p.auto_max ≤ 256

within_low : (lo hi n : ℕ) → (leb lo n && leb n hi) ≡ true → lo ≤ n
within_low lo hi n e = leb-true lo n (and_left (leb lo n) (leb n hi) e)

within-high : (lo hi n : ℕ) → (leb lo n && leb n hi) ≡ true → n ≤ hi
within-high lo hi n e = leb-true n hi (and_right (leb lo n) (leb n hi) e)

point-good : (s : List ℕ) (at next : ℕ) (p : Point) → read_point s at ≡ got p next → GoodPoint p
unfolding read_point
point-good s at next p e =
    let r = got_record s 11 (point_tests s) (point_record s) at e in
    let h = r.passed in
    subst GoodPoint r.said
    (record {
      wide = within_low 1 32 (byte s at) h.0;
      narrow = within-high 1 32 (byte s at) h.0;
      needed = leb-true 1 (u32 s (at + 5)) h.1.1.1.0;
      some_auto = within_low 1 256 (u16 s (at + 9)) h.1.1.1.1.0;
      few_auto = within-high 1 256 (u16 s (at + 9)) h.1.1.1.1.0;
    })

-- ---- ranges

-- a span in the point's type; a pattern in its mask, where patterns are allowed
abbrev pub Legal : Point → Bool → Range → Type 0
Legal p patterns (span lo hi) = (lowest p ≤ lo) × (lo ≤ hi) × (hi ≤ highest p)
Legal p patterns (pattern bits mask) = (patterns ≡ true) × (p.signed ≡ false) × (bit_and bits mask ≡ bits) × (mask < 2 ^ p.width)

range-legal : (s : List ℕ) (p : Point) (patterns : Bool) (at : ℕ) → AllPass (range_tests s p patterns at) → Legal p patterns (range_record s at)
unfolding range_rules value_tests pattern_tests
range-legal s p patterns at h = go (eqb (byte s at) 0) h.0 h.1
  where
    a : ℕ
    a = u64 s (at + 1)

    b : ℕ
    b = u64 s (at + 9)

    go : (c : Bool) → (c || (eqb (byte s at) 1 && patterns && not p.signed)) ≡ true
        → AllPass (cond c (value_tests p a b (at + 1)) (pattern_tests p a b (at + 1)))
        → Legal p patterns (cond c (span (field_value a) (field_value b)) (pattern a b))
    go true k h = (
      within_low (lowest p) (highest p) (field_value a) h.0,
      leb-true (field_value a) (field_value b) h.1.1.0,
      within-high (lowest p) (highest p) (field_value b) h.1.0,
    )
    go false k h =
        let allowed = and_left (eqb (byte s at) 1 && patterns) (not p.signed) k in (
          and_right (eqb (byte s at) 1) patterns allowed,
          not-true p.signed (and_right (eqb (byte s at) 1 && patterns) (not p.signed) k),
          eqb-true (bit_and a b) a h.1.1.0,
          ltb-true b (2 ^ p.width) h.1.0,
        )

read-range-legal : (s : List ℕ) (p : Point) (patterns : Bool) (at next : ℕ) (r : Range) → read_range s p patterns at ≡ got r next → Legal p patterns r
unfolding read_range
read-range-legal s p patterns at next r e =
    let h = got_record s 17 (range_tests s p patterns) (range_record s) at e in
    subst (Legal p patterns) h.said (range-legal s p patterns at h.passed)

-- ---- value bins

abbrev pub GoodBin : List Point → ValueBin → Type 0
GoodBin ps b = All (Legal (get_or ps b.point no_point) (allows_patterns b)) b.ranges

bin-good : (s : List ℕ) (ps : List Point) (h : BinHead) (at next : ℕ) (b : ValueBin) → read_bin_ranges s ps h at ≡ got b next → GoodBin ps b
unfolding read_bin_ranges
bin-good s ps h at next b e =
    let p = get_or ps h.bin.point no_point in
    bind_elim _ _ _ e λ rs end e₁ e₂.
    subst (GoodBin ps) (done_elim e₂).0
    (times-all (Legal p (allows_patterns h.bin)) (read_range s p (allows_patterns h.bin)) (read-range-legal s p (allows_patterns h.bin)) h.ranges at rs end e₁)

-- ---- sequences

abbrev most : Step → ℕ
most st = st.most

abbrev head_most : StepHead → ℕ
head_most st = st.most

steps-short : (s : List ℕ) (n at : ℕ) (ss : List StepHead) (end : ℕ) → read_steps s n at ≡ got ss end → sum_of head_most ss ≤ 32
unfolding read_steps
steps-short s n at ss end e =
    bind_elim _ _ _ e λ ss' end' e₁ e₂.
    let h = got-tested ((sums_ok ss', disagreement, _) ∷ []) (got ss' end') e₂ in
    subst (λ (x : List StepHead). sum_of head_most x ≤ 32) (done_elim h.1).0
    (leb-true (sum_of head_most ss') 32 (and_right (leb 2 (sum_of (λ st. st.least) ss')) (leb (sum_of head_most ss') 32) h.0.0))

bin-steps-short : (s : List ℕ) (h : TransitionHead (List ℕ)) (at next : ℕ) (b : TransitionHead (List (List StepHead)))
    → read_bin_steps s h at ≡ got b next → All (λ ss. sum_of head_most ss ≤ 32) b.owned
unfolding read_bin_steps
bin-steps-short s h at next b e =
    bind_elim _ _ _ e λ sss end e₁ e₂.
    subst (λ (x : TransitionHead (List (List StepHead))). All (λ ss. sum_of head_most ss ≤ 32) x.owned) (done_elim e₂).0
    (each_all (λ n. Unit {0}) (λ ss. sum_of head_most ss ≤ 32) (read_steps s) (λ n u at next ss e. steps-short s n at ss next e) h.owned (all_any h.owned) at sss end e₁)

step-most : (s : List ℕ) (p : Point) (h : StepHead) (at next : ℕ) (st : Step) → read_step_ranges s p h at ≡ got st next → h.most ≡ st.most
unfolding read_step_ranges
step-most s p h at next st e = bind_elim _ _ _ e λ rs end e₁ e₂. ap (λ (x : Step). x.most) (done_elim e₂).0

-- the ranges of the steps leave their mosts as they were
mosts-kept : (s : List ℕ) (p : Point) (ss : List StepHead) (at : ℕ) (xs : List Step) (end : ℕ) → each (read_step_ranges s p) ss at ≡ got xs end → sum_of head_most ss ≡ sum_of most xs
unfolding each sum_of
mosts-kept s p [] at xs end e = let z : [] ≡ xs = cc in ap (sum_of most) z
mosts-kept s p (h ∷ ss) at xs end e = go (λ next others. mosts-kept s p ss next others end) (got-cons (read_step_ranges s p h at) (each (read_step_ranges s p) ss) e)
  where
    go : ((next : ℕ) (others : List Step) → each (read_step_ranges s p) ss next ≡ got others end → sum_of head_most ss ≡ sum_of most others)
        → Consed (read_step_ranges s p h at) (each (read_step_ranges s p) ss) xs end → h.most + sum_of head_most ss ≡ sum_of most xs
    go ih (consed st next others e₁ e₂ z) = ap₂ ◌+◌ (step-most s p h at next st e₁) (ih next others e₂) ∙ ap (sum_of most) z

abbrev pub Short : TransitionBin → Type 0
Short b = All (λ ss. run_length ss ≤ 32) b.sequences

transition-short : (s : List ℕ) (ps : List Point) (h : TransitionHead (List (List StepHead))) → All (λ ss. sum_of head_most ss ≤ 32) h.owned
    → (at next : ℕ) (b : TransitionBin) → read_transition_ranges s ps h at ≡ got b next → Short b
unfolding read_transition_ranges
transition-short s ps h short at next b e =
    let p = get_or ps h.point no_point in
    bind_elim _ _ _ e λ sss end e₁ e₂.
    subst Short (done_elim e₂).0
    (each_all (λ ss. sum_of head_most ss ≤ 32) (λ ss. run_length ss ≤ 32) (each (read_step_ranges s p))
    (λ ss k at next xs e. subst (λ (n : ℕ). n ≤ 32) (mosts-kept s p ss at xs next e) k)
    h.owned short at sss end e₁)

-- ---- crosses

-- the points of a cross are points of the table
abbrev pub InPoints : ℕ → List ℕ → Type 0
InPoints n ps = All (λ p. p < n) ps

pass-row : (f : ℕ → Test) (i m : ℕ) → AllPass (map f (up_from i m)) → (j : ℕ) → i ≤ j → j < i + m → (f j).0 ≡ true
unfolding up_from
pass-row f i zero h j lo hi = absurd (omega arith)
pass-row f i (suc m) h j lo hi = go (leb j i) refl (pass-row f (suc i) m h.1 j)
  where
    go : (b : Bool) → leb j i ≡ b → (suc i ≤ j → j < suc i + m → (f j).0 ≡ true) → (f j).0 ≡ true
    go true e k = let z : i ≡ j = omega (arith, leb-true j i e) in ap (λ (x : ℕ). (f x).0) (sym z) ∙ h.0
    go false e k = k (leb-false j i e) (omega arith)

cross-points : (s : List ℕ) (points at next : ℕ) (h : CrossHead) → read_cross s points at ≡ got h next → InPoints points h.points
unfolding read_cross
cross-points s points at next h e =
    let r = got_record s 13 (cross_tests s points) (cross_head s) at e in
    let n = byte s at in
    let four = within-high 2 4 n r.passed.0 in
    let passed = pass-row (cross_point_test s points at) 0 4 (pass-left (map (cross_point_test s points at) (up_from 0 4)) _ r.passed.1) in
    subst (λ (x : CrossHead). InPoints points x.points) r.said
    (all_row (λ p. p < points) (λ i. byte s (at + 1 + i)) 0 n λ j lo hi. one j (lt-ltb j n (omega arith)) (passed j lo (omega arith)))
  where
    one : (j : ℕ) → ltb j (byte s at) ≡ true → (cross_point_test s points at j).0 ≡ true → byte s (at + 1 + j) < points
    one j e k = ltb-true (byte s (at + 1 + j)) points (sym (ap (λ (b : Bool). (cond b (tested-field j) (unused-field j)).0) e) ∙ k)
      where
        tested-field : ℕ → Test
        tested-field j = (ltb (byte s (at + 1 + j)) points, field, at + 1 + j)

        unused-field : ℕ → Test
        unused-field j = (eqb (byte s (at + 1 + j)) 255, unused, at + 1 + j)

parts-points : (s : List ℕ) (n : ℕ) (h : CrossHead) → InPoints n h.points → (at next : ℕ) (c : CrossParts CrossBinHead) → read_cross_bins s h at ≡ got c next → InPoints n c.head.points
unfolding read_cross_bins
parts-points s n h good at next c e =
    bind_elim _ _ _ e λ bs end e₁ e₂. subst (λ (x : CrossParts CrossBinHead). InPoints n x.head.points) (done_elim e₂).0 good

select-points : (s : List ℕ) (ps : List Point) (bins : List BinHead) (n : ℕ) (c : CrossParts CrossBinHead) → InPoints n c.head.points
    → (at next : ℕ) (x : Cross) → read_selects s ps bins c at ≡ got x next → InPoints n x.points
unfolding read_selects
select-points s ps bins n c good at next x e = bind_elim _ _ _ e λ bs end e₁ e₂. subst (λ (y : Cross). InPoints n y.points) (done_elim e₂).0 good

-- ---- the table

pub record WellFormed (t : Table) : Type 0 where
  pub points : All GoodPoint t.points
  pub bins : All (GoodBin t.points) t.value_bins
  pub sequences : All Short t.transition_bins
  pub crosses : All (λ c. InPoints (length t.points) c.points) t.crosses

pub layout_well-formed : (s : List ℕ) (t : Table) (end : ℕ) → Layout s t end → WellFormed t
layout_well-formed s t end l =
    record {
      points = times-all GoodPoint (read_point s) (point-good s) l.count₁ l.at₁ t.points l.next₂ l.points;
      bins = each_all (λ h. Unit {0}) (GoodBin t.points) (read_bin_ranges s t.points) (λ h u. bin-good s t.points h) l.heads (all_any l.heads) l.at₃ t.value_bins l.next₄ l.bins;
      sequences = each_all (λ h. All (λ ss. sum_of head_most ss ≤ 32) h.owned) Short (read_transition_ranges s t.points) (transition-short s t.points) l.steps
          (each_all (λ h. Unit {0}) (λ h. All (λ ss. sum_of head_most ss ≤ 32) h.owned) (read_bin_steps s) (λ h u. bin-steps-short s h) l.lengths (all_any l.lengths) l.at₆ l.steps l.next₇ l.steps_read)
          l.at₇ t.transition_bins l.next₈ l.transition_bins;
      crosses = each_all (λ c. InPoints (length t.points) c.head.points) (λ c. InPoints (length t.points) c.points) (read_selects s t.points l.heads) (select-points s t.points l.heads (length t.points)) l.parts
          (each_all (λ h. InPoints (length t.points) h.points) (λ c. InPoints (length t.points) c.head.points) (read_cross_bins s) (parts-points s (length t.points)) l.cross_heads
          (times-all (λ h. InPoints (length t.points) h.points) (read_cross s (length t.points)) (cross-points s (length t.points)) l.count₈ l.at₈ l.cross_heads l.next₉ l.crosses_read)
          l.at₉ l.parts l.next₁₀ l.parts_read)
          l.at₁₀ t.crosses end l.crosses;
    }

pub well-formed : (s : List ℕ) (t : Table) → decode s ≡ decoded t → WellFormed t
well-formed s t e = layout_well-formed s t (length s) (acceptance s t e).layout

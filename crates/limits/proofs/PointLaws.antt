-- The counters and the cover bins of a point of a table that was read, as its entries hold them.
-- Assumes nothing.
use mathlib.Core.Path.{◌≡◌, refl, sym, ap, ap₂, ◌∙◌, subst, fun_ext}
use mathlib.Core.Bool.{Bool, true, false, not, ◌&&◌, ◌||◌, cond}
use mathlib.Core.List.{List, [], ◌∷◌}
use Prim.Native.Nat.{ℕ, zero, suc, ◌+◌, ◌*◌, ◌≤◌, ◌<◌}
use native.Mathlib.Omega.{arith}
use lib.Dec.{eqb}
use lib.ListN.{length, get_or}
use borrow.Author.Tests.{ne_eqb, eqb-true, lt-ltb}
use Rattle.model.specs.Lists.{all, sum_of}
use Rattle.model.specs.Table.{Kind, cover, ignore, illegal, default, Point, ValueBin, TransitionBin, Table, is_cover, is_default, no_point}
use Rattle.model.specs.Counters.{point_at, has_auto, auto_count}
use Rattle.model.specs.Format.{byte, kind_from, point_record}
use Rattle.model.specs.Ranges.{range_count, covers_of, counters_of, transitions_of, value_total, auto_total, transition_total, counters_at, covers_at}
use Rattle.model.specs.Raw.{rows, records_place, record_count, bins_at, transitions_at, step_total, range_total, raw_table}
use Rattle.model.proofs.Readers.{All}
use Rattle.model.proofs.RawLaws.{length-rows, get_d_rows}
use Rattle.model.proofs.WellFormed.{GoodPoint}
use Rattle.model.proofs.TableExact.{point_at_lem}
use Rattle.model.proofs.Access.{points_access, bins_access}
use Rattle.model.proofs.Measure.{sum-add}
use Rattle.model.proofs.RawValues.{length-bins}
use Rattle.ranges.specs.Types.{AllWide}
use Rattle.layout.specs.Places.{layout_of, Small}
use Rattle.layout.specs.declared.Layout.{Layout}
use Rattle.limits.specs.Walks.{Readable}
use Rattle.limits.specs.Tallies.{Counted}
use Rattle.limits.specs.Bins.{added, Entries, here, bin_below, bin_point, bin_covers, bin_singles, bars_of, bin_bars, place_point, place_singles, place_bars, point_below, autos_at, counters_in}
use Rattle.limits.proofs.RowLaws.{any_sum}
use Rattle.limits.proofs.EntryLaws.{added-at, sum_only}
use Rattle.limits.proofs.ReadLaws.{read_layout, read_well, bins_inside, bin_points, transition_points}

-- ---- what a table that was read is known to be

bins_below : (n : ℕ) (vs : List ValueBin) → All (λ v. v.point < n) vs → all (bin_below n) vs ≡ true
unfolding all
bins_below n [] h = refl
bins_below n (v ∷ vs) h = ap₂ ◌&&◌ (lt-ltb v.point n h.0) (bins_below n vs h.1)

module _ (s : List ℕ) where
  pub points_length : length (raw_table s).points ≡ record_count s 0
  unfolding raw_table
  points_length = length-rows (point_record s) 11 (records_place s 0) (record_count s 0)

  pub point_record_lem : (p : ℕ) → p < record_count s 0 → point_at (raw_table s) p ≡ point_record s (records_place s 0 + 11 * p)
  unfolding raw_table
  point_record_lem p h = get_d_rows (point_record s) 11 (records_place s 0) (record_count s 0) p no_point h

  transitions_below : (n b q p r m : ℕ) → All (λ v. v.point < n) (transitions_at s b q p r m) → n ≤ 16 → all (point_below s 16) (rows here 4 b m) ≡ true
  unfolding transitions_at rows all
  transitions_below n b q p r zero h k = refl
  transitions_below n b q p r (suc m) h k =
      let j = step_total s q (byte s (b + 3)) in
      ap₂ ◌&&◌ (lt-ltb (byte s b) 16 (omega (arith, h.0))) (transitions_below n (b + 4) (q + byte s (b + 3)) (p + 3 * j) (r + 17 * range_total s p j) m h.1 k)

  module _ (known : Readable s) where
    pub few_points : record_count s 0 ≤ 16
    few_points = omega (arith, (points_access s (raw_table s) (length s) (read_layout s known)).0.high, points_length)

    pub few_bins : record_count s 1 ≤ 512
    few_bins = omega (arith, (bins_access s (raw_table s) (length s) (read_layout s known)).0.high, number)
      where
        number : length (raw_table s).value_bins ≡ record_count s 1
        number = unfold raw_table in (length-bins s (records_place s 1) (records_place s 2) (record_count s 1))

    pub all-bins-below : all (bin_below (record_count s 0)) (bins_at s (records_place s 1) (records_place s 2) (record_count s 1)) ≡ true
    unfolding raw_table
    all-bins-below =
        ap (λ (n : ℕ). all (bin_below n) (raw_table s).value_bins) (sym points_length) ∙ bins_below (length (raw_table s).points) (raw_table s).value_bins (bin_points s known)

    pub all-below : all (point_below s 16) (rows here 4 (records_place s 3) (record_count s 3)) ≡ true
    unfolding raw_table
    all-below = transitions_below (length (raw_table s).points) (records_place s 3) (records_place s 4) (records_place s 5) (records_place s 6) (record_count s 3) (transition_points s known) (omega (arith, few_points, points_length))

    pub points_wide : AllWide s (records_place s 0) (record_count s 0)
    points_wide p h =
        let g = subst GoodPoint (point_record_lem p h) (point_at_lem (raw_table s) (read_well s known) p) in
        record { low = g.wide; high = g.narrow }

-- ---- sums over transition bins, by their places

transitions-places : (s : List ℕ) (F : ℕ → Kind → ℕ) (b q p r n : ℕ)
    → sum_of (λ at. F (byte s at) (kind_from (byte s (at + 1)))) (rows here 4 b n) ≡ sum_of (λ v. F v.point v.kind) (transitions_at s b q p r n)
unfolding transitions_at rows sum_of
transitions-places s F b q p r zero = refl
transitions-places s F b q p r (suc n) =
    let k = step_total s q (byte s (b + 3)) in
    ap (F (byte s b) (kind_from (byte s (b + 1))) +◌) (transitions-places s F (b + 4) (q + byte s (b + 3)) (p + 3 * k) (r + 17 * range_total s p k) n)

-- ---- bins that bar auto bins

none_both : (a b : ℕ) → (not (not (eqb a 0)) && not (not (eqb b 0))) ≡ eqb (a + b) 0
none_both zero b = back (eqb b 0) ∙ ap (λ (n : ℕ). eqb n 0) (let z : b ≡ 0 + b = omega arith in z)
  where
    back : (x : Bool) → not (not x) ≡ x
    back true = refl
    back false = refl
none_both (suc a) b = ap (λ (e : Bool). not (not e) && not (not (eqb b 0))) (ne_eqb (suc a) 0 (λ e. omega arith)) ∙ sym (ne_eqb (suc a + b) 0 (λ e. omega arith))

value_bar : (p : ℕ) (b : ValueBin) → (eqb b.point p && (is_cover b.kind || is_default b.kind)) ≡ not (eqb (cond (eqb b.point p) (bars_of b.kind) 0) 0)
value_bar p b = go (eqb b.point p) b.kind
  where
    go : (c : Bool) (k : Kind) → (c && (is_cover k || is_default k)) ≡ not (eqb (cond c (bars_of k) 0) 0)
    go false k = refl
    go true cover = refl
    go true ignore = refl
    go true illegal = refl
    go true default = refl

transition_bar : (p : ℕ) (b : TransitionBin) → (eqb b.point p && is_cover b.kind) ≡ not (eqb (cond (eqb b.point p) (covers_of b.kind 1) 0) 0)
transition_bar p b = go (eqb b.point p) b.kind
  where
    go : (c : Bool) (k : Kind) → (c && is_cover k) ≡ not (eqb (cond c (covers_of k 1) 0) 0)
    go false k = refl
    go true cover = refl
    go true ignore = refl
    go true illegal = refl
    go true default = refl

abbrev bars_at : Table → ℕ → ℕ
bars_at t p = sum_of (λ v. cond (eqb v.point p) (bars_of v.kind) 0) t.value_bins + sum_of (λ v. cond (eqb v.point p) (covers_of v.kind 1) 0) t.transition_bins

auto-free : (t : Table) (p : ℕ) → has_auto t p ≡ eqb (bars_at t p) 0
unfolding has_auto
auto-free t p =
    ap₂ (λ (x y : Bool). not x && not y) (any_sum _ _ (value_bar p) t.value_bins) (any_sum _ _ (transition_bar p) t.transition_bins)
    ∙ none_both (sum_of (λ v. cond (eqb v.point p) (bars_of v.kind) 0) t.value_bins) (sum_of (λ v. cond (eqb v.point p) (covers_of v.kind 1) 0) t.transition_bins)

-- ---- the counters of a point: cover bins, and single ones

split-counters : (c : Bool) (k : Kind) (n : ℕ) → cond c (counters_of k n) 0 ≡ cond c (covers_of k n) 0 + cond c (counters_of k 0) 0
split-counters false k n = refl
split-counters true cover n = omega arith
split-counters true ignore n = refl
split-counters true illegal n = refl
split-counters true default n = refl

counters-split : (t : Table) (p : ℕ) → value_total counters_of t p ≡ value_total covers_of t p + sum_of (λ v. cond (eqb v.point p) (counters_of v.kind 0) 0) t.value_bins
unfolding value_total
counters-split t p =
    ap (λ (f : ValueBin → ℕ). sum_of f t.value_bins) (fun_ext λ v. split-counters (eqb v.point p) v.kind (range_count (point_at t p) v.form v.ranges))
    ∙ sum-add (λ v. cond (eqb v.point p) (covers_of v.kind (range_count (point_at t p) v.form v.ranges)) 0) (λ v. cond (eqb v.point p) (counters_of v.kind 0) 0) t.value_bins

-- ---- the three passes

module _ (s : List ℕ) (p : ℕ) (inside : p < record_count s 0) where
  abbrev T : Table
  T = raw_table s

  abbrev bins : List ValueBin
  bins = bins_at s (records_place s 1) (records_place s 2) (record_count s 1)

  abbrev places : List ℕ
  places = rows here 4 (records_place s 3) (record_count s 3)

  -- a cover bin's point is the point of its sum
  own_point : (v : ValueBin) → cond (eqb v.point p) (bin_covers s (records_place s 0) v) 0 ≡ cond (eqb v.point p) (covers_of v.kind (range_count (point_at T p) v.form v.ranges)) 0
  own_point v = go (eqb v.point p) refl
    where
      go : (b : Bool) → eqb v.point p ≡ b → cond b (bin_covers s (records_place s 0) v) 0 ≡ cond b (covers_of v.kind (range_count (point_at T p) v.form v.ranges)) 0
      go false e = refl
      go true e =
          ap (λ (q : Point). covers_of v.kind (range_count q v.form v.ranges))
          (ap (λ (i : ℕ). point_record s (records_place s 0 + 11 * i)) (eqb-true v.point p e) ∙ sym (point_record_lem s p inside))

  module _ (l : List ℕ) (long : p < length l) (empty : get_or l p 0 ≡ 0) where
    covers-values : get_or (added bin_point (bin_covers s (records_place s 0)) bins l) p 0 ≡ value_total covers_of T p
    unfolding value_total raw_table
    covers-values =
        added-at bin_point (bin_covers s (records_place s 0)) bins l p long
        ∙ ap₂ ◌+◌ empty (ap (λ (f : ValueBin → ℕ). sum_of f bins) (fun_ext own_point)) ∙ omega arith

    singles-values : get_or (added bin_point bin_singles bins l) p 0 ≡ sum_of (λ v. cond (eqb v.point p) (counters_of v.kind 0) 0) T.value_bins
    unfolding raw_table
    singles-values = added-at bin_point bin_singles bins l p long ∙ ap (◌+ sum_of (λ v. cond (eqb v.point p) (counters_of v.kind 0) 0) bins) empty ∙ omega arith

    bars-values : get_or (added bin_point bin_bars bins l) p 0 ≡ sum_of (λ v. cond (eqb v.point p) (bars_of v.kind) 0) T.value_bins
    unfolding raw_table
    bars-values = added-at bin_point bin_bars bins l p long ∙ ap (◌+ sum_of (λ v. cond (eqb v.point p) (bars_of v.kind) 0) bins) empty ∙ omega arith

  module _ (F : Kind → ℕ) (l : List ℕ) (long : p < length l) where
    transitions-sum : get_or (added (place_point s) (λ at. F (kind_from (byte s (at + 1)))) places l) p 0 ≡ get_or l p 0 + sum_of (λ v. cond (eqb v.point p) (F v.kind) 0) T.transition_bins
    unfolding raw_table
    transitions-sum =
        added-at (place_point s) (λ at. F (kind_from (byte s (at + 1)))) places l p long
        ∙ ap (get_or l p 0 +◌) (transitions-places s (λ i k. cond (eqb i p) (F k) 0) (records_place s 3) (records_place s 4) (records_place s 5) (records_place s 6) (record_count s 3))

  autos_are : (bars : List ℕ) → get_or bars p 0 ≡ bars_at T p → autos_at s (records_place s 0) bars p ≡ auto_total T p
  unfolding auto_total
  autos_are bars e =
      ap₂ (λ (b : Bool) (q : Point). cond b (auto_count q) 0) (ap (λ (n : ℕ). eqb n 0) e ∙ sym (auto-free T p)) (sym (point_record_lem s p inside))

  -- c₀, s₀, b₀ are empty; the value bins make c₁, s₁, b₁ of them, the transition bins s₂, b₂, the auto bins c₂
  module _ (c₀ s₀ b₀ c₁ s₁ b₁ s₂ b₂ c₂ : List ℕ) (ec₀ : Entries 0 c₀) (es₀ : Entries 0 s₀) (eb₀ : Entries 0 b₀) (few : record_count s 0 ≤ 16)
      (lc₁ : length c₁ ≡ 16) (ls₁ : length s₁ ≡ 16) (lb₁ : length b₁ ≡ 16)
      (c₁-is : c₁ ≡ added bin_point (bin_covers s (records_place s 0)) bins c₀) (s₁_is : s₁ ≡ added bin_point bin_singles bins s₀) (b₁_is : b₁ ≡ added bin_point bin_bars bins b₀)
      (s₂_is : s₂ ≡ added (place_point s) (place_singles s) places s₁) (b₂_is : b₂ ≡ added (place_point s) (place_bars s) places b₁)
      (c₂-is : c₂ ≡ added here (autos_at s (records_place s 0) b₂) (rows here 1 0 (record_count s 0)) c₁) where
    bars-are : get_or b₂ p 0 ≡ bars_at T p
    bars-are =
        ap (λ (l : List ℕ). get_or l p 0) b₂_is ∙ transitions-sum (λ k. covers_of k 1) b₁ (omega arith)
        ∙ ap (◌+ sum_of (λ v. cond (eqb v.point p) (covers_of v.kind 1) 0) T.transition_bins) (ap (λ (l : List ℕ). get_or l p 0) b₁_is ∙ bars-values b₀ (omega (arith, eb₀.count)) (omega (arith, eb₀.most p)))

    pub covers_are : get_or c₂ p 0 ≡ covers_at T p
    unfolding covers_at
    covers_are =
        ap (λ (l : List ℕ). get_or l p 0) c₂-is ∙ added-at here (autos_at s (records_place s 0) b₂) (rows here 1 0 (record_count s 0)) c₁ p (omega arith)
        ∙ ap₂ ◌+◌ (ap (λ (l : List ℕ). get_or l p 0) c₁-is ∙ covers-values c₀ (omega (arith, ec₀.count)) (omega (arith, ec₀.most p)))
        (sum_only (autos_at s (records_place s 0) b₂) p 0 (record_count s 0) (omega arith) (omega arith) ∙ autos_are b₂ bars-are)

    singles-are : get_or s₂ p 0 ≡ sum_of (λ v. cond (eqb v.point p) (counters_of v.kind 0) 0) T.value_bins + transition_total T p
    unfolding transition_total
    singles-are =
        ap (λ (l : List ℕ). get_or l p 0) s₂_is ∙ transitions-sum transitions_of s₁ (omega arith)
        ∙ ap (◌+ sum_of (λ v. cond (eqb v.point p) (transitions_of v.kind) 0) T.transition_bins) (ap (λ (l : List ℕ). get_or l p 0) s₁_is ∙ singles-values s₀ (omega (arith, es₀.count)) (omega (arith, es₀.most p)))

    pub counters_are : counters_in c₂ s₂ p ≡ counters_at T p
    unfolding counters_at covers_at
    counters_are =
        ap₂ ◌+◌ covers_are singles-are
        ∙ regroup (value_total covers_of T p) (auto_total T p) (sum_of (λ v. cond (eqb v.point p) (counters_of v.kind 0) 0) T.value_bins) (transition_total T p) (value_total counters_of T p) (counters-split T p)
      where
        regroup : (a b c d e : ℕ) → e ≡ a + c → a + b + (c + d) ≡ e + b + d
        regroup a b c d e h = omega arith

-- ---- the places of the records

module _ (s : List ℕ) (l : Layout) (laid : l ≡ layout_of s) (small : Small l) (known : Readable s) where
  pub bins_ready : (l.points ≤ 16777216) × (l.point_count ≤ 16) × (l.bins ≤ 16777216) × (l.ranges ≤ 16777216) × (l.bin_count ≤ 512) × AllWide s l.points l.point_count
      × (l.bins + 8 * l.bin_count ≤ length s)
  unfolding layout_of
  bins_ready =
      let few = subst (λ (l : Layout). (l.point_count ≤ 16) × (l.bin_count ≤ 512) × AllWide s l.points l.point_count × (l.bins + 8 * l.bin_count ≤ length s)) (sym laid) (few_points s known, few_bins s known, points_wide s known, bins_inside s known) in
      (omega (arith, small.points), few.0, omega (arith, small.bins), omega (arith, small.ranges), few.1, few.2, few.3)

  pub bins_there : all (bin_below l.point_count) (bins_at s l.bins l.ranges l.bin_count) ≡ true
  unfolding layout_of
  bins_there = subst (λ (l : Layout). all (bin_below l.point_count) (bins_at s l.bins l.ranges l.bin_count) ≡ true) (sym laid) (all-bins-below s known)

  pub transitions_ready : (l.transitions ≤ 16777216) × (l.transition_count ≤ 65535) × (all (point_below s 16) (rows here 4 l.transitions l.transition_count) ≡ true)
  unfolding layout_of
  transitions_ready =
      (omega (arith, small.transitions), omega (arith, small.transition_count), subst (λ (l : Layout). all (point_below s 16) (rows here 4 l.transitions l.transition_count) ≡ true) (sym laid) (all-below s known))

  pub entries_counted : (c₀ s₀ b₀ c₁ s₁ b₁ s₂ b₂ c₂ : List ℕ) → Entries 0 c₀ → Entries 0 s₀ → Entries 0 b₀
      → length c₁ ≡ 16 → length s₁ ≡ 16 → length b₁ ≡ 16 → Entries 50000000 c₂ → Entries 100000 s₂
      → c₁ ≡ added bin_point (bin_covers s l.points) (bins_at s l.bins l.ranges l.bin_count) c₀
      → s₁ ≡ added bin_point bin_singles (bins_at s l.bins l.ranges l.bin_count) s₀
      → b₁ ≡ added bin_point bin_bars (bins_at s l.bins l.ranges l.bin_count) b₀
      → s₂ ≡ added (place_point s) (place_singles s) (rows here 4 l.transitions l.transition_count) s₁
      → b₂ ≡ added (place_point s) (place_bars s) (rows here 4 l.transitions l.transition_count) b₁
      → c₂ ≡ added here (autos_at s l.points b₂) (rows here 1 0 l.point_count) c₁
      → Counted s c₂ s₂
  unfolding layout_of
  entries_counted c₀ s₀ b₀ c₁ s₁ b₁ s₂ b₂ c₂ ec₀ es₀ eb₀ lc ls lb ec es c₁-is s₁_is b₁_is s₂_is b₂_is c₂-is =
      let f = few_points s known in
      let x₁ = c₁-is ∙ ap (λ (l : Layout). added bin_point (bin_covers s l.points) (bins_at s l.bins l.ranges l.bin_count) c₀) laid in
      let x₂ = s₁_is ∙ ap (λ (l : Layout). added bin_point bin_singles (bins_at s l.bins l.ranges l.bin_count) s₀) laid in
      let x₃ = b₁_is ∙ ap (λ (l : Layout). added bin_point bin_bars (bins_at s l.bins l.ranges l.bin_count) b₀) laid in
      let x₄ = s₂_is ∙ ap (λ (l : Layout). added (place_point s) (place_singles s) (rows here 4 l.transitions l.transition_count) s₁) laid in
      let x₅ = b₂_is ∙ ap (λ (l : Layout). added (place_point s) (place_bars s) (rows here 4 l.transitions l.transition_count) b₁) laid in
      let x₆ = c₂-is ∙ ap (λ (l : Layout). added here (autos_at s l.points b₂) (rows here 1 0 l.point_count) c₁) laid in
      record {
        covers_in = ec;
        singles_in = es;
        cover_bins = λ p h. covers_are s p h c₀ s₀ b₀ c₁ s₁ b₁ s₂ b₂ c₂ ec₀ es₀ eb₀ f lc ls lb x₁ x₂ x₃ x₄ x₅ x₆;
        all_counters = λ p h. counters_are s p h c₀ s₀ b₀ c₁ s₁ b₁ s₂ b₂ c₂ ec₀ es₀ eb₀ f lc ls lb x₁ x₂ x₃ x₄ x₅ x₆;
      }

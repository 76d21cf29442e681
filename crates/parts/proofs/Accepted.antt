-- What an accepted table grants: its bins fit, there is room for its rows, and these are the rows of the point.
-- Assumes nothing.
use mathlib.Core.Path.{◌≡◌, refl, sym, ap, ap₂, ◌∙◌, subst}
use mathlib.Core.Bool.{Bool, true, false, not, ◌&&◌, ◌||◌, cond}
use mathlib.Core.List.{List, [], ◌∷◌, ◌++◌}
use Prim.Native.Nat.{ℕ, zero, suc, ◌+◌, ◌*◌, ◌≤◌, ◌<◌}
use native.Mathlib.Omega.{arith}
use lib.Dec.{leb, eqb}
use lib.ListN.{length, get_or, take, length-map}
use lib.Pow.{pow_mono}
use borrow.Author.Tests.{leb-true, le-leb, ne_eqb, eqb-true}
use Rattle.model.specs.Lists.{all, one_of, as_bit, sum_of, within}
use Rattle.model.specs.Table.{Point, Form, single, per_value, fixed, Range, span, pattern, ValueBin, Table, is_cover, no_value_bin}
use Rattle.model.specs.Values.{lowest}
use Rattle.model.specs.Ranges.{sizes}
use Rattle.model.specs.Counters.{no_cover_bin, point_at, value_bin_at, distributed, point_counters}
use Rattle.model.specs.Format.{byte, u16, form_from, kind_from, bin_rules, BinHead, allows_patterns, point_record, decode, decoded, accepted, table_of}
use Rattle.model.specs.Raw.{ranges_at, bin_at, bins_at, count_place, records_place, record_count}
use Rattle.model.specs.Register.{point_total}
use Rattle.model.proofs.Readers.{All, all_both, all_map}
use Rattle.model.proofs.Booleans.{false-true, and_left, and_right}
use Rattle.model.proofs.Lists.{length-row, get_d-row, get_d_map}
use Rattle.model.proofs.RawLaws.{length-rows}
use Rattle.model.proofs.Sections.{accepted_decodes, accepted-layout}
use Rattle.model.proofs.Access.{bins_access, ranges_access}
use Rattle.model.proofs.WellFormed.{GoodPoint, Legal, GoodBin, WellFormed, well-formed}
use Rattle.model.proofs.Exact.{Divisible}
use Rattle.model.proofs.TableExact.{point_at_lem, divisible}
use Rattle.model.proofs.Limits.{covers_fewer}
use Rattle.ranges.specs.Types.{Wide}
use Rattle.arrays.specs.Flat.{covers}
use Rattle.layout.specs.Places.{layout_of, transition_section_of}
use Rattle.layout.specs.declared.Section.{Section}
use Rattle.values.specs.Points.{Near}
use Rattle.values.proofs.PointExact.{point_raw, few_counters, bins_raw}
use Rattle.values.proofs.Ready.{all_near, wide, some_auto_lem}
use Rattle.spans.specs.Point.{ranges_listed, cover_listed}
use Rattle.spans.specs.Collected.{fits_from}
use Rattle.spans.proofs.Ends.{both}
use Rattle.spans.proofs.CollectLaws.{length-ranges}
use Rattle.spans.proofs.Point.{listed-apart, ranges_most, point_listed}
use Rattle.parts.specs.Rows.{Source, count_of, settled_ranges, row_ranges, is_own, dealable, rising, own_sources, auto_sources, sources, Row, parts_at, rows_from, part_total, part_flags, distributed_bit, distributed_flags}
use Rattle.parts.specs.Words.{plan_row_at, plan_rows_at, own_at, listed_if, own_listed, If, Fit, Fits, range_total, sources_at, Planned, Room}
use Rattle.parts.specs.Point.{RowsOf, climbs}
use Rattle.parts.proofs.SpanLaws.{settled_rises, settled_some, spans_fit}
use Rattle.parts.proofs.FlagLaws.{Sounds}
use Rattle.parts.proofs.Exact.{Deals, DealsIn, all_sound, parts_exact}
use Rattle.parts.proofs.Plans.{own_is, words_are, part_count, length-all}
use Rattle.parts.proofs.PointPlans.{sources_raw}
use Rattle.spans.specs.Part.{OwnPart}
use Rattle.parts.proofs.Narrow.{part-fits, part-listed, part_room, part-sources}
use Rattle.parts.proofs.RowLaws.{all_climb, rows-typed, all_typed, length-rows-from, own_fewer, few-ranges}

-- ---- the record of a cover bin: form 1 has ranges, form 2 a number of at least 1

kind-some : (kind ranges : ℕ) → cond (eqb kind 3) (eqb ranges 0) (leb 1 ranges) ≡ true → is_cover (kind_from kind) ≡ true → 1 ≤ ranges
kind-some zero ranges h e = leb-true 1 ranges h
kind-some (suc zero) ranges h e = absurd (false-true e)
kind-some (suc (suc zero)) ranges h e = absurd (false-true e)
kind-some (suc (suc (suc k))) ranges h e = absurd (false-true e)

form-deals : (form number : ℕ) (rs : List Range) → leb form 2 ≡ true → (not (eqb form 2) || within 1 256 number) ≡ true → 1 ≤ length rs → Deals (form_from form number) rs
form-deals zero number rs h k some = tt
form-deals (suc zero) number rs h k some = some
form-deals (suc (suc zero)) number rs h k some = leb-true 1 number (and_left (leb 1 number) (leb number 256) k)
form-deals (suc (suc (suc f))) number rs h k some = absurd (omega (arith, leb-true (suc (suc (suc f))) 2 h))

all-get : {A : Type 0} (P : A → Type 0) (d : A) (xs : List A) → ((i : ℕ) → i < length xs → P (get_or xs i d)) → All P xs
all-get P d [] h = tt
all-get P d (x ∷ xs) h = (h 0 (omega arith), all-get P d xs (λ i k. h (suc i) (omega arith)))

-- ---- one bin

sizes-legal : (q : Point) (patterns : Bool) → GoodPoint q → (rs : List Range) → All (Legal q patterns) rs → sizes rs ≤ length rs * 8589934592
unfolding sizes sum_of
sizes-legal q patterns g [] h = omega arith
sizes-legal q patterns g (span lo hi ∷ rs) h = omega (arith, h.0.0, h.0.2, pow_mono {i = q.width} {j = 32} g.narrow, sizes-legal q patterns g rs h.1)
sizes-legal q patterns g (pattern bits mask ∷ rs) h = omega (arith, sizes-legal q patterns g rs h.1)

module _ (q : Point) (good : GoodPoint q) where
  form_spans : (form number : ℕ) (rs : List Range) → Divisible q good (form_from form number) rs → (not (eqb form 1) || all (fits_from (lowest q)) rs) ≡ true
  form_spans zero number rs d = refl
  form_spans (suc zero) number rs d = spans_fit q good.narrow rs d
  form_spans (suc (suc f)) number rs d = ap (λ (b : Bool). not b || all (fits_from (lowest q)) rs) (ne_eqb (suc (suc f)) 1 (λ e. omega arith))

  form_dealable : (f : Form) (rs : List Range) → Divisible q good f rs → Deals f rs → dealable f (row_ranges (lowest q) f rs) ≡ true
  form_dealable single rs d h = refl
  form_dealable per_value rs d h =
      let fit = spans_fit q good.narrow rs d in
      both (rising 0 (settled_ranges (lowest q) rs)) (leb 1 (sizes (settled_ranges (lowest q) rs))) (settled_rises (lowest q) rs fit) (le-leb 1 (sizes (settled_ranges (lowest q) rs)) (settled_some (lowest q) rs fit h))
  form_dealable (fixed n) rs d h = le-leb 1 n h

module _ (s : List ℕ) (t : Table) (ok : WellFormed t) (p : ℕ) where
  abbrev low : ℕ
  low = lowest (point_at t p)

  abbrev Good : ValueBin → Type 0
  Good b = GoodBin t.points b × (length b.ranges ≤ 1024) × DealsIn p b

  bin_fits : (a r : ℕ) → Good (bin_at s a r) → (own : Bool) → own_at s p a ≡ own → If own (Fit s (lowest (point_at t p)) a r)
  bin_fits a r h false e = tt
  bin_fits a r h true e =
      let z : byte s a ≡ p = eqb-true (byte s a) p (and_left (eqb (byte s a) p) (eqb (byte s (a + 1)) 0) e) in
      let f = form_from (byte s (a + 2)) (u16 s (a + 3)) in
      let rs = ranges_at s r (u16 s (a + 6)) in
      let legal : All (Legal (point_at t p) (allows_patterns (bin_at s a r))) rs = rw z at h.0 in
      let d : Divisible (point_at t p) (point_at_lem t ok p) f rs = rw z at (divisible t ok (bin_at s a r) h.0) in
      let deals : Deals f rs = rw (own_is s p a r ∙ e) at h.2 in
      record {
        some = omega (arith, h.1, length-ranges s r (u16 s (a + 6)));
        light = omega (arith, h.1, sizes-legal (point_at t p) (allows_patterns (bin_at s a r)) (point_at_lem t ok p) rs legal);
        spans = form_spans (point_at t p) (point_at_lem t ok p) (byte s (a + 2)) (u16 s (a + 3)) rs d;
        deals = form_dealable (point_at t p) (point_at_lem t ok p) f rs d deals;
      }

  all_fits : (a r n : ℕ) → All Good (bins_at s a r n) → Fits s (lowest (point_at t p)) p a r n
  unfolding Fits bins_at
  all_fits a r zero h = tt
  all_fits a r (suc n) h = (bin_fits a r h.0 (own_at s p a) refl, all_fits (a + 8) (r + 17 * u16 s (a + 6)) n h.1)

each-few : (n : ℕ) (vs : List ValueBin) → sum_of (λ b. length b.ranges) vs ≤ n → All (λ b. length b.ranges ≤ n) vs
unfolding sum_of
each-few n [] h = tt
each-few n (u ∷ vs) h = (omega arith, each-few n vs (omega arith))

own-listed_fewer : (s : List ℕ) (p a r n : ℕ) → own_listed s p a n ≤ sum_of (λ b. cond (eqb b.point p) (length b.ranges) 0) (bins_at s a r n)
unfolding own_listed bins_at sum_of
own-listed_fewer s p a r zero = omega arith
own-listed_fewer s p a r (suc n) = go (eqb (byte s a) p) (eqb (byte s (a + 1)) 0) (own-listed_fewer s p (a + 8) (r + 17 * u16 s (a + 6)) n)
  where
    rest : ℕ
    rest = sum_of (λ b. cond (eqb b.point p) (length b.ranges) 0) (bins_at s (a + 8) (r + 17 * u16 s (a + 6)) n)

    go : (c d : Bool) → own_listed s p (a + 8) n ≤ rest → listed_if (c && d) s a + own_listed s p (a + 8) n ≤ cond c (length (ranges_at s r (u16 s (a + 6)))) 0 + rest
    go true true h = omega (arith, length-ranges s r (u16 s (a + 6)))
    go true false h = omega arith
    go false d h = omega arith

total-parts : (xs ys : List Source) → part_total (xs ++ ys) ≡ part_total xs + part_total ys
unfolding part_total sum_of
total-parts [] ys = omega arith
total-parts (x ∷ xs) ys = omega (arith, total-parts xs ys)

bit_one : (a b : Bool) → as_bit a ≡ as_bit b → a ≡ b
bit_one true true e = refl
bit_one true false e = absurd (omega arith)
bit_one false true e = absurd (omega arith)
bit_one false false e = refl

-- ---- an accepted table

module _ (s : List ℕ) (ok : accepted s ≡ true) (p : ℕ) (inside : p < point_total (table_of s)) where
  abbrev T : Table
  T = table_of s

  e : decode s ≡ decoded T
  e = accepted_decodes s ok

  w : WellFormed T
  w = well-formed s T e

  few_listed : sum_of (λ b. length b.ranges) T.value_bins ≤ 1024
  few_listed = (ranges_access s T (length s) (accepted-layout s ok)).0.high

  deals_at : (i : ℕ) → i < length T.value_bins → DealsIn p (value_bin_at T i)
  unfolding bin_rules
  deals_at i h = go (is_own p b) refl
    where
      b : ValueBin
      b = value_bin_at T i

      at : ℕ
      at = (accepted-layout s ok).at₂ + i * 8

      go : (own : Bool) → is_own p b ≡ own → If own (Deals b.form b.ranges)
      go false k = tt
      go true k =
          let r = (bins_access s T (length s) (accepted-layout s ok)).2 i h in
          let covers : is_cover (kind_from (byte s (at + 1))) ≡ true = ap (λ (x : BinHead). is_cover x.bin.kind) r.said ∙ and_right (eqb b.point p) (is_cover b.kind) k in
          let many : u16 s (at + 6) ≡ length b.ranges = ap (λ (x : BinHead). x.ranges) r.said in
          let some : 1 ≤ length b.ranges = omega (arith, many, kind-some (byte s (at + 1)) (u16 s (at + 6)) r.passed.1.1.1.1.1.1.1.0 covers) in
          subst (λ (f : Form). Deals f b.ranges) (ap (λ (x : BinHead). x.bin.form) r.said) (form-deals (byte s (at + 2)) (u16 s (at + 3)) b.ranges r.passed.1.1.0 r.passed.1.1.1.1.0 some)

  deals : All (DealsIn p) T.value_bins
  deals = all-get (DealsIn p) no_value_bin T.value_bins deals_at

  good_bins : All (Good s T w p) T.value_bins
  good_bins =
      all_both (GoodBin T.points) (λ b. (length b.ranges ≤ 1024) × DealsIn p b) (Good s T w p) (λ b x y. (x, y.0, y.1)) T.value_bins w.bins
      (all_both (λ b. length b.ranges ≤ 1024) (DealsIn p) (λ b. (length b.ranges ≤ 1024) × DealsIn p b) (λ b x y. (x, y)) T.value_bins (each-few 1024 T.value_bins few_listed) deals)

  -- ---- the rows

  parts_are : part_total (sources T p) ≡ length (covers T p)
  unfolding part_flags distributed_flags
  parts_are =
      sym (length-row (λ j. as_bit (one_of j (parts_at 0 (rows_from 0 (sources T p))))) 0 (part_total (sources T p)))
      ∙ ap length (parts_exact T w p 0 deals) ∙ length-map (covers T p) (distributed_bit T 0)

  few_covers : length (covers T p) ≤ 256
  unfolding covers
  few_covers = omega (arith, covers_fewer (point_counters T p), few_counters s T e p inside)

  rule_of : (k v : ℕ) → k < part_total (sources T p) → one_of k (parts_at v (rows_from 0 (sources T p))) ≡ distributed T (get_or (covers T p) k no_cover_bin) v
  unfolding part_flags distributed_flags
  rule_of k v h =
      let rs = rows_from 0 (sources T p) in
      bit_one (one_of k (parts_at v rs)) (distributed T (get_or (covers T p) k no_cover_bin) v)
      (ap (λ (j : ℕ). as_bit (one_of j (parts_at v rs))) (let z : k ≡ 0 + k = omega arith in z)
      ∙ sym (get_d-row (λ j. as_bit (one_of j (parts_at v rs))) 0 (part_total (sources T p)) k 0 h)
      ∙ ap (λ (l : List ℕ). get_or l k 0) (parts_exact T w p v deals)
      ∙ get_d_map (distributed_bit T v) (covers T p) k no_cover_bin 0 (omega (arith, parts_are)))

  rows_of : (v x : List ℕ) (at n m : ℕ) → Planned (sources T p) v x at n m → RowsOf (table_of s) p (plan_rows_at x at n) m × (n ≤ 1025) × (m ≤ 256) × (take at x ≡ take at v)
  rows_of v x at n m plan =
      let ss = sources T p in
      let many : length (plan_rows_at x at n) ≡ n = length-rows (plan_row_at x) 7 at n in
      let total : length (plan_rows_at x at n) ≡ range_total ss = ap length plan.rows ∙ length-rows-from 0 ss in (
        record {
          parts = plan.parts ∙ parts_are;
          rule = λ k v h. ap (λ (rs : List Row). one_of k (parts_at v rs)) plan.rows ∙ rule_of k v (omega (arith, plan.parts));
          fits = plan.fits;
          typed = rw plan.rows (rows-typed (point_at T p) 0 ss (all_typed T w p));
          rises = ap (climbs 0) plan.rows ∙ all_climb 0 0 ss (all_map (Sounds (point_at T p) (point_at_lem T w p) 0) (λ x. 1 ≤ count_of x) (λ x h. h.1) ss (all_sound T w p 0 deals)) (omega arith);
          few = omega (arith, total, few-ranges T p);
        },
        omega (arith, many, total, few-ranges T p, few-own),
        omega (arith, plan.parts, parts_are, few_covers),
        plan.before,
      )
    where
      few-own : cover_listed T p ≤ 1024
      few-own = omega (arith, listed-apart T p, point_listed s ok p, ranges_most s ok)

  -- ---- by places: the points' records begin at byte 2

  abbrev low-raw : ℕ
  low-raw = lowest (point_record s (records_place s 0 + 11 * p))

  own_bins_lem : own_sources (lowest (point_at T p)) p T.value_bins ≡ own_sources low-raw p (bins_at s (records_place s 1) (records_place s 2) (record_count s 1))
  own_bins_lem = ap₂ (λ (q : Point) (bs : List ValueBin). own_sources (lowest q) p bs) (point_raw s T e p inside) (bins_raw s T e p inside)

  fits_raw : Fits s (lowest (point_record s (records_place s 0 + 11 * p))) p (records_place s 1) (records_place s 2) (record_count s 1)
  fits_raw =
      subst (λ (q : Point). Fits s (lowest q) p (records_place s 1) (records_place s 2) (record_count s 1)) (point_raw s T e p inside)
      (all_fits s T w p (records_place s 1) (records_place s 2) (record_count s 1) (subst (All (Good s T w p)) (bins_raw s T e p inside) good_bins))

  few_parts : part_total (own_sources (lowest (point_at T p)) p T.value_bins) ≤ 256
  unfolding sources
  few_parts = omega (arith, total-parts (own_sources (lowest (point_at T p)) p T.value_bins) (auto_sources T p), parts_are, few_covers)

  room_raw : (at : ℕ) (x : List ℕ) → at + 7 * (ranges_listed T p + 1) ≤ length x → Room s (lowest (point_record s (records_place s 0 + 11 * p))) p (records_place s 1) (records_place s 2) (record_count s 1) at x
  unfolding cover_listed
  room_raw at x h =
      let a = records_place s 1 in
      let r = records_place s 2 in
      let n = record_count s 1 in
      let ss = own_sources low-raw p (bins_at s a r n) in
      let ranges : range_total ss ≤ ranges_listed T p = omega (arith, ap range_total own_bins_lem, own_fewer (lowest (point_at T p)) p T.value_bins, listed-apart T p) in
      record {
        some = omega arith;
        words = omega (arith, ap length (words_are s low-raw p 0 a r n), length-all 0 ss);
        parts = omega (arith, part_count s low-raw p a r n, ap part_total own_bins_lem, few_parts);
      }

  listed_raw : own_listed s p (records_place s 1) (record_count s 1) ≤ ranges_listed T p
  unfolding ranges_listed
  listed_raw =
      subst (λ (bs : List ValueBin). own_listed s p (records_place s 1) (record_count s 1) ≤ sum_of (λ b. cond (eqb b.point p) (length b.ranges) 0) bs) (sym (bins_raw s T e p inside))
      (own-listed_fewer s p (records_place s 1) (records_place s 2) (record_count s 1))

  pub wide_at : Wide s (2 + 11 * p)
  unfolding count_place records_place
  wide_at = wide s T e p inside

  pub auto_at : 1 ≤ u16 s (2 + 11 * p + 9)
  unfolding count_place records_place
  auto_at = some_auto_lem s T e p inside

  module _ (b q m : ℕ) (o : OwnPart s p b q m) where
    pub fits-at : Fits s (lowest (point_record s (2 + 11 * p))) p b q m
    unfolding count_place records_place
    fits-at = part-fits s p (records_place s 1) (records_place s 2) (record_count s 1) b q m o (lowest (point_record s (records_place s 0 + 11 * p))) fits_raw

    pub listed_at : own_listed s p b m ≤ ranges_listed T p
    listed_at = omega (arith, part-listed s p (records_place s 1) (records_place s 2) (record_count s 1) b q m o, listed_raw)

    pub room_at : (at : ℕ) (x : List ℕ) → at + 7 * (ranges_listed T p + 1) ≤ length x → Room s (lowest (point_record s (2 + 11 * p))) p b q m at x
    unfolding count_place records_place
    room_at at x h =
        part_room s p (records_place s 1) (records_place s 2) (record_count s 1) b q m o (lowest (point_record s (records_place s 0 + 11 * p))) at x (room_raw at x h)

  module _ (l : Section) (el : l ≡ transition_section_of s) (b q m : ℕ) where
    pub near-at : b < 1000000000 → q < 1000000000 → m ≤ 512 → Near (2 + 11 * p) b q m l.at l.count
    unfolding layout_of count_place records_place
    near-at hb hq hm =
        let near = subst (λ (x : Section). Near (2 + 11 * p) (records_place s 1) (records_place s 2) (record_count s 1) x.at x.count) (sym el) (all_near s T e p inside) in
        record { point_near = near.point_near; bins_near = hb; ranges_near = hq; few_bins = hm; transitions_near = near.transitions_near; few_transitions = near.few_transitions }

    pub rows_at : OwnPart s p b q m → (v x : List ℕ) (at n k : ℕ) → Planned (sources_at s p (2 + 11 * p) b q m l.at l.count) v x at n k
        → RowsOf (table_of s) p (plan_rows_at x at n) k × (n ≤ 1025) × (k ≤ 256) × (take at x ≡ take at v)
    unfolding layout_of count_place records_place
    rows_at o v x at n k plan =
        rows_of v x at n k (subst (λ (ss : List Source). Planned ss v x at n k)
        (ap (λ (z : Section). sources_at s p (2 + 11 * p) b q m z.at z.count) el
        ∙ part-sources s p (records_place s 1) (records_place s 2) (record_count s 1) b q m o (records_place s 0 + 11 * p) (records_place s 3) (record_count s 3) ∙ sym (sources_raw s T e p inside)) plan)

-- The spans of an accepted table's point hold what its ignore and illegal bins list, by the model.
-- Assumes nothing.
use mathlib.Core.Path.{◌≡◌, refl, sym, ap, ◌∙◌}
use mathlib.Core.Bool.{Bool, true, false, ◌&&◌, cond}
use mathlib.Core.List.{List, [], ◌∷◌}
use Prim.Native.Nat.{ℕ, ◌+◌, ◌-◌, ◌≤◌}
use native.Mathlib.Omega.{arith}
use lib.Dec.{leb, eqb}
use lib.ListN.{length, get_or}
use lib.Pow.{pow_mono}
use borrow.Author.Tests.{leb-true, le-leb, eqb-true}
use Rattle.model.specs.Lists.{all}
use Rattle.model.specs.Table.{Point, Kind, cover, ignore, illegal, default, Range, span, pattern, ValueBin, Table, is_cover, excludes, no_point}
use Rattle.model.specs.Values.{lowest, highest, in_type, in_ranges}
use Rattle.model.specs.Counters.{point_at, excluded_value}
use Rattle.model.specs.Format.{accepted, table_of, allows_patterns, is_single}
use Rattle.model.specs.Ranges.{ranges_of}
use Rattle.model.specs.Raw.{count_place, records_place, record_count, raw_table, bins_at}
use Rattle.model.proofs.Booleans.{and_left, and_right, false-true}
use Rattle.model.proofs.Lists.{any_cong, all-parts}
use Rattle.model.proofs.Readers.{All}
use Rattle.model.proofs.WellFormed.{Legal, GoodBin, WellFormed, layout_well-formed}
use Rattle.model.proofs.TableExact.{point_at_lem}
use Rattle.model.proofs.Sections.{acceptance, accepted_decodes, accepted-layout}
use Rattle.model.proofs.Access.{bins_access}
use Rattle.model.proofs.RawExact.{accepted_raw, next_place_lem, sections-whole}
use Rattle.model.proofs.RawValues.{length-bins}
use Rattle.ranges.specs.Taken.{holding, taken_by, excluded_at}
use Rattle.ranges.proofs.MemberLaws.{in-any}
use Rattle.ranges.proofs.TakenLaws.{any-taken}
use Rattle.spans.specs.Spans.{held_by, Settled}
use Rattle.spans.specs.Collected.{fits_from, words_from, Collectable}
use Rattle.spans.proofs.Ends.{both}
use Rattle.spans.proofs.CollectLaws.{words-held}

-- ---- the model's word for it, over the ranges

and-cond : (c x : Bool) → (c && x) ≡ cond c x false
and-cond true x = refl
and-cond false x = refl

excluded-ranges : (t : Table) (p v : ℕ) → excluded_value t p v ≡ in_ranges (ranges_of excludes p t.value_bins) v
unfolding excluded_value
excluded-ranges t p v =
    any_cong (λ b. eqb b.point p && excludes b.kind && in_ranges b.ranges v) (taken_by (holding v) p) t.value_bins
    (λ b. and-cond (eqb b.point p && excludes b.kind) (in_ranges b.ranges v) ∙ ap (λ (x : Bool). cond (eqb b.point p && excludes b.kind) x false) (in-any b.ranges v))
    ∙ sym (any-taken (holding v) p t.value_bins) ∙ sym (in-any (ranges_of excludes p t.value_bins) v)

-- ---- an accepted table's excluded ranges are spans of the point's type

no_cover : (k : Kind) → excludes k ≡ true → is_cover k ≡ false
no_cover cover e = absurd (false-true e)
no_cover ignore e = refl
no_cover illegal e = refl
no_cover default e = refl

ranges-fit : (q : Point) (patterns : Bool) → patterns ≡ false → q.width ≤ 32 → (rs : List Range) → All (Legal q patterns) rs → all (fits_from (lowest q)) rs ≡ true
unfolding all
ranges-fit q patterns z w [] h = refl
ranges-fit q patterns z w (pattern bits mask ∷ rs) h = absurd (false-true (sym z ∙ h.0.0))
ranges-fit q patterns z w (span lo hi ∷ rs) h =
    let low = lowest q in
    both (fits_from low (span lo hi)) (all (fits_from low) rs)
    (both (leb low lo && leb lo hi) (leb hi (low + 4294967295)) (both (leb low lo) (leb lo hi) (le-leb low lo h.0.0) (le-leb lo hi h.0.1))
    (le-leb hi (low + 4294967295) (omega (arith, h.0.2, pow_mono {i = q.width} {j = 32} w))))
    (ranges-fit q patterns z w rs h.1)

excluded-fit : (ps : List Point) (p : ℕ) → (get_or ps p no_point).width ≤ 32 → (bs : List ValueBin) → All (GoodBin ps) bs → all (fits_from (lowest (get_or ps p no_point))) (ranges_of excludes p bs) ≡ true
unfolding ranges_of all
excluded-fit ps p w [] h = refl
excluded-fit ps p w (b ∷ bs) h =
    all-parts fit (cond (eqb b.point p && excludes b.kind) b.ranges []) (ranges_of excludes p bs)
    ∙ both (all fit (cond (eqb b.point p && excludes b.kind) b.ranges [])) (all fit (ranges_of excludes p bs)) (go (eqb b.point p && excludes b.kind) refl) (excluded-fit ps p w bs h.1)
  where
    fit : Range → Bool
    fit = fits_from (lowest (get_or ps p no_point))

    go : (c : Bool) → (eqb b.point p && excludes b.kind) ≡ c → all fit (cond c b.ranges []) ≡ true
    go false e = refl
    go true e =
        let same : b.point ≡ p = eqb-true b.point p (and_left (eqb b.point p) (excludes b.kind) e) in
        ranges-fit (get_or ps p no_point) (allows_patterns b) (ap (◌&& is_single b.form) (no_cover b.kind (and_right (eqb b.point p) (excludes b.kind) e))) w b.ranges
        (rw same at h.0)

module _ (s : List ℕ) (ok : accepted s ≡ true) (p : ℕ) where
  abbrev T : Table
  T = table_of s

  abbrev low : ℕ
  low = lowest (point_at (table_of s) p)

  abbrev excluded_in : List Range
  excluded_in = excluded_at s (records_place s 1) (records_place s 2) (record_count s 1) p

  pub bins_are : (table_of s).value_bins ≡ bins_at s (records_place s 1) (records_place s 2) (record_count s 1)
  unfolding raw_table
  bins_are = ap (λ (u : Table). u.value_bins) (accepted_raw s ok)

  formed : WellFormed (table_of s)
  formed = layout_well-formed s (table_of s) (length s) (accepted-layout s ok)

  spans_fit : all (fits_from low) excluded_in ≡ true
  spans_fit = ap (λ (bs : List ValueBin). all (fits_from low) (ranges_of excludes p bs)) (sym bins_are) ∙ excluded-fit (table_of s).points p (point_at_lem (table_of s) formed p).narrow (table_of s).value_bins formed.bins

  -- what `collect` and `spans_of` ask
  pub accepted_collectable : (room : ℕ) → length (excluded_at s (records_place s 1) (records_place s 2) (record_count s 1) p) ≤ room → Collectable s (records_place s 1) (records_place s 2) (record_count s 1) p low room
  unfolding records_place
  accepted_collectable room h =
      let a = acceptance s (table_of s) (accepted_decodes s ok) in
      let whole = sections-whole s (table_of s) (accepted_decodes s ok) in
      let p₁ = next_place_lem s 1 8 refl in
      let p₂ = next_place_lem s 2 17 refl in
      let p₃ = next_place_lem s 3 4 refl in
      let p₄ = next_place_lem s 4 1 refl in
      let p₅ = next_place_lem s 5 3 refl in
      let p₆ = next_place_lem s 6 17 refl in
      let p₇ = next_place_lem s 7 13 refl in
      let p₈ = next_place_lem s 8 3 refl in
      let p₉ = next_place_lem s 9 20 refl in
      let top : count_place s 3 ≤ 65536 = omega (arith, a.short) in
      record {
        near = omega arith;
        near_ranges = omega arith;
        few = omega (arith, (bins_access s (table_of s) (length s) a.layout).0.high, ap length bins_are, length-bins s (records_place s 1) (records_place s 2) (record_count s 1));
        fits = h;
        spans = spans_fit;
      }

  -- A value of the type lies in one of the spans exactly when the model excludes it.
  pub spans_exact : (ws : List ℕ) → Settled (words_from low excluded_in) ws → (v : ℕ) → in_type (point_at (table_of s) p) v ≡ true → held_by ws (v - low) ≡ excluded_value (table_of s) p v
  spans_exact ws settled v e =
      let h = leb-true low v (and_left (leb low v) (leb v (highest (point_at (table_of s) p))) e) in
      settled.same (v - low) ∙ words-held low excluded_in v spans_fit h
      ∙ ap (λ (bs : List ValueBin). in_ranges (ranges_of excludes p bs) v) (sym bins_are) ∙ sym (excluded-ranges (table_of s) p v)

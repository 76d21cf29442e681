-- The bins of each point, found in one pass over all bins.
-- Assumes nothing.
use mathlib.Core.Path.{◌≡◌, refl, sym, ap, ◌∙◌, subst}
use mathlib.Core.Bool.{Bool, true, false, cond}
use mathlib.Core.List.{List}
use Prim.Native.Nat.{ℕ, zero, suc, ◌+◌, ◌-◌, ◌*◌, ◌/◌, ◌≤◌, ◌<◌}
use native.Mathlib.Omega.{arith}
use lib.Dec.{eqb, ltb}
use lib.ListN.{length, get_or, set, replicate, length-set}
use lib.Seq.{get_or-set_same, get_or-set_other}
use borrow.Author.Tests.{eqb-true, eqb-false, ltb-true, ltb-false}
use Rattle.model.specs.Format.{byte, u16, bin_rules, accepted, table_of}
use Rattle.model.specs.Raw.{count_place, records_place, record_count}
use Rattle.model.proofs.Sections.{accepted-layout}
use Rattle.model.proofs.Access.{points_access, bins_access}
use Rattle.model.proofs.RawExact.{next_place_lem, few_points}
use Rattle.layout.specs.Places.{layout_of, bin_sections_of, SmallBins}
use Rattle.layout.specs.declared.BinSections.{BinSections}
use Rattle.spans.specs.Part.{Other, OthersFrom, OthersTo, ranges_past, PartOf, OwnBins, OwnParts, kept, added, no_part, part_of}
use Rattle.spans.specs.declared.collects.Bins.{Bins}
use Rattle.spans.specs.declared.part.Part.{Part}
use Rattle.spans.specs.declared.part.Parts.{Parts}
use Rattle.spans.proofs.Point.{bins_many, bins_most}
use Rattle.spans.proofs.PartLaws.{other_at, bins-few}

-- one point's part
abbrev PartIs : List ℕ → ℕ → ℕ → ℕ → ℕ → Part → Type 0
PartIs s p a r n x = PartOf s p a r n x.bins x.ranges x.count

-- the first n bins, whose first is at a, its ranges from r on: those of each point
pub record Passed (s : List ℕ) (a r n : ℕ) (own : List Part) : Type 0 where
  pub long : length own ≡ 16
  pub each : (p : ℕ) → p < 16 → PartIs s p a r n (get_or own p no_part)

get_d-same : {A : Type 0} → (n p : ℕ) (x d : A) → p < n → get_or (replicate n x) p d ≡ x
get_d-same zero p x d h = absurd (omega arith)
get_d-same (suc n) zero x d h = refl
get_d-same (suc n) (suc p) x d h = get_d-same n p x d (omega arith)

pub pass-start : (s : List ℕ) (a r : ℕ) → Passed s a r 0 (replicate 16 (record { bins = a; ranges = r; count = 0 }))
unfolding ranges_past
pass-start s a r = record { long = refl; each = λ p h. subst (PartIs s p a r 0) (sym (get_d-same 16 p none no_part h)) (start p) }
  where
    none : Part
    none = record { bins = a; ranges = r; count = 0 }

    start : (p : ℕ) → PartIs s p a r 0 none
    start p =
        record {
          skipped = 0;
          place = omega arith;
          ranges = refl;
          near = omega arith;
          few = omega arith;
          others = λ j i. absurd (omega arith);
          others₁ = λ j g i. absurd (omega arith);
        }

module _ (s : List ℕ) (p a r i b q m : ℕ) (o : PartOf s p a r i b q m) where
  others_on : OthersFrom s p a i (o.skipped + m) → Other s p (a + 8 * i) → OthersFrom s p a (i + 1) (o.skipped + m)
  others_on done here j g h = go (ltb j i) refl
    where
      go : (c : Bool) → ltb j i ≡ c → Other s p (a + 8 * j)
      go true e = done j g (ltb-true j i e)
      go false e = let z : i ≡ j = omega (arith, ltb-false j i e) in ap (λ (x : ℕ). eqb (byte s (a + 8 * x)) p) (sym z) ∙ here

  -- the next bin is another point's
  part_past : Other s p (a + 8 * i) → PartOf s p a r (i + 1) b q m
  part_past here =
      record {
        skipped = o.skipped;
        place = o.place;
        ranges = o.ranges;
        near = o.near;
        few = omega (arith, o.few);
        others = o.others;
        others₁ = others_on o.others₁ here;
      }

  -- it is the point's own, after others
  part_on : (a₁ : ℕ) → a₁ ≡ a + 8 * i → PartOf s p a r (i + 1) b q ((a₁ - b) / 8 + 1)
  part_on a₁ e =
      record {
        skipped = o.skipped;
        place = o.place;
        ranges = o.ranges;
        near = o.near;
        few = omega (arith, o.few, o.place);
        others = o.others;
        others₁ = λ j g h. absurd (omega (arith, o.few, o.place));
      }

  -- it is the point's first
  part_first : m ≡ 0 → (a₁ r₁ : ℕ) → a₁ ≡ a + 8 * i → r₁ ≡ ranges_past s a r i → r₁ ≤ r + 1114095 * i → PartOf s p a r (i + 1) a₁ r₁ ((a₁ - a₁) / 8 + 1)
  part_first none a₁ r₁ ea er near =
      record {
        skipped = i;
        place = ea;
        ranges = er;
        near = near;
        few = omega arith;
        others = all_others;
        others₁ = λ j g h. absurd (omega arith);
      }
    where
      all_others : OthersTo s p a i
      all_others j h = go (ltb j o.skipped) refl
        where
          go : (c : Bool) → ltb j o.skipped ≡ c → Other s p (a + 8 * j)
          go true e = o.others j (ltb-true j o.skipped e)
          go false e = o.others₁ j (omega (arith, ltb-false j o.skipped e)) h

  part_own : (a₁ r₁ : ℕ) → a₁ ≡ a + 8 * i → r₁ ≡ ranges_past s a r i → r₁ ≤ r + 1114095 * i → PartOf s p a r (i + 1) (kept m b a₁) (kept m q r₁) ((a₁ - kept m b a₁) / 8 + 1)
  part_own a₁ r₁ ea er near = go (eqb m 0) refl
    where
      go : (c : Bool) → eqb m 0 ≡ c → PartOf s p a r (i + 1) (cond c a₁ b) (cond c r₁ q) ((a₁ - cond c a₁ b) / 8 + 1)
      go true e = part_first (eqb-true m 0 e) a₁ r₁ ea er near
      go false e = part_on a₁ ea

-- a bin of point q
pub pass-turn : (s : List ℕ) (a r i : ℕ) (own : List Part) → Passed s a r i own
    → (a₁ r₁ q : ℕ) → a₁ ≡ a + 8 * i → r₁ ≡ ranges_past s a r i → r₁ ≤ r + 1114095 * i → q ≡ byte s a₁ → q < 16
    → (x₁ : Part) → x₁ ≡ added (get_or own q no_part) a₁ r₁ → Passed s a r (i + 1) (set own q x₁)
pass-turn s a r i own x a₁ r₁ q ea er near eq inside x₁ e₁ =
    record { long = length-set own q x₁ ∙ x.long; each = λ p h. go p h (eqb p q) refl }
  where
    go : (p : ℕ) → p < 16 → (c : Bool) → eqb p q ≡ c → PartIs s p a r (i + 1) (get_or (set own q x₁) p no_part)
    go p h true e =
        let z : q ≡ p = sym (eqb-true p q e) in
        let was = get_or own q no_part in
        let on : PartIs s q a r (i + 1) (added was a₁ r₁) = part_own s q a r i _ _ was.count (x.each q inside) a₁ r₁ ea er near in
        subst (λ (k : ℕ). PartIs s k a r (i + 1) (get_or (set own q x₁) k no_part)) z
        (subst (PartIs s q a r (i + 1)) (sym (get_or-set_same own q x₁ no_part (omega (arith, x.long)) ∙ e₁)) on)
    go p h false e =
        subst (PartIs s p a r (i + 1)) (sym (get_or-set_other own q p x₁ no_part (eqb-false p q e)))
        (part_past s p a r i _ _ _ (x.each p h) (other_at s p a i a₁ q ea eq (λ z. eqb-false p q e (sym z))))

-- ---- in an accepted table

module _ (s : List ℕ) (ok : accepted s ≡ true) where
  -- a bin's point is one of the table's
  bin_point : (i : ℕ) → i < record_count s 1 → byte s (records_place s 1 + 8 * i) < 16
  unfolding records_place bin_rules
  bin_point i h =
      let l = accepted-layout s ok in
      let points = points_access s (table_of s) (length s) l in
      let bins = bins_access s (table_of s) (length s) l in
      let start : count_place s 0 ≡ 0 = unfold count_place in refl in
      let first : l.next₂ ≡ count_place s 1 = omega (arith, points.0.said, points.0.begins, points.1, ap (u16 s) start, start, next_place_lem s 0 11 refl) in
      let z : records_place s 1 + 8 * i ≡ l.at₂ + i * 8 = omega (arith, bins.0.begins, first) in
      omega (arith, ltb-true (byte s (l.at₂ + i * 8)) (length (table_of s).points) (bins.2 i (omega (arith, bins_many s ok))).passed.0, few_points s ok, ap (byte s) z)

  module _ (l : BinSections) (el : l ≡ bin_sections_of s) where
    pub point_below_lem : (i a q : ℕ) → i < l.bin_count → a ≡ l.bins + 8 * i → q ≡ byte s a → q < 16
    unfolding layout_of
    point_below_lem i a q h ea eq =
        let z : a ≡ records_place s 1 + 8 * i = omega (arith, ap (λ (x : BinSections). x.bins) el) in
        omega (arith, bin_point i (omega (arith, ap (λ (x : BinSections). x.bin_count) el)), ap (byte s) z)

    pub few_bins : l.bin_count ≤ 512
    few_bins = omega (arith, bins-few s l el, bins_most s ok)

    pub pass-end : SmallBins l → (i : ℕ) (own : List Part) → i ≤ l.bin_count → l.bin_count ≤ i → Passed s l.bins l.ranges i own → OwnParts s (record { own = own })
    unfolding layout_of
    pass-end small i own g k x p h =
        let o = x.each p h in
        let z : i ≡ l.bin_count = omega arith in
        let y = get_or own p no_part in
        record {
          part = subst (λ (t : BinSections). PartIs s p t.bins t.ranges t.bin_count y) el (subst (λ (n : ℕ). PartIs s p l.bins l.ranges n y) z o);
          near = omega (arith, small.bins, o.place, o.few, few_bins);
          near_ranges = omega (arith, small.ranges, o.near, o.few, few_bins);
          few = omega (arith, o.few, few_bins);
        }

-- those of one point
pub own_bins_lem : (s : List ℕ) (x : Parts) (p : ℕ) (own : Bins) → OwnParts s x → p < 16 → own ≡ part_of x p → OwnBins s p own
own_bins_lem s x p own o h e = subst (OwnBins s p) (sym e) (o p h)

-- A section stands where the records of the one before it end.
-- Assumes nothing.
use Prim.Native.Nat.{ℕ, suc, ◌+◌, ◌*◌, ◌≤◌, ◌<◌}
use mathlib.Core.Path.{◌≡◌, refl, sym, ap, ◌∙◌}
use mathlib.Core.Bool.{true}
use mathlib.Core.List.{List}
use native.Mathlib.Nat.{mul-le-mul}
use native.Mathlib.Omega.{arith}
use lib.ListN.{get_or}
use Rattle.model.specs.Format.{record_sizes, u16, accepted, table_of}
use Rattle.model.specs.Register.{point_total}
use Rattle.model.specs.Raw.{count_place, record_count, records_place}
use Rattle.model.proofs.RawExact.{many_points}
use Rattle.layout.specs.Places.{section_from, section_of, Near, Small, SmallBins, layout_of, bin_sections_of, transition_section_of}
use Rattle.layout.specs.declared.Section.{Section}
use Rattle.layout.specs.declared.Layout.{Layout}
use Rattle.layout.specs.declared.BinSections.{BinSections}

pub product_small : (a b : ℕ) → a ≤ 65535 → b ≤ 20 → a * b ≤ 1310700
product_small a b h k = mul-le-mul h k

pub first-section : (s : List ℕ) → section_from s 0 ≡ section_of s 0
unfolding count_place record_count records_place
first-section s = refl

pub next-section : (s : List ℕ) (k : ℕ) (b r : Section) → b ≡ section_of s k → r ≡ section_from s (b.at + b.count * get_or record_sizes k 0) → r ≡ section_of s (suc k)
unfolding count_place record_count records_place
next-section s k b r e h = h ∙ ap (λ (x : Section). section_from s (x.at + x.count * get_or record_sizes k 0)) e

-- the first section begins the table
pub point-count-first : (s : List ℕ) → (layout_of s).point_count ≡ u16 s 0
unfolding layout_of count_place record_count
point-count-first s = refl

pub points-total : (s : List ℕ) → accepted s ≡ true → (n : ℕ) → n ≡ (layout_of s).point_count → n ≡ point_total (table_of s)
unfolding layout_of
points-total s ok n e = e ∙ sym (many_points s ok)

-- two sections
abbrev pub bins_with : Section → Section → BinSections
bins_with b c = record {
  bins = b.at;
  bin_count = b.count;
  ranges = c.at;
  range_count = c.count;
}

module _ {s : List ℕ} {a b c : Section} (na : Near s 0 a)
    (nb : Near s (a.at + a.count * 11) b)
    (nc : Near s (b.at + b.count * 8) c) where
  bins_at : b ≡ section_of s 1
  bins_at = next-section s 0 a b (na.is ∙ first-section s) nb.is

  ranges_at : c ≡ section_of s 2
  ranges_at = next-section s 1 b c bins_at nc.is

  bins_laid_out : bins_with b c ≡ bin_sections_of s
  unfolding layout_of
  bins_laid_out = rw (bins_at, ranges_at)

  bins_laid_small : SmallBins (bins_with b c)
  bins_laid_small = record { bins = omega arith; bin_count = omega arith; ranges = omega arith; range_count = omega arith }

  pub bins_laid : (bins_with b c ≡ bin_sections_of s) × SmallBins (bins_with b c)
  bins_laid = (bins_laid_out, bins_laid_small)

  pub transitions_laid : {d : Section} → Near s (c.at + c.count * 17) d → (d ≡ transition_section_of s) × ((d.at < 16777216) × (d.count < 65536))
  unfolding layout_of
  transitions_laid {d} nd = (next-section s 2 c d ranges_at nd.is, (omega arith, omega arith))

-- the ten sections, each after the one before it
abbrev pub layout_with : Section → Section → Section → Section → Section → Section → Section → Section → Section → Section → Layout
layout_with a b c d e f g h i j = record {
  points = a.at;
  point_count = a.count;
  bins = b.at;
  bin_count = b.count;
  ranges = c.at;
  range_count = c.count;
  transitions = d.at;
  transition_count = d.count;
  sequences = e.at;
  sequence_count = e.count;
  steps = f.at;
  step_count = f.count;
  step_ranges = g.at;
  step_range_count = g.count;
  crosses = h.at;
  cross_count = h.count;
  cross_bins = i.at;
  cross_bin_count = i.count;
  tokens = j.at;
  token_count = j.count;
}

module _ {s : List ℕ} {a b c d e f g h i j : Section} (na : Near s 0 a)
    (nb : Near s (a.at + a.count * 11) b)
    (nc : Near s (b.at + b.count * 8) c)
    (nd : Near s (c.at + c.count * 17) d)
    (ne : Near s (d.at + d.count * 4) e)
    (nf : Near s (e.at + e.count * 1) f)
    (ng : Near s (f.at + f.count * 3) g)
    (nh : Near s (g.at + g.count * 17) h)
    (ni : Near s (h.at + h.count * 13) i)
    (nj : Near s (i.at + i.count * 3) j) where
  laid_out : layout_with a b c d e f g h i j ≡ layout_of s
  unfolding layout_of
  laid_out =
      let ea : a ≡ section_of s 0 = na.is ∙ first-section s in
      let eb : b ≡ section_of s 1 = next-section s 0 a b ea nb.is in
      let ec : c ≡ section_of s 2 = next-section s 1 b c eb nc.is in
      let ed : d ≡ section_of s 3 = next-section s 2 c d ec nd.is in
      let ee : e ≡ section_of s 4 = next-section s 3 d e ed ne.is in
      let ef : f ≡ section_of s 5 = next-section s 4 e f ee nf.is in
      let eg : g ≡ section_of s 6 = next-section s 5 f g ef ng.is in
      let eh : h ≡ section_of s 7 = next-section s 6 g h eg nh.is in
      let ei : i ≡ section_of s 8 = next-section s 7 h i eh ni.is in
      let ej : j ≡ section_of s 9 = next-section s 8 i j ei nj.is in
      rw (ea, eb, ec, ed, ee, ef, eg, eh, ei, ej)

  laid_small : Small (layout_with a b c d e f g h i j)
  laid_small = record {
    points = omega arith;
    point_count = omega arith;
    bins = omega arith;
    bin_count = omega arith;
    ranges = omega arith;
    range_count = omega arith;
    transitions = omega arith;
    transition_count = omega arith;
    sequences = omega arith;
    sequence_count = omega arith;
    steps = omega arith;
    step_count = omega arith;
    step_ranges = omega arith;
    step_range_count = omega arith;
    crosses = omega arith;
    cross_count = omega arith;
    cross_bins = omega arith;
    cross_bin_count = omega arith;
    tokens = omega arith;
    token_count = omega arith;
  }

  pub laid : (layout_with a b c d e f g h i j ≡ layout_of s) × Small (layout_with a b c d e f g h i j)
  laid = (laid_out, laid_small)

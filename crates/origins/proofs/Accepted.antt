-- An accepted table: the origins of its cover bins, by the places of its bytes.
-- Assumes nothing.
use mathlib.Core.Path.{◌≡◌, sym, ap, ap₂, ◌∙◌, subst}
use mathlib.Core.Bool.{Bool, true}
use mathlib.Core.List.{List, ◌++◌, map}
use Prim.Native.Nat.{ℕ, ◌+◌, ◌*◌, ◌≤◌, ◌<◌}
use native.Mathlib.Omega.{arith}
use lib.ListN.{length, replicate, length-map}
use Rattle.model.specs.Table.{Point, ValueBin, Table}
use Rattle.model.specs.Values.{lowest}
use Rattle.model.specs.Counters.{point_at, has_auto, value_counters, point_counters}
use Rattle.model.specs.Format.{point_record, decode, decoded, accepted, table_of}
use Rattle.model.specs.Raw.{bins_at}
use Rattle.model.specs.Register.{point_total}
use Rattle.model.proofs.Sections.{accepted_decodes}
use Rattle.model.proofs.WellFormed.{WellFormed, well-formed}
use Rattle.model.proofs.Limits.{covers_fewer}
use Rattle.model.proofs.RawExact.{raw-exact, many_points}
use Rattle.ranges.specs.Types.{Wide}
use Rattle.layout.specs.Places.{layout_of}
use Rattle.layout.specs.declared.Layout.{Layout}
use Rattle.arrays.specs.Flat.{covers, origin}
use Rattle.values.specs.Counts.{autos_of}
use Rattle.values.specs.Points.{has_auto_at}
use Rattle.values.proofs.PointExact.{auto_raw, point_raw, few_counters, few_values, bins_raw}
use Rattle.values.proofs.Ready.{all_near, wide}
use Rattle.spans.specs.declared.collects.Bins.{Bins}
use Rattle.spans.specs.Part.{PartOf, OwnPart}
use Rattle.spans.proofs.PartLaws.{part_auto}
use Rattle.origins.specs.Points.{origins_in, first_of, point_origins}
use Rattle.origins.proofs.OriginLaws.{part_first, part-origins}
use Rattle.origins.proofs.Exact.{covers-origins}

module _ (s : List ℕ) (ok : accepted s ≡ true) where
  abbrev T : Table
  T = table_of s

  e : decode s ≡ decoded T
  e = accepted_decodes s ok

  w : WellFormed T
  w = well-formed s T e

  pub points_read : (l : Layout) → l ≡ layout_of s → l.point_count ≡ point_total (table_of s)
  unfolding layout_of
  points_read l el = ap (λ (x : Layout). x.point_count) el ∙ sym (many_points s ok)

  module _ (p : ℕ) (inside : p < point_total (table_of s)) where
    pub few_covers : length (covers (table_of s) p) ≤ 256
    unfolding covers
    few_covers = omega (arith, covers_fewer (point_counters T p), few_counters s T e p inside)

    few : length (value_counters T p 0 T.value_bins) ≤ 256
    few = few_values s T e p inside

    module _ (l : Layout) (el : l ≡ layout_of s) where
      point_is : point_at (table_of s) p ≡ point_record s (l.points + 11 * p)
      unfolding layout_of
      point_is = point_raw s T e p inside ∙ ap (λ (x : Layout). point_record s (x.points + 11 * p)) (sym el)

      bins_are : T.value_bins ≡ bins_at s l.bins l.ranges l.bin_count
      unfolding layout_of
      bins_are = bins_raw s T e p inside ∙ ap (λ (x : Layout). bins_at s x.bins x.ranges x.bin_count) (sym el)

      auto-is : has_auto T p ≡ has_auto_at s p l.bins l.bin_count l.transitions l.transition_count
      unfolding layout_of
      auto-is =
          ap (λ (u : Table). has_auto u p) (raw-exact s T e) ∙ auto_raw s p
          ∙ ap (λ (x : Layout). has_auto_at s p x.bins x.bin_count x.transitions x.transition_count) (sym el)

      pub wide_at : Wide s (l.points + 11 * p)
      unfolding layout_of
      wide_at = subst (λ (x : Layout). Wide s (x.points + 11 * p)) (sym el) (wide s T e p inside)

      module _ (own : Bins) (o : OwnPart s p own.bins own.ranges own.count) where
        part : PartOf s p l.bins l.ranges l.bin_count own.bins own.ranges own.count
        unfolding layout_of
        part = subst (λ (x : Layout). PartOf s p x.bins x.ranges x.bin_count own.bins own.ranges own.count) (sym el) o

        few_bins : l.bin_count ≤ 512
        unfolding layout_of
        few_bins = subst (λ (x : Layout). x.bin_count ≤ 512) (sym el) (all_near s T e p inside).few_bins

        pub own-after : l.bins ≤ own.bins
        own-after = omega (arith, part.place)

        pub own-few : first_of l own + own.count ≤ 512
        own-few = omega (arith, part_first s 0 p l.bins l.ranges l.bin_count own.bins own.ranges own.count part, part.few, few_bins)

        pub origins-are : map origin (covers (table_of s) p) ≡ point_origins s l own p
        unfolding point_origins
        origins-are =
            let q = point_record s (l.points + 11 * p) in
            covers-origins T p w few
            ∙ ap₂ (λ (x : Point) (bs : List ValueBin). origins_in (lowest x) p 0 bs ++ replicate (autos_of (has_auto T p) x) 65535) point_is bins_are
            ∙ sym
            (ap₂ (λ (xs : List ℕ) (c : Bool). xs ++ replicate (autos_of c q) 65535)
            (part-origins s (lowest q) p l.bins l.ranges l.bin_count own.bins own.ranges own.count part)
            (part_auto s p l.bins l.ranges l.bin_count own.bins own.ranges own.count part l.transitions l.transition_count ∙ sym auto-is))

        pub origins-count : length (point_origins s l own p) ≡ length (covers (table_of s) p)
        origins-count = ap length (sym origins-are) ∙ length-map (covers T p) origin

-- What the code asks of a table's places and readings, and an accepted table grants.
-- Assumes nothing.
use mathlib.Core.Path.{◌≡◌, refl, ap, ◌∙◌, subst}
use mathlib.Core.Bool.{Bool, true, false, ◌&&◌, cond}
use mathlib.Core.List.{List}
use Prim.Native.Nat.{ℕ, ◌+◌, ◌-◌, ◌*◌, ◌^◌, ◌≤◌, ◌<◌}
use native.Mathlib.Omega.{arith}
use lib.Dec.{leb}
use lib.ListN.{length}
use lib.Pow.{pow_mono}
use borrow.Author.Tests.{leb-true, leb-false}
use Rattle.model.specs.Table.{Point, Table}
use Rattle.model.specs.Values.{bias, read_value, highest}
use Rattle.model.specs.Format.{u16, point_record, decode, decoded}
use Rattle.model.specs.Raw.{count_place, record_count, records_place, raw_table}
use Rattle.model.proofs.Sections.{acceptance}
use Rattle.model.proofs.Access.{bins_access}
use Rattle.model.proofs.WellFormed.{GoodPoint, well-formed}
use Rattle.model.proofs.TableExact.{point_at_lem, pow_half}
use Rattle.model.proofs.RawLaws.{length-rows}
use Rattle.model.proofs.RawExact.{next_place_lem, raw-exact, sections-whole}
use Rattle.model.proofs.RawValues.{length-bins}
use Rattle.ranges.specs.Types.{Wide}
use Rattle.values.specs.Points.{Near}
use Rattle.values.proofs.PointExact.{point_raw, bins_raw}

-- ---- readings

pub read-top : (p : Point) → GoodPoint p → (bits : ℕ) → bits < 2 ^ p.width → read_value p bits ≤ highest p
read-top p g bits h = go p.signed (leb (2 ^ (p.width - 1)) bits) refl
  where
    w : ℕ
    w = p.width

    go : (signed high : Bool) → leb (2 ^ (w - 1)) bits ≡ high → cond (signed && high) (bits + bias - 2 ^ w) (bits + bias) ≤ cond signed (bias - 2 ^ (w - 1)) bias + 2 ^ w - 1
    go false high e = omega arith
    go true false e = omega (arith, leb-false (2 ^ (w - 1)) bits e, pow_half w g.wide, pow_mono {i = w - 1} {j = 31} (omega (arith, g.narrow)))
    go true true e = omega (arith, leb-true (2 ^ (w - 1)) bits e, pow_half w g.wide, pow_mono {i = w - 1} {j = 31} (omega (arith, g.narrow)))

-- ---- places

module _ (s : List ℕ) (t : Table) (e : decode s ≡ decoded t) (p : ℕ) (inside : p < length t.points) where
  many : length t.points ≡ record_count s 0
  unfolding raw_table
  many = ap (λ (u : Table). length u.points) (raw-exact s t e) ∙ length-rows (point_record s) 11 (records_place s 0) (record_count s 0)

  pub all_near : Near (records_place s 0 + 11 * p) (records_place s 1) (records_place s 2) (record_count s 1) (records_place s 3) (record_count s 3)
  unfolding records_place record_count
  all_near =
      let a = acceptance s t e in
      let whole = sections-whole s t e in
      let p₀ = next_place_lem s 0 11 refl in
      let p₁ = next_place_lem s 1 8 refl in
      let p₂ = next_place_lem s 2 17 refl in
      let p₃ = next_place_lem s 3 4 refl in
      let p₄ = next_place_lem s 4 1 refl in
      let p₅ = next_place_lem s 5 3 refl in
      let p₆ = next_place_lem s 6 17 refl in
      let p₇ = next_place_lem s 7 13 refl in
      let p₈ = next_place_lem s 8 3 refl in
      let p₉ = next_place_lem s 9 20 refl in
      let top : count_place s 4 ≤ 65536 = omega (arith, a.short) in
      record {
        point_near = omega (arith, many);
        bins_near = omega arith;
        ranges_near = omega arith;
        few_bins = omega (arith, (bins_access s t (length s) a.layout).0.high, ap length (bins_raw s t e p inside), length-bins s (records_place s 1) (records_place s 2) (record_count s 1));
        transitions_near = omega arith;
        few_transitions = omega arith;
      }

  good_record : GoodPoint (point_record s (records_place s 0 + 11 * p))
  good_record = subst GoodPoint (point_raw s t e p inside) (point_at_lem t (well-formed s t e) p)

  pub wide : Wide s (records_place s 0 + 11 * p)
  wide = record { low = good_record.wide; high = good_record.narrow }

  pub some_auto_lem : 1 ≤ u16 s (records_place s 0 + 11 * p + 9)
  some_auto_lem = good_record.some_auto

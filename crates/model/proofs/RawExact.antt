-- What is read of a table is the raw table, and its sections stand where the counts say.
-- Assumes nothing.
use mathlib.Core.Path.{◌≡◌, refl, sym, ap, ◌∙◌}
use mathlib.Core.List.{List}
use mathlib.Core.Bool.{true}
use Prim.Native.Nat.{ℕ, suc, ◌+◌, ◌*◌, ◌≤◌}
use native.Mathlib.Omega.{arith}
use native.Mathlib.Nat.{mul_comm}
use lib.ListN.{length, get_or}
use Rattle.model.specs.Table.{Point, Table}
use Rattle.model.specs.Format.{u16, record_sizes, BinHead, bin_head, read_point_section, read_bin_section, read_range_section, read_transition_bins, read_crosses, read_table, decode, decoded, point_record, accepted, table_of}
use Rattle.model.specs.Raw.{count_place, record_count, records_place, rows, raw_table}
use Rattle.model.proofs.Sections.{acceptance, accepted_decodes, accepted-layout}
use Rattle.model.proofs.RawLaws.{Says, says-to, says_bind, says-got, length-rows}
use Rattle.model.proofs.RawValues.{points_raw, bins_raw, ranges_raw}
use Rattle.model.proofs.RawTransitions.{transition-bins_raw}
use Rattle.model.proofs.RawCrosses.{read-crosses_raw, length-crosses}
use Rattle.model.proofs.Access.{points_access}
use Rattle.model.proofs.AccessCrosses.{crosses_access}

module _ (s : List ℕ) where
  -- a section ends where the next one's count stands
  pub next_place_lem : (k size : ℕ) → get_or record_sizes k 0 ≡ size → count_place s k + 2 + size * u16 s (count_place s k) ≡ count_place s (suc k)
  unfolding count_place
  next_place_lem k size e =
      ap (λ (n : ℕ). count_place s k + 2 + n) (ap (λ (n : ℕ). n * u16 s (count_place s k)) (sym e) ∙ mul_comm (get_or record_sizes k 0) (u16 s (count_place s k)))

  pub points_placed : Says (read_point_section s 0) (raw_table s).points (count_place s 1) (length s)
  unfolding raw_table records_place record_count count_place
  points_placed = says-to _ _ _ _ _ (next_place_lem 0 11 refl) (points_raw s 0)

  abbrev pub heads : List BinHead
  heads = rows (bin_head s) 8 (records_place s 1) (record_count s 1)

  pub bins_placed : (points : ℕ) → Says (read_bin_section s points (count_place s 1)) heads (count_place s 2) (length s)
  unfolding records_place record_count
  bins_placed points = says-to _ _ _ _ _ (next_place_lem 1 8 refl) (bins_raw s points (count_place s 1))

  pub ranges_placed : (ps : List Point) → Says (read_range_section s ps heads (count_place s 2)) (raw_table s).value_bins (count_place s 3) (length s)
  unfolding raw_table records_place record_count
  ranges_placed ps = says-to _ _ _ _ _ (next_place_lem 2 17 refl) (ranges_raw s ps (count_place s 1 + 2) (u16 s (count_place s 1)) (count_place s 2))

  pub transitions_placed : (ps : List Point) → Says (read_transition_bins s ps (count_place s 3)) (raw_table s).transition_bins (count_place s 7) (length s)
  unfolding raw_table records_place record_count
  transitions_placed ps =
      let e : count_place s 4 + 2 + u16 s (count_place s 4) ≡ count_place s 5 = omega (arith, next_place_lem 4 1 refl) in
      rw (next_place_lem 3 4 refl, e, next_place_lem 5 3 refl, next_place_lem 6 17 refl) at (transition-bins_raw s ps (count_place s 3))

  pub crosses_placed : (ps : List Point) (bins : List BinHead) → Says (read_crosses s ps bins (count_place s 7)) (raw_table s).crosses (count_place s 10) (length s)
  unfolding raw_table records_place record_count
  crosses_placed ps bins = rw (next_place_lem 7 13 refl, next_place_lem 8 3 refl, next_place_lem 9 20 refl) at (read-crosses_raw s ps bins (count_place s 7))

  -- the whole table
  pub table_placed : Says (read_table s 0) (raw_table s) (count_place s 10) (length s)
  unfolding read_table
  table_placed =
      says_bind (read_point_section s) _ 0 (raw_table s).points (count_place s 1) _ _ (length s) points_placed
      λ h. says_bind (read_bin_section s (length (raw_table s).points)) _ (count_place s 1) heads (count_place s 2) _ _ (length s) (bins_placed (length (raw_table s).points))
      λ h. says_bind (read_range_section s (raw_table s).points heads) _ (count_place s 2) (raw_table s).value_bins (count_place s 3) _ _ (length s) (ranges_placed (raw_table s).points)
      λ h. says_bind (read_transition_bins s (raw_table s).points) _ (count_place s 3) (raw_table s).transition_bins (count_place s 7) _ _ (length s) (transitions_placed (raw_table s).points)
      λ h. says_bind (read_crosses s (raw_table s).points heads) _ (count_place s 7) (raw_table s).crosses (count_place s 10) _ _ (length s) (crosses_placed (raw_table s).points heads)
      λ h. says-got (raw_table s) (count_place s 10) (length s) h

-- The decoded table is the raw one, and the ten sections are the whole of the bytes.
pub raw-exact : (s : List ℕ) (t : Table) → decode s ≡ decoded t → t ≡ raw_table s
raw-exact s t e = (table_placed s t (length s) (acceptance s t e).read).0

pub sections-whole : (s : List ℕ) (t : Table) → decode s ≡ decoded t → length s ≡ count_place s 10
sections-whole s t e = (table_placed s t (length s) (acceptance s t e).read).1

-- ---- an accepted table

module _ (s : List ℕ) (ok : accepted s ≡ true) where
  pub accepted_raw : table_of s ≡ raw_table s
  accepted_raw = raw-exact s (table_of s) (accepted_decodes s ok)

  pub many_points : length (table_of s).points ≡ record_count s 0
  unfolding raw_table
  many_points = ap (λ (u : Table). length u.points) accepted_raw ∙ length-rows (point_record s) 11 (records_place s 0) (record_count s 0)

  pub many_crosses : length (table_of s).crosses ≡ record_count s 7
  unfolding raw_table
  many_crosses = ap (λ (u : Table). length u.crosses) accepted_raw ∙ length-crosses s _ _ _ (record_count s 7)

  pub few_points : length (table_of s).points ≤ 16
  few_points = (points_access s (table_of s) (length s) (accepted-layout s ok)).0.high

  pub few_crosses : length (table_of s).crosses ≤ 8
  few_crosses = (crosses_access s (table_of s) (length s) (accepted-layout s ok)).0.high

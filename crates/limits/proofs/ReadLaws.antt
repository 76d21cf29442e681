-- What is known of bytes that passed every test before refusal 6.
-- Assumes nothing.
use mathlib.Core.Path.{refl, ◌∙◌, subst}
use mathlib.Core.List.{List}
use Prim.Native.Nat.{ℕ, ◌+◌, ◌*◌, ◌≤◌, ◌<◌}
use native.Mathlib.Omega.{arith}
use lib.ListN.{length, length-map, get_or-map}
use borrow.Author.Tests.{ltb-true}
use Rattle.model.specs.Table.{no_value_bin, no_transition_bin}
use Rattle.model.specs.Format.{BinHead, TransitionHead, bin_rules}
use Rattle.model.specs.Raw.{raw_table, records_place, record_count}
use Rattle.model.proofs.Readers.{All}
use Rattle.model.proofs.RawExact.{next_place_lem, table_placed}
use Rattle.model.proofs.Sections.{Layout, layout}
use Rattle.model.proofs.WellFormed.{WellFormed, layout_well-formed}
use Rattle.model.proofs.Access.{bins_access}
use Rattle.model.proofs.AccessTransitions.{transitions_access, transition_head_of}
use Rattle.limits.specs.Walks.{Readable}
use Rattle.limits.proofs.RowLaws.{all_by-number}

module _ (s : List ℕ) (known : Readable s) where
  pub read_layout : Layout s (raw_table s) (length s)
  read_layout = layout s (raw_table s) (length s) known.0

  pub read_well : WellFormed (raw_table s)
  read_well = layout_well-formed s (raw_table s) (length s) read_layout

  -- the value bins are inside the table, as all sections are
  pub bins_inside : records_place s 1 + 8 * record_count s 1 ≤ length s
  unfolding records_place record_count
  bins_inside =
      let end = (table_placed s (raw_table s) (length s) known.0).2 in
      omega (arith, end, next_place_lem s 1 8 refl, next_place_lem s 2 17 refl, next_place_lem s 3 4 refl, next_place_lem s 4 1 refl, next_place_lem s 5 3 refl, next_place_lem s 6 17 refl, next_place_lem s 7 13 refl, next_place_lem s 8 3 refl, next_place_lem s 9 20 refl)

  pub bin_points : All (λ v. v.point < length (raw_table s).points) (raw_table s).value_bins
  unfolding bin_rules
  bin_points = all_by-number (λ v. v.point < length (raw_table s).points) no_value_bin (raw_table s).value_bins λ i h.
      let r = (bins_access s (raw_table s) (length s) read_layout).2 i h in
      subst (λ (x : BinHead). x.bin.point < length (raw_table s).points) r.said (ltb-true _ _ r.passed.0)

  pub transition_points : All (λ v. v.point < length (raw_table s).points) (raw_table s).transition_bins
  transition_points = all_by-number (λ v. v.point < length (raw_table s).points) no_transition_bin (raw_table s).transition_bins λ i h.
      let r = (transitions_access s (raw_table s) (length s) read_layout).2.record_at i (omega (arith, length-map (raw_table s).transition_bins transition_head_of)) in
      subst (λ (x : TransitionHead ℕ). x.point < length (raw_table s).points) (r.said ∙ (get_or-map transition_head_of (raw_table s).transition_bins i no_transition_bin)) (ltb-true _ _ r.passed.0)

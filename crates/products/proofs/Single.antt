-- In an accepted table the tokens of each cross bin are one expression.
-- Assumes nothing.
use mathlib.Core.Path.{◌≡◌, refl, sym, ap, ap₂, ◌∙◌}
use mathlib.Core.List.{List, [], ◌∷◌}
use mathlib.Core.Option.{Option, some}
use Prim.Native.Nat.{ℕ, zero, suc, ◌+◌, ◌*◌, ◌≤◌}
use native.Mathlib.Omega.{arith}
use lib.ListN.{length}
use Rattle.model.specs.Table.{Point, Select, CrossBin, Cross, Table}
use Rattle.model.specs.Format.{BinHead, got, byte, u16, each, cross_points, cross_head, cross_bin_head, CrossParts, CrossBinHead, token_tests, token_record, read_token, expressions, read_select, read_selects, read_bin_section, read_range_section, read_transition_bins, read_cross_bin_section, read_token_section, read_crosses, read_table, decode, decoded}
use Rattle.model.specs.Raw.{count_place, record_count, records_place, rows, only_of, select_at, token_total, cross_bin_heads_at, cross_heads_at}
use Rattle.model.proofs.Readers.{bind_elim, got_record, Consed, consed, got-cons}
use Rattle.model.proofs.Sections.{acceptance}
use Rattle.model.proofs.AccessCrosses.{one-expression}
use Rattle.model.proofs.RawLaws.{says-times}
use Rattle.model.proofs.RawCrosses.{select_of, cross_of_lem, crosses_raw, cross-bins_raw, cross_bins_from, tokens_from}
use Rattle.model.proofs.RawExact.{next_place_lem, points_placed, bins_placed, ranges_placed, transitions_placed}
use Rattle.products.specs.Single.{Single, BinsSingle, CrossesSingle}

one_found : (o : Option (List Select)) (e : Select) → o ≡ some (e ∷ []) → o ≡ some (only_of o ∷ [])
one_found o e z = z ∙ ap (λ (x : Select). some (x ∷ [])) (sym (ap only_of z))

module _ (s : List ℕ) (ps : List Point) (bins : List BinHead) where
  single : (points : List ℕ) (b k : ℕ) → k ≤ length s → (x : CrossBin) (next : ℕ) → read_select s ps bins (cross_bin_head s points b) k ≡ got x next → Single s k (byte s (b + 2))
  unfolding read_select read_token select_at Single
  single points b k h x next e =
      bind_elim _ _ _ e λ ks end e₁ e₂.
      bind_elim _ _ _ e₂ λ f end' e₃ e₄.
      let r = says-times s 20 (token_tests s ps bins points) (token_record s) (byte s (b + 2)) k h ks end e₁ in
      one_found (expressions (rows (token_record s) 20 k (byte s (b + 2)))) f (ap expressions (sym r.0) ∙ (one-expression (expressions ks) end f end' e₃).0)

  bins_single : (c n b k : ℕ) → k ≤ length s → (xs : List CrossBin) (end : ℕ) → each (read_select s ps bins) (cross_bin_heads_at s c b n) k ≡ got xs end → BinsSingle s b k n
  unfolding each rows BinsSingle
  bins_single c zero b k h xs end e = tt
  bins_single c (suc n) b k h xs end e =
      go (got-cons (read_select s ps bins (cross_bin_head s (cross_points s c) b) k) (each (read_select s ps bins) (cross_bin_heads_at s c (b + 3) n)) e)
      (bins_single c n (b + 3) (k + 20 * byte s (b + 2)))
    where
      go : Consed (read_select s ps bins (cross_bin_head s (cross_points s c) b) k) (each (read_select s ps bins) (cross_bin_heads_at s c (b + 3) n)) xs end
          → (k + 20 * byte s (b + 2) ≤ length s → (xs : List CrossBin) (end : ℕ) → each (read_select s ps bins) (cross_bin_heads_at s c (b + 3) n) (k + 20 * byte s (b + 2)) ≡ got xs end
          → BinsSingle s (b + 3) (k + 20 * byte s (b + 2)) n)
          → Single s k (byte s (b + 2)) × BinsSingle s (b + 3) (k + 20 * byte s (b + 2)) n
      go (consed a next others e₁ e₂ z) ih =
          let r = select_of s ps bins c b k h a next e₁ in
          (single (cross_points s c) b k h a next e₁, ih r.2 others end (ap (each (read_select s ps bins) (cross_bin_heads_at s c (b + 3) n)) (sym r.1) ∙ e₂))

  cross_single : (c b k : ℕ) → k ≤ length s → (x : Cross) (next : ℕ)
      → read_selects s ps bins (record { head = cross_head s c; bins = cross_bin_heads_at s c b (byte s (c + 12)) }) k ≡ got x next → BinsSingle s b k (byte s (c + 12))
  unfolding read_selects
  cross_single c b k h x next e = bind_elim _ _ _ e λ bs end e₁ e₂. bins_single c (byte s (c + 12)) b k h bs end e₁

  abbrev parts_at : ℕ → ℕ → CrossParts CrossBinHead
  parts_at c b = record { head = cross_head s c; bins = cross_bin_heads_at s c b (byte s (c + 12)) }

  crosses_single : (n c b k : ℕ) → k ≤ length s → (xs : List Cross) (end : ℕ) → each (read_selects s ps bins) (cross_heads_at s c b n) k ≡ got xs end → CrossesSingle s c b k n
  unfolding each cross_heads_at CrossesSingle
  crosses_single zero c b k h xs end e = tt
  crosses_single (suc n) c b k h xs end e =
      go (got-cons (read_selects s ps bins (parts_at c b) k) (each (read_selects s ps bins) (cross_heads_at s (c + 13) (b + 3 * byte s (c + 12)) n)) e)
      (crosses_single n (c + 13) (b + 3 * byte s (c + 12)) (k + 20 * token_total s b (byte s (c + 12))))
    where
      go : Consed (read_selects s ps bins (parts_at c b) k) (each (read_selects s ps bins) (cross_heads_at s (c + 13) (b + 3 * byte s (c + 12)) n)) xs end
          → (k + 20 * token_total s b (byte s (c + 12)) ≤ length s → (xs : List Cross) (end : ℕ)
          → each (read_selects s ps bins) (cross_heads_at s (c + 13) (b + 3 * byte s (c + 12)) n) (k + 20 * token_total s b (byte s (c + 12))) ≡ got xs end
          → CrossesSingle s (c + 13) (b + 3 * byte s (c + 12)) (k + 20 * token_total s b (byte s (c + 12))) n)
          → BinsSingle s b k (byte s (c + 12)) × CrossesSingle s (c + 13) (b + 3 * byte s (c + 12)) (k + 20 * token_total s b (byte s (c + 12))) n
      go (consed a next others e₁ e₂ z) ih =
          let r = cross_of_lem s ps bins c b k h a next e₁ in
          (cross_single c b k h a next e₁, ih r.2 others end (ap (each (read_selects s ps bins) (cross_heads_at s (c + 13) (b + 3 * byte s (c + 12)) n)) (sym r.1) ∙ e₂))

  -- sections 8 to 10, the first count at `at`
  read_single : (at : ℕ) (cs : List Cross) (end : ℕ) → read_crosses s ps bins at ≡ got cs end → CrossesSingle s (at + 2) (cross_bins_from s at + 2) (tokens_from s at + 2) (u16 s at)
  unfolding read_crosses read_token_section
  read_single at cs end e =
      bind_elim _ _ _ e λ hs n₉ e₁ r₁.
      bind_elim _ _ _ r₁ λ xs n₁₀ e₂ r₂.
      bind_elim _ _ _ r₂ λ m k e₃ r₃.
      let a = crosses_raw s (length ps) at hs n₉ e₁ in
      let b = cross-bins_raw s (at + 2) (u16 s at) (cross_bins_from s at) xs n₁₀ (ap₂ (read_cross_bin_section s) (sym a.0) (sym a.1) ∙ e₂) in
      let c = got_record s 2 _ (u16 s) n₁₀ e₃ in
      let place : k ≡ tokens_from s at + 2 = c.ends ∙ ap (λ (x : ℕ). x + 2) b.1 in
      let room : tokens_from s at + 2 ≤ length s = omega (arith, c.whole, b.1) in
      crosses_single (u16 s at) (at + 2) (cross_bins_from s at + 2) (tokens_from s at + 2) room cs end (ap₂ (each (read_selects s ps bins)) (sym b.0) (sym place) ∙ r₃)

-- the whole table
pub accepted-single : (s : List ℕ) (t : Table) → decode s ≡ decoded t → CrossesSingle s (records_place s 7) (records_place s 8) (records_place s 9) (record_count s 7)
unfolding read_table records_place record_count
accepted-single s t e =
    bind_elim _ _ _ (acceptance s t e).read λ ps n₁ e₁ r₁.
    bind_elim _ _ _ r₁ λ hs n₂ e₂ r₂.
    bind_elim _ _ _ r₂ λ bs n₃ e₃ r₃.
    bind_elim _ _ _ r₃ λ ts n₄ e₄ r₄.
    bind_elim _ _ _ r₄ λ cs n₅ e₅ r₅.
    let a₁ = points_placed s ps n₁ e₁ in
    let a₂ = bins_placed s (length ps) hs n₂ (ap (read_bin_section s (length ps)) (sym a₁.1) ∙ e₂) in
    let a₃ = ranges_placed s ps bs n₃ (ap₂ (read_range_section s ps) (sym a₂.0) (sym a₂.1) ∙ e₃) in
    let a₄ = transitions_placed s ps ts n₄ (ap (read_transition_bins s ps) (sym a₃.1) ∙ e₄) in
    let found = read_single s ps hs (count_place s 7) cs n₅ (ap (read_crosses s ps hs) (sym a₄.1) ∙ e₅) in
    rw (next_place_lem s 7 13 refl, next_place_lem s 8 3 refl) at found

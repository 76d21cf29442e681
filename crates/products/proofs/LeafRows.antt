-- The rows of the leaves.
-- Assumes nothing.
use mathlib.Core.Path.{◌≡◌, refl, ap, ap₂, sym, ◌∙◌}
use mathlib.Core.Bool.{Bool, true, false}
use mathlib.Core.List.{List, [], ◌∷◌, map}
use Prim.Native.Nat.{ℕ, zero, suc, ◌+◌, ◌*◌, ◌≤◌, ◌<◌}
use native.Mathlib.Omega.{arith}
use lib.Dec.{eqb, leb}
use lib.ListN.{length, get_or, drop, replicate, length-map, length-replicate, get_or-replicate}
use lib.Seq.{get_or-drop}
use borrow.Author.Tests.{eqb-true, eq-eqb, ne_eqb, leb-true, leb-false}
use Rattle.model.specs.Lists.{as_bit}
use Rattle.model.specs.Table.{Table}
use Rattle.model.specs.Values.{field_value}
use Rattle.model.specs.Counters.{CoverBin, listed, auto, no_cover_bin, is_from, meets}
use Rattle.model.specs.Format.{byte, u16, u64, table_of}
use Rattle.model.specs.Register.{point_total}
use Rattle.model.proofs.Booleans.{bool_eq}
use Rattle.model.proofs.Lists.{length-row, get_d-row, get_d_map}
use Rattle.arrays.specs.Put.{put}
use Rattle.arrays.specs.Flat.{covers, origin, Origins}
use Rattle.arrays.proofs.PutLaws.{put_in, put-before}
use Rattle.meets.specs.Pieces.{met_bit, met_bits}
use Rattle.meets.proofs.PlanLaws.{few_covers}
use Rattle.products.specs.Told.{leaf_bit}
use Rattle.products.specs.Tokens.{token_point, token_bit, RowTold, RowsTold, Kept, named_bit, named_from, Ready, Legal}
use Rattle.products.specs.Shapes.{sizes_of}
use Rattle.products.specs.declared.shapes.Shape.{Shape}

-- ---- a row of names

same_test : (a b : ℕ) → eqb a b ≡ eqb b a
same_test a b = bool_eq _ _ (λ e. eq-eqb b a (sym (eqb-true a b e))) (λ e. eq-eqb a b (sym (eqb-true b a e)))

origin-from : (b : ℕ) (c : CoverBin) → b < 65535 → eqb (origin c) b ≡ is_from b c
origin-from b (listed b' k) h = same_test b' b
origin-from b (auto p k) h = ne_eqb 65535 b (λ e. omega arith)

-- ---- the row of one token

module _ (t : Table) (s : List ℕ) (c at row : ℕ) (l l' : List ℕ) (room : row + 256 ≤ length l) where
  abbrev mine : List CoverBin
  mine = covers t (token_point s c at)

  told : (xs : List ℕ) → l' ≡ put row xs l
      → ((d : ℕ) → d < length mine → (d < length xs) × (get_or xs d 0 ≡ token_bit t s at (get_or mine d no_cover_bin)))
      → RowTold t s c at row l' × Kept row l l'
  unfolding RowTold Kept
  told xs e f = (
    (λ d h. ap (λ (x : List ℕ). get_or x (row + d) 0) e ∙ put_in row xs l d 0 (omega arith) (f d h).0 ∙ (f d h).1),
    (λ i h. ap (λ (x : List ℕ). get_or x i 0) e ∙ put-before row xs l i 0 (omega arith) h),
  )

  -- n bytes for the point's n cover bins
  module _ (n : ℕ) (en : n ≡ length (covers t (token_point s c at))) where
    pub row_named : (lists : List ℕ) (b p : ℕ) → p ≡ token_point s c at → b ≡ u16 s (at + 2) → byte s at ≡ 1 → u16 s (at + 2) < 65535
        → token_point s c at < point_total t → Origins t (drop 64 lists) → l' ≡ put row (named_from lists b (64 + 256 * p) n) l → RowTold t s c at row l' × Kept row l l'
    unfolding named_from Origins
    row_named lists b p ep eb op small inside from e =
        told (named_from lists b (64 + 256 * p) n) e λ d h. (
          omega (arith, length-row (named_bit lists b) (64 + 256 * p) n),
          get_d-row (named_bit lists b) (64 + 256 * p) n d 0 (omega arith)
              ∙ ap₂ (λ (x y : ℕ). as_bit (eqb (get_or lists (64 + 256 * x + d) 0) y)) ep eb
              ∙ ap (λ (x : ℕ). as_bit (eqb (get_or lists x 0) (u16 s (at + 2)))) (let z : 64 + 256 * token_point s c at + d ≡ 64 + (256 * token_point s c at + d) = omega arith in z)
              ∙ ap (λ (x : ℕ). as_bit (eqb x (u16 s (at + 2)))) (sym (get_or-drop 64 lists (256 * token_point s c at + d) 0))
              ∙ ap (λ (x : ℕ). as_bit (eqb x (u16 s (at + 2)))) (from (token_point s c at) d inside h)
              ∙ ap as_bit (origin-from (u16 s (at + 2)) (get_or mine d no_cover_bin) small)
              ∙ sym (named (get_or mine d no_cover_bin)),
        )
      where
        named : (x : CoverBin) → token_bit t s at x ≡ as_bit (is_from (u16 s (at + 2)) x)
        named x = rw op

    pub row_same : (v : ℕ) → v ≡ as_bit (eqb (byte s at) 0) → (byte s at ≡ 1 → ⊥) → (byte s at ≡ 2 → ⊥) → l' ≡ put row (replicate n v) l → RowTold t s c at row l' × Kept row l l'
    row_same v ev n₁ n₂ e =
        told (replicate n v) e λ d h. (
          omega (arith, length-replicate {A = ℕ} n v),
          get_or-replicate n d v 0 (omega arith) ∙ ev ∙ sym (other (byte s at) n₁ n₂ (get_or mine d no_cover_bin)),
        )
      where
        other : (op : ℕ) → (op ≡ 1 → ⊥) → (op ≡ 2 → ⊥) → (x : CoverBin) → leaf_bit (meets t) (x ∷ []) op 0 (u16 s (at + 2)) (field_value (u64 s (at + 4))) (field_value (u64 s (at + 12))) ≡ as_bit (eqb op 0)
        other zero n₁ n₂ x = refl
        other (suc zero) n₁ n₂ x = absurd (n₁ refl)
        other (suc (suc zero)) n₁ n₂ x = absurd (n₂ refl)
        other (suc (suc (suc n))) n₁ n₂ x = sym (ap as_bit (ne_eqb (suc (suc (suc n))) 0 (λ z. omega arith)))

  pub row_meets : (lo hi p : ℕ) → p ≡ token_point s c at → lo ≡ field_value (u64 s (at + 4)) → hi ≡ field_value (u64 s (at + 12)) → byte s at ≡ 2
      → l' ≡ put row (met_bits t p lo hi) l → RowTold t s c at row l' × Kept row l l'
  unfolding met_bits
  row_meets lo hi p ep el eh op e =
      told (map (met_bit t lo hi) (covers t (token_point s c at))) (e ∙ ap (λ (x : ℕ). put row (map (met_bit t lo hi) (covers t x)) l) ep) λ d h. (
        omega (arith, length-map (covers t (token_point s c at)) (met_bit t lo hi)),
        get_d_map (met_bit t lo hi) mine d no_cover_bin 0 h
            ∙ ap₂ (λ (x y : ℕ). as_bit (meets t (get_or mine d no_cover_bin) x y)) el eh
            ∙ sym (meeting (get_or mine d no_cover_bin)),
      )
    where
      meeting : (x : CoverBin) → token_bit t s at x ≡ as_bit (meets t x (field_value (u64 s (at + 4))) (field_value (u64 s (at + 12))))
      meeting x = rw op

-- ---- the point of a token

module _ (s : List ℕ) (c at : ℕ) (x : Shape) (plan lists : List ℕ) (ready : Ready s c x plan lists) (legal : Legal s c at) where
  pub point_inside : token_point s c at < point_total (table_of s)
  point_inside = ready.points (byte s (at + 1)) legal.position

  pub parts_few : length (covers (table_of s) (token_point s c at)) ≤ 256
  parts_few = few_covers s ready.whole (token_point s c at) point_inside

  pub parts_are : (i n : ℕ) → i ≡ byte s (at + 1) → n ≡ get_or (sizes_of x) i 1 → n ≡ length (covers (table_of s) (token_point s c at))
  parts_are i n ei en = en ∙ ap (λ (y : ℕ). get_or (sizes_of x) y 1) ei ∙ ready.sizes (byte s (at + 1)) legal.position

-- ---- the rows of some tokens

pub no_rows : (t : Table) (s : List ℕ) (c k : ℕ) (l : List ℕ) → RowsTold t s c k 0 l
unfolding RowsTold
no_rows t s c k l j h = absurd (let z : j < 0 = h in omega arith)

-- one row more
module _ (t : Table) (s : List ℕ) (c k n : ℕ) (few : (j : ℕ) → j < n → length (covers t (token_point s c (k + 20 * j))) ≤ 256) (l l' : List ℕ) where
  pub rows_more : RowsTold t s c k n l → RowTold t s c (k + 20 * n) (256 * n) l' → Kept (256 * n) l l' → RowsTold t s c k (n + 1) l'
  unfolding RowsTold RowTold Kept
  rows_more old new kept j h d inside = go (leb n j) refl
    where
      go : (b : Bool) → leb n j ≡ b → get_or l' (256 * j + d) 0 ≡ token_bit t s (k + 20 * j) (get_or (covers t (token_point s c (k + 20 * j))) d no_cover_bin)
      go true q = let z : n ≡ j = omega (arith, leb-true n j q) in (rw z at new) d inside
      go false q = let y = leb-false n j q in kept (256 * j + d) (omega (arith, few j y)) ∙ old j y d inside

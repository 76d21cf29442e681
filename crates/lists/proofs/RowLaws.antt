-- The places of a point's cover bins and plain bins, by the kinds of its counters.
-- Assumes nothing.
use mathlib.Core.Path.{◌≡◌, refl, sym, ap, ap₂, ◌∙◌, subst}
use mathlib.Core.Bool.{Bool, true, false, ◌||◌, cond}
use mathlib.Core.List.{List, [], ◌∷◌, ◌++◌, map, append_assoc}
use Prim.Native.Nat.{ℕ, suc, ◌+◌, ◌-◌, ◌*◌, ◌≤◌, ◌<◌}
use native.Mathlib.Omega.{arith}
use lib.Dec.{eqb, ltb}
use lib.ListN.{length, get_or, take, drop, set, length-append, length-map, length-drop, get_or-append}
use lib.Seq.{ext_get_or, get_or-take, get_or-drop, take_at, drop_at, drop-drop, take-take, length-take-le}
use borrow.Author.Tests.{eqb-true, ltb-true, ltb-false}
use Rattle.model.proofs.Booleans.{false-true}
use Rattle.model.specs.Table.{Table}
use Rattle.model.specs.Counters.{Counter, value_bin, default_bin, illegal_bin, transition, illegal_transition, cross_bin, illegal_cross, product, point_counters, cover_bins}
use Rattle.model.specs.Format.{accepted, table_of}
use Rattle.model.specs.Register.{point_total}
use Rattle.model.proofs.RawExact.{few_points}
use Rattle.arrays.specs.Put.{put}
use Rattle.arrays.specs.Flat.{kind_of, kinds_of, point_start, point_starts, covers}
use Rattle.arrays.proofs.PutLaws.{put-put}
use Rattle.points.specs.Gates.{Kinded}
use Rattle.points.proofs.AllLaws.{few_here}
use Rattle.points.proofs.KindExact.{start_low}
use Rattle.points.proofs.ItemLaws.{start_read, end_read}
use Rattle.points.proofs.GateLaws.{list_point, start_within, kinds-long}
use Rattle.places.specs.Places.{of_kind, places_from, is_cover_counter, cover_places, plain_places, PlaceRow, PlaceRows}
use Rattle.places.proofs.PlaceLaws.{places-map}
use Rattle.lists.specs.Stages.{row_of}
use Rattle.lists.proofs.Fronts.{front_get, front_part, put_front, put_rest, set-put}

-- ---- cover bins and plain bins among the counters

or-none : (b : Bool) → (b || false) ≡ b
or-none true = refl
or-none false = refl

-- no counter is both
apart : (k : ℕ) → of_kind 0 k ≡ true → of_kind 1 k ≡ false
apart k e = ap (of_kind 1) (eqb-true k 0 (sym (or-none (eqb k 0)) ∙ e))

pub kinds-apart : (n : ℕ) (kinds : List ℕ) → length (places_from (of_kind 0) n kinds) + length (places_from (of_kind 1) n kinds) ≤ length kinds
unfolding places_from
kinds-apart n [] = omega arith
kinds-apart n (k ∷ ks) = go (of_kind 0 k) (of_kind 1 k) (apart k) (kinds-apart (suc n) ks)
  where
    go : (a b : Bool) → (a ≡ true → b ≡ false) → length (places_from (of_kind 0) (suc n) ks) + length (places_from (of_kind 1) (suc n) ks) ≤ length ks
        → length (cond a (n ∷ places_from (of_kind 0) (suc n) ks) (places_from (of_kind 0) (suc n) ks)) + length (cond b (n ∷ places_from (of_kind 1) (suc n) ks) (places_from (of_kind 1) (suc n) ks)) ≤ suc (length ks)
    go true true e h = absurd (false-true (sym (e refl)))
    go true false e h = omega arith
    go false true e h = omega arith
    go false false e h = omega arith

covers_of : (n : ℕ) (cs : List Counter) → places_from (of_kind 0) n (map kind_of cs) ≡ places_from is_cover_counter n cs
unfolding places_from
covers_of n [] = refl
covers_of n (c ∷ cs) = ap₂ (λ (b : Bool) (l : List ℕ). cond b (n ∷ l) l) (or-none (eqb (kind_of c) 0)) (covers_of (suc n) cs)

covers-many : (n : ℕ) (cs : List Counter) → length (places_from is_cover_counter n cs) ≡ length (cover_bins cs)
unfolding places_from cover_bins
covers-many n [] = refl
covers-many n (value_bin b ∷ cs) = ap suc (covers-many (suc n) cs)
covers-many n (default_bin b ∷ cs) = covers-many (suc n) cs
covers-many n (illegal_bin b ∷ cs) = covers-many (suc n) cs
covers-many n (transition b ∷ cs) = covers-many (suc n) cs
covers-many n (illegal_transition b ∷ cs) = covers-many (suc n) cs
covers-many n (cross_bin c i ∷ cs) = covers-many (suc n) cs
covers-many n (illegal_cross c i ∷ cs) = covers-many (suc n) cs
covers-many n (product c ds ∷ cs) = covers-many (suc n) cs

pub cover-places : (t : Table) (p : ℕ) → length (cover_places t p) ≡ length (covers t p)
unfolding cover_places covers
cover-places t p = covers-many (point_start t p) (point_counters t p)

-- a row takes at most 258 elements
pub row-few : (t : Table) (p : ℕ) → length (point_counters t p) ≤ 256 → length (covers t p) + length (plain_places t p) ≤ 256
unfolding plain_places cover_places
row-few t p few =
    let cs = point_counters t p in
    let n = point_start t p in
    omega (arith, few, cover-places t p, ap length (covers_of n cs), ap length (places-map (of_kind 1) kind_of n cs), kinds-apart n (map kind_of cs), length-map cs kind_of)

-- ---- one row

-- the row as it is written
pub row_written : (base q c : ℕ) (kinds row : List ℕ) → length kinds ≤ 256 → 258 ≤ length row → c ≡ length (places_from (of_kind 0) base kinds) → q ≡ length (places_from (of_kind 1) base kinds)
    → set (set (put (2 + c) (places_from (of_kind 1) base kinds) (put 2 (places_from (of_kind 0) base kinds) row)) 1 c) 0 q ≡ put 0 (row_of base kinds) row
unfolding row_of
row_written base q c kinds row few room ec eq =
    let cs = places_from (of_kind 0) base kinds in
    let qs = places_from (of_kind 1) base kinds in
    let apart = kinds-apart base kinds in
    ap (λ (m : ℕ). set (set (put (2 + m) qs (put 2 cs row)) 1 c) 0 q) ec
    ∙ ap (λ (l : List ℕ). set (set l 1 c) 0 q) (put-put 2 cs qs row (omega arith))
    ∙ ap (λ (l : List ℕ). set l 0 q) (set-put 1 c (cs ++ qs) row (omega arith))
    ∙ set-put 0 q (c ∷ (cs ++ qs)) row (omega arith)
    ∙ ap₂ (λ (x y : ℕ). put 0 (x ∷ y ∷ (cs ++ qs)) row) eq ec

-- the same, of a point with n counters
module _ (base n : ℕ) (kinds : List ℕ) (long : n ≤ length kinds) (few : n ≤ 256) where
  pub row_places : length (places_from (of_kind 0) base (take n kinds)) + length (places_from (of_kind 1) base (take n kinds)) ≤ 256
  row_places = omega (arith, kinds-apart base (take n kinds), length-take-le n kinds long)

  pub row_filled : (q c : ℕ) (row row₁ row₂ : List ℕ) → 258 ≤ length row → c ≡ length (places_from (of_kind 0) base (take n kinds)) → q ≡ length (places_from (of_kind 1) base (take n kinds))
      → row₁ ≡ put 2 (places_from (of_kind 0) base (take n kinds)) row → row₂ ≡ put (2 + c) (places_from (of_kind 1) base (take n kinds)) row₁
      → set (set row₂ 1 c) 0 q ≡ put 0 (row_of base (take n kinds)) row
  row_filled q c row row₁ row₂ room ec eq e₁ e₂ =
      ap (λ (l : List ℕ). set (set l 1 c) 0 q) (e₂ ∙ ap (put (2 + c) (places_from (of_kind 1) base (take n kinds))) e₁)
      ∙ row_written base q c (take n kinds) row (omega (arith, length-take-le n kinds long)) room ec eq

-- the row of a point
unfoldable pub point_row : Table → ℕ → List ℕ
point_row t p = length (plain_places t p) ∷ length (cover_places t p) ∷ (cover_places t p ++ plain_places t p)

module _ (t : Table) (p : ℕ) where
  row_of_lem : row_of (point_start t p) (map kind_of (point_counters t p)) ≡ point_row t p
  unfolding row_of point_row cover_places plain_places
  row_of_lem =
      let cs = point_counters t p in
      let n = point_start t p in
      ap₂ (λ (x y : List ℕ). length y ∷ length x ∷ (x ++ y)) (covers_of n cs) (places-map (of_kind 1) kind_of n cs)

  -- the kinds of the point's counters
  point_kinds : p < point_total t → (kinds : List ℕ) → Kinded t kinds → take (length (point_counters t p)) (drop (point_start t p) kinds) ≡ map kind_of (point_counters t p)
  unfolding Kinded kinds_of
  point_kinds inside kinds k =
      let n = length (point_counters t p) in
      let a = point_start t p in
      let long : length (take n (drop a kinds)) ≡ n = length-take-le n (drop a kinds) (omega (arith, length-drop a kinds, start_within t p inside, kinds-long t kinds k)) in
      ext_get_or 0 (take n (drop a kinds)) (map kind_of (point_counters t p)) (long ∙ sym (length-map (point_counters t p) kind_of))
      (λ i h. get_or-take n (drop a kinds) i 0 (omega (arith, long)) ∙ get_or-drop a kinds i 0 ∙ list_point t p inside kinds kind_of k i (omega (arith, long)))

  pub row_is : p < point_total t → (kinds : List ℕ) → Kinded t kinds → (from n : ℕ) → from ≡ point_start t p → n ≡ length (point_counters t p)
      → row_of from (take n (take (length kinds - from) (drop from kinds))) ≡ point_row t p
  row_is inside kinds k from n ef en =
      let w : n ≤ length kinds - from = omega (arith, start_within t p inside, kinds-long t kinds k) in
      ap (row_of from) (take-take n (length kinds - from) (drop from kinds) w)
      ∙ ap₂ (λ (a m : ℕ). row_of a (take m (drop a kinds))) ef en
      ∙ ap (row_of (point_start t p)) (point_kinds inside kinds k)
      ∙ row_of_lem

  -- what stands where the row was written
  row_stands : (rest : List ℕ) → PlaceRow t p (point_row t p ++ rest)
  unfolding point_row
  row_stands rest =
      let cs = cover_places t p in
      let qs = plain_places t p in
      let e = cover-places t p in
      let z : 2 + length (covers t p) ≡ suc (suc (length (covers t p))) = omega arith in
      record {
        plains = refl;
        parts = e;
        of_covers = λ k h.
            ap (λ (i : ℕ). get_or (point_row t p ++ rest) i 0) (let z : 2 + k ≡ suc (suc k) = omega arith in z)
            ∙ get_or-append (cs ++ qs) rest 0 k (omega (arith, length-append cs qs))
            ∙ get_or-append cs qs 0 k (omega arith);
        of_plains =
            ap (λ (i : ℕ). take (length qs) (drop i (point_row t p ++ rest))) z
            ∙ ap (λ (l : List ℕ). take (length qs) (drop (length (covers t p)) l)) (append_assoc cs qs rest)
            ∙ ap (take (length qs)) (drop_at cs (qs ++ rest) (length (covers t p)) e)
            ∙ take_at qs rest (length qs) refl;
      }

  -- it is in the first 258 elements
  pub row_kept : (a b : List ℕ) → length (point_counters t p) ≤ 256 → take 258 b ≡ take 258 a → PlaceRow t p a → PlaceRow t p b
  row_kept a b few same r =
      let k = row-few t p few in
      record {
        plains = front_get 258 a b same 0 (omega arith) ∙ r.plains;
        parts = front_get 258 a b same 1 (omega arith) ∙ r.parts;
        of_covers = λ i h. front_get 258 a b same (2 + i) (omega arith) ∙ r.of_covers i h;
        of_plains = front_part 258 a b same (2 + length (covers t p)) (length (plain_places t p)) (omega arith) ∙ r.of_plains;
      }

-- ---- row after row

-- the rows of the points before p
unfoldable pub RowsTo : Table → ℕ → List ℕ → Type 0
RowsTo t p rows = (q : ℕ) → q < p → PlaceRow t q (drop (258 * q) rows)

module _ (t : Table) (few : (q : ℕ) → q < point_total t → length (point_counters t q) ≤ 256) where
  pub rows_none : (rows : List ℕ) → RowsTo t 0 rows
  unfolding RowsTo
  rows_none rows q h = absurd (omega arith)

  pub rows_next : (p : ℕ) (rows rows' : List ℕ) → p < point_total t → 258 * p ≤ length rows → rows' ≡ put (258 * p) (point_row t p) rows → RowsTo t p rows → RowsTo t (p + 1) rows'
  unfolding RowsTo
  rows_next p rows rows' inside room e r q h = go (ltb q p) refl
    where
      go : (b : Bool) → ltb q p ≡ b → PlaceRow t q (drop (258 * q) rows')
      go true z =
          let y = ltb-true q p z in
          row_kept t q (drop (258 * q) rows) (drop (258 * q) rows') (few q (omega arith))
          (front_part (258 * p) rows rows' (ap (take (258 * p)) e ∙ put_front (258 * p) (point_row t p) rows room) (258 * q) 258 (omega arith))
          (r q y)
      go false z =
          let y : p ≡ q = omega (arith, ltb-false q p z) in
          subst (λ (i : ℕ). PlaceRow t i (drop (258 * i) rows')) y
          (subst (PlaceRow t p) (sym (ap (drop (258 * p)) e ∙ put_rest (258 * p) (point_row t p) rows room)) (row_stands t p (drop (258 * p + length (point_row t p)) rows)))

  pub rows_all : (n : ℕ) (rows : List ℕ) → n ≡ point_total t → RowsTo t n rows → PlaceRows t rows
  unfolding RowsTo PlaceRows
  rows_all n rows e r p h = r p (omega arith)

  -- they stand in the first 258 elements of each point
  pub rows_kept : (a c : ℕ) (l l' : List ℕ) → a + 258 * point_total t ≤ c → take c l' ≡ take c l → PlaceRows t (drop a l) → PlaceRows t (drop a l')
  unfolding PlaceRows
  rows_kept a c l l' h same r p inside =
      row_kept t p (drop (258 * p) (drop a l)) (drop (258 * p) (drop a l')) (few p inside)
      (ap (take 258) (drop-drop (258 * p) a l') ∙ front_part c l l' same (a + 258 * p) 258 (omega arith) ∙ ap (take 258) (sym (drop-drop (258 * p) a l)))
      (r p inside)

-- ---- one point of an accepted table

pub record Turn (s kinds starts rows : List ℕ) (p : ℕ) : Type 0 where
  pub few : point_total (table_of s) ≤ 16
  pub first : get_or starts p 0 ≡ point_start (table_of s) p
  pub last : get_or starts (p + 1) 0 ≡ point_start (table_of s) p + length (point_counters (table_of s) p)
  pub short : length (point_counters (table_of s) p) ≤ 256
  pub low : point_start (table_of s) p ≤ 256 * p
  pub within : point_start (table_of s) p + length (point_counters (table_of s) p) ≤ length kinds
  pub room : 258 * p + 258 ≤ length rows

pub turn : (s : List ℕ) → accepted s ≡ true → (kinds starts rows : List ℕ) → Kinded (table_of s) kinds → take (point_total (table_of s) + 1) starts ≡ point_starts (table_of s) → 258 * point_total (table_of s) ≤ length rows
    → (p : ℕ) → p < point_total (table_of s) → Turn s kinds starts rows p
turn s ok kinds starts rows k e room p inside =
    let t = table_of s in
    record {
      few = few_points s ok;
      first = start_read t starts e p (omega arith);
      last = end_read t starts e p inside;
      short = few_here s ok p inside;
      low = start_low s ok p (omega arith);
      within = omega (arith, start_within t p inside, kinds-long t kinds k);
      room = omega arith;
    }

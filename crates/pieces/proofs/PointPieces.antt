-- The pieces of a point's rows are the pieces of the point, and there are few of them.
-- Assumes nothing.
use mathlib.Core.Path.{◌≡◌, refl, sym, ap, ap₂, ◌∙◌}
use mathlib.Core.Bool.{Bool, true, false, not, ◌&&◌, ◌||◌, cond}
use mathlib.Core.List.{List, [], ◌∷◌, ◌++◌}
use Prim.Native.Nat.{ℕ, zero, suc, ◌+◌, ◌-◌, ◌^◌, ◌≤◌, ◌<◌}
use native.Mathlib.Omega.{arith}
use lib.Dec.{leb, eqb}
use lib.ListN.{length, get_or, length-append}
use borrow.Author.Tests.{leb-true, le-leb, eqb-true, eq-eqb}
use Rattle.model.specs.Lists.{any, one_of}
use Rattle.model.specs.Table.{Range, span, pattern, Table}
use Rattle.model.specs.Values.{lowest, highest, in_range}
use Rattle.model.specs.Counters.{no_cover_bin, point_at, point_of, excluded_value, distributed, holds}
use Rattle.model.proofs.Booleans.{false-true, and_left, and_right, bool_eq}
use Rattle.model.proofs.Readers.{All, all_append, all_map, all_both}
use Rattle.model.proofs.Selects.{own_covers}
use Rattle.ranges.proofs.Searches.{any_append}
use Rattle.arrays.specs.Flat.{covers}
use Rattle.spans.specs.Point.{SpansOf, free_value}
use Rattle.parts.specs.Rows.{Row, place_in, part_in, parts_at}
use Rattle.parts.specs.Words.{RowFits}
use Rattle.parts.specs.Point.{Typed, start_of, end_of, climbs, RowsOf}
use Rattle.meets.specs.Pieces.{Piece, piece, piece_holds, part_holds, Begins, PiecesOf}
use Rattle.meets.proofs.FreeLaws.{Finds, finds_of}
use Rattle.pieces.specs.Cuts.{left_of, step_at, cut_low, cut_high, cuts_from, pieces_in, row_pieces, all_pieces, Bounded, Cuttable}
use Rattle.pieces.proofs.CutLaws.{step_rises, high-most, cuts-sound, cuts-complete}

all_of : {A : Type 0} (P : A → Type 0) (d : A) (xs : List A) → All P xs → (i : ℕ) → i < length xs → P (get_or xs i d)
all_of P d [] h i k = absurd (omega arith)
all_of P d (x ∷ xs) h zero k = h.0
all_of P d (x ∷ xs) h (suc i) k = all_of P d xs h.1 i (omega arith)

-- ---- one row

module _ (t : Table) (p : ℕ) (f : ℕ → ℕ) (finds : Finds (lowest (point_at t p)) (highest (point_at t p)) (excluded_value t p) f) where
  -- of the values that are left, its pieces hold those that the rule gives to their parts
  range_holds : (m : ℕ) (r : Row) → RowFits m r → (R : Range) → Typed (point_at t p) R → (k v : ℕ) → excluded_value t p v ≡ false
      → any (piece_holds k v) (pieces_in f r R) ≡ (in_range R v && eqb k (r.first + step_at r.before r.share r.last (place_in R v)))
  range_holds m r fit (span lo hi) typed k v o = bool_eq _ _ there back
    where
      step : ℕ → ℕ
      step d = step_at r.before r.share r.last d

      rises : step 0 ≤ step (hi - lo)
      rises = step_rises r.before r.share r.last fit.share 0 (hi - lo) (omega arith)

      there : any (piece_holds k v) (cuts_from f lo hi r.before r.share r.first (step (hi - lo)) (step 0) (step (hi - lo) + 1 - step 0)) ≡ true → ((leb lo v && leb v hi) && eqb k (r.first + step (v - lo))) ≡ true
      there e =
          let own = cuts-sound r.before r.share r.last fit.share lo hi typed.1 (lowest (point_at t p)) (highest (point_at t p)) (excluded_value t p) f finds typed.0 typed.2 r.first k v (step (hi - lo) + 1 - step 0) (step 0) (omega arith) (omega (arith, rises)) e in
          ap₂ ◌&&◌ (ap₂ ◌&&◌ (le-leb lo v own.0) (le-leb v hi own.1)) (eq-eqb k (r.first + step (v - lo)) own.2)

      back : ((leb lo v && leb v hi) && eqb k (r.first + step (v - lo))) ≡ true → any (piece_holds k v) (cuts_from f lo hi r.before r.share r.first (step (hi - lo)) (step 0) (step (hi - lo) + 1 - step 0)) ≡ true
      back e =
          let i = and_left (leb lo v && leb v hi) (eqb k (r.first + step (v - lo))) e in
          let l = leb-true lo v (and_left (leb lo v) (leb v hi) i) in
          let u = leb-true v hi (and_right (leb lo v) (leb v hi) i) in
          let s = eqb-true k (r.first + step (v - lo)) (and_right (leb lo v && leb v hi) (eqb k (r.first + step (v - lo))) e) in
          cuts-complete r.before r.share r.last fit.share lo hi typed.1 (lowest (point_at t p)) (highest (point_at t p)) (excluded_value t p) f finds typed.0 typed.2 r.first k v (step (hi - lo) + 1 - step 0) (step 0) l u o s
          (step_rises r.before r.share r.last fit.share 0 (v - lo) (omega arith))
          (omega (arith, rises, step_rises r.before r.share r.last fit.share (v - lo) (hi - lo) (omega arith)))
  range_holds m r fit (pattern bits mask) typed k v o = unfold any in (turn (r.first + step_at r.before r.share r.last 0) (in_range (pattern bits mask) v))
    where
      turn : (x : ℕ) (b : Bool) → ((eqb x k && b) || false) ≡ (b && eqb k x)
      turn x b = bool_eq _ _ (λ e. there b (eqb x k) refl e) (λ e. back b (eqb k x) refl e)
        where
          there : (b c : Bool) → eqb x k ≡ c → ((c && b) || false) ≡ true → (b && eqb k x) ≡ true
          there true true e₁ e₂ = eq-eqb k x (sym (eqb-true x k e₁))
          there true false e₁ e₂ = absurd (false-true e₂)
          there false true e₁ e₂ = e₂
          there false false e₁ e₂ = e₂

          back : (b c : Bool) → eqb k x ≡ c → (b && c) ≡ true → ((eqb x k && b) || false) ≡ true
          back true true e₁ e₂ = ap (λ (c : Bool). (c && true) || false) (eq-eqb x k (sym (eqb-true k x e₁)))
          back true false e₁ e₂ = absurd (false-true e₂)
          back false c e₁ e₂ = absurd (false-true e₂)

  -- all rows
  rows_hold : (m : ℕ) (rs : List Row) → All (RowFits m) rs → All (λ r. Typed (point_at t p) r.range) rs → (k v : ℕ) → excluded_value t p v ≡ false → part_holds k v (all_pieces f rs) ≡ one_of k (parts_at v rs)
  unfolding part_holds all_pieces row_pieces parts_at
  rows_hold m [] fit typed k v o = (unfold any one_of in refl)
  rows_hold m (r ∷ rs) fit typed k v o =
      any_append (piece_holds k v) (pieces_in f r r.range) (all_pieces f rs)
      ∙ ap₂ ◌||◌ (range_holds m r fit.0 r.range typed.0 k v o) (rows_hold m rs fit.1 typed.1 k v o)
      ∙ sym (split (in_range r.range v))
    where
      split : (b : Bool) → one_of k (cond b (part_in r v ∷ parts_at v rs) (parts_at v rs)) ≡ ((b && eqb k (part_in r v)) || one_of k (parts_at v rs))
      split true = unfold one_of in refl
      split false = refl

  -- each begins with a value that is left, and is of one of m parts
  abbrev Sound : ℕ → Piece → Type 0
  Sound m q = Begins t p q.range × (q.part < m)

  cuts_begin : (m : ℕ) (r : Row) → RowFits m r → (lo hi : ℕ) → Typed (point_at t p) (span lo hi) → (n j : ℕ) → j + n ≤ step_at r.before r.share r.last (hi - lo) + 1
      → All (Sound m) (cuts_from f lo hi r.before r.share r.first (step_at r.before r.share r.last (hi - lo)) j n)
  unfolding cuts_from
  cuts_begin m r fit lo hi typed zero j h = tt
  cuts_begin m r fit lo hi typed (suc n) j h = go (leb (f a) z) refl (cuts_begin m r fit lo hi typed n (j + 1) (omega arith))
    where
      top : ℕ
      top = step_at r.before r.share r.last (hi - lo)

      a : ℕ
      a = cut_low lo r.before r.share j

      z : ℕ
      z = cut_high lo hi r.before r.share top j

      most : z ≤ hi
      most = high-most r.before r.share r.last fit.share lo hi typed.1 j

      go : (c : Bool) → leb (f a) z ≡ c → All (Sound m) (cuts_from f lo hi r.before r.share r.first top (j + 1) n)
          → All (Sound m) (cond c (piece (span (f a) z) (r.first + j) ∷ []) [] ++ cuts_from f lo hi r.before r.share r.first top (j + 1) n)
      go true e rest =
          let low : lowest (point_at t p) ≤ a = omega (arith, typed.0) in
          let up = finds.from a low in
          let full = leb-true (f a) z e in
          let high : f a ≤ highest (point_at t p) = omega (arith, typed.2, most) in
          (((ap₂ ◌&&◌ (le-leb (lowest (point_at t p)) (f a) (omega arith)) (le-leb (f a) (highest (point_at t p)) high), finds.left a low high, full, omega (arith, typed.2, most)), omega (arith, fit.room)), rest)
      go false e rest = rest

  rows_begin : (m : ℕ) (rs : List Row) → All (RowFits m) rs → All (λ r. Typed (point_at t p) r.range) rs → All (Sound m) (all_pieces f rs)
  unfolding all_pieces row_pieces
  rows_begin m [] fit typed = tt
  rows_begin m (r ∷ rs) fit typed = all_append (Sound m) (pieces_in f r r.range) (all_pieces f rs) (one r.range typed.0) (rows_begin m rs fit.1 typed.1)
    where
      one : (R : Range) → Typed (point_at t p) R → All (Sound m) (pieces_in f r R)
      one (span lo hi) h =
          cuts_begin m r fit.0 lo hi h _ _ (omega (arith, step_rises r.before r.share r.last fit.0.share 0 (hi - lo) (omega arith)))
      one (pattern bits mask) h = ((h, omega (arith, fit.0.room)), tt)

  pieces_by : (m : ℕ) (rs : List Row) → RowsOf t p rs m → PiecesOf t p (all_pieces f rs)
  unfolding holds
  pieces_by m rs o =
      let sound = rows_begin m rs o.fits o.typed in
      record {
        exact = λ k v h i. exact k v h (excluded_value t p v) refl;
        begins = all_map (Sound m) (λ q. Begins t p q.range) (λ q s. s.0) (all_pieces f rs) sound;
        parts = all_map (Sound m) (λ q. q.part < length (covers t p)) (λ q s. omega (arith, o.parts, s.1)) (all_pieces f rs) sound;
      }
    where
      exact : (k v : ℕ) → k < length (covers t p) → (b : Bool) → excluded_value t p v ≡ b → (part_holds k v (all_pieces f rs) && not (excluded_value t p v)) ≡ holds t (get_or (covers t p) k no_cover_bin) v
      exact k v h b e =
          ap (λ (c : Bool). part_holds k v (all_pieces f rs) && not c) e
          ∙ go b e
          ∙ ap (λ (c : Bool). distributed t (get_or (covers t p) k no_cover_bin) v && not c) (sym e ∙ ap (λ (x : ℕ). excluded_value t x v) (sym own))
        where
          own : point_of t (get_or (covers t p) k no_cover_bin) ≡ p
          own = all_of (λ c. point_of t c ≡ p) no_cover_bin (covers t p) (unfold covers in (own_covers t p)) k h

          go : (b : Bool) → excluded_value t p v ≡ b → (part_holds k v (all_pieces f rs) && not b) ≡ (distributed t (get_or (covers t p) k no_cover_bin) v && not b)
          go false e = ap (◌&& true) (rows_hold m rs o.fits o.typed k v e ∙ o.rule k v (omega (arith, o.parts)))
          go true e = never (part_holds k v (all_pieces f rs)) (distributed t (get_or (covers t p) k no_cover_bin) v)
            where
              never : (x y : Bool) → (x && false) ≡ (y && false)
              never true true = refl
              never true false = refl
              never false true = refl
              never false false = refl

-- ---- a point

-- the pieces of its rows are its pieces
pub pieces_of : (t : Table) (p m : ℕ) (rs : List Row) (ws : List ℕ) → RowsOf t p rs m → SpansOf t p ws → PiecesOf t p (all_pieces (free_value ws (lowest (point_at t p))) rs)
pieces_of t p m rs ws o s = pieces_by t p (free_value ws (lowest (point_at t p))) (finds_of t p ws s) m rs o

-- what the code asks of a row
pub rows_cuttable : (t : Table) (p m : ℕ) (rs : List Row) → RowsOf t p rs m → m ≤ 65536 → highest (point_at t p) < 2 ^ 33 → All (Cuttable (lowest (point_at t p))) rs
rows_cuttable t p m rs o few high = all_both (RowFits m) (λ r. Typed (point_at t p) r.range) (Cuttable (lowest (point_at t p))) one rs o.fits o.typed
  where
    bounds : (R : Range) → Typed (point_at t p) R → Bounded (lowest (point_at t p)) R
    bounds (span lo hi) h = (h.0, h.1, omega (arith, h.2, high))
    bounds (pattern bits mask) h = h

    one : (r : Row) → RowFits m r → Typed (point_at t p) r.range → Cuttable (lowest (point_at t p)) r
    one r fit typed = record { before = fit.before; share = fit.share; room = omega (arith, fit.room, few); bounds = bounds r.range typed }

-- ---- how many: parts rise along the rows, so that each row has at most one piece of a part that a row before it has

left-few : (f : ℕ → ℕ) (a b k : ℕ) → length (left_of f a b k) ≤ 1
left-few f a b k = go (leb (f a) b)
  where
    go : (c : Bool) → length (cond c (piece (span (f a) b) k ∷ []) []) ≤ 1
    go true = omega arith
    go false = omega arith

cuts-few : (f : ℕ → ℕ) (lo hi before share first top n j : ℕ) → length (cuts_from f lo hi before share first top j n) ≤ n
unfolding cuts_from
cuts-few f lo hi before share first top zero j = omega arith
cuts-few f lo hi before share first top (suc n) j =
    omega (arith, left-few f (cut_low lo before share j) (cut_high lo hi before share top j) (first + j), length-append (left_of f (cut_low lo before share j) (cut_high lo hi before share top j) (first + j)) (cuts_from f lo hi before share first top (j + 1) n), cuts-few f lo hi before share first top n (j + 1))

module _ (t : Table) (p m : ℕ) (f : ℕ → ℕ) where
  -- at most one for each part from the row's first to its last
  range_few : (r : Row) → RowFits m r → (R : Range) → Typed (point_at t p) R → r.range ≡ R
      → (start_of r 0 R + length (pieces_in f r R) ≤ end_of r 0 R + 1) × (end_of r 0 R < m)
  range_few r fit (span lo hi) typed e = (omega (arith, few, ends, starts, rises), omega (arith, ends, fit.room))
    where
      step : ℕ → ℕ
      step d = step_at r.before r.share r.last d

      few : length (pieces_in f r (span lo hi)) ≤ step (hi - lo) + 1 - step 0
      few = cuts-few f lo hi r.before r.share r.first (step (hi - lo)) (step (hi - lo) + 1 - step 0) (step 0)

      rises : step 0 ≤ step (hi - lo)
      rises = step_rises r.before r.share r.last fit.share 0 (hi - lo) (omega arith)

      ends : part_in r hi ≡ r.first + step (hi - lo)
      ends = ap (λ (R : Range). r.first + step (place_in R hi)) e

      starts : part_in r lo ≡ r.first + step 0
      starts = ap (λ (R : Range). r.first + step (place_in R lo)) e ∙ ap (λ (d : ℕ). r.first + step d) (let z : lo - lo ≡ 0 = omega arith in z)
  range_few r fit (pattern bits mask) typed e = (omega arith, omega (arith, fit.room))

  rows_few : (rs : List Row) → All (RowFits m) rs → All (λ r. Typed (point_at t p) r.range) rs → (x : ℕ) → x ≤ m → climbs x rs ≡ true → x + length (all_pieces f rs) ≤ length rs + m
  unfolding all_pieces row_pieces climbs
  rows_few [] fit typed x h e = omega arith
  rows_few (r ∷ rs) fit typed x h e =
      let one = range_few r fit.0 r.range typed.0 refl in
      let start = leb-true x (start_of r 0 r.range) (and_left (leb x (start_of r 0 r.range)) (climbs (end_of r 0 r.range) rs) e) in
      let rest = rows_few rs fit.1 typed.1 (end_of r 0 r.range) (omega (arith, one.1)) (and_right (leb x (start_of r 0 r.range)) (climbs (end_of r 0 r.range) rs) e) in
      omega (arith, one.0, start, rest, length-append (pieces_in f r r.range) (all_pieces f rs))

  pub pieces_few : (rs : List Row) → RowsOf t p rs m → length (all_pieces f rs) ≤ length rs + m
  pieces_few rs o = omega (arith, rows_few rs o.fits o.typed 0 (omega arith) o.rises)

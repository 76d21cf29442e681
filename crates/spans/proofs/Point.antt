-- The spans of a point in the model's words: what they hold, the least value that is left, and how many there are.
-- Assumes nothing.
use mathlib.Core.Path.{◌≡◌, refl, sym, ap, ◌∙◌}
use mathlib.Core.Bool.{Bool, true, false, ◌&&◌, cond}
use mathlib.Core.List.{List, [], ◌∷◌}
use Prim.Native.Nat.{ℕ, zero, suc, ◌+◌, ◌-◌, ◌≤◌, ◌<◌}
use native.Mathlib.Omega.{arith}
use lib.Dec.{ltb, eqb}
use lib.ListN.{length, length-append}
use borrow.Author.Tests.{ltb-true, ltb-false, eqb-true}
use Rattle.model.specs.Lists.{sum_of, up_from}
use Rattle.model.specs.Table.{Kind, cover, ignore, illegal, default, ValueBin, Table, is_cover, excludes}
use Rattle.model.specs.Values.{lowest, in_type}
use Rattle.model.specs.Counters.{point_at, excluded_value}
use Rattle.model.specs.Format.{accepted, table_of, u16}
use Rattle.model.specs.Ranges.{ranges_of}
use Rattle.model.specs.Raw.{count_place, records_place, record_count}
use Rattle.model.proofs.Booleans.{false-true}
use Rattle.model.proofs.Sections.{accepted-layout}
use Rattle.model.proofs.Access.{points_access, bins_access, ranges_access}
use Rattle.model.proofs.RawExact.{next_place_lem}
use Rattle.model.proofs.RawValues.{length-bins}
use Rattle.ranges.specs.Taken.{excluded_at}
use Rattle.spans.specs.Spans.{held_by, free, Settled, Least}
use Rattle.spans.specs.Collected.{words_from}
use Rattle.spans.specs.Point.{SpansOf, free_value, ranges_listed, cover_listed, excluded_listed}
use Rattle.spans.proofs.LookLaws.{free_least}
use Rattle.spans.proofs.Exact.{spans_exact, bins_are}

-- ---- of an accepted table

pub spans_of : (s : List ℕ) → accepted s ≡ true → (p : ℕ) (ws : List ℕ)
    → Settled (words_from (lowest (point_at (table_of s) p)) (excluded_at s (records_place s 1) (records_place s 2) (record_count s 1) p)) ws → SpansOf (table_of s) p ws
spans_of s ok p ws o = record { gaps = o.gaps; exact = spans_exact s ok p ws o }

-- ---- the least value that is left

module _ (t : Table) (p : ℕ) (ws : List ℕ) (o : SpansOf t p ws) (v : ℕ) (h : lowest (point_at t p) ≤ v) where
  abbrev low : ℕ
  low = lowest (point_at t p)

  least : Least ws (v - low) (free ws (v - low))
  least = free_least ws o.gaps (v - low)

  pub free_from : v ≤ free_value ws low v
  free_from = omega (arith, least.from)

  pub free_left : in_type (point_at t p) (free_value ws low v) ≡ true → excluded_value t p (free_value ws low v) ≡ false
  free_left e =
      let z : low + free ws (v - low) - low ≡ free ws (v - low) = omega arith in
      sym (o.exact (low + free ws (v - low)) e) ∙ ap (held_by ws) z ∙ least.out

  pub free_below : (u : ℕ) → v ≤ u → in_type (point_at t p) u ≡ true → excluded_value t p u ≡ false → free_value ws low v ≤ u
  free_below u k e f = go (ltb u (free_value ws low v)) refl
    where
      go : (b : Bool) → ltb u (free_value ws low v) ≡ b → free_value ws low v ≤ u
      go false q = ltb-false u (free_value ws low v) q
      go true q = absurd (false-true (sym f ∙ sym (o.exact u e) ∙ least.passed (u - low) (omega arith) (omega (arith, ltb-true u (free_value ws low v) q))))

-- ---- how many

-- a value bin covers or excludes, never both
few-apart : (p : ℕ) (bs : List ValueBin) → length (ranges_of is_cover p bs) + length (ranges_of excludes p bs) ≤ sum_of (λ b. cond (eqb b.point p) (length b.ranges) 0) bs
unfolding ranges_of sum_of
few-apart p [] = omega arith
few-apart p (b ∷ bs) =
    omega (
      arith,
      length-append (cond (eqb b.point p && is_cover b.kind) b.ranges []) (ranges_of is_cover p bs),
      length-append (cond (eqb b.point p && excludes b.kind) b.ranges []) (ranges_of excludes p bs),
      go (eqb b.point p) b.kind,
      few-apart p bs,
    )
  where
    go : (c : Bool) (k : Kind) → length (cond (c && is_cover k) b.ranges []) + length (cond (c && excludes k) b.ranges []) ≤ cond c (length b.ranges) 0
    go true cover = omega arith
    go true ignore = omega arith
    go true illegal = omega arith
    go true default = omega arith
    go false k = omega arith

pub listed-apart : (t : Table) (p : ℕ) → cover_listed t p + excluded_listed t p ≤ ranges_listed t p
unfolding cover_listed excluded_listed ranges_listed
listed-apart t p = few-apart p t.value_bins

pub excluded-listed : (s : List ℕ) → accepted s ≡ true → (p : ℕ) → length (excluded_at s (records_place s 1) (records_place s 2) (record_count s 1) p) ≤ excluded_listed (table_of s) p
unfolding excluded_listed
excluded-listed s ok p = omega (arith, ap (λ (bs : List ValueBin). length (ranges_of excludes p bs)) (bins_are s ok p))

-- each bin has one point, so that over all points its ranges are counted once at most
none_after : (n k i m : ℕ) → n < i → sum_of (λ q. cond (eqb n q) k 0) (up_from i m) ≡ 0
unfolding sum_of up_from
none_after n k i zero h = refl
none_after n k i (suc m) h = go (eqb n i) refl (none_after n k (suc i) m (omega (arith, h)))
  where
    go : (b : Bool) → eqb n i ≡ b → sum_of (λ q. cond (eqb n q) k 0) (up_from (suc i) m) ≡ 0 → cond b k 0 + sum_of (λ q. cond (eqb n q) k 0) (up_from (suc i) m) ≡ 0
    go true e z = absurd (omega (arith, eqb-true n i e, h))
    go false e z = omega (arith, z)

once : (n k i m : ℕ) → sum_of (λ q. cond (eqb n q) k 0) (up_from i m) ≤ k
unfolding sum_of up_from
once n k i zero = omega arith
once n k i (suc m) = go (eqb n i) refl (once n k (suc i) m)
  where
    go : (b : Bool) → eqb n i ≡ b → sum_of (λ q. cond (eqb n q) k 0) (up_from (suc i) m) ≤ k → cond b k 0 + sum_of (λ q. cond (eqb n q) k 0) (up_from (suc i) m) ≤ k
    go true e z = omega (arith, none_after n k (suc i) m (omega (arith, eqb-true n i e)))
    go false e z = omega (arith, z)

sum_none : (ps : List ℕ) → sum_of (λ (q : ℕ). 0) ps ≡ 0
unfolding sum_of
sum_none [] = refl
sum_none (p ∷ ps) = omega (arith, sum_none ps)

sum-add : (f g : ℕ → ℕ) (ps : List ℕ) → sum_of (λ q. f q + g q) ps ≡ sum_of f ps + sum_of g ps
unfolding sum_of
sum-add f g [] = refl
sum-add f g (p ∷ ps) = omega (arith, sum-add f g ps)

one-listed : (p : ℕ) (bs : List ValueBin) → sum_of (λ b. cond (eqb b.point p) (length b.ranges) 0) bs ≤ sum_of (λ b. length b.ranges) bs
unfolding sum_of
one-listed p [] = omega arith
one-listed p (b ∷ bs) = go (eqb b.point p) (one-listed p bs)
  where
    go : (c : Bool) → sum_of (λ b. cond (eqb b.point p) (length b.ranges) 0) bs ≤ sum_of (λ b. length b.ranges) bs
        → cond c (length b.ranges) 0 + sum_of (λ b. cond (eqb b.point p) (length b.ranges) 0) bs ≤ length b.ranges + sum_of (λ b. length b.ranges) bs
    go true h = omega arith
    go false h = omega arith

all_listed : (m : ℕ) (bs : List ValueBin) → sum_of (λ p. sum_of (λ b. cond (eqb b.point p) (length b.ranges) 0) bs) (up_from 0 m) ≤ sum_of (λ b. length b.ranges) bs
unfolding sum_of
all_listed m [] = omega (arith, sum_none (up_from 0 m))
all_listed m (b ∷ bs) =
    omega (arith, sum-add (λ p. cond (eqb b.point p) (length b.ranges) 0) (λ p. sum_of (λ b. cond (eqb b.point p) (length b.ranges) 0) bs) (up_from 0 m), once b.point (length b.ranges) 0 m, all_listed m bs)

-- by the counts of the table's sections
module _ (s : List ℕ) (ok : accepted s ≡ true) where
  pub bins_many : length (table_of s).value_bins ≡ record_count s 1
  bins_many = ap length (bins_are s ok 0) ∙ length-bins s (records_place s 1) (records_place s 2) (record_count s 1)

  ranges_many : sum_of (λ b. length b.ranges) (table_of s).value_bins ≡ record_count s 2
  unfolding record_count
  ranges_many =
      let l = accepted-layout s ok in
      let points = points_access s (table_of s) (length s) l in
      let bins = bins_access s (table_of s) (length s) l in
      let ranges = ranges_access s (table_of s) (length s) l in
      let start : count_place s 0 ≡ 0 = unfold count_place in refl in
      let first : l.next₂ ≡ count_place s 1 = omega (arith, points.0.said, points.0.begins, points.1, ap (u16 s) start, start, next_place_lem s 0 11 refl) in
      let second : l.next₃ ≡ count_place s 2 = omega (arith, bins.0.said, bins.0.begins, bins.1, ap (u16 s) first, first, next_place_lem s 1 8 refl) in
      sym (ap (u16 s) (sym second) ∙ ranges.0.said)

  pub bins_most : record_count s 1 ≤ 512
  bins_most = omega (arith, bins_many, (bins_access s (table_of s) (length s) (accepted-layout s ok)).0.high)

  pub ranges_most : record_count s 2 ≤ 1024
  ranges_most = omega (arith, ranges_many, (ranges_access s (table_of s) (length s) (accepted-layout s ok)).0.high)

  -- the first m points
  pub ranges_listed_lem : (m : ℕ) → sum_of (ranges_listed (table_of s)) (up_from 0 m) ≤ record_count s 2
  unfolding ranges_listed
  ranges_listed_lem m = omega (arith, all_listed m (table_of s).value_bins, ranges_many)

  -- one point
  pub point_listed : (p : ℕ) → ranges_listed (table_of s) p ≤ record_count s 2
  unfolding ranges_listed
  point_listed p = omega (arith, one-listed p (table_of s).value_bins, ranges_many)

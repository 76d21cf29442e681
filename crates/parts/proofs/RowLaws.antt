-- The rows of some sources: they rise, their spans are of the type, and how many they are.
-- Assumes nothing.
use mathlib.Core.Path.{◌≡◌, refl, ap, ap₂, ◌∙◌}
use mathlib.Core.Bool.{Bool, true, false, ◌&&◌, cond}
use mathlib.Core.List.{List, [], ◌∷◌, ◌++◌}
use Prim.Native.Nat.{ℕ, suc, ◌+◌, ◌-◌, ◌/◌, ◌≤◌, min}
use native.Mathlib.Omega.{arith}
use native.Mathlib.Nat.{mul-le-mul_right}
use lib.Dec.{leb, eqb}
use lib.Ieee.Nearest.{div_mono}
use lib.ListN.{length, length-append}
use lib.Pow.{pow_pos, pow_mono}
use borrow.Author.Tests.{le-leb, eqb-true}
use Rattle.model.specs.Lists.{sum_of}
use Rattle.model.specs.Table.{Point, Form, single, per_value, fixed, Range, span, pattern, ValueBin, Table, is_cover}
use Rattle.model.specs.Values.{lowest}
use Rattle.model.specs.Ranges.{size, ranges_of}
use Rattle.model.specs.Counters.{point_at, has_auto}
use Rattle.model.specs.Format.{allows_patterns}
use Rattle.model.proofs.Readers.{All, all_append}
use Rattle.model.proofs.WellFormed.{GoodPoint, Legal, GoodBin, WellFormed}
use Rattle.model.proofs.Exact.{SpanOf, Divisible}
use Rattle.model.proofs.TableExact.{point_at_lem, divisible}
use Rattle.spans.specs.Point.{cover_listed}
use Rattle.spans.proofs.Ends.{both}
use Rattle.parts.specs.Rows.{Source, count_of, share_of, row_ranges, bin_source, own_sources, auto_source, auto_sources, sources, Row, range_rows, source_rows, rows_from}
use Rattle.parts.specs.Words.{ranges_in, range_total}
use Rattle.parts.specs.Point.{Typed, climbs}
use Rattle.parts.proofs.Back.{share-some}
use Rattle.parts.proofs.SpanLaws.{settled_fewer, settled_spans}

-- ---- parts rise

module _ (first last share : ℕ) (some : 1 ≤ share) (rest : List Row) (next : (y : ℕ) → y ≤ first + last → climbs y rest ≡ true) where
  at : ℕ → ℕ
  at n = first + min (n / share) last

  at_mono : (n m : ℕ) → n ≤ m → at n ≤ at m
  unfolding at
  at_mono n m h = omega (arith, div_mono n share m share some some (mul-le-mul_right share h))

  range_climbs : (x before : ℕ) (rs : List Range) → x ≤ at before → climbs x (range_rows first last share before rs ++ rest) ≡ true
  unfolding climbs range_rows at
  range_climbs x before [] h = next x (omega arith)
  range_climbs x before (span lo hi ∷ rs) h =
      both (leb x (at (before + (lo - lo)))) (climbs (at (before + (hi - lo))) (range_rows first last share (before + (suc hi - lo)) rs ++ rest))
      (le-leb x (at (before + (lo - lo))) (omega (arith, at_mono before (before + (lo - lo)) (omega arith))))
      (range_climbs (at (before + (hi - lo))) (before + (suc hi - lo)) rs (at_mono (before + (hi - lo)) (before + (suc hi - lo)) (omega arith)))
  range_climbs x before (pattern bits mask ∷ rs) h =
      both (leb x (at (before + 0))) (climbs (at (before + 0)) (range_rows first last share (before + 0) rs ++ rest))
      (le-leb x (at (before + 0)) (omega (arith, at_mono before (before + 0) (omega arith))))
      (range_climbs (at (before + 0)) (before + 0) rs (at_mono (before + 0) (before + 0) (omega arith)))

pub all_climb : (x first : ℕ) (ss : List Source) → All (λ s. 1 ≤ count_of s) ss → x ≤ first → climbs x (rows_from first ss) ≡ true
unfolding rows_from climbs at
all_climb x first [] h k = refl
all_climb x first (s ∷ ss) h k =
    range_climbs first (count_of s - 1) (share_of s.form s.ranges) (share-some s.form s.ranges) (rows_from (first + count_of s) ss)
    (λ y e. all_climb y (first + count_of s) ss h.1 (omega (arith, h.0))) x 0 s.ranges (omega arith)

-- ---- spans of the type

range-typed : (q : Point) (first last share before : ℕ) (rs : List Range) → All (Typed q) rs → All (λ r. Typed q r.range) (range_rows first last share before rs)
unfolding range_rows
range-typed q first last share before [] h = tt
range-typed q first last share before (r ∷ rs) h = (h.0, range-typed q first last share (before + size r) rs h.1)

pub rows-typed : (q : Point) (first : ℕ) (ss : List Source) → All (λ s. All (Typed q) s.ranges) ss → All (λ r. Typed q r.range) (rows_from first ss)
unfolding rows_from
rows-typed q first [] h = tt
rows-typed q first (s ∷ ss) h =
    all_append (λ r. Typed q r.range) (source_rows first s) (rows_from (first + count_of s) ss)
    (range-typed q first (count_of s - 1) (share_of s.form s.ranges) 0 s.ranges h.0) (rows-typed q (first + count_of s) ss h.1)

legal-typed : (q : Point) → GoodPoint q → (patterns : Bool) (rs : List Range) → All (Legal q patterns) rs → All (Typed q) rs
legal-typed q good patterns [] h = tt
legal-typed q good patterns (span lo hi ∷ rs) h = (h.0, legal-typed q good patterns rs h.1)
legal-typed q good patterns (pattern bits mask ∷ rs) h = (omega (arith, h.0.3, pow_mono {i = q.width} {j = 32} good.narrow), legal-typed q good patterns rs h.1)

spans-typed : (q : Point) (rs : List Range) → All (SpanOf q) rs → All (Typed q) rs
spans-typed q [] h = tt
spans-typed q (span lo hi ∷ rs) h = (h.0, spans-typed q rs h.1)
spans-typed q (pattern bits mask ∷ rs) h = absurd h.0

form-typed : (q : Point) (good : GoodPoint q) (patterns : Bool) (f : Form) (rs : List Range) → All (Legal q patterns) rs → Divisible q good f rs → All (Typed q) (row_ranges (lowest q) f rs)
form-typed q good patterns single rs h d = legal-typed q good patterns rs h
form-typed q good patterns per_value rs h d = spans-typed q (row_ranges (lowest q) per_value rs) (settled_spans q good.narrow rs d)
form-typed q good patterns (fixed n) rs h d = spans-typed q rs d

module _ (t : Table) (ok : WellFormed t) (p : ℕ) where
  abbrev q : Point
  q = point_at t p

  own_typed : (vs : List ValueBin) → All (GoodBin t.points) vs → All (λ s. All (Typed q) s.ranges) (own_sources (lowest q) p vs)
  unfolding own_sources
  own_typed [] h = tt
  own_typed (u ∷ vs) h = go (eqb u.point p) (is_cover u.kind) (eqb-true u.point p) (own_typed vs h.1)
    where
      others : List Source
      others = own_sources (lowest q) p vs

      go : (b c : Bool) → (b ≡ true → u.point ≡ p) → All (λ s. All (Typed q) s.ranges) others → All (λ s. All (Typed q) s.ranges) (cond (b && c) (bin_source (lowest q) u ∷ others) others)
      go true true e k = (form-typed q (point_at_lem t ok p) (allows_patterns u) u.form u.ranges (rw (e refl) at h.0) (rw (e refl) at (divisible t ok u h.0)), k)
      go true false e k = k
      go false c e k = k

  pub all_typed : All (λ s. All (Typed (point_at t p)) s.ranges) (sources t p)
  unfolding sources auto_sources
  all_typed = all_append (λ s. All (Typed q) s.ranges) (own_sources (lowest q) p t.value_bins) (auto_sources t p) (own_typed t.value_bins ok.bins) (go (has_auto t p))
    where
      go : (c : Bool) → All (λ s. All (Typed q) s.ranges) (cond c (auto_source q ∷ []) [])
      go true = (((omega arith, omega (arith, pow_pos q.width), omega arith), tt), tt)
      go false = tt

-- ---- how many

length-range-rows : (first last share before : ℕ) (rs : List Range) → length (range_rows first last share before rs) ≡ length rs
unfolding range_rows
length-range-rows first last share before [] = refl
length-range-rows first last share before (r ∷ rs) = ap suc (length-range-rows first last share (before + size r) rs)

pub length-rows-from : (first : ℕ) (ss : List Source) → length (rows_from first ss) ≡ range_total ss
unfolding rows_from range_total sum_of
length-rows-from first [] = refl
length-rows-from first (s ∷ ss) =
    length-append (source_rows first s) (rows_from (first + count_of s) ss)
    ∙ ap₂ ◌+◌ (length-range-rows first (count_of s - 1) (share_of s.form s.ranges) 0 s.ranges) (length-rows-from (first + count_of s) ss)

form_fewer : (low : ℕ) (f : Form) (rs : List Range) → length (row_ranges low f rs) ≤ length rs
form_fewer low single rs = omega arith
form_fewer low per_value rs = settled_fewer low rs
form_fewer low (fixed n) rs = omega arith

pub own_fewer : (low p : ℕ) (vs : List ValueBin) → range_total (own_sources low p vs) ≤ length (ranges_of is_cover p vs)
unfolding own_sources range_total sum_of ranges_of
own_fewer low p [] = omega arith
own_fewer low p (u ∷ vs) = omega (arith, length-append (cond (eqb u.point p && is_cover u.kind) u.ranges []) (ranges_of is_cover p vs), go (eqb u.point p && is_cover u.kind) (own_fewer low p vs))
  where
    rest : ℕ
    rest = length (ranges_of is_cover p vs)

    go : (c : Bool) → sum_of ranges_in (own_sources low p vs) ≤ rest → sum_of ranges_in (cond c (bin_source low u ∷ own_sources low p vs) (own_sources low p vs)) ≤ length (cond c u.ranges []) + rest
    go true h = omega (arith, form_fewer low u.form u.ranges)
    go false h = omega arith

total-append : (xs ys : List Source) → range_total (xs ++ ys) ≡ range_total xs + range_total ys
unfolding range_total sum_of
total-append [] ys = omega arith
total-append (x ∷ xs) ys = omega (arith, total-append xs ys)

pub few-ranges : (t : Table) (p : ℕ) → range_total (sources t p) ≤ cover_listed t p + 1
unfolding sources auto_sources cover_listed
few-ranges t p = omega (arith, total-append (own_sources (lowest (point_at t p)) p t.value_bins) (auto_sources t p), own_fewer (lowest (point_at t p)) p t.value_bins, go (has_auto t p))
  where
    go : (c : Bool) → range_total (cond c (auto_source (point_at t p) ∷ []) []) ≤ 1
    go true = unfold range_total sum_of in (omega arith)
    go false = unfold range_total sum_of in (omega arith)

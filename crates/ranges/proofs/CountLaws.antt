-- The values of ranges, counted by span, are those that are found one after the other.
-- Assumes nothing.
use Rattle.std.proofs.Common.{◌≡◌, ℕ, zero, suc, ◌+◌, ◌-◌, ◌<◌, ◌≤◌, min, max, Bool, true, false, cond, ◌&&◌, ltb, leb, List, [], ◌∷◌, length, sym, refl, ap, ◌∙◌, subst, ap₂, arith, ltb-false, ltb-true, le-ltb, lt-ltb, eq-eqb, ne_eqb, le-leb, leb-false, leb-true}
use native.Mathlib.Nat.{sub-zero}
use borrow.Author.Tests.{lt-leb}
use Rattle.model.specs.Lists.{sum_of}
use Rattle.model.specs.Table.{Range, span, pattern}
use Rattle.model.specs.Values.{field_value}
use Rattle.model.specs.Format.{byte, u64, range_record}
use Rattle.model.specs.Ranges.{no_value, next_in_range, next_in, ascending, size, sizes}
use Rattle.model.specs.Raw.{rows, ranges_at}
use Rattle.model.proofs.Booleans.{false-true, and_left, and_right}
use Rattle.model.proofs.NextValue.{next_ge, next-below}
use Rattle.model.proofs.Lists.{none_left, one_left}
use Rattle.ranges.specs.Types.{value_at}
use Rattle.ranges.specs.declared.counts.Stretch.{Stretch}
use Rattle.ranges.specs.Counts.{in_order, rising, nearer_of, FirstOf}

-- ---- a record

pub span_record : (s : List ℕ) (at a b lo hi : ℕ) → byte s at ≡ 0 → a ≡ u64 s (at + 1) → lo ≡ value_at a → b ≡ u64 s (at + 9) → hi ≡ value_at b → range_record s at ≡ span lo hi
unfolding value_at
span_record s at a b lo hi e ea elo eb ehi =
    ap (λ (c : Bool). cond c (span (field_value (u64 s (at + 1))) (field_value (u64 s (at + 9)))) (pattern (u64 s (at + 1)) (u64 s (at + 9)))) (eq-eqb (byte s at) 0 e)
    ∙ ap₂ span (ap field_value (sym ea) ∙ sym elo) (ap field_value (sym eb) ∙ sym ehi)

pattern_record : (s : List ℕ) (at : ℕ) → (byte s at ≡ 0 → ⊥) → range_record s at ≡ pattern (u64 s (at + 1)) (u64 s (at + 9))
pattern_record s at e =
    ap (λ (c : Bool). cond c (span (field_value (u64 s (at + 1))) (field_value (u64 s (at + 9)))) (pattern (u64 s (at + 1)) (u64 s (at + 9)))) (ne_eqb (byte s at) 0 e)

-- ---- the next value

span-next : (lo hi x : ℕ) → x ≤ hi → next_in_range (span lo hi) x ≡ max lo x
span-next lo hi x h = ap (λ (b : Bool). cond b (max lo x) no_value) (le-leb x hi h)

span-past : (lo hi x : ℕ) → hi < x → next_in_range (span lo hi) x ≡ no_value
span-past lo hi x h = ap (λ (b : Bool). cond b (max lo x) no_value) (lt-leb x hi h)

-- ---- numbers in a row that are all values

pub last-small : (v l m last : ℕ) → v < 8589934592 → m ≡ min l 8589934591 → last ≡ max v m → last ≤ 8589934591
last-small v l m last h em el = omega arith

in_stretch : (v l m last z : ℕ) → v < 8589934592 → m ≡ min l 8589934591 → last ≡ max v m → v + 1 ≤ z → z < v + 1 + (last - v) → (z < no_value) × (v ≤ z) × (z ≤ l)
in_stretch v l m last z small em el lo hi =
    let a = last-small v l m last small em el in
    let b : z ≤ m = omega (arith, el, lo, hi) in
    (omega (arith, a, lo, hi), omega (arith, lo), omega (arith, em, b))

counted_off : (count v last count' : ℕ) → v ≤ last → count < 257 → count' ≡ min 257 (count + (last + 1 - v))
    → (257 - (count + 1) - (last - v) ≡ 257 - count') × (count + suc (min (257 - (count + 1)) (last - v)) ≡ count')
counted_off count v last count' low h ec =
    let d = last - v in
    let a : last + 1 - v ≡ suc d = omega (arith, low) in
    let e : count' ≡ min 257 (count + suc d) = ec ∙ ap (λ (n : ℕ). min 257 (count + n)) a in
    go d e
  where
    go : (d : ℕ) → count' ≡ min 257 (count + suc d) → (257 - (count + 1) - d ≡ 257 - count') × (count + suc (min (257 - (count + 1)) d) ≡ count')
    go d e = (omega (arith, e, h), omega (arith, e, h))

pub more-counted : (count v last count' : ℕ) → count < 257 → v ≤ last → count' ≡ min 257 (count + (last + 1 - v)) → 257 - count' < 257 - count
more-counted count v last count' h low ec = go (last + 1 - v) (omega arith) ec
  where
    go : (d : ℕ) → 1 ≤ d → count' ≡ min 257 (count + d) → 257 - count' < 257 - count
    go d l e = omega (arith, h, l, e)

pub max-left : (v m last : ℕ) → last ≡ max v m → v ≤ last
max-left v m last e = omega arith

up_to : (v last : ℕ) → v ≤ last → v + 1 + (last - v) ≡ last + 1
up_to v last h = omega arith

regroup : (a b c d : ℕ) → a + suc b ≡ c → a + suc (b + d) ≡ c + d
regroup a b c d e = omega arith

module _ (rs : List Range) where
  found : (k x v : ℕ) → v ≡ next_in rs x → v < no_value → length (ascending (suc k) rs x) ≡ suc (length (ascending k rs (v + 1)))
  unfolding ascending
  found k x v e h =
      let z : ltb (next_in rs x) no_value ≡ true = ap (λ (a : ℕ). ltb a no_value) (sym e) ∙ lt-ltb v no_value h in
      ap (λ (b : Bool). length {A = ℕ} (elim b [ true ↦ next_in rs x ∷ ascending k rs (suc (next_in rs x)) | false ↦ [] ])) z
      ∙ ap (λ (a : ℕ). suc (length (ascending k rs a))) (let q : suc (next_in rs x) ≡ v + 1 = omega arith in q)

  none : (k x v : ℕ) → v ≡ next_in rs x → no_value ≤ v → length (ascending k rs x) ≡ 0
  unfolding ascending
  none zero x v e h = refl
  none (suc k) x v e h =
      let z : ltb (next_in rs x) no_value ≡ false = ap (λ (a : ℕ). ltb a no_value) (sym e) ∙ le-ltb v no_value h in
      ap (λ (b : Bool). length {A = ℕ} (elim b [ true ↦ next_in rs x ∷ ascending k rs (suc (next_in rs x)) | false ↦ [] ])) z

  -- d numbers from y on
  in_row : (k d y : ℕ) → ((z : ℕ) → y ≤ z → z < y + d → (z < no_value) × (next_in rs z ≤ z)) → length (ascending k rs y) ≡ min k d + length (ascending (k - d) rs (y + d))
  in_row zero d y h = unfold ascending in (let a : zero - d ≡ 0 = omega arith in rw a (omega arith))
  in_row (suc k) zero y h = let a : y + 0 ≡ y = omega arith in rw (a, sub-zero) (omega arith)
  in_row (suc k) (suc d) y h =
      let first = h y (omega arith) (omega arith) in
      let v : y ≡ next_in rs y = omega (arith, next_ge rs y, first.0, first.1) in
      let a : y + 1 + d ≡ y + suc d = omega arith in
      let b : k - d ≡ suc k - suc d = omega arith in
      let others = in_row k d (y + 1) (λ z lo hi. h z (omega arith) (omega arith)) in
      let c : length (ascending k rs (y + 1)) ≡ min k d + length (ascending (suc k - suc d) rs (y + suc d)) = others ∙ ap₂ (λ (m z : ℕ). min k d + length (ascending m rs z)) b a in
      omega (arith, found k y y v first.0, c)

  -- the first value from x up, and those after it in a row
  pub stretch_on : (x whole count : ℕ) → whole ≡ count + length (ascending (257 - count) rs x) → (r : Stretch) → FirstOf (next_in rs) x r → count < 257 → (m last count' : ℕ) → r.first < 8589934592
      → m ≡ min r.last 8589934591 → last ≡ max r.first m → count' ≡ min 257 (count + (last + 1 - r.first)) → whole ≡ count' + length (ascending (257 - count') rs (last + 1))
  stretch_on x whole count inv r f h m last count' small em el ec =
      let v = r.first in
      let k = 257 - (count + 1) in
      let d = last - v in
      let low = max-left v m last el in
      let one = found k x v f.first small in
      let row = in_row k d (v + 1) (λ z lo hi. let b = in_stretch v r.last m last z small em el lo hi in (b.0, f.row z b.1 b.2 b.0)) in
      let a = up_to v last low in
      let b : k - d ≡ 257 - count' = (counted_off count v last count' low h ec).0 in
      let c : length (ascending k rs (v + 1)) ≡ min k d + length (ascending (257 - count') rs (last + 1)) = row ∙ ap₂ (λ (m z : ℕ). min k d + length (ascending m rs z)) b a in
      let e : whole ≡ count + length (ascending (suc k) rs x) = inv ∙ ap (λ (n : ℕ). count + length (ascending n rs x)) (one_left 257 count h) in
      let g : count + suc (min k d) ≡ count' = (counted_off count v last count' low h ec).1 in
      e ∙ ap (count +◌) (one ∙ ap suc c) ∙ regroup count (min k d) count' (length (ascending (257 - count') rs (last + 1))) g

  pub stretch_start : (x : ℕ) → length (ascending 257 rs x) ≡ 0 + length (ascending (257 - 0) rs x)
  stretch_start x = let z : length (ascending 257 rs x) ≡ 0 + length (ascending 257 rs x) = omega arith in z

  pub stretch_none : (x whole count : ℕ) → whole ≡ count + length (ascending (257 - count) rs x) → (r : Stretch) → FirstOf (next_in rs) x r → 8589934592 ≤ r.first → count ≡ whole
  stretch_none x whole count inv r f h = omega (arith, none (257 - count) x r.first f.first h)

  pub stretch_done : (x whole count : ℕ) → whole ≡ count + length (ascending (257 - count) rs x) → 257 ≤ count → count ≡ whole
  unfolding ascending
  stretch_done x whole count inv h = let y : whole ≡ count + length {A = ℕ} [] = rw (none_left 257 count h) at inv in omega arith

-- ---- spans that rise

pub in_order_lem : (x lo hi : ℕ) → in_order x lo hi ≡ true → (x ≤ lo) × (lo ≤ hi) × (hi < no_value)
in_order_lem x lo hi e =
    let ab = and_left (leb x lo && leb lo hi) (ltb hi no_value) e in
    (leb-true x lo (and_left (leb x lo) (leb lo hi) ab), leb-true lo hi (and_right (leb x lo) (leb lo hi) ab), ltb-true hi no_value (and_right (leb x lo && leb lo hi) (ltb hi no_value) e))

-- none of their values is below x
rising_ge : (rs : List Range) (x y : ℕ) → rising rs x ≡ true → y ≤ x → min x no_value ≤ next_in rs y
unfolding rising next_in
rising_ge [] x y e h = omega arith
rising_ge (pattern bits mask ∷ rs) x y e h = absurd (false-true e)
rising_ge (span lo hi ∷ rs) x y e h =
    let o = in_order_lem x lo hi (and_left (in_order x lo hi) (rising rs (suc hi)) e) in
    let a = o.0 in
    let b = o.1 in
    omega (arith, span-next lo hi y (omega arith), rising_ge rs (suc hi) y (and_right (in_order x lo hi) (rising rs (suc hi)) e) (omega arith))

-- past a span the others are left
past : (lo hi : ℕ) (rs : List Range) (k y : ℕ) → hi < y → length (ascending k (span lo hi ∷ rs) y) ≡ length (ascending k rs y)
past lo hi rs zero y h = unfold ascending in refl
past lo hi rs (suc k) y h = go (ltb (next_in rs y) no_value) refl (λ z q. past lo hi rs k z q)
  where
    same : next_in rs y ≡ next_in (span lo hi ∷ rs) y
    same = unfold next_in in omega (arith, span-past lo hi y h, next-below rs y)

    go : (b : Bool) → ltb (next_in rs y) no_value ≡ b → ((z : ℕ) → hi < z → length (ascending k (span lo hi ∷ rs) z) ≡ length (ascending k rs z))
        → length (ascending (suc k) (span lo hi ∷ rs) y) ≡ length (ascending (suc k) rs y)
    go true e ih =
        let small = ltb-true (next_in rs y) no_value e in
        found (span lo hi ∷ rs) k y (next_in rs y) same small ∙ ap suc (ih (next_in rs y + 1) (omega (arith, next_ge rs y))) ∙ sym (found rs k y (next_in rs y) refl small)
    go false e ih = none (span lo hi ∷ rs) (suc k) y (next_in rs y) same (ltb-false (next_in rs y) no_value e) ∙ sym (none rs (suc k) y (next_in rs y) refl (ltb-false (next_in rs y) no_value e))

summed : (k lo hi n : ℕ) → lo ≤ hi → suc (min k (hi - lo) + min (k - (hi - lo)) n) ≡ min (suc k) (suc hi - lo + n)
summed k lo hi n h = go (hi - lo) (suc hi - lo) (omega arith)
  where
    go : (d m : ℕ) → m ≡ suc d → suc (min k d + min (k - d) n) ≡ min (suc k) (m + n)
    go d m e = omega arith

pub rising-exact : (rs : List Range) (k x : ℕ) → rising rs x ≡ true → length (ascending k rs x) ≡ min k (sizes rs)
unfolding rising sizes sum_of
rising-exact [] k x e = none [] k x no_value (unfold next_in in refl) (omega arith) ∙ omega arith
rising-exact (pattern bits mask ∷ rs) k x e = absurd (false-true e)
rising-exact (span lo hi ∷ rs) zero x e = unfold ascending in omega arith
rising-exact (span lo hi ∷ rs) (suc k) x e =
    let o = in_order_lem x lo hi (and_left (in_order x lo hi) (rising rs (suc hi)) e) in
    let up = and_right (in_order x lo hi) (rising rs (suc hi)) e in
    let a = o.0 in
    let b = o.1 in
    let c = o.2 in
    let d = hi - lo in
    let low = rising_ge rs (suc hi) x up (omega arith) in
    let first : lo ≡ next_in (span lo hi ∷ rs) x = unfold next_in in omega (arith, span-next lo hi x (omega arith), low) in
    let row = in_row (span lo hi ∷ rs) k d (lo + 1) (λ z p q. (omega arith, (unfold next_in in omega (arith, span-next lo hi z (omega arith))))) in
    let y : lo + 1 + d ≡ suc hi = omega arith in
    let rest : length (ascending (k - d) (span lo hi ∷ rs) (lo + 1 + d)) ≡ min (k - d) (sum_of size rs) =
    ap (λ (z : ℕ). length (ascending (k - d) (span lo hi ∷ rs) z)) y ∙ past lo hi rs (k - d) (suc hi) (omega arith) ∙ rising-exact rs (k - d) (suc hi) up in
    let one = found (span lo hi ∷ rs) k x lo first (omega arith) in
    one ∙ ap suc (row ∙ ap (min k d +◌) rest) ∙ summed k lo hi (sum_of size rs) b

capped-sum : (count m m' n count' : ℕ) → m' ≡ m → count' ≡ min 257 (count + m) → min 257 (count + (m' + n)) ≡ min 257 (count' + n)
capped-sum count m m' n count' e ec = omega arith

-- ---- the pass over spans that rise: x is what stands after the last, `count` the values so far

-- the answer, by the spans that are left
abbrev pub answer_from : List Range → ℕ → ℕ → ℕ
answer_from rs x count = cond (rising rs x) (min 257 (count + sizes rs)) 258

module _ (s : List ℕ) (n : ℕ) where
  abbrev Left : ℕ → ℕ → List Range
  Left at i = ranges_at s at (n - i)

  pub rising_start : (start low : ℕ) → cond (rising (ranges_at s start n) low) (min 257 (sizes (ranges_at s start n))) 258 ≡ answer_from (Left start 0) low 0
  rising_start start low =
      let z : sizes (ranges_at s start n) ≡ 0 + sizes (ranges_at s start n) = omega arith in
      let y : cond (rising (ranges_at s start n) low) (min 257 (sizes (ranges_at s start n))) 258 ≡ answer_from (ranges_at s start n) low 0 =
      ap (λ (a : ℕ). cond (rising (ranges_at s start n) low) (min 257 a) 258) z in
      rw sub-zero y

  module _ (i at whole x count : ℕ) (inv : whole ≡ answer_from (Left at i) x count) where
    pub rising-done : n ≤ i → count ≤ 257 → count ≡ whole
    unfolding rising rows sizes sum_of
    rising-done h k = let y : whole ≡ min 257 (count + 0) = rw (none_left n i h) at inv in omega arith

    first_left : i < n → (r : Range) → range_record s at ≡ r → whole ≡ answer_from (r ∷ ranges_at s (at + 17) (n - (i + 1))) x count
    unfolding rows
    first_left h r e =
        let y : whole ≡ answer_from (range_record s at ∷ ranges_at s (at + 17) (n - (i + 1))) x count = rw (one_left n i h) at inv in
        y ∙ ap (λ (r : Range). answer_from (r ∷ ranges_at s (at + 17) (n - (i + 1))) x count) e

    pub rising-pattern : i < n → (byte s at ≡ 0 → ⊥) → 258 ≡ whole
    unfolding rising
    rising-pattern h e = sym (first_left h (pattern (u64 s (at + 1)) (u64 s (at + 9))) (pattern_record s at e))

    module _ (h : i < n) (lo hi : ℕ) (e : range_record s at ≡ span lo hi) where
      one : whole ≡ answer_from (span lo hi ∷ ranges_at s (at + 17) (n - (i + 1))) x count
      one = first_left h (span lo hi) e

      pub rising-stop : in_order x lo hi ≡ false → 258 ≡ whole
      unfolding rising
      rising-stop f = sym (one ∙ ap (λ (b : Bool). cond (b && rising (ranges_at s (at + 17) (n - (i + 1))) (suc hi)) (min 257 (count + sizes (span lo hi ∷ ranges_at s (at + 17) (n - (i + 1))))) 258) f)

      pub rising-on : in_order x lo hi ≡ true → (count' : ℕ) → count' ≡ min 257 (count + (hi + 1 - lo)) → whole ≡ answer_from (ranges_at s (at + 17) (n - (i + 1))) (hi + 1) count'
      unfolding rising sizes sum_of
      rising-on t count' ec =
          one ∙ ap (λ (b : Bool). cond (b && rising rest (suc hi)) (min 257 (count + (suc hi - lo + sum_of size rest))) 258) t
          ∙ ap₂ (λ (y m : ℕ). cond (rising rest y) m 258) (let z : suc hi ≡ hi + 1 = omega arith in z) (capped-sum count (hi + 1 - lo) (suc hi - lo) (sum_of size rest) count' (let z : suc hi - lo ≡ hi + 1 - lo = ap (λ (y : ℕ). y - lo) (let q : suc hi ≡ hi + 1 = omega arith in q) in z) ec)
        where
          rest : List Range
          rest = ranges_at s (at + 17) (n - (i + 1))

-- ---- the pass that finds the first values in a row

-- `best` is the nearest so far, `rest` the spans that are left
pub record Nearest (rs rest : List Range) (x : ℕ) (best : Stretch) : Type 0 where
  pub first : next_in rs x ≡ min best.first (next_in rest x)
  pub small : best.first ≤ no_value
  pub among : (y : ℕ) → next_in rs y ≤ next_in rest y
  pub row : (y : ℕ) → best.first ≤ y → y ≤ best.last → y < no_value → next_in rs y ≤ y

nearest-next : (rs rest : List Range) (r : Range) (x : ℕ) (best other : Stretch) → Nearest rs (r ∷ rest) x best → FirstOf (next_in_range r) x other → Nearest rs rest x (nearer_of best other)
nearest-next rs rest r x best other near f = go (ltb other.first best.first) refl
  where
    next : next_in rs x ≡ min best.first (min (next_in_range r x) (next_in rest x))
    next = unfold next_in in near.first

    others : (y : ℕ) → next_in rs y ≤ min (next_in_range r y) (next_in rest y)
    others y = unfold next_in in near.among y

    left : (y : ℕ) → next_in rs y ≤ next_in rest y
    left y = omega (arith, others y)

    go : (b : Bool) → ltb other.first best.first ≡ b → Nearest rs rest x (cond b other best)
    go true e =
        let less = ltb-true other.first best.first e in
        record {
          first = omega (arith, next, f.first, less);
          small = omega (arith, less, near.small);
          among = left;
          row = λ y a b c. omega (arith, others y, f.row y a b c);
        }
    go false e = record { first = omega (arith, next, f.first, ltb-false other.first best.first e); small = near.small; among = left; row = near.row }

module _ (s : List ℕ) (start n x : ℕ) where
  pub nearest_start : Nearest (ranges_at s start n) (ranges_at s start (n - 0)) x (record { first = 8589934592; last = 0 })
  nearest_start =
      let z : Nearest (ranges_at s start n) (ranges_at s start n) x (record { first = 8589934592; last = 0 }) =
      record { first = omega (arith, next-below (ranges_at s start n) x); small = omega arith; among = λ y. omega arith; row = λ y a b c. absurd (omega arith) } in
      rw sub-zero z

  module _ (i at : ℕ) (best : Stretch) (near : Nearest (ranges_at s start n) (ranges_at s at (n - i)) x best) where
    pub nearest-on : (other best' : Stretch) → i < n → FirstOf (next_in_range (range_record s at)) x other → best' ≡ nearer_of best other → Nearest (ranges_at s start n) (ranges_at s (at + 17) (n - (i + 1))) x best'
    unfolding rows
    nearest-on other best' h f eb =
        let rest = ranges_at s (at + 17) (n - (i + 1)) in
        let y : Nearest (ranges_at s start n) (range_record s at ∷ rest) x best = subst (λ (m : ℕ). Nearest (ranges_at s start n) (ranges_at s at m) x best) (one_left n i h) near in
        subst (λ (b : Stretch). Nearest (ranges_at s start n) rest x b) (sym eb) (nearest-next (ranges_at s start n) rest (range_record s at) x best other y f)

    pub nearest-done : n ≤ i → FirstOf (next_in (ranges_at s start n)) x best
    unfolding rows next_in
    nearest-done h =
        let y : next_in (ranges_at s start n) x ≡ min best.first (next_in (ranges_at s at 0) x) = near.first ∙ ap (λ (m : ℕ). min best.first (next_in (ranges_at s at m) x)) (none_left n i h) in
        record { first = last_one best.first (next_in (ranges_at s start n) x) y near.small; row = near.row }
      where
        last_one : (a b : ℕ) → b ≡ min a no_value → a ≤ no_value → a ≡ b
        last_one a b e h = omega arith

-- ---- the nearer of two

module _ (best other : Stretch) where
  pub nearer_other : other.first < best.first → other ≡ nearer_of best other
  nearer_other h = ap (λ (b : Bool). cond b other best) (sym (lt-ltb other.first best.first h))

  pub nearer_kept : best.first ≤ other.first → best ≡ nearer_of best other
  nearer_kept h = ap (λ (b : Bool). cond b other best) (sym (le-ltb other.first best.first h))

-- ---- the first values of one range

pub span-first : (s : List ℕ) (at x lo hi : ℕ) (r : Stretch) → range_record s at ≡ span lo hi → r.first ≡ next_in_range (span lo hi) x → r.last ≡ hi → FirstOf (next_in_range (range_record s at)) x r
span-first s at x lo hi r e f l = subst (λ (q : Range). FirstOf (next_in_range q) x r) (sym e) (record { first = f; row = row })
  where
    from_low : (b : Bool) → leb x hi ≡ b → (y : ℕ) → r.first ≤ y → y < no_value → lo ≤ y
    from_low true t y a c = omega (arith, f, span-next lo hi x (leb-true x hi t))
    from_low false t y a c = absurd (omega (arith, f, span-past lo hi x (leb-false x hi t)))

    row : (y : ℕ) → r.first ≤ y → y ≤ r.last → y < no_value → next_in_range (span lo hi) y ≤ y
    row y a b c = omega (arith, span-next lo hi y (omega arith), from_low (leb x hi) refl y a c)

pub pattern-first : (s : List ℕ) (at x a b : ℕ) (r : Stretch) → (byte s at ≡ 0 → ⊥) → a ≡ u64 s (at + 1) → b ≡ u64 s (at + 9) → r.first ≡ next_in_range (pattern a b) x → r.last ≡ 0
    → FirstOf (next_in_range (range_record s at)) x r
pattern-first s at x a b r e ea eb f l =
    subst (λ (q : Range). FirstOf (next_in_range q) x r) (sym (pattern_record s at e ∙ ap₂ pattern (sym ea) (sym eb))) (record { first = f; row = λ y p q c. absurd (omega arith) })

-- ---- spans that rise have been counted

pub rising-found : (rs : List Range) (x found : ℕ) → found ≡ cond (rising rs x) (min 257 (sizes rs)) 258 → found ≤ 257 → found ≡ length (ascending 257 rs x)
rising-found rs x found e h = go (rising rs x) refl e
  where
    go : (b : Bool) → rising rs x ≡ b → found ≡ cond b (min 257 (sizes rs)) 258 → found ≡ length (ascending 257 rs x)
    go true t e = e ∙ sym (rising-exact rs 257 x t)
    go false t e = absurd (omega arith)

-- Which of n bins gets a value that stands at a known place in the listed order: what the model's portions say, by one division.
-- Assumes nothing.
use mathlib.Core.Path.{◌≡◌, refl, sym, ap₂, ◌∙◌}
use mathlib.Core.Bool.{Bool, true, false, ◌&&◌, ◌||◌, cond, or-false}
use mathlib.Core.List.{List, [], ◌∷◌}
use Prim.Native.Nat.{ℕ, suc, ◌+◌, ◌-◌, ◌*◌, ◌/◌, ◌≤◌, ◌<◌, min, max}
use native.Mathlib.Omega.{arith}
use native.Mathlib.Nat.{le-div_iff_mul-le, div-lt_iff_lt-mul}
use lib.Dec.{leb, ltb, eqb}
use borrow.Author.Tests.{leb-true, ltb-true, ltb-false, le-leb, lt-ltb, eqb-true, eq-eqb}
use Rattle.model.specs.Lists.{sum_of, one_of}
use Rattle.model.specs.Table.{Range, span, pattern}
use Rattle.model.specs.Values.{in_ranges}
use Rattle.model.specs.Ranges.{size, sizes, cut_range, cut_ranges, portion_ranges}
use Rattle.model.proofs.Booleans.{false-true, and_left, and_right, bool_eq}
use Rattle.model.proofs.Slices.{in_ranges-append}
use Rattle.parts.specs.Rows.{place_in}

-- ---- where the value stands in the listed order of some spans, the first of which begins at `before`, as numbers of the bins that get these places

abbrev in_span : Range → ℕ → Bool
in_span (span lo hi) v = leb lo v && leb v hi
in_span (pattern bits mask) v = false

unfoldable pub bins_of : ℕ → ℕ → ℕ → ℕ → List Range → List ℕ
bins_of each last v before [] = []
bins_of each last v before (r ∷ rs) =
    cond (in_span r v) (min ((before + place_in r v) / each) last ∷ bins_of each last v (before + size r) rs) (bins_of each last v (before + size r) rs)

-- ---- the model's portions

-- the values that are cut out of a span
cut_in : (start to lo hi v : ℕ) → in_ranges (cut_range start to (span lo hi)) v ≡ (leb (lo + start) v && ltb v (lo + min to (suc hi - lo)))
unfolding in_ranges
cut_in start to lo hi v = go (ltb start end) refl
  where
    end : ℕ
    end = min to (suc hi - lo)

    go : (b : Bool) → ltb start end ≡ b → in_ranges (cond b (span (lo + start) (lo + end - 1) ∷ []) []) v ≡ (leb (lo + start) v && ltb v (lo + end))
    go true e =
        let h = ltb-true start end e in
        or-false (leb (lo + start) v && leb v (lo + end - 1))
        ∙ bool_eq (leb (lo + start) v && leb v (lo + end - 1)) (leb (lo + start) v && ltb v (lo + end))
        (λ k. ap₂ ◌&&◌ (and_left (leb (lo + start) v) (leb v (lo + end - 1)) k) (lt-ltb v (lo + end) (omega (arith, leb-true v (lo + end - 1) (and_right (leb (lo + start) v) (leb v (lo + end - 1)) k)))))
        (λ k. ap₂ ◌&&◌ (and_left (leb (lo + start) v) (ltb v (lo + end)) k) (le-leb v (lo + end - 1) (omega (arith, ltb-true v (lo + end) (and_right (leb (lo + start) v) (ltb v (lo + end)) k)))))
    go false e =
        let h = ltb-false start end e in
        bool_eq false (leb (lo + start) v && ltb v (lo + end)) (λ k. absurd (false-true k))
        (λ k. absurd (omega (arith, leb-true (lo + start) v (and_left (leb (lo + start) v) (ltb v (lo + end)) k), ltb-true v (lo + end) (and_right (leb (lo + start) v) (ltb v (lo + end)) k))))

-- `lower` to `upper` − 1 are the places below `total` that bin k gets
abbrev pub Gets : ℕ → ℕ → ℕ → ℕ → ℕ → ℕ → Type 0
Gets k each last lower upper total = (place : ℕ) → place < total → (leb lower place && ltb place upper) ≡ eqb k (min (place / each) last)

module _ (k each last v lower upper total : ℕ) (gets : Gets k each last lower upper total) where
  one_cut : (before : ℕ) (r : Range) → before + size r ≤ total → in_ranges (cut_range (lower - before) (upper - before) r) v ≡ (in_span r v && eqb k (min ((before + place_in r v) / each) last))
  unfolding in_ranges
  one_cut before (pattern bits mask) fit = refl
  one_cut before (span lo hi) fit = cut_in start to lo hi v ∙ bool_eq cut hit there back
    where
      start : ℕ
      start = lower - before

      to : ℕ
      to = upper - before

      place : ℕ
      place = before + (v - lo)

      cut : Bool
      cut = leb (lo + start) v && ltb v (lo + min to (suc hi - lo))

      hit : Bool
      hit = (leb lo v && leb v hi) && eqb k (min (place / each) last)

      there : cut ≡ true → hit ≡ true
      there e =
          let a = leb-true (lo + start) v (and_left (leb (lo + start) v) (ltb v (lo + min to (suc hi - lo))) e) in
          let b = ltb-true v (lo + min to (suc hi - lo)) (and_right (leb (lo + start) v) (ltb v (lo + min to (suc hi - lo))) e) in
          ap₂ ◌&&◌ (ap₂ ◌&&◌ (le-leb lo v (omega arith)) (le-leb v hi (omega arith)))
          (sym (gets place (omega arith)) ∙ ap₂ ◌&&◌ (le-leb lower place (omega arith)) (lt-ltb place upper (omega arith)))

      back : hit ≡ true → cut ≡ true
      back e =
          let s = and_left (leb lo v && leb v hi) (eqb k (min (place / each) last)) e in
          let a = leb-true lo v (and_left (leb lo v) (leb v hi) s) in
          let b = leb-true v hi (and_right (leb lo v) (leb v hi) s) in
          let g = gets place (omega arith) ∙ and_right (leb lo v && leb v hi) (eqb k (min (place / each) last)) e in
          let c = leb-true lower place (and_left (leb lower place) (ltb place upper) g) in
          let d = ltb-true place upper (and_right (leb lower place) (ltb place upper) g) in
          ap₂ ◌&&◌ (le-leb (lo + start) v (omega arith)) (lt-ltb v (lo + min to (suc hi - lo)) (omega arith))

  cut_bins : (before : ℕ) (rs : List Range) → before + sizes rs ≤ total → in_ranges (cut_ranges (lower - before) (upper - before) rs) v ≡ one_of k (bins_of each last v before rs)
  unfolding cut_ranges bins_of sizes sum_of
  cut_bins before [] fit = unfold in_ranges one_of in refl
  cut_bins before (r ∷ rs) fit =
      in_ranges-append (cut_range (lower - before) (upper - before) r) (cut_ranges (lower - before - size r) (upper - before - size r) rs) v
      ∙ ap₂ ◌||◌ (one_cut before r (omega arith))
      (ap₂ (λ (a b : ℕ). in_ranges (cut_ranges a b rs) v) (let z : lower - before - size r ≡ lower - (before + size r) = omega arith in z) (let z : upper - before - size r ≡ upper - (before + size r) = omega arith in z)
      ∙ cut_bins (before + size r) rs (omega arith))
      ∙ sym (split (in_span r v))
    where
      bin : ℕ
      bin = min ((before + place_in r v) / each) last

      others : List ℕ
      others = bins_of each last v (before + size r) rs

      split : (b : Bool) → one_of k (cond b (bin ∷ others) others) ≡ ((b && eqb k bin) || one_of k others)
      split true = unfold one_of in refl
      split false = refl

-- the places that the k-th of n bins gets
dealt : (n k each total : ℕ) → 1 ≤ each → k < n → Gets k each (n - 1) (k * each) (cond (eqb (suc k) n) total (suc k * each)) total
dealt n k each total some few place h = go (eqb (suc k) n) refl
  where
    q : ℕ
    q = place / each

    from_low : k * each ≤ place → k ≤ q
    from_low z = (le-div_iff_mul-le {k = each} {x = k} {y = place} some).1 z

    low : k ≤ q → k * each ≤ place
    low z = (le-div_iff_mul-le {k = each} {x = k} {y = place} some).0 z

    from-high : place < suc k * each → q < suc k
    from-high z = (div-lt_iff_lt-mul {k = each} {x = place} {y = suc k} some).1 z

    high : q < suc k → place < suc k * each
    high z = (div-lt_iff_lt-mul {k = each} {x = place} {y = suc k} some).0 z

    go : (b : Bool) → eqb (suc k) n ≡ b → (leb (k * each) place && ltb place (cond b total (suc k * each))) ≡ eqb k (min (place / each) (n - 1))
    go true e =
        let s = eqb-true (suc k) n e in
        bool_eq (leb (k * each) place && ltb place total) (eqb k (min q (n - 1)))
        (λ z. let y : k ≤ q = from_low (leb-true (k * each) place (and_left (leb (k * each) place) (ltb place total) z)) in eq-eqb k (min q (n - 1)) (omega arith))
        (λ z. let y = eqb-true k (min q (n - 1)) z in let x : k ≤ q = omega arith in ap₂ ◌&&◌ (le-leb (k * each) place (low x)) (lt-ltb place total h))
    go false e =
        let s : (suc k ≡ n) → ⊥ = λ z. false-true (sym e ∙ eq-eqb (suc k) n z) in
        let m : suc k < n = below s in
        bool_eq (leb (k * each) place && ltb place (suc k * each)) (eqb k (min q (n - 1)))
        (λ z.
        let y : k ≤ q = from_low (leb-true (k * each) place (and_left (leb (k * each) place) (ltb place (suc k * each)) z)) in
        let x : q < suc k = from-high (ltb-true place (suc k * each) (and_right (leb (k * each) place) (ltb place (suc k * each)) z)) in
        eq-eqb k (min q (n - 1)) (omega arith))
        (λ z.
        let y = eqb-true k (min q (n - 1)) z in
        let x : k ≤ q = omega arith in
        let w : q < suc k = omega arith in
        ap₂ ◌&&◌ (le-leb (k * each) place (low x)) (lt-ltb place (suc k * each) (high w)))
      where
        below : ((suc k ≡ n) → ⊥) → suc k < n
        below s = omega arith

-- The value is in the k-th of n bins exactly if one of its places is dealt to bin k.
pub portion-bins : (n k v : ℕ) (rs : List Range) → k < n → in_ranges (portion_ranges n k rs) v ≡ one_of k (bins_of (max 1 (sizes rs / n)) (n - 1) v 0 rs)
portion-bins n k v rs few =
    let each = max 1 (sizes rs / n) in
    let upper = cond (eqb (suc k) n) (sizes rs) (suc k * each) in
    ap₂ (λ (a b : ℕ). in_ranges (cut_ranges a b rs) v) (let z : k * each ≡ k * each - 0 = omega arith in z) (let z : upper ≡ upper - 0 = omega arith in z)
    ∙ cut_bins k each (n - 1) v (k * each) upper (sizes rs) (dealt n k each (sizes rs) (omega arith) few) 0 rs (omega arith)

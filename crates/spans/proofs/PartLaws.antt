-- Bins of other points do not matter to a point.
-- Assumes nothing.
use mathlib.Core.Path.{◌≡◌, refl, sym, ap, ap₂, ◌∙◌}
use mathlib.Core.Bool.{Bool, true, false, not, ◌&&◌, ◌||◌, cond}
use mathlib.Core.List.{List, [], ◌∷◌, ◌++◌}
use Prim.Native.Nat.{ℕ, zero, suc, ◌+◌, ◌-◌, ◌*◌, ◌≤◌}
use native.Mathlib.Omega.{arith}
use lib.Dec.{eqb, leb}
use borrow.Author.Tests.{ne_eqb}
use Rattle.model.specs.Table.{Kind, ValueBin, excludes}
use Rattle.model.specs.Format.{byte, u16}
use Rattle.model.specs.Ranges.{ranges_of}
use Rattle.model.specs.Raw.{bin_at, bins_at, record_count}
use Rattle.layout.specs.Places.{layout_of, bin_sections_of}
use Rattle.layout.specs.declared.BinSections.{BinSections}
use Rattle.ranges.specs.Taken.{excluded_at}
use Rattle.values.specs.Points.{is_own, some_own, has_auto_at}
use Rattle.spans.specs.Part.{Other, OthersFrom, OthersTo, ranges_past, PartOf}

-- ---- found

past_next : (s : List ℕ) (k a r : ℕ) → ranges_past s a r (suc k) ≡ ranges_past s a r k + 17 * u16 s (a + 8 * k + 6)
unfolding ranges_past
past_next s zero a r = ap (λ (x : ℕ). r + 17 * u16 s (x + 6)) (let z : a ≡ a + 8 * 0 = omega arith in z)
past_next s (suc k) a r =
    past_next s k (a + 8) (r + 17 * u16 s (a + 6))
    ∙ ap (λ (x : ℕ). ranges_past s (a + 8) (r + 17 * u16 s (a + 6)) k + 17 * u16 s (x + 6)) (let z : a + 8 + 8 * k ≡ a + 8 * suc k = omega arith in z)

pub past-start : (s : List ℕ) (a r : ℕ) → r ≡ ranges_past s a r 0
unfolding ranges_past
past-start s a r = refl

pub past-turn : (s : List ℕ) (i a₀ r₀ a r k : ℕ) → a ≡ a₀ + 8 * i → r ≡ ranges_past s a₀ r₀ i → k ≡ u16 s (a + 6) → r + 17 * k ≡ ranges_past s a₀ r₀ (i + 1)
past-turn s i a₀ r₀ a r k ea er ek = ap₂ (λ (x y : ℕ). x + 17 * y) er (ek ∙ ap (λ (x : ℕ). u16 s (x + 6)) ea) ∙ sym (past_next s i a₀ r₀) ∙ ap (ranges_past s a₀ r₀) (let z : suc i ≡ i + 1 = omega arith in z)

pub other_at : (s : List ℕ) (p a₀ i a v : ℕ) → a ≡ a₀ + 8 * i → v ≡ byte s a → (v ≡ p → ⊥) → Other s p (a₀ + 8 * i)
other_at s p a₀ i a v ea e h = ne_eqb (byte s (a₀ + 8 * i)) p (λ z. h (e ∙ ap (byte s) ea ∙ z))

-- in a table
pub bins-few : (s : List ℕ) (l : BinSections) → l ≡ bin_sections_of s → l.bin_count ≡ record_count s 1
unfolding layout_of
bins-few s l el = ap (λ (x : BinSections). x.bin_count) el

-- ---- a point's own bins

unfoldable pub own_bins : ℕ → List ValueBin → List ValueBin
own_bins p [] = []
own_bins p (b ∷ bs) = cond (eqb b.point p) (b ∷ own_bins p bs) (own_bins p bs)

pub shift : (s : List ℕ) (p a j : ℕ) → Other s p (a + 8 * suc j) → Other s p (a + 8 + 8 * j)
shift s p a j h = ap (λ (x : ℕ). eqb (byte s x) p) (let z : a + 8 + 8 * j ≡ a + 8 * suc j = omega arith in z) ∙ h

pub first_other : (s : List ℕ) (p a : ℕ) → Other s p (a + 8 * 0) → Other s p a
first_other s p a h = ap (λ (x : ℕ). eqb (byte s x) p) (let z : a ≡ a + 8 * 0 = omega arith in z) ∙ h

module _ (s : List ℕ) (p : ℕ) where
  own_skip : (k m a r : ℕ) → OthersTo s p a k → own_bins p (bins_at s a r (k + m)) ≡ own_bins p (bins_at s (a + 8 * k) (ranges_past s a r k) m)
  unfolding bins_at own_bins ranges_past
  own_skip zero m a r h = ap₂ (λ (x y : ℕ). own_bins p (bins_at s x r y)) (let z : a ≡ a + 8 * 0 = omega arith in z) (let z : 0 + m ≡ m = omega arith in z)
  own_skip (suc k) m a r h =
      ap (λ (x : ℕ). own_bins p (bins_at s a r x)) (let z : suc k + m ≡ suc (k + m) = omega arith in z)
      ∙ ap (λ (c : Bool). cond c (bin_at s a r ∷ own_bins p (bins_at s (a + 8) (r + 17 * u16 s (a + 6)) (k + m))) (own_bins p (bins_at s (a + 8) (r + 17 * u16 s (a + 6)) (k + m)))) (first_other s p a (h 0 (omega arith)))
      ∙ own_skip k m (a + 8) (r + 17 * u16 s (a + 6)) (λ j i. shift s p a j (h (suc j) (omega arith)))
      ∙ ap (λ (x : ℕ). own_bins p (bins_at s x (ranges_past s (a + 8) (r + 17 * u16 s (a + 6)) k) m)) (let z : a + 8 + 8 * k ≡ a + 8 * suc k = omega arith in z)

  own_trim : (m k a r : ℕ) → OthersFrom s p a (m + k) m → own_bins p (bins_at s a r (m + k)) ≡ own_bins p (bins_at s a r m)
  unfolding bins_at own_bins
  own_trim zero zero a r h = ap (λ (x : ℕ). own_bins p (bins_at s a r x)) (let z : 0 + 0 ≡ 0 = omega arith in z)
  own_trim zero (suc k) a r h =
      ap (λ (x : ℕ). own_bins p (bins_at s a r x)) (let z : 0 + suc k ≡ suc (0 + k) = omega arith in z)
      ∙ ap (λ (c : Bool). cond c (bin_at s a r ∷ own_bins p (bins_at s (a + 8) (r + 17 * u16 s (a + 6)) (0 + k))) (own_bins p (bins_at s (a + 8) (r + 17 * u16 s (a + 6)) (0 + k)))) (first_other s p a (h 0 (omega arith) (omega arith)))
      ∙ own_trim zero k (a + 8) (r + 17 * u16 s (a + 6)) (λ j g i. shift s p a j (h (suc j) (omega arith) (omega arith)))
  own_trim (suc m) k a r h =
      ap (λ (x : ℕ). own_bins p (bins_at s a r x)) (let z : suc m + k ≡ suc (m + k) = omega arith in z)
      ∙ ap (λ (bs : List ValueBin). cond (eqb (byte s a) p) (bin_at s a r ∷ bs) bs) (own_trim m k (a + 8) (r + 17 * u16 s (a + 6)) (λ j g i. shift s p a j (h (suc j) (omega arith) (omega arith))))

  pub own_part : (a r n b q m : ℕ) → PartOf s p a r n b q m → own_bins p (bins_at s b q m) ≡ own_bins p (bins_at s a r n)
  own_part a r n b q m o =
      let k = o.skipped in
      let rest = n - (k + m) in
      let place : a + 8 * k ≡ b = sym o.place in
      let ranges : ranges_past s a r k ≡ q = sym o.ranges in
      let whole : k + (m + rest) ≡ n = omega (arith, o.few) in
      sym
      (ap (λ (x : ℕ). own_bins p (bins_at s a r x)) (sym whole)
      ∙ own_skip k (m + rest) a r o.others
      ∙ own_trim m rest (a + 8 * k) (ranges_past s a r k)
      (λ j g i. ap (λ (x : ℕ). eqb (byte s x) p) (let z : a + 8 * k + 8 * j ≡ a + 8 * (k + j) = omega arith in z) ∙ o.others₁ (k + j) (omega arith) (omega arith))
      ∙ rw (place, ranges))

  -- what they take
  ranges_own : (f : Kind → Bool) (bs : List ValueBin) → ranges_of f p (own_bins p bs) ≡ ranges_of f p bs
  unfolding ranges_of own_bins
  ranges_own f [] = refl
  ranges_own f (b ∷ bs) = go (eqb b.point p) refl (ranges_own f bs)
    where
      go : (c : Bool) → eqb b.point p ≡ c → ranges_of f p (own_bins p bs) ≡ ranges_of f p bs
          → ranges_of f p (cond c (b ∷ own_bins p bs) (own_bins p bs)) ≡ cond (c && f b.kind) b.ranges [] ++ ranges_of f p bs
      go true e h = rw e (ap (cond (f b.kind) b.ranges [] ++◌) h)
      go false e h = h

  pub excluded_part : (a r n b q m : ℕ) → PartOf s p a r n b q m → excluded_at s b q m p ≡ excluded_at s a r n p
  excluded_part a r n b q m o = sym (ranges_own excludes (bins_at s b q m)) ∙ ap (ranges_of excludes p) (own_part a r n b q m o) ∙ ranges_own excludes (bins_at s a r n)

  -- whether one of them leaves the point without auto bins
  some_skip : (k m a n : ℕ) → n ≡ k + m → OthersTo s p a k → some_own s p true 8 a n ≡ some_own s p true 8 (a + 8 * k) m
  unfolding some_own
  some_skip zero m a n e h = ap₂ (λ (x y : ℕ). some_own s p true 8 x y) (let z : a ≡ a + 8 * 0 = omega arith in z) (let z : n ≡ m = omega arith in z)
  some_skip (suc k) m a zero e h = absurd (omega arith)
  some_skip (suc k) m a (suc n) e h =
      ap (λ (c : Bool). (c && (eqb (byte s (a + 1)) 0 || (true && leb 3 (byte s (a + 1))))) || some_own s p true 8 (a + 8) n) (first_other s p a (h 0 (omega arith)))
      ∙ some_skip k m (a + 8) n (omega arith) (λ j i. shift s p a j (h (suc j) (omega arith)))
      ∙ ap (λ (x : ℕ). some_own s p true 8 x m) (let z : a + 8 + 8 * k ≡ a + 8 * suc k = omega arith in z)

  some_trim : (m n a : ℕ) → m ≤ n → OthersFrom s p a n m → some_own s p true 8 a n ≡ some_own s p true 8 a m
  unfolding some_own
  some_trim zero zero a e h = refl
  some_trim zero (suc n) a e h =
      ap (λ (c : Bool). (c && (eqb (byte s (a + 1)) 0 || (true && leb 3 (byte s (a + 1))))) || some_own s p true 8 (a + 8) n) (first_other s p a (h 0 (omega arith) (omega arith)))
      ∙ some_trim zero n (a + 8) (omega arith) (λ j g i. shift s p a j (h (suc j) (omega arith) (omega arith)))
  some_trim (suc m) zero a e h = absurd (omega arith)
  some_trim (suc m) (suc n) a e h = ap (is_own s p true a ||◌) (some_trim m n (a + 8) (omega arith) (λ j g i. shift s p a j (h (suc j) (omega arith) (omega arith))))

  pub part_some : (a r n b q m : ℕ) → PartOf s p a r n b q m → some_own s p true 8 b m ≡ some_own s p true 8 a n
  part_some a r n b q m o =
      let k = o.skipped in
      ap (λ (x : ℕ). some_own s p true 8 x m) o.place
      ∙ sym
      (some_skip k (n - k) a n (omega (arith, o.few)) o.others
      ∙ some_trim m (n - k) (a + 8 * k) (omega (arith, o.few))
      (λ j g i. ap (λ (x : ℕ). eqb (byte s x) p) (let z : a + 8 * k + 8 * j ≡ a + 8 * (k + j) = omega arith in z) ∙ o.others₁ (k + j) (omega arith) (omega arith)))

  pub part_auto : (a r n b q m : ℕ) → PartOf s p a r n b q m → (t k : ℕ) → has_auto_at s p b m t k ≡ has_auto_at s p a n t k
  part_auto a r n b q m o t k = ap (λ (c : Bool). not c && not (some_own s p false 4 t k)) (part_some a r n b q m o)

-- The origins of a point's cover bins, value bin after value bin.
-- Assumes nothing.
use mathlib.Core.Path.{◌≡◌, refl, sym, ap, ap₂, ◌∙◌}
use mathlib.Core.Bool.{Bool, ◌&&◌, cond}
use mathlib.Core.List.{List, [], ◌++◌}
use Prim.Native.Nat.{ℕ, zero, suc, ◌+◌, ◌-◌, ◌*◌, ◌/◌, ◌≤◌, ◌<◌}
use native.Mathlib.Omega.{arith}
use lib.Dec.{eqb}
use lib.ListN.{replicate}
use Rattle.model.specs.Table.{is_cover}
use Rattle.model.specs.Values.{lowest}
use Rattle.model.specs.Format.{byte, u16, kind_from, point_record}
use Rattle.model.specs.Raw.{bin_at, bins_at}
use Rattle.model.proofs.Lists.{none_left, one_left}
use Rattle.values.specs.Counts.{cover_count, autos_of}
use Rattle.values.specs.Points.{has_auto_at}
use Rattle.layout.specs.declared.Layout.{Layout}
use Rattle.spans.specs.declared.collects.Bins.{Bins}
use Rattle.spans.specs.Part.{Other, OthersTo, OthersFrom, ranges_past, PartOf}
use Rattle.spans.proofs.PartLaws.{shift, first_other}
use Rattle.origins.specs.Points.{own_count, origins_in, first_of, point_origins}

module _ (s : List ℕ) (low p first b r n i : ℕ) where
  pub origins_end : n ≤ i → origins_in low p (first + i) (bins_at s b r (n - i)) ≡ []
  unfolding origins_in bins_at
  origins_end h = ap (λ (m : ℕ). origins_in low p (first + i) (bins_at s b r m)) (none_left n i h)

  pub origins_turn : (m k : ℕ) → i < n → m ≡ own_count low p (bin_at s b r) → k ≡ u16 s (b + 6)
      → origins_in low p (first + i) (bins_at s b r (n - i)) ≡ replicate m (first + i) ++ origins_in low p (first + (i + 1)) (bins_at s (b + 8) (r + 17 * k) (n - (i + 1)))
  unfolding origins_in bins_at
  origins_turn m k h em ek =
      ap (λ (x : ℕ). origins_in low p (first + i) (bins_at s b r x)) (one_left n i h)
      ∙ ap₂ (λ (x y : ℕ). replicate x (first + i) ++ origins_in low p (first + i + 1) (bins_at s (b + 8) (r + 17 * y) (n - (i + 1)))) (sym em) (sym ek)
      ∙ ap (λ (x : ℕ). replicate m (first + i) ++ origins_in low p x (bins_at s (b + 8) (r + 17 * k) (n - (i + 1)))) (let z : first + i + 1 ≡ first + (i + 1) = omega arith in z)

pub origins-start : (s : List ℕ) (low p first b r n : ℕ) → origins_in low p (first + 0) (bins_at s b r (n - 0)) ≡ origins_in low p first (bins_at s b r n)
origins-start s low p first b r n = ap₂ (λ (f m : ℕ). origins_in low p f (bins_at s b r m)) (let z : first + 0 ≡ first = omega arith in z) (let z : n - 0 ≡ n = omega arith in z)

pub origins-point : (s : List ℕ) (l : Layout) (own : Bins) (p low first m : ℕ) (has : Bool) → low ≡ lowest (point_record s (l.points + 11 * p)) → first ≡ first_of l own
    → has ≡ has_auto_at s p own.bins own.count l.transitions l.transition_count
    → m ≡ autos_of has (point_record s (l.points + 11 * p))
    → point_origins s l own p ≡ origins_in low p first (bins_at s own.bins own.ranges own.count) ++ replicate m 65535
unfolding point_origins
origins-point s l own p low first m has el ef eh em =
    let q = point_record s (l.points + 11 * p) in
    let bs = bins_at s own.bins own.ranges own.count in
    sym (ap₂ (λ (x y : ℕ). origins_in x p y bs ++ replicate m 65535) el ef
    ∙ ap (λ (y : ℕ). origins_in (lowest q) p (first_of l own) bs ++ replicate y 65535) (em ∙ ap (λ (c : Bool). autos_of c q) eh))

-- ---- from the first to the last of the point's bins

module _ (s : List ℕ) (low p : ℕ) where
  other_none : (a r : ℕ) → Other s p a → own_count low p (bin_at s a r) ≡ 0
  unfolding own_count
  other_none a r h = ap (λ (c : Bool). cond (c && is_cover (kind_from (byte s (a + 1)))) (cover_count low (bin_at s a r).form (bin_at s a r).ranges) 0) h

  origins_skip : (k m i a r n : ℕ) → n ≡ k + m → OthersTo s p a k → origins_in low p i (bins_at s a r n) ≡ origins_in low p (i + k) (bins_at s (a + 8 * k) (ranges_past s a r k) m)
  unfolding origins_in bins_at ranges_past
  origins_skip zero m i a r n e h =
      ap₂ (λ (x y : ℕ). origins_in low p i (bins_at s x r y)) (let z : a ≡ a + 8 * 0 = omega arith in z) (let z : n ≡ m = omega arith in z)
      ∙ ap (λ (x : ℕ). origins_in low p x (bins_at s (a + 8 * 0) r m)) (let z : i ≡ i + 0 = omega arith in z)
  origins_skip (suc k) m i a r zero e h = absurd (omega arith)
  origins_skip (suc k) m i a r (suc n) e h =
      let q = r + 17 * u16 s (a + 6) in
      ap (λ (k : ℕ). replicate k i ++ origins_in low p (i + 1) (bins_at s (a + 8) q n)) (other_none a r (first_other s p a (h 0 (omega arith))))
      ∙ origins_skip k m (i + 1) (a + 8) q n (omega arith) (λ j g. shift s p a j (h (suc j) (omega arith)))
      ∙ ap₂ (λ (x y : ℕ). origins_in low p x (bins_at s y (ranges_past s (a + 8) q k) m)) (let z : i + 1 + k ≡ i + suc k = omega arith in z) (let z : a + 8 + 8 * k ≡ a + 8 * suc k = omega arith in z)

  origins_trim : (m n i a r : ℕ) → m ≤ n → OthersFrom s p a n m → origins_in low p i (bins_at s a r n) ≡ origins_in low p i (bins_at s a r m)
  unfolding origins_in bins_at
  origins_trim zero zero i a r e h = refl
  origins_trim zero (suc n) i a r e h =
      let q = r + 17 * u16 s (a + 6) in
      ap (λ (k : ℕ). replicate k i ++ origins_in low p (i + 1) (bins_at s (a + 8) q n)) (other_none a r (first_other s p a (h 0 (omega arith) (omega arith))))
      ∙ origins_trim zero n (i + 1) (a + 8) q (omega arith) (λ j g k. shift s p a j (h (suc j) (omega arith) (omega arith)))
  origins_trim (suc m) zero i a r e h = absurd (omega arith)
  origins_trim (suc m) (suc n) i a r e h =
      ap (replicate (own_count low p (bin_at s a r)) i ++◌) (origins_trim m n (i + 1) (a + 8) (r + 17 * u16 s (a + 6)) (omega arith) (λ j g k. shift s p a j (h (suc j) (omega arith) (omega arith))))

  module _ (a r n b q m : ℕ) (o : PartOf s p a r n b q m) where
    pub part_first : (b - a) / 8 ≡ o.skipped
    part_first = omega (arith, o.place)

    pub part-origins : origins_in low p ((b - a) / 8) (bins_at s b q m) ≡ origins_in low p 0 (bins_at s a r n)
    part-origins =
        let k = o.skipped in
        ap (λ (x : ℕ). origins_in low p x (bins_at s b q m)) (part_first ∙ (let z : k ≡ 0 + k = omega arith in z))
        ∙ ap₂ (λ (x y : ℕ). origins_in low p (0 + k) (bins_at s x y m)) o.place o.ranges
        ∙ sym
        (origins_skip k (n - k) 0 a r n (omega (arith, o.few)) o.others
        ∙ origins_trim m (n - k) (0 + k) (a + 8 * k) (ranges_past s a r k) (omega (arith, o.few))
        (λ j g i. ap (λ (x : ℕ). eqb (byte s x) p) (let z : a + 8 * k + 8 * j ≡ a + 8 * (k + j) = omega arith in z) ∙ o.others₁ (k + j) (omega arith) (omega arith)))

-- The part of the value bins from the first to the last of a point says the same of the point as all of them do.
-- Assumes nothing.
use mathlib.Core.Path.{◌≡◌, refl, sym, ap, ap₂, ◌∙◌, subst}
use mathlib.Core.Bool.{Bool, true, false, not, ◌&&◌, cond}
use mathlib.Core.List.{List, [], ◌∷◌, ◌++◌}
use Prim.Native.Nat.{ℕ, zero, suc, ◌+◌, ◌-◌, ◌*◌, ◌≤◌}
use native.Mathlib.Omega.{arith}
use lib.Dec.{eqb}
use lib.ListN.{length}
use Rattle.model.specs.Table.{ValueBin, is_cover}
use Rattle.model.specs.Values.{lowest}
use Rattle.model.specs.Format.{u16, point_record}
use Rattle.model.specs.Raw.{bins_at}
use Rattle.values.specs.Points.{some_own}
use Rattle.spans.specs.Part.{ranges_past, PartOf}
use Rattle.spans.proofs.PartLaws.{own_bins, own_part, part_some}
use Rattle.parts.specs.Rows.{Source, bin_source, own_sources, auto_source, part_total}
use Rattle.parts.specs.Words.{all_words, own_listed, Fits, Room, sources_at}
use Rattle.parts.proofs.Plans.{words_are, part_count}

module _ (s : List ℕ) (p : ℕ) where
  -- ---- bins left out in front, and at the end

  listed_skip : (k m a n : ℕ) → n ≡ k + m → own_listed s p (a + 8 * k) m ≤ own_listed s p a n
  unfolding own_listed
  listed_skip zero m a n e = omega (arith, ap₂ (λ (x y : ℕ). own_listed s p x y) (let z : a ≡ a + 8 * 0 = omega arith in z) (let z : n ≡ m = omega arith in z))
  listed_skip (suc k) m a zero e = absurd (omega arith)
  listed_skip (suc k) m a (suc n) e = omega (arith, listed_skip k m (a + 8) n (omega arith), ap (λ (x : ℕ). own_listed s p x m) (let z : a + 8 + 8 * k ≡ a + 8 * suc k = omega arith in z))

  listed_trim : (m n a : ℕ) → m ≤ n → own_listed s p a m ≤ own_listed s p a n
  unfolding own_listed
  listed_trim zero n a e = omega arith
  listed_trim (suc m) zero a e = absurd (omega arith)
  listed_trim (suc m) (suc n) a e = omega (arith, listed_trim m n (a + 8) (omega arith))

  fits_skip : (low k m a r n : ℕ) → n ≡ k + m → Fits s low p a r n → Fits s low p (a + 8 * k) (ranges_past s a r k) m
  unfolding Fits ranges_past
  fits_skip low zero m a r n e f = subst (λ (x : ℕ). Fits s low p x r m) (let z : a ≡ a + 8 * 0 = omega arith in z) (subst (Fits s low p a r) (let z : n ≡ m = omega arith in z) f)
  fits_skip low (suc k) m a r zero e f = absurd (omega arith)
  fits_skip low (suc k) m a r (suc n) e f =
      subst (λ (x : ℕ). Fits s low p x (ranges_past s (a + 8) (r + 17 * u16 s (a + 6)) k) m) (let z : a + 8 + 8 * k ≡ a + 8 * suc k = omega arith in z)
      (fits_skip low k m (a + 8) (r + 17 * u16 s (a + 6)) n (omega arith) f.1)

  fits_trim : (low m n a r : ℕ) → m ≤ n → Fits s low p a r n → Fits s low p a r m
  unfolding Fits
  fits_trim low zero n a r e f = tt
  fits_trim low (suc m) zero a r e f = absurd (omega arith)
  fits_trim low (suc m) (suc n) a r e f = (f.0, fits_trim low m n (a + 8) (r + 17 * u16 s (a + 6)) (omega arith) f.1)

  sources_own : (low : ℕ) (bs : List ValueBin) → own_sources low p (own_bins p bs) ≡ own_sources low p bs
  unfolding own_sources own_bins
  sources_own low [] = refl
  sources_own low (b ∷ bs) = go (eqb b.point p) refl (sources_own low bs)
    where
      go : (c : Bool) → eqb b.point p ≡ c → own_sources low p (own_bins p bs) ≡ own_sources low p bs
          → own_sources low p (cond c (b ∷ own_bins p bs) (own_bins p bs)) ≡ cond (c && is_cover b.kind) (bin_source low b ∷ own_sources low p bs) (own_sources low p bs)
      go true e h = rw e (ap (λ (xs : List Source). cond (is_cover b.kind) (bin_source low b ∷ xs) xs) h)
      go false e h = h

  -- ---- both

  module _ (a r n b q m : ℕ) (o : PartOf s p a r n b q m) where
    same-sources : (low : ℕ) → own_sources low p (bins_at s b q m) ≡ own_sources low p (bins_at s a r n)
    same-sources low = sym (sources_own low (bins_at s b q m)) ∙ ap (own_sources low p) (own_part s p a r n b q m o) ∙ sources_own low (bins_at s a r n)

    pub part-fits : (low : ℕ) → Fits s low p a r n → Fits s low p b q m
    part-fits low f =
        let k = o.skipped in
        let z = fits_trim low m (n - k) (a + 8 * k) (ranges_past s a r k) (omega (arith, o.few)) (fits_skip low k (n - k) a r n (omega (arith, o.few)) f) in
        rw (o.place, o.ranges) z

    pub part-listed : own_listed s p b m ≤ own_listed s p a n
    part-listed =
        let k = o.skipped in
        omega (arith, ap (λ (x : ℕ). own_listed s p x m) o.place, listed_trim m (n - k) (a + 8 * k) (omega (arith, o.few)), listed_skip k (n - k) a n (omega (arith, o.few)))

    pub part_room : (low at : ℕ) (w : List ℕ) → Room s low p a r n at w → Room s low p b q m at w
    part_room low at w h =
        record {
          some = h.some;
          words = omega (arith, h.words, ap length (words_are s low p 0 b q m ∙ ap (all_words 0) (same-sources low) ∙ sym (words_are s low p 0 a r n)));
          parts = omega (arith, h.parts, part_count s low p b q m ∙ ap part_total (same-sources low) ∙ sym (part_count s low p a r n));
        }

    pub part-sources : (point t k : ℕ) → sources_at s p point b q m t k ≡ sources_at s p point a r n t k
    unfolding sources_at
    part-sources point t k =
        ap₂ (λ (xs : List Source) (c : Bool). xs ++ cond (not c && not (some_own s p false 4 t k)) (auto_source (point_record s point) ∷ []) []) (same-sources (lowest (point_record s point))) (part_some s p a r n b q m o)

-- The plain bins of a point, by the places of their records.
-- Assumes nothing.
use mathlib.Core.Path.{◌≡◌, refl, sym, ap, ap₂, ◌∙◌}
use mathlib.Core.Bool.{Bool, true, false, not, ◌&&◌, cond}
use mathlib.Core.List.{List, [], ◌++◌}
use Prim.Native.Nat.{ℕ, zero, suc, ◌+◌, ◌-◌, ◌*◌, ◌≤◌, ◌<◌}
use native.Mathlib.Omega.{arith}
use mir.Val.{bool_byte}
use lib.Dec.{leb, eqb}
use lib.ListN.{get_or}
use borrow.Author.Tests.{le-leb}
use Rattle.model.specs.Values.{in_ranges}
use Rattle.model.specs.Sampling.{guard_true}
use Rattle.model.specs.Format.{byte, u16, kind_from, guard_from}
use Rattle.model.specs.Raw.{ranges_at, bin_at, bins_at}
use Rattle.model.proofs.Booleans.{false-true, and_right}
use Rattle.values.proofs.Laws.{bins_start, bins_step, bins_end}
use Rattle.places.specs.Places.{place_if}
use Rattle.hits.specs.Plains.{plain_kind, is_plain_bin, plain_count, plain_holds, plain_hit, plain_hits}

plain-kind : (k : ℕ) → plain_kind (kind_from k) ≡ leb 2 k
plain-kind zero = refl
plain-kind (suc zero) = refl
plain-kind (suc (suc zero)) = refl
plain-kind (suc (suc (suc k))) = sym (le-leb 2 (suc (suc (suc k))) (omega arith))

module _ (w : List ℕ) (p v : ℕ) (l : Bool) (s : List ℕ) (a r : ℕ) (b : Bool) (own : b ≡ is_plain_bin p (bin_at s a r)) where
  pub not_plain : b ≡ false → false ≡ plain_hit w p v l (bin_at s a r)
  unfolding plain_hit
  not_plain e = ap (◌&& (guard_true w (bin_at s a r).guard && plain_holds (bin_at s a r).kind (bin_at s a r).ranges v l)) (sym e ∙ own)

  module _ (is : b ≡ true) (k g : ℕ) (y : Bool) (ek : k ≡ byte s (a + 1)) (eg : g ≡ byte s (a + 5)) (ey : y ≡ guard_true w (guard_from g)) where
    by_kind : (y && plain_holds (kind_from k) (bin_at s a r).ranges v l) ≡ plain_hit w p v l (bin_at s a r)
    unfolding plain_hit
    by_kind =
        ap₂ (λ (x : Bool) (z : ℕ). x && plain_holds (kind_from z) (bin_at s a r).ranges v l) (ey ∙ ap (λ (z : ℕ). guard_true w (guard_from z)) eg) ek
        ∙ ap (◌&& (guard_true w (bin_at s a r).guard && plain_holds (bin_at s a r).kind (bin_at s a r).ranges v l)) (sym is ∙ own)

    kind-from : leb 2 k ≡ true
    kind-from = sym (plain-kind k) ∙ ap (λ (z : ℕ). plain_kind (kind_from z)) ek ∙ and_right (eqb (byte s a) p) (plain_kind (kind_from (byte s (a + 1)))) (sym own ∙ is)

    pub default-hit : (k ≡ 2 → ⊥) → (y && not l) ≡ plain_hit w p v l (bin_at s a r)
    default-hit n = ap (y &&◌) (go k n kind-from) ∙ by_kind
      where
        go : (k : ℕ) → (k ≡ 2 → ⊥) → leb 2 k ≡ true → not l ≡ plain_holds (kind_from k) (bin_at s a r).ranges v l
        go zero n e = absurd (false-true e)
        go (suc zero) n e = absurd (false-true e)
        go (suc (suc zero)) n e = absurd (n refl)
        go (suc (suc (suc k))) n e = refl

    pub illegal-hit : (n : ℕ) (z : Bool) → k ≡ 2 → n ≡ u16 s (a + 6) → z ≡ in_ranges (ranges_at s r n) v → (y && z) ≡ plain_hit w p v l (bin_at s a r)
    illegal-hit n z e en ez = ap (y &&◌) (ez ∙ ap (λ (m : ℕ). in_ranges (ranges_at s r m) v) en ∙ ap (λ (m : ℕ). plain_holds (kind_from m) (bin_at s a r).ranges v l) (sym e)) ∙ by_kind

-- ---- the loop over bins

module _ (w : List ℕ) (p v : ℕ) (l : Bool) (ps s : List ℕ) (a : ℕ) where
  pub plains_start : (r n : ℕ) → plain_hits w p v l ps 0 (bins_at s (a + 8 * 0) r (n - 0)) ≡ plain_hits w p v l ps 0 (bins_at s a r n)
  plains_start r n = ap (plain_hits w p v l ps 0) (sym (bins_start s a r n))

  pub plains_turn : (r n i j k m : ℕ) (y b : Bool) (place : ℕ) → i < n → b ≡ is_plain_bin p (bin_at s (a + 8 * i) r) → y ≡ plain_hit w p v l (bin_at s (a + 8 * i) r) → place ≡ get_or ps j 0 → m ≡ cond b 1 0 → k ≡ u16 s (a + 8 * i + 6)
      → plain_hits w p v l ps j (bins_at s (a + 8 * i) r (n - i)) ≡ place_if y place ++ plain_hits w p v l ps (j + m) (bins_at s (a + 8 * (i + 1)) (r + 17 * k) (n - (i + 1)))
  unfolding plain_hits
  plains_turn r n i j k m y b place h eb ey ep em ek =
      let u = bin_at s (a + 8 * i) r in
      ap (plain_hits w p v l ps j) (bins_step s a r n i h)
      ∙ ap₂ (λ (x : Bool) (q : ℕ). place_if x q ++ plain_hits w p v l ps (j + plain_count p u) (bins_at s (a + 8 * (i + 1)) (r + 17 * u16 s (a + 8 * i + 6)) (n - (i + 1)))) (sym ey) (sym ep)
      ∙ ap₂ (λ (x q : ℕ). place_if y place ++ plain_hits w p v l ps (j + x) (bins_at s (a + 8 * (i + 1)) (r + 17 * q) (n - (i + 1)))) (sym (em ∙ ap (λ (x : Bool). cond x 1 0) eb)) (sym ek)

  pub plains_end : (r n i j : ℕ) → n ≤ i → plain_hits w p v l ps j (bins_at s (a + 8 * i) r (n - i)) ≡ []
  unfolding plain_hits
  plains_end r n i j h = ap (plain_hits w p v l ps j) (bins_end s a r n i h)

-- ---- a bool as a number

pub one_if : (b : Bool) → bool_byte b ≡ cond b 1 0
one_if true = refl
one_if false = refl

pub one_most : (b : Bool) → bool_byte b ≤ 1
one_most true = omega arith
one_most false = omega arith

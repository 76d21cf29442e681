-- How many bins a value bin stands for, by its point and kind.
-- Assumes nothing.
use mathlib.Core.Path.{◌≡◌, sym, ap, ap₂, ◌∙◌}
use mathlib.Core.Bool.{Bool, true, false, ◌&&◌, cond, and-false}
use mathlib.Core.List.{List}
use Prim.Native.Nat.{ℕ, ◌+◌, ◌-◌, ◌^◌, ◌≤◌}
use native.Mathlib.Omega.{arith}
use lib.Dec.{eqb}
use borrow.Author.Tests.{eq-eqb, ne_eqb}
use Rattle.model.specs.Table.{Point, is_cover}
use Rattle.model.specs.Values.{lowest}
use Rattle.model.specs.Format.{byte, kind_from}
use Rattle.model.specs.Raw.{bin_at}
use Rattle.model.proofs.Fields.{cover-kind}
use Rattle.values.specs.Counts.{cover_count}
use Rattle.origins.specs.Points.{own_count}

module _ (s : List ℕ) (b r low p q : ℕ) (eq : q ≡ byte s b) where
  mine : Bool → ℕ
  mine c = cond c (cover_count low (bin_at s b r).form (bin_at s b r).ranges) 0

  pub own_other : (q ≡ p → ⊥) → own_count low p (bin_at s b r) ≡ 0
  unfolding own_count mine
  own_other z = ap (λ (c : Bool). mine (c && is_cover (kind_from (byte s (b + 1))))) (ne_eqb (byte s b) p (λ h. z (eq ∙ h)))

  module _ (kind : ℕ) (ek : kind ≡ byte s (b + 1)) where
    covers : is_cover (kind_from (byte s (b + 1))) ≡ eqb kind 0
    covers = cover-kind (byte s (b + 1)) ∙ ap (λ (x : ℕ). eqb x 0) (sym ek)

    pub own-kind : (kind ≡ 0 → ⊥) → own_count low p (bin_at s b r) ≡ 0
    unfolding own_count mine
    own-kind z = ap (λ (c : Bool). mine (eqb (byte s b) p && c)) (covers ∙ ne_eqb kind 0 z) ∙ ap mine (and-false (eqb (byte s b) p))

    pub own-cover : q ≡ p → kind ≡ 0 → own_count low p (bin_at s b r) ≡ cover_count low (bin_at s b r).form (bin_at s b r).ranges
    unfolding own_count mine
    own-cover z y = ap₂ (λ (c d : Bool). mine (c && d)) (eq-eqb (byte s b) p (sym eq ∙ z)) (covers ∙ eq-eqb kind 0 y)

pub low-bound : (q : Point) → lowest q ≤ 2147483648
low-bound q = go q.signed
  where
    go : (b : Bool) → cond b (2147483648 - 2 ^ (q.width - 1)) 2147483648 ≤ 2147483648
    go true = omega arith
    go false = omega arith

-- Laws for the code over kinds of counters.
-- Assumes nothing.
use mathlib.Core.Path.{◌≡◌, refl, sym, ap, ◌∙◌}
use mathlib.Core.List.{List, [], ◌++◌}
use Prim.Native.Nat.{ℕ, zero, suc, ◌+◌, ◌-◌, ◌*◌, ◌≤◌, ◌<◌}
use borrow.Author.Tests.{eq-eqb, ne_eqb}
use Rattle.model.specs.Table.{Kind}
use Rattle.model.specs.Format.{byte, u16, kind_from}
use Rattle.model.specs.Raw.{bin_at, bins_at}
use Rattle.model.proofs.Lists.{one_left, none_left}
use Rattle.values.proofs.Laws.{bins_step, bins_end}
use Rattle.points.specs.Kinds.{kinds_by, bin_kinds, kinds_in, transition_kind, transition_kinds, transition_kinds_from}

-- ---- one value bin

module _ (low p : ℕ) (s : List ℕ) (a r q : ℕ) (eq : q ≡ byte s a) where
  pub other_bin : (q ≡ p → ⊥) → bin_kinds low p (bin_at s a r) ≡ []
  unfolding bin_kinds
  other_bin z = rw (← eq, ne_eqb q p z)

  module _ (same : q ≡ p) (k : ℕ) (ek : k ≡ byte s (a + 1)) where
    this-bin : bin_kinds low p (bin_at s a r) ≡ kinds_by low (kind_from k) (bin_at s a r)
    unfolding bin_kinds
    this-bin = rw (← eq, eq-eqb q p same, ek)

    pub kind-bin : (x : Kind) → x ≡ kind_from k → bin_kinds low p (bin_at s a r) ≡ kinds_by low x (bin_at s a r)
    kind-bin x e = this-bin ∙ ap (λ (z : Kind). kinds_by low z (bin_at s a r)) (sym e)

module _ (low p : ℕ) (s : List ℕ) (a r n i : ℕ) where
  pub kinds_turn : (k : ℕ) → i < n → k ≡ u16 s (a + 8 * i + 6) → kinds_in low p (bins_at s (a + 8 * i) r (n - i)) ≡ bin_kinds low p (bin_at s (a + 8 * i) r) ++ kinds_in low p (bins_at s (a + 8 * (i + 1)) (r + 17 * k) (n - (i + 1)))
  unfolding kinds_in
  kinds_turn k h ek = ap (kinds_in low p) (bins_step s a r n i h) ∙ ap (λ (z : ℕ). bin_kinds low p (bin_at s (a + 8 * i) r) ++ kinds_in low p (bins_at s (a + 8 * (i + 1)) (r + 17 * z) (n - (i + 1)))) (sym ek)

  pub kinds_end : n ≤ i → kinds_in low p (bins_at s (a + 8 * i) r (n - i)) ≡ []
  unfolding kinds_in
  kinds_end h = ap (kinds_in low p) (bins_end s a r n i h)

-- ---- one transition bin

module _ (s : List ℕ) (p at q : ℕ) (eq : q ≡ byte s at) where
  pub other_transition : (q ≡ p → ⊥) → transition_kinds s p at ≡ []
  unfolding transition_kinds
  other_transition z = rw (← eq, ne_eqb q p z)

  module _ (same : q ≡ p) (k : ℕ) (ek : k ≡ byte s (at + 1)) where
    this-transition : transition_kinds s p at ≡ transition_kind (kind_from k)
    unfolding transition_kinds
    this-transition = rw (← eq, eq-eqb q p same, ek)

    pub kind-transition : (x : Kind) → x ≡ kind_from k → transition_kinds s p at ≡ transition_kind x
    kind-transition x e = this-transition ∙ ap transition_kind (sym e)

    pub ignore-transition : (k ≡ 0 → ⊥) → (k ≡ 2 → ⊥) → transition_kinds s p at ≡ []
    ignore-transition n₀ n₂ = this-transition ∙ go k n₀ n₂
      where
        go : (k : ℕ) → (k ≡ 0 → ⊥) → (k ≡ 2 → ⊥) → transition_kind (kind_from k) ≡ []
        go zero n₀ n₂ = absurd (n₀ refl)
        go (suc zero) n₀ n₂ = refl
        go (suc (suc zero)) n₀ n₂ = absurd (n₂ refl)
        go (suc (suc (suc k))) n₀ n₂ = refl

module _ (s : List ℕ) (p b n i : ℕ) where
  pub rows_turn : i < n → transition_kinds_from s p b i (n - i) ≡ transition_kinds s p (b + 4 * i) ++ transition_kinds_from s p b (i + 1) (n - (i + 1))
  unfolding transition_kinds_from
  rows_turn h = ap (transition_kinds_from s p b i) (one_left n i h)

  pub rows_end : n ≤ i → transition_kinds_from s p b i (n - i) ≡ []
  unfolding transition_kinds_from
  rows_end h = ap (transition_kinds_from s p b i) (none_left n i h)

-- Laws for counting the bins that a cover bin stands for.
-- Assumes nothing.
use mathlib.Core.Path.{◌≡◌, sym, ap, ap₂, ◌∙◌}
use mathlib.Core.List.{List}
use Prim.Native.Nat.{ℕ, ◌+◌}
use lib.ListN.{length}
use Rattle.model.specs.Table.{Form}
use Rattle.model.specs.Ranges.{ascending}
use Rattle.model.specs.Format.{byte, u16, form_from}
use Rattle.model.specs.Raw.{ranges_at, bin_at}
use Rattle.model.proofs.Fields.{fixed-form}
use Rattle.values.specs.Counts.{cover_count}

-- ---- by form

module _ (s : List ℕ) (b r low form : ℕ) (ef : form ≡ byte s (b + 2)) where
  by_form : cover_count low (bin_at s b r).form (bin_at s b r).ranges ≡ cover_count low (form_from form (u16 s (b + 3))) (ranges_at s r (u16 s (b + 6)))
  by_form = rw ef

  pub count_single : form ≡ 0 → cover_count low (bin_at s b r).form (bin_at s b r).ranges ≡ 1
  unfolding cover_count
  count_single e = by_form ∙ ap (λ (f : ℕ). cover_count low (form_from f (u16 s (b + 3))) (ranges_at s r (u16 s (b + 6)))) e

  pub count_values : (k : ℕ) → k ≡ u16 s (b + 6) → form ≡ 1 → cover_count low (bin_at s b r).form (bin_at s b r).ranges ≡ length (ascending 257 (ranges_at s r k) low)
  unfolding cover_count
  count_values k ek e = by_form ∙ ap₂ (λ (f j : ℕ). cover_count low (form_from f (u16 s (b + 3))) (ranges_at s r j)) e (sym ek)

  pub count_fixed : (n : ℕ) → n ≡ u16 s (b + 3) → (form ≡ 0 → ⊥) → (form ≡ 1 → ⊥) → cover_count low (bin_at s b r).form (bin_at s b r).ranges ≡ n
  unfolding cover_count
  count_fixed n en z o = by_form ∙ ap (λ (f : Form). cover_count low f (ranges_at s r (u16 s (b + 6)))) (fixed-form form (u16 s (b + 3)) z o) ∙ sym en

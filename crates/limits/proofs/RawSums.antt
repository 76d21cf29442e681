-- Sums over the table by places, as sums over its bytes.
-- Assumes nothing.
use mathlib.Core.Path.{◌≡◌, refl, sym, ap, ap₂, ◌∙◌}
use mathlib.Core.Bool.{Bool, cond}
use mathlib.Core.List.{List}
use Prim.Native.Nat.{ℕ, zero, suc, ◌+◌, ◌*◌}
use native.Mathlib.Omega.{arith}
use lib.Dec.{eqb}
use borrow.Author.Tests.{ne_eqb}
use Rattle.model.specs.Lists.{sum_of}
use Rattle.model.specs.Table.{Kind, cover, ignore, illegal, default}
use Rattle.model.specs.Format.{byte, u16, kind_from}
use Rattle.model.specs.Raw.{rows, bins_at, step_total, steps_at, sequences_at, transitions_at, range_total, cross_bins_at, crosses_at, token_total}
use Rattle.model.specs.Sampling.{run_length}
use Rattle.limits.specs.Walks.{walk_sum, after, byte_at, is_byte, cross_kinds, next_cross, steps_in, mosts_in, next_transition}
use Rattle.model.proofs.Measure.{illegals_of, cross_sum}
use Rattle.limits.proofs.WalkLaws.{walk-cons}

-- ---- kinds

abbrev pub covers_in : Kind → ℕ
covers_in cover = 1
covers_in ignore = 0
covers_in illegal = 0
covers_in default = 0

pub illegal-byte : (k : ℕ) → illegals_of (kind_from k) ≡ cond (eqb k 2) 1 0
illegal-byte zero = refl
illegal-byte (suc zero) = refl
illegal-byte (suc (suc zero)) = refl
illegal-byte (suc (suc (suc k))) = ap (λ (b : Bool). cond b 1 0) (sym (ne_eqb (suc (suc (suc k))) 2 (λ e. omega arith)))

pub cover-byte : (k : ℕ) → covers_in (kind_from k) ≡ cond (eqb k 0) 1 0
cover-byte zero = refl
cover-byte (suc k) = one k ∙ ap (λ (b : Bool). cond b 1 0) (sym (ne_eqb (suc k) 0 (λ e. omega arith)))
  where
    one : (k : ℕ) → covers_in (kind_from (suc k)) ≡ 0
    one zero = refl
    one (suc zero) = refl
    one (suc (suc k)) = refl

-- a place moved on
moved : (f : ℕ → ℕ) (size n a b : ℕ) → a ≡ b → walk_sum 0 f (after size) a n ≡ walk_sum 0 f (after size) b n
moved f size n a b e = ap (λ (x : ℕ). walk_sum 0 f (after size) x n) e

module _ (s : List ℕ) (F : Kind → ℕ) (v : ℕ) (says : (k : ℕ) → F (kind_from k) ≡ cond (eqb k v) 1 0) where
  pub bins_kinds : (b r n : ℕ) → sum_of (λ x. F x.kind) (bins_at s b r n) ≡ walk_sum 0 (is_byte s v) (after 8) (b + 1) n
  unfolding bins_at sum_of
  bins_kinds b r zero = unfold walk_sum in refl
  bins_kinds b r (suc n) =
      ap₂ ◌+◌ (says (byte s (b + 1))) (bins_kinds (b + 8) (r + 17 * u16 s (b + 6)) n ∙ moved (is_byte s v) 8 n (b + 8 + 1) (b + 1 + 8) (omega arith))
      ∙ sym (walk-cons (is_byte s v) (after 8) (b + 1) n)

  pub transitions_kinds : (b q p r n : ℕ) → sum_of (λ x. F x.kind) (transitions_at s b q p r n) ≡ walk_sum 0 (is_byte s v) (after 4) (b + 1) n
  unfolding transitions_at sum_of
  transitions_kinds b q p r zero = unfold walk_sum in refl
  transitions_kinds b q p r (suc n) =
      let k = step_total s q (byte s (b + 3)) in
      ap₂ ◌+◌ (says (byte s (b + 1))) (transitions_kinds (b + 4) (q + byte s (b + 3)) (p + 3 * k) (r + 17 * range_total s p k) n ∙ moved (is_byte s v) 4 n (b + 4 + 1) (b + 1 + 4) (omega arith))
      ∙ sym (walk-cons (is_byte s v) (after 4) (b + 1) n)

  cross_bins_kinds : (b k n : ℕ) → sum_of (λ x. F x.kind) (cross_bins_at s b k n) ≡ walk_sum 0 (is_byte s v) (after 3) b n
  unfolding cross_bins_at sum_of
  cross_bins_kinds b k zero = unfold walk_sum in refl
  cross_bins_kinds b k (suc n) = ap₂ ◌+◌ (says (byte s b)) (cross_bins_kinds (b + 3) (k + 20 * byte s (b + 2)) n) ∙ sym (walk-cons (is_byte s v) (after 3) b n)

  pub crosses_kinds : (c b k n : ℕ) → sum_of (cross_sum F) (crosses_at s c b k n) ≡ walk_sum 0 (cross_kinds s v) (next_cross s) (c, b) n
  unfolding crosses_at sum_of
  crosses_kinds c b k zero = unfold walk_sum in refl
  crosses_kinds c b k (suc n) =
      ap₂ ◌+◌ (cross_bins_kinds b k (byte s (c + 12))) (crosses_kinds (c + 13) (b + 3 * byte s (c + 12)) (k + 20 * token_total s b (byte s (c + 12))) n)
      ∙ sym (walk-cons (cross_kinds s v) (next_cross s) (c, b) n)

-- ---- steps

walk-append : (f : ℕ → ℕ) (size at m n : ℕ) → walk_sum 0 f (after size) at (m + n) ≡ walk_sum 0 f (after size) at m + walk_sum 0 f (after size) (at + size * m) n
walk-append f size at zero n =
    ap (walk_sum 0 f (after size) at) (let z : 0 + n ≡ n = omega arith in z)
    ∙ moved f size n at (at + size * 0) (omega arith)
    ∙ (unfold walk_sum in (let z : walk_sum 0 f (after size) (at + size * 0) n ≡ 0 + walk_sum 0 f (after size) (at + size * 0) n = omega arith in z))
walk-append f size at (suc m) n =
    ap (walk_sum 0 f (after size) at) (let z : suc m + n ≡ suc (m + n) = omega arith in z)
    ∙ walk-cons f (after size) at (m + n)
    ∙ ap (f at +◌) (walk-append f size (at + size) m n)
    ∙ (let z : f at + (walk_sum 0 f (after size) (at + size) m + walk_sum 0 f (after size) (at + size + size * m) n)
    ≡ f at + walk_sum 0 f (after size) (at + size) m + walk_sum 0 f (after size) (at + size + size * m) n = omega arith in z)
    ∙ ap₂ ◌+◌ (sym (walk-cons f (after size) at m)) (moved f size n (at + size + size * m) (at + size * suc m) (omega arith))

module _ (s : List ℕ) where
  step_total_lem : (q n : ℕ) → step_total s q n ≡ steps_in s q n
  unfolding step_total rows sum_of
  step_total_lem q zero = unfold walk_sum in refl
  step_total_lem q (suc n) = ap (byte s q +◌) (step_total_lem (q + 1) n) ∙ sym (walk-cons (byte_at s) (after 1) q n)

  steps_mosts : (p r n : ℕ) → run_length (steps_at s p r n) ≡ walk_sum 0 (byte_at s) (after 3) (p + 2) n
  unfolding steps_at sum_of
  steps_mosts p r zero = unfold walk_sum in refl
  steps_mosts p r (suc n) =
      ap (byte s (p + 2) +◌) (steps_mosts (p + 3) (r + 17 * byte s p) n ∙ moved (byte_at s) 3 n (p + 3 + 2) (p + 2 + 3) (omega arith)) ∙ sym (walk-cons (byte_at s) (after 3) (p + 2) n)

  sequences_mosts : (q p r n : ℕ) → sum_of run_length (sequences_at s q p r n) ≡ walk_sum 0 (byte_at s) (after 3) (p + 2) (steps_in s q n)
  unfolding sequences_at sum_of
  sequences_mosts q p r zero = unfold walk_sum in refl
  sequences_mosts q p r (suc n) =
      let k = byte s q in
      ap₂ ◌+◌ (steps_mosts p r k) (sequences_mosts (q + 1) (p + 3 * k) (r + 17 * range_total s p k) n ∙ moved (byte_at s) 3 (steps_in s (q + 1) n) (p + 3 * k + 2) (p + 2 + 3 * k) (omega arith))
      ∙ sym (walk-append (byte_at s) 3 (p + 2) k (steps_in s (q + 1) n))
      ∙ ap (walk_sum 0 (byte_at s) (after 3) (p + 2)) (sym (walk-cons (byte_at s) (after 1) q n))

  pub transitions_mosts : (b q p r n : ℕ) → sum_of (λ x. sum_of run_length x.sequences) (transitions_at s b q p r n) ≡ walk_sum 0 (mosts_in s) (next_transition s) (b, q, p) n
  unfolding transitions_at sum_of
  transitions_mosts b q p r zero = unfold walk_sum in refl
  transitions_mosts b q p r (suc n) =
      let m = byte s (b + 3) in
      let k = step_total s q m in
      ap₂ ◌+◌ (sequences_mosts q p r m) (transitions_mosts (b + 4) (q + m) (p + 3 * k) (r + 17 * range_total s p k) n)
      ∙ ap (λ (x : ℕ). mosts_in s (b, q, p) + walk_sum 0 (mosts_in s) (next_transition s) (b + 4, q + m, p + 3 * x) n) (step_total_lem q m)
      ∙ sym (walk-cons (mosts_in s) (next_transition s) (b, q, p) n)

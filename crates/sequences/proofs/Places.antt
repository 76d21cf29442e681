-- Sequences and steps by their places in the table's bytes: where the next sequence's records stand.
-- Assumes nothing.
use mathlib.Core.Path.{◌≡◌, refl, ap, ◌∙◌}
use mathlib.Core.List.{List}
use Prim.Native.Nat.{ℕ, zero, suc, ◌+◌, ◌*◌}
use lib.ListN.{length}
use Rattle.model.specs.Lists.{sum_of}
use Rattle.model.specs.Format.{byte, step_head, ranges_of_step}
use Rattle.model.specs.Raw.{rows, step_total, range_total, step_heads_at, steps_at}
use Rattle.model.proofs.RawLaws.{rows-add, sum-append}

pub length-steps_at : (s : List ℕ) (p r n : ℕ) → length (steps_at s p r n) ≡ n
unfolding steps_at
length-steps_at s p r zero = refl
length-steps_at s p r (suc n) = ap suc (length-steps_at s (p + 3) (r + 17 * byte s p) n)

pub steps-suc : (s : List ℕ) (q n : ℕ) → step_total s q (suc n) ≡ byte s q + step_total s (q + 1) n
unfolding step_total rows sum_of
steps-suc s q n = refl

pub ranges-suc : (s : List ℕ) (p n : ℕ) → range_total s p (suc n) ≡ byte s p + range_total s (p + 3) n
unfolding range_total rows sum_of
ranges-suc s p n = refl

pub ranges-add : (s : List ℕ) (p m n : ℕ) → range_total s p (m + n) ≡ range_total s p m + range_total s (p + 3 * m) n
unfolding range_total
ranges-add s p m n = ap (sum_of ranges_of_step) (rows-add (step_head s) 3 p m n) ∙ sum-append ranges_of_step (step_heads_at s p m) (step_heads_at s (p + 3 * m) n)

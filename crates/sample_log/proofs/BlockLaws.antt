-- How many samples a block takes.
-- Assumes nothing.
use mathlib.Core.Path.{◌≡◌, refl}
use mathlib.Core.List.{List}
use Prim.Native.Nat.{ℕ, zero, suc, ◌+◌, ◌-◌, ◌*◌, ◌≤◌, ◌<◌}
use native.Mathlib.Nat.{suc-mul}
use native.Mathlib.Numerals.{add-one}
use native.Mathlib.Omega.{arith}
use lib.ListN.{length}
use borrow.Author.Tests.{le-leb, lt-leb, eq-eqb, ne_eqb}
use Rattle.model.specs.Format.{u32}
use Rattle.model.proofs.Lists.{one_left}
use Rattle.sample_log.specs.Samples.{whole_from}

pub size-turn : (count size one : ℕ) → size ≡ count * one → size + one ≡ (count + 1) * one
size-turn count size one e = rw (add-one count, suc-mul count one, e)

module _ (size n : ℕ) (s : List ℕ) where
  turn : (k room at : ℕ) → at + size ≤ length s → n ≤ room → u32 s at ≡ 0 → whole_from size n s (suc k) room at ≡ suc (whole_from size n s k (room - n) (at + size))
  unfolding whole_from
  turn k room at a r z = rw (le-leb (at + size) (length s) a, le-leb n room r, eq-eqb (u32 s at) 0 z)

  -- one more sample
  pub block_turn : (count words at : ℕ) → count < 256 → at + size ≤ length s → n ≤ 12416 - words → u32 s at ≡ 0
      → count + 1 + whole_from size n s (256 - (count + 1)) (12416 - (words + n)) (at + size) ≡ count + whole_from size n s (256 - count) (12416 - words) at
  block_turn count words at h a r z =
      let left : 12416 - words - n ≡ 12416 - (words + n) = omega arith in
      let e : whole_from size n s (256 - count) (12416 - words) at ≡ suc (whole_from size n s (256 - (count + 1)) (12416 - (words + n)) (at + size)) =
      rw (one_left 256 count h, ← left) (turn (256 - (count + 1)) (12416 - words) at a r z) in
      omega (arith, e)

  -- no sample more: there are enough, the bytes end, the reports have no room, or another entry follows
  pub block_enough : (k room at : ℕ) → k ≡ 0 → whole_from size n s k room at ≡ 0
  unfolding whole_from
  block_enough k room at h = rw h

  pub block_short : (k room at : ℕ) → length s < at + size → whole_from size n s k room at ≡ 0
  unfolding whole_from
  block_short zero room at h = refl
  block_short (suc k) room at h = rw (lt-leb (at + size) (length s) h)

  pub block_full : (k room at : ℕ) → at + size ≤ length s → room < n → whole_from size n s k room at ≡ 0
  unfolding whole_from
  block_full zero room at a h = refl
  block_full (suc k) room at a h = rw (le-leb (at + size) (length s) a, lt-leb n room h)

  pub block_other : (k room at : ℕ) → at + size ≤ length s → n ≤ room → (u32 s at ≡ 0 → ⊥) → whole_from size n s k room at ≡ 0
  unfolding whole_from
  block_other zero room at a r h = refl
  block_other (suc k) room at a r h = rw (le-leb (at + size) (length s) a, le-leb n room r, ne_eqb (u32 s at) 0 h)

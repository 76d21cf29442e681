-- The words of the samples of a block.
-- Assumes nothing.
use mathlib.Core.Path.{◌≡◌, sym, ap, ◌∙◌}
use mathlib.Core.List.{List, ◌++◌}
use Prim.Native.Nat.{ℕ, ◌+◌, ◌-◌, ◌*◌, ◌≤◌, ◌<◌}
use native.Mathlib.Omega.{arith}
use lib.ListN.{length, length-append}
use Rattle.model.specs.Format.{u32}
use Rattle.model.specs.Raw.{rows}
use Rattle.model.proofs.Lists.{one_left, none_left}
use Rattle.model.proofs.RawLaws.{length-rows}
use Rattle.arrays.specs.Put.{put}
use Rattle.arrays.proofs.PutLaws.{put-nil, put_next}
use Rattle.sample_log.specs.Samples.{samples_from}

module _ (points count : ℕ) (s : List ℕ) where
  turn : (i from : ℕ) → i < count → samples_from points (count - i) s from ≡ rows (u32 s) 4 (from + 4) (4 + 2 * points) ++ samples_from points (count - (i + 1)) s (from + 4 + 4 * (4 + 2 * points))
  unfolding samples_from
  turn i from h = rw (one_left count i h)

  -- the words l' have one more sample than l, written at `at`
  pub samples_turn : (i from at n from' at' : ℕ) (l l' : List ℕ) → i < count → n ≡ 4 + 2 * points → from' ≡ from + (4 + 4 * n) → at' ≡ at + n → at + n ≤ length l → l' ≡ put at (rows (u32 s) 4 (from + 4) n) l
      → (at' + length (samples_from points (count - (i + 1)) s from') ≡ at + length (samples_from points (count - i) s from)) × (put at' (samples_from points (count - (i + 1)) s from') l' ≡ put at (samples_from points (count - i) s from) l)
  samples_turn i from at n from' at' l l' h e f g k w =
      let rest = samples_from points (count - (i + 1)) s from' in
      let xs = rows (u32 s) 4 (from + 4) n in
      let size = length-rows (u32 s) 4 (from + 4) n in
      let place : from' ≡ from + 4 + 4 * (4 + 2 * points) = omega arith in
      let cut : samples_from points (count - i) s from ≡ xs ++ rest = rw (place, e) (turn i from h) in
      (omega (arith, ap length cut, length-append xs rest, size), rw (w, g) (put_next at n xs rest l size k) ∙ ap (λ (x : List ℕ). put at x l) (sym cut))

  pub samples_start : (l : List ℕ) → (0 + length (samples_from points (count - 0) s 0) ≡ length (samples_from points count s 0)) × (put 0 (samples_from points (count - 0) s 0) l ≡ put 0 (samples_from points count s 0) l)
  samples_start l =
      let z : count - 0 ≡ count = omega arith in
      (rw z (omega arith), rw z)

  -- nothing is left
  pub samples_end : (i from at : ℕ) (l : List ℕ) → count ≤ i → (at + length (samples_from points (count - i) s from) ≡ at) × (put at (samples_from points (count - i) s from) l ≡ l)
  unfolding samples_from
  samples_end i from at l h = (rw (none_left count i h) (omega arith), rw (none_left count i h) (put-nil at l))

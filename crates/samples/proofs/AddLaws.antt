-- Laws of counts that are raised.
-- Assumes nothing.
use mathlib.Core.Path.{◌≡◌}
use mathlib.Core.Bool.{Bool, true}
use mathlib.Core.List.{List, ◌∷◌}
use Prim.Native.Nat.{ℕ, ◌+◌, ◌-◌, ◌≤◌, ◌<◌}
use native.Mathlib.Nat.{sub-zero, add-zero, add_assoc}
use native.Mathlib.Omega.{arith}
use lib.ListN.{length, take, drop, get_or, set}
use lib.Seq.{drop-set-lt}
use borrow.Author.Tests.{ltb-true}
use Rattle.model.specs.Lists.{all, pair_up, as_bit}
use Rattle.model.proofs.Booleans.{and_left, and_right}
use Rattle.model.proofs.Lists.{one_left, none_left, head_tail, part-cons}
use Rattle.arrays.specs.Put.{put}
use Rattle.arrays.proofs.PutLaws.{put-cons, put-nil}
use Rattle.samples.specs.Adds.{add_hits, has_room, all_room}

-- the part of n - i elements from i on is its first element and the part after it
any-part : {A : Type 0} (xs : List A) (d : A) (i n : ℕ) → i < n → i < length xs → take (n - i) (drop i xs) ≡ get_or xs i d ∷ take (n - (i + 1)) (drop (i + 1) xs)
any-part xs d i n h k = rw (one_left n i h, head_tail xs i d k)

-- ---- a turn of a loop that raises counts

module _ {A : Type 0} (f : A → Bool) (xs : List A) (reg : List ℕ) (at i n : ℕ) (h : i < n) where
  pub add_turn : (d : A) (v : ℕ) → n ≤ length xs → at + n ≤ length reg → v ≡ as_bit (f (get_or xs i d)) + get_or reg (at + i) 0
      → put (at + (i + 1)) (add_hits f (take (n - (i + 1)) (drop (i + 1) xs)) (take (n - (i + 1)) (drop (at + (i + 1)) (set reg (at + i) v)))) (set reg (at + i) v)
      ≡ put (at + i) (add_hits f (take (n - i) (drop i xs)) (take (n - i) (drop (at + i) reg))) reg
  unfolding add_hits pair_up
  add_turn d v hx hr e =
      rw (any-part xs d i n h (omega arith), part-cons reg (at + i) i n h (omega arith), ← e, ← add_assoc at i 1, drop-set-lt (at + i + 1) reg (at + i) v (omega arith))
      (put-cons (at + i) v _ reg (omega arith))

  pub room_here : at + n ≤ length reg → all_room (take (n - i) (drop (at + i) reg)) ≡ true → get_or reg (at + i) 0 < 4294967295
  unfolding all_room all
  room_here hr e =
      let z = rw (part-cons reg (at + i) i n h (omega arith)) at e in
      ltb-true (get_or reg (at + i) 0) 4294967295 (and_left (has_room (get_or reg (at + i) 0)) _ z)

  pub room_on : (v : ℕ) → at + n ≤ length reg → all_room (take (n - i) (drop (at + i) reg)) ≡ true → all_room (take (n - (i + 1)) (drop (at + (i + 1)) (set reg (at + i) v))) ≡ true
  unfolding all_room all
  room_on v hr e =
      let z = rw (part-cons reg (at + i) i n h (omega arith)) at e in
      rw (← add_assoc at i 1, drop-set-lt (at + i + 1) reg (at + i) v (omega arith)) (and_right (has_room (get_or reg (at + i) 0)) _ z)

pub add_start : {A : Type 0} (f : A → Bool) (xs : List A) (reg : List ℕ) (at n : ℕ)
    → put (at + 0) (add_hits f (take (n - 0) (drop 0 xs)) (take (n - 0) (drop (at + 0) reg))) reg ≡ put at (add_hits f (take n xs) (take n (drop at reg))) reg
add_start f xs reg at n = rw (sub-zero n, add-zero at)

pub add-end : {A : Type 0} (f : A → Bool) (xs : List A) (reg : List ℕ) (at i n : ℕ) → n ≤ i → put (at + i) (add_hits f (take (n - i) (drop i xs)) (take (n - i) (drop (at + i) reg))) reg ≡ reg
unfolding add_hits pair_up
add-end f xs reg at i n h = rw (none_left n i h) (put-nil (at + i) reg)

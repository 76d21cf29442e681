-- One array for the bounds of the plan and for the origins: two parts of it that were lent, one after the other.
-- Assumes nothing.
use mathlib.Core.Path.{◌≡◌, sym, ap, ◌∙◌, subst}
use mathlib.Core.Bool.{true}
use mathlib.Core.List.{List, ◌++◌, append-nil}
use Prim.Native.Nat.{ℕ, ◌+◌, ◌*◌, ◌-◌, ◌≤◌, ◌<◌}
use native.Mathlib.Omega.{arith}
use lib.ListN.{length, get_or, take, drop, length-append, length-take, length-drop, drop_of_length-le}
use lib.Seq.{get_or-take, take_at, drop_at, length-take-le}
use borrow.Rule.Slice.PartMut.{put_mid, Post-is, take_put}
use Rattle.model.specs.Format.{accepted, table_of}
use Rattle.meets.specs.Plan.{ValuesPlan}
use Rattle.arrays.specs.Flat.{Origins}
use Rattle.sampling.proofs.Joins.{gate-room}

-- the bounds of at most 16 points are among the first 64 elements
values-front : (s : List ℕ) → accepted s ≡ true → (w l : List ℕ) → ValuesPlan (table_of s) w (take 64 l) → ValuesPlan (table_of s) w l
unfolding ValuesPlan
values-front s ok w l v p h =
    let few = gate-room s ok in
    let at : (i : ℕ) → i < 64 → get_or l i 0 ≡ get_or (take 64 l) i 0 = λ i k. sym (get_or-take 64 l i 0 k) in
    rw (at (3 * p) (omega arith), at (3 * p + 1) (omega arith), at (3 * p + 2) (omega arith), at (3 * p + 3) (omega arith)) (v p h)

part_length : (l : List ℕ) → length (take (length l - 64) (drop 64 l)) ≡ length l - 64
part_length l = simp (length-take, length-drop) (omega arith)

-- the part after the first 64 elements has room for n
pub part_room : (xs b : List ℕ) (n : ℕ) → 64 + n ≤ length xs → length b ≡ 64 → n ≤ length (take (length (b ++ drop 64 xs) - 64) (drop 64 (b ++ drop 64 xs)))
part_room xs b n h e = omega (arith, part_length (b ++ drop 64 xs), length-append b (drop 64 xs), length-drop 64 xs)

module _ (b rest o : List ℕ) (sized : length b ≡ 64) where
  abbrev first : List ℕ
  first = b ++ rest

  abbrev both : List ℕ
  both = put_mid 64 (length first - 64) first o

  room : 64 ≤ length first
  room = omega (arith, length-append b rest)

  front : take 64 both ≡ b
  front = take_put 64 (length first - 64) first o room ∙ take_at b rest 64 sized

  back : drop 64 both ≡ o
  back =
      drop_at (take 64 first) (o ++ _) 64 (length-take-le 64 first room)
      ∙ ap (o ++◌) (Post-is 64 (length first) first room ∙ drop_of_length-le first (let z : length first ≤ length first = omega arith in z))
      ∙ append-nil o

  pub lists_values : (s : List ℕ) → accepted s ≡ true → (w : List ℕ) → ValuesPlan (table_of s) w b → ValuesPlan (table_of s) w (put_mid 64 (length (b ++ rest) - 64) (b ++ rest) o)
  lists_values s ok w v = values-front s ok w both (subst (ValuesPlan (table_of s) w) (sym front) v)

  pub lists_origins : (s : List ℕ) → Origins (table_of s) o → Origins (table_of s) (drop 64 (put_mid 64 (length (b ++ rest) - 64) (b ++ rest) o))
  lists_origins s from = subst (Origins (table_of s)) (sym back) from

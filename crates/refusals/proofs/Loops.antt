-- Loops over words and over numbers that end at the first that fails a test.
-- Assumes nothing.
use mathlib.Core.Path.{◌≡◌, sym, ap, ◌∙◌}
use mathlib.Core.Bool.{Bool, true, false, ◌&&◌}
use mathlib.Core.List.{List}
use Prim.Native.Nat.{ℕ, ◌+◌, ◌-◌, ◌≤◌, ◌<◌}
use native.Mathlib.Omega.{arith}
use native.Mathlib.Numerals.{add-one}
use lib.ListN.{length, take, drop, get_or}
use Rattle.model.specs.Lists.{up_from, all}
use Rattle.model.proofs.Lists.{head_tail, one_left}

-- ---- the words from i to e

module _ (f : ℕ → Bool) (l : List ℕ) (e i : ℕ) (x : Bool) (inv : all f (take (e - i) (drop i l)) ≡ x) where
  words_turn : i < e → i < length l → (f (get_or l i 0) && all f (take (e - (i + 1)) (drop (i + 1) l))) ≡ x
  unfolding all
  words_turn h k = sym (rw (one_left e i h, head_tail l i 0 k)) ∙ inv

  pub words_done : e ≤ i → true ≡ x
  unfolding all
  words_done h = let z : e - i ≡ 0 = omega arith in rw z at inv

  pub words_stop : i < e → i < length l → f (get_or l i 0) ≡ false → false ≡ x
  words_stop h k b = ap (◌&& all f (take (e - (i + 1)) (drop (i + 1) l))) (sym b) ∙ words_turn h k

  pub words_on : i < e → i < length l → f (get_or l i 0) ≡ true → all f (take (e - (i + 1)) (drop (i + 1) l)) ≡ x
  words_on h k b = ap (◌&& all f (take (e - (i + 1)) (drop (i + 1) l))) (sym b) ∙ words_turn h k

-- ---- the numbers from i to n

module _ (f : ℕ → Bool) (n i : ℕ) (x : Bool) (inv : all f (up_from i (n - i)) ≡ x) where
  numbers_turn : i < n → (f i && all f (up_from (i + 1) (n - (i + 1)))) ≡ x
  unfolding all up_from
  numbers_turn h = rw add-one (rw (one_left n i h, add-one) at inv)

  pub numbers_done : n ≤ i → true ≡ x
  unfolding all up_from
  numbers_done h = let z : n - i ≡ 0 = omega arith in rw z at inv

  pub numbers_stop : i < n → f i ≡ false → false ≡ x
  numbers_stop h b = ap (◌&& all f (up_from (i + 1) (n - (i + 1)))) (sym b) ∙ numbers_turn h

  pub numbers_on : i < n → f i ≡ true → all f (up_from (i + 1) (n - (i + 1))) ≡ x
  numbers_on h b = ap (◌&& all f (up_from (i + 1) (n - (i + 1)))) (sym b) ∙ numbers_turn h

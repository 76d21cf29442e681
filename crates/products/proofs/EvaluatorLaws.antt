-- What `eval_at` is in each case of the code.
-- Assumes nothing.
use mathlib.Core.Path.{◌≡◌, refl, ◌∙◌}
use mathlib.Core.Bool.{false, not, ◌&&◌, ◌||◌}
use mathlib.Core.List.{List}
use Prim.Native.Nat.{ℕ, zero, suc, ◌+◌, ◌*◌, ◌-◌, ◌≤◌, ◌<◌}
use native.Mathlib.Omega.{arith}
use lib.ListN.{get_or}
use lib.Dec.{eqb}
use borrow.Author.Tests.{lt-ltb, le-ltb, ne_eqb}
use Rattle.model.specs.Format.{byte}
use Rattle.products.specs.Evaluator.{Answer, answer, eval_at}

module _ (s truth : List ℕ) (k : ℕ) where
  -- a depth of as many as are left is enough
  pub fuel : (f g left i : ℕ) → left ≤ f → left ≤ g → eval_at f s truth k left i ≡ eval_at g s truth k left i
  unfolding eval_at
  fuel zero zero left i h j = refl
  fuel zero (suc g) zero i h j = refl
  fuel zero (suc g) (suc l) i h j = absurd (let z : suc l ≤ 0 = h in omega arith)
  fuel (suc f) zero zero i h j = refl
  fuel (suc f) zero (suc l) i h j = absurd (let z : suc l ≤ 0 = j in omega arith)
  fuel (suc f) (suc g) zero i h j = refl
  fuel (suc f) (suc g) (suc l) i h j =
      let a = eval_at g s truth k l (i + 1) in
      let ea = fuel f g l (i + 1) (omega arith) (omega arith) in
      let eb = fuel f g (l - (a.next - (i + 1))) a.next (omega arith) (omega arith) in
      rw (ea, eb)

  module _ (left i : ℕ) where
    pub none_left : left ≡ 0 → answer false i ≡ eval_at left s truth k left i
    unfolding eval_at
    none_left e = rw e

    pub a-leaf : (told : ℕ) → told ≡ get_or truth i 0 → 1 ≤ left → byte s (k + 20 * i) < 3 → answer (eqb told 1) (i + 1) ≡ eval_at left s truth k left i
    unfolding eval_at
    a-leaf told q h o = let e : left ≡ suc (left - 1) = omega arith in rw (e, lt-ltb (byte s (k + 20 * i)) 3 o, q)

    module _ (a : Answer) (ea : a ≡ eval_at (left - 1) s truth k (left - 1) (i + 1)) where
      pub a-not : 1 ≤ left → byte s (k + 20 * i) ≡ 3 → answer (not a.value) a.next ≡ eval_at left s truth k left i
      unfolding eval_at
      a-not h o = let e : left ≡ suc (left - 1) = omega arith in rw (e, o, ea)

      module _ (b : Answer) (eb : b ≡ eval_at (left - (a.next - i)) s truth k (left - (a.next - i)) a.next) (h : 1 ≤ left) (past : i + 1 ≤ a.next) where
        second : b ≡ eval_at (left - 1) s truth k (left - 1 - (a.next - (i + 1))) a.next
        second =
            let z : left - (a.next - i) ≡ left - 1 - (a.next - (i + 1)) = omega arith in
            (rw z at eb) ∙ fuel (left - 1 - (a.next - (i + 1))) (left - 1) (left - 1 - (a.next - (i + 1))) a.next (omega arith) (omega arith)

        pub an-and : byte s (k + 20 * i) ≡ 4 → answer (a.value && b.value) b.next ≡ eval_at left s truth k left i
        unfolding eval_at
        an-and o = let e : left ≡ suc (left - 1) = omega arith in rw (e, o, second, ea)

        pub an-or : 3 ≤ byte s (k + 20 * i) → (byte s (k + 20 * i) ≡ 3 → ⊥) → (byte s (k + 20 * i) ≡ 4 → ⊥) → answer (a.value || b.value) b.next ≡ eval_at left s truth k left i
        unfolding eval_at
        an-or o n₃ n₄ =
            let e : left ≡ suc (left - 1) = omega arith in
            rw (e, le-ltb (byte s (k + 20 * i)) 3 o, ne_eqb (byte s (k + 20 * i)) 3 n₃, ne_eqb (byte s (k + 20 * i)) 4 n₄, second, ea)

-- The products whose gates are open, position after position.
-- Assumes nothing.
use mathlib.Core.Path.{◌≡◌, refl, ap, sym, ◌∙◌}
use mathlib.Core.Bool.{Bool, true, false, ◌&&◌, and-true}
use mathlib.Core.List.{List}
use Prim.Native.Nat.{ℕ, ◌+◌, ◌*◌, ◌≤◌, ◌<◌}
use native.Mathlib.Omega.{arith}
use lib.Bits.{bit_and}
use lib.Dec.{eqb}
use lib.ListN.{length, get_or, drop, replicate, length-replicate, get_or-replicate, drop_of_length-le}
use Rattle.model.specs.Lists.{as_bit}
use Rattle.model.specs.Format.{byte}
use Rattle.model.proofs.Lists.{head_tail}
use Rattle.arrays.specs.Put.{put}
use Rattle.arrays.proofs.PutLaws.{put_first}
use Rattle.products.specs.Digits.{digits}
use Rattle.products.specs.Parts.{gates_open, hit_bit}
use Rattle.operators.specs.Operators.{Says}
use Rattle.products.specs.Bytes.{part_bit, open_of}
use Rattle.products.proofs.Evaluation.{and-bit}
use Rattle.products.proofs.Tuples.{length_digits}

and_assoc : (a b c : Bool) → ((a && b) && c) ≡ (a && (b && c))
and_assoc true b c = refl
and_assoc false b c = refl

-- with the gates of the positions from q on, byte x is whether all gates of product x are open
pub record Open (s gate : List ℕ) (at : ℕ) (sizes : List ℕ) (n q : ℕ) (ys : List ℕ) : Type 0 where
  pub sofar : ℕ → Bool
  pub said : (x : ℕ) → x < n → get_or ys x 0 ≡ as_bit (sofar x)
  pub rest : (x : ℕ) → x < n → (sofar x && gates_open s gate (at + q) (drop q (digits sizes x))) ≡ gates_open s gate at (digits sizes x)

pub open-start : (s gate : List ℕ) (at : ℕ) (sizes : List ℕ) (n : ℕ) (l ys : List ℕ) → ys ≡ put 0 (replicate n 1) l → Open s gate at sizes n 0 ys
open-start s gate at sizes n l ys e = record {
  sofar = λ x. true;
  said = λ x h. ap (λ (y : List ℕ). get_or y x 0) e ∙ put_first (replicate n 1) l x 0 (omega (arith, length-replicate {A = ℕ} n 1)) ∙ get_or-replicate n x 1 0 h;
  rest = λ x h. ap (λ (a : ℕ). gates_open s gate a (digits sizes x)) (let z : at + 0 ≡ at = omega arith in z);
}

module _ (s gate : List ℕ) (at : ℕ) (sizes : List ℕ) (n q : ℕ) (ys : List ℕ) (o : Open s gate at sizes n q ys) where
  pub open_end : length sizes ≤ q → Says n (hit_bit s gate at sizes) ys
  unfolding Says hit_bit gates_open
  open_end h x k =
      o.said x k
      ∙ ap as_bit (sym (and-true (o.sofar x)) ∙ ap (λ (ds : List ℕ). o.sofar x && gates_open s gate (at + q) ds) (sym (drop_of_length-le (digits sizes x) (let z : length (digits sizes x) ≤ q = omega (arith, length_digits sizes x) in z))) ∙ o.rest x k)

  pub open_turn : q < length sizes → (zs : List ℕ) → Says n (open_of ys gate (256 * byte s (at + q)) sizes q) zs → Open s gate at sizes n (q + 1) zs
  unfolding Says open_of part_bit gates_open
  open_turn h zs says = record {
    sofar = λ x. o.sofar x && mine x;
    said = λ x k. says x k ∙ ap (λ (y : ℕ). bit_and y (as_bit (mine x))) (o.said x k) ∙ and-bit (o.sofar x) (mine x);
    rest = λ x k. unfold gates_open in (
        let ds = digits sizes x in
        and_assoc (o.sofar x) (mine x) (gates_open s gate (at + (q + 1)) (drop (q + 1) ds))
        ∙ ap (λ (a : ℕ). o.sofar x && (mine x && gates_open s gate a (drop (q + 1) ds))) (let z : at + (q + 1) ≡ at + q + 1 = omega arith in z)
        ∙ sym (ap (λ (l : List ℕ). o.sofar x && gates_open s gate (at + q) l) (head_tail ds q 0 (omega (arith, length_digits sizes x))))
        ∙ o.rest x k);
  }
    where
      mine : ℕ → Bool
      mine x = eqb (get_or gate (256 * byte s (at + q) + get_or (digits sizes x) q 0) 0) 1

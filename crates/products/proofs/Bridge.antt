-- The value of tokens that are one expression is whether the expression selects the product.
-- Assumes nothing.
use mathlib.Core.Path.{◌≡◌, refl, ap, sym, ◌∙◌, subst}
use mathlib.Core.Bool.{Bool, true, not, ◌&&◌, ◌||◌}
use mathlib.Core.List.{List, [], ◌∷◌, ◌++◌, append_assoc, append-nil}
use mathlib.Core.Option.{some}
use Prim.Native.Nat.{ℕ, zero, suc, ◌+◌, ◌*◌, ◌-◌, ◌≤◌, ◌<◌}
use native.Mathlib.Omega.{arith}
use lib.ListN.{length, get_or, length-append}
use lib.Dec.{ltb, eqb}
use borrow.Author.Tests.{le-ltb, ne_eqb}
use Rattle.model.specs.Lists.{as_bit}
use Rattle.model.specs.Table.{Table, Select, whole, named, meeting, negated, both, either}
use Rattle.model.specs.Counters.{CoverBin, no_cover_bin, is_from, meets, selects}
use Rattle.model.specs.Format.{byte, Token, leaf, not_token, and_token, or_token, token_from, token_record, prefix, expressions}
use Rattle.model.specs.Raw.{rows, select_at}
use Rattle.model.proofs.RawLaws.{length-rows}
use Rattle.model.proofs.Readers.{All}
use Rattle.model.proofs.Prefix.{LeafToken, expressions-exact}
use Rattle.model.proofs.RunBits.{as_bit_eqb}
use Rattle.products.specs.Evaluator.{Answer, answer, eval_at, value_of}
use Rattle.products.specs.Single.{Single}
use Rattle.products.specs.Told.{LeafTold, ToldBy, LeavesTold, leaf_bit, leaf_at}

-- ---- a token by its op

leaf_op : (op i b lo hi : ℕ) (e : Select) → token_from op i b lo hi ≡ leaf e → ltb op 3 ≡ true
leaf_op zero i b lo hi e h = refl
leaf_op (suc zero) i b lo hi e h = refl
leaf_op (suc (suc zero)) i b lo hi e h = refl
leaf_op (suc (suc (suc zero))) i b lo hi e h = cc
leaf_op (suc (suc (suc (suc zero)))) i b lo hi e h = cc
leaf_op (suc (suc (suc (suc (suc n))))) i b lo hi e h = cc

not_op : (op i b lo hi : ℕ) → token_from op i b lo hi ≡ not_token → op ≡ 3
not_op zero i b lo hi h = cc
not_op (suc zero) i b lo hi h = cc
not_op (suc (suc zero)) i b lo hi h = cc
not_op (suc (suc (suc zero))) i b lo hi h = refl
not_op (suc (suc (suc (suc zero)))) i b lo hi h = cc
not_op (suc (suc (suc (suc (suc n))))) i b lo hi h = cc

and_op : (op i b lo hi : ℕ) → token_from op i b lo hi ≡ and_token → op ≡ 4
and_op zero i b lo hi h = cc
and_op (suc zero) i b lo hi h = cc
and_op (suc (suc zero)) i b lo hi h = cc
and_op (suc (suc (suc zero))) i b lo hi h = cc
and_op (suc (suc (suc (suc zero)))) i b lo hi h = refl
and_op (suc (suc (suc (suc (suc n))))) i b lo hi h = cc

or_op : (op i b lo hi : ℕ) → token_from op i b lo hi ≡ or_token → 5 ≤ op
or_op zero i b lo hi h = absurd (let z : ◌≡◌ {A = ℕ} 0 1 = cc in omega arith)
or_op (suc zero) i b lo hi h = absurd (let z : ◌≡◌ {A = ℕ} 0 1 = cc in omega arith)
or_op (suc (suc zero)) i b lo hi h = absurd (let z : ◌≡◌ {A = ℕ} 0 1 = cc in omega arith)
or_op (suc (suc (suc zero))) i b lo hi h = absurd (let z : ◌≡◌ {A = ℕ} 0 1 = cc in omega arith)
or_op (suc (suc (suc (suc zero)))) i b lo hi h = absurd (let z : ◌≡◌ {A = ℕ} 0 1 = cc in omega arith)
or_op (suc (suc (suc (suc (suc n))))) i b lo hi h = omega arith

-- the tokens that are read hold leaves only
from-leaf : (op i b lo hi : ℕ) → LeafToken (token_from op i b lo hi)
from-leaf zero i b lo hi = refl
from-leaf (suc zero) i b lo hi = refl
from-leaf (suc (suc zero)) i b lo hi = refl
from-leaf (suc (suc (suc zero))) i b lo hi = tt
from-leaf (suc (suc (suc (suc zero)))) i b lo hi = tt
from-leaf (suc (suc (suc (suc (suc n))))) i b lo hi = tt

rows_leaves : (s : List ℕ) (n at : ℕ) → All LeafToken (rows (token_record s) 20 at n)
unfolding rows
rows_leaves s zero at = tt
rows_leaves s (suc n) at = (from-leaf (byte s at) _ _ _ _, rows_leaves s n (at + 20))

-- ---- lists

-- the rows after some of them
rows-after : {A : Type 0} (says : ℕ → A) (size : ℕ) (xs ys : List A) (at n : ℕ) → rows says size at n ≡ xs ++ ys → rows says size (at + size * length xs) (n - length xs) ≡ ys
unfolding rows
rows-after says size [] ys at n h = let z : at + size * 0 ≡ at = omega arith in let y : n - 0 ≡ n = omega arith in rw (z, y) h
rows-after says size (x ∷ xs) ys at zero h = cc
rows-after says size (x ∷ xs) ys at (suc n) h =
    let tail : rows says size (at + size) n ≡ xs ++ ys = cc in
    let z : at + size * suc (length xs) ≡ at + size + size * length xs = omega arith in
    let y : suc n - suc (length xs) ≡ n - length xs = omega arith in
    rw (z, y) (rows-after says size xs ys (at + size) n tail)

rows_fit : {A : Type 0} (says : ℕ → A) (size : ℕ) (xs ys : List A) (at n : ℕ) → rows says size at n ≡ xs ++ ys → length xs ≤ n
rows_fit says size xs ys at n h = omega (arith, length-rows says size at n, ap length h, length-append xs ys)

-- ---- an expression by its tokens

-- `sel` is any reading of expressions that takes not, and, or as they are; `truth` holds it at the leaves
module _
    (sel : Select → Bool)
    (sel-not : (e : Select) → sel (negated e) ≡ not (sel e))
    (sel-both : (e g : Select) → sel (both e g) ≡ (sel e && sel g))
    (sel-either : (e g : Select) → sel (either e g) ≡ (sel e || sel g))
    (s truth : List ℕ) (k n : ℕ)
    (told : (i : ℕ) → i < n → (e : Select) → token_record s (k + 20 * i) ≡ leaf e → eqb (get_or truth i 0) 1 ≡ sel e) where
  Found : Select → Type 0
  Found e = (f left i : ℕ) (ks : List Token) → left ≤ f → i + left ≤ n → rows (token_record s) 20 (k + 20 * i) left ≡ prefix e ++ ks
      → eval_at f s truth k left i ≡ answer (sel e) (i + length (prefix e))

  found_leaf : (e : Select) → prefix e ≡ leaf e ∷ [] → Found e
  unfolding Found rows eval_at
  found_leaf e p f zero i ks h j z = let y : [] ≡ leaf e ∷ ks = z ∙ ap (◌++ ks) p in cc
  found_leaf e p zero (suc l) i ks h j z = absurd (let y : suc l ≤ 0 = h in omega arith)
  found_leaf e p (suc f) (suc l) i ks h j z =
      let y : token_record s (k + 20 * i) ∷ rows (token_record s) 20 (k + 20 * i + 20) l ≡ leaf e ∷ ks = z ∙ ap (◌++ ks) p in
      let head : token_record s (k + 20 * i) ≡ leaf e = cc in
      let small = leaf_op (byte s (k + 20 * i)) _ _ _ _ e head in
      rw (small, told i (omega arith) e head, p)

  -- the first token, and the others
  split : (x : Token) (xs : List Token) (l i : ℕ) → rows (token_record s) 20 (k + 20 * i) (suc l) ≡ x ∷ xs → (token_record s (k + 20 * i) ≡ x) × (rows (token_record s) 20 (k + 20 * (i + 1)) l ≡ xs)
  unfolding rows
  split x xs l i z =
      let q : k + 20 * (i + 1) ≡ k + 20 * i + 20 = omega arith in
      (cc, rw q (cc))

  found_not : (e : Select) → Found e → Found (negated e)
  unfolding Found eval_at prefix
  found_not e ih f zero i ks h j z = unfold rows in (cc)
  found_not e ih zero (suc l) i ks h j z = absurd (let y : suc l ≤ 0 = h in omega arith)
  found_not e ih (suc f) (suc l) i ks h j z =
      let y = split not_token (prefix e ++ ks) l i z in
      let op = not_op (byte s (k + 20 * i)) _ _ _ _ y.0 in
      let one = ih f l (i + 1) ks (omega arith) (omega arith) y.1 in
      let q : i + 1 + length (prefix e) ≡ i + suc (length (prefix e)) = omega arith in
      rw (op, one, q, sel-not e)

  -- two expressions in a row
  found_two : (e g : Select) → Found e → Found g → (f l i : ℕ) (ks : List Token) → l ≤ f → i + 1 + l ≤ n → rows (token_record s) 20 (k + 20 * (i + 1)) l ≡ (prefix e ++ prefix g) ++ ks
      → (eval_at f s truth k l (i + 1) ≡ answer (sel e) (i + 1 + length (prefix e)))
      × (eval_at f s truth k (l - (i + 1 + length (prefix e) - (i + 1))) (i + 1 + length (prefix e)) ≡ answer (sel g) (i + suc (length (prefix e ++ prefix g))))
  unfolding Found
  found_two e g he hg f l i ks h j z =
      let y : rows (token_record s) 20 (k + 20 * (i + 1)) l ≡ prefix e ++ (prefix g ++ ks) = z ∙ append_assoc (prefix e) (prefix g) ks in
      let m = length (prefix e) in
      let fit = rows_fit (token_record s) 20 (prefix e) (prefix g ++ ks) (k + 20 * (i + 1)) l y in
      let rest = rows-after (token_record s) 20 (prefix e) (prefix g ++ ks) (k + 20 * (i + 1)) l y in
      let place : k + 20 * (i + 1) + 20 * m ≡ k + 20 * (i + 1 + m) = omega arith in
      let less : l - (i + 1 + m - (i + 1)) ≡ l - m = omega arith in
      let end : i + 1 + m + length (prefix g) ≡ i + suc (length (prefix e ++ prefix g)) = omega (arith, length-append (prefix e) (prefix g)) in
      (he f l (i + 1) (prefix g ++ ks) h j y, rw less (rw end at (hg f (l - m) (i + 1 + m) ks (omega arith) (omega arith) (rw place at rest))))

  found_both : (e g : Select) → Found e → Found g → Found (both e g)
  unfolding Found eval_at prefix
  found_both e g he hg f zero i ks h j z = unfold rows in (cc)
  found_both e g he hg zero (suc l) i ks h j z = absurd (let y : suc l ≤ 0 = h in omega arith)
  found_both e g he hg (suc f) (suc l) i ks h j z =
      let y = split and_token ((prefix e ++ prefix g) ++ ks) l i z in
      let op = and_op (byte s (k + 20 * i)) _ _ _ _ y.0 in
      let two = found_two e g he hg f l i ks (omega arith) (omega arith) y.1 in
      rw (op, two.0, two.1, sel-both e g)

  found_either : (e g : Select) → Found e → Found g → Found (either e g)
  unfolding Found eval_at prefix
  found_either e g he hg f zero i ks h j z = unfold rows in (cc)
  found_either e g he hg zero (suc l) i ks h j z = absurd (let y : suc l ≤ 0 = h in omega arith)
  found_either e g he hg (suc f) (suc l) i ks h j z =
      let y = split or_token ((prefix e ++ prefix g) ++ ks) l i z in
      let op = byte s (k + 20 * i) in
      let large = or_op op _ _ _ _ y.0 in
      let two = found_two e g he hg f l i ks (omega arith) (omega arith) y.1 in
      rw (le-ltb op 3 (omega arith), ne_eqb op 3 (λ q. omega arith), ne_eqb op 4 (λ q. omega arith), two.0, two.1, sel-either e g)

  found : (e : Select) → Found e
  unfolding prefix
  found (whole i) = found_leaf (whole i) refl
  found (named i b) = found_leaf (named i b) refl
  found (meeting i lo hi) = found_leaf (meeting i lo hi) refl
  found (negated e) = found_not e (found e)
  found (both e g) = found_both e g (found e) (found g)
  found (either e g) = found_either e g (found e) (found g)

  -- The tokens' value is that of their expression.
  pub value_of_lem : (e : Select) → expressions (rows (token_record s) 20 k n) ≡ some (e ∷ []) → value_of s truth k n ≡ sel e
  unfolding value_of Found
  value_of_lem e z =
      let p = ((expressions-exact (rows (token_record s) 20 k n) (rows_leaves s n k) e).0 z).0 in
      let q : k + 20 * 0 ≡ k = omega arith in
      ap (λ (r : Answer). r.value) (found e n n 0 [] (omega arith) (omega arith) (rw q (sym (append-nil (prefix e) ∙ p))))

-- ---- selection by values

leaf-told : (sel : Select → Bool) (s truth : List ℕ) (k n : ℕ) → ToldBy sel s truth k n
    → (i : ℕ) → i < n → (e : Select) → token_record s (k + 20 * i) ≡ leaf e → eqb (get_or truth i 0) 1 ≡ sel e
unfolding ToldBy
leaf-told sel s truth k n told i h e z =
    let q : get_or truth i 0 ≡ as_bit (sel e) = subst (λ (x : Token). LeafTold sel x (get_or truth i 0)) z (told i h) in
    ap (λ (x : ℕ). eqb x 1) q ∙ as_bit_eqb (sel e)

module _ (t : Table) (cs : List CoverBin) (s truth : List ℕ) (k n : ℕ) where
  pub value_selects : LeavesTold t cs s truth k n → (e : Select) → expressions (rows (token_record s) 20 k n) ≡ some (e ∷ []) → value_of s truth k n ≡ selects t e cs
  unfolding LeavesTold selects
  value_selects told =
      value_of_lem (λ e. selects t e cs) (λ e. refl) (λ e g. refl) (λ e g. refl) s truth k n (leaf-told (λ e. selects t e cs) s truth k n told)

-- the expression that the bytes say, by values and by ranges
module _ (t : Table) (cs : List CoverBin) (s truth : List ℕ) (k n : ℕ) (one : Single s k n) (v : Bool) (q : v ≡ value_of s truth k n) where
  pub select_at_told : LeavesTold t cs s truth k n → v ≡ selects t (select_at s k n) cs
  unfolding Single
  select_at_told told = q ∙ value_selects t cs s truth k n told (select_at s k n) one

-- ---- the truth of a leaf, by its op

from_told : (m : CoverBin → ℕ → ℕ → Bool) (sel : Select → Bool) (cs : List CoverBin)
    → ((i : ℕ) → sel (whole i) ≡ true)
    → ((i b : ℕ) → sel (named i b) ≡ is_from b (get_or cs i no_cover_bin))
    → ((i lo hi : ℕ) → sel (meeting i lo hi) ≡ m (get_or cs i no_cover_bin) lo hi)
    → (op i b lo hi : ℕ) → LeafTold sel (token_from op i b lo hi) (leaf_bit m cs op i b lo hi)
from_told m sel cs w d e zero i b lo hi = ap as_bit (sym (w i))
from_told m sel cs w d e (suc zero) i b lo hi = ap as_bit (sym (d i b))
from_told m sel cs w d e (suc (suc zero)) i b lo hi = ap as_bit (sym (e i lo hi))
from_told m sel cs w d e (suc (suc (suc zero))) i b lo hi = tt
from_told m sel cs w d e (suc (suc (suc (suc zero)))) i b lo hi = tt
from_told m sel cs w d e (suc (suc (suc (suc (suc n))))) i b lo hi = tt

module _ (t : Table) (cs : List CoverBin) (s truth : List ℕ) (k n : ℕ) where
  -- a caller that fills `truth` by the leaves' ops
  pub filled_told : ((i : ℕ) → i < n → get_or truth i 0 ≡ leaf_at (meets t) cs s (k + 20 * i)) → LeavesTold t cs s truth k n
  unfolding LeavesTold ToldBy selects
  filled_told filled i h =
      let at = k + 20 * i in
      subst (λ (b : ℕ). LeafTold (λ e. selects t e cs) (token_record s at) b) (sym (filled i h))
      (from_told (meets t) (λ e. selects t e cs) cs (λ i. refl) (λ i b. refl) (λ i lo hi. refl) (byte s at) _ _ _ _)

-- Laws of the first bin that lists a value.
-- Assumes nothing.
use mathlib.Core.Path.{◌≡◌, refl, sym, ap, ap₂, ◌∙◌}
use mathlib.Core.Bool.{Bool, true, false, ◌&&◌, ◌||◌, cond}
use mathlib.Core.List.{List, [], ◌∷◌}
use Prim.Native.Nat.{ℕ, suc, ◌+◌, ◌-◌, ◌*◌, ◌≤◌, ◌<◌}
use native.Mathlib.Omega.{arith}
use native.Mathlib.Numerals.{add-one}
use lib.Dec.{eqb, ltb}
use lib.ListN.{length}
use borrow.Author.Tests.{lt-ltb, le-ltb}
use Rattle.model.specs.Lists.{any}
use Rattle.model.specs.Table.{ValueBin}
use Rattle.model.specs.Values.{in_range, in_ranges}
use Rattle.model.specs.Format.{byte, u16, range_record}
use Rattle.model.specs.Raw.{rows, ranges_at, bin_at, bins_at}
use Rattle.model.proofs.RawValues.{length-bins}
use Rattle.values.specs.Listed.{lists, listed_in, first_listing}
use Rattle.values.proofs.Laws.{bins_step, bins_end, ranges_start, ranges_step, row_end}

-- ---- the search by places

module _ (s : List ℕ) (a p v : ℕ) where
  -- what is left: j ranges of the bin are looked at
  abbrev pub left_of : ℕ → ℕ → ℕ → ℕ → ℕ → ℕ → ℕ
  left_of n bin at k m j = cond (in_ranges (ranges_at s (at + 17 * j) (m - j)) v) bin (first_listing p v (bin + 1) (bins_at s (a + 8 * (bin + 1)) (at + 17 * k) (n - (bin + 1))))

  -- a bin is entered
  pub enter : (n bin at q k m : ℕ) → bin < n → q ≡ byte s (a + 8 * bin) → k ≡ u16 s (a + 8 * bin + 6) → m ≡ cond (eqb q p) k 0
      → left_of n bin at k m 0 ≡ first_listing p v bin (bins_at s (a + 8 * bin) at (n - bin))
  unfolding first_listing
  enter n bin at q k m h eq ek em =
      let others = first_listing p v (bin + 1) (bins_at s (a + 8 * (bin + 1)) (at + 17 * k) (n - (bin + 1))) in
      ap (λ (b : Bool). cond b bin others) (sym (ranges_start s at v m) ∙ ap (λ (x : ℕ). in_ranges (ranges_at s at x) v) em ∙ own (eqb q p))
      ∙ ap₂ (λ (x y : ℕ). cond (eqb x p && in_ranges (ranges_at s at y) v) bin (first_listing p v (bin + 1) (bins_at s (a + 8 * (bin + 1)) (at + 17 * y) (n - (bin + 1))))) eq ek
      ∙ ap (λ (x : ℕ). cond (lists p v (bin_at s (a + 8 * bin) at)) bin (first_listing p v x (bins_at s (a + 8 * (bin + 1)) (at + 17 * u16 s (a + 8 * bin + 6)) (n - (bin + 1))))) (add-one bin)
      ∙ sym (ap (first_listing p v bin) (bins_step s a at n bin h))
    where
      own : (b : Bool) → in_ranges (ranges_at s at (cond b k 0)) v ≡ (b && in_ranges (ranges_at s at k) v)
      own true = refl
      own false = unfold in_ranges rows in refl

  module _ (n bin at k m j x : ℕ) (inv : left_of n bin at k m j ≡ x) where
    pub range-hit : (y : Bool) → j < m → y ≡ in_range (range_record s (at + 17 * j)) v → y ≡ true → bin ≡ x
    range-hit y h e z = sym (ap (λ (b : Bool). cond b bin (first_listing p v (bin + 1) (bins_at s (a + 8 * (bin + 1)) (at + 17 * k) (n - (bin + 1))))) (ranges_step s at v m j h ∙ ap (◌|| in_ranges (ranges_at s (at + 17 * (j + 1)) (m - (j + 1))) v) (sym e ∙ z))) ∙ inv

    pub range-on : (y : Bool) → j < m → y ≡ in_range (range_record s (at + 17 * j)) v → y ≡ false → left_of n bin at k m (j + 1) ≡ x
    range-on y h e z = sym (ap (λ (b : Bool). cond b bin (first_listing p v (bin + 1) (bins_at s (a + 8 * (bin + 1)) (at + 17 * k) (n - (bin + 1))))) (ranges_step s at v m j h ∙ ap (◌|| in_ranges (ranges_at s (at + 17 * (j + 1)) (m - (j + 1))) v) (sym e ∙ z))) ∙ inv

    pub bin-on : m ≤ j → first_listing p v (bin + 1) (bins_at s (a + 8 * (bin + 1)) (at + 17 * k) (n - (bin + 1))) ≡ x
    unfolding in_ranges
    bin-on h = sym (ap (λ (b : Bool). cond b bin (first_listing p v (bin + 1) (bins_at s (a + 8 * (bin + 1)) (at + 17 * k) (n - (bin + 1))))) (ap (λ (rs : List _). in_ranges rs v) (row_end s at m j h))) ∙ inv

  pub none_lists : (n bin at x : ℕ) → first_listing p v bin (bins_at s (a + 8 * bin) at (n - bin)) ≡ x → n ≤ bin → bin ≡ x
  unfolding first_listing
  none_lists n bin at x inv h = sym (ap (first_listing p v bin) (bins_end s a at n bin h)) ∙ inv

-- ---- some bin lists the value where the first that does is one of them

first_below : (p v b : ℕ) (bs : List ValueBin) → ltb (first_listing p v b bs) (b + length bs) ≡ any (lists p v) bs
unfolding first_listing any
first_below p v b [] = le-ltb b (b + 0) (omega arith)
first_below p v b (x ∷ bs) = go (lists p v x) (first_below p v (suc b) bs)
  where
    go : (c : Bool) → ltb (first_listing p v (suc b) bs) (suc b + length bs) ≡ any (lists p v) bs → ltb (cond c b (first_listing p v (suc b) bs)) (b + suc (length bs)) ≡ (c || any (lists p v) bs)
    go true e = lt-ltb b (b + suc (length bs)) (omega arith)
    go false e = ap (ltb (first_listing p v (suc b) bs)) (let z : b + suc (length bs) ≡ suc b + length bs = omega arith in z) ∙ e

pub listed-first : (s : List ℕ) (a r n p v x : ℕ) → x ≡ first_listing p v 0 (bins_at s a r n) → ltb x n ≡ listed_in p v (bins_at s a r n)
unfolding listed_in
listed-first s a r n p v x e =
    ap₂ ltb e (sym (length-bins s a r n) ∙ (let z : length (bins_at s a r n) ≡ 0 + length (bins_at s a r n) = omega arith in z))
    ∙ first_below p v 0 (bins_at s a r n)

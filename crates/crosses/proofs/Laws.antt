-- Laws for the code over a cross's bins and products.
-- Assumes nothing.
use mathlib.Core.Path.{◌≡◌, refl, sym, ap, ap₂, ◌∙◌}
use mathlib.Core.Bool.{Bool, ◌&&◌}
use mathlib.Core.List.{List, [], ◌∷◌, ◌++◌}
use Prim.Native.Nat.{ℕ, zero, suc, ◌+◌, ◌-◌, ◌*◌, ◌/◌, ◌^◌, ◌≤◌, ◌<◌}
use native.Mathlib.Nat.{pow-suc}
use native.Mathlib.Omega.{arith}
use lib.Bits.{bit_or}
use lib.Pow.{pow_mono}
use lib.ListN.{length, get_or, take, drop, set, replicate, length-append, length-take, drop_of_length-le}
use lib.Seq.{length-take-le}
use Rattle.std.proofs.lemmas.Nat.{or_comm}
use Rattle.model.specs.Lists.{sum_of, pair_up, as_bit, or_all}
use Rattle.model.specs.Table.{excludes}
use Rattle.model.specs.Format.{byte, kind_from, guard_from, CrossBinHead, cross_bin_head, tokens_of}
use Rattle.model.specs.Raw.{token_total}
use Rattle.model.proofs.RawLaws.{length-rows, rows_turn, rows_start, rows_end}
use Rattle.model.proofs.Lists.{taken-turn, pair-length}
use Rattle.model.proofs.RunBits.{as_bit-le}
use Rattle.crosses.specs.Flags.{passes, heads_at, mask_of, own_mark, own_marks, is_odd, label_of, bin_flags, product_flag, product_flags, every_mark, cross_flags}
use Rattle.crosses.specs.Labels.{bin_labels, cross_labels}
use Rattle.arrays.specs.Put.{put}
use Rattle.arrays.proofs.PutLaws.{put-nil, put-cons}

-- ---- one bin

pub label_cover : (a b k : ℕ) → k ≡ 0 → label_of a b (kind_from k) ≡ a ∷ []
label_cover a b k e = rw e

pub label-illegal : (a b k : ℕ) → k ≡ 2 → label_of a b (kind_from k) ≡ b ∷ []
label-illegal a b k e = rw e

pub label-none : (a b k : ℕ) → (k ≡ 0 → ⊥) → (k ≡ 2 → ⊥) → label_of a b (kind_from k) ≡ []
label-none a b zero p q = absurd (p refl)
label-none a b (suc zero) p q = refl
label-none a b (suc (suc zero)) p q = absurd (q refl)
label-none a b (suc (suc (suc k))) p q = refl

pub one_written : (cur v : ℕ) (ys l : List ℕ) → ys ≡ v ∷ [] → cur < length l → (cur + 1 ≡ cur + length ys) × (set l cur v ≡ put cur ys l)
one_written cur v ys l e h =
    (omega (arith, ap length e), sym (put-nil (cur + 1) (set l cur v)) ∙ put-cons cur v [] l h ∙ ap (λ (z : List ℕ). put cur z l) (sym e))

-- ---- the mask, from the last bin to the first

mask_lt : (hs : List CrossBinHead) → mask_of hs < 2 ^ length hs
unfolding mask_of
mask_lt [] = omega arith
mask_lt (h ∷ hs) = omega (arith, mask_lt hs, pow-suc 2 (length hs), as_bit-le (excludes h.kind))

pub mask-small : (s : List ℕ) (b n : ℕ) → n ≤ 15 → mask_of (heads_at s b n) < 32768
mask-small s b n h = omega (arith, mask_lt (heads_at s b n), pow_mono {i = length (heads_at s b n)} {j = 15} (omega (arith, length-rows (cross_bin_head s []) 3 b n)))

pub mask-none : (s : List ℕ) (b n : ℕ) → 0 ≡ mask_of (heads_at s b (n - n))
unfolding mask_of
mask-none s b n = sym (ap mask_of (rows_end (cross_bin_head s []) 3 b n n (omega arith)))

back : (i : ℕ) → 0 < i → (i - 1) + 1 ≡ i
back i h = omega arith

pub mask-back : (s : List ℕ) (b n i k x m : ℕ) → 0 < i → i ≤ n → k ≡ byte s (b + 3 * (i - 1)) → x ≡ as_bit (excludes (kind_from k)) → m ≡ mask_of (heads_at s (b + 3 * i) (n - i))
    → m * 2 + x ≡ mask_of (heads_at s (b + 3 * (i - 1)) (n - (i - 1)))
unfolding mask_of
mask-back s b n i k x m h g ek ex em =
    sym (ap mask_of (rows_turn (cross_bin_head s []) 3 b n (i - 1) (omega arith) ∙ ap (λ (j : ℕ). cross_bin_head s [] (b + 3 * (i - 1)) ∷ heads_at s (b + 3 * j) (n - j)) (back i h))
    ∙ ap₂ (λ (y z : ℕ). y * 2 + z) (sym em) (ap (λ (z : ℕ). as_bit (excludes (kind_from z))) (sym ek) ∙ sym ex))

pub mask_done : (s : List ℕ) (b n i m : ℕ) → i ≡ 0 → m ≡ mask_of (heads_at s (b + 3 * i) (n - i)) → m ≡ mask_of (heads_at s b n)
mask_done s b n i m e em = em ∙ ap (λ (j : ℕ). mask_of (heads_at s (b + 3 * j) (n - j))) e ∙ ap mask_of (rows_start (cross_bin_head s []) 3 b n)

-- ---- the marks, from the last product to the first

taken-end : (n i : ℕ) (xs : List ℕ) → n ≤ i → drop i (take n xs) ≡ []
taken-end n i xs h = let k : length (take n xs) ≤ i = simp length-take (omega arith) in drop_of_length-le (take n xs) k

pub own-none : (mask n : ℕ) (hs ms : List ℕ) → 0 ≡ own_marks mask (drop n (take n hs)) (drop n (take n ms))
unfolding own_marks or_all pair_up
own-none mask n hs ms = sym (ap (λ (xs : List ℕ). own_marks mask xs (drop n (take n ms))) (taken-end n n hs (omega arith)))

pub own_back : (mask n i m own : ℕ) (hs ms : List ℕ) → 0 < i → i ≤ n → n ≤ length hs → n ≤ length ms → m ≡ own_mark mask (get_or hs (i - 1) 0) (get_or ms (i - 1) 0)
    → own ≡ own_marks mask (drop i (take n hs)) (drop i (take n ms)) → bit_or own m ≡ own_marks mask (drop (i - 1) (take n hs)) (drop (i - 1) (take n ms))
unfolding own_marks or_all pair_up
own_back mask n i m own hs ms h g k l em eo =
    or_comm own m ∙ sym (ap₂ (own_marks mask) (turn hs k) (turn ms l) ∙ ap₂ bit_or (sym em) (sym eo))
  where
    turn : (xs : List ℕ) → n ≤ length xs → drop (i - 1) (take n xs) ≡ get_or xs (i - 1) 0 ∷ drop i (take n xs)
    turn xs k = taken-turn n (i - 1) xs 0 (omega arith) k ∙ ap (λ (j : ℕ). get_or xs (i - 1) 0 ∷ drop j (take n xs)) (back i h)

pub own_done : (mask n i own : ℕ) (hs ms : List ℕ) → i ≡ 0 → own ≡ own_marks mask (drop i (take n hs)) (drop i (take n ms)) → own ≡ own_marks mask (take n hs) (take n ms)
own_done mask n i own hs ms e eo = eo ∙ ap (λ (j : ℕ). own_marks mask (drop j (take n hs)) (drop j (take n ms))) e

-- ---- the flags of the bins

module _ (w : List ℕ) (total live : Bool) (s : List ℕ) (b n : ℕ) where
  pub flags_start : (x y : ℕ) → bin_flags w total live x y (heads_at s (b + 3 * 0) (n - 0)) ≡ bin_flags w total live x y (heads_at s b n)
  flags_start x y = ap (bin_flags w total live x y) (rows_start (cross_bin_head s []) 3 b n)

  pub flags_turn : (x y i k g f f' : ℕ) (p : Bool) → i < n → k ≡ byte s (b + 3 * i) → g ≡ byte s (b + 3 * i + 1) → p ≡ passes w total (guard_from g)
      → f ≡ as_bit ((live && p) && is_odd x) → f' ≡ as_bit ((live && p) && is_odd y)
      → bin_flags w total live x y (heads_at s (b + 3 * i) (n - i)) ≡ label_of f f' (kind_from k) ++ bin_flags w total live (x / 2) (y / 2) (heads_at s (b + 3 * (i + 1)) (n - (i + 1)))
  unfolding bin_flags
  flags_turn x y i k g f f' p h ek eg ep ef ef' =
      let on = live && passes w total (guard_from (byte s (b + 3 * i + 1))) in
      let z : label_of (as_bit (on && is_odd x)) (as_bit (on && is_odd y)) (kind_from (byte s (b + 3 * i))) ≡ label_of f f' (kind_from k) = rw (ef, ef', ep, eg, ek) in
      ap (bin_flags w total live x y) (rows_turn (cross_bin_head s []) 3 b n i h) ∙ ap (◌++ bin_flags w total live (x / 2) (y / 2) (heads_at s (b + 3 * (i + 1)) (n - (i + 1)))) z

  pub flags_end : (x y i : ℕ) → n ≤ i → bin_flags w total live x y (heads_at s (b + 3 * i) (n - i)) ≡ []
  unfolding bin_flags
  flags_end x y i h = ap (bin_flags w total live x y) (rows_end (cross_bin_head s []) 3 (b + 3 * i) n i h)

-- ---- the flags of the products

pub products-turn : (live : Bool) (n i : ℕ) (hs ms : List ℕ) → i < n → n ≤ length hs → n ≤ length ms
    → product_flags live (drop i (take n hs)) (drop i (take n ms)) ≡ (product_flag live (get_or hs i 0) (get_or ms i 0) ∷ []) ++ product_flags live (drop (i + 1) (take n hs)) (drop (i + 1) (take n ms))
unfolding product_flags pair_up
products-turn live n i hs ms h k l = ap₂ (product_flags live) (taken-turn n i hs 0 h k) (taken-turn n i ms 0 h l)

pub length-products : (live : Bool) (n : ℕ) (hs ms : List ℕ) → n ≤ length hs → n ≤ length ms → length (product_flags live (take n hs) (take n ms)) ≡ n
unfolding product_flags
length-products live n hs ms h k =
    pair-length (product_flag live) (take n hs) (take n ms) (omega (arith, length-take-le n ms k, length-take-le n hs h)) ∙ length-take-le n hs h

pub products-end : (live : Bool) (n i : ℕ) (hs ms : List ℕ) → n ≤ i → product_flags live (drop i (take n hs)) (drop i (take n ms)) ≡ []
unfolding product_flags pair_up
products-end live n i hs ms h = ap (λ (xs : List ℕ). product_flags live xs (drop i (take n ms))) (taken-end n i hs h)

-- ---- both

module _ (s w : List ℕ) (total : Bool) (cp bp n : ℕ) (hs ms : List ℕ) (g k mask own every : ℕ) (live : Bool)
    (eg : g ≡ byte s (cp + 5)) (ek : k ≡ byte s (cp + 12)) (el : live ≡ passes w total (guard_from g)) (em : mask ≡ mask_of (heads_at s bp k))
    (eo : own ≡ own_marks mask (take n hs) (take n ms)) (ee : every ≡ every_mark total (take n hs) (take n ms)) where
  pub cross_parts : cross_flags s w total cp bp (take n hs) (take n ms) ≡ bin_flags w total live own every (heads_at s bp k) ++ product_flags live (take n hs) (take n ms)
  unfolding cross_flags
  cross_parts = rw (eo, ee, em, el, eg, ek)

  pub cross_parts_length : n ≤ length hs → n ≤ length ms → length (cross_flags s w total cp bp (take n hs) (take n ms)) ≡ length (bin_flags w total live own every (heads_at s bp k)) + n
  cross_parts_length h h' =
      ap length cross_parts ∙ length-append (bin_flags w total live own every (heads_at s bp k)) _ ∙ ap (length (bin_flags w total live own every (heads_at s bp k)) +◌) (length-products live n hs ms h h')

-- ---- elements by kind

module _ (a a' : ℕ) (s : List ℕ) (b n : ℕ) where
  pub labels_start : bin_labels a a' (heads_at s (b + 3 * 0) (n - 0)) ≡ bin_labels a a' (heads_at s b n)
  labels_start = ap (bin_labels a a') (rows_start (cross_bin_head s []) 3 b n)

  pub labels_turn : (i k : ℕ) → i < n → k ≡ byte s (b + 3 * i) → bin_labels a a' (heads_at s (b + 3 * i) (n - i)) ≡ label_of a a' (kind_from k) ++ bin_labels a a' (heads_at s (b + 3 * (i + 1)) (n - (i + 1)))
  unfolding bin_labels
  labels_turn i k h ek =
      ap (bin_labels a a') (rows_turn (cross_bin_head s []) 3 b n i h) ∙ ap (λ (x : ℕ). label_of a a' (kind_from x) ++ bin_labels a a' (heads_at s (b + 3 * (i + 1)) (n - (i + 1)))) (sym ek)

  pub labels_end : (i : ℕ) → n ≤ i → bin_labels a a' (heads_at s (b + 3 * i) (n - i)) ≡ []
  unfolding bin_labels
  labels_end i h = ap (bin_labels a a') (rows_end (cross_bin_head s []) 3 (b + 3 * i) n i h)

pub labels-parts : (s : List ℕ) (a b p cp bp k n m : ℕ) → k ≡ byte s (cp + 12) → n ≡ m → cross_labels s m a b p cp bp ≡ bin_labels a b (heads_at s bp k) ++ replicate n p
unfolding cross_labels
labels-parts s a b p cp bp k n m ek en = rw (ek, en)

-- ---- the number of tokens

module _ (s : List ℕ) (b n : ℕ) where
  abbrev pub tokens_from : ℕ → ℕ
  tokens_from i = sum_of tokens_of (heads_at s (b + 3 * i) (n - i))

  pub tokens_start : token_total s b n ≡ 0 + tokens_from 0
  unfolding token_total
  tokens_start = ap (sum_of tokens_of) (sym (rows_start (cross_bin_head s []) 3 b n)) ∙ (let z : tokens_from 0 ≡ 0 + tokens_from 0 = omega arith in z)

  pub tokens_turn : (i k sum : ℕ) → i < n → k ≡ byte s (b + 3 * i + 2) → sum + tokens_from i ≡ sum + k + tokens_from (i + 1)
  unfolding sum_of
  tokens_turn i k sum h e = omega (arith, ap (sum_of tokens_of) (rows_turn (cross_bin_head s []) 3 b n i h))

  pub tokens_end : (i sum : ℕ) → n ≤ i → sum + tokens_from i ≡ sum
  unfolding sum_of
  tokens_end i sum h = omega (arith, ap (sum_of tokens_of) (rows_end (cross_bin_head s []) 3 (b + 3 * i) n i h))

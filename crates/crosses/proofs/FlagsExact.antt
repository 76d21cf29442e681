-- For an accepted table the flags of a cross from its products' marks are the model's, and the elements by kind are those of its counters.
-- Assumes nothing.
use mathlib.Core.Path.{◌≡◌, refl, sym, ap, ap₂, ◌∙◌}
use mathlib.Core.Bool.{Bool, true, false, not, ◌&&◌, ◌||◌, cond, and-true, and-false, and_comm}
use mathlib.Core.List.{List, [], ◌∷◌, ◌++◌, map, map-append}
use Prim.Native.Nat.{ℕ, zero, suc, ◌+◌, ◌*◌, ◌/◌, ◌^◌, ◌≤◌, ◌<◌}
use native.Mathlib.Omega.{arith}
use native.Mathlib.Nat.{pow-suc, div-one, div-div-eq-div-mul}
use lib.Dec.{eqb}
use lib.Bits.{bit_and, and_zero_r}
use lib.ListN.{length, get_or, replicate, length-append, length-map, length-replicate}
use Rattle.model.specs.Lists.{up_from, any, all, bit, as_bit, or_all, bits_from}
use Rattle.model.specs.Table.{Kind, cover, ignore, illegal, default, CrossBin, Cross, Table, no_cross_bin, excludes}
use Rattle.model.specs.Counters.{CoverBin, Counter, cross_bin, illegal_cross, product, cross_at, cross_bin_at, cross_bin_counter, cross_bin_counters, cross_counters, products, product_count, selects, selected, excluded_product, owns, has_value}
use Rattle.model.specs.Sampling.{Stretches, guard_true, cover_hit, product_hit, hits}
use Rattle.model.specs.Figures.{in_total}
use Rattle.model.specs.Format.{byte, guard_from, CrossBinHead, table_of}
use Rattle.model.specs.Raw.{rows, cross_bins_at}
use Rattle.model.proofs.Limits.{products-count}
use Rattle.model.proofs.RunBits.{bits_at, bits-and, bits-zero, bit-zero, bit-or_all}
use Rattle.model.proofs.Lists.{map-map, any_cong, any_numbers, any_out, pair-map, pair-length}
use Rattle.model.proofs.RawCrosses.{length-cross-bins}
use Rattle.arrays.specs.Flat.{hit_flags, total_flags, product_hits}
use Rattle.products.specs.Shapes.{Stands}
use Rattle.products.specs.declared.places.Place.{Place}
use Rattle.products.specs.Marks.{cross_mark, cross_marks}
use Rattle.crosses.specs.Flags.{gate_of, flags_of, passes, heads_at, mask_of, own_mark, own_marks, is_odd, label_of, bin_flags, product_flag, product_flags, every_mark, cross_flags}
use Rattle.crosses.specs.Labels.{bin_labels, cross_labels}
use Rattle.products.proofs.Exact.{cross_placed}

-- ---- Booleans

guarded : (a b c : Bool) → (a && (b && c)) ≡ ((b && (false || a)) && c)
guarded true true c = refl
guarded true false c = refl
guarded false true c = refl
guarded false false c = refl

-- ---- elements by kind

label_one : (g : Counter → ℕ) (c i a b : ℕ) → g (cross_bin c i) ≡ a → g (illegal_cross c i) ≡ b → (k : Kind) → map g (cross_bin_counter c i k) ≡ label_of a b k
label_one g c i a b e₁ e₂ cover = ap (◌∷ []) e₁
label_one g c i a b e₁ e₂ ignore = refl
label_one g c i a b e₁ e₂ illegal = ap (◌∷ []) e₂
label_one g c i a b e₁ e₂ default = refl

module _ (g : Counter → ℕ) (c a b p : ℕ) (on_cover : (i : ℕ) → g (cross_bin c i) ≡ a) (on_illegal : (i : ℕ) → g (illegal_cross c i) ≡ b) where
  pub bin_labels_lem : (s : List ℕ) (n i at k : ℕ) → map g (cross_bin_counters c i (cross_bins_at s at k n)) ≡ bin_labels a b (heads_at s at n)
  unfolding cross_bin_counters cross_bins_at rows bin_labels
  bin_labels_lem s zero i at k = refl
  bin_labels_lem s (suc n) i at k =
      let bin = get_or (cross_bins_at s at k (suc n)) 0 no_cross_bin in
      map-append g (cross_bin_counter c i bin.kind) (cross_bin_counters c (suc i) (cross_bins_at s (at + 3) (k + 20 * byte s (at + 2)) n))
      ∙ ap₂ ◌++◌ (label_one g c i a b (on_cover i) (on_illegal i) bin.kind) (bin_labels_lem s n (suc i) (at + 3) (k + 20 * byte s (at + 2)))

  module _ (on_product : (cs : List CoverBin) → g (product c cs) ≡ p) where
    pub product-labels : (css : List (List CoverBin)) → map g (map (product c) css) ≡ replicate (length css) p
    product-labels [] = refl
    product-labels (cs ∷ css) = ap₂ ◌∷◌ (on_product cs) (product-labels css)

half : (x i : ℕ) → x / 2 ^ suc i ≡ x / 2 ^ i / 2
half x i = ap (x /◌) (pow-suc 2 i) ∙ sym (div-div-eq-div-mul x (2 ^ i) 2)

-- ---- lengths

label-length : (a b a' b' : ℕ) (k : Kind) → length (label_of a b k) ≡ length (label_of a' b' k)
label-length a b a' b' cover = refl
label-length a b a' b' ignore = refl
label-length a b a' b' illegal = refl
label-length a b a' b' default = refl

pub flags_length : (w : List ℕ) (total live : Bool) (own every : ℕ) (hs : List CrossBinHead) → length (bin_flags w total live own every hs) ≡ length (bin_labels 0 0 hs)
unfolding bin_flags bin_labels
flags_length w total live own every [] = refl
flags_length w total live own every (h ∷ hs) =
    let on = live && passes w total h.guard in
    length-append (label_of (as_bit (on && is_odd own)) (as_bit (on && is_odd every)) h.kind) _
    ∙ ap₂ ◌+◌ (label-length (as_bit (on && is_odd own)) (as_bit (on && is_odd every)) 0 0 h.kind) (flags_length w total live (own / 2) (every / 2) hs)
    ∙ sym (length-append (label_of 0 0 h.kind) (bin_labels 0 0 hs))

labels_length : (a b : ℕ) (hs : List CrossBinHead) → length (bin_labels a b hs) ≡ length (bin_labels 0 0 hs)
unfolding bin_labels
labels_length a b [] = refl
labels_length a b (h ∷ hs) =
    length-append (label_of a b h.kind) _ ∙ ap₂ ◌+◌ (label-length a b 0 0 h.kind) (labels_length a b hs) ∙ sym (length-append (label_of 0 0 h.kind) (bin_labels 0 0 hs))

-- ---- one cross of an accepted table

module _ (s : List ℕ) (p : Place) (stands : Stands s p) where
  abbrev c : ℕ
  c = p.number

  abbrev cp : ℕ
  cp = p.cross

  abbrev bp : ℕ
  bp = p.bins

  abbrev kp : ℕ
  kp = p.tokens

  abbrev T : Table
  T = table_of s

  abbrev n : ℕ
  n = byte s (cp + 12)

  bins : (cross_at T c).bins ≡ cross_bins_at s bp kp (byte s (cp + 12))
  bins = ap (λ (x : Cross). x.bins) (cross_placed s p stands).said

  many : length (cross_at T c).bins ≡ n
  many = ap length bins ∙ length-cross-bins s bp kp n

  counters_are : cross_counters T c ≡ cross_bin_counters c 0 (cross_bins_at s bp kp n) ++ map (product c) (products T c)
  unfolding cross_counters
  counters_are = ap (λ (bs : List CrossBin). cross_bin_counters c 0 bs ++ map (product c) (products T c)) bins

  pub counters_length : length (cross_counters T c) ≡ length (bin_labels 0 0 (heads_at s bp n)) + product_count T c
  counters_length =
      ap length counters_are ∙ length-append (cross_bin_counters c 0 (cross_bins_at s bp kp n)) (map (product c) (products T c))
      ∙ ap₂ ◌+◌
      (sym (length-map (cross_bin_counters c 0 (cross_bins_at s bp kp n)) (λ x. 0)) ∙ ap length (bin_labels_lem (λ x. 0) c 0 0 0 (λ i. refl) (λ i. refl) s n 0 bp kp))
      (length-map (products T c) (product c) ∙ products-count T c)

  -- the elements of the cross's counters
  pub labels_exact : (g : Counter → ℕ) (a b x : ℕ) → ((i : ℕ) → g (cross_bin p.number i) ≡ a) → ((i : ℕ) → g (illegal_cross p.number i) ≡ b) → ((cs : List CoverBin) → g (product p.number cs) ≡ x)
      → map g (cross_counters (table_of s) p.number) ≡ cross_labels s (product_count (table_of s) p.number) a b x p.cross p.bins
  unfolding cross_labels
  labels_exact g a b x e₁ e₂ e₃ =
      ap (map g) counters_are ∙ map-append g (cross_bin_counters c 0 (cross_bins_at s bp kp n)) (map (product c) (products T c))
      ∙ ap₂ ◌++◌ (bin_labels_lem g c a b x e₁ e₂ s n 0 bp kp) (product-labels g c a b x e₁ e₂ e₃ (products T c) ∙ ap (λ (k : ℕ). replicate k x) (products-count T c))

  pub length_labels : (a b x : ℕ) → length (cross_labels s (product_count (table_of s) p.number) a b x p.cross p.bins) ≡ length (cross_counters (table_of s) p.number)
  unfolding cross_labels
  length_labels a b x =
      length-append (bin_labels a b (heads_at s bp n)) (replicate (product_count T c) x)
      ∙ ap₂ ◌+◌ (labels_length a b (heads_at s bp n)) (length-replicate (product_count T c) x)
      ∙ sym counters_length

  pub length_flags : (w : List ℕ) (total : Bool) (hs ms : List ℕ) → length hs ≡ product_count T c → length ms ≡ product_count T c → length (cross_flags s w total cp bp hs ms) ≡ length (cross_counters T c)
  unfolding cross_flags product_flags
  length_flags w total hs ms eh em =
      let live = passes w total (guard_from (byte s (cp + 5))) in
      length-append (bin_flags w total live (own_marks (mask_of (heads_at s bp n)) hs ms) (every_mark total hs ms) (heads_at s bp n)) _
      ∙ ap₂ ◌+◌ (flags_length w total live (own_marks (mask_of (heads_at s bp n)) hs ms) (every_mark total hs ms) (heads_at s bp n)) (pair-length (product_flag live) hs ms (omega (arith, em, eh)) ∙ eh)
      ∙ sym counters_length

  -- ---- the cross's bins by number

  abbrev Numbered : ℕ → ℕ → ℕ → ℕ → Type 0
  Numbered m i at k = (j : ℕ) → j < m → get_or (cross_bins_at s at k m) j no_cross_bin ≡ cross_bin_at T c (i + j)

  numbered : Numbered n 0 bp kp
  numbered j h = ap (λ (bs : List CrossBin). get_or bs j no_cross_bin) (sym bins) ∙ ap (cross_bin_at T c) (let z : j ≡ 0 + j = omega arith in z)

  first : (m i at k : ℕ) → Numbered (suc m) i at k → get_or (cross_bins_at s at k (suc m)) 0 no_cross_bin ≡ cross_bin_at T c i
  first m i at k h = h 0 (omega arith) ∙ ap (cross_bin_at T c) (let z : i + 0 ≡ i = omega arith in z)

  others : (m i at k : ℕ) → Numbered (suc m) i at k → Numbered m (suc i) (at + 3) (k + 20 * byte s (at + 2))
  unfolding cross_bins_at
  others m i at k h j l = h (suc j) (omega arith) ∙ ap (cross_bin_at T c) (let z : i + suc j ≡ suc i + j = omega arith in z)

  abbrev ex : ℕ → Bool
  ex j = excludes (cross_bin_at T c j).kind

  mask_bits : (m i at k : ℕ) → Numbered m i at k → mask_of (heads_at s at m) ≡ bits_from ex i m
  unfolding mask_of cross_bins_at rows bits_from
  mask_bits zero i at k h = refl
  mask_bits (suc m) i at k h =
      ap₂ (λ (x : ℕ) (b : Bool). x * 2 + as_bit b) (mask_bits m (suc i) (at + 3) (k + 20 * byte s (at + 2)) (others m i at k h)) (ap (λ (b : CrossBin). excludes b.kind) (first m i at k h))

  -- the bins' flags, where those of each bin are known
  module _ (w : List ℕ) (total live : Bool) (own every : ℕ) (g : Counter → ℕ)
      (on_cover : (j : ℕ) → j < n → g (cross_bin c j) ≡ as_bit ((live && passes w total (cross_bin_at T c j).guard) && bit j own))
      (on_illegal : (j : ℕ) → j < n → g (illegal_cross c j) ≡ as_bit ((live && passes w total (cross_bin_at T c j).guard) && bit j every)) where
    flags_from : (m i at k : ℕ) → Numbered m i at k → i + m ≤ n → map g (cross_bin_counters c i (cross_bins_at s at k m)) ≡ bin_flags w total live (own / 2 ^ i) (every / 2 ^ i) (heads_at s at m)
    unfolding cross_bin_counters cross_bins_at rows bin_flags
    flags_from zero i at k h l = refl
    flags_from (suc m) i at k h l =
        let bin = get_or (cross_bins_at s at k (suc m)) 0 no_cross_bin in
        let on = live && passes w total bin.guard in
        let same : (live && passes w total (cross_bin_at T c i).guard) ≡ on = ap (λ (b : CrossBin). live && passes w total b.guard) (sym (first m i at k h)) in
        map-append g (cross_bin_counter c i bin.kind) (cross_bin_counters c (suc i) (cross_bins_at s (at + 3) (k + 20 * byte s (at + 2)) m))
        ∙ ap₂ ◌++◌
        (label_one g c i (as_bit (on && bit i own)) (as_bit (on && bit i every))
        (on_cover i (omega arith) ∙ ap (λ (x : Bool). as_bit (x && bit i own)) same)
        (on_illegal i (omega arith) ∙ ap (λ (x : Bool). as_bit (x && bit i every)) same) bin.kind)
        (flags_from m (suc i) (at + 3) (k + 20 * byte s (at + 2)) (others m i at k h) (omega arith)
        ∙ ap₂ (λ (x y : ℕ). bin_flags w total live x y (heads_at s (at + 3) m)) (half own i) (half every i))

    pub bin-flags : map g (cross_bin_counters c 0 (cross_bins_at s bp kp n)) ≡ bin_flags w total live own every (heads_at s bp n)
    bin-flags = flags_from n 0 bp kp numbered (omega arith) ∙ ap₂ (λ (x y : ℕ). bin_flags w total live x y (heads_at s bp n)) (div-one own) (div-one every)

  -- ---- what the marks say

  abbrev mask : ℕ
  mask = mask_of (heads_at s bp n)

  abbrev sel : List CoverBin → ℕ → Bool
  sel cs i = selects T (cross_bin_at T c i).select cs

  abbrev L : ℕ
  L = length (cross_at T c).bins

  selected_bits : (cs : List CoverBin) → eqb (bits_from (sel cs) 0 L) 0 ≡ not (selected T c cs)
  selected_bits cs = bits-zero (sel cs) 0 L ∙ ap not (any_numbers (λ b. selects T b.select cs) no_cross_bin (cross_at T c).bins)

  excluded_bits : (cs : List CoverBin) → eqb (bit_and (bits_from (sel cs) 0 L) mask) 0 ≡ not (excluded_product T c cs)
  excluded_bits cs =
      ap (λ (x : ℕ). eqb (bit_and (bits_from (sel cs) 0 L) x) 0) (mask_bits n 0 bp kp numbered ∙ ap (bits_from ex 0) (sym many))
      ∙ ap (λ (x : ℕ). eqb x 0) (bits-and (sel cs) ex 0 L)
      ∙ bits-zero (λ l. sel cs l && ex l) 0 L
      ∙ ap not
      (any_cong (λ l. sel cs l && ex l) (λ l. ex l && sel cs l) (up_from 0 L) (λ l. and_comm (sel cs l) (ex l))
      ∙ any_numbers (λ b. excludes b.kind && selects T b.select cs) no_cross_bin (cross_at T c).bins)

  sel_at : (cs : List CoverBin) (i : ℕ) → i < n → bit i (bits_from (sel cs) 0 L) ≡ sel cs i
  sel_at cs i h = bits_at (sel cs) 0 L i (omega (arith, many)) ∙ ap (sel cs) (let z : 0 + i ≡ i = omega arith in z)

  module _ (f : CoverBin → Bool) where
    own-one : (i : ℕ) → i < n → (cs : List CoverBin) → bit i (own_mark mask (as_bit (all f cs)) (cross_mark T c cs)) ≡ (owns T c i cs && all f cs)
    unfolding cross_mark
    own-one i h cs = go (all f cs)
      where
        left : (x : Bool) → bit i (cond (not x) (bits_from (sel cs) 0 L) 0) ≡ ((sel cs i && not x) && true)
        left true = bit-zero i ∙ sym (ap (◌&& true) (and-false (sel cs i)))
        left false = sel_at cs i h ∙ sym (and-true (sel cs i && true) ∙ and-true (sel cs i))

        go : (b : Bool) → bit i (own_mark mask (as_bit b) (bits_from (sel cs) 0 L)) ≡ (owns T c i cs && b)
        go true = ap (λ (x : Bool). bit i (cond x (bits_from (sel cs) 0 L) 0)) (excluded_bits cs) ∙ left (excluded_product T c cs)
        go false = bit-zero i ∙ sym (and-false (owns T c i cs))

    every_one : (i : ℕ) → i < n → (cs : List CoverBin) → bit i (own_mark 0 (as_bit (all f cs)) (cross_mark T c cs)) ≡ (sel cs i && all f cs)
    unfolding cross_mark
    every_one i h cs = go (all f cs)
      where
        go : (b : Bool) → bit i (own_mark 0 (as_bit b) (bits_from (sel cs) 0 L)) ≡ (sel cs i && b)
        go true = ap (λ (x : ℕ). bit i (cond (eqb x 0) (bits_from (sel cs) 0 L) 0)) (and_zero_r (bits_from (sel cs) 0 L)) ∙ sel_at cs i h ∙ sym (and-true (sel cs i))
        go false = bit-zero i ∙ sym (and-false (sel cs i))

    marks-bit : (i k : ℕ) (h : List CoverBin → Bool) → ((cs : List CoverBin) → bit i (own_mark k (as_bit (all f cs)) (cross_mark T c cs)) ≡ h cs)
        → bit i (own_marks k (product_hits T c f) (cross_marks T c)) ≡ any h (products T c)
    unfolding own_marks product_hits cross_marks
    marks-bit i k h e =
        ap (λ (ms : List ℕ). bit i (or_all ms)) (pair-map (own_mark k) (λ cs. as_bit (all f cs)) (cross_mark T c) (products T c))
        ∙ bit-or_all i (λ cs. own_mark k (as_bit (all f cs)) (cross_mark T c cs)) (products T c)
        ∙ any_cong (λ cs. bit i (own_mark k (as_bit (all f cs)) (cross_mark T c cs))) h (products T c) e

    product-one : (live : Bool) (cs : List CoverBin) → product_flag live (as_bit (all f cs)) (cross_mark T c cs) ≡ as_bit ((live && all f cs) && not (selected T c cs))
    unfolding cross_mark
    product-one live cs = go (all f cs)
      where
        go : (b : Bool) → as_bit (live && (eqb (as_bit b) 1 && eqb (bits_from (sel cs) 0 L) 0)) ≡ as_bit ((live && b) && not (selected T c cs))
        go true = ap (λ (x : Bool). as_bit (live && x)) (selected_bits cs) ∙ ap (λ (x : Bool). as_bit (x && not (selected T c cs))) (sym (and-true live))
        go false = ap as_bit (and-false live) ∙ sym (ap (λ (x : Bool). as_bit (x && not (selected T c cs))) (and-false live))

    product-all : (live : Bool) (g : Counter → ℕ) → ((cs : List CoverBin) → g (product c cs) ≡ as_bit ((live && all f cs) && not (selected T c cs)))
        → map g (map (product c) (products T c)) ≡ product_flags live (product_hits T c f) (cross_marks T c)
    unfolding product_flags product_hits cross_marks
    product-all live g e =
        map-map g (product c) (λ cs. product_flag live (as_bit (all f cs)) (cross_mark T c cs)) (λ cs. e cs ∙ sym (product-one live cs)) (products T c)
        ∙ sym (pair-map (product_flag live) (λ cs. as_bit (all f cs)) (cross_mark T c) (products T c))

    -- bins and products together
    both : (w : List ℕ) (total live : Bool) (own every : ℕ) (g : Counter → ℕ)
        → ((j : ℕ) → j < n → g (cross_bin c j) ≡ as_bit ((live && passes w total (cross_bin_at T c j).guard) && bit j own))
        → ((j : ℕ) → j < n → g (illegal_cross c j) ≡ as_bit ((live && passes w total (cross_bin_at T c j).guard) && bit j every))
        → ((cs : List CoverBin) → g (product c cs) ≡ as_bit ((live && all f cs) && not (selected T c cs)))
        → map g (cross_counters T c) ≡ bin_flags w total live own every (heads_at s bp n) ++ product_flags live (product_hits T c f) (cross_marks T c)
    both w total live own every g e₁ e₂ e₃ =
        ap (map g) counters_are ∙ map-append g (cross_bin_counters c 0 (cross_bins_at s bp kp n)) (map (product c) (products T c))
        ∙ ap₂ ◌++◌ (bin-flags w total live own every g e₁ e₂) (product-all live g e₃)

  -- ---- the model's flags

  total_exact : (w : List ℕ) → total_flags T (cross_counters T c) ≡ cross_flags s w true cp bp (product_hits T c (has_value T)) (cross_marks T c)
  unfolding total_flags cross_flags
  total_exact w = both f w true true (own_marks mask (product_hits T c f) (cross_marks T c)) 0 (λ x. as_bit (in_total T x)) on_cover on_illegal on_product
    where
      f : CoverBin → Bool
      f = has_value T

      on_cover : (j : ℕ) → j < n → as_bit (in_total T (cross_bin c j)) ≡ as_bit (bit j (own_marks mask (product_hits T c (has_value T)) (cross_marks T c)))
      on_cover j h = unfold in_total in (ap as_bit (sym (marks-bit (has_value T) j mask (λ cs. owns T c j cs && all (has_value T) cs) (own-one (has_value T) j h))))

      on_illegal : (j : ℕ) → j < n → as_bit (in_total T (illegal_cross c j)) ≡ as_bit (bit j 0)
      on_illegal j h = unfold in_total in (ap as_bit (sym (bit-zero j)))

      on_product : (cs : List CoverBin) → as_bit (in_total T (product c cs)) ≡ as_bit (all (has_value T) cs && not (selected T c cs))
      on_product cs = unfold in_total in (ap as_bit (and_comm (not (selected T c cs)) (all (has_value T) cs)))

  hits_exact : (w : List ℕ) (m : Stretches) → hit_flags T w m (cross_counters T c) ≡ cross_flags s w false cp bp (product_hits T c (cover_hit T w)) (cross_marks T c)
  unfolding hit_flags cross_flags
  hits_exact w m =
      both f w false live (own_marks mask (product_hits T c f) (cross_marks T c)) (own_marks 0 (product_hits T c f) (cross_marks T c)) (λ x. as_bit (hits T w m x)) on_cover on_illegal on_product
      ∙ ap (λ (x : Bool). bin_flags w false x (own_marks mask (product_hits T c f) (cross_marks T c)) (own_marks 0 (product_hits T c f) (cross_marks T c)) (heads_at s bp n) ++ product_flags x (product_hits T c f) (cross_marks T c))
      (ap (λ (x : Cross). guard_true w x.guard) (cross_placed s p stands).said)
    where
      f : CoverBin → Bool
      f = cover_hit T w

      live : Bool
      live = guard_true w (cross_at T c).guard

      on_cover : (j : ℕ) → j < n → as_bit (hits T w m (cross_bin c j)) ≡ as_bit ((live && passes w false (cross_bin_at T c j).guard) && bit j (own_marks mask (product_hits T c f) (cross_marks T c)))
      on_cover j h = unfold hits product_hit in
          (ap as_bit
          (ap (guard_true w (cross_bin_at T c j).guard &&◌) (any_out (owns T c j) (all f) live (products T c))
          ∙ guarded (guard_true w (cross_bin_at T c j).guard) live (any (λ cs. owns T c j cs && all f cs) (products T c))
          ∙ ap ((live && passes w false (cross_bin_at T c j).guard) &&◌) (sym (marks-bit f j mask (λ cs. owns T c j cs && all f cs) (own-one f j h)))))

      on_illegal : (j : ℕ) → j < n → as_bit (hits T w m (illegal_cross c j)) ≡ as_bit ((live && passes w false (cross_bin_at T c j).guard) && bit j (own_marks 0 (product_hits T c f) (cross_marks T c)))
      on_illegal j h = unfold hits product_hit in
          (ap as_bit
          (ap (guard_true w (cross_bin_at T c j).guard &&◌) (any_out (λ cs. sel cs j) (all f) live (products T c))
          ∙ guarded (guard_true w (cross_bin_at T c j).guard) live (any (λ cs. sel cs j && all f cs) (products T c))
          ∙ ap ((live && passes w false (cross_bin_at T c j).guard) &&◌) (sym (marks-bit f j 0 (λ cs. sel cs j && all f cs) (every_one f j h)))))

      on_product : (cs : List CoverBin) → as_bit (hits T w m (product c cs)) ≡ as_bit ((live && all f cs) && not (selected T c cs))
      on_product cs = unfold hits product_hit in refl

  pub flags_exact : (w : List ℕ) (total : Bool) (m : Stretches)
      → flags_of total T w m (cross_counters T c) ≡ cross_flags s w total cp bp (product_hits T c (gate_of total T w)) (cross_marks T c)
  flags_exact w true m = total_exact w
  flags_exact w false m = hits_exact w m

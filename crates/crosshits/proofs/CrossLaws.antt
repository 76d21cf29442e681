-- One cross: what its code writes, and that it is what the sample hits.
-- Assumes nothing.
use mathlib.Core.Path.{◌≡◌, refl, sym, ap, ap₂, ◌∙◌, subst, fun_ext}
use mathlib.Core.Bool.{Bool, true, false, and-false}
use mathlib.Core.List.{List, [], ◌∷◌, ◌++◌, map}
use Prim.Native.Nat.{ℕ, suc, ◌+◌, ◌-◌, ◌/◌, ◌≤◌, ◌<◌}
use native.Mathlib.Omega.{arith}
use lib.ListN.{length, get_or, take, drop, drop_of_length-le, replicate, length-replicate, length-append, length-map, length-take, length-drop}
use lib.Seq.{drop-drop, take_all, get_or-take, get_or-drop, ext_get_or}
use borrow.Rule.Slice.PartMut.{put_mid}
use Rattle.model.specs.Lists.{up_from, all, as_bit, or_all, pair_up}
use Rattle.model.specs.Table.{Table, Kind, cover, ignore, illegal, default}
use Rattle.model.specs.Counters.{CoverBin, Counter, tuples, products, cross_counters, product_count}
use Rattle.model.specs.Sampling.{Stretches, guard_true, cover_hit, hits}
use Rattle.model.specs.Format.{byte, guard_from, CrossBinHead, cross_bin_head, table_of}
use Rattle.model.proofs.Lists.{length-row, get_d-row}
use Rattle.model.proofs.Limits.{products-count}
use Rattle.model.proofs.RawLaws.{length-rows}
use Rattle.model.proofs.RunBits.{as_bit_eqb}
use Rattle.arrays.specs.Put.{put}
use Rattle.arrays.specs.Flat.{hit_flags, product_hits}
use Rattle.arrays.proofs.PutLaws.{put-zero, front-put, put-put, put_same, drop-put, length-put, part-back}
use Rattle.arrays.proofs.Written.{as_written}
use Rattle.places.specs.Places.{is_set, places_from}
use Rattle.places.proofs.PlaceLaws.{places-append, places-map, places-few, places-below}
use Rattle.products.specs.Digits.{many}
use Rattle.products.specs.Shapes.{sizes_of}
use Rattle.products.specs.Marks.{Below, cross_mark, cross_marks}
use Rattle.products.proofs.Exact.{cross_placed, parts_are, sizes-parts, sizes-long}
use Rattle.crosses.specs.Flags.{heads_at, mask_of, own_marks, label_of, bin_flags, product_flags, cross_flags}
use Rattle.crosses.specs.Labels.{bin_labels}
use Rattle.crosses.proofs.FlagsExact.{flags_length, flags_exact, counters_length}
use Rattle.crosshits.specs.Numbers.{numbers_from, hit_total, PartsFit, Ready}
use Rattle.crosshits.specs.Listed.{list_marks, own_places}
use Rattle.crosshits.specs.Cross.{live_flags, live_places, cross_numbers, cross_total, cross_hits, Given}
use Rattle.crosshits.specs.declared.cross.Cross.{Cross}
use Rattle.crosshits.proofs.CountLaws.{labels-few}
use Rattle.crosshits.proofs.ListedLaws.{own-few, flags_of, marks_at, marks_listed, own_listed_lem}
use Rattle.crosshits.proofs.NumberLaws.{numbers_total, numbers-exact, all_fit, below_at}

-- a part that was lent, with something written to its start
pub part-written : (at : ℕ) (xs l ys : List ℕ) → at + length xs ≤ length l → ys ≡ put 0 xs (take (length l - at) (drop at l)) → put_mid at (length l - at) l ys ≡ put at xs l
part-written at xs l ys fit e =
    let n = length l - at in
    let part = take n (drop at l) in
    let m = length l - (at + length xs) in
    let done = put at xs l in
    let z : n ≡ (at + n) - at = omega arith in
    let long : length part ≡ n = simp (length-take, length-drop) (omega arith) in
    let whole : part ≡ drop at l = take_all n (drop at l) (simp length-drop (omega arith)) in
    let all : length ys ≡ n = ap length e ∙ length-put 0 xs part (omega (arith, long)) ∙ long in
    let kept : length done ≡ length l = length-put at xs l fit in
    let rest : drop (length xs) (drop at l) ≡ take m (drop (at + length xs) done) =
    drop-drop (length xs) at l ∙ sym (drop-put at (length xs) xs l refl fit) ∙ sym (take_all m (drop (at + length xs) done) (simp length-drop (omega arith))) in
    ap (λ (k : ℕ). put_mid at k l ys) z ∙ part-back at n l ys all
    ∙ ap (λ (v : List ℕ). put at v l) (e ∙ ap (put 0 xs) whole ∙ put-zero xs (drop at l) ∙ ap (xs ++◌) rest)
    ∙ sym (put-put at xs (take m (drop (at + length xs) done)) l fit)
    ∙ put_same (at + length xs) m done (omega (arith, kept))

-- ---- the code of a cross whose guard holds

module _ (s w a xs : List ℕ) (x : Cross) where
  pub flags_few : byte s (x.place.cross + 12) ≤ 16 → length (live_flags s w a xs x) ≤ 16
  unfolding live_flags
  flags_few h =
      let bins = heads_at s x.place.bins (byte s (x.place.cross + 12)) in
      omega (arith, flags_length w false true (list_marks (mask_of bins) a x.start xs) (list_marks 0 a x.start xs) bins, labels-few bins, length-rows (cross_bin_head s []) 3 x.place.bins (byte s (x.place.cross + 12)))

  pub flags_many : length (live_flags s w a xs x) ≡ length (bin_labels 0 0 (heads_at s x.place.bins (byte s (x.place.cross + 12))))
  unfolding live_flags
  flags_many =
      let bins = heads_at s x.place.bins (byte s (x.place.cross + 12)) in
      flags_length w false true (list_marks (mask_of bins) a x.start xs) (list_marks 0 a x.start xs) bins

  module _ (k mask own every : ℕ) (ek : k ≡ byte s (x.place.cross + 12)) (em : mask ≡ mask_of (heads_at s x.place.bins k)) (eo : own ≡ list_marks mask a x.start xs) (ee : every ≡ list_marks 0 a x.start xs) where
    pub live-flags : bin_flags w false true own every (heads_at s x.place.bins k) ≡ live_flags s w a xs x
    unfolding live_flags
    live-flags = rw (eo, ee, em, ek)

  pub live_parts : (m : ℕ) → m ≡ length (live_flags s w a xs x) → live_places s w a xs x ≡ places_from is_set x.first (live_flags s w a xs x) ++ own_places a x.start (x.first + m) xs
  unfolding live_places
  live_parts m e = ap (λ (k : ℕ). places_from is_set x.first (live_flags s w a xs x) ++ own_places a x.start (x.first + k) xs) (sym e)

pub live-room : (s w a xs : List ℕ) (x : Cross) (hits : List ℕ) → x.at + (length (live_flags s w a xs x) + length xs) ≤ length hits → x.at + length (live_places s w a xs x) ≤ length hits
live-room s w a xs x hits room =
    let m = length (live_flags s w a xs x) in
    let first = places_from is_set x.first (live_flags s w a xs x) in
    let rest = own_places a x.start (x.first + m) xs in
    omega (arith, ap length (live_parts s w a xs x m refl), length-append first rest, places-few is_set x.first (live_flags s w a xs x), own-few a x.start (x.first + m) xs)

-- the flags of its bins: there are m, and the c places of those that are set stand in the hits from `at` on
pub record BinsPut (s w a xs hits : List ℕ) (x : Cross) (m c : ℕ) (part : List ℕ) : Type 0 where
  pub many : m ≡ length (live_flags s w a xs x)
  pub places : c ≡ length (places_from is_set x.first (live_flags s w a xs x))
  pub small : c ≤ m
  pub written : put_mid x.at (length hits - x.at) hits part ≡ put x.at (places_from is_set x.first (live_flags s w a xs x)) hits
  pub kept : length (put_mid x.at (length hits - x.at) hits part) ≡ length hits

module _ (s w a xs hits : List ℕ) (x : Cross) (n m c : ℕ) (flags part bins : List ℕ) (few : byte s (x.place.cross + 12) ≤ 16) (same : bins ≡ live_flags s w a xs x)
    (room : x.at + (length (live_flags s w a xs x) + n) ≤ length hits)
    (em : m ≡ 0 + length bins) (ef : flags ≡ put 0 bins (replicate 16 0))
    (ec : c ≡ length (places_from is_set x.first (take m flags))) (ep : part ≡ put 0 (places_from is_set x.first (take m flags)) (take (length hits - x.at) (drop x.at hits))) where
  bins_many : m ≡ length (live_flags s w a xs x)
  bins_many = omega (arith, em, ap length same)

  set_are : take m flags ≡ live_flags s w a xs x
  set_are =
      let long : length bins ≡ m = omega arith in
      ap (take m) ef ∙ front-put m bins (replicate 16 0) long (omega (arith, length-replicate {A = ℕ} 16 0, flags_few s w a xs x few, bins_many)) ∙ same

  places_many : c ≡ length (places_from is_set x.first (live_flags s w a xs x))
  places_many = ec ∙ ap (λ (v : List ℕ). length (places_from is_set x.first v)) set_are

  places_small : c ≤ m
  places_small = omega (arith, places_many, places-few is_set x.first (live_flags s w a xs x), bins_many)

  bins_written : put_mid x.at (length hits - x.at) hits part ≡ put x.at (places_from is_set x.first (live_flags s w a xs x)) hits
  bins_written =
      part-written x.at (places_from is_set x.first (live_flags s w a xs x)) hits part (omega (arith, places-few is_set x.first (live_flags s w a xs x)))
      (ep ∙ ap (λ (v : List ℕ). put 0 (places_from is_set x.first v) (take (length hits - x.at) (drop x.at hits))) set_are)

  bins_kept : length (put_mid x.at (length hits - x.at) hits part) ≡ length hits
  bins_kept = ap length bins_written ∙ length-put x.at (places_from is_set x.first (live_flags s w a xs x)) hits (omega (arith, places-few is_set x.first (live_flags s w a xs x)))

  pub bins_put : BinsPut s w a xs hits x m c part
  bins_put = record { many = bins_many; places = places_many; small = places_small; written = bins_written; kept = bins_kept }

-- ---- a guard that does not hold

module _ (w : List ℕ) where
  bins_none : (n own every : ℕ) (hs : List CrossBinHead) → places_from is_set n (bin_flags w false false own every hs) ≡ []
  unfolding bin_flags places_from
  bins_none n own every [] = refl
  bins_none n own every (h ∷ hs) = go h.kind (λ k. bins_none k (own / 2) (every / 2) hs)
    where
      go : (k : Kind) → ((i : ℕ) → places_from is_set i (bin_flags w false false (own / 2) (every / 2) hs) ≡ []) → places_from is_set n (label_of 0 0 k ++ bin_flags w false false (own / 2) (every / 2) hs) ≡ []
      go cover f = f (suc n)
      go ignore f = f n
      go illegal f = f (suc n)
      go default f = f n

  -- no product counts
  bins_idle : (hs : List CrossBinHead) → bin_flags w false true 0 0 hs ≡ bin_flags w false false 0 0 hs
  unfolding bin_flags
  bins_idle [] = refl
  bins_idle (h ∷ hs) = ap₂ (λ (b : ℕ) (fs : List ℕ). label_of b b h.kind ++ fs) (ap as_bit (and-false (guard_true w h.guard))) (bins_idle hs)

products-none : (n : ℕ) (hs ms : List ℕ) → places_from is_set n (product_flags false hs ms) ≡ []
unfolding product_flags pair_up places_from
products-none n [] ms = refl
products-none n (h ∷ hs) [] = refl
products-none n (h ∷ hs) (m ∷ ms) = products-none (suc n) hs ms

-- ---- what the sample hits

row_is : (k n : ℕ) (a l : List ℕ) → take n (drop k a) ≡ l → length l ≡ n → map (λ i. get_or a (k + i) 0) (up_from 0 n) ≡ l
row_is k n a l e h =
    let f : ℕ → ℕ = λ i. get_or a (k + i) 0 in
    ext_get_or 0 (map f (up_from 0 n)) l (length-row f 0 n ∙ sym h)
    (λ i j.
    let in-n : i < n = omega (arith, length-row f 0 n) in
    get_d-row f 0 n i 0 in-n ∙ ap f (let z : 0 + i ≡ i = omega arith in z)
    ∙ sym (get_or-drop k a i 0) ∙ sym (get_or-take n (drop k a) i 0 in-n) ∙ ap (λ (v : List ℕ). get_or v i 0) e)

module _ (s w f a : List ℕ) (x : Cross) (given : Given s w f a x) where
  abbrev T : Table
  T = table_of s

  abbrev c : ℕ
  c = x.place.number

  abbrev cp : ℕ
  cp = x.place.cross

  abbrev hit : List CoverBin → Bool
  hit = all (cover_hit T w)

  abbrev heads : List CrossBinHead
  heads = heads_at s x.place.bins (byte s (cp + 12))

  many_products_lem : length (products T c) ≡ x.shape.total
  many_products_lem = products-count T c ∙ sym given.fits.products

  -- the numbers of the hit products
  abbrev hit_numbers : List ℕ
  hit_numbers = places_from hit 0 (products T c)

  numbers_are : cross_numbers s f x ≡ hit_numbers
  unfolding products
  numbers_are =
      ap (numbers_from s f (cp + 1) 0) (sizes-parts s x.place given.stands x.shape given.fits)
      ∙ numbers-exact T w f given.found s cp (cross_placed s x.place given.stands).points
      ∙ ap (λ (css : List (List CoverBin)). places_from hit 0 (tuples css)) (sym (parts_are s x.place given.stands))

  pub numbers_many : cross_total s f x ≡ length (cross_numbers s f x)
  numbers_many = sym (numbers_total s f (sizes_of x.shape) (cp + 1) 0 ∙ ap (hit_total s f (cp + 1)) (sizes-long s x.place given.stands x.shape given.fits))

  pub numbers_few : length (cross_numbers s f x) ≤ x.shape.total
  numbers_few = omega (arith, ap length numbers_are, places-few hit 0 (products T c), many_products_lem)

  pub numbers_ready : Ready s f x.shape (record { at = 0; first = 0; point = x.place.cross + 1; q = 0 })
  numbers_ready =
      let good = cross_placed s x.place given.stands in
      let z : 0 + many (sizes_of x.shape) ≤ 1024 = omega (arith, given.fits.whole.all, given.fits.whole.small) in
      record {
        few = given.fits.whole.few;
        long = sizes-long s x.place given.stands x.shape given.fits;
        near = omega (arith, good.near.0);
        room = z;
        fit = subst (PartsFit s f (cp + 1)) (sym (sizes-parts s x.place given.stands x.shape given.fits)) (all_fit T w f given.found s cp good.points);
      }

  -- they stand at the list's start
  pub numbers_listed : (n : ℕ) (l l' : List ℕ) → n ≡ 0 + length (cross_numbers s f x) → l' ≡ put 0 (cross_numbers s f x) l → cross_total s f x ≤ length l
      → (take n l' ≡ cross_numbers s f x) × (n ≡ length (cross_numbers s f x)) × (n ≤ length l')
  numbers_listed n l l' en el h =
      let xs = cross_numbers s f x in
      let long : n ≡ length xs = omega arith in
      let fit : length xs ≤ length l = omega (arith, numbers_many) in
      (ap (take n) el ∙ front-put n xs l (sym long) (omega arith), long, omega (arith, ap length el, length-put 0 xs l (omega arith)))

  pub numbers_below : (l : List ℕ) → l ≡ cross_numbers s f x → Below (length l) 1024 l
  unfolding Below
  numbers_below l e i h =
      let b = below_at (0 + length (products T c)) hit_numbers (places-below hit 0 (products T c)) i (omega (arith, ap length e, ap length numbers_are)) in
      let same = ap (λ (v : List ℕ). get_or v i 0) (e ∙ numbers_are) in
      omega (arith, b, same, many_products_lem, given.fits.whole.small)

  -- ---- the flags

  abbrev live : Bool
  live = guard_true w (guard_from (byte s (cp + 5)))

  abbrev hs : List ℕ
  hs = product_hits T c (cover_hit T w)

  abbrev ms : List ℕ
  ms = cross_marks T c

  hits_flags : (m : Stretches) → cross_hits s w m x ≡ places_from is_set x.first (cross_flags s w false cp x.place.bins hs ms)
  unfolding hit_flags
  hits_flags m =
      ap (λ (g : Counter → Bool). places_from g x.first (cross_counters T c)) (fun_ext (λ y. sym (as_bit_eqb (hits T w m y))))
      ∙ sym (places-map is_set (λ y. as_bit (hits T w m y)) x.first (cross_counters T c))
      ∙ ap (places_from is_set x.first) (flags_exact s x.place given.stands w false m)

  both_parts : (b : Bool) → live ≡ b → (m : Stretches)
      → cross_hits s w m x
      ≡ places_from is_set x.first (bin_flags w false b (own_marks (mask_of heads) hs ms) (own_marks 0 hs ms) heads)
      ++ places_from is_set (x.first + length (bin_flags w false b (own_marks (mask_of heads) hs ms) (own_marks 0 hs ms) heads)) (product_flags b hs ms)
  unfolding cross_flags
  both_parts b e m =
      hits_flags m
      ∙ ap (λ (y : Bool). places_from is_set x.first (bin_flags w false y (own_marks (mask_of heads) hs ms) (own_marks 0 hs ms) heads ++ product_flags y hs ms)) e
      ∙ places-append is_set x.first (bin_flags w false b (own_marks (mask_of heads) hs ms) (own_marks 0 hs ms) heads) (product_flags b hs ms)

  pub none_hit : guard_true w (guard_from (byte s (x.place.cross + 5))) ≡ false → (m : Stretches) → cross_hits s w m x ≡ []
  none_hit e m =
      both_parts false e m
      ∙ ap₂ ◌++◌ (bins_none w x.first (own_marks (mask_of heads) hs ms) (own_marks 0 hs ms) heads) (products-none (x.first + length (bin_flags w false false (own_marks (mask_of heads) hs ms) (own_marks 0 hs ms) heads)) hs ms)

  marks_row : marks_at hit a x.start 0 (length (products T c)) ≡ ms
  unfolding cross_marks
  marks_row =
      ap (λ (n : ℕ). map (λ k. get_or a (x.start + k) 0) (up_from 0 n)) many_products_lem
      ∙ row_is x.start x.shape.total a (cross_marks T c) given.marks (length-map (products T c) (cross_mark T c) ∙ many_products_lem)

  listed : (mask : ℕ) → own_marks mask hs ms ≡ list_marks mask a x.start hit_numbers
  unfolding product_hits
  listed mask = sym (marks_listed hit a x.start mask 0 (products T c) ∙ ap (own_marks mask (flags_of hit a x.start (products T c))) marks_row)

  own_rest : (n : ℕ) → places_from is_set n (product_flags true hs ms) ≡ own_places a x.start n hit_numbers
  unfolding product_hits
  own_rest n =
      sym (own_listed_lem hit a x.start n 0 (products T c)
      ∙ ap₂ (λ (k : ℕ) (v : List ℕ). places_from is_set k (product_flags true (flags_of hit a x.start (products T c)) v)) (let z : n + 0 ≡ n = omega arith in z) marks_row)

  live_exact : guard_true w (guard_from (byte s (x.place.cross + 5))) ≡ true → (m : Stretches) → live_places s w a hit_numbers x ≡ cross_hits s w m x
  unfolding live_places live_flags
  live_exact e m =
      sym (both_parts true e m
      ∙ ap₂ (λ (y z : ℕ). places_from is_set x.first (bin_flags w false true y z heads) ++ places_from is_set (x.first + length (bin_flags w false true y z heads)) (product_flags true hs ms)) (listed (mask_of heads)) (listed 0)
      ∙ ap (places_from is_set x.first (bin_flags w false true (list_marks (mask_of heads) a x.start hit_numbers) (list_marks 0 a x.start hit_numbers) heads) ++◌) (own_rest (x.first + length (bin_flags w false true (list_marks (mask_of heads) a x.start hit_numbers) (list_marks 0 a x.start hit_numbers) heads))))

  -- of the listed numbers
  pub live_written : guard_true w (guard_from (byte s (x.place.cross + 5))) ≡ true → (r : ℕ) (h h₀ : List ℕ)
      → r ≡ x.at + length (live_places s w a (cross_numbers s f x) x) → h ≡ put x.at (live_places s w a (cross_numbers s f x) x) h₀
      → (m : Stretches) → (r ≡ x.at + length (cross_hits s w m x)) × (h ≡ put x.at (cross_hits s w m x) h₀)
  live_written e r h h₀ er eh m =
      let xs = live_places s w a (cross_numbers s f x) x in
      let same = ap (λ (v : List ℕ). live_places s w a v x) numbers_are ∙ live_exact e m in
      as_written x.at r (length xs) xs (cross_hits s w m x) h₀ h (sym same) refl er eh

  pub none_listed : guard_true w (guard_from (byte s (x.place.cross + 5))) ≡ true → cross_total s f x ≡ 0 → (m : Stretches) → cross_hits s w m x ≡ []
  unfolding live_places live_flags list_marks or_all own_places
  none_listed e z m =
      sym (live_exact e m)
      ∙ ap (λ (v : List ℕ). live_places s w a v x) (drop_of_length-le hit_numbers {i = 0} (omega (arith, numbers_many, ap length numbers_are)))
      ∙ ap₂ ◌++◌ (ap (places_from is_set x.first) (bins_idle w heads) ∙ bins_none w x.first 0 0 heads) refl

  -- how many counters there are
  pub counters_room : (xs : List ℕ) → length (live_flags s w a xs x) + product_count (table_of s) x.place.number ≡ length (cross_counters (table_of s) x.place.number)
  counters_room xs = omega (arith, flags_many s w a xs x, counters_length s x.place given.stands)

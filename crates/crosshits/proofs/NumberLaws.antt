-- The numbers of a cross's hit products, part by part, how many they are, and that they are the places of the hit ones among its products.
-- Assumes nothing.
use mathlib.Core.Path.{◌≡◌, refl, sym, ap, ap₂, ◌∙◌, subst}
use mathlib.Core.Bool.{Bool, true, false, ◌&&◌, cond}
use mathlib.Core.List.{List, [], ◌∷◌, ◌++◌, map}
use Prim.Native.Nat.{ℕ, zero, suc, ◌+◌, ◌-◌, ◌*◌, ◌^◌, ◌≤◌, ◌<◌}
use native.Mathlib.Nat.{mul-le-mul, mul_comm, pow-le-pow_right}
use native.Mathlib.Omega.{arith}
use lib.ListN.{length, get_or, drop, length-map, length-append, drop_of_length-le}
use lib.Seq.{get_or-take, get_or-drop, ext_get_or}
use Rattle.model.specs.Lists.{up_from, all, concat_of}
use Rattle.model.specs.Table.{Table}
use Rattle.model.specs.Counters.{CoverBin, tuples}
use Rattle.model.specs.Sampling.{cover_hit}
use Rattle.model.specs.Register.{point_total}
use Rattle.model.specs.Format.{byte}
use Rattle.model.proofs.Lists.{one_left, head_tail, length-row, get_d-row}
use Rattle.model.proofs.Readers.{All}
use Rattle.arrays.specs.Flat.{covers}
use Rattle.places.specs.Places.{places_from, hit_parts, Found}
use Rattle.places.proofs.PlaceLaws.{places-append, places-map, places-none, places-below}
use Rattle.products.specs.Digits.{many}
use Rattle.products.specs.Parts.{parts_at}
use Rattle.products.specs.Shapes.{sizes_of}
use Rattle.products.specs.declared.shapes.Shape.{Shape}
use Rattle.products.proofs.Tuples.{tuples-many}
use Rattle.crosshits.specs.Numbers.{found_part, found_count, found_parts, numbers_from, hit_total, turn_numbers, PartsFit, Ready}
use Rattle.crosshits.specs.declared.numbers.Turn.{Turn}

-- ---- one turn of the code

module _ (s a : List ℕ) (h : Shape) (x : Turn) (long : length (sizes_of h) ≡ h.count) where
  -- past the last position there is one number
  pub turn_last : h.count ≤ x.q → turn_numbers s a h x ≡ x.first ∷ []
  unfolding numbers_from
  turn_last k = ap (numbers_from s a x.point x.first) (drop_of_length-le (sizes_of h) (let z : length (sizes_of h) ≤ x.q = omega (arith, long) in z))

  module _ (k : x.q < h.count) where
    abbrev ns : List ℕ
    ns = drop (x.q + 1) (sizes_of h)

    abbrev size : ℕ
    size = get_or (sizes_of h) x.q 1

    sizes-turn : drop x.q (sizes_of h) ≡ size ∷ ns
    sizes-turn = head_tail (sizes_of h) x.q 1 (omega (arith, long))

    module _ (p row inner n : ℕ) (ep : p ≡ byte s x.point) (er : row ≡ 257 * p) (ei : inner ≡ many (drop (x.q + 1) (sizes_of h))) (en : n ≡ get_or a row 0) where
      -- the numbers of the parts from the i-th on
      abbrev pub numbers_left : ℕ → List ℕ
      numbers_left i = concat_of (λ d. numbers_from s a (x.point + 1) (x.first + d * inner) (drop (x.q + 1) (sizes_of h))) (map (λ k. get_or a (row + 1 + k) 0) (up_from i (n - i)))

      pub left-start : numbers_left 0 ≡ turn_numbers s a h x
      unfolding numbers_from found_parts
      left-start =
          let z : n - 0 ≡ n = omega arith in
          ap (λ (m : ℕ). concat_of (λ d. numbers_from s a (x.point + 1) (x.first + d * inner) ns) (map (λ k. get_or a (row + 1 + k) 0) (up_from 0 m))) (z ∙ en)
          ∙ ap₂ (λ (i r : ℕ). concat_of (λ d. numbers_from s a (x.point + 1) (x.first + d * i) ns) (map (λ k. get_or a (r + 1 + k) 0) (up_from 0 (get_or a r 0)))) ei (er ∙ ap (λ (q : ℕ). 257 * q) ep)
          ∙ ap (numbers_from s a x.point x.first) (sym sizes-turn)

      pub left-turn : (i d : ℕ) → i < n → d ≡ get_or a (row + 1 + i) 0
          → numbers_left i ≡ numbers_from s a (x.point + 1) (x.first + d * inner) (drop (x.q + 1) (sizes_of h)) ++ numbers_left (i + 1)
      unfolding concat_of up_from
      left-turn i d l ed =
          let z : suc i ≡ i + 1 = omega arith in
          ap (λ (m : ℕ). concat_of (λ d. numbers_from s a (x.point + 1) (x.first + d * inner) ns) (map (λ k. get_or a (row + 1 + k) 0) (up_from i m))) (one_left n i l)
          ∙ ap₂ (λ (y j : ℕ). numbers_from s a (x.point + 1) (x.first + y * inner) ns ++ concat_of (λ d. numbers_from s a (x.point + 1) (x.first + d * inner) ns) (map (λ k. get_or a (row + 1 + k) 0) (up_from j (n - (i + 1))))) (sym ed) z

      pub left_end : (i : ℕ) → n ≤ i → numbers_left i ≡ []
      unfolding concat_of up_from
      left_end i l = ap (λ (m : ℕ). concat_of (λ d. numbers_from s a (x.point + 1) (x.first + d * inner) ns) (map (λ k. get_or a (row + 1 + k) 0) (up_from i m))) (let z : n - i ≡ 0 = omega arith in z)

      module _ (ready : Ready s a h x) (i d : ℕ) (l : i < n) (ed : d ≡ get_or a (row + 1 + i) 0) where
        fits : PartsFit s a x.point (size ∷ ns)
        fits = subst (PartsFit s a x.point) sizes-turn ready.fit

        part_in : d < size
        unfolding PartsFit
        part_in =
            let same : 257 * byte s x.point ≡ row = sym (er ∙ ap (λ (q : ℕ). 257 * q) ep) in
            let inside : i < found_count a (byte s x.point) = subst (λ (r : ℕ). i < get_or a r 0) (sym same) (omega (arith, en)) in
            omega (arith, ed, ap (λ (r : ℕ). get_or a (r + 1 + i) 0) same, fits.0 i inside)

        -- the products with this part are among those with the parts so far
        pub part_room : x.first + d * inner + inner ≤ 1024
        unfolding many
        part_room =
            let m = many ns in
            let all : many (drop x.q (sizes_of h)) ≡ size * m = ap many sizes-turn in
            let below : suc d * m ≤ size * m = mul-le-mul (let z : suc d ≤ size = omega (arith, part_in) in z) (let z : m ≤ m = omega arith in z) in
            let step : suc d * m ≡ d * m + m = omega arith in
            let same : d * inner ≡ d * m = ap (d *◌) ei in
            omega (arith, ready.room, all, below, step, same, ei)

        pub ready-next : (e : ℕ) → Ready s a h (record { at = e; first = x.first + d * inner; point = x.point + 1; q = x.q + 1 })
        unfolding PartsFit
        ready-next e = record {
          few = ready.few;
          long = ready.long;
          near = omega (arith, ready.near);
          room = omega (arith, part_room, ei);
          fit = fits.1;
        }

-- ---- how many numbers there are

concat-length : {A B : Type 0} (f : A → List B) (n : ℕ) (xs : List A) → ((x : A) → length (f x) ≡ n) → length (concat_of f xs) ≡ length xs * n
unfolding concat_of
concat-length f n [] e = omega arith
concat-length f n (x ∷ xs) e = omega (arith, length-append (f x) (concat_of f xs), e x, concat-length f n xs e)

module _ (s a : List ℕ) where
  pub numbers_total : (ns : List ℕ) (at first : ℕ) → length (numbers_from s a at first ns) ≡ hit_total s a at (length ns)
  unfolding numbers_from found_parts hit_total
  numbers_total [] at first = refl
  numbers_total (n ∷ ns) at first =
      let p = byte s at in
      let rest = hit_total s a (at + 1) (length ns) in
      concat-length (λ d. numbers_from s a (at + 1) (first + d * many ns) ns) rest (found_parts a p) (λ d. numbers_total ns (at + 1) (first + d * many ns))
      ∙ ap (◌* rest) (length-row (found_part a p) 0 (found_count a p))

  pub total_none : (at n : ℕ) → 1 ≡ hit_total s a (at + n) (n - n)
  unfolding hit_total
  total_none at n = ap (hit_total s a (at + n)) (let z : 0 ≡ n - n = omega arith in z)

  -- one position more, from the last back
  pub total_turn : (at n i p k total : ℕ) → 0 < i → i ≤ n → p ≡ byte s (at + (i - 1)) → k ≡ get_or a (257 * p) 0 → total ≡ hit_total s a (at + i) (n - i) → total * k ≡ hit_total s a (at + (i - 1)) (n - (i - 1))
  unfolding hit_total
  total_turn at n i p k total pos h ep ek et =
      let here : at + i ≡ at + (i - 1) + 1 = omega arith in
      let left : n - (i - 1) ≡ suc (n - i) = omega arith in
      mul_comm total k ∙ ap₂ ◌*◌ (ek ∙ ap (λ (q : ℕ). get_or a (257 * q) 0) ep) (et ∙ ap (λ (b : ℕ). hit_total s a b (n - i)) here) ∙ ap (hit_total s a (at + (i - 1))) (sym left)

  pub total_all : (at n i total : ℕ) → i ≡ 0 → total ≡ hit_total s a (at + i) (n - i) → total ≡ hit_total s a at n
  total_all at n i total e et = et ∙ ap₂ (hit_total s a) (let z : at + i ≡ at = omega arith in z) (let z : n - i ≡ n = omega arith in z)

-- a product of at most four factors, each below 2 ^ 16
pub factors-none : (n : ℕ) → 1 ≤ 65535 ^ (n - n)
factors-none n = subst (λ (k : ℕ). 1 ≤ 65535 ^ k) (let z : 0 ≡ n - n = omega arith in z) (omega arith)

pub factors-turn : (n i x total : ℕ) → n ≤ 4 → 0 < i → i ≤ n → x ≤ 65535 → total ≤ 65535 ^ (n - i) → (total * x ≤ 65535 ^ (n - (i - 1))) × (total * x ≤ 65535 ^ 4)
factors-turn n i x total few pos h hx ht =
    let left : n - (i - 1) ≡ suc (n - i) = omega arith in
    let more : total * x ≤ 65535 ^ suc (n - i) = omega (arith, mul_comm total x, mul-le-mul hx ht) in
    (subst (λ (k : ℕ). total * x ≤ 65535 ^ k) (sym left) more, omega (arith, more, pow-le-pow_right {n = 65535} (omega arith) {i = suc (n - i)} {j = 4} (omega arith)))

-- ---- the products of tuples

concat-same : {A B : Type 0} (f g : A → List B) (xs : List A) → ((x : A) → f x ≡ g x) → concat_of f xs ≡ concat_of g xs
unfolding concat_of
concat-same f g [] e = refl
concat-same f g (x ∷ xs) e = ap₂ ◌++◌ (e x) (concat-same f g xs e)

all-false : {A : Type 0} (xs : List A) → All (λ x. false ≡ false) xs
all-false [] = tt
all-false (x ∷ xs) = (refl, all-false xs)

module _ (f : CoverBin → Bool) where
  -- one part, and each of the tuples of the others
  first_part : (n : ℕ) (c : CoverBin) (tails : List (List CoverBin)) → places_from (all f) n (map (c ∷◌) tails) ≡ cond (f c) (places_from (all f) n tails) []
  unfolding all
  first_part n c tails = places-map (all f) (c ∷◌) n tails ∙ go (f c)
    where
      go : (b : Bool) → places_from (λ x. b && all f x) n tails ≡ cond b (places_from (all f) n tails) []
      go true = refl
      go false = places-none (λ x. false) n tails (all-false tails)

  blocks : (b : ℕ) (tails : List (List CoverBin)) (i : ℕ) (cs : List CoverBin)
      → concat_of (λ d. places_from (all f) (b + d * length tails) tails) (places_from f i cs) ≡ places_from (all f) (b + i * length tails) (concat_of (λ c. map (c ∷◌) tails) cs)
  unfolding concat_of places_from
  blocks b tails i [] = refl
  blocks b tails i (c ∷ cs) =
      let m = length tails in
      let rest = concat_of (λ c. map (c ∷◌) tails) cs in
      let next : b + i * m + length (map (c ∷◌) tails) ≡ b + suc i * m = omega (arith, length-map tails (c ∷◌)) in
      go (f c) (blocks b tails (suc i) cs)
      ∙ sym (places-append (all f) (b + i * m) (map (c ∷◌) tails) rest
      ∙ ap₂ (λ (xs : List ℕ) (k : ℕ). xs ++ places_from (all f) k rest) (first_part (b + i * m) c tails) next)
    where
      go : (z : Bool) → concat_of (λ d. places_from (all f) (b + d * length tails) tails) (places_from f (suc i) cs) ≡ places_from (all f) (b + suc i * length tails) (concat_of (λ c. map (c ∷◌) tails) cs)
          → concat_of (λ d. places_from (all f) (b + d * length tails) tails) (cond z (i ∷ places_from f (suc i) cs) (places_from f (suc i) cs))
          ≡ cond z (places_from (all f) (b + i * length tails) tails) [] ++ places_from (all f) (b + suc i * length tails) (concat_of (λ c. map (c ∷◌) tails) cs)
      go true h = ap (places_from (all f) (b + i * length tails) tails ++◌) h
      go false h = h

-- ---- the lists of hit cover bins

pub below_at : (m : ℕ) (xs : List ℕ) → All (λ k. k < m) xs → (i : ℕ) → i < length xs → get_or xs i 0 < m
below_at m [] h i k = absurd (let z : i < 0 = k in omega arith)
below_at m (x ∷ xs) h zero k = h.0
below_at m (x ∷ xs) h (suc i) k = below_at m xs h.1 i (omega arith)

module _ (t : Table) (w a : List ℕ) (found : Found t w a) where
  pub found_parts_lem : (p : ℕ) → p < point_total t → found_parts a p ≡ hit_parts t w p
  unfolding found_parts Found
  found_parts_lem p h =
      let hit = hit_parts t w p in
      let at = found p h in
      ext_get_or 0 (found_parts a p) hit (length-row (found_part a p) 0 (found_count a p) ∙ at.count)
      (λ i k.
      let in_count : i < found_count a p = omega (arith, length-row (found_part a p) 0 (found_count a p)) in
      get_d-row (found_part a p) 0 (found_count a p) i 0 in_count
      ∙ ap (found_part a p) (let z : 0 + i ≡ i = omega arith in z)
      ∙ sym (get_or-drop (257 * p + 1) a i 0)
      ∙ sym (get_or-take (length hit) (drop (257 * p + 1) a) i 0 (omega (arith, at.count)))
      ∙ ap (λ (l : List ℕ). get_or l i 0) at.parts)

  found_in : (p : ℕ) → p < point_total t → (k : ℕ) → k < found_count a p → found_part a p k < length (covers t p)
  unfolding found_parts hit_parts
  found_in p h k l =
      let e : get_or (found_parts a p) k 0 ≡ found_part a p k = get_d-row (found_part a p) 0 (found_count a p) k 0 l ∙ ap (found_part a p) (let z : 0 + k ≡ k = omega arith in z) in
      let long : length (found_parts a p) ≡ found_count a p = length-row (found_part a p) 0 (found_count a p) in
      let same = found_parts_lem p h in
      let b = below_at (0 + length (covers t p)) (hit_parts t w p) (places-below (cover_hit t w) 0 (covers t p)) k (omega (arith, long, ap length same)) in
      omega (arith, e, ap (λ (l : List ℕ). get_or l k 0) same, b)

  -- ---- the points of a cross

  module _ (s : List ℕ) (c : ℕ) where
    abbrev point : ℕ → ℕ
    point i = byte s (c + 1 + i)

    abbrev parts : ℕ → ℕ → List (List CoverBin)
    parts i n = map (covers t) (map point (up_from i n))

    abbrev Inside : ℕ → ℕ → Type 0
    Inside i n = (j : ℕ) → j < n → point (i + j) < point_total t

    head_in : (i n : ℕ) → Inside i (suc n) → point i < point_total t
    head_in i n ps = subst (λ (x : ℕ). point x < point_total t) (let z : i + 0 ≡ i = omega arith in z) (ps 0 (omega arith))

    tail-in : (i n : ℕ) → Inside i (suc n) → Inside (suc i) n
    tail-in i n ps j h = subst (λ (x : ℕ). point x < point_total t) (let z : i + suc j ≡ suc i + j = omega arith in z) (ps (suc j) (omega arith))

    next : (i : ℕ) → c + 1 + i + 1 ≡ c + 1 + suc i
    next i = omega arith

    numbers-from : (n i first : ℕ) → Inside i n → numbers_from s a (c + 1 + i) first (map length (parts i n)) ≡ places_from (all (cover_hit t w)) first (tuples (parts i n))
    unfolding numbers_from tuples up_from hit_parts places_from all
    numbers-from zero i first ps = refl
    numbers-from (suc n) i first ps =
        let css = parts (suc i) n in
        let f = all (cover_hit t w) in
        let z : first + 0 * length (tuples css) ≡ first = omega arith in
        concat-same _ (λ d. places_from f (first + d * length (tuples css)) (tuples css)) (found_parts a (point i))
        (λ d. ap₂ (λ (at m : ℕ). numbers_from s a at (first + d * m) (map length css)) (next i) (sym (tuples-many css)) ∙ numbers-from n (suc i) (first + d * length (tuples css)) (tail-in i n ps))
        ∙ ap (concat_of (λ d. places_from f (first + d * length (tuples css)) (tuples css))) (found_parts_lem (point i) (head_in i n ps))
        ∙ blocks (cover_hit t w) first (tuples css) 0 (covers t (point i))
        ∙ ap (λ (k : ℕ). places_from f k (concat_of (λ c. map (c ∷◌) (tuples css)) (covers t (point i)))) z

    parts-fit : (n i : ℕ) → Inside i n → PartsFit s a (c + 1 + i) (map length (parts i n))
    unfolding PartsFit up_from
    parts-fit zero i ps = tt
    parts-fit (suc n) i ps = (found_in (point i) (head_in i n ps), subst (λ (at : ℕ). PartsFit s a at (map length (parts (suc i) n))) (sym (next i)) (parts-fit n (suc i) (tail-in i n ps)))

    module _ (points : (i : ℕ) → i < byte s c → byte s (c + 1 + i) < point_total t) where
      inside : Inside 0 (byte s c)
      inside j h = subst (λ (x : ℕ). point x < point_total t) (let z : j ≡ 0 + j = omega arith in z) (points j h)

      pub numbers-exact : numbers_from s a (c + 1) 0 (map length (parts_at t s c)) ≡ places_from (all (cover_hit t w)) 0 (tuples (parts_at t s c))
      unfolding parts_at
      numbers-exact = ap (λ (at : ℕ). numbers_from s a at 0 (map length (parts_at t s c))) (let z : c + 1 ≡ c + 1 + 0 = omega arith in z) ∙ numbers-from (byte s c) 0 0 inside

      pub all_fit : PartsFit s a (c + 1) (map length (parts_at t s c))
      unfolding parts_at
      all_fit = subst (λ (at : ℕ). PartsFit s a at (map length (parts_at t s c))) (let z : c + 1 + 0 ≡ c + 1 = omega arith in z) (parts-fit (byte s c) 0 inside)

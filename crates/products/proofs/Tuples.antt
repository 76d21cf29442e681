-- Tuple i is the one that the digits of i pick.
-- Assumes nothing.
use mathlib.Core.Path.{◌≡◌, refl, ap, ap₂, sym, ◌∙◌}
use mathlib.Core.List.{List, [], ◌∷◌, ◌++◌, map}
use Prim.Native.Nat.{ℕ, zero, suc, ◌+◌, ◌*◌, ◌/◌, ◌%◌, ◌≤◌, ◌<◌}
use native.Mathlib.Nat.{mul_assoc, div-add-mod', mod-lt, mod-eq_of_lt, div-eq_of_lt, div-lt_iff_lt-mul, mul-add-div_right, mul-add-mod_self_right}
use native.Mathlib.Omega.{arith}
use lib.ListN.{length, get_or, drop, length-map, get_or-append}
use lib.Seq.{get_or-append-add}
use Rattle.model.specs.Lists.{concat_of}
use Rattle.model.specs.Counters.{CoverBin, no_cover_bin, tuples, product_of}
use Rattle.model.proofs.Lists.{get_d_map}
use Rattle.model.proofs.Limits.{each-length}
use Rattle.products.specs.Digits.{many, turns, digits, pick}

-- ---- digits

pub some_left : (n m : ℕ) → 1 ≤ n * m → (1 ≤ n) × (1 ≤ m)
some_left zero m h = absurd (let z : 1 ≤ 0 * m = h in omega arith)
some_left (suc n) zero h = absurd (let z : 1 ≤ suc n * 0 = h in omega arith)
some_left (suc n) (suc m) h = (omega arith, omega arith)

turns-add : (ns : List ℕ) → 1 ≤ many ns → (q r : ℕ) → turns ns (q * many ns + r) ≡ q + turns ns r
unfolding many turns
turns-add [] h q r = omega arith
turns-add (n ∷ ns) h q r =
    let l = some_left n (many ns) h in
    ap (λ (x : ℕ). turns ns (x + r) / n) (sym (mul_assoc q n (many ns)))
    ∙ ap (λ (x : ℕ). x / n) (turns-add ns l.1 (q * n) r)
    ∙ mul-add-div_right l.0 q (turns ns r)

turns-small : (ns : List ℕ) (r : ℕ) → r < many ns → turns ns r ≡ 0
unfolding many turns
turns-small [] r h = omega arith
turns-small (n ∷ ns) r h =
    let l = some_left n (many ns) (omega arith) in
    let small : r / many ns < n = (div-lt_iff_lt-mul l.1).1 h in
    ap (λ (x : ℕ). turns ns x / n) (sym (div-add-mod' r (many ns)))
    ∙ ap (λ (x : ℕ). x / n) (turns-add ns l.1 (r / many ns) (r % many ns))
    ∙ ap (λ (x : ℕ). (r / many ns + x) / n) (turns-small ns (r % many ns) (mod-lt r l.1))
    ∙ div-eq_of_lt (let z : r / many ns + 0 < n = omega arith in z)

-- the turns of all parts leave the digits
digits-add : (ns : List ℕ) → 1 ≤ many ns → (q r : ℕ) → digits ns (q * many ns + r) ≡ digits ns r
unfolding many digits
digits-add [] h q r = refl
digits-add (n ∷ ns) h q r =
    let l = some_left n (many ns) h in
    ap (λ (x : ℕ). turns ns (x + r) % n ∷ digits ns (x + r)) (sym (mul_assoc q n (many ns)))
    ∙ ap₂ ◌∷◌ (ap (λ (x : ℕ). x % n) (turns-add ns l.1 (q * n) r) ∙ mul-add-mod_self_right q n (turns ns r)) (digits-add ns l.1 (q * n) r)

-- ---- tuples

pub tuples-many : (css : List (List CoverBin)) → length (tuples css) ≡ many (map length css)
unfolding tuples many
tuples-many [] = refl
tuples-many (cs ∷ css) = each-length cs (tuples css) ∙ ap (length cs *◌) (tuples-many css)

pub many_products_lem : (css : List (List CoverBin)) → many (map length css) ≡ product_of length css
unfolding many product_of
many_products_lem [] = refl
many_products_lem (cs ∷ css) = ap (length cs *◌) (many_products_lem css)

-- element r of block q
block_at : (tails : List (List CoverBin)) (cs : List CoverBin) (q r : ℕ) → q < length cs → r < length tails
    → get_or (concat_of (λ c. map (c ∷◌) tails) cs) (q * length tails + r) [] ≡ get_or cs q no_cover_bin ∷ get_or tails r []
unfolding concat_of
block_at tails [] q r h k = absurd (let z : q < 0 = h in omega arith)
block_at tails (c ∷ cs) zero r h k =
    let z : 0 * length tails + r ≡ r = omega arith in
    let l : r < length (map (c ∷◌) tails) = rw (length-map tails (c ∷◌)) k in
    ap (λ (x : ℕ). get_or (map (c ∷◌) tails ++ concat_of (λ c. map (c ∷◌) tails) cs) x []) z
    ∙ get_or-append (map (c ∷◌) tails) (concat_of (λ c. map (c ∷◌) tails) cs) [] r l
    ∙ get_d_map (c ∷◌) tails r [] [] k
block_at tails (c ∷ cs) (suc q) r h k =
    let z : suc q * length tails + r ≡ length (map (c ∷◌) tails) + (q * length tails + r) = omega (arith, length-map tails (c ∷◌)) in
    ap (λ (x : ℕ). get_or (map (c ∷◌) tails ++ concat_of (λ c. map (c ∷◌) tails) cs) x []) z
    ∙ get_or-append-add (map (c ∷◌) tails) (concat_of (λ c. map (c ∷◌) tails) cs) (q * length tails + r) []
    ∙ block_at tails cs q r (omega arith) k

pub tuple_at : (css : List (List CoverBin)) (i : ℕ) → i < many (map length css) → get_or (tuples css) i [] ≡ pick css (digits (map length css) i)
unfolding tuples many digits pick
tuple_at [] zero h = refl
tuple_at [] (suc i) h = absurd (let z : suc i < 1 = h in omega arith)
tuple_at (cs ∷ css) i h =
    let ns = map length css in
    let m = many ns in
    let l = some_left (length cs) m (omega arith) in
    let q = i / m in
    let r = i % m in
    let whole : q * m + r ≡ i = div-add-mod' i m in
    let in-part : q < length cs = (div-lt_iff_lt-mul l.1).1 h in
    let in_rest : r < m = mod-lt i l.1 in
    let turned : turns ns i ≡ q = ap (turns ns) (sym whole) ∙ turns-add ns l.1 q r ∙ ap (q +◌) (turns-small ns r in_rest) ∙ omega arith in
    let digit : turns ns i % length cs ≡ q = ap (λ (x : ℕ). x % length cs) turned ∙ mod-eq_of_lt in-part in
    let others : digits ns i ≡ digits ns r = ap (digits ns) (sym whole) ∙ digits-add ns l.1 q r in
    let place : q * length (tuples css) + r ≡ i = ap (λ (x : ℕ). q * x + r) (tuples-many css) ∙ whole in
    ap (λ (x : ℕ). get_or (concat_of (λ c. map (c ∷◌) (tuples css)) cs) x []) (sym place)
    ∙ block_at (tuples css) cs q r in-part (rw (tuples-many css) in_rest)
    ∙ ap₂ (λ (d : ℕ) (x : List CoverBin). get_or cs d no_cover_bin ∷ x) (sym digit) (tuple_at css r in_rest ∙ ap (pick css) (sym others))

-- ---- the parts of a tuple

pub length_digits : (ns : List ℕ) (i : ℕ) → length (digits ns i) ≡ length ns
unfolding digits
length_digits [] i = refl
length_digits (n ∷ ns) i = ap suc (length_digits ns i)

pick_at : (css : List (List CoverBin)) (ds : List ℕ) (p : ℕ) → p < length css → length ds ≡ length css → get_or (pick css ds) p no_cover_bin ≡ get_or (get_or css p []) (get_or ds p 0) no_cover_bin
unfolding pick
pick_at [] ds p h k = absurd (let z : p < 0 = h in omega arith)
pick_at (cs ∷ css) [] p h k = absurd (omega (arith, let z : 0 ≡ suc (length css) = k in z))
pick_at (cs ∷ css) (d ∷ ds) zero h k = refl
pick_at (cs ∷ css) (d ∷ ds) (suc p) h k = pick_at css ds p (omega arith) (omega arith)

-- the part at a position of tuple i is the bin that the digit there says
pub part_at : (css : List (List CoverBin)) (i p : ℕ) → i < many (map length css) → p < length css
    → get_or (get_or (tuples css) i []) p no_cover_bin ≡ get_or (get_or css p []) (get_or (digits (map length css) i) p 0) no_cover_bin
part_at css i p h k =
    ap (λ (l : List CoverBin). get_or l p no_cover_bin) (tuple_at css i h)
    ∙ pick_at css (digits (map length css) i) p k (length_digits (map length css) i ∙ length-map css length)

-- ---- one digit, by division from the last part on

pub digit_at : (ns : List ℕ) (i p : ℕ) → p < length ns → turns (drop (suc p) ns) i % get_or ns p 0 ≡ get_or (digits ns i) p 0
unfolding digits
digit_at [] i p h = absurd (let z : p < 0 = h in omega arith)
digit_at (n ∷ ns) i zero h = refl
digit_at (n ∷ ns) i (suc p) h = digit_at ns i p (omega arith)

-- each size of parts that have a tuple
pub size_pos : (ns : List ℕ) → 1 ≤ many ns → (p : ℕ) → p < length ns → 1 ≤ get_or ns p 0
unfolding many
size_pos [] h p k = absurd (let z : p < 0 = k in omega arith)
size_pos (n ∷ ns) h zero k = (some_left n (many ns) h).0
size_pos (n ∷ ns) h (suc p) k = size_pos ns (some_left n (many ns) h).1 p (omega arith)

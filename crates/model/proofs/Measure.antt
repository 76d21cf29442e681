-- How many counters of a table are illegal, how many there are within the limits, and how many run words, as sums over its records.
-- Assumes nothing.
use mathlib.Core.Path.{◌≡◌, refl, sym, ap, ap₂, ◌∙◌, fun_ext}
use mathlib.Core.Bool.{Bool, true, false, cond}
use mathlib.Core.List.{List, [], ◌∷◌, ◌++◌, map}
use Prim.Native.Nat.{ℕ, zero, suc, ◌+◌, ◌≤◌, ◌<◌}
use native.Mathlib.Omega.{arith}
use lib.Dec.{leb, eqb}
use lib.ListN.{length, get_or, length-append, length-map}
use borrow.Author.Tests.{leb-true, eqb-true, eqb-false, ne_eqb}
use Rattle.model.specs.Lists.{up_from, all, count, sum_of, concat_of}
use Rattle.model.specs.Table.{Kind, cover, ignore, illegal, default, ValueBin, Step, TransitionBin, CrossBin, Cross, Table, no_cross}
use Rattle.model.specs.Values.{bin_count}
use Rattle.model.specs.Counters.{listed, auto, Counter, value_bin, product, point_at, cross_at, has_auto, auto_count, bin_counters, value_counters, transition_counter, transition_counters, auto_counters, point_counters, products, product_of, product_count, within_limits, cross_bin_counter, cross_bin_counters, cross_counters, counters, is_illegal}
use Rattle.model.specs.Ranges.{transitions_of, counters_at, covers_at, limits_in}
use Rattle.model.specs.Register.{illegal_total, Sequence, bin_sequences, sequences, run_total}
use Rattle.model.specs.Sampling.{run_length}
use Rattle.model.proofs.Booleans.{and_left}
use Rattle.model.proofs.Readers.{All}
use Rattle.model.proofs.RawLaws.{sum-append}
use Rattle.model.proofs.WellFormed.{WellFormed}
use Rattle.model.proofs.Limits.{products-count, all_from, counters_exact, limits_exact, cross_products}

-- ---- sums

pub sum-add : {A : Type 0} (f g : A → ℕ) (xs : List A) → sum_of (λ x. f x + g x) xs ≡ sum_of f xs + sum_of g xs
unfolding sum_of
sum-add f g [] = refl
sum-add f g (x ∷ xs) = omega (arith, sum-add f g xs)

pub sum-zero : {A : Type 0} (xs : List A) → sum_of (λ x. 0) xs ≡ 0
unfolding sum_of
sum-zero [] = refl
sum-zero (x ∷ xs) = omega (arith, sum-zero xs)

sum-shift : (f : ℕ → ℕ) (i n : ℕ) → sum_of f (up_from (suc i) n) ≡ sum_of (λ j. f (suc j)) (up_from i n)
unfolding sum_of up_from
sum-shift f i zero = refl
sum-shift f i (suc n) = ap (f (suc i) +◌) (sum-shift f (suc i) n)

-- over the numbers of some elements
pub sum_numbers : {A : Type 0} (f : A → ℕ) (d : A) (xs : List A) → sum_of (λ i. f (get_or xs i d)) (up_from 0 (length xs)) ≡ sum_of f xs
unfolding sum_of up_from
sum_numbers f d [] = refl
sum_numbers f d (x ∷ xs) = ap (f x +◌) (sum-shift (λ i. f (get_or (x ∷ xs) i d)) 0 (length xs) ∙ sum_numbers f d xs)

pub sum_same : (f g : ℕ → ℕ) (i n : ℕ) → ((j : ℕ) → i ≤ j → j < i + n → f j ≡ g j) → sum_of f (up_from i n) ≡ sum_of g (up_from i n)
unfolding sum_of up_from
sum_same f g i zero h = refl
sum_same f g i (suc n) h = ap₂ ◌+◌ (h i (omega arith) (omega arith)) (sum_same f g (suc i) n (λ j lo hi. h j (omega arith) (omega arith)))

-- each element counts at the one number that is its own
sum_none : (x y i n : ℕ) → x < i → sum_of (λ p. cond (eqb x p) y 0) (up_from i n) ≡ 0
unfolding sum_of up_from
sum_none x y i zero h = refl
sum_none x y i (suc n) h = ap₂ ◌+◌ (ap (λ (b : Bool). cond b y 0) (ne_eqb x i (λ e. omega arith))) (sum_none x y (suc i) n (omega arith))

sum_one : (x y i n : ℕ) → i ≤ x → x < i + n → sum_of (λ p. cond (eqb x p) y 0) (up_from i n) ≡ y
unfolding sum_of up_from
sum_one x y i zero h k = absurd (omega arith)
sum_one x y i (suc n) h k = go (eqb x i) refl (sum_one x y (suc i) n)
  where
    go : (b : Bool) → eqb x i ≡ b → (suc i ≤ x → x < suc i + n → sum_of (λ p. cond (eqb x p) y 0) (up_from (suc i) n) ≡ y)
        → cond b y 0 + sum_of (λ p. cond (eqb x p) y 0) (up_from (suc i) n) ≡ y
    go true e ih = let z : x ≡ i = eqb-true x i e in omega (arith, sum_none x y (suc i) n (omega arith))
    go false e ih = let z : x ≡ i → ⊥ = eqb-false x i e in omega (arith, ih (omega (arith, z)) (omega arith))

pub sum_by-number : {A : Type 0} (at f : A → ℕ) (n : ℕ) (xs : List A) → All (λ x. at x < n) xs → sum_of (λ p. sum_of (λ x. cond (eqb (at x) p) (f x) 0) xs) (up_from 0 n) ≡ sum_of f xs
unfolding sum_of
sum_by-number at f n [] h = sum-zero (up_from 0 n)
sum_by-number at f n (x ∷ xs) h =
    sum-add (λ p. cond (eqb (at x) p) (f x) 0) (λ p. sum_of (λ x. cond (eqb (at x) p) (f x) 0) xs) (up_from 0 n)
    ∙ ap₂ ◌+◌ (sum_one (at x) (f x) 0 n (omega arith) (omega (arith, h.0))) (sum_by-number at f n xs h.1)

-- ---- measures of lists: lengths and counts

module _ {A B : Type 0} (size : List B → ℕ) (nil : size [] ≡ 0) (split : (xs ys : List B) → size (xs ++ ys) ≡ size xs + size ys) where
  pub size_concat : (g : A → List B) (xs : List A) → size (concat_of g xs) ≡ sum_of (λ x. size (g x)) xs
  unfolding concat_of sum_of
  size_concat g [] = nil
  size_concat g (x ∷ xs) = split (g x) (concat_of g xs) ∙ ap (size (g x) +◌) (size_concat g xs)

count-append : {A : Type 0} (f : A → Bool) (xs ys : List A) → count f (xs ++ ys) ≡ count f xs + count f ys
unfolding count
count-append f [] ys = omega arith
count-append f (x ∷ xs) ys = omega (arith, count-append f xs ys)

count_none : {A B : Type 0} (f : B → Bool) (g : A → B) → ((x : A) → f (g x) ≡ false) → (xs : List A) → count f (map g xs) ≡ 0
unfolding count
count_none f g h [] = refl
count_none f g h (x ∷ xs) = ap₂ ◌+◌ (ap (λ (b : Bool). cond b 1 0) (h x)) (count_none f g h xs)

-- ---- illegal counters

abbrev pub illegals_of : Kind → ℕ
illegals_of cover = 0
illegals_of ignore = 0
illegals_of illegal = 1
illegals_of default = 0

bin-illegals : (b : ℕ) (k : Kind) (n : ℕ) → count is_illegal (bin_counters b k n) ≡ illegals_of k
unfolding count
bin-illegals b cover n = count_none is_illegal (λ k. value_bin (listed b k)) (λ k. refl) (up_from 0 n)
bin-illegals b ignore n = refl
bin-illegals b illegal n = refl
bin-illegals b default n = refl

values-illegals : (t : Table) (p b : ℕ) (vs : List ValueBin) → count is_illegal (value_counters t p b vs) ≡ sum_of (λ v. cond (eqb v.point p) (illegals_of v.kind) 0) vs
unfolding value_counters sum_of
values-illegals t p b [] = unfold count in refl
values-illegals t p b (v ∷ vs) =
    count-append is_illegal (cond (eqb v.point p) (bin_counters b v.kind (bin_count (point_at t p) v.form v.ranges)) []) (value_counters t p (suc b) vs)
    ∙ ap₂ ◌+◌ (go (eqb v.point p)) (values-illegals t p (suc b) vs)
  where
    go : (c : Bool) → count is_illegal (cond c (bin_counters b v.kind (bin_count (point_at t p) v.form v.ranges)) []) ≡ cond c (illegals_of v.kind) 0
    go true = bin-illegals b v.kind (bin_count (point_at t p) v.form v.ranges)
    go false = unfold count in refl

auto-illegals : (t : Table) (p : ℕ) → count is_illegal (auto_counters t p) ≡ 0
auto-illegals t p = go (has_auto t p)
  where
    go : (c : Bool) → count is_illegal (cond c (map (λ k. value_bin (auto p k)) (up_from 0 (auto_count (point_at t p)))) []) ≡ 0
    go true = count_none is_illegal (λ k. value_bin (auto p k)) (λ k. refl) (up_from 0 (auto_count (point_at t p)))
    go false = unfold count in refl

transitions-illegals : (p b : ℕ) (vs : List TransitionBin) → count is_illegal (transition_counters p b vs) ≡ sum_of (λ v. cond (eqb v.point p) (illegals_of v.kind) 0) vs
unfolding transition_counters sum_of
transitions-illegals p b [] = unfold count in refl
transitions-illegals p b (v ∷ vs) =
    count-append is_illegal (cond (eqb v.point p) (transition_counter b v.kind) []) (transition_counters p (suc b) vs)
    ∙ ap₂ ◌+◌ (go (eqb v.point p) v.kind) (transitions-illegals p (suc b) vs)
  where
    go : (c : Bool) (k : Kind) → count is_illegal (cond c (transition_counter b k) []) ≡ cond c (illegals_of k) 0
    go false k = unfold count in refl
    go true cover = unfold count in refl
    go true ignore = unfold count in refl
    go true illegal = unfold count in refl
    go true default = unfold count in refl

point-illegals : (t : Table) (p : ℕ)
    → count is_illegal (point_counters t p)
    ≡ sum_of (λ v. cond (eqb v.point p) (illegals_of v.kind) 0) t.value_bins + sum_of (λ v. cond (eqb v.point p) (illegals_of v.kind) 0) t.transition_bins
unfolding point_counters
point-illegals t p =
    count-append is_illegal (vs ++ auto_counters t p) ts
    ∙ ap₂ ◌+◌ (count-append is_illegal vs (auto_counters t p) ∙ ap₂ ◌+◌ (values-illegals t p 0 t.value_bins) (auto-illegals t p)) (transitions-illegals p 0 t.transition_bins)
    ∙ (let z : a + 0 + b ≡ a + b = omega arith in z)
  where
    vs : List Counter
    vs = value_counters t p 0 t.value_bins

    ts : List Counter
    ts = transition_counters p 0 t.transition_bins

    a : ℕ
    a = sum_of (λ v. cond (eqb v.point p) (illegals_of v.kind) 0) t.value_bins

    b : ℕ
    b = sum_of (λ v. cond (eqb v.point p) (illegals_of v.kind) 0) t.transition_bins

-- what a cross's bins add, by one of two functions of their kinds
abbrev pub cross_sum : (Kind → ℕ) → Cross → ℕ
cross_sum f c = sum_of (λ b. f b.kind) c.bins

cross-bins-illegals : (c i : ℕ) (bs : List CrossBin) → count is_illegal (cross_bin_counters c i bs) ≡ sum_of (λ b. illegals_of b.kind) bs
unfolding cross_bin_counters sum_of
cross-bins-illegals c i [] = unfold count in refl
cross-bins-illegals c i (b ∷ bs) =
    count-append is_illegal (cross_bin_counter c i b.kind) (cross_bin_counters c (suc i) bs) ∙ ap₂ ◌+◌ (go b.kind) (cross-bins-illegals c (suc i) bs)
  where
    go : (k : Kind) → count is_illegal (cross_bin_counter c i k) ≡ illegals_of k
    go cover = unfold count in refl
    go ignore = unfold count in refl
    go illegal = unfold count in refl
    go default = unfold count in refl

cross-illegals : (t : Table) (c : ℕ) → count is_illegal (cross_counters t c) ≡ cross_sum illegals_of (cross_at t c)
unfolding cross_counters
cross-illegals t c =
    count-append is_illegal (cross_bin_counters c 0 (cross_at t c).bins) (map (product c) (products t c))
    ∙ ap₂ ◌+◌ (cross-bins-illegals c 0 (cross_at t c).bins) (count_none is_illegal (product c) (λ x. refl) (products t c))
    ∙ (let z : cross_sum illegals_of (cross_at t c) + 0 ≡ cross_sum illegals_of (cross_at t c) = omega arith in z)

-- The illegal counters are as many as the illegal records, where every bin is a point's.
pub illegal-total : (t : Table) → All (λ v. v.point < length t.points) t.value_bins → All (λ v. v.point < length t.points) t.transition_bins
    → illegal_total t
    ≡ sum_of (λ v. illegals_of v.kind) t.value_bins + sum_of (λ v. illegals_of v.kind) t.transition_bins + sum_of (cross_sum illegals_of) t.crosses
unfolding illegal_total counters
illegal-total t h k =
    count-append is_illegal (concat_of (point_counters t) (up_from 0 (length t.points))) (concat_of (cross_counters t) (up_from 0 (length t.crosses)))
    ∙ ap₂ ◌+◌
    (size_concat (count is_illegal) (unfold count in refl) (count-append is_illegal) (point_counters t) (up_from 0 (length t.points))
    ∙ ap (λ (f : ℕ → ℕ). sum_of f (up_from 0 (length t.points))) (fun_ext (point-illegals t))
    ∙ sum-add (λ p. sum_of (λ v. cond (eqb v.point p) (illegals_of v.kind) 0) t.value_bins) (λ p. sum_of (λ v. cond (eqb v.point p) (illegals_of v.kind) 0) t.transition_bins) (up_from 0 (length t.points))
    ∙ ap₂ ◌+◌ (sum_by-number (λ v. v.point) (λ v. illegals_of v.kind) (length t.points) t.value_bins h) (sum_by-number (λ v. v.point) (λ v. illegals_of v.kind) (length t.points) t.transition_bins k))
    (size_concat (count is_illegal) (unfold count in refl) (count-append is_illegal) (cross_counters t) (up_from 0 (length t.crosses))
    ∙ ap (λ (f : ℕ → ℕ). sum_of f (up_from 0 (length t.crosses))) (fun_ext (cross-illegals t))
    ∙ sum_numbers (cross_sum illegals_of) no_cross t.crosses)

-- ---- run words

abbrev runs_of : Sequence → ℕ
runs_of q = run_length q.steps

runs_mapped : (p : ℕ) (sss : List (List Step)) → sum_of runs_of (map (λ ss. record { point = p; steps = ss }) sss) ≡ sum_of run_length sss
unfolding sum_of
runs_mapped p [] = refl
runs_mapped p (ss ∷ sss) = ap (run_length ss +◌) (runs_mapped p sss)

-- The run words are as many as the mosts of all steps together.
pub run-total : (t : Table) → run_total t ≡ sum_of (λ b. sum_of run_length b.sequences) t.transition_bins
unfolding sequences
run-total t =
    size_concat (sum_of runs_of) (unfold sum_of in refl) (sum-append runs_of) bin_sequences t.transition_bins
    ∙ ap (λ (f : TransitionBin → ℕ). sum_of f t.transition_bins) (fun_ext λ b. runs_mapped b.point b.sequences)

-- ---- all counters

cross-bins-length : (c i : ℕ) (bs : List CrossBin) → length (cross_bin_counters c i bs) ≡ sum_of (λ b. transitions_of b.kind) bs
unfolding cross_bin_counters sum_of
cross-bins-length c i [] = refl
cross-bins-length c i (b ∷ bs) =
    length-append (cross_bin_counter c i b.kind) (cross_bin_counters c (suc i) bs) ∙ ap₂ ◌+◌ (go b.kind) (cross-bins-length c (suc i) bs)
  where
    go : (k : Kind) → length (cross_bin_counter c i k) ≡ transitions_of k
    go cover = refl
    go ignore = refl
    go illegal = refl
    go default = refl

pub cross-length : (t : Table) (c : ℕ) → length (cross_counters t c) ≡ cross_sum transitions_of (cross_at t c) + product_count t c
unfolding cross_counters
cross-length t c =
    length-append (cross_bin_counters c 0 (cross_at t c).bins) (map (product c) (products t c))
    ∙ ap₂ ◌+◌ (cross-bins-length c 0 (cross_at t c).bins) (length-map (products t c) (product c) ∙ products-count t c)

-- what a cross adds
abbrev cross_term : Table → Cross → ℕ
cross_term t c = cross_sum transitions_of c + product_of (covers_at t) c.points

module _ (t : Table) (w : WellFormed t) (within : within_limits t ≡ true) where
  pub few_counters : (p : ℕ) → p < length t.points → leb (counters_at t p) 256 ≡ true
  unfolding limits_in
  few_counters p h =
      all_from (λ p. leb (counters_at t p) 256) 0 (length t.points)
      (and_left _ (all (λ c. leb (product_of (covers_at t) (cross_at t c).points) 1024) (up_from 0 (length t.crosses))) (sym (limits_exact t w) ∙ within)) p (omega arith) (omega arith)

  point_length : (p : ℕ) → p < length t.points → length (point_counters t p) ≡ counters_at t p
  point_length p h = sym ((counters_exact t w p).same (leb-true (counters_at t p) 256 (few_counters p h)))

  -- Within the limits the counters are as many as the closed forms say.
  pub counter_total : length (counters t)
      ≡ sum_of (counters_at t) (up_from 0 (length t.points)) + (sum_of (cross_sum transitions_of) t.crosses + sum_of (λ c. product_of (covers_at t) c.points) t.crosses)
  unfolding counters
  counter_total =
      length-append (concat_of (point_counters t) (up_from 0 (length t.points))) (concat_of (cross_counters t) (up_from 0 (length t.crosses)))
      ∙ ap₂ ◌+◌
      (size_concat length refl length-append (point_counters t) (up_from 0 (length t.points))
      ∙ sum_same (λ p. length (point_counters t p)) (counters_at t) 0 (length t.points) (λ p lo hi. point_length p (omega arith)))
      (size_concat length refl length-append (cross_counters t) (up_from 0 (length t.crosses))
      ∙ ap (λ (f : ℕ → ℕ). sum_of f (up_from 0 (length t.crosses))) (fun_ext λ c. cross-length t c ∙ ap (cross_sum transitions_of (cross_at t c) +◌) (cross_products t w few_counters c))
      ∙ sum_numbers (cross_term t) no_cross t.crosses
      ∙ sum-add (cross_sum transitions_of) (λ c. product_of (covers_at t) c.points) t.crosses)

-- Spans in order and joined: the words that `settle` leaves are `settled_words`, and as ranges they hold the same values.
-- Assumes nothing.
use mathlib.Core.Path.{◌≡◌, refl, sym, ap, ap₂, ◌∙◌}
use mathlib.Core.Bool.{Bool, true, false, not, ◌&&◌, ◌||◌, cond}
use mathlib.Core.List.{List, [], ◌∷◌, map}
use Prim.Native.Nat.{ℕ, suc, ◌+◌, ◌-◌, ◌*◌, ◌≤◌, ◌<◌}
use native.Mathlib.Omega.{arith}
use lib.Dec.{leb, ltb}
use lib.ListN.{length, get_or, drop, length-map, drop_of_length-le}
use lib.Pow.{pow_mono}
use borrow.Author.Tests.{leb-true, leb-false, le-leb, lt-leb}
use Rattle.model.specs.Lists.{any, all, sum_of}
use Rattle.model.specs.Table.{Point, Range, span, pattern}
use Rattle.model.specs.Values.{lowest, highest, in_range, in_ranges}
use Rattle.model.specs.Ranges.{size, sizes}
use Rattle.model.proofs.Readers.{All}
use Rattle.model.proofs.Booleans.{and_left, and_right, false-true, bool_eq, or_right}
use Rattle.model.proofs.Exact.{SpanOf}
use Rattle.spans.specs.Spans.{low_end, high_end, held, held_by, rises_from, rising as rising_words, join_all, sound, apart_from, apart, Settled}
use Rattle.spans.specs.Collected.{fits_from, words_from}
use Rattle.spans.proofs.Ends.{both, all_any, high_small, is_held, not-below, not-above}
use Rattle.spans.proofs.JoinLaws.{join_settles, fewer}
use Rattle.spans.proofs.CollectLaws.{words-sound, words-held, length-words}
use Rattle.model.proofs.Lists.{head_tail}
use Rattle.arrays.specs.Put.{put}
use Rattle.arrays.proofs.PutLaws.{put-nil, put_next}
use Rattle.parts.specs.Words.{row_words, bin_words}
use Rattle.parts.specs.Rows.{inserted, in_order, settled_words, span_from, span_size, settled_ranges, rising}

-- ---- in order

module _ (f : ℕ → Bool) where
  swap : (a b c : Bool) → (b || (a || c)) ≡ (a || (b || c))
  swap true true c = refl
  swap true false c = refl
  swap false b c = refl

  any_inserted : (x : ℕ) (ys : List ℕ) → any f (inserted x ys) ≡ (f x || any f ys)
  unfolding any inserted
  any_inserted x [] = refl
  any_inserted x (y ∷ ys) = go (leb x y) (any_inserted x ys)
    where
      go : (b : Bool) → any f (inserted x ys) ≡ (f x || any f ys) → any f (cond b (x ∷ y ∷ ys) (y ∷ inserted x ys)) ≡ (f x || (f y || any f ys))
      go true e = refl
      go false e = ap (f y ||◌) e ∙ swap (f x) (f y) (any f ys)

  any_order : (xs : List ℕ) → any f (in_order xs) ≡ any f xs
  unfolding any in_order
  any_order [] = refl
  any_order (x ∷ xs) = any_inserted x (in_order xs) ∙ ap (f x ||◌) (any_order xs)

rises-inserted : (b x : ℕ) (ys : List ℕ) → b ≤ x → rises_from b ys ≡ true → rises_from b (inserted x ys) ≡ true
unfolding rises_from inserted
rises-inserted b x [] h e = both (leb b x) true (le-leb b x h) refl
rises-inserted b x (y ∷ ys) h e = go (leb x y) refl (λ k. rises-inserted y x ys k (and_right (leb b y) (rises_from y ys) e))
  where
    go : (c : Bool) → leb x y ≡ c → (y ≤ x → rises_from y (inserted x ys) ≡ true) → rises_from b (cond c (x ∷ y ∷ ys) (y ∷ inserted x ys)) ≡ true
    go true k next = both (leb b x) (leb x y && rises_from y ys) (le-leb b x h) (both (leb x y) (rises_from y ys) k (and_right (leb b y) (rises_from y ys) e))
    go false k next = both (leb b y) (rises_from y (inserted x ys)) (and_left (leb b y) (rises_from y ys) e) (next (omega (arith, leb-false x y k)))

rises-order : (xs : List ℕ) → rises_from 0 (in_order xs) ≡ true
unfolding in_order rises_from
rises-order [] = refl
rises-order (x ∷ xs) = rises-inserted 0 x (in_order xs) (omega arith) (rises-order xs)

length_inserted : (x : ℕ) (ys : List ℕ) → length (inserted x ys) ≡ suc (length ys)
unfolding inserted
length_inserted x [] = refl
length_inserted x (y ∷ ys) = go (leb x y) (length_inserted x ys)
  where
    go : (b : Bool) → length (inserted x ys) ≡ suc (length ys) → length (cond b (x ∷ y ∷ ys) (y ∷ inserted x ys)) ≡ suc (suc (length ys))
    go true e = refl
    go false e = ap suc e

length-order : (xs : List ℕ) → length (in_order xs) ≡ length xs
unfolding in_order
length-order [] = refl
length-order (x ∷ xs) = length_inserted x (in_order xs) ∙ ap suc (length-order xs)

-- ---- joined

settles : (ws : List ℕ) → all sound ws ≡ true → Settled ws (join_all (in_order ws))
unfolding rising_words held_by
settles ws h =
    let ok : all sound (in_order ws) ≡ true = all_any sound (in_order ws) ∙ ap not (any_order (λ w. not (sound w)) ws) ∙ sym (all_any sound ws) ∙ h in
    let j = join_settles (in_order ws) (rises-order ws) ok in
    record { gaps = j.gaps; same = λ x. j.same x ∙ any_order (held x) ws }

apart-first : (b w : ℕ) (ws : List ℕ) → apart_from b (w ∷ ws) ≡ true → (b ≤ low_end w) × (low_end w ≤ high_end w) × (apart_from (high_end w + 2) ws ≡ true)
unfolding apart_from
apart-first b w ws e =
    let h = and_left (leb b (low_end w) && sound w) (apart_from (high_end w + 2) ws) e in
    (leb-true b (low_end w) (and_left (leb b (low_end w)) (sound w) h), leb-true (low_end w) (high_end w) (and_right (leb b (low_end w)) (sound w) h), and_right (leb b (low_end w) && sound w) (apart_from (high_end w + 2) ws) e)

none_below : (b : ℕ) (ws : List ℕ) → apart_from b ws ≡ true → (x : ℕ) → x < b → held_by ws x ≡ false
unfolding held_by any
none_below b [] e x h = refl
none_below b (w ∷ ws) e x h =
    let a = apart-first b w ws e in
    ap₂ ◌||◌ (not-below w x (omega arith)) (none_below (high_end w + 2) ws a.2 x (omega arith))

first-held : (b w : ℕ) (ws : List ℕ) → apart_from b (w ∷ ws) ≡ true → (x : ℕ) → low_end w ≤ x → x ≤ high_end w → held_by (w ∷ ws) x ≡ true
unfolding held_by any
first-held b w ws e x l h = ap (◌|| any (held x) ws) (is_held w x l h)

-- past the first span, what holds is among the others
rest-held : (w : ℕ) (ws : List ℕ) (x : ℕ) → high_end w < x → held_by (w ∷ ws) x ≡ held_by ws x
unfolding held_by any
rest-held w ws x h = ap (◌|| any (held x) ws) (not-above w x h)

contra : {A : Type 0} (x : Bool) → x ≡ true → x ≡ false → A
contra x p q = absurd (false-true (sym q ∙ p))

low_first : (b w v : ℕ) (ws vs : List ℕ) → apart_from b (w ∷ ws) ≡ true → apart_from b (v ∷ vs) ≡ true → ((x : ℕ) → held_by (w ∷ ws) x ≡ held_by (v ∷ vs) x) → low_end v ≤ low_end w
low_first b w v ws vs e f same = go (leb (low_end v) (low_end w)) refl
  where
    go : (c : Bool) → leb (low_end v) (low_end w) ≡ c → low_end v ≤ low_end w
    go true k = leb-true (low_end v) (low_end w) k
    go false k =
        let a = apart-first b w ws e in
        let d = apart-first b v vs f in
        let less = leb-false (low_end v) (low_end w) k in
        let up : apart_from (low_end v) (v ∷ vs) ≡ true = unfold apart_from in (both (leb (low_end v) (low_end v) && sound v) (apart_from (high_end v + 2) vs) (both (leb (low_end v) (low_end v)) (sound v) (le-leb (low_end v) (low_end v) (omega arith)) (le-leb (low_end v) (high_end v) d.1)) d.2) in
        contra (held_by (v ∷ vs) (low_end w)) (sym (same (low_end w)) ∙ first-held b w ws e (low_end w) (omega arith) a.1) (none_below (low_end v) (v ∷ vs) up (low_end w) (omega arith))

high-first : (b w v : ℕ) (ws vs : List ℕ) → apart_from b (w ∷ ws) ≡ true → apart_from b (v ∷ vs) ≡ true → ((x : ℕ) → held_by (w ∷ ws) x ≡ held_by (v ∷ vs) x) → low_end w ≡ low_end v → high_end v ≤ high_end w
high-first b w v ws vs e f same z = go (leb (high_end v) (high_end w)) refl
  where
    go : (c : Bool) → leb (high_end v) (high_end w) ≡ c → high_end v ≤ high_end w
    go true k = leb-true (high_end v) (high_end w) k
    go false k =
        let a = apart-first b w ws e in
        let less = leb-false (high_end v) (high_end w) k in
        let x = high_end w + 1 in
        contra (held_by (v ∷ vs) x) (first-held b v vs f x (omega arith) (omega arith)) (sym (same x) ∙ rest-held w ws x (omega arith) ∙ none_below (high_end w + 2) ws a.2 x (omega arith))

same_word : (w v : ℕ) → low_end w ≡ low_end v → high_end w ≡ high_end v → w ≡ v
unfolding low_end high_end
same_word w v l h = omega arith

-- Spans that are apart and hold the same are the same.
apart_unique : (b : ℕ) (ws vs : List ℕ) → apart_from b ws ≡ true → apart_from b vs ≡ true → ((x : ℕ) → held_by ws x ≡ held_by vs x) → ws ≡ vs
apart_unique b [] [] e f same = refl
apart_unique b [] (v ∷ vs) e f same = let d = apart-first b v vs f in contra (held_by (v ∷ vs) (low_end v)) (first-held b v vs f (low_end v) (omega arith) d.1) (sym (same (low_end v)) ∙ (unfold held_by any in refl))
apart_unique b (w ∷ ws) [] e f same = let d = apart-first b w ws e in contra (held_by (w ∷ ws) (low_end w)) (first-held b w ws e (low_end w) (omega arith) d.1) (same (low_end w) ∙ (unfold held_by any in refl))
apart_unique b (w ∷ ws) (v ∷ vs) e f same =
    let l : low_end w ≡ low_end v = omega (arith, low_first b w v ws vs e f same, low_first b v w vs ws f e (λ x. sym (same x))) in
    let h : high_end w ≡ high_end v = omega (arith, high-first b w v ws vs e f same l, high-first b v w vs ws f e (λ x. sym (same x)) (sym l)) in
    let a = apart-first b w ws e in
    let d : apart_from (high_end w + 2) vs ≡ true = ap (λ (y : ℕ). apart_from (y + 2) vs) h ∙ (apart-first b v vs f).2 in
    ap₂ ◌∷◌ (same_word w v l h) (apart_unique (high_end w + 2) ws vs a.2 d (λ x. tail x (ltb (high_end w + 1) x) refl h a.2 d))
  where
    tail : (x : ℕ) (c : Bool) → ltb (high_end w + 1) x ≡ c → high_end w ≡ high_end v → apart_from (high_end w + 2) ws ≡ true → apart_from (high_end w + 2) vs ≡ true → held_by ws x ≡ held_by vs x
    tail x c k h p q = split (leb x (high_end w)) refl
      where
        split : (s : Bool) → leb x (high_end w) ≡ s → held_by ws x ≡ held_by vs x
        split true y = none_below (high_end w + 2) ws p x (omega (arith, leb-true x (high_end w) y)) ∙ sym (none_below (high_end w + 2) vs q x (omega (arith, leb-true x (high_end w) y)))
        split false y = let less = leb-false x (high_end w) y in sym (rest-held w ws x (omega arith)) ∙ same x ∙ rest-held v vs x (omega arith)

-- ---- the spans of a bin

module _ (low : ℕ) (rs : List Range) (fit : all (fits_from low) rs ≡ true) where
  settled : Settled (words_from low rs) (settled_words low rs)
  unfolding settled_words
  settled = settles (words_from low rs) (words-sound low rs fit)

  pub settle_is : (ys : List ℕ) → Settled (words_from low rs) ys → ys ≡ settled_words low rs
  unfolding apart
  settle_is ys h = apart_unique 0 ys (settled_words low rs) h.gaps settled.gaps (λ x. h.same x ∙ sym (settled.same x))

pub settled_fewer : (low : ℕ) (rs : List Range) → length (settled_ranges low rs) ≤ length rs
unfolding settled_ranges settled_words
settled_fewer low rs = omega (arith, length-map (join_all (in_order (words_from low rs))) (span_from low), fewer (in_order (words_from low rs)), length-order (words_from low rs), length-words low rs)

-- ---- the same as ranges

same_leb : (a b c d : ℕ) → (a ≤ b → c ≤ d) → (c ≤ d → a ≤ b) → leb a b ≡ leb c d
same_leb a b c d f g = bool_eq (leb a b) (leb c d) (λ e. le-leb c d (f (leb-true a b e))) (λ e. le-leb a b (g (leb-true c d e)))

held-range : (low v : ℕ) → low ≤ v → (ws : List ℕ) → in_ranges (map (span_from low) ws) v ≡ held_by ws (v - low)
unfolding held_by any in_ranges
held-range low v h [] = refl
held-range low v h (w ∷ ws) =
    ap₂ ◌||◌ (ap₂ ◌&&◌ (same_leb (low + low_end w) v (low_end w) (v - low) (λ k. omega arith) (λ k. omega arith)) (same_leb v (low + high_end w) (v - low) (high_end w) (λ k. omega arith) (λ k. omega arith)))
    (held-range low v h ws)

under-spans : (low v : ℕ) → v < low → (ws : List ℕ) → in_ranges (map (span_from low) ws) v ≡ false
unfolding in_ranges
under-spans low v h [] = refl
under-spans low v h (w ∷ ws) = ap₂ ◌||◌ (ap (◌&& leb v (low + high_end w)) (lt-leb (low + low_end w) v (omega arith))) (under-spans low v h ws)

under-ranges : (low v : ℕ) → v < low → (rs : List Range) → all (fits_from low) rs ≡ true → in_ranges rs v ≡ false
unfolding in_ranges all
under-ranges low v h [] e = refl
under-ranges low v h (pattern bits mask ∷ rs) e = absurd (false-true e)
under-ranges low v h (span lo hi ∷ rs) e =
    let f = and_left (leb low lo && leb lo hi) (leb hi (low + 4294967295)) (and_left (fits_from low (span lo hi)) (all (fits_from low) rs) e) in
    ap₂ ◌||◌ (ap (◌&& leb v hi) (lt-leb lo v (omega (arith, leb-true low lo (and_left (leb low lo) (leb lo hi) f))))) (under-ranges low v h rs (and_right (fits_from low (span lo hi)) (all (fits_from low) rs) e))

rises-apart : (low x b : ℕ) (ws : List ℕ) → x ≤ low + b → apart_from b ws ≡ true → rising x (map (span_from low) ws) ≡ true
unfolding rising
rises-apart low x b [] h e = refl
rises-apart low x b (w ∷ ws) h e =
    let a = apart-first b w ws e in
    both (leb x (low + low_end w) && leb (low + low_end w) (low + high_end w)) (rising (suc (low + high_end w)) (map (span_from low) ws))
    (both (leb x (low + low_end w)) (leb (low + low_end w) (low + high_end w)) (le-leb x (low + low_end w) (omega arith)) (le-leb (low + low_end w) (low + high_end w) (omega arith)))
    (rises-apart low (suc (low + high_end w)) (high_end w + 2) ws (omega arith) a.2)

pub sizes-spans : (low : ℕ) (ws : List ℕ) → sizes (map (span_from low) ws) ≡ sum_of span_size ws
unfolding sizes sum_of
sizes-spans low [] = refl
sizes-spans low (w ∷ ws) = ap₂ ◌+◌ (let z : suc (low + high_end w) - (low + low_end w) ≡ high_end w + 1 - low_end w = omega arith in z) (sizes-spans low ws)

light-apart : (b : ℕ) (ws : List ℕ) → b ≤ 4294967297 → apart_from b ws ≡ true → sum_of span_size ws + b ≤ 4294967297
unfolding sum_of
light-apart b [] h e = omega arith
light-apart b (w ∷ ws) h e =
    let a = apart-first b w ws e in
    omega (arith, high_small w, light-apart (high_end w + 2) ws (omega (arith, high_small w)) a.2)

sound-apart : (b : ℕ) (ws : List ℕ) → apart_from b ws ≡ true → all sound ws ≡ true
unfolding all
sound-apart b [] e = refl
sound-apart b (w ∷ ws) e = let a = apart-first b w ws e in both (sound w) (all sound ws) (le-leb (low_end w) (high_end w) a.1) (sound-apart (high_end w + 2) ws a.2)

some-apart : (low b v : ℕ) (ws : List ℕ) → apart_from b ws ≡ true → in_ranges (map (span_from low) ws) v ≡ true → 1 ≤ sizes (map (span_from low) ws)
unfolding in_ranges sizes sum_of
some-apart low b v [] e h = absurd (false-true h)
some-apart low b v (w ∷ ws) e h = let a = apart-first b w ws e in omega arith

module _ (low : ℕ) (rs : List Range) (fit : all (fits_from low) rs ≡ true) where
  gaps : apart_from 0 (settled_words low rs) ≡ true
  unfolding apart
  gaps = (settled low rs fit).gaps

  pub settled_sound : all sound (settled_words low rs) ≡ true
  settled_sound = sound-apart 0 (settled_words low rs) gaps

  pub settled_light : sum_of span_size (settled_words low rs) ≤ 4294967297
  settled_light = omega (arith, light-apart 0 (settled_words low rs) (omega arith) gaps)

  pub settled_same : (v : ℕ) → in_ranges rs v ≡ in_ranges (settled_ranges low rs) v
  unfolding settled_ranges
  settled_same v = go (leb low v) refl
    where
      go : (c : Bool) → leb low v ≡ c → in_ranges rs v ≡ in_ranges (map (span_from low) (settled_words low rs)) v
      go true k =
          let h = leb-true low v k in
          sym (words-held low rs v fit h) ∙ sym ((settled low rs fit).same (v - low)) ∙ sym (held-range low v h (settled_words low rs))
      go false k = under-ranges low v (leb-false low v k) rs fit ∙ sym (under-spans low v (leb-false low v k) (settled_words low rs))

  pub settled_rises : rising 0 (settled_ranges low rs) ≡ true
  unfolding settled_ranges
  settled_rises = rises-apart low 0 0 (settled_words low rs) (omega arith) gaps

  pub settled_some : 1 ≤ length rs → 1 ≤ sizes (settled_ranges low rs)
  unfolding settled_ranges
  settled_some h = let v = first rs fit h in some-apart low 0 v.0 (settled_words low rs) gaps (sym (settled_same v.0) ∙ v.1)
    where
      first : (qs : List Range) → all (fits_from low) qs ≡ true → 1 ≤ length qs → (v : ℕ) × (in_ranges qs v ≡ true)
      first [] e k = absurd (omega arith)
      first (pattern bits mask ∷ qs) e k = absurd (unfold all in (false-true e))
      first (span lo hi ∷ qs) e k = (
        lo,
        unfold in_ranges all in (
            let f = and_left (leb low lo && leb lo hi) (leb hi (low + 4294967295)) (and_left (fits_from low (span lo hi)) (all (fits_from low) qs) e) in
            ap (◌|| in_ranges qs lo) (both (leb lo lo) (leb lo hi) (le-leb lo lo (omega arith)) (and_right (leb low lo) (leb lo hi) f))),
      )

-- ---- of a point's type

pub spans_fit : (q : Point) → q.width ≤ 32 → (rs : List Range) → All (SpanOf q) rs → all (fits_from (lowest q)) rs ≡ true
unfolding all
spans_fit q w [] h = refl
spans_fit q w (pattern bits mask ∷ rs) h = absurd h.0
spans_fit q w (span lo hi ∷ rs) h =
    let low = lowest q in
    both (fits_from low (span lo hi)) (all (fits_from low) rs)
    (both (leb low lo && leb lo hi) (leb hi (low + 4294967295)) (both (leb low lo) (leb lo hi) (le-leb low lo h.0.0) (le-leb lo hi h.0.1))
    (le-leb hi (low + 4294967295) (omega (arith, h.0.2, pow_mono {i = q.width} {j = 32} w))))
    (spans_fit q w rs h.1)

in_top : (q : Point) (rs : List Range) → All (SpanOf q) rs → (v : ℕ) → in_ranges rs v ≡ true → v ≤ highest q
unfolding in_ranges
in_top q [] h v e = absurd (false-true e)
in_top q (pattern bits mask ∷ rs) h v e = absurd h.0
in_top q (span lo hi ∷ rs) h v e = go (in_range (span lo hi) v) refl e (in_top q rs h.1 v)
  where
    go : (c : Bool) → in_range (span lo hi) v ≡ c → (c || in_ranges rs v) ≡ true → (in_ranges rs v ≡ true → v ≤ highest q) → v ≤ highest q
    go true k e next = omega (arith, h.0.2, leb-true v hi (and_right (leb lo v) (leb v hi) k))
    go false k e next = next e

typed-apart : (q : Point) (b : ℕ) (ws : List ℕ) → apart_from b ws ≡ true → ((x : ℕ) → held_by ws x ≡ true → lowest q + x ≤ highest q) → All (SpanOf q) (map (span_from (lowest q)) ws)
typed-apart q b [] e top = tt
typed-apart q b (w ∷ ws) e top =
    let a = apart-first b w ws e in
    ((omega arith, omega arith, top (high_end w) (first-held b w ws e (high_end w) a.1 (omega arith))), typed-apart q (high_end w + 2) ws a.2 (λ x k. top x (unfold held_by any in (or_right (held x w) (held_by ws x) k))))

pub settled_spans : (q : Point) → q.width ≤ 32 → (rs : List Range) → All (SpanOf q) rs → All (SpanOf q) (settled_ranges (lowest q) rs)
unfolding settled_ranges
settled_spans q w rs h =
    let fit = spans_fit q w rs h in
    typed-apart q 0 (settled_words (lowest q) rs) (gaps (lowest q) rs fit) (λ x k. in_top q rs h (lowest q + x)
    (sym (words-held (lowest q) rs (lowest q + x) fit (omega arith)) ∙ ap (held_by (words_from (lowest q) rs)) (let z : lowest q + x - lowest q ≡ x = omega arith in z) ∙ sym ((settled (lowest q) rs fit).same x) ∙ k))

-- ---- span after span

module _ (spans : List ℕ) (i : ℕ) where
  module _ (h : i < length spans) where
    pub sum-turn : (z : ℕ) → z ≡ span_size (get_or spans i 0) → sum_of span_size (drop i spans) ≡ z + sum_of span_size (drop (i + 1) spans)
    unfolding sum_of
    sum-turn z e = ap (sum_of span_size) (head_tail spans i 0 h) ∙ ap (◌+ sum_of span_size (drop (i + 1) spans)) (sym e)

    sound-step : all sound (drop i spans) ≡ true → (sound (get_or spans i 0) && all sound (drop (i + 1) spans)) ≡ true
    unfolding all
    sound-step e = ap (all sound) (sym (head_tail spans i 0 h)) ∙ e

    pub sound-first : all sound (drop i spans) ≡ true → sound (get_or spans i 0) ≡ true
    sound-first e = and_left (sound (get_or spans i 0)) (all sound (drop (i + 1) spans)) (sound-step e)

    pub sound-rest : all sound (drop i spans) ≡ true → all sound (drop (i + 1) spans) ≡ true
    sound-rest e = and_right (sound (get_or spans i 0)) (all sound (drop (i + 1) spans)) (sound-step e)

    pub spans-turn : (c low first last share before z : ℕ) (l l' : List ℕ) → z ≡ span_size (get_or spans i 0) → c + 7 * length spans ≤ length l → l' ≡ put (c + 7 * i) (row_words first last share before (span_from low (get_or spans i 0))) l
        → put (c + 7 * (i + 1)) (bin_words first last share (before + z) (map (span_from low) (drop (i + 1) spans))) l' ≡ put (c + 7 * i) (bin_words first last share before (map (span_from low) (drop i spans))) l
    unfolding bin_words
    spans-turn c low first last share before z l l' ez room e =
        ap₂ (λ (a b : ℕ). put a (bin_words first last share (before + b) rs) l') (let y : c + 7 * (i + 1) ≡ c + 7 * i + 7 = omega arith in y) (ez ∙ (let y : high_end (get_or spans i 0) + 1 - low_end (get_or spans i 0) ≡ size q = omega arith in y))
        ∙ ap (put (c + 7 * i + 7) (bin_words first last share (before + size q) rs)) e
        ∙ put_next (c + 7 * i) 7 (row_words first last share before q) (bin_words first last share (before + size q) rs) l refl (omega arith)
        ∙ ap (λ (x : List ℕ). put (c + 7 * i) (bin_words first last share before (map (span_from low) x)) l) (sym (head_tail spans i 0 h))
      where
        q : Range
        q = span_from low (get_or spans i 0)

        rs : List Range
        rs = map (span_from low) (drop (i + 1) spans)

  pub spans_end : (c low first last share before : ℕ) (l : List ℕ) → length spans ≤ i → put (c + 7 * i) (bin_words first last share before (map (span_from low) (drop i spans))) l ≡ l
  unfolding bin_words
  spans_end c low first last share before l h = ap (λ (x : List ℕ). put (c + 7 * i) (bin_words first last share before (map (span_from low) x)) l) (drop_of_length-le spans {i = i} h) ∙ put-nil (c + 7 * i) l

  pub sum_end : length spans ≤ i → sum_of span_size (drop i spans) ≡ 0
  unfolding sum_of
  sum_end h = ap (sum_of span_size) (drop_of_length-le spans {i = i} h)

pub spans_start : (spans : List ℕ) (c low first last share : ℕ) (l : List ℕ) → put (c + 7 * 0) (bin_words first last share 0 (map (span_from low) (drop 0 spans))) l ≡ put c (bin_words first last share 0 (map (span_from low) spans)) l
spans_start spans c low first last share l = ap (λ (a : ℕ). put a (bin_words first last share 0 (map (span_from low) spans)) l) (let y : c + 7 * 0 ≡ c = omega arith in y)

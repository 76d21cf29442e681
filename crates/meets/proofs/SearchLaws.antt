-- Laws for the code that asks the pieces: the search in a pattern, one piece, and the pieces that are left.
-- Assumes nothing.
use mathlib.Core.Path.{◌≡◌, refl, sym, ap, ap₂, ◌∙◌}
use mathlib.Core.Bool.{Bool, true, false, ◌&&◌, cond}
use mathlib.Core.List.{List, ◌∷◌}
use Prim.Native.Nat.{ℕ, suc, ◌+◌, ◌-◌, ◌*◌, ◌/◌, ◌^◌, ◌≤◌, ◌<◌, max}
use native.Mathlib.Omega.{arith}
use lib.Dec.{leb, ltb, eqb}
use lib.Bits.{bit_and, and_zero_l}
use lib.ListN.{length, get_or, set, replicate}
use borrow.Author.Tests.{leb-true, leb-false, le-leb, lt-ltb, le-ltb, ltb-true, ltb-false, eqb-true, eq-eqb, ne_eqb}
use Rattle.model.specs.Lists.{up_from, any}
use Rattle.model.specs.Table.{span, pattern}
use Rattle.model.specs.Values.{bias, in_range}
use Rattle.model.specs.Ranges.{pattern_from}
use Rattle.model.specs.Raw.{rows}
use Rattle.model.proofs.Booleans.{false-true, bool_eq}
use Rattle.model.proofs.Lists.{none_left, one_left}
use Rattle.model.proofs.NextValue.{pattern_ge, pattern-least}
use Rattle.model.proofs.Searches.{any-from-some, some-any-from}
use Rattle.spans.specs.Spans.{held_by, apart, free}
use Rattle.spans.specs.Point.{free_value}
use Rattle.spans.proofs.LookLaws.{free_least}
use Rattle.parts.specs.Rows.{raise_all}
use Rattle.parts.proofs.FlagLaws.{raised-row}
use Rattle.meets.specs.Pieces.{Piece, high_in, part_above, piece_at, pieces_at}
use Rattle.meets.specs.Met.{left_in, pattern_met, is_met, reach_end, met_parts, met_one, met_flags, next_fit}

-- ---- the next value that fits

pub next_ge : (bits mask x : ℕ) → x ≤ next_fit bits mask x
next_ge bits mask x = go (ltb x bias && eqb bits 0)
  where
    go : (b : Bool) → x ≤ cond b x (bias + pattern_from 32 bits mask (x - bias))
    go true = omega arith
    go false = omega (arith, pattern_ge 32 bits mask (x - bias))

next-least : (bits mask x u : ℕ) → in_range (pattern bits mask) u ≡ true → x ≤ u → next_fit bits mask x ≤ u
next-least bits mask x u e h = go (ltb x bias && eqb bits 0) refl
  where
    fit : bit_and (u - bias) mask ≡ bits
    fit = eqb-true (bit_and (u - bias) mask) bits e

    -- below `bias` only the pattern without ones fits
    small : u < bias → (ltb x bias && eqb bits 0) ≡ true
    small k =
        let z : u - bias ≡ 0 = omega arith in
        ap₂ ◌&&◌ (lt-ltb x bias (omega arith)) (eq-eqb bits 0 (sym fit ∙ ap (λ (y : ℕ). bit_and y mask) z ∙ and_zero_l mask))

    go : (b : Bool) → (ltb x bias && eqb bits 0) ≡ b → cond b x (bias + pattern_from 32 bits mask (x - bias)) ≤ u
    go true q = h
    go false q = side (ltb u bias) refl
      where
        side : (c : Bool) → ltb u bias ≡ c → bias + pattern_from 32 bits mask (x - bias) ≤ u
        side true s = absurd (false-true (sym q ∙ small (ltb-true u bias s)))
        side false s = omega (arith, ltb-false u bias s, pattern-least 32 bits mask (x - bias) (u - bias) fit (omega arith))

pub next_inner : (bits mask x y : ℕ) → (ltb x bias && eqb bits 0) ≡ true → y ≡ x → y ≡ next_fit bits mask x
next_inner bits mask x y e q = q ∙ sym (ap (λ (b : Bool). cond b x (bias + pattern_from 32 bits mask (x - bias))) e)

pub next_outer : (bits mask x y : ℕ) → (ltb x bias && eqb bits 0) ≡ false → y ≡ bias + pattern_from 32 bits mask (x - bias) → y ≡ next_fit bits mask x
next_outer bits mask x y e q = q ∙ sym (ap (λ (b : Bool). cond b x (bias + pattern_from 32 bits mask (x - bias))) e)

-- ---- the search

-- numbers of which the test is false are passed over
any_skip : (g : ℕ → Bool) (x y hi : ℕ) → x ≤ y → ((u : ℕ) → x ≤ u → u < y → g u ≡ false) → any g (up_from y (suc hi - y)) ≡ any g (up_from x (suc hi - x))
any_skip g x y hi h none = bool_eq _ _ there back
  where
    there : any g (up_from y (suc hi - y)) ≡ true → any g (up_from x (suc hi - x)) ≡ true
    there e = let s = any-from-some g y (suc hi - y) e in some-any-from g x (suc hi - x) s.0 (omega (arith, s.1)) (omega (arith, s.1, s.2)) s.3

    back : any g (up_from x (suc hi - x)) ≡ true → any g (up_from y (suc hi - y)) ≡ true
    back e =
        let s = any-from-some g x (suc hi - x) e in
        go s.0 s.1 s.2 s.3 (leb y s.0) refl
      where
        go : (u : ℕ) → x ≤ u → u < x + (suc hi - x) → g u ≡ true → (b : Bool) → leb y u ≡ b → any g (up_from y (suc hi - y)) ≡ true
        go u l k e true q = some-any-from g y (suc hi - y) u (leb-true y u q) (omega (arith, leb-true y u q)) e
        go u l k e false q = absurd (false-true (sym (none u l (leb-false y u q)) ∙ e))

module _ (ws : List ℕ) (gaps : apart ws ≡ true) (low bits mask hi : ℕ) where
  -- between a number and the first that is left nothing is left
  held_between : (v u : ℕ) → low ≤ v → v ≤ u → u < free_value ws low v → eqb (free_value ws low u) u ≡ false
  held_between v u l h k = ne_eqb (free_value ws low u) u λ e.
      let first = free_least ws gaps (v - low) in
      let here = free_least ws gaps (u - low) in
      let same : free ws (u - low) ≡ u - low = omega arith in
      false-true (sym here.out ∙ ap (held_by ws) same ∙ first.passed (u - low) (omega arith) (omega arith))

  abbrev found : ℕ → Bool
  found v = left_in (free_value ws low) bits mask v

  never_fit : (x u : ℕ) → x ≤ u → u < next_fit bits mask x → found u ≡ false
  never_fit x u h k = go (in_range (pattern bits mask) u) refl
    where
      go : (b : Bool) → in_range (pattern bits mask) u ≡ b → (b && eqb (free_value ws low u) u) ≡ false
      go true e = absurd (omega (arith, next-least bits mask x u e h))
      go false e = refl

  pub search_start : (lo v : ℕ) → v ≡ next_fit bits mask lo → pattern_met (free_value ws low) bits mask v hi ≡ pattern_met (free_value ws low) bits mask lo hi
  unfolding pattern_met
  search_start lo v e = any_skip found lo v hi (omega (arith, next_ge bits mask lo)) (λ u h k. never_fit lo u h (omega arith))

  -- a number that does not pass: on with the next that fits, above it and not in its span
  pub search_turn : (v x y : ℕ) → low ≤ v → found v ≡ false → x ≡ max (free_value ws low v) (v + 1) → y ≡ next_fit bits mask x
      → pattern_met (free_value ws low) bits mask y hi ≡ pattern_met (free_value ws low) bits mask v hi
  unfolding pattern_met
  search_turn v x y l e ex ey = any_skip found v y hi (omega (arith, next_ge bits mask x)) (λ u h k. passed u h k (leb x u) refl)
    where
      passed : (u : ℕ) → v ≤ u → u < y → (b : Bool) → leb x u ≡ b → found u ≡ false
      passed u h k true q = never_fit x u (leb-true x u q) (omega arith)
      passed u h k false q = below (eqb u v) refl
        where
          and-false : (a b : Bool) → b ≡ false → (a && b) ≡ false
          and-false true b z = z
          and-false false b z = refl

          below : (c : Bool) → eqb u v ≡ c → found u ≡ false
          below true z = ap found (eqb-true u v z) ∙ e
          below false z =
              let more : (u ≡ v → ⊥) = λ s. false-true (sym z ∙ eq-eqb u v s) in
              and-false (in_range (pattern bits mask) u) (eqb (free_value ws low u) u) (held_between v u l h (above more))
            where
              above : (u ≡ v → ⊥) → u < free_value ws low v
              above s = omega (arith, leb-false x u q)

  pub search_found : (v : ℕ) → v ≤ hi → found v ≡ true → pattern_met (free_value ws low) bits mask v hi ≡ true
  unfolding pattern_met
  search_found v h e = some-any-from found v (suc hi - v) v (omega arith) (omega arith) e

  pub search_end : (v : ℕ) → hi < v → pattern_met (free_value ws low) bits mask v hi ≡ false
  unfolding pattern_met any up_from
  search_end v h = ap (λ (n : ℕ). any found (up_from v n)) (none_left (suc hi) v h)

-- the code's test
pub is_found : (f : ℕ → ℕ) (bits mask v free : ℕ) (b : Bool) → free ≡ f v → b ≡ in_range (pattern bits mask) v → (eqb free v && b) ≡ left_in f bits mask v
is_found f bits mask v free b ef eb = ap₂ (λ (x : ℕ) (c : Bool). eqb x v && c) ef eb ∙ turn (eqb (f v) v) (in_range (pattern bits mask) v)
  where
    turn : (x y : Bool) → (x && y) ≡ (y && x)
    turn true true = refl
    turn true false = refl
    turn false true = refl
    turn false false = refl

-- ---- one piece

-- the second word of a span
pub below-part : (w : ℕ) → w < 2 ^ 49 → w / 2 ^ 33 ≡ part_above w
below-part w h = omega arith

reached : (a b hi x : ℕ) → (ltb a (reach_end x hi) && leb x b) ≡ ((leb a hi && leb x b) && leb x hi)
reached a b hi x = go (leb x hi)
  where
    all_true : (y : Bool) → y ≡ (y && true)
    all_true true = refl
    all_true false = refl

    none : (y z : Bool) → (y && z) ≡ false → (y && z) ≡ ((leb a hi && z) && false)
    none y z e = e ∙ sym (never (leb a hi && z))
      where
        never : (y : Bool) → (y && false) ≡ false
        never true = refl
        never false = refl

    go : (c : Bool) → (ltb a (cond c (hi + 1) 0) && leb x b) ≡ ((leb a hi && leb x b) && c)
    go true = ap (◌&& leb x b) (bool_eq (ltb a (hi + 1)) (leb a hi) (λ e. le-leb a hi (omega (arith, ltb-true a (hi + 1) e))) (λ e. lt-ltb a (hi + 1) (omega (arith, leb-true a hi e)))) ∙ all_true (leb a hi && leb x b)
    go false = none (ltb a 0) (leb x b) (ap (◌&& leb x b) (le-ltb a 0 (omega arith)))

module _ (f : ℕ → ℕ) (lo hi : ℕ) (w : List ℕ) (at : ℕ) where
  abbrev first : ℕ
  first = get_or w at 0

  abbrev second : ℕ
  second = get_or w (at + 1) 0

  span_met : (from end : ℕ) → from ≡ f lo → end ≡ reach_end from hi → second < 2 ^ 49 → (ltb first end && leb from (high_in second)) ≡ is_met f lo hi (piece_at w at).range
  span_met from end ef ee h =
      ap (λ (e : ℕ). ltb first e && leb from (high_in second)) ee
      ∙ reached first (high_in second) hi from
      ∙ rw ef (sym (ap (λ (c : Bool). is_met f lo hi (cond c (span first (high_in second)) (pattern first (high_in second)))) (lt-ltb second (2 ^ 49) h)))

  pub pattern_piece : (y : Bool) → 2 ^ 49 ≤ second → y ≡ pattern_met f first (high_in second) lo hi → y ≡ is_met f lo hi (piece_at w at).range
  pattern_piece y h e = e ∙ sym (ap (λ (c : Bool). is_met f lo hi (cond c (span first (high_in second)) (pattern first (high_in second)))) (le-ltb second (2 ^ 49) h))

  pub span_one : (from end : ℕ) (l l' : List ℕ) → from ≡ f lo → end ≡ reach_end from hi → second < 2 ^ 49 → l' ≡ cond (ltb first end && leb from (high_in second)) (set l (second / 2 ^ 33) 1) l → l' ≡ met_one f lo hi (piece_at w at) l
  unfolding met_one
  span_one from end l l' ef ee h e = e ∙ ap₂ (λ (c : Bool) (j : ℕ). cond c (set l j 1) l) (span_met from end ef ee h) (below-part second h)

  module _ (l : List ℕ) (y : Bool) (e : y ≡ is_met f lo hi (piece_at w at).range) where
    pub met-off : y ≡ false → l ≡ met_one f lo hi (piece_at w at) l
    unfolding met_one
    met-off z = sym (ap (λ (b : Bool). cond b (set l (part_above second) 1) l) (sym e ∙ z))

    pub met-on : (k : ℕ) → y ≡ true → k ≡ part_above second → set l k 1 ≡ met_one f lo hi (piece_at w at) l
    unfolding met_one
    met-on k z q = ap (λ (b : ℕ). set l b 1) q ∙ sym (ap (λ (b : Bool). cond b (set l (part_above second) 1) l) (sym e ∙ z))

-- ---- the pieces that are left

met_step : (f : ℕ → ℕ) (lo hi : ℕ) (q : Piece) (qs : List Piece) (l : List ℕ) → raise_all (met_parts f lo hi qs) (met_one f lo hi q l) ≡ raise_all (met_parts f lo hi (q ∷ qs)) l
unfolding met_one met_parts raise_all
met_step f lo hi q qs l = go (is_met f lo hi q.range)
  where
    go : (b : Bool) → raise_all (met_parts f lo hi qs) (cond b (set l q.part 1) l) ≡ raise_all (cond b (q.part ∷ met_parts f lo hi qs) (met_parts f lo hi qs)) l
    go true = refl
    go false = refl

module _ (f : ℕ → ℕ) (lo hi : ℕ) (w : List ℕ) (n : ℕ) where
  pub met_start : (l : List ℕ) → raise_all (met_parts f lo hi (pieces_at w (2 * 0) (n - 0))) l ≡ raise_all (met_parts f lo hi (pieces_at w 0 n)) l
  met_start l = ap₂ (λ (a m : ℕ). raise_all (met_parts f lo hi (pieces_at w a m)) l) (let z : 2 * 0 ≡ 0 = omega arith in z) (let z : n - 0 ≡ n = omega arith in z)

  pub met_turn : (i : ℕ) (l l' : List ℕ) → i < n → l' ≡ met_one f lo hi (piece_at w (2 * i)) l
      → raise_all (met_parts f lo hi (pieces_at w (2 * (i + 1)) (n - (i + 1)))) l' ≡ raise_all (met_parts f lo hi (pieces_at w (2 * i) (n - i))) l
  unfolding rows
  met_turn i l l' h e =
      ap (raise_all (met_parts f lo hi (pieces_at w (2 * (i + 1)) (n - (i + 1))))) e
      ∙ met_step f lo hi (piece_at w (2 * i)) (pieces_at w (2 * (i + 1)) (n - (i + 1))) l
      ∙ ap (λ (a : ℕ). raise_all (met_parts f lo hi (piece_at w (2 * i) ∷ pieces_at w a (n - (i + 1)))) l) (let z : 2 * (i + 1) ≡ 2 * i + 2 = omega arith in z)
      ∙ ap (λ (m : ℕ). raise_all (met_parts f lo hi (pieces_at w (2 * i) m)) l) (sym (one_left n i h))

  pub met_end : (i : ℕ) (l : List ℕ) → n ≤ i → raise_all (met_parts f lo hi (pieces_at w (2 * i) (n - i))) l ≡ l
  unfolding rows met_parts raise_all
  met_end i l h = ap (λ (m : ℕ). raise_all (met_parts f lo hi (pieces_at w (2 * i) m)) l) (none_left n i h)

  pub met_none : (i : ℕ) (l : List ℕ) → n ≤ i → raise_all (met_parts f lo hi (pieces_at w (2 * n) (n - n))) l ≡ raise_all (met_parts f lo hi (pieces_at w (2 * i) (n - i))) l
  met_none i l h = met_end n l (omega arith) ∙ sym (met_end i l h)

  pub met_all : (l l₁ l₂ : List ℕ) → l₁ ≡ replicate (length l) 0 → l₂ ≡ raise_all (met_parts f lo hi (pieces_at w 0 n)) l₁ → l₂ ≡ met_flags f lo hi (pieces_at w 0 n) (length l)
  unfolding met_flags
  met_all l l₁ l₂ e₁ e₂ = e₂ ∙ ap (raise_all (met_parts f lo hi (pieces_at w 0 n))) e₁ ∙ raised-row (length l) (met_parts f lo hi (pieces_at w 0 n))

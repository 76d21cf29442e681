-- The pieces that are cut from a row hold, of the values that are left, exactly those that the row's rule gives to their parts.
-- Assumes nothing.
use mathlib.Core.Path.{◌≡◌, refl, sym, ap, ap₂, ◌∙◌}
use mathlib.Core.Bool.{Bool, true, false, ◌&&◌, ◌||◌, cond}
use mathlib.Core.List.{List, [], ◌∷◌, ◌++◌}
use Prim.Native.Nat.{ℕ, zero, suc, ◌+◌, ◌-◌, ◌*◌, ◌/◌, ◌≤◌, ◌<◌}
use native.Mathlib.Nat.{le-div_iff_mul-le, div-lt_iff_lt-mul}
use native.Mathlib.Omega.{arith}
use lib.Dec.{leb, ltb, eqb}
use borrow.Author.Tests.{leb-true, leb-false, le-leb, ltb-true, ltb-false, eqb-true, eq-eqb}
use Rattle.model.specs.Lists.{any}
use Rattle.model.specs.Table.{span}
use Rattle.model.proofs.Booleans.{false-true, and_left, and_right, or_right}
use Rattle.meets.specs.Pieces.{Piece, piece, piece_holds}
use Rattle.meets.proofs.FreeLaws.{Finds}
use Rattle.pieces.specs.Cuts.{step_at, cut_low, cut_high, cuts_from}

-- ---- the part at a place of a row

module _ (before share last : ℕ) (some : 1 ≤ share) where
  abbrev step : ℕ → ℕ
  step d = step_at before share last d

  reach : (j d : ℕ) → j ≤ last → j * share - before ≤ d → j ≤ step d
  reach j d h e =
      let z : j ≤ (before + d) / share = (le-div_iff_mul-le {k = share} {x = j} {y = before + d} some).1 (omega arith) in
      omega arith

  pub within : (j d : ℕ) → j ≤ step d → j * share - before ≤ d
  within j d h =
      let z : j ≤ (before + d) / share = omega arith in
      omega (arith, (le-div_iff_mul-le {k = share} {x = j} {y = before + d} some).0 z)

  stops : (j d : ℕ) → d < (j + 1) * share - before → step d ≤ j
  stops j d e =
      let z : (before + d) / share < j + 1 = (div-lt_iff_lt-mul {k = share} {x = before + d} {y = j + 1} some).1 (omega arith) in
      omega arith

  passes : (j d : ℕ) → step d ≤ j → j < last → d < (j + 1) * share - before
  passes j d h k =
      let z : (before + d) / share < j + 1 = omega arith in
      omega (arith, (div-lt_iff_lt-mul {k = share} {x = before + d} {y = j + 1} some).0 z)

  pub step_rises : (d e : ℕ) → d ≤ e → step d ≤ step e
  step_rises d e h = reach (step d) e (omega arith) (omega (arith, within (step d) d (omega arith)))

  module _ (lo hi : ℕ) (order : lo ≤ hi) where
    abbrev top : ℕ
    top = step (hi - lo)

    -- a part's last value is not above the row's
    pub high-most : (j : ℕ) → cut_high lo hi before share top j ≤ hi
    high-most j = go (ltb j top) refl
      where
        go : (b : Bool) → ltb j top ≡ b → cond b (cut_low lo before share (j + 1) - 1) hi ≤ hi
        go true e = omega (arith, within (j + 1) (hi - lo) (omega (arith, ltb-true j top e)))
        go false e = omega arith

    -- a value of the row is between the ends of its part
    hold-low : (v : ℕ) → lo ≤ v → cut_low lo before share (step (v - lo)) ≤ v
    hold-low v h = omega (arith, within (step (v - lo)) (v - lo) (omega arith))

    hold-high : (v : ℕ) → lo ≤ v → v ≤ hi → v ≤ cut_high lo hi before share top (step (v - lo))
    hold-high v h k = go (ltb (step (v - lo)) top) refl
      where
        go : (b : Bool) → ltb (step (v - lo)) top ≡ b → v ≤ cond b (cut_low lo before share (step (v - lo) + 1) - 1) hi
        go true e = omega (arith, passes (step (v - lo)) (v - lo) (omega arith) (omega (arith, ltb-true (step (v - lo)) top e)))
        go false e = k

    -- a number between the ends of a part is a value of the row, in that part
    own_part : (j v : ℕ) → step 0 ≤ j → j ≤ top → cut_low lo before share j ≤ v → v ≤ cut_high lo hi before share top j → (v ≤ hi) × (step (v - lo) ≡ j)
    own_part j v b h l u = go (ltb j top) refl u
      where
        go : (c : Bool) → ltb j top ≡ c → v ≤ cond c (cut_low lo before share (j + 1) - 1) hi → (v ≤ hi) × (step (v - lo) ≡ j)
        go true e k =
            let m = ltb-true j top e in
            let wide = within (j + 1) (hi - lo) (omega arith) in
            let some₁ = passes j 0 b (omega arith) in
            let small = stops j (v - lo) (omega arith) in
            let large = reach j (v - lo) (omega arith) (omega arith) in
            (omega arith, omega arith)
        go false e k =
            let m = ltb-false j top e in
            let small = step_rises (v - lo) (hi - lo) (omega arith) in
            let large = reach j (v - lo) (omega arith) (omega arith) in
            (k, omega arith)

    -- ---- the cuts

    module _ (low high : ℕ) (out : ℕ → Bool) (f : ℕ → ℕ) (finds : Finds low high out f) (above : low ≤ lo) (under : hi ≤ high) (first k v : ℕ) where
      abbrev cuts : ℕ → ℕ → List Piece
      cuts j n = cuts_from f lo hi before share first top j n

      -- the row holds the value, in part k
      abbrev Own : Type 0
      Own = (lo ≤ v) × (v ≤ hi) × (k ≡ first + step (v - lo))

      -- what holds the value is its part
      pub cuts-sound : (n j : ℕ) → step 0 ≤ j → j + n ≤ top + 1 → any (piece_holds k v) (cuts j n) ≡ true → Own
      unfolding any cuts_from
      cuts-sound zero j b h e = absurd (false-true e)
      cuts-sound (suc n) j b h e = go (leb (f a) z) refl e (λ e'. cuts-sound n (j + 1) (omega arith) (omega arith) e')
        where
          a : ℕ
          a = cut_low lo before share j

          z : ℕ
          z = cut_high lo hi before share top j

          here : (c : Bool) → (eqb (first + j) k && (leb (f a) v && leb v z)) ≡ c → (c || any (piece_holds k v) (cuts (j + 1) n)) ≡ true → (any (piece_holds k v) (cuts (j + 1) n) ≡ true → Own) → Own
          here true e₁ e₂ rest =
              let s = eqb-true (first + j) k (and_left (eqb (first + j) k) (leb (f a) v && leb v z) e₁) in
              let i = and_right (eqb (first + j) k) (leb (f a) v && leb v z) e₁ in
              let l = leb-true (f a) v (and_left (leb (f a) v) (leb v z) i) in
              let u = leb-true v z (and_right (leb (f a) v) (leb v z) i) in
              let own = own_part j v b (omega arith) (omega (arith, finds.from a (omega arith))) u in
              (omega (arith, finds.from a (omega arith)), own.0, omega (arith, own.1))
          here false e₁ e₂ rest = rest e₂

          go : (c : Bool) → leb (f a) z ≡ c → any (piece_holds k v) (cond c (piece (span (f a) z) (first + j) ∷ []) [] ++ cuts (j + 1) n) ≡ true → (any (piece_holds k v) (cuts (j + 1) n) ≡ true → Own) → Own
          go true e₁ e₂ rest = here (eqb (first + j) k && (leb (f a) v && leb v z)) refl e₂ rest
          go false e₁ e₂ rest = rest e₂

      -- a value that is left is in one of its part's
      pub cuts-complete : (n j : ℕ) → lo ≤ v → v ≤ hi → out v ≡ false → k ≡ first + step (v - lo) → j ≤ step (v - lo) → step (v - lo) < j + n → any (piece_holds k v) (cuts j n) ≡ true
      unfolding any cuts_from
      cuts-complete zero j l u o s b h = absurd (omega arith)
      cuts-complete (suc n) j l u o s b h = go (eqb j (step (v - lo))) refl (λ m. cuts-complete n (j + 1) l u o s m (omega arith))
        where
          a : ℕ
          a = cut_low lo before share j

          z : ℕ
          z = cut_high lo hi before share top j

          after : (c : Bool) → any (piece_holds k v) (cuts (j + 1) n) ≡ true → any (piece_holds k v) (cond c (piece (span (f a) z) (first + j) ∷ []) [] ++ cuts (j + 1) n) ≡ true
          after true e = or_right (eqb (first + j) k && (leb (f a) v && leb v z)) (any (piece_holds k v) (cuts (j + 1) n)) e
          after false e = e

          go : (c : Bool) → eqb j (step (v - lo)) ≡ c → (j + 1 ≤ step (v - lo) → any (piece_holds k v) (cuts (j + 1) n) ≡ true)
              → any (piece_holds k v) (cond (leb (f a) z) (piece (span (f a) z) (first + j) ∷ []) [] ++ cuts (j + 1) n) ≡ true
          go true e more =
              let i : j ≡ step (v - lo) = eqb-true j (step (v - lo)) e in
              let l₁ : a ≤ v = rw i (hold-low v l) in
              let l₂ : v ≤ z = rw i (hold-high v l u) in
              let l₃ : f a ≤ v = finds.below a v (omega arith) l₁ (omega arith) o in
              let full : leb (f a) z ≡ true = le-leb (f a) z (omega arith) in
              ap (λ (c : Bool). any (piece_holds k v) (cond c (piece (span (f a) z) (first + j) ∷ []) [] ++ cuts (j + 1) n)) full
              ∙ ap (◌|| any (piece_holds k v) (cuts (j + 1) n)) (ap₂ ◌&&◌ (eq-eqb (first + j) k (omega arith)) (ap₂ ◌&&◌ (le-leb (f a) v l₃) (le-leb v z l₂)))
          go false e more = after (leb (f a) z) (more (differs e))
            where
              differs : eqb j (step (v - lo)) ≡ false → j + 1 ≤ step (v - lo)
              differs e₁ = go₁ (leb (step (v - lo)) j) refl
                where
                  go₁ : (c : Bool) → leb (step (v - lo)) j ≡ c → j + 1 ≤ step (v - lo)
                  go₁ true e₂ = absurd (false-true (sym e₁ ∙ eq-eqb j (step (v - lo)) (omega (arith, leb-true (step (v - lo)) j e₂))))
                  go₁ false e₂ = omega (arith, leb-false (step (v - lo)) j e₂)

-- What ignore and illegal bins take.
-- Assumes nothing.
use Rattle.std.proofs.Common.{◌≡◌, ℕ, ◌+◌, Bool, true, false, cond, ◌&&◌, ◌||◌, eqb, List, [], ◌∷◌, sym, refl, ap, ◌∙◌, ap₂, rules}
use Rattle.model.specs.Lists.{any}
use Rattle.model.specs.Table.{Range, ValueBin, excludes}
use Rattle.model.specs.Values.{in_ranges}
use Rattle.model.specs.Format.{u16}
use Rattle.model.specs.Ranges.{ranges_of}
use Rattle.model.specs.Raw.{ranges_at, bin_at}
use Rattle.ranges.specs.Taken.{holding, taking, taken_by}
use Rattle.ranges.proofs.Searches.{any_append}
use Rattle.ranges.proofs.MemberLaws.{in-any}

-- a search over the ranges that some bins take is one over the bins
any_chosen : (f : Range → Bool) (c : Bool) (rs : List Range) → any f (cond c rs []) ≡ cond c (any f rs) false
unfolding any
any_chosen f true rs = refl
any_chosen f false rs = refl

pub any-taken : (f : Range → Bool) (p : ℕ) (bs : List ValueBin) → any f (ranges_of excludes p bs) ≡ any (taken_by f p) bs
unfolding any ranges_of
any-taken f p [] = refl
any-taken f p (b ∷ bs) =
    any_append f (cond (eqb b.point p && excludes b.kind) b.ranges []) (ranges_of excludes p bs)
    ∙ ap₂ ◌||◌ (any_chosen f (eqb b.point p && excludes b.kind) b.ranges) (any-taken f p bs)

taken_at : (f : Range → Bool) (s : List ℕ) (b r p : ℕ) (x y : Bool) (n : ℕ) → x ≡ taking s b p → x ≡ true → n ≡ u16 s (b + 6) → y ≡ any f (ranges_at s r n) → y ≡ taken_by f p (bin_at s b r)
taken_at f s b r p x y n e h m i =
    i ∙ ap (λ (k : ℕ). any f (ranges_at s r k)) m ∙ ap (λ (c : Bool). cond c (any f (ranges_at s r (u16 s (b + 6)))) false) (sym h ∙ e)

module _ (s : List ℕ) (b r p : ℕ) where
  pub taken_in : (f : Range → Bool) (x y : Bool) (n : ℕ) → x ≡ taking s b p → x ≡ true → n ≡ u16 s (b + 6) → y ≡ any f (ranges_at s r n) → y ≡ taken_by f p (bin_at s b r)
  taken_in f x y n e h m i = taken_at f s b r p x y n e h m i

  pub taken_out : (f : Range → Bool) (x : Bool) → x ≡ taking s b p → x ≡ false → false ≡ taken_by f p (bin_at s b r)
  taken_out f x e h = ap (λ (c : Bool). cond c (any f (ranges_at s r (u16 s (b + 6)))) false) (sym h ∙ e)

  pub taken_value : (v : ℕ) (x y : Bool) (n : ℕ) → x ≡ taking s b p → x ≡ true → n ≡ u16 s (b + 6) → y ≡ in_ranges (ranges_at s r n) v → y ≡ taken_by (holding v) p (bin_at s b r)
  taken_value v x y n e h m i = taken_at (holding v) s b r p x y n e h m (i ∙ in-any (ranges_at s r n) v)

pub ruleset takens = (rules, taken_in, taken_out, taken_value)

-- The crosses of an accepted table by their places.
-- Assumes nothing.
use mathlib.Core.Path.{◌≡◌, refl, sym, ap, ap₂, ◌∙◌, subst}
use mathlib.Core.Bool.{true}
use mathlib.Core.List.{List}
use Prim.Native.Nat.{ℕ, ◌+◌, ◌*◌, ◌<◌}
use native.Mathlib.Numerals.{add-one}
use lib.ListN.{length}
use Rattle.model.specs.Format.{byte, accepted, table_of}
use Rattle.model.specs.Raw.{token_total}
use Rattle.model.proofs.RawExact.{many_points, many_crosses}
use Rattle.layout.specs.Places.{layout_of}
use Rattle.layout.specs.declared.Layout.{Layout}
use Rattle.arrays.specs.Flat.{CrossPlace, next_place, cross_place}
use Rattle.products.specs.Shapes.{Stands}
use Rattle.products.specs.declared.places.Place.{Place}
use Rattle.crosses.specs.Order.{Nth}

abbrev place_of : ℕ → ℕ → ℕ → CrossPlace
place_of cp bp kp = record { cross = cp; bins = bp; tokens = kp }

pub nth-first : (s : List ℕ) (l : Layout) → l ≡ layout_of s → Nth s 0 (record { number = 0; cross = l.crosses; bins = l.cross_bins; tokens = l.tokens })
unfolding cross_place layout_of
nth-first s l e = record { number = refl; place = ap (λ (x : Layout). place_of x.crosses x.cross_bins x.tokens) (sym e) }

pub nth-next : (s : List ℕ) (p : Place) → Stands s p → (k n : ℕ) → k ≡ byte s (p.cross + 12) → n ≡ token_total s p.bins k
    → Nth s (p.number + 1) (record { number = p.number + 1; cross = p.cross + 13; bins = p.bins + 3 * k; tokens = p.tokens + 20 * n })
unfolding cross_place
nth-next s p h k n ek en = record {
  number = refl;
  place = ap (cross_place s) (add-one p.number) ∙ ap (next_place s) h.place
      ∙ ap₂ (λ (x y : ℕ). place_of (p.cross + 13) (p.bins + 3 * x) (p.tokens + 20 * y)) (sym ek) (ap (token_total s p.bins) (sym ek) ∙ sym en);
}

pub nth-stands : (s : List ℕ) → accepted s ≡ true → (c : ℕ) (p : Place) → c < length (table_of s).crosses → Nth s c p → Stands s p
nth-stands s ok c p h n = record { whole = ok; inside = subst (λ (x : ℕ). x < length (table_of s).crosses) (sym n.number) h; place = ap (cross_place s) n.number ∙ n.place }

module _ (s : List ℕ) (ok : accepted s ≡ true) where
  pub count_crosses : (l : Layout) → l ≡ layout_of s → l.cross_count ≡ length (table_of s).crosses
  unfolding layout_of
  count_crosses l e = ap (λ (x : Layout). x.cross_count) e ∙ sym (many_crosses s ok)

  pub count_points : (l : Layout) → l ≡ layout_of s → l.point_count ≡ length (table_of s).points
  unfolding layout_of
  count_points l e = ap (λ (x : Layout). x.point_count) e ∙ sym (many_points s ok)

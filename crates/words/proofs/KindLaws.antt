-- The byte that says a kind.
-- Assumes nothing.
use mathlib.Core.Path.{◌≡◌, refl, sym, ap, ◌∙◌}
use mathlib.Core.Bool.{Bool, true, false, not}
use Prim.Native.Nat.{ℕ, zero, suc}
use denote.Enum.Bare.{sameb, differs_true, differs_false}
use Rattle.model.specs.Table as model
use Rattle.model.specs.Format.{kind_from}
use Rattle.model.proofs.Booleans.{false-true}
use Rattle.words.specs.Kinds.{meant}
use Rattle.words.specs.declared.kinds.Kind.{Kind}
use Rattle.words.specs.declared.kinds.Kind.TheVariants.{Cover, Ignore, Illegal, Default}
use Rattle.words.specs.contracts.kinds.Kind.{the_type}

-- the kind that a kind of the model is of
abbrev coded : model.Kind → Kind
coded model.cover = Cover
coded model.ignore = Ignore
coded model.illegal = Illegal
coded model.default = Default

same : Kind → Kind → Bool
same = sameb the_type

module _ (kind : Kind) (b : ℕ) (m : meant kind ≡ kind_from b) where
  pub told : kind ≡ coded (kind_from b)
  told = go kind ∙ ap coded m
    where
      go : (k : Kind) → k ≡ coded (meant k)
      go Cover = refl
      go Ignore = refl
      go Illegal = refl
      go Default = refl

  pub cover-byte : kind ≡ Cover → b ≡ 0
  unfolding same
  cover-byte e = go b (ap (λ (k : Kind). same k Cover) (sym told ∙ e))
    where
      go : (b : ℕ) → same (coded (kind_from b)) Cover ≡ true → b ≡ 0
      go zero h = refl
      go (suc zero) h = absurd (false-true h)
      go (suc (suc zero)) h = absurd (false-true h)
      go (suc (suc (suc b))) h = absurd (false-true h)

  pub illegal-byte : kind ≡ Illegal → b ≡ 2
  unfolding same
  illegal-byte e = go b (ap (λ (k : Kind). same k Illegal) (sym told ∙ e))
    where
      go : (b : ℕ) → same (coded (kind_from b)) Illegal ≡ true → b ≡ 2
      go zero h = absurd (false-true h)
      go (suc zero) h = absurd (false-true h)
      go (suc (suc zero)) h = refl
      go (suc (suc (suc b))) h = absurd (false-true h)

  pub no_cover-byte : (kind ≡ Cover → ⊥) → b ≡ 0 → ⊥
  no_cover-byte n z = n (told ∙ ap (λ (x : ℕ). coded (kind_from x)) z)

  pub no_illegal-byte : (kind ≡ Illegal → ⊥) → b ≡ 2 → ⊥
  no_illegal-byte n z = n (told ∙ ap (λ (x : ℕ). coded (kind_from x)) z)

-- what an arm of `a != b` knows of two kinds
module _ (a b : Kind) (x : Bool) (e : x ≡ not (sameb the_type a b)) where
  pub apart : x ≡ true → a ≡ b → ⊥
  apart h = differs_true the_type a b (sym e ∙ h)

  pub alike : x ≡ false → a ≡ b
  alike h = differs_false the_type tt a b (sym e ∙ h)

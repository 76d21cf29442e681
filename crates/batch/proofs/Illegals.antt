-- An accepted table has few illegal counters: each is an illegal value bin, transition bin or cross bin.
-- Assumes nothing.
use mathlib.Core.Path.{◌≡◌, ap, ◌∙◌, subst}
use mathlib.Core.Bool.{true}
use mathlib.Core.List.{List, [], ◌∷◌}
use Prim.Native.Nat.{ℕ, ◌≤◌}
use native.Mathlib.Omega.{arith}
use lib.ListN.{length}
use Rattle.model.specs.Lists.{sum_of}
use Rattle.model.specs.Table.{Kind, cover, ignore, illegal, default, Cross, Table}
use Rattle.model.specs.Format.{got, accepted, table_of, read_table}
use Rattle.model.specs.Raw.{raw_table}
use Rattle.model.specs.Register.{illegal_total}
use Rattle.model.proofs.Sections.{acceptance, accepted_decodes}
use Rattle.model.proofs.RawExact.{accepted_raw}
use Rattle.model.proofs.Access.{bins_access}
use Rattle.model.proofs.AccessTransitions.{transitions_access}
use Rattle.model.proofs.AccessCrosses.{cross_bins_access}
use Rattle.model.proofs.Measure.{illegals_of, cross_sum, illegal-total}
use Rattle.limits.specs.Walks.{Readable}
use Rattle.limits.proofs.ReadLaws.{read_layout, bin_points, transition_points}

kind-few : (k : Kind) → illegals_of k ≤ 1
kind-few cover = omega arith
kind-few ignore = omega arith
kind-few illegal = omega arith
kind-few default = omega arith

bins-few : {A : Type 0} (f : A → Kind) (xs : List A) → sum_of (λ x. illegals_of (f x)) xs ≤ length xs
unfolding sum_of
bins-few f [] = omega arith
bins-few f (x ∷ xs) = omega (arith, kind-few (f x), bins-few f xs)

crosses-few : (cs : List Cross) → sum_of (cross_sum illegals_of) cs ≤ sum_of (λ c. length c.bins) cs
unfolding sum_of
crosses-few [] = omega arith
crosses-few (c ∷ cs) = omega (arith, bins-few (λ b. b.kind) c.bins, crosses-few cs)

-- 512 value bins, 64 transition bins and 128 cross bins
pub few-illegals : (s : List ℕ) → accepted s ≡ true → illegal_total (table_of s) ≤ 704
few-illegals s ok =
    let t = raw_table s in
    let a = acceptance s (table_of s) (accepted_decodes s ok) in
    let e = accepted_raw s ok in
    let known : Readable s = (subst (λ (t : Table). read_table s 0 ≡ got t (length s)) e a.read, a.short) in
    let l = read_layout s known in
    omega (
      arith,
      ap illegal_total e ∙ illegal-total t (bin_points s known) (transition_points s known),
      bins-few (λ v. v.kind) t.value_bins,
      bins-few (λ v. v.kind) t.transition_bins,
      crosses-few t.crosses,
      (bins_access s t (length s) l).0.high,
      (transitions_access s t (length s) l).0.high,
      (cross_bins_access s t (length s) l).0.high,
    )

-- Sections 8 and 9: the tests of a cross by its fields, and the cross bins in one row.
-- Assumes nothing.
use Rattle.std.proofs.Common.{Result, Ok, Err}
use Prim.Native.Nat.{ℕ, zero, suc, ◌+◌, ◌-◌, ◌*◌, ◌<◌, ◌≤◌}
use mathlib.Core.Path.{◌≡◌, refl, ap, sym, ◌∙◌, subst}
use mathlib.Core.Bool.{Bool, true, false, not, ◌&&◌, ◌||◌, cond}
use mathlib.Core.List.{List, [], ◌∷◌, map}
use native.Mathlib.Omega.{arith}
use lib.Dec.{leb, ltb, eqb}
use borrow.Author.Tests.{leb-true, ltb-true, lt-ltb, eq-eqb, ne_eqb}
use Rattle.model.specs.Lists.{up_from, any, sum_of}
use Rattle.model.specs.Format.{Test, field, unused, byte, u16, times, each, all_different, cross_point_test, cross_tests, cross_head, CrossHead, cross_bins_owned, read_cross, cross_bin_tests, cross_bin_head, read_cross_bin, read_cross_bins, read_cross_bin_section, section_count, owned_count, read_cross_section}
use Rattle.model.specs.Raw.{rows}
use Rattle.model.proofs.Lists.{none_left, one_left}
use Rattle.model.proofs.Booleans.{and_left, and_right}
use Rattle.model.proofs.Readers.{AllPass, bind_elim}
use Rattle.model.proofs.Access.{section-count, records}
use Rattle.words.specs.Verdicts.{Verdict, verdict_of, verdict_in, pass}
use Rattle.words.specs.Verdicts as words
use Rattle.words.specs.Sums.{sum_from}
use Rattle.words.specs.declared.verdicts.Fault.{Fault}
use Rattle.words.specs.declared.verdicts.FaultClass.{FaultClass}
use Rattle.words.proofs.Laws.{verdict_record, sound-got}
use Rattle.words.proofs.Chain.{bind_done, owned_on}
use Rattle.check_tokens.specs.Tokens.{CrossOk}
use Rattle.check_tokens.proofs.TokenLaws.{one_stop, one_on}
use Rattle.check_crosses.specs.Crosses.{point_tests, CrossesOk}
use Rattle.words.proofs.Flat.{times-same, each_times}

-- ---- a cross

-- whether a number stands in a row of them, and whether those of a row are different
module _ (f : ℕ → ℕ) where
  module _ (a m j : ℕ) (x : Bool) (inv : x ≡ not (any (eqb a) (map f (up_from j (m - j))))) where
    next_in : j < m → x ≡ not (eqb a (f j) || any (eqb a) (map f (up_from (j + 1) (m - (j + 1)))))
    unfolding up_from any
    next_in h = (rw (one_left m j h) at inv) ∙ ap (λ (k : ℕ). not (eqb a (f j) || any (eqb a) (map f (up_from k (m - (j + 1)))))) (let y : suc j ≡ j + 1 = omega arith in y)

    pub in-stop : j < m → a ≡ f j → false ≡ x
    in-stop h e = sym (next_in h ∙ (rw (eq-eqb a (f j) e)))

    pub in-on : j < m → (a ≡ f j → ⊥) → x ≡ not (any (eqb a) (map f (up_from (j + 1) (m - (j + 1)))))
    in-on h e = next_in h ∙ (rw (ne_eqb a (f j) e))

    pub in-done : m ≤ j → x ≡ true
    unfolding up_from any
    in-done h = rw (none_left m j h) at inv

  module _ (m i : ℕ) (x : Bool) (inv : x ≡ all_different (map f (up_from i (m - i)))) where
    different-in : i < m → x ≡ (not (any (eqb (f i)) (map f (up_from (i + 1) (m - (i + 1))))) && all_different (map f (up_from (i + 1) (m - (i + 1)))))
    unfolding up_from all_different
    different-in h =
        (rw (one_left m i h) at inv)
        ∙ ap (λ (k : ℕ). not (any (eqb (f i)) (map f (up_from k (m - (i + 1))))) && all_different (map f (up_from k (m - (i + 1))))) (let y : suc i ≡ i + 1 = omega arith in y)

    pub different-stop : i < m → false ≡ not (any (eqb (f i)) (map f (up_from (i + 1) (m - (i + 1))))) → false ≡ x
    different-stop h e = ap (◌&& all_different (map f (up_from (i + 1) (m - (i + 1))))) e ∙ sym (different-in h)

    pub different-on : i < m → not (any (eqb (f i)) (map f (up_from (i + 1) (m - (i + 1))))) ≡ true → x ≡ all_different (map f (up_from (i + 1) (m - (i + 1))))
    different-on h e = different-in h ∙ ap (◌&& all_different (map f (up_from (i + 1) (m - (i + 1))))) e

    pub different-done : m ≤ i → true ≡ x
    unfolding up_from all_different
    different-done h = sym (rw (none_left m i h) at inv)

-- the tests on the points
module _ (s : List ℕ) (points at m i : ℕ) (x : Result Unit Fault) (inv : x ≡ verdict_in (point_tests s points at i (m - i)) pass) where
  next_test : i < m → x ≡ verdict_in (cross_point_test s points at i ∷ point_tests s points at (i + 1) (m - (i + 1))) pass
  unfolding point_tests up_from
  next_test h =
      (rw (one_left m i h) at inv)
      ∙ ap (λ (k : ℕ). verdict_in (cross_point_test s points at i ∷ map (cross_point_test s points at) (up_from k (m - (i + 1)))) pass) (let y : suc i ≡ i + 1 = omega arith in y)

  pub points-stop : (f : Fault) → i < m → Err f ≡ verdict_in (cross_point_test s points at i ∷ []) pass → Err f ≡ x
  points-stop f h e = one_stop pass (point_tests s points at (i + 1) (m - (i + 1))) (cross_point_test s points at i) f e ∙ sym (next_test h)

  pub points-on : i < m → pass ≡ verdict_in (cross_point_test s points at i ∷ []) pass → x ≡ verdict_in (point_tests s points at (i + 1) (m - (i + 1))) pass
  points-on h e = next_test h ∙ sym (one_on pass (point_tests s points at (i + 1) (m - (i + 1))) (cross_point_test s points at i) _ e refl)

  pub points-done : m ≤ i → pass ≡ x
  unfolding point_tests up_from verdict_in
  points-done h = sym (rw (none_left m i h) at inv)

pub passed-test : (ok : Bool) (class : FaultClass) (at : ℕ) → pass ≡ words.tested ok class at → ok ≡ true
passed-test true class at e = refl
passed-test false class at e = absurd (cc)

-- what its tests grant
pub cross-ok : (s : List ℕ) (points at : ℕ) → AllPass (cross_tests s points at) → CrossOk s points at
unfolding up_from
cross-ok s points at h = record {
  low = leb-true 2 (byte s at) (and_left (leb 2 (byte s at)) (leb (byte s at) 4) h.0);
  high = four;
  known = go;
}
  where
    four : byte s at ≤ 4
    four = leb-true (byte s at) 4 (and_right (leb 2 (byte s at)) (leb (byte s at) 4) h.0)

    one : (j : ℕ) → j < byte s at → (cross_point_test s points at j).0 ≡ true → byte s (at + 1 + j) < points
    one j l e =
        ltb-true (byte s (at + 1 + j)) points
        (sym (ap (λ (b : Bool). (cond {A = Test} b (ltb (byte s (at + 1 + j)) points, field, at + 1 + j) (eqb (byte s (at + 1 + j)) 255, unused, at + 1 + j)).0) (lt-ltb j (byte s at) l)) ∙ e)

    go : (j : ℕ) → j < byte s at → byte s (at + 1 + j) < points
    go zero l = unfold up_from in (one 0 l h.1.0)
    go (suc zero) l = unfold up_from in (one 1 l h.1.1.0)
    go (suc (suc zero)) l = unfold up_from in (one 2 l h.1.1.1.0)
    go (suc (suc (suc zero))) l = unfold up_from in (one 3 l h.1.1.1.1.0)
    go (suc (suc (suc (suc j)))) l = absurd (omega (arith, four))

-- the crosses of a section that is sound
pub crosses-ok : (s : List ℕ) (points at end : ℕ) → Ok end ≡ verdict_of (read_cross_section s points at) → CrossesOk s points (at + 2) (u16 s at)
unfolding read_cross_section read_cross
crosses-ok s points at end e i l =
    sound-got (read_cross_section s points at) end e λ xs g.
    bind_elim (section_count s 0 8) _ at g λ n next e₁ e₂.
    let c = section-count s 0 8 at n next e₁ in
    let rs = records s 13 (cross_tests s points) (cross_head s) (cross_head s at) n next xs end e₂ in
    let here : at + 2 + 13 * i ≡ next + i * 13 = omega (arith, c.begins) in
    subst (CrossOk s points) (sym here) (cross-ok s points (next + i * 13) (rs.2.record_at i (omega (arith, c.said, rs.0))).passed)

-- ---- cross bins

pub verdict-bin : (s : List ℕ) (points : List ℕ) (at : ℕ) → verdict_of (read_cross_bin s points at) ≡ verdict_of (read_cross_bin s [] at)
unfolding read_cross_bin
verdict-bin s points at = verdict_record s 3 (cross_bin_tests s) (cross_bin_head s points) at ∙ sym (verdict_record s 3 (cross_bin_tests s) (cross_bin_head s []) at)

pub bins_flat : (s : List ℕ) (cs : List CrossHead) (at : ℕ) → verdict_of (each (read_cross_bins s) cs at) ≡ verdict_of (times (sum_of cross_bins_owned cs) (read_cross_bin s []) at)
unfolding read_cross_bins
bins_flat s = each_times (read_cross_bins s) (read_cross_bin s []) cross_bins_owned λ h at.
    sym (bind_done (times h.bins (read_cross_bin s h.points)) (λ bs. record { head = h; bins = bs }) at _ refl)
    ∙ times-same (read_cross_bin s h.points) (read_cross_bin s []) (verdict-bin s h.points) h.bins at

pub bins_on : (s : List ℕ) (c n at sum next : ℕ) (y : Verdict) → sum ≡ sum_from 0 cross_bins_owned (cross_head s) 13 c n → Ok next ≡ verdict_of (owned_count s 128 sum at)
    → y ≡ verdict_of (times sum (read_cross_bin s []) next) → y ≡ verdict_of (read_cross_bin_section s (rows (cross_head s) 13 c n) at)
unfolding read_cross_bin_section sum_from
bins_on s c n at sum next y own e h =
    let total : sum ≡ sum_of cross_bins_owned (rows (cross_head s) 13 c n) = own ∙ omega arith in
    owned_on cross_bins_owned (cross_head s) 13 c n s 128 at sum (λ k. each (read_cross_bins s) (rows (cross_head s) 13 c n)) own next y e
    (h ∙ ap (λ (k : ℕ). verdict_of (times k (read_cross_bin s []) next)) total ∙ sym (bins_flat s (rows (cross_head s) 13 c n) next))

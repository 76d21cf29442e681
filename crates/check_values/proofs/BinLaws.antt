-- Value bins: the readers with what they read forgotten, and the search for a default, in the form in which `search` applies the laws.
-- Assumes nothing.
use Prim.Native.Nat.{ℕ, zero, suc, ◌+◌, ◌*◌, ◌-◌, ◌<◌, ◌≤◌}
use mathlib.Core.Path.{◌≡◌, refl, ap, ap₂, sym, ◌∙◌}
use mathlib.Core.Bool.{Bool, true, false, not, ◌&&◌, ◌||◌, cond, and-true}
use mathlib.Core.List.{List, [], ◌∷◌}
use native.Mathlib.Omega.{arith}
use native.Mathlib.Numerals.{add-one}
use lib.Dec.{eqb}
use lib.ListN.{length}
use borrow.Author.Rules.{rules}
use borrow.Author.Tests.{lt-leb, ne_eqb}
use Rattle.model.specs.Lists.{any}
use Rattle.model.specs.Table.{is_default}
use Rattle.model.specs.Format.{Read, got, and_then, byte, BinHead, bin_head, bin_tests, defaults_with, first_default, read_bin_heads}
use Rattle.std.proofs.Common.{Ok, Err}
use Rattle.words.specs.Verdicts.{Verdict, verdict_of}
use Rattle.words.specs.declared.verdicts.Fault.{Fault}
use Rattle.words.proofs.Laws.{verdict_stop, verdict-done, record-got, sound_record}
use Rattle.model.proofs.Booleans.{false-true}
use Rattle.model.proofs.Fields.{default-kind}
use Rattle.model.proofs.Lists.{none_left, one_left}
use Rattle.check_values.specs.Places.{defaults_up_to, read_bin, is_default_of}

heads_step : (s : List ℕ) (points base i n end : ℕ) → Ok end ≡ verdict_of (read_bin s points base i (base + 8 * i))
    → read_bin_heads s points (suc n) (defaults_up_to s base i) (base + 8 * i)
    ≡ and_then (read_bin_heads s points n (defaults_up_to s base (i + 1)) (base + 8 * (i + 1))) (λ hs end. got (bin_head s (base + 8 * i) ∷ hs) end)
unfolding read_bin_heads read_bin defaults_up_to
heads_step s points base i n end e =
    let at = base + 8 * i in
    let d = defaults_up_to s base i in
    let y : at + 8 ≡ base + 8 * (i + 1) = omega arith in
    ap (λ (m : Read BinHead). and_then m (λ h next. and_then (read_bin_heads s points n (defaults_with h d) next) λ hs end. got (h ∷ hs) end))
    (record-got s 8 (bin_tests s points d) (bin_head s) at end e)
    ∙ ap (λ (k : ℕ). and_then (read_bin_heads s points n (defaults_with (bin_head s at) d) k) (λ hs end. got (bin_head s at ∷ hs) end)) y
    ∙ ap (λ (k : ℕ). and_then (read_bin_heads s points n (defaults_up_to s base k) (base + 8 * (i + 1))) (λ hs end. got (bin_head s at ∷ hs) end)) (sym (add-one i))

module _ (s : List ℕ) (points base : ℕ) where
  pub heads_start : (m : ℕ) → verdict_of (read_bin_heads s points m [] base) ≡ verdict_of (read_bin_heads s points (m - 0) (defaults_up_to s base 0) (base + 8 * 0))
  unfolding defaults_up_to
  heads_start m = ap₂ (λ (k at : ℕ). verdict_of (read_bin_heads s points k [] at)) (let y : m ≡ m - 0 = omega arith in y) (let y : base ≡ base + 8 * 0 = omega arith in y)

  module _ (m i : ℕ) (x : Verdict) (inv : x ≡ verdict_of (read_bin_heads s points (m - i) (defaults_up_to s base i) (base + 8 * i))) where
    pub heads_done : i ≤ m → m ≤ i → Ok (base + 8 * m) ≡ x
    unfolding read_bin_heads verdict_of
    heads_done l h = ap (λ (at : ℕ). Ok at) (let y : base + 8 * m ≡ base + 8 * i = omega arith in y) ∙ sym (rw (none_left m i h) at inv)

    pub heads-stop : (f : Fault) → i < m → Err f ≡ verdict_of (read_bin s points base i (base + 8 * i)) → Err f ≡ x
    unfolding read_bin_heads read_bin
    heads-stop f h e =
        verdict_stop (read_bin s points base i (base + 8 * i)) (λ h next. and_then (read_bin_heads s points (m - (i + 1)) (defaults_with h (defaults_up_to s base i)) next) λ hs end. got (h ∷ hs) end) f e
        ∙ sym (rw (one_left m i h) at inv)

    pub heads-on : (end : ℕ) → i < m → Ok end ≡ verdict_of (read_bin s points base i (base + 8 * i))
        → x ≡ verdict_of (read_bin_heads s points (m - (i + 1)) (defaults_up_to s base (i + 1)) (base + 8 * (i + 1)))
    heads-on end h e =
        (rw (one_left m i h) at inv)
        ∙ ap verdict_of (heads_step s points base i (m - (i + 1)) end e)
        ∙ verdict-done (read_bin_heads s points (m - (i + 1)) (defaults_up_to s base (i + 1)) (base + 8 * (i + 1))) (λ hs. bin_head s (base + 8 * i) ∷ hs)

  pub bin_in : (i end : ℕ) → Ok end ≡ verdict_of (read_bin s points base i (base + 8 * i)) → base + 8 * (i + 1) ≤ length s
  unfolding read_bin
  bin_in i end e = omega (arith, (sound_record s 8 (bin_tests s points (defaults_up_to s base i)) (bin_head s) (base + 8 * i) end e).0)

pub ruleset headss = (rules, bin_in, heads_start, heads_done, heads-stop, heads-on)

-- the points with a default, from the last bin back
any_with : (p : ℕ) (h : BinHead) (ds : List ℕ) → any (eqb p) (defaults_with h ds) ≡ (is_default h.bin.kind && eqb p h.bin.point) || any (eqb p) ds
any_with p h ds = go (is_default h.bin.kind)
  where
    go : (b : Bool) → any (eqb p) (cond b (h.bin.point ∷ ds) ds) ≡ (b && eqb p h.bin.point) || any (eqb p) ds
    go true = unfold any in refl
    go false = refl

module _ (s : List ℕ) (base p k : ℕ) (x : Bool) (inv : x ≡ any (eqb p) (defaults_up_to s base k)) where
  pub defs_none : k ≤ 0 → false ≡ x
  unfolding any defaults_up_to
  defs_none h = sym (rw (let y : k ≡ 0 = omega arith in y) at inv)

  defs_step : 0 < k → x ≡ (is_default_of s p (base + 8 * (k - 1)) || any (eqb p) (defaults_up_to s base (k - 1)))
  unfolding defaults_up_to is_default_of
  defs_step h =
      (rw (let y : k ≡ suc (k - 1) = omega arith in y) at inv) ∙ any_with p (bin_head s (base + 8 * (k - 1))) (defaults_up_to s base (k - 1))
      ∙ ap (λ (b : Bool). (b && eqb p (byte s (base + 8 * (k - 1)))) || any (eqb p) (defaults_up_to s base (k - 1))) (default-kind (byte s (base + 8 * (k - 1) + 1)))

  pub defs_found : (r : Bool) → 0 < k → r ≡ is_default_of s p (base + 8 * (k - 1)) → r ≡ true → true ≡ x
  defs_found r h e z = sym (simp (sym e ∙ z) at (defs_step h))

  pub defs_on : (r : Bool) → 0 < k → r ≡ is_default_of s p (base + 8 * (k - 1)) → r ≡ false → x ≡ any (eqb p) (defaults_up_to s base (k - 1))
  defs_on r h e z = simp (sym e ∙ z) at (defs_step h)

pub ruleset defss = (rules, defs_none, defs_found, defs_on)

-- ---- a bin's tests

-- the two tests on its number, as one
pub number_tests : (b dealt some none : Bool) → (b && cond dealt some none) ≡ ((b && (not dealt || some)) && (dealt || none))
number_tests true true some none = sym (and-true some)
number_tests true false some none = refl
number_tests false dealt some none = refl

plain-kind : (kind : ℕ) → (eqb kind 0 || eqb kind 2) ≡ true → kind < 3
plain-kind zero e = omega arith
plain-kind (suc zero) e = omega arith
plain-kind (suc (suc zero)) e = omega arith
plain-kind (suc (suc (suc kind))) e =
    let k = suc (suc (suc kind)) in
    let a : eqb k 0 ≡ false = ne_eqb k 0 (λ q. omega (arith, q)) in
    let b : eqb k 2 ≡ false = ne_eqb k 2 (λ q. omega (arith, q)) in
    absurd (false-true (sym (ap₂ ◌||◌ a b) ∙ e))

-- a cover or an illegal bin is no default
pub first_plain : (s : List ℕ) (base i : ℕ) → (eqb (byte s (base + 8 * i + 1)) 0 || eqb (byte s (base + 8 * i + 1)) 2) ≡ true
    → first_default (bin_head s (base + 8 * i)) (defaults_up_to s base i) ≡ true
first_plain s base i h = rw (default-kind (byte s (base + 8 * i + 1)), lt-leb 3 (byte s (base + 8 * i + 1)) (plain-kind (byte s (base + 8 * i + 1)) h))

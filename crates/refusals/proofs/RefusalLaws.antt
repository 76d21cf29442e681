-- The tests of a register and of a call, by the facts of the table.
-- Assumes nothing.
use mathlib.Core.Path.{◌≡◌, refl, sym, ap, ap₂, ◌∙◌}
use mathlib.Core.Bool.{Bool, true, false, ◌&&◌, cond, and_assoc}
use mathlib.Core.List.{List, [], ◌∷◌, ◌++◌}
use Prim.Native.Nat.{ℕ, ◌+◌, ◌≤◌, ◌<◌}
use native.Mathlib.Omega.{arith}
use lib.Dec.{leb, ltb}
use lib.ListN.{length, take, drop}
use lib.Seq.{take-add, drop-drop}
use borrow.Author.Tests.{le-leb, lt-leb, lt-ltb, le-ltb}
use Rattle.model.specs.Lists.{all, first_failed}
use Rattle.model.specs.Table.{Table}
use Rattle.model.specs.Register.{point_total, counter_total, flag_of, samples_of, counts_of, unknowns_of, words_needed, consistent, long_enough, register_tests, call_tests}
use Rattle.model.proofs.Lists.{all-parts}
use Rattle.table.specs.declared.answer.Facts.{Facts}
use Rattle.std.proofs.Common.{Result, Err}
use Rattle.refusals.specs.Numbers.{number_of, pass}
use Rattle.refusals.specs.declared.refusal.Refusal.{Refusal}
use Rattle.refusals.specs.declared.refusal.Refusal.TheVariants.{Short, Inconsistent, NoPart}
use Rattle.refusals.proofs.Numbers.{never-none}
use Rattle.refusals.specs.Refusals.{Describes, words_of, at_most, consistent_at, RegisterRefusal, PartRefusal, ItemRefusal}

-- ---- the register

-- the counts and the unknown counts are one stretch of words
consistent_by : (t : Table) (w : List ℕ) (n : ℕ) → n ≡ counter_total t + point_total t → consistent_at n w ≡ consistent t w
unfolding consistent consistent_at counts_of unknowns_of
consistent_by t w n e =
    let c = counter_total t in
    let f = at_most (samples_of w) in
    ap (λ (k : ℕ). leb (flag_of w) 1 && all f (take k (drop 2 w))) e
    ∙ ap (λ (l : List ℕ). leb (flag_of w) 1 && all f l) (take-add c (point_total t) (drop 2 w) ∙ ap (λ (l : List ℕ). take c (drop 2 w) ++ take (point_total t) l) (drop-drop c 2 w))
    ∙ ap (leb (flag_of w) 1 &&◌) (all-parts f (take c (drop 2 w)) (take (point_total t) (drop (2 + c) w)))
    ∙ sym (and_assoc (leb (flag_of w) 1) (all f (take c (drop 2 w))) (all f (take (point_total t) (drop (2 + c) w))))

module _ (f : Facts) (w : List ℕ) where
  pub words_by : (t : Table) → Describes f t → words_of f ≡ words_needed t
  unfolding words_needed
  words_by t d = omega (arith, d.points, d.counters, d.runs)

  pub too_short : length w < words_of f → RegisterRefusal f w (Err Short)
  unfolding first_failed
  too_short h = record {
    exact = λ t d. rw (lt-leb (words_needed t) (length w) (omega (arith, words_by t d)));
    long = λ z. absurd (cc);
  }

  module _ (h : words_of f ≤ length w) (ok : Bool) (e : ok ≡ consistent_at (f.counters + f.points) w) where
    exact-by : (t : Table) → Describes f t → first_failed (register_tests t w) ≡ cond ok 0 8
    unfolding first_failed
    exact-by t d =
        ap₂ (λ (x y : Bool). cond x (cond y 0 8) 7) (le-leb (words_needed t) (length w) (omega (arith, words_by t d)))
        (sym (e ∙ consistent_by t w (f.counters + f.points) (omega (arith, d.points, d.counters))))

    pub register-passes : ok ≡ true → RegisterRefusal f w pass
    register-passes b = record {
      exact = λ t d. sym (exact-by t d ∙ ap (λ (x : Bool). cond x 0 8) b);
      long = λ z. h;
    }

    pub not-consistent : ok ≡ false → RegisterRefusal f w (Err Inconsistent)
    not-consistent b = record {
      exact = λ t d. sym (exact-by t d ∙ ap (λ (x : Bool). cond x 0 8) b);
      long = λ z. h;
    }

-- ---- what comes after the register's tests

register_stop : (a b : Bool) (rest : List (Bool × ℕ)) (x : Refusal) → number_of x ≡ first_failed ((a, 7) ∷ (b, 8) ∷ []) → number_of x ≡ first_failed ((a, 7) ∷ (b, 8) ∷ rest)
unfolding first_failed
register_stop true true rest x e = absurd (never-none x e)
register_stop true false rest x e = e
register_stop false b rest x e = e

register_on : (a b : Bool) (rest : List (Bool × ℕ)) → 0 ≡ first_failed ((a, 7) ∷ (b, 8) ∷ []) → first_failed ((a, 7) ∷ (b, 8) ∷ rest) ≡ first_failed rest
unfolding first_failed
register_on true true rest e = refl
register_on true false rest e = absurd (let y : 0 ≡ 8 = e in omega arith)
register_on false b rest e = absurd (let y : 0 ≡ 7 = e in omega arith)

module _ (f : Facts) (w : List ℕ) where
  pub after_stop : (x : Refusal) → RegisterRefusal f w (Err x) → (t : Table) → Describes f t → (rest : List (Bool × ℕ)) → number_of x ≡ first_failed (register_tests t w ++ rest)
  after_stop x known t d rest = register_stop (long_enough t w) (consistent t w) rest x (known.exact t d)

  pub after_on : RegisterRefusal f w pass → (t : Table) → Describes f t → (rest : List (Bool × ℕ)) → first_failed (register_tests t w ++ rest) ≡ first_failed rest
  after_on known t d rest = register_on (long_enough t w) (consistent t w) rest (known.exact t d)

  module _ (i n : ℕ) where
    pub part-stop : (x : Refusal) → RegisterRefusal f w (Err x) → PartRefusal f w i n (Err x)
    part-stop x known = record {
      exact = λ t d. after_stop x known t d ((ltb i n, 14) ∷ []);
      long = known.long;
      inside = λ e. absurd (cc);
    }

    module _ (known : RegisterRefusal f w pass) where
      pub part-passes : i < n → PartRefusal f w i n pass
      unfolding first_failed
      part-passes h = record {
        exact = λ t d. sym (after_on known t d ((ltb i n, 14) ∷ []) ∙ ap (λ (x : Bool). cond x 0 14) (lt-ltb i n h));
        long = λ e. known.long refl;
        inside = λ e. h;
      }

      pub no_part : n ≤ i → PartRefusal f w i n (Err NoPart)
      unfolding first_failed
      no_part h = record {
        exact = λ t d. sym (after_on known t d ((ltb i n, 14) ∷ []) ∙ ap (λ (x : Bool). cond x 0 14) (le-ltb i n h));
        long = λ e. known.long refl;
        inside = λ e. absurd (cc);
      }

pub item-part : (f : Facts) (w : List ℕ) (i items : ℕ) (r : Result Unit Refusal) → PartRefusal f w i items r → ItemRefusal f w i items r
unfolding call_tests
item-part f w i items r p = record {
  exact = λ t d e. p.exact t d ∙ ap (λ (n : ℕ). first_failed (register_tests t w ++ (ltb i n, 14) ∷ [])) e;
  long = p.long;
  inside = p.inside;
}

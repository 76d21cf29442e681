-- What the tests of an accepted sample grant.
-- Assumes nothing.
use mathlib.Core.Path.{◌≡◌, refl}
use mathlib.Core.Bool.{true, ◌&&◌}
use mathlib.Core.List.{List, [], ◌∷◌}
use Prim.Native.Nat.{ℕ, ◌+◌, ◌*◌, ◌≤◌, ◌<◌}
use native.Mathlib.Omega.{arith}
use lib.Dec.{leb, ltb, eqb}
use lib.ListN.{length}
use borrow.Author.Tests.{leb-true, lt-ltb, ltb-true, eqb-true}
use Rattle.model.specs.Lists.{all}
use Rattle.model.specs.Table.{Table}
use Rattle.model.specs.Register.{point_total, illegal_total, flag_of, samples_of, counts_of, unknowns_of, long_enough, consistent, in_widths, last_sample, call_tests}
use Rattle.model.proofs.Booleans.{and_left, and_right}
use Rattle.model.proofs.Lists.{first-passed}
use Rattle.samples.specs.Adds.{all_room}
use Rattle.samples.specs.Writes.{sample_refusal}

-- no count above the sample word, which is not the last
room : (k : ℕ) (ns : List ℕ) → k < 4294967295 → all (λ n. leb n k) ns ≡ true → all_room ns ≡ true
unfolding all all_room
room k [] h e = refl
room k (n ∷ ns) h e =
    let a = leb-true n k (and_left (leb n k) (all (λ n. leb n k) ns) e) in
    let b = lt-ltb n 4294967295 (omega arith) in
    rw b (room k ns h (and_right (leb n k) (all (λ n. leb n k) ns) e))

pub record Passed (t : Table) (s w r : List ℕ) : Type 0 where
  pub long : long_enough t w ≡ true
  pub counts : all_room (counts_of t w) ≡ true
  pub unknowns : all_room (unknowns_of t w) ≡ true
  pub sized : length s ≡ 4 + 2 * point_total t
  pub widths : in_widths t s ≡ true
  pub reported : illegal_total t ≤ length r
  pub samples : samples_of w < 4294967295

pub all-passed : (t : Table) (s w r : List ℕ) → sample_refusal t s w r ≡ 0 → Passed t s w r
unfolding call_tests consistent
all-passed t s w r e =
    let p₁ = first-passed (long_enough t w) 7 _ (omega arith) e in
    let p₂ = first-passed (consistent t w) 8 _ (omega arith) p₁.1 in
    let p₃ = first-passed (eqb (length s) (4 + 2 * point_total t)) 12 _ (omega arith) p₂.1 in
    let p₄ = first-passed (in_widths t s) 13 _ (omega arith) p₃.1 in
    let p₅ = first-passed (leb (illegal_total t) (length r)) 11 _ (omega arith) p₄.1 in
    let p₆ = first-passed (eqb (flag_of w) 1) 10 _ (omega arith) p₅.1 in
    let p₇ = first-passed (ltb (samples_of w) last_sample) 9 [] (omega arith) p₆.1 in
    let few : samples_of w < 4294967295 = ltb-true (samples_of w) last_sample p₇.0 in
    let ok = p₂.0 in
    let flag = leb (flag_of w) 1 in
    let ks = all (λ n. leb n (samples_of w)) (counts_of t w) in
    let us = all (λ n. leb n (samples_of w)) (unknowns_of t w) in
    record {
      long = p₁.0;
      counts = room (samples_of w) (counts_of t w) few (and_right flag ks (and_left (flag && ks) us ok));
      unknowns = room (samples_of w) (unknowns_of t w) few (and_right (flag && ks) us ok);
      sized = eqb-true (length s) (4 + 2 * point_total t) p₃.0;
      widths = p₄.0;
      reported = leb-true (illegal_total t) (length r) p₅.0;
      samples = few;
    }

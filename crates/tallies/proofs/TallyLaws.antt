-- Laws of tallies: a turn of the loops, and the tallies of a table's counters.
-- Assumes nothing.
use mathlib.Core.Path.{◌≡◌, refl, ap, ap₂, sym, ◌∙◌, subst}
use mathlib.Core.Bool.{Bool, true, false, ◌&&◌, cond}
use mathlib.Core.List.{List, [], ◌∷◌}
use native.Mathlib.Nat.{zero-add}
use Prim.Native.Nat.{ℕ, ◌+◌, ◌≤◌, ◌<◌}
use native.Mathlib.Omega.{arith}
use lib.Dec.{leb, eqb}
use lib.ListN.{length, drop, get_or, set, replicate, get_or-replicate, drop_of_length-le}
use lib.Seq.{get_or-set_same, get_or-set_other}
use borrow.Author.Tests.{eqb-true, eqb-false, eq-eqb}
use Rattle.model.specs.Lists.{count, as_bit}
use Rattle.model.specs.Table.{Table}
use Rattle.model.specs.Counters.{Counter}
use Rattle.model.specs.Figures.{in_total, item_of, at_least, of_item, total, covered}
use Rattle.model.proofs.Lists.{head_tail}
use Rattle.model.proofs.RunBits.{as_bit-le, as_bit_eqb}
use Rattle.arrays.specs.Flat.{total_flags, items_of}
use Rattle.tallies.specs.Tallies.{item_total, item_covered, no_tally, with_counter, Tallied, ItemNumbers}
use Rattle.tallies.specs.declared.ItemTally.{ItemTally}

-- ---- what is left of a pass

abbrev pub left_total : ℕ → List ℕ → List ℕ → ℕ → ℕ
left_total j xs fs i = item_total j (drop i xs) (drop i fs)

abbrev pub left_covered : ℕ → ℕ → List ℕ → List ℕ → List ℕ → ℕ → ℕ
left_covered j least xs fs ns i = item_covered j least (drop i xs) (drop i fs) (drop i ns)

total_end : (j : ℕ) (xs fs : List ℕ) (i : ℕ) → length xs ≤ i → left_total j xs fs i ≡ 0
unfolding item_total
total_end j xs fs i h = rw (drop_of_length-le xs h)

covered-end : (j least : ℕ) (xs fs ns : List ℕ) (i : ℕ) → length xs ≤ i → left_covered j least xs fs ns i ≡ 0
unfolding item_covered
covered-end j least xs fs ns i h = rw (drop_of_length-le xs h)

module _ (xs fs ns : List ℕ) (i : ℕ) (h : i < length xs) (hf : length xs ≤ length fs) (hn : length xs ≤ length ns) where
  total_turn : (j : ℕ) → left_total j xs fs i ≡ as_bit (eqb (get_or xs i 0) j && eqb (get_or fs i 0) 1) + left_total j xs fs (i + 1)
  unfolding item_total
  total_turn j = rw (head_tail xs i 0 h, head_tail fs i 0 (omega arith))

  covered_turn : (j least : ℕ) → left_covered j least xs fs ns i
      ≡ as_bit ((eqb (get_or xs i 0) j && eqb (get_or fs i 0) 1) && leb least (get_or ns i 0)) + left_covered j least xs fs ns (i + 1)
  unfolding item_covered
  covered_turn j least = rw (head_tail xs i 0 h, head_tail fs i 0 (omega arith), head_tail ns i 0 (omega arith))

-- ---- bounds

total-le : (j : ℕ) (xs fs : List ℕ) → item_total j xs fs ≤ length xs
unfolding item_total
total-le j [] fs = omega arith
total-le j (x ∷ xs) [] = omega arith
total-le j (x ∷ xs) (f ∷ fs) = omega (arith, as_bit-le (eqb x j && eqb f 1), total-le j xs fs)

covered_len : (j least : ℕ) (xs fs ns : List ℕ) → item_covered j least xs fs ns ≤ length xs
unfolding item_covered
covered_len j least [] fs ns = omega arith
covered_len j least (x ∷ xs) [] ns = omega arith
covered_len j least (x ∷ xs) (f ∷ fs) [] = omega arith
covered_len j least (x ∷ xs) (f ∷ fs) (n ∷ ns) = omega (arith, as_bit-le ((eqb x j && eqb f 1) && leb least n), covered_len j least xs fs ns)

pub item-few : (xs : List ℕ) → ItemNumbers xs → (i k : ℕ) → i < length xs → k ≡ get_or xs i 0 → k < 24
unfolding ItemNumbers
item-few xs few i k h e = omega (arith, few i h)

-- ---- the tallies of a table's counters

bit-cond : (b : Bool) → as_bit b ≡ cond b 1 0
bit-cond true = refl
bit-cond false = refl

pub total_exact : (t : Table) (j : ℕ) (cs : List Counter) → item_total j (items_of t cs) (total_flags t cs) ≡ total t j cs
unfolding item_total items_of total_flags total count
total_exact t j [] = refl
total_exact t j (c ∷ cs) =
    ap₂ ◌+◌ (ap (λ (b : Bool). as_bit (eqb (item_of t c) j && b)) (as_bit_eqb (in_total t c)) ∙ bit-cond (of_item t j c)) (total_exact t j cs)

pub covered-exact : (t : Table) (j : ℕ) (cs : List Counter) (ns : List ℕ) → item_covered j (at_least t j) (items_of t cs) (total_flags t cs) ns ≡ covered t j cs ns
unfolding item_covered items_of total_flags covered
covered-exact t j [] ns = refl
covered-exact t j (c ∷ cs) [] = refl
covered-exact t j (c ∷ cs) (n ∷ ns) =
    ap₂ ◌+◌ (ap (λ (b : Bool). as_bit ((eqb (item_of t c) j && b) && leb (at_least t j) n)) (as_bit_eqb (in_total t c)) ∙ bit-cond (of_item t j c && leb (at_least t j) n)) (covered-exact t j cs ns)

-- ---- the tallies so far

-- with what is left, a tally comes to that of all counters
pub record Ahead (xs fs ns : List ℕ) (i j least : ℕ) (r : ItemTally) : Type 0 where
  pub total : r.total + left_total j xs fs i ≡ item_total j xs fs
  pub covered : r.covered + left_covered j least xs fs ns i ≡ item_covered j least xs fs ns

abbrev pub AllAhead : List ℕ → List ℕ → List ℕ → List ℕ → ℕ → List ItemTally → Type 0
AllAhead xs fs ns leasts i rs = (j : ℕ) → j < 24 → Ahead xs fs ns i j (get_or leasts j 0) (get_or rs j no_tally)

module _ (xs fs ns leasts : List ℕ) where
  pub none-ahead : AllAhead xs fs ns leasts 0 (replicate 24 no_tally)
  none-ahead j h = subst (Ahead xs fs ns 0 j (get_or leasts j 0)) (sym (get_or-replicate 24 j no_tally no_tally h)) record { total = zero-add _; covered = zero-add _ }

  pub few-ahead : (i j least : ℕ) (r : ItemTally) → Ahead xs fs ns i j least r → (r.total ≤ length xs) × (r.covered ≤ length xs)
  few-ahead i j least r a = (omega (arith, a.total, total-le j xs fs), omega (arith, a.covered, covered_len j least xs fs ns))

  pub all-tallied : (i : ℕ) (rs : List ItemTally) → length xs ≤ i → length rs ≡ 24 → AllAhead xs fs ns leasts i rs → Tallied xs fs ns leasts rs
  all-tallied i rs h e a = record {
    sized = e;
    totals = λ j l. omega (arith, total_end j xs fs i h, (a j l).total);
    covered = λ j l. omega (arith, covered-end j (get_or leasts j 0) xs fs ns i h, (a j l).covered);
  }

  module _ (i : ℕ) (h : i < length xs) (hf : length xs ≤ length fs) (hn : length xs ≤ length ns) (x : ℕ) (ex : x ≡ get_or xs i 0) where
    abbrev hit : Bool
    hit = eqb (get_or fs i 0) 1

    abbrev enough : Bool
    enough = hit && leb (get_or leasts x 0) (get_or ns i 0)

    own-ahead : (r : ItemTally) → Ahead xs fs ns i x (get_or leasts x 0) r → Ahead xs fs ns (i + 1) x (get_or leasts x 0) (with_counter r hit enough)
    own-ahead r a =
        let own : eqb (get_or xs i 0) x ≡ true = eq-eqb (get_or xs i 0) x (sym ex) in
        let u = total_turn xs fs ns i h hf hn x in
        let v = covered_turn xs fs ns i h hf hn x (get_or leasts x 0) in
        let t : left_total x xs fs i ≡ as_bit hit + left_total x xs fs (i + 1) = (rw own at u) in
        let c : left_covered x (get_or leasts x 0) xs fs ns i ≡ as_bit enough + left_covered x (get_or leasts x 0) xs fs ns (i + 1) = (rw own at v) in
        record { total = omega (arith, t, a.total); covered = omega (arith, c, a.covered) }

    other-ahead : (j : ℕ) (r : ItemTally) → eqb x j ≡ false → Ahead xs fs ns i j (get_or leasts j 0) r → Ahead xs fs ns (i + 1) j (get_or leasts j 0) r
    other-ahead j r e a =
        let other : eqb (get_or xs i 0) j ≡ false = (rw ex at e) in
        let u = total_turn xs fs ns i h hf hn j in
        let v = covered_turn xs fs ns i h hf hn j (get_or leasts j 0) in
        let t : left_total j xs fs i ≡ 0 + left_total j xs fs (i + 1) = (rw other at u) in
        let c : left_covered j (get_or leasts j 0) xs fs ns i ≡ 0 + left_covered j (get_or leasts j 0) xs fs ns (i + 1) = (rw other at v) in
        record { total = omega (arith, t, a.total); covered = omega (arith, c, a.covered) }

    -- the tally of x is raised, the others stay
    pub turn-ahead : (rs : List ItemTally) (v : ItemTally) → x < 24 → length rs ≡ 24 → AllAhead xs fs ns leasts i rs → v ≡ with_counter (get_or rs x no_tally) hit enough
        → AllAhead xs fs ns leasts (i + 1) (set rs x v)
    turn-ahead rs v k e a ev j l = go (eqb x j) refl
      where
        go : (b : Bool) → eqb x j ≡ b → Ahead xs fs ns (i + 1) j (get_or leasts j 0) (get_or (set rs x v) j no_tally)
        go true q =
            let same : get_or (set rs x v) x no_tally ≡ with_counter (get_or rs x no_tally) hit enough = get_or-set_same rs x v no_tally (omega arith) ∙ ev in
            subst (λ (y : ℕ). Ahead xs fs ns (i + 1) y (get_or leasts y 0) (get_or (set rs x v) y no_tally)) (eqb-true x j q)
            (subst (Ahead xs fs ns (i + 1) x (get_or leasts x 0)) (sym same) (own-ahead (get_or rs x no_tally) (a x k)))
        go false q =
            let other : get_or (set rs x v) j no_tally ≡ get_or rs j no_tally = get_or-set_other rs x j v no_tally (λ y. eqb-false x j q (sym y)) in
            subst (Ahead xs fs ns (i + 1) j (get_or leasts j 0)) (sym other) (other-ahead j (get_or rs j no_tally) q (a j l))

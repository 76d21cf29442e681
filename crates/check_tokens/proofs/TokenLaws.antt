-- Section 10: the tests of a token by its fields, and how many expressions tokens make.
-- Assumes nothing.
use Prim.Native.Nat.{ℕ, zero, suc, ◌+◌, ◌-◌, ◌*◌, ◌<◌, ◌≤◌}
use Rattle.std.proofs.Common.{Result, Ok, Err}
use Rattle.std.proofs.lemmas.List.{get_or_past}
use mathlib.Core.Path.{◌≡◌, refl, ap, ap₂, sym, ◌∙◌, subst}
use mathlib.Core.Bool.{Bool, true, false, not, ◌&&◌, ◌||◌, cond}
use mathlib.Core.List.{List, [], ◌∷◌, ◌++◌}
use mathlib.Core.Option.{Option, none, some}
use native.Mathlib.Omega.{arith}
use lib.Dec.{leb, ltb, eqb, eqb-zero-suc, eqb-suc-zero, eqb-suc-suc}
use lib.ListN.{length, get_or}
use borrow.Author.Rules.{rules}
use borrow.Author.Tests.{ltb-true, ltb-false, eqb-true, lt-leb, le-leb, eq-eqb}
use Rattle.model.specs.Table.{Point, Select, negated, no_point, is_cover}
use Rattle.model.specs.Format.{Test, field, unused, disagreement, byte, u16, u64, point_record, BinHead, bin_head, no_bin_head, value_tests, cross_points, cover_bin_of, token_rules, token_tests, token_record, token_from, Token, leaf, not_token, and_token, or_token, is_leaf, with_token, expressions}
use Rattle.model.specs.Raw.{rows, points_at}
use Rattle.model.specs.Values.{field_value}
use Rattle.model.proofs.Booleans.{false-true, or-false-right}
use Rattle.model.proofs.RawLaws.{length-rows, get_d_rows}
use Rattle.words.specs.Verdicts.{class_of, fault_at, verdict_in, pass}
use Rattle.words.specs.declared.verdicts.Fault.{Fault}
use Rattle.model.proofs.Fields.{cover-kind}
use Rattle.model.proofs.Lists.{none_left, one_left, length-row, get_d-row}
use Rattle.ranges.specs.Types.{typed}
use Rattle.check_tokens.specs.Tokens.{CrossOk, name_fields, value_fields, found, wanted_after, lacks}
use Rattle.words.proofs.Laws.{passing, tests, tests_stop, tests_on, verdict_in-append}

-- ---- the point at a position

pub point_in : (s : List ℕ) (c i r : ℕ) → i < byte s c → r ≡ byte s (c + 1 + i) → r ≡ get_or (cross_points s c) i 0
point_in s c i r h e =
    e ∙ ap (λ (j : ℕ). byte s (c + 1 + j)) (let y : i ≡ 0 + i = omega arith in y) ∙ sym (get_d-row (λ j. byte s (c + 1 + j)) 0 (byte s c) i 0 h)

pub point-out : (s : List ℕ) (c i r : ℕ) → byte s c ≤ i → r ≡ 0 → r ≡ get_or (cross_points s c) i 0
point-out s c i r h e = e ∙ sym (get_or_past (cross_points s c) i 0 (rw (length-row (λ j. byte s (c + 1 + j)) 0 (byte s c)) h))

-- the same, of what was read
pub position_in : (s : List ℕ) (c i n r : ℕ) → n ≡ byte s c → i < n → r ≡ byte s (c + 1 + i) → r ≡ get_or (cross_points s c) i 0
position_in s c i n r e h f = point_in s c i r (omega arith) f

pub position-out : (s : List ℕ) (c i n r : ℕ) → n ≡ byte s c → n ≤ i → r ≡ 0 → r ≡ get_or (cross_points s c) i 0
position-out s c i n r e h f = point-out s c i r (omega arith) f

pub ruleset positions = (rules, position_in, position-out)

-- it is one of the table's points
pub point-known : (s : List ℕ) (np c i : ℕ) → CrossOk s np c → get_or (cross_points s c) i 0 < np
point-known s np c i h = go (ltb i (byte s c)) refl
  where
    go : (b : Bool) → ltb i (byte s c) ≡ b → get_or (cross_points s c) i 0 < np
    go true e =
        let k = ltb-true i (byte s c) e in
        subst (λ (p : ℕ). p < np) (point_in s c i (byte s (c + 1 + i)) k refl) (h.known i k)
    go false e =
        let z : 0 ≡ get_or (cross_points s c) i 0 = point-out s c i 0 (search rules) refl in
        let y = h.known 0 (omega (arith, h.low)) in
        omega arith

pub point_below_lem : (s : List ℕ) (np c i r : ℕ) → CrossOk s np c → r ≡ get_or (cross_points s c) i 0 → r < np
point_below_lem s np c i r h e = let y = point-known s np c i h in omega arith

-- ---- a value bin by its number

pub cover-bin : (s : List ℕ) (bins nb p b : ℕ)
    → cover_bin_of (rows (bin_head s) 8 bins nb) p b ≡ (ltb b nb && eqb (byte s (bins + 8 * b + 1)) 0 && eqb (byte s (bins + 8 * b)) p)
unfolding cover_bin_of
cover-bin s bins nb p b =
    ap (λ (n : ℕ). ltb b n && is_cover (get_or (rows (bin_head s) 8 bins nb) b no_bin_head).bin.kind && eqb (get_or (rows (bin_head s) 8 bins nb) b no_bin_head).bin.point p) (length-rows (bin_head s) 8 bins nb)
    ∙ go (ltb b nb) refl
  where
    go : (l : Bool) → ltb b nb ≡ l
        → (l && is_cover (get_or (rows (bin_head s) 8 bins nb) b no_bin_head).bin.kind && eqb (get_or (rows (bin_head s) 8 bins nb) b no_bin_head).bin.point p)
        ≡ (l && eqb (byte s (bins + 8 * b + 1)) 0 && eqb (byte s (bins + 8 * b)) p)
    go true e =
        ap (λ (h : BinHead). is_cover h.bin.kind && eqb h.bin.point p) (get_d_rows (bin_head s) 8 bins nb b no_bin_head (ltb-true b nb e))
        ∙ ap (λ (x : Bool). x && eqb (byte s (bins + 8 * b)) p) (cover-kind (byte s (bins + 8 * b + 1)))
    go false e = refl

-- ---- a token's tests

-- one of them made in another function, and several, with others after them
module _ {A : Type 0} (rest : Result A Fault) (others : List Test) where
  pub one_stop : (x : Test) (f : Fault) → Err f ≡ verdict_in (x ∷ []) pass → Err f ≡ verdict_in (x ∷ others) rest
  unfolding verdict_in
  one_stop (true, class, at) f h = absurd (cc)
  one_stop (false, class, at) f h = ap (λ (q : Fault). Err q) (let y : f ≡ fault_at (class_of class) at = cc in y)

  pub one_on : (x : Test) (r : Result A Fault) → pass ≡ verdict_in (x ∷ []) pass → r ≡ verdict_in others rest → r ≡ verdict_in (x ∷ others) rest
  unfolding verdict_in
  one_on (true, class, at) r h e = e
  one_on (false, class, at) r h e = absurd (cc)

  pub some_stop : (xs : List Test) (f : Fault) → Err f ≡ verdict_in xs pass → Err f ≡ verdict_in (xs ++ others) rest
  some_stop xs f h = tests_stop xs (verdict_in others rest) f h ∙ sym (verdict_in-append xs others rest)

  pub some_on : (xs : List Test) (r : Result A Fault) → pass ≡ verdict_in xs pass → r ≡ verdict_in others rest → r ≡ verdict_in (xs ++ others) rest
  some_on xs r h e = tests_on xs (verdict_in others rest) r h e ∙ sym (verdict_in-append xs others rest)

pub ruleset token-tests = (tests, one_stop, one_on, some_stop, some_on)

-- the tests on op, position and bin passed: what is left are those after them
pub fields_on : {A : Type 0} (parts : ℕ) (p : Point) (op position b lo hi : ℕ) (names : Bool) (at : ℕ) (rest r : Result A Fault)
    → pass ≡ verdict_in (name_fields parts op position b at) pass → r ≡ verdict_in (value_fields p op lo hi at ++ (not (eqb op 1) || names, disagreement, at) ∷ []) rest
    → r ≡ verdict_in (token_rules parts p op position b lo hi names at) rest
unfolding token_rules name_fields value_fields
fields_on parts p op position b lo hi names at rest r h e = some_on rest (value_fields p op lo hi at ++ (not (eqb op 1) || names, disagreement, at) ∷ []) (name_fields parts op position b at) r h e

-- the bools of those tests, as the code has them
pub name_passing : (parts op position b at : ℕ) → ((leb op 5 && cond (leb op 2) (ltb position parts) (eqb position 0)) && (eqb op 1 || eqb b 0)) ≡ passing true (name_fields parts op position b at)
unfolding passing name_fields
name_passing parts op position b at = go (leb op 2)
  where
    go : (l : Bool) → ((leb op 5 && cond l (ltb position parts) (eqb position 0)) && (eqb op 1 || eqb b 0))
        ≡ passing true ((leb op 5, field, at) ∷ cond l (ltb position parts, field, at + 1) (eqb position 0, unused, at + 1) ∷ (eqb op 1 || eqb b 0, unused, at + 2) ∷ [])
    go true = refl
    go false = refl

-- a point's type is its width and its sign
pub values-typed : (p : Point) (a b at : ℕ) → value_tests p a b at ≡ value_tests (typed p.width p.signed) a b at
unfolding value_tests
values-typed p a b at = refl

-- the tests of the token at `at` of the cross at c, by its fields
pub token_tests_lem : (s : List ℕ) (points np bins nb c at : ℕ) → CrossOk s np c
    → token_tests s (points_at s points np) (rows (bin_head s) 8 bins nb) (cross_points s c) at
    ≡ token_rules (byte s c) (point_record s (points + 11 * get_or (cross_points s c) (byte s (at + 1)) 0)) (byte s at) (byte s (at + 1)) (u16 s (at + 2)) (u64 s (at + 4)) (u64 s (at + 12))
    (cover_bin_of (rows (bin_head s) 8 bins nb) (get_or (cross_points s c) (byte s (at + 1)) 0) (u16 s (at + 2))) at
token_tests_lem s points np bins nb c at h =
    ap₂ with (length-row (λ i. byte s (c + 1 + i)) 0 (byte s c)) (get_d_rows (point_record s) 11 points np p no_point (point-known s np c (byte s (at + 1)) h))
  where
    p : ℕ
    p = get_or (cross_points s c) (byte s (at + 1)) 0

    with : ℕ → Point → List Test
    with n q = token_rules n q (byte s at) (byte s (at + 1)) (u16 s (at + 2)) (u64 s (at + 4)) (u64 s (at + 12)) (cover_bin_of (rows (bin_head s) 8 bins nb) p (u16 s (at + 2))) at

-- ---- how many expressions

abbrev after : Token → Option (List Select) → Option (List Select)
after k o = elim o [ none ↦ none | some es ↦ with_token k es ]

-- whether the first expression is a leaf, if there is one
abbrev First : Bool → Option (List Select) → Type 0
First b none = Unit {0}
First b (some []) = Unit {0}
First b (some (e ∷ es)) = is_leaf e ≡ b

first_of : (op i b lo hi : ℕ) (o : Option (List Select)) → First (leb op 2) (after (token_from op i b lo hi) o)
first_of zero i b lo hi none = tt
first_of zero i b lo hi (some es) = refl
first_of (suc zero) i b lo hi none = tt
first_of (suc zero) i b lo hi (some es) = refl
first_of (suc (suc zero)) i b lo hi none = tt
first_of (suc (suc zero)) i b lo hi (some es) = refl
first_of (suc (suc (suc zero))) i b lo hi none = tt
first_of (suc (suc (suc zero))) i b lo hi (some []) = tt
first_of (suc (suc (suc zero))) i b lo hi (some (e ∷ es)) = go (is_leaf e)
  where
    go : (l : Bool) → First false (cond l (some (negated e ∷ es)) none)
    go true = refl
    go false = tt
first_of (suc (suc (suc (suc zero)))) i b lo hi none = tt
first_of (suc (suc (suc (suc zero)))) i b lo hi (some []) = tt
first_of (suc (suc (suc (suc zero)))) i b lo hi (some (e ∷ [])) = tt
first_of (suc (suc (suc (suc zero)))) i b lo hi (some (e ∷ f ∷ es)) = refl
first_of (suc (suc (suc (suc (suc n))))) i b lo hi none = tt
first_of (suc (suc (suc (suc (suc n))))) i b lo hi (some []) = tt
first_of (suc (suc (suc (suc (suc n))))) i b lo hi (some (e ∷ [])) = tt
first_of (suc (suc (suc (suc (suc n))))) i b lo hi (some (e ∷ f ∷ es)) = sym (lt-leb (suc (suc (suc (suc (suc n))))) 2 (omega arith))

-- after a token there is an expression
none_wanted : (k : Token) (o : Option (List Select)) → found 0 (after k o) ≡ false
unfolding found
none_wanted k none = refl
none_wanted (leaf e) (some es) = eqb-zero-suc (length es)
none_wanted not_token (some []) = refl
none_wanted not_token (some (e ∷ es)) = go (is_leaf e)
  where
    go : (l : Bool) → found 0 (cond l (some (negated e ∷ es)) none) ≡ false
    go true = unfold found in (eqb-zero-suc (length es))
    go false = unfold found in refl
none_wanted and_token (some []) = refl
none_wanted and_token (some (e ∷ [])) = refl
none_wanted and_token (some (e ∷ f ∷ es)) = eqb-zero-suc (length es)
none_wanted or_token (some []) = refl
none_wanted or_token (some (e ∷ [])) = refl
none_wanted or_token (some (e ∷ f ∷ es)) = eqb-zero-suc (length es)

not-before : (w : ℕ) (o : Option (List Select)) → First false o → found w (after not_token o) ≡ false
unfolding found
not-before w none h = refl
not-before w (some []) h = refl
not-before w (some (e ∷ es)) h = ap (λ (l : Bool). found w (cond l (some (negated e ∷ es)) none)) h

leaf_on : (e : Select) (w : ℕ) (o : Option (List Select)) → found (suc w) (after (leaf e) o) ≡ found w o
unfolding found
leaf_on e w none = refl
leaf_on e w (some es) = eqb-suc-suc w (length es)

not_on : (w : ℕ) (o : Option (List Select)) → First true o → found (suc w) (after not_token o) ≡ found (suc w) o
unfolding found
not_on w none h = refl
not_on w (some []) h = sym (eqb-suc-zero w)
not_on w (some (e ∷ es)) h = ap (λ (l : Bool). found (suc w) (cond l (some (negated e ∷ es)) none)) h

and_on : (w : ℕ) (o : Option (List Select)) → found (suc w) (after and_token o) ≡ found (suc (suc w)) o
unfolding found
and_on w none = refl
and_on w (some []) = sym (eqb-suc-zero (suc w))
and_on w (some (e ∷ [])) = sym (eqb-suc-suc (suc w) 0 ∙ eqb-suc-zero w)
and_on w (some (e ∷ f ∷ es)) = sym (eqb-suc-suc (suc w) (suc (length es)))

or_on : (w : ℕ) (o : Option (List Select)) → found (suc w) (after or_token o) ≡ found (suc (suc w)) o
unfolding found
or_on w none = refl
or_on w (some []) = sym (eqb-suc-zero (suc w))
or_on w (some (e ∷ [])) = sym (eqb-suc-suc (suc w) 0 ∙ eqb-suc-zero w)
or_on w (some (e ∷ f ∷ es)) = sym (eqb-suc-suc (suc w) (suc (length es)))

-- how many are wanted after a leaf, a not, an and or an or
wanted-leaf : (op w : ℕ) → op ≤ 2 → w ≡ wanted_after op (suc w)
unfolding wanted_after
wanted-leaf op w h = rw (le-leb op 2 h) (omega arith)

wanted-more : (op w : ℕ) → 3 < op → suc w ≡ wanted_after op w
unfolding wanted_after
wanted-more op w h = let l : 2 < op = omega arith in rw (lt-leb op 2 l, lt-leb op 3 h) (omega arith)

-- one token more
token_on : (op i b lo hi w : ℕ) (o : Option (List Select)) → (op ≡ 3 → First true o) → found (suc w) (after (token_from op i b lo hi) o) ≡ found (wanted_after op (suc w)) o
unfolding wanted_after
token_on zero i b lo hi w o h = leaf_on _ w o ∙ ap (λ (n : ℕ). found n o) (wanted-leaf 0 w (omega arith))
token_on (suc zero) i b lo hi w o h = leaf_on _ w o ∙ ap (λ (n : ℕ). found n o) (wanted-leaf 1 w (omega arith))
token_on (suc (suc zero)) i b lo hi w o h = leaf_on _ w o ∙ ap (λ (n : ℕ). found n o) (wanted-leaf 2 w (omega arith))
token_on (suc (suc (suc zero))) i b lo hi w o h = not_on w o (h refl)
token_on (suc (suc (suc (suc zero)))) i b lo hi w o h = and_on w o ∙ ap (λ (n : ℕ). found n o) (wanted-more 4 (suc w) (omega arith))
token_on (suc (suc (suc (suc (suc n))))) i b lo hi w o h = or_on w o ∙ ap (λ (n : ℕ). found n o) (wanted-more (suc (suc (suc (suc (suc n))))) (suc w) (omega arith))

module _ (s : List ℕ) where
  abbrev left : ℕ → ℕ → ℕ → Bool
  left w at n = found w (expressions (rows (token_record s) 20 at n))

  -- whether the first of some tokens is a leaf
  first_at : (at n : ℕ) → First (leb (byte s at) 2) (expressions (rows (token_record s) 20 at n))
  unfolding rows expressions
  first_at at zero = tt
  first_at at (suc n) = first_of (byte s at) _ _ _ _ (expressions (rows (token_record s) 20 (at + 20) n))

  module _ (m i at w : ℕ) (x : Bool) (inv : x ≡ left w at (m - i)) where
    pub wants-done : (r : Bool) → m ≤ i → r ≡ eqb w 0 → r ≡ x
    unfolding rows expressions found
    wants-done r h e = e ∙ sym (rw (none_left m i h) at inv)

    stop : (l r : Bool) → i < m → l ≡ lacks (byte s at) (byte s (at + 20)) w → l ≡ true → r ≡ false → r ≡ x
    unfolding rows expressions lacks
    stop l r h e t f = f ∙ sym ((rw (one_left m i h) at inv) ∙ go (eqb w 0) refl (sym e ∙ t))
      where
        rest : Option (List Select)
        rest = expressions (rows (token_record s) 20 (at + 20) (m - (i + 1)))

        not-leaf : (b : Bool) → eqb (byte s at) 3 ≡ b → (b && ltb 2 (byte s (at + 20))) ≡ true → found w (after (token_record s at) rest) ≡ false
        not-leaf true k q =
            let g : First false rest = subst (λ (b : Bool). First b rest) (lt-leb (byte s (at + 20)) 2 (ltb-true 2 (byte s (at + 20)) q)) (first_at (at + 20) (m - (i + 1))) in
            ap (λ (op : ℕ). found w (after (token_from op (byte s (at + 1)) (u16 s (at + 2)) (field_value (u64 s (at + 4))) (field_value (u64 s (at + 12)))) rest)) (eqb-true (byte s at) 3 k) ∙ not-before w rest g
        not-leaf false k q = absurd (false-true q)

        go : (b : Bool) → eqb w 0 ≡ b → (b || (eqb (byte s at) 3 && ltb 2 (byte s (at + 20)))) ≡ true → found w (after (token_record s at) rest) ≡ false
        go true k q = ap (λ (n : ℕ). found n (after (token_record s at) rest)) (eqb-true w 0 k) ∙ none_wanted (token_record s at) rest
        go false k q = not-leaf (eqb (byte s at) 3) refl q

    pub wants-stop : (op next : ℕ) (l r : Bool) → op ≡ byte s at → next ≡ byte s (at + 20) → i < m → l ≡ lacks op next w → l ≡ true → r ≡ false → r ≡ x
    wants-stop op next l r p q h e t f = stop l r h (e ∙ ap₂ (λ (a b : ℕ). lacks a b w) p q) t f

    on : (l : Bool) (r : ℕ) → i < m → l ≡ lacks (byte s at) (byte s (at + 20)) w → l ≡ false → r ≡ wanted_after (byte s at) w → x ≡ left r (at + 20) (m - (i + 1))
    unfolding rows expressions lacks
    on l r h e t f = (rw (one_left m i h) at inv) ∙ step w (sym e ∙ t) ∙ ap (λ (n : ℕ). found n rest) (sym f)
      where
        rest : Option (List Select)
        rest = expressions (rows (token_record s) 20 (at + 20) (m - (i + 1)))

        leaf-next : (b : Bool) → byte s at ≡ 3 → (b || (eqb (byte s at) 3 && ltb 2 (byte s (at + 20)))) ≡ false → First true rest
        leaf-next b k q =
            let y : (eqb (byte s at) 3 && ltb 2 (byte s (at + 20))) ≡ false = or-false-right b _ q in
            let z : ltb 2 (byte s (at + 20)) ≡ false = sym (ap (λ (c : Bool). c && ltb 2 (byte s (at + 20))) (eq-eqb (byte s at) 3 k)) ∙ y in
            subst (λ (b : Bool). First b rest) (le-leb (byte s (at + 20)) 2 (ltb-false 2 (byte s (at + 20)) z)) (first_at (at + 20) (m - (i + 1)))

        step : (w : ℕ) → (eqb w 0 || (eqb (byte s at) 3 && ltb 2 (byte s (at + 20)))) ≡ false → found w (after (token_record s at) rest) ≡ found (wanted_after (byte s at) w) rest
        step zero q = absurd (false-true (sym q))
        step (suc w) q = token_on (byte s at) _ _ _ _ w rest (λ k. leaf-next (eqb (suc w) 0) k q)

    pub wants-on : (op next : ℕ) (l : Bool) (r : ℕ) → op ≡ byte s at → next ≡ byte s (at + 20) → i < m → l ≡ lacks op next w → l ≡ false → r ≡ wanted_after op w → x ≡ left r (at + 20) (m - (i + 1))
    wants-on op next l r p q h e t f = on l r h (e ∙ ap₂ (λ (a b : ℕ). lacks a b w) p q) t (f ∙ ap (λ (a : ℕ). wanted_after a w) p)

pub wanted-small : (op w r : ℕ) → r ≡ wanted_after op w → r ≤ w + 1
unfolding wanted_after
wanted-small op w r e = go (leb op 2) (leb op 3) e
  where
    go : (a b : Bool) → r ≡ cond a (w - 1) (cond b w (w + 1)) → r ≤ w + 1
    go true b e = omega arith
    go false true e = omega arith
    go false false e = omega arith

pub ruleset wants = (rules, wants-done, wants-stop, wants-on)

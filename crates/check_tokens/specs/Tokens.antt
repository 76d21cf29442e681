-- Section 10 as inner code tests it: by fields, and by counts in place of lists.
-- Assumes nothing.
use Rattle.std.specs.Prelude.{ℕ, ◌+◌, ◌-◌, ◌<◌, ◌≤◌, Bool, false, ◌&&◌, ◌||◌, cond, List, [], ◌∷◌, leb, ltb, eqb, length}
use Rattle.std.proofs.Math.Option.{Option, none, some}
use Rattle.model.specs.Table.{Point, Select}
use Rattle.model.specs.Format.{Test, field, unused, byte, u16, u64, value_tests}
use Rattle.check_tokens.specs.declared.tokens.Token.{Token}

-- the cross at `at` has two to four points, each below `points`
pub record CrossOk (s : List ℕ) (points at : ℕ) : Type 0 where
  pub low : 2 ≤ byte s at
  pub high : byte s at ≤ 4
  pub known : (i : ℕ) → i < byte s at → byte s (at + 1 + i) < points

-- ---- a token

-- the fields of the token at `at`
abbrev pub token_at : List ℕ → ℕ → Token
token_at s at = record { op = byte s at; position = byte s (at + 1); bin = u16 s (at + 2); lo = u64 s (at + 4); hi = u64 s (at + 12) }

-- the tests on op, position and bin, of a cross with `parts` points
unfoldable pub name_fields : ℕ → ℕ → ℕ → ℕ → ℕ → List Test
name_fields parts op position b at =
    (leb op 5, field, at)
    ∷ cond (leb op 2) (ltb position parts, field, at + 1) (eqb position 0, unused, at + 1)
    ∷ (eqb op 1 || eqb b 0, unused, at + 2)
    ∷ []

-- the tests on lo and hi
unfoldable pub value_fields : Point → ℕ → ℕ → ℕ → ℕ → List Test
value_fields p op lo hi at = cond (eqb op 2) (value_tests p lo hi (at + 4)) ((eqb lo 0, unused, at + 4) ∷ (eqb hi 0, unused, at + 12) ∷ [])

-- ---- an expression

-- just `wanted` expressions were found
unfoldable pub found : ℕ → Option (List Select) → Bool
found wanted none = false
found wanted (some es) = eqb wanted (length es)

-- how many are wanted after a token: a leaf is one, a not leaves one wanted, and and or want one more
unfoldable pub wanted_after : ℕ → ℕ → ℕ
wanted_after op wanted = cond (leb op 2) (wanted - 1) (cond (leb op 3) wanted (wanted + 1))

-- nothing is wanted before a token, or a not stands before no leaf
unfoldable pub lacks : ℕ → ℕ → ℕ → Bool
lacks op next wanted = eqb wanted 0 || (eqb op 3 && ltb 2 next)

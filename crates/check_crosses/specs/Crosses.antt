-- Section 8 as inner code tests it: by fields, and by counts in place of lists.
-- Assumes nothing.
use Rattle.std.specs.Prelude.{ℕ, ◌+◌, ◌*◌, ◌<◌, List, [], ◌∷◌, map, leb}
use Rattle.model.specs.Lists.{up_from}
use Rattle.model.specs.Format.{Test, field, count, disagreement, byte, u32, guard_ok, all_different, cross_points, cross_point_test}
use Rattle.check_tokens.specs.Tokens.{CrossOk}

-- the tests on the n points from the i-th on
unfoldable pub point_tests : List ℕ → ℕ → ℕ → ℕ → ℕ → List Test
point_tests s points at i n = map (cross_point_test s points at) (up_from i n)

-- the tests after those on the points
unfoldable pub cross_end : List ℕ → ℕ → List Test
cross_end s at =
    (guard_ok (byte s (at + 5)), field, at + 5)
    ∷ (leb 1 (u32 s (at + 8)), field, at + 8)
    ∷ (leb (byte s (at + 12)) 16, count, at + 12)
    ∷ (all_different (cross_points s at), disagreement, at)
    ∷ []

-- the n crosses from c on have two to four points each, all below `points`
abbrev pub CrossesOk : List ℕ → ℕ → ℕ → ℕ → Type 0
CrossesOk s points c n = (i : ℕ) → i < n → CrossOk s points (c + 13 * i)

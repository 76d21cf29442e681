-- A list with some elements written at a place.
-- Assumes nothing.
use Rattle.std.specs.Prelude.{ℕ, ◌+◌, List, ◌++◌, length, take, drop}

-- l with xs at n, n + 1, ..
unfoldable pub put : {A : Type 0} → ℕ → List A → List A → List A
put n xs l = take n l ++ xs ++ drop (n + length xs) l

-- What a sample adds to counts and writes to a report, by flat arrays.
-- Assumes nothing.
use Rattle.std.specs.Prelude.{ℕ, ◌+◌, Bool, ◌||◌, cond, List, [], ◌∷◌, ◌++◌, ltb, eqb}
use Rattle.model.specs.Lists.{all, pair_up, as_bit}
use Rattle.model.specs.Sampling.{is_unknown}
use Rattle.arrays.specs.Flat.{reading_from}
use Rattle.arrays.specs.declared.reading.Reading as code

-- 1 more at each count whose element passes the test
unfoldable pub add_hits : {A : Type 0} → (A → Bool) → List A → List ℕ → List ℕ
add_hits f xs ns = pair_up (λ x n. as_bit (f x) + n) xs ns

-- an unknown reading, as the code has it
abbrev pub is_unknown_code : code.Reading → Bool
is_unknown_code x = is_unknown (reading_from x)

-- each count can be raised by 1
abbrev pub has_room : ℕ → Bool
has_room n = ltb n 4294967295

unfoldable pub all_room : List ℕ → Bool
all_room ns = all has_room ns

-- the kinds of illegal counters
abbrev pub illegal_kind : ℕ → Bool
illegal_kind k = eqb k 2 || (eqb k 4 || eqb k 6)

-- the flag, if it is reported
abbrev pub reported : Bool → ℕ → List ℕ
reported b f = cond b (f ∷ []) []

-- the flags of the illegal counters, by the counters' kinds
unfoldable pub illegal_flags : List ℕ → List ℕ → List ℕ
illegal_flags [] fs = []
illegal_flags (k ∷ ks) [] = []
illegal_flags (k ∷ ks) (f ∷ fs) = reported (illegal_kind k) f ++ illegal_flags ks fs

-- That the tokens of each cross bin are one expression, in the form in which code that walks the bins by their places takes it along.
-- An accepted table has it (`accepted-single` of proofs/Single.antt).
-- Assumes nothing.
use Rattle.std.specs.Prelude.{ℕ, zero, suc, ◌+◌, ◌*◌, ◌≡◌, List, [], ◌∷◌}
use Rattle.std.proofs.Math.Option.{some}
use Rattle.model.specs.Format.{byte, token_record, expressions}
use Rattle.model.specs.Raw.{rows, select_at, token_total}

-- the n tokens from k on
unfoldable pub Single : List ℕ → ℕ → ℕ → Type 0
Single s k n = expressions (rows (token_record s) 20 k n) ≡ some (select_at s k n ∷ [])

-- those of n cross bins from b on, the tokens from k on
unfoldable pub BinsSingle : List ℕ → ℕ → ℕ → ℕ → Type 0
BinsSingle s b k zero = Unit {0}
BinsSingle s b k (suc n) = Single s k (byte s (b + 2)) × BinsSingle s (b + 3) (k + 20 * byte s (b + 2)) n

-- those of n crosses from c on
unfoldable pub CrossesSingle : List ℕ → ℕ → ℕ → ℕ → ℕ → Type 0
CrossesSingle s c b k zero = Unit {0}
CrossesSingle s c b k (suc n) =
    BinsSingle s b k (byte s (c + 12)) × CrossesSingle s (c + 13) (b + 3 * byte s (c + 12)) (k + 20 * token_total s b (byte s (c + 12))) n

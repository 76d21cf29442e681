-- Lengths of flat arrays, and a reading as the code has it.
-- Assumes nothing.
use mathlib.Core.Path.{◌≡◌, refl}
use mathlib.Core.Bool.{Bool, false}
use mathlib.Core.List.{List}
use Prim.Native.Nat.{ℕ}
use lib.ListN.{length, length-map}
use Rattle.model.specs.Table.{Table}
use Rattle.model.specs.Counters.{Counter}
use Rattle.model.specs.Sampling.{Reading, skipped, unknown, known, is_in}
use Rattle.model.specs.Register.{point_total}
use Rattle.model.proofs.Lists.{length-row}
use Rattle.arrays.specs.Flat.{kind_of, kinds_of, covers, cover_counts, reading_code, reading_from}
use Rattle.arrays.specs.declared.reading.Reading as code
use Rattle.arrays.specs.declared.reading.Reading.TheVariants.{Skipped, Unknown, Known}

pub kinds-length : (cs : List Counter) → length (kinds_of cs) ≡ length cs
unfolding kinds_of
kinds-length cs = length-map cs kind_of

pub counts_length : (t : Table) → length (cover_counts t) ≡ point_total t
unfolding cover_counts
counts_length t = length-row (λ p. length (covers t p)) 0 (point_total t)

pub from_code : (r : Reading) → reading_from (reading_code r) ≡ r
from_code skipped = refl
from_code unknown = refl
from_code (known v) = refl

-- no test holds of a reading that has no value
pub unread : (x : code.Reading) → ((v : ℕ) → x ≡ Known v → ⊥) → (f : ℕ → Bool) → is_in f (reading_from x) ≡ false
unread Skipped h f = refl
unread Unknown h f = refl
unread (Known v) h f = absurd (h v refl)

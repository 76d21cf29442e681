-- Where a section's records lie in the table, and their bytes.
-- Assumes nothing.
use Rattle.std.specs.Prelude.{ℕ, zero, suc, ◌+◌, ◌-◌, ◌*◌, cond, List, [], leb, ltb, length, get_or, take, drop}
use Rattle.model.specs.Format.{u16, record_sizes}
use Rattle.model.specs.Raw.{record_count, records_place}
use Rattle.reader.specs.declared.Part.{Part}
use Rattle.reader.specs.declared.Reader.{Reader}

abbrev pub part : ℕ → ℕ → Part
part from to = record { from = from; to = to }

-- the records after the count at `at`, each of `size` bytes
unfoldable pub part_at : List ℕ → ℕ → ℕ → Part
part_at s at size = part (at + 2) (at + 2 + u16 s at * size)

-- the reader at the next count: the same table, and the place after the records of the section at r's place
abbrev pub next_count : Reader → ℕ → Reader
next_count r size = record { table = r.table; at = (part_at r.table.now r.at size).to }

-- the records of section 1 to 10; for another number an empty part
unfoldable pub section_part : List ℕ → ℕ → Part
section_part s zero = part 0 0
section_part s (suc k) = cond (ltb k 10) (part (records_place s k) (records_place s k + record_count s k * get_or record_sizes k 0)) (part 0 0)

-- the bytes of a part that ends within the table; else none
abbrev pub bytes_in : List ℕ → Part → List ℕ
bytes_in s p = cond (leb p.to (length s)) (take (p.to - p.from) (drop p.from s)) []

unfoldable pub section_bytes : List ℕ → ℕ → List ℕ
section_bytes s number = bytes_in s (section_part s number)

-- A section's bytes by its place are what the model finds by walking from the front.
-- Assumes nothing.
use mathlib.Core.Path.{◌≡◌, refl, sym}
use mathlib.Core.Bool.{Bool, true, false}
use mathlib.Core.List.{List, [], ◌∷◌}
use Prim.Native.Nat.{ℕ, zero, suc, ◌+◌, ◌-◌, ◌*◌, ◌≤◌, ◌<◌}
use native.Mathlib.Omega.{arith}
use lib.Dec.{ltb}
use lib.ListN.{length, get_or, take, drop}
use lib.Seq.{drop-cons}
use borrow.Author.Tests.{le-leb, lt-ltb, ltb-true, ltb-false}
use Rattle.model.specs.Table.{Table}
use Rattle.model.specs.Format.{u16, record_sizes, section_from, decoded, decode, section_of}
use Rattle.model.specs.Raw.{count_place, record_count, records_place}
use Rattle.reader.specs.Parts.{section_part, section_bytes}
use Rattle.reader.proofs.Laws.{section_end, places_rise}

module _ (s : List ℕ) where
  -- the walk from section j + 1 on, n sections further
  from_front : (n j k : ℕ) → j + n ≡ k → k < 10 → section_from s (count_place s j) (drop j record_sizes) n ≡ take (record_count s k * get_or record_sizes k 0) (drop (records_place s k) s)
  unfolding section_from record_count records_place count_place
  from_front zero j k e h = let d : j ≡ k = omega arith in rw (drop-cons record_sizes j 0 (omega arith), d)
  from_front (suc n) j k e h = rw (drop-cons record_sizes j 0 (omega arith)) (from_front n (suc j) k (omega arith) h)

  -- past the last section there is nothing
  past_front : (sizes : List ℕ) (at n : ℕ) → length sizes ≤ n → section_from s at sizes n ≡ []
  unfolding section_from
  past_front [] at n h = refl
  past_front (size ∷ sizes) at zero h = absurd (omega arith)
  past_front (size ∷ sizes) at (suc n) h = past_front sizes (at + 2 + u16 s at * size) n (omega arith)

  -- every section ends within a table within which the tenth does
  pub section_within : count_place s 10 ≤ length s → (number : ℕ) → (section_part s number).to ≤ length s
  unfolding section_part
  section_within g zero = omega arith
  section_within g (suc k) = go (ltb k 10) refl
    where
      go : (b : Bool) → ltb k 10 ≡ b → (section_part s (suc k)).to ≤ length s
      go true e = let h = ltb-true k 10 e in omega (arith, section_end s k h, places_rise s (9 - k) (suc k) 10 (omega arith))
      go false e = rw e (omega arith)

  -- section k + 1, which ends where the next count would stand
  section_front : (k : ℕ) → k < 10 → count_place s (suc k) ≤ length s → section_bytes s (suc k) ≡ section_from s 0 record_sizes k
  unfolding section_bytes section_part count_place records_place record_count
  section_front k h g =
      let n = record_count s k * get_or record_sizes k 0 in
      let d : records_place s k + n - records_place s k ≡ n = omega arith in
      rw (lt-ltb k 10, le-leb (records_place s k + n) (length s), d) (sym (from_front k 0 k (omega arith) h))

  -- the same for every number, in a table whose ten sections end within it
  all_front : count_place s 10 ≤ length s → (t : Table) (number : ℕ) → section_bytes s number ≡ section_of (decoded t) s number
  unfolding section_bytes section_part
  all_front g t zero = rw (le-leb 0 (length s) (omega arith))
  all_front g t (suc k) = go (ltb k 10) refl
    where
      go : (b : Bool) → ltb k 10 ≡ b → section_bytes s (suc k) ≡ section_from s 0 record_sizes k
      go true e = let h = ltb-true k 10 e in section_front k h (omega (arith, places_rise s (9 - k) (suc k) 10 (omega arith)))
      go false e = rw (e, le-leb 0 (length s) (omega arith)) (sym (past_front record_sizes 0 k (omega (arith, ltb-false k 10 e))))

  -- Of an accepted table it is the model's section.
  pub section_exact : (t : Table) → decode s ≡ decoded t → count_place s 10 ≤ length s → (number : ℕ) → section_bytes s number ≡ section_of (decode s) s number
  section_exact t e g number = rw e (all_front g t number)

-- Sections by their places: from one count to the next, and the bytes of a section's part.
-- Assumes nothing.
use mathlib.Core.Path.{◌≡◌, refl, ap, ◌∙◌}
use mathlib.Core.Bool.{Bool, true, false, ◌&&◌, cond}
use mathlib.Core.List.{List, [], ◌∷◌}
use Prim.Native.Nat.{ℕ, zero, suc, ◌+◌, ◌-◌, ◌*◌, ◌≤◌, ◌<◌}
use native.Mathlib.Omega.{arith}
use native.Mathlib.Nat.{mul-le-mul}
use native.Mathlib.Numerals.{add-one}
use lib.Dec.{leb, ltb}
use lib.ListN.{length, get_or, take, drop}
use borrow.Author.Tests.{leb-true, le-leb, lt-leb, lt-ltb, le-ltb}
use Rattle.model.specs.Format.{u16, record_sizes}
use Rattle.model.specs.Raw.{count_place, record_count, records_place}
use Rattle.model.proofs.Booleans.{and_left, and_right}
use Rattle.reader.specs.declared.Part.{Part}
use Rattle.reader.specs.Parts.{part, part_at, section_part, section_bytes}

-- ---- sizes

-- whether each number of a list is at most m
unfoldable at_most : ℕ → List ℕ → Bool
at_most m [] = true
at_most m (x ∷ xs) = leb x m && at_most m xs

at-most : (m : ℕ) (xs : List ℕ) → at_most m xs ≡ true → (k : ℕ) → get_or xs k 0 ≤ m
unfolding at_most
at-most m [] e k = omega arith
at-most m (x ∷ xs) e zero = leb-true x m (and_left (leb x m) (at_most m xs) e)
at-most m (x ∷ xs) e (suc k) = at-most m xs (and_right (leb x m) (at_most m xs) e) k

u16-small : (s : List ℕ) → ((i : ℕ) → get_or s i 0 < 256) → (at : ℕ) → u16 s at < 65536
unfolding u16
u16-small s bytes at = omega (arith, bytes at, bytes (at + 1))

-- a record has at most 20 bytes
pub size_small : (k : ℕ) → get_or record_sizes k 0 ≤ 20
unfolding at_most
size_small k = at-most 20 record_sizes refl k

-- the bytes of n records
pub records-small : (n size : ℕ) → n < 65536 → size ≤ 20 → n * size ≤ 1310700
records-small n size h g = mul-le-mul {n₂ = 65535} {m₂ = 20} (omega arith) g

-- ---- from one section to the next

module _ (s : List ℕ) where
  -- the end of section k + 1 is the place of the next count
  pub section_end : (k : ℕ) → k < 10 → (section_part s (suc k)).to ≡ count_place s (suc k)
  unfolding section_part record_count records_place count_place
  section_end k h = rw (lt-ltb k 10)

  -- a walk over the counts: where it begins, where it goes on after section i + 1, and what stands at the count of section k + 1
  pub count_first : 0 ≡ count_place s 0
  unfolding count_place
  count_first = refl

  pub count_next : (i size : ℕ) → size ≡ get_or record_sizes i 0 → (part_at s (count_place s i) size).to ≡ count_place s (i + 1)
  unfolding part_at count_place
  count_next i size e = rw (e, add-one i)

  pub section_found : (k size : ℕ) (p : Part) → k < 10 → size ≡ get_or record_sizes k 0 → p ≡ part_at s (count_place s k) size → p ≡ section_part s (k + 1)
  unfolding section_part part_at record_count records_place
  section_found k size p h e f = f ∙ rw (e, add-one k, lt-ltb k 10)

  -- counts stand one after the other
  pub places_rise : (n j k : ℕ) → j + n ≡ k → count_place s j ≤ count_place s k
  unfolding count_place
  places_rise zero j k e = let d : j ≡ k = omega arith in rw d (omega arith)
  places_rise (suc n) j k e = omega (arith, places_rise n (suc j) k (omega arith))

  -- the place of a count at or before the last
  pub place_low : (k at : ℕ) → k ≤ 10 → at ≡ count_place s k → count_place s 10 < 4294967296 → at < 4294967296
  place_low k at h e low = omega (arith, places_rise (10 - k) k 10 (omega arith))

  -- a reader of this table at the count of section i + 1: where it stands next, and the records that it finds
  pub reader_next : (t : List ℕ) (i at size next : ℕ) → t ≡ s → at ≡ count_place s i → next ≡ (part_at t at size).to → size ≡ get_or record_sizes i 0 → next ≡ count_place s (i + 1)
  reader_next t i at size next e f g h = g ∙ ap (λ (x : List ℕ). (part_at x at size).to) e ∙ ap (λ (x : ℕ). (part_at s x size).to) f ∙ count_next i size h

  pub reader_found : (t : List ℕ) (i k at size : ℕ) (p : Part) → t ≡ s → i ≡ k → at ≡ count_place s i → p ≡ part_at t at size → k < 10 → size ≡ get_or record_sizes k 0 → p ≡ section_part s (k + 1)
  reader_found t i k at size p e same f g h j =
      section_found k size p h j (g ∙ ap (λ (x : List ℕ). part_at x at size) e ∙ ap (λ (x : ℕ). part_at s x size) (f ∙ ap (count_place s) same))

  -- and not far apart, in a list of bytes
  pub places_small : ((i : ℕ) → get_or s i 0 < 256) → (k : ℕ) → count_place s k ≤ 1310702 * k
  unfolding count_place
  places_small bytes zero = omega arith
  places_small bytes (suc k) = omega (arith, places_small bytes k, records-small (u16 s (count_place s k)) (get_or record_sizes k 0) (u16-small s bytes (count_place s k)) (size_small k))

  -- there is no section with another number
  pub no_section : (number : ℕ) → (1 ≤ number → 10 < number) → part 0 0 ≡ section_part s number
  unfolding section_part
  no_section zero h = refl
  no_section (suc k) h = rw (le-ltb k 10 (omega (arith, h (omega arith))))

  -- a section ends at or after its start
  section_ordered : (number : ℕ) → (section_part s number).from ≤ (section_part s number).to
  unfolding section_part
  section_ordered zero = omega arith
  section_ordered (suc k) = ordered (ltb k 10) (records_place s k) (record_count s k * get_or record_sizes k 0)
    where
      ordered : (b : Bool) (from n : ℕ) → (cond b (part from (from + n)) (part 0 0)).from ≤ (cond b (part from (from + n)) (part 0 0)).to
      ordered true from n = omega arith
      ordered false from n = omega arith

  -- the bytes of a part, by where it ends
  module _ (number : ℕ) (p : Part) (e : p ≡ section_part s number) where
    pub part-ordered : p.from ≤ p.to
    part-ordered = rw e (section_ordered number)

    pub part-inside : p.to ≤ length s → take (p.to - p.from) (drop p.from s) ≡ section_bytes s number
    unfolding section_bytes
    part-inside h = rw (← e, le-leb p.to (length s))

    pub part_past : length s < p.to → [] ≡ section_bytes s number
    unfolding section_bytes
    part_past h = rw (← e, lt-leb p.to (length s))

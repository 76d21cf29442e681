-- The table's bytes: which are refused, with which number and at which byte, and what the others say.
-- They are read front to back. Each count and each record has a list of tests in the order in which they are made:
-- that it is whole, its fields from left to right, and its agreement with what came before. The first test that fails decides.
-- Assumes nothing.
use Rattle.std.specs.Prelude.{ℕ, zero, suc, ◌+◌, ◌-◌, ◌*◌, ◌^◌, Bool, true, false, not, ◌&&◌, ◌||◌, cond, List, [], ◌∷◌, ◌++◌, map, leb, ltb, eqb, length, get_or, take, drop}
use Rattle.std.proofs.Math.Option.{Option, none, some}
use Rattle.std.specs.Int.Bits.{bit_and}
use Rattle.model.specs.Lists.{up_from, any, sum_of, within}
use Rattle.model.specs.Table.{Guard, Point, Kind, cover, ignore, illegal, default, Form, single, per_value, fixed, Range, span, pattern, ValueBin, Step, TransitionBin, Select, whole, named, meeting, negated, both, either, CrossBin, Cross, Table, is_cover, is_default, no_point, no_value_bin, no_table}
use Rattle.model.specs.Values.{field_value, in_type}
use Rattle.model.specs.Counters.{within_limits}

-- ---- faults

pub data FaultClass : Type 0 where
  too_long cut : FaultClass
  -- a section's count or an owned count outside its limits
  count : FaultClass
  -- any other field outside its allowed values, an ignore bin's guard too
  field : FaultClass
  -- a, b, lo or hi outside the point's type or out of order, or a pattern outside its mask
  value : FaultClass
  -- an unused field without its unused value
  unused : FaultClass
  -- with what came before it
  disagreement : FaultClass
  leftover limits : FaultClass

-- document 01's refusal numbers; count, field, value and unused are the four classes of document 02, Item 1
abbrev pub number_of : FaultClass → ℕ
number_of too_long = 1
number_of cut = 2
number_of count = 3
number_of field = 15
number_of value = 16
number_of unused = 17
number_of disagreement = 4
number_of leftover = 5
number_of limits = 6

-- The byte at fault: the count or the field, the later of two that are possible alone; for `cut` where the missing count or record would begin;
-- for `disagreement` the count or record after which it is tested; for `leftover` the first byte left over; for `limits` the table's length.
-- `too_long` has none: 0.
pub record Fault : Type 0 where
  pub class : FaultClass
  pub at : ℕ

-- ---- readers

-- A reader starts at a byte. It refuses, or it gets a value and the place of the byte after it.
pub data Read (A : Type 0) : Type 0 where
  refused : Fault → Read A
  got : A → ℕ → Read A

abbrev pub Reader : Type 0 → Type 0
Reader A = ℕ → Read A

-- a test: whether it passes, and the fault if it does not
abbrev pub Test : Type 0
Test = Bool × FaultClass × ℕ

unfoldable pub tested : {A : Type 0} → List Test → Read A → Read A
tested [] r = r
tested ((passes, class, at) ∷ tests) r = cond passes (tested tests r) (refused (record { class = class; at = at }))

abbrev pub and_then : {A B : Type 0} → Read A → (A → ℕ → Read B) → Read B
and_then (refused f) k = refused f
and_then (got a at) k = k a at

unfoldable pub ◌>>=◌ : {A B : Type 0} → Reader A → (A → Reader B) → Reader B
◌>>=◌ one k at = and_then (one at) k

abbrev pub done : {A : Type 0} → A → Reader A
done a at = got a at

-- n records in a row
unfoldable pub times : {A : Type 0} → ℕ → Reader A → Reader (List A)
times zero one at = got [] at
times (suc n) one at = and_then (one at) λ a next. and_then (times n one next) λ rest end. got (a ∷ rest) end

-- what each owner owns, in the owners' order
unfoldable pub each : {A B : Type 0} → (A → Reader B) → List A → Reader (List B)
each one [] at = got [] at
each one (a ∷ rest) at = and_then (one a at) λ b next. and_then (each one rest next) λ bs end. got (b ∷ bs) end

-- a record of `size` bytes, with the tests after the one that it is whole, and what it says
unfoldable pub read_record : {A : Type 0} → List ℕ → ℕ → (ℕ → List Test) → (ℕ → A) → Reader A
read_record s size tests says at = tested ((leb (at + size) (length s), cut, at) ∷ tests at) (got (says at) (at + size))

-- ---- numbers, little-endian

abbrev pub byte : List ℕ → ℕ → ℕ
byte s at = get_or s at 0

unfoldable pub u16 : List ℕ → ℕ → ℕ
u16 s at = byte s at + 256 * byte s (at + 1)

unfoldable pub u32 : List ℕ → ℕ → ℕ
u32 s at = u16 s at + 2 ^ 16 * u16 s (at + 2)

unfoldable pub u64 : List ℕ → ℕ → ℕ
u64 s at = u32 s at + 2 ^ 32 * u32 s (at + 4)

-- ---- counts

-- a section's count, from lo to hi
abbrev pub section_count : List ℕ → ℕ → ℕ → Reader ℕ
section_count s lo hi = read_record s 2 (λ at. (within lo hi (u16 s at), count, at) ∷ []) (u16 s)

-- the count of an owned section, up to hi: what its owners own together
abbrev pub owned_count : List ℕ → ℕ → ℕ → Reader ℕ
owned_count s hi sum = read_record s 2 (λ at. (leb (u16 s at) hi, count, at) ∷ (eqb (u16 s at) sum, disagreement, at) ∷ []) (u16 s)

-- ---- fields

abbrev pub guard_ok : ℕ → Bool
guard_ok g = leb g 63 || eqb g 255

abbrev pub guard_from : ℕ → Guard
guard_from g = cond (eqb g 255) none (some g)

-- an ignore bin has no guard
abbrev pub bin_guard_ok : ℕ → ℕ → Bool
bin_guard_ok kind g = guard_ok g && (not (eqb kind 1) || eqb g 255)

abbrev pub kind_from : ℕ → Kind
kind_from zero = cover
kind_from (suc zero) = ignore
kind_from (suc (suc zero)) = illegal
kind_from (suc (suc (suc n))) = default

abbrev pub form_from : ℕ → ℕ → Form
form_from zero number = single
form_from (suc zero) number = per_value
form_from (suc (suc n)) number = fixed number

-- two i64 fields a and b, from the byte `at` on: in the point's type, and in order
unfoldable pub value_tests : Point → ℕ → ℕ → ℕ → List Test
value_tests p a b at =
    (in_type p (field_value a), value, at)
    ∷ (in_type p (field_value b), value, at + 8)
    ∷ (leb (field_value a) (field_value b), value, at + 8)
    ∷ []

-- ---- section 1: points

-- Fields, by their offsets: width 0, signed 1, guard 2, weight 3, at-least 5, auto-max 9.
abbrev pub point_tests : List ℕ → ℕ → List Test
point_tests s at =
    (within 1 32 (byte s at), field, at)
    ∷ (leb (byte s (at + 1)) 1, field, at + 1)
    ∷ (guard_ok (byte s (at + 2)), field, at + 2)
    ∷ (leb 1 (u32 s (at + 5)), field, at + 5)
    ∷ (within 1 256 (u16 s (at + 9)), field, at + 9)
    ∷ []

abbrev pub point_record : List ℕ → ℕ → Point
point_record s at = record {
  width = byte s at;
  signed = eqb (byte s (at + 1)) 1;
  guard = guard_from (byte s (at + 2));
  weight = u16 s (at + 3);
  at_least = u32 s (at + 5);
  auto_max = u16 s (at + 9);
}

unfoldable pub read_point : List ℕ → Reader Point
read_point s = read_record s 11 (point_tests s) (point_record s)

-- ---- sections 2 and 3: value bins, value ranges

-- A value bin's own record: the bin with no ranges yet, and how many it owns.
-- Fields: point 0, kind 1, form 2, number 3, guard 5, ranges 6.
pub record BinHead : Type 0 where
  pub bin : ValueBin
  pub ranges : ℕ

abbrev pub no_bin_head : BinHead
no_bin_head = record { bin = no_value_bin; ranges = 0 }

abbrev pub ranges_owned : BinHead → ℕ
ranges_owned h = h.ranges

abbrev pub bin_head : List ℕ → ℕ → BinHead
bin_head s at = record {
  bin = record {
    point = byte s at;
    kind = kind_from (byte s (at + 1));
    form = form_from (byte s (at + 2)) (u16 s (at + 3));
    guard = guard_from (byte s (at + 5));
    ranges = [];
  };
  ranges = u16 s (at + 6);
}

-- `defaults` lists the points that have a default bin already: a second one is refused.
abbrev pub first_default : BinHead → List ℕ → Bool
first_default h defaults = not (is_default h.bin.kind && any (eqb h.bin.point) defaults)

abbrev pub defaults_with : BinHead → List ℕ → List ℕ
defaults_with h defaults = cond (is_default h.bin.kind) (h.bin.point ∷ defaults) defaults

-- the tests on a bin's fields; `first` says that it is not a second default
unfoldable pub bin_rules : ℕ → ℕ → ℕ → ℕ → ℕ → ℕ → ℕ → Bool → ℕ → List Test
bin_rules points point kind form number guard ranges first at =
    (ltb point points, field, at)
    ∷ (leb kind 3, field, at + 1)
    ∷ (leb form 2, field, at + 2)
    ∷ (eqb kind 0 || eqb form 0, field, at + 2)
    ∷ (not (eqb form 2) || within 1 256 number, field, at + 3)
    ∷ (eqb form 2 || eqb number 0, unused, at + 3)
    ∷ (bin_guard_ok kind guard, field, at + 5)
    ∷ (cond (eqb kind 3) (eqb ranges 0) (leb 1 ranges), count, at + 6)
    ∷ (first, disagreement, at)
    ∷ []

abbrev pub bin_tests : List ℕ → ℕ → List ℕ → ℕ → List Test
bin_tests s points defaults at =
    bin_rules points (byte s at) (byte s (at + 1)) (byte s (at + 2)) (u16 s (at + 3)) (byte s (at + 5)) (u16 s (at + 6)) (first_default (bin_head s at) defaults) at

-- n value bins
unfoldable pub read_bin_heads : List ℕ → ℕ → ℕ → List ℕ → Reader (List BinHead)
read_bin_heads s points zero defaults at = got [] at
read_bin_heads s points (suc n) defaults at =
    and_then (read_record s 8 (bin_tests s points defaults) (bin_head s) at)
    λ h next. and_then (read_bin_heads s points n (defaults_with h defaults) next)
    λ hs end. got (h ∷ hs) end

-- a pattern's bits a and its mask b, from the byte `at` on: within the width, and the bits within the mask
unfoldable pub pattern_tests : Point → ℕ → ℕ → ℕ → List Test
pattern_tests p a b at =
    (ltb a (2 ^ p.width), value, at)
    ∷ (ltb b (2 ^ p.width), value, at + 8)
    ∷ (eqb (bit_and a b) a, value, at + 8)
    ∷ []

-- A range at point p. A pattern is allowed at unsigned points, and only where `patterns` says so. Fields: kind 0, a 1, b 9.
unfoldable pub range_rules : Point → Bool → ℕ → ℕ → ℕ → ℕ → List Test
range_rules p patterns kind a b at =
    (eqb kind 0 || (eqb kind 1 && patterns && not p.signed), field, at)
    ∷ cond (eqb kind 0) (value_tests p a b (at + 1)) (pattern_tests p a b (at + 1))

abbrev pub range_tests : List ℕ → Point → Bool → ℕ → List Test
range_tests s p patterns at = range_rules p patterns (byte s at) (u64 s (at + 1)) (u64 s (at + 9)) at

abbrev pub range_record : List ℕ → ℕ → Range
range_record s at =
    cond (eqb (byte s at) 0) (span (field_value (u64 s (at + 1))) (field_value (u64 s (at + 9)))) (pattern (u64 s (at + 1)) (u64 s (at + 9)))

unfoldable pub read_range : List ℕ → Point → Bool → Reader Range
read_range s p patterns = read_record s 17 (range_tests s p patterns) (range_record s)

abbrev pub is_single : Form → Bool
is_single single = true
is_single per_value = false
is_single (fixed n) = false

-- patterns stand in cover bins of form 0
abbrev pub allows_patterns : ValueBin → Bool
allows_patterns b = is_cover b.kind && is_single b.form

abbrev pub with_ranges : ValueBin → List Range → ValueBin
with_ranges b rs = record { point = b.point; kind = b.kind; form = b.form; guard = b.guard; ranges = rs }

unfoldable pub read_bin_ranges : List ℕ → List Point → BinHead → Reader ValueBin
read_bin_ranges s ps h = do
  rs ← times h.ranges (read_range s (get_or ps h.bin.point no_point) (allows_patterns h.bin))
  done (with_ranges h.bin rs)

-- ---- sections 4 to 7: transition bins, sequences, steps, step ranges

-- A transition bin while its parts are read: what stands for a sequence is first its number of steps, then its steps without ranges, then the steps.
pub record TransitionHead (A : Type 0) : Type 0 where
  pub point : ℕ
  pub kind : Kind
  pub guard : Guard
  pub owned : A

pub record StepHead : Type 0 where
  pub ranges : ℕ
  pub least : ℕ
  pub most : ℕ

abbrev pub ranges_of_step : StepHead → ℕ
ranges_of_step st = st.ranges

-- how many sequences, steps and step ranges a transition bin owns
abbrev pub sequences_owned : TransitionHead ℕ → ℕ
sequences_owned h = h.owned

abbrev pub steps_owned : TransitionHead (List ℕ) → ℕ
steps_owned h = sum_of (λ n. n) h.owned

abbrev pub step_ranges_owned : TransitionHead (List (List StepHead)) → ℕ
step_ranges_owned h = sum_of (sum_of ranges_of_step) h.owned

abbrev pub with_owned : {A B : Type 0} → TransitionHead A → B → TransitionHead B
with_owned h b = record { point = h.point; kind = h.kind; guard = h.guard; owned = b }

-- Fields: point 0, kind 1, guard 2, sequences 3.
abbrev pub transition_tests : List ℕ → ℕ → ℕ → List Test
transition_tests s points at =
    (ltb (byte s at) points, field, at)
    ∷ (leb (byte s (at + 1)) 2, field, at + 1)
    ∷ (bin_guard_ok (byte s (at + 1)) (byte s (at + 2)), field, at + 2)
    ∷ (leb 1 (byte s (at + 3)), count, at + 3)
    ∷ []

abbrev pub transition_head : List ℕ → ℕ → TransitionHead ℕ
transition_head s at = record { point = byte s at; kind = kind_from (byte s (at + 1)); guard = guard_from (byte s (at + 2)); owned = byte s (at + 3) }

unfoldable pub read_transition : List ℕ → ℕ → Reader (TransitionHead ℕ)
read_transition s points = read_record s 4 (transition_tests s points) (transition_head s)

-- a sequence's own record: its number of steps
unfoldable pub read_sequence : List ℕ → Reader ℕ
read_sequence s = read_record s 1 (λ at. (within 1 16 (byte s at), count, at) ∷ []) (byte s)

unfoldable pub read_sequences : List ℕ → TransitionHead ℕ → Reader (TransitionHead (List ℕ))
read_sequences s h = do
  ns ← times h.owned (read_sequence s)
  done (with_owned h ns)

-- Fields: ranges 0, least 1, most 2.
abbrev pub step_tests : List ℕ → ℕ → List Test
step_tests s at =
    (leb 1 (byte s at), count, at)
    ∷ (within 1 32 (byte s (at + 1)), field, at + 1)
    ∷ (within 1 32 (byte s (at + 2)), field, at + 2)
    ∷ (leb (byte s (at + 1)) (byte s (at + 2)), field, at + 2)
    ∷ []

abbrev pub step_head : List ℕ → ℕ → StepHead
step_head s at = record { ranges = byte s at; least = byte s (at + 1); most = byte s (at + 2) }

unfoldable pub read_step : List ℕ → Reader StepHead
read_step s = read_record s 3 (step_tests s) (step_head s)

-- the steps of one sequence: its leasts sum to at least 2, its mosts to at most 32
abbrev pub sums_ok : List StepHead → Bool
sums_ok ss = leb 2 (sum_of (λ s. s.least) ss) && leb (sum_of (λ s. s.most) ss) 32

unfoldable pub read_steps : List ℕ → ℕ → Reader (List StepHead)
read_steps s n = do
  ss ← times n (read_step s)
  λ end. tested ((sums_ok ss, disagreement, end - 3) ∷ []) (got ss end)

unfoldable pub read_bin_steps : List ℕ → TransitionHead (List ℕ) → Reader (TransitionHead (List (List StepHead)))
read_bin_steps s h = do
  sss ← each (read_steps s) h.owned
  done (with_owned h sss)

-- a step with its ranges
unfoldable pub read_step_ranges : List ℕ → Point → StepHead → Reader Step
read_step_ranges s p h = do
  rs ← times h.ranges (read_range s p true)
  done (record { ranges = rs; least = h.least; most = h.most })

unfoldable pub read_transition_ranges : List ℕ → List Point → TransitionHead (List (List StepHead)) → Reader TransitionBin
read_transition_ranges s ps h = do
  sss ← each (each (read_step_ranges s (get_or ps h.point no_point))) h.owned
  done (record { point = h.point; kind = h.kind; guard = h.guard; sequences = sss })

-- ---- sections 8 to 10: crosses, cross bins, select tokens

pub record CrossHead : Type 0 where
  pub points : List ℕ
  pub guard : Guard
  pub weight : ℕ
  pub at_least : ℕ
  pub bins : ℕ

abbrev pub cross_bins_owned : CrossHead → ℕ
cross_bins_owned h = h.bins

-- Fields: points 0, four points 1 to 4, guard 5, weight 6, at-least 8, cross bins 12.
abbrev pub cross_points : List ℕ → ℕ → List ℕ
cross_points s at = map (λ i. byte s (at + 1 + i)) (up_from 0 (byte s at))

unfoldable pub all_different : List ℕ → Bool
all_different [] = true
all_different (x ∷ xs) = not (any (eqb x) xs) && all_different xs

-- the i-th of the four points: one of the table's, or unused
abbrev pub cross_point_test : List ℕ → ℕ → ℕ → ℕ → Test
cross_point_test s points at i =
    let p = byte s (at + 1 + i) in
    cond (ltb i (byte s at)) (ltb p points, field, at + 1 + i) (eqb p 255, unused, at + 1 + i)

abbrev pub cross_tests : List ℕ → ℕ → ℕ → List Test
cross_tests s points at =
    (within 2 4 (byte s at), field, at)
    ∷ map (cross_point_test s points at) (up_from 0 4)
    ++ (guard_ok (byte s (at + 5)), field, at + 5)
    ∷ (leb 1 (u32 s (at + 8)), field, at + 8)
    ∷ (leb (byte s (at + 12)) 16, count, at + 12)
    ∷ (all_different (cross_points s at), disagreement, at)
    ∷ []

abbrev pub cross_head : List ℕ → ℕ → CrossHead
cross_head s at = record {
  points = cross_points s at;
  guard = guard_from (byte s (at + 5));
  weight = u16 s (at + 6);
  at_least = u32 s (at + 8);
  bins = byte s (at + 12);
}

unfoldable pub read_cross : List ℕ → ℕ → Reader CrossHead
read_cross s points = read_record s 13 (cross_tests s points) (cross_head s)

-- A cross bin's own record, with the points of its cross. Fields: kind 0, guard 1, tokens 2.
pub record CrossBinHead : Type 0 where
  pub points : List ℕ
  pub kind : Kind
  pub guard : Guard
  pub tokens : ℕ

abbrev pub cross_bin_tests : List ℕ → ℕ → List Test
cross_bin_tests s at =
    (leb (byte s at) 2, field, at)
    ∷ (bin_guard_ok (byte s at) (byte s (at + 1)), field, at + 1)
    ∷ (within 1 32 (byte s (at + 2)), count, at + 2)
    ∷ []

abbrev pub cross_bin_head : List ℕ → List ℕ → ℕ → CrossBinHead
cross_bin_head s points at = record { points = points; kind = kind_from (byte s at); guard = guard_from (byte s (at + 1)); tokens = byte s (at + 2) }

unfoldable pub read_cross_bin : List ℕ → List ℕ → Reader CrossBinHead
read_cross_bin s points = read_record s 3 (cross_bin_tests s) (cross_bin_head s points)

-- A cross while its bins are read.
pub record CrossParts (A : Type 0) : Type 0 where
  pub head : CrossHead
  pub bins : List A

abbrev pub tokens_of : CrossBinHead → ℕ
tokens_of b = b.tokens

abbrev pub tokens_owned : CrossParts CrossBinHead → ℕ
tokens_owned c = sum_of tokens_of c.bins

unfoldable pub read_cross_bins : List ℕ → CrossHead → Reader (CrossParts CrossBinHead)
read_cross_bins s h = do
  bs ← times h.bins (read_cross_bin s h.points)
  done (record { head = h; bins = bs })

-- A select token: an expression by itself, or an operator before one or two.
pub data Token : Type 0 where
  leaf : Select → Token
  not_token and_token or_token : Token

-- bin number b of the value bin section is a cover bin of point p
unfoldable pub cover_bin_of : List BinHead → ℕ → ℕ → Bool
cover_bin_of bins p b = ltb b (length bins) && is_cover (get_or bins b no_bin_head).bin.kind && eqb (get_or bins b no_bin_head).bin.point p

-- Fields: op 0, position 1, bin 2, lo 4, hi 12. `parts` is how many points the cross has, p the one at the position;
-- `names` says that the bin is a cover value bin of it.
unfoldable pub token_rules : ℕ → Point → ℕ → ℕ → ℕ → ℕ → ℕ → Bool → ℕ → List Test
token_rules parts p op position b lo hi names at =
    (leb op 5, field, at)
    ∷ cond (leb op 2) (ltb position parts, field, at + 1) (eqb position 0, unused, at + 1)
    ∷ (eqb op 1 || eqb b 0, unused, at + 2)
    ∷ cond (eqb op 2) (value_tests p lo hi (at + 4)) ((eqb lo 0, unused, at + 4) ∷ (eqb hi 0, unused, at + 12) ∷ [])
    ++ (not (eqb op 1) || names, disagreement, at)
    ∷ []

abbrev pub token_tests : List ℕ → List Point → List BinHead → List ℕ → ℕ → List Test
token_tests s ps bins points at =
    let p = get_or points (byte s (at + 1)) 0 in
    token_rules (length points) (get_or ps p no_point) (byte s at) (byte s (at + 1)) (u16 s (at + 2)) (u64 s (at + 4)) (u64 s (at + 12)) (cover_bin_of bins p (u16 s (at + 2))) at

abbrev pub token_from : ℕ → ℕ → ℕ → ℕ → ℕ → Token
token_from zero i b lo hi = leaf (whole i)
token_from (suc zero) i b lo hi = leaf (named i b)
token_from (suc (suc zero)) i b lo hi = leaf (meeting i lo hi)
token_from (suc (suc (suc zero))) i b lo hi = not_token
token_from (suc (suc (suc (suc zero)))) i b lo hi = and_token
token_from (suc (suc (suc (suc (suc n))))) i b lo hi = or_token

abbrev pub token_record : List ℕ → ℕ → Token
token_record s at = token_from (byte s at) (byte s (at + 1)) (u16 s (at + 2)) (field_value (u64 s (at + 4))) (field_value (u64 s (at + 12)))

unfoldable pub read_token : List ℕ → List Point → List BinHead → List ℕ → Reader Token
read_token s ps bins points = read_record s 20 (token_tests s ps bins points) (token_record s)

-- The tokens of an expression, in prefix order; and whether `not` stands before leaves only.
unfoldable pub prefix : Select → List Token
prefix (whole i) = leaf (whole i) ∷ []
prefix (named i b) = leaf (named i b) ∷ []
prefix (meeting i lo hi) = leaf (meeting i lo hi) ∷ []
prefix (negated e) = not_token ∷ prefix e
prefix (both e f) = and_token ∷ (prefix e ++ prefix f)
prefix (either e f) = or_token ∷ (prefix e ++ prefix f)

abbrev pub is_leaf : Select → Bool
is_leaf (whole i) = true
is_leaf (named i b) = true
is_leaf (meeting i lo hi) = true
is_leaf (negated e) = false
is_leaf (both e f) = false
is_leaf (either e f) = false

unfoldable pub nots_ok : Select → Bool
nots_ok (whole i) = true
nots_ok (named i b) = true
nots_ok (meeting i lo hi) = true
nots_ok (negated e) = is_leaf e && nots_ok e
nots_ok (both e f) = nots_ok e && nots_ok f
nots_ok (either e f) = nots_ok e && nots_ok f

-- How the expression is found: the tokens are read from the last to the first, so that an operator finds its operands in front.
-- `none` if an operator lacks an operand. (`expressions-exact` of proofs/Prefix.antt: one expression e is found exactly if `prefix e` are the tokens
-- and `nots_ok e`.)
abbrev pub with_token : Token → List Select → Option (List Select)
with_token (leaf e) es = some (e ∷ es)
with_token not_token [] = none
with_token not_token (e ∷ es) = cond (is_leaf e) (some (negated e ∷ es)) none
with_token and_token [] = none
with_token and_token (e ∷ []) = none
with_token and_token (e ∷ f ∷ es) = some (both e f ∷ es)
with_token or_token [] = none
with_token or_token (e ∷ []) = none
with_token or_token (e ∷ f ∷ es) = some (either e f ∷ es)

unfoldable pub expressions : List Token → Option (List Select)
expressions [] = some []
expressions (k ∷ ks) = elim (expressions ks) [ none ↦ none | some es ↦ with_token k es ]

-- the tokens of one cross bin are one expression
abbrev pub one_expression : Option (List Select) → Reader Select
one_expression none end = refused (record { class = disagreement; at = end - 20 })
one_expression (some []) end = refused (record { class = disagreement; at = end - 20 })
one_expression (some (e ∷ [])) end = got e end
one_expression (some (e ∷ f ∷ es)) end = refused (record { class = disagreement; at = end - 20 })

unfoldable pub read_select : List ℕ → List Point → List BinHead → CrossBinHead → Reader CrossBin
read_select s ps bins h = do
  ks ← times h.tokens (read_token s ps bins h.points)
  e ← one_expression (expressions ks)
  done (record { kind = h.kind; guard = h.guard; select = e })

unfoldable pub read_selects : List ℕ → List Point → List BinHead → CrossParts CrossBinHead → Reader Cross
read_selects s ps bins c = do
  bs ← each (read_select s ps bins) c.bins
  let h = c.head
  done (record { points = h.points; guard = h.guard; weight = h.weight; at_least = h.at_least; bins = bs })

-- ---- the ten sections: each a count and its records

unfoldable pub read_point_section : List ℕ → Reader (List Point)
read_point_section s = do
  n ← section_count s 1 16
  times n (read_point s)

unfoldable pub read_bin_section : List ℕ → ℕ → Reader (List BinHead)
read_bin_section s points = do
  n ← section_count s 0 512
  read_bin_heads s points n []

unfoldable pub read_range_section : List ℕ → List Point → List BinHead → Reader (List ValueBin)
read_range_section s ps heads = do
  _ ← owned_count s 1024 (sum_of ranges_owned heads)
  each (read_bin_ranges s ps) heads

unfoldable pub read_transition_section : List ℕ → ℕ → Reader (List (TransitionHead ℕ))
read_transition_section s points = do
  n ← section_count s 0 64
  times n (read_transition s points)

unfoldable pub read_sequence_section : List ℕ → List (TransitionHead ℕ) → Reader (List (TransitionHead (List ℕ)))
read_sequence_section s ts = do
  _ ← owned_count s 64 (sum_of sequences_owned ts)
  each (read_sequences s) ts

unfoldable pub read_step_section : List ℕ → List (TransitionHead (List ℕ)) → Reader (List (TransitionHead (List (List StepHead))))
read_step_section s ts = do
  _ ← owned_count s 256 (sum_of steps_owned ts)
  each (read_bin_steps s) ts

unfoldable pub read_step_range_section : List ℕ → List Point → List (TransitionHead (List (List StepHead))) → Reader (List TransitionBin)
read_step_range_section s ps ts = do
  _ ← owned_count s 512 (sum_of step_ranges_owned ts)
  each (read_transition_ranges s ps) ts

unfoldable pub read_cross_section : List ℕ → ℕ → Reader (List CrossHead)
read_cross_section s points = do
  n ← section_count s 0 8
  times n (read_cross s points)

unfoldable pub read_cross_bin_section : List ℕ → List CrossHead → Reader (List (CrossParts CrossBinHead))
read_cross_bin_section s cs = do
  _ ← owned_count s 128 (sum_of cross_bins_owned cs)
  each (read_cross_bins s) cs

unfoldable pub read_token_section : List ℕ → List Point → List BinHead → List (CrossParts CrossBinHead) → Reader (List Cross)
read_token_section s ps bins cs = do
  _ ← owned_count s 1024 (sum_of tokens_owned cs)
  each (read_selects s ps bins) cs

-- ---- the whole table

-- sections 4 to 7
unfoldable pub read_transition_bins : List ℕ → List Point → Reader (List TransitionBin)
read_transition_bins s ps = do
  heads ← read_transition_section s (length ps)
  lengths ← read_sequence_section s heads
  steps ← read_step_section s lengths
  read_step_range_section s ps steps

-- sections 8 to 10
unfoldable pub read_crosses : List ℕ → List Point → List BinHead → Reader (List Cross)
read_crosses s ps bins = do
  cs ← read_cross_section s (length ps)
  cs ← read_cross_bin_section s cs
  read_token_section s ps bins cs

unfoldable pub read_table : List ℕ → Reader Table
read_table s = do
  ps ← read_point_section s
  heads ← read_bin_section s (length ps)
  bins ← read_range_section s ps heads
  ts ← read_transition_bins s ps
  cs ← read_crosses s ps heads
  done (record { points = ps; value_bins = bins; transition_bins = ts; crosses = cs })

-- What the bytes are: refused, or a table.
pub data Outcome : Type 0 where
  rejected : Fault → Outcome
  decoded : Table → Outcome

abbrev pub limited : ℕ → Table → Outcome
limited size t = cond (within_limits t) (decoded t) (rejected (record { class = limits; at = size }))

abbrev pub whole_read : ℕ → Read Table → Outcome
whole_read size (refused f) = rejected f
whole_read size (got t at) = cond (eqb at size) (limited size t) (rejected (record { class = leftover; at = at }))

unfoldable pub decode : List ℕ → Outcome
decode s = cond (leb (length s) 65536) (whole_read (length s) (read_table s 0)) (rejected (record { class = too_long; at = 0 }))

-- whether the table is accepted; the table, with nothing in it if it is refused
abbrev pub is_decoded : Outcome → Bool
is_decoded (rejected f) = false
is_decoded (decoded t) = true

abbrev pub table_from : Outcome → Table
table_from (rejected f) = no_table
table_from (decoded t) = t

unfoldable pub accepted : List ℕ → Bool
accepted s = is_decoded (decode s)

unfoldable pub table_of : List ℕ → Table
table_of s = table_from (decode s)

-- ---- a section's records

-- the bytes of a record in each section
abbrev pub record_sizes : List ℕ
record_sizes = 11 ∷ 8 ∷ 17 ∷ 4 ∷ 1 ∷ 3 ∷ 17 ∷ 13 ∷ 3 ∷ 20 ∷ []

-- the records of the n-th of some sections, the first of which stands at `at`
unfoldable pub section_from : List ℕ → ℕ → List ℕ → ℕ → List ℕ
section_from s at [] n = []
section_from s at (size ∷ sizes) zero = take (u16 s at * size) (drop (at + 2) s)
section_from s at (size ∷ sizes) (suc n) = section_from s (at + 2 + u16 s at * size) sizes n

-- Section 1 to 10 of an accepted table; else no bytes.
abbrev pub section_of : Outcome → List ℕ → ℕ → List ℕ
section_of (rejected f) s n = []
section_of (decoded t) s zero = []
section_of (decoded t) s (suc n) = section_from s 0 record_sizes n

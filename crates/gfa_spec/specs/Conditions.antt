-- When a text is refused, in the words of the table of document 01, "Refused calls". That it is refused exactly so: proofs/ConditionsLine, proofs/Conditions.
use Rattle.std.specs.Prelude.{ℕ, suc, ◌+◌, ◌*◌, ◌≤◌, ◌<◌, Bool, true, false, not, ◌&&◌, ◌||◌, List, [], ◌∷◌, ◌++◌, map, ◌≡◌, length}
use Rattle.gfa_spec.specs.Bytes.{same, star, is_empty, any, Part, between, last_byte, nth}
use Rattle.gfa_spec.specs.Reading.{fields, field, Entry, is_orientation, is_step, is_mark, lines, parsed, parse_lines}
use Rattle.gfa_spec.specs.Records.{segments}
use Rattle.gfa_spec.specs.Calls.{Refusal, plainly, on_line, at_place}

-- ---- a line

-- is the field a single + or -?
unfoldable pub is_single : List ℕ → Bool
is_single [] = false
is_single (b ∷ []) = is_orientation b
is_single (b ∷ (c ∷ bs)) = false

-- does the field mean no steps? it is `*` or empty
unfoldable pub is_none : List ℕ → Bool
is_none s = same s star || is_empty s

-- is the item of a P list malformed? it is not empty, and its last byte is no orientation or the name before it is empty
unfoldable pub is_malformed : List ℕ → Bool
is_malformed item = not (is_empty item) && not (is_step item)

-- has the walk an empty step before its last? a step is a mark and the name up to the next mark, so a mark stands at once behind a mark
unfoldable pub has_empty_step : List ℕ → Bool
has_empty_step [] = false
has_empty_step (b ∷ []) = false
has_empty_step (b ∷ (c ∷ bs)) = (is_mark b && is_mark c) || has_empty_step (c ∷ bs)

-- Why a line with these fields is refused, behind segments with the given IDs: a case for each of 5 to 17, which shuts out the earlier
-- cases of its line. An S, L, P or W line has exactly S (83), L (76), P (80) or W (87) as its first field.
pub data LineRefuses (ids : List (List ℕ)) (fs : List Part) : ℕ → Type 0 where
  -- 5: S line with fewer than 3 fields
  short_s : field 0 fs ≡ 83 ∷ [] → length fs < 3 → LineRefuses ids fs 5
  -- 6: segment ID already read
  id_read : field 0 fs ≡ 83 ∷ [] → 3 ≤ length fs → any (same (field 1 fs)) ids ≡ true → LineRefuses ids fs 6
  -- 7: L line with fewer than 6 fields
  short_l : field 0 fs ≡ 76 ∷ [] → length fs < 6 → LineRefuses ids fs 7
  -- 8: L from-orientation empty
  from_empty : field 0 fs ≡ 76 ∷ [] → 6 ≤ length fs → field 2 fs ≡ [] → LineRefuses ids fs 8
  -- 9: L from-orientation not a single + or -
  from_other : field 0 fs ≡ 76 ∷ [] → 6 ≤ length fs → is_empty (field 2 fs) ≡ false → is_single (field 2 fs) ≡ false → LineRefuses ids fs 9
  -- 10: L to-orientation empty
  to_empty : field 0 fs ≡ 76 ∷ [] → 6 ≤ length fs → is_single (field 2 fs) ≡ true → field 4 fs ≡ [] → LineRefuses ids fs 10
  -- 11: L to-orientation not a single + or -
  to_other : field 0 fs ≡ 76 ∷ [] → 6 ≤ length fs → is_single (field 2 fs) ≡ true → is_empty (field 4 fs) ≡ false → is_single (field 4 fs) ≡ false
      → LineRefuses ids fs 11
  -- 12: P line with fewer than 3 fields
  short_p : field 0 fs ≡ 80 ∷ [] → length fs < 3 → LineRefuses ids fs 12
  -- 13: malformed step: some item between commas (44) is malformed
  step_malformed : field 0 fs ≡ 80 ∷ [] → 3 ≤ length fs → is_none (field 2 fs) ≡ false → any is_malformed (between 44 (field 2 fs)) ≡ true → LineRefuses ids fs 13
  -- 14: W line with fewer than 7 fields
  short_w : field 0 fs ≡ 87 ∷ [] → length fs < 7 → LineRefuses ids fs 14
  -- 15: W walk with an empty step
  step_empty : field 0 fs ≡ 87 ∷ [] → 7 ≤ length fs → is_none (field 6 fs) ≡ false → has_empty_step (field 6 fs) ≡ true → LineRefuses ids fs 15
  -- 16: with no oriented step: it has no mark
  no_step : field 0 fs ≡ 87 ∷ [] → 7 ≤ length fs → is_none (field 6 fs) ≡ false → has_empty_step (field 6 fs) ≡ false → any is_mark (field 6 fs) ≡ false
      → LineRefuses ids fs 16
  -- 17: with an empty last step: its last byte is a mark
  last_empty : field 0 fs ≡ 87 ∷ [] → 7 ≤ length fs → is_none (field 6 fs) ≡ false → has_empty_step (field 6 fs) ≡ false → any is_mark (field 6 fs) ≡ true
      → is_mark (last_byte (field 6 fs)) ≡ true → LineRefuses ids fs 17

-- ---- a text

-- Why a text is refused as n at the line of this number, the first being 1: each earlier line is accepted, and this one is refused.
pub record TextRefuses (text : List ℕ) (n number : ℕ) : Type 0 where
  pub earlier : List Part
  pub line : Part
  pub later : List Part
  pub entries : List Entry
  pub standing : lines text ≡ earlier ++ (line ∷ later)
  pub counted : number ≡ suc (length earlier)
  pub reads : parse_lines 1 [] earlier ≡ parsed entries
  pub why : LineRefuses (map (λ s. s.id) (segments entries)) (fields line) n

-- ---- a byte

-- Why the byte at this offset is bad; behind the last byte of a text stands 0 here, which is neither bad nor a line feed.
pub data BadAt (text : List ℕ) : ℕ → ℕ → Type 0 where
  -- 2: a byte of 128 or more
  high : (k : ℕ) → 128 ≤ nth k text 0 → BadAt text 2 k
  -- 3: a carriage return (13) not followed at once by a line feed (10)
  alone : (k : ℕ) → nth k text 0 ≡ 13 → (nth (suc k) text 0 ≡ 10 → ⊥) → BadAt text 3 k

-- Why a text is refused as n from this offset: the byte there is bad, and no byte before it is.
pub record ByteRefuses (text : List ℕ) (n from : ℕ) : Type 0 where
  pub bad : BadAt text n from
  pub first : (m k : ℕ) → k < from → BadAt text m k → ⊥

-- ---- a call

-- no byte of the text is bad
abbrev pub NoneBad : List ℕ → Type 0
NoneBad text = (n k : ℕ) → BadAt text n k → ⊥

-- Why a call is refused before anything is answered, with a work area of so many words: each case shuts out the earlier ones.
pub data CallRefuses (text : List ℕ) (work : ℕ) : Refusal → Type 0 where
  -- 1: text longer than 1,048,576 bytes
  text_long : 1048576 < length text → CallRefuses text work (plainly 1)
  -- 2 and 3, by smallest offset
  byte_bad : (n from : ℕ) → length text ≤ 1048576 → ByteRefuses text n from → CallRefuses text work (at_place n from)
  -- 4: work area shorter than 4 words per text byte plus 64
  work_short : length text ≤ 1048576 → NoneBad text → work < 4 * length text + 64 → CallRefuses text work (plainly 4)
  -- 5 to 17, lines in text order
  line_bad : (n number : ℕ) → length text ≤ 1048576 → NoneBad text → 4 * length text + 64 ≤ work → TextRefuses text n number
      → CallRefuses text work (on_line n number)

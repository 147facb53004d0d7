-- The sort of a line, by its first field. Assumes nothing.
use Prim.Native.Nat.{ℕ, suc, ◌+◌, ◌≤◌}
use native.Mathlib.Numerals.{add-one}
use native.Mathlib.Omega.{arith}
use mathlib.Core.Bool.{false}
use mathlib.Core.List.{List, [], ◌∷◌}
use mathlib.Core.Path.{◌≡◌, ◌∙◌}
use lib.ListN.{length, get_or}
use lib.Seq.{slice, slice-cons, slice_empty, length-slice}
use borrow.Author.Tests.{ne_eqb}
use Rattle.lines.specs.declared.sort.Sort.TheVariants.{Blank, Comment, Header, Segment, Link, Path, Other}
use Rattle.gfa_spec.specs.Bytes.{part, same, is_empty, nth}
use Rattle.gfa_spec.specs.Reading.{fields, field, parse_fields, parse_line, starts_comment}
use Rattle.scan.specs.Places.{FirstIs, part_at}
use Rattle.lines.specs.Sorts.{SortIs, read_as}
use Rattle.tables.specs.Paths.{letter_of, parse_path}
use Rattle.tables.specs.declared.kinds.PathKind.TheVariants as kind
use Rattle.scan.proofs.Cutting.{part_slice, split_range}
use Rattle.gfa_spec.proofs.Parts.{part_first}
use Rattle.gfa_spec.proofs.Comparing.{same_length}

module _ {text : List ℕ} {start size : ℕ} (h : start + size ≤ length text) where
  pub sort_blank : size ≡ 0 → SortIs text start size Blank
  unfolding parse_line read_as part_at part is_empty
  sort_blank e = record { is = λ ids. rw e; letter = tt }

  pub sort_comment : (size ≡ 0 → ⊥) → get_or text start 0 ≡ 35 → SortIs text start size Comment
  unfolding parse_line read_as part_at is_empty starts_comment
  sort_comment n e = record { is = λ ids. rw (part_first start size text (omega arith) h, e); letter = tt }

-- a line that is neither blank nor a comment, with its first tab
module _ {text : List ℕ} {start size tab : ℕ} (first : FirstIs text 9 start (start + size) tab) (inside : start + size ≤ length text) (some : size ≡ 0 → ⊥)
    (plain : get_or text start 0 ≡ 35 → ⊥) where
  -- it is read by its fields
  by_fields : (ids : List (List ℕ)) → parse_line ids (part_at text start size) ≡ parse_fields ids (part_at text start size) (fields (part_at text start size))
  unfolding parse_line part_at is_empty starts_comment
  by_fields ids = rw (part_first start size text (omega arith) inside) (simp (ne_eqb _ _ plain))

  -- the first field ends at the first tab
  first_field : field 0 (fields (part_at text start size)) ≡ slice start tab text
  unfolding field fields part_at nth
  first_field = rw (part_slice start size text, split_range first)

  -- a first field of some other length than 1 is none of the five
  no_letter : (tab ≡ start + 1 → ⊥) → (b : ℕ) → same (field 0 (fields (part_at text start size))) (b ∷ []) ≡ false
  no_letter e b = rw first_field (same_length _ _ (λ p. e (omega (arith, p, length-slice start tab text (omega arith)))))

  pub sort_long : (tab ≡ start + 1 → ⊥) → SortIs text start size Other
  unfolding parse_fields read_as
  sort_long e = record { is = λ ids. by_fields ids ∙ simp (no_letter e); letter = tt }

  -- a first field of one byte
  one_letter : tab ≡ start + 1 → field 0 (fields (part_at text start size)) ≡ get_or text start 0 ∷ []
  one_letter e =
      let h : suc start ≤ length text = omega arith in
      first_field ∙ rw (e, add-one, slice-cons start (suc start) text 0 (omega arith) h, slice_empty)

  letter : tab ≡ start + 1 → (b : ℕ) → get_or text start 0 ≡ b → field 0 (fields (part_at text start size)) ≡ b ∷ []
  letter e b p = rw (← p) (one_letter e)

  -- one byte that is another
  no_byte : tab ≡ start + 1 → (b : ℕ) → (get_or text start 0 ≡ b → ⊥) → same (field 0 (fields (part_at text start size))) (b ∷ []) ≡ false
  unfolding same
  no_byte e b p = rw (one_letter e) (simp (ne_eqb _ _ p))

  pub sort_header : tab ≡ start + 1 → get_or text start 0 ≡ 72 → SortIs text start size Header
  unfolding parse_fields read_as same
  sort_header e p = record { is = λ ids. by_fields ids ∙ rw (letter e 72 p); letter = tt }

  pub sort_segment : tab ≡ start + 1 → get_or text start 0 ≡ 83 → SortIs text start size Segment
  unfolding parse_fields read_as same
  sort_segment e p = record { is = λ ids. by_fields ids ∙ rw (letter e 83 p); letter = p }

  pub sort_link : tab ≡ start + 1 → get_or text start 0 ≡ 76 → SortIs text start size Link
  unfolding parse_fields read_as same
  sort_link e p = record { is = λ ids. by_fields ids ∙ rw (letter e 76 p); letter = p }

  pub sort_path : tab ≡ start + 1 → get_or text start 0 ≡ 80 → SortIs text start size (Path kind.P)
  unfolding parse_fields read_as parse_path letter_of same
  sort_path e p = record { is = λ ids. by_fields ids ∙ rw (letter e 80 p); letter = p }

  pub sort_walk : tab ≡ start + 1 → get_or text start 0 ≡ 87 → SortIs text start size (Path kind.W)
  unfolding parse_fields read_as parse_path letter_of same
  sort_walk e p = record { is = λ ids. by_fields ids ∙ rw (letter e 87 p); letter = p }

  pub sort_other : tab ≡ start + 1 →
      (get_or text start 0 ≡ 72 → ⊥) → (get_or text start 0 ≡ 83 → ⊥) → (get_or text start 0 ≡ 76 → ⊥) → (get_or text start 0 ≡ 80 → ⊥) → (get_or text start 0 ≡ 87 → ⊥) →
      SortIs text start size Other
  unfolding parse_fields read_as
  sort_other e p q r s t = record { is = λ ids. by_fields ids ∙ simp (no_byte e 72 p, no_byte e 83 q, no_byte e 76 r, no_byte e 80 s, no_byte e 87 t); letter = tt }

-- what the sort of a line is told by
pub ruleset sorting = (sort_blank, sort_comment, sort_long, sort_header, sort_segment, sort_link, sort_path, sort_walk, sort_other)

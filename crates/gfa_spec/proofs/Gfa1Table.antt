-- Lines that the specification allows, lines that it does not, and what lines state: one computed claim. Assumes nothing.
use Prim.Native.Nat.{ℕ}
use Prim.Native.String.{String}
use mathlib.Core.Bool.{Bool, true, false, not, ◌&&◌}
use mathlib.Core.List.{List, [], ◌∷◌, ◌++◌, map}
use Rattle.std.specs.Prelude.{Option, None, Some}
use Rattle.gfa_spec.specs.Options.{map_or}
use lib.Dec.{T, eqb}
use Rattle.gfa_spec.specs.Bytes.{bytes, same, all, join}
use Rattle.gfa_spec.specs.Reading.{Read, refused, accepted, parse_line, map_read}
use Rattle.gfa_spec.specs.Calls.{Outcome, answer}
use Rattle.gfa_spec.specs.Services.{spell_path}
use Rattle.gfa_spec.specs.Gfa1.{in_class, matches, is_name, is_sign, ends_item, holds_end, is_segment_name, is_sequence, is_orientation, is_index, is_position, is_cigar, is_overlap, is_character, after_sign, is_integer, are_digits, are_scaled, is_float, is_printed, is_hex, are_numbers, is_array, is_typed, is_tag, are_overlaps, items, is_item, are_items, starts_step, walk_steps, is_walk_step, is_walk, columns, column, sort_of, line_sort, expressions, begins, fits, allows_untagged, allows, allows10, broken_from, first_broken, Visit, Record, item_visit, walk_visit, record_of, states, lacks_comma, no_comma_in, no_comma}
use Rattle.gfa_spec.specs.Gfa1Read.{visit_of, path_record, stated}
use Rattle.gfa_spec.proofs.Computing.{computing}

-- ---- how a row is said

-- the texts of a visit
visit_texts : Visit → List (List ℕ)
visit_texts v = v.name ∷ (v.orientation ∷ []) ∷ []

-- the texts of a record, in order
record_texts : Option Record → List (List ℕ)
record_texts None = []
record_texts (Some (Record.segment name sequence tags)) = name ∷ sequence ∷ tags
record_texts (Some (Record.link from from_orientation to to_orientation overlap tags)) =
    from ∷ (from_orientation ∷ []) ∷ to ∷ (to_orientation ∷ []) ∷ overlap ∷ tags
record_texts (Some (Record.path name visits overlaps tags)) = name ∷ (join (map visit_texts visits) ++ (overlaps ∷ tags))
record_texts (Some (Record.walk sample haplotype sequence start end steps visits tags)) =
    sample ∷ haplotype ∷ sequence ∷ start ∷ end ∷ steps ∷ (join (map visit_texts visits) ++ tags)

-- equality of lists of texts
same_all : List (List ℕ) → List (List ℕ) → Bool
same_all [] [] = true
same_all [] (y ∷ ys) = false
same_all (x ∷ xs) [] = false
same_all (x ∷ xs) (y ∷ ys) = same x y && same_all xs ys

-- equality of column numbers
same_number : Option ℕ → Option ℕ → Bool
same_number None None = true
same_number None (Some n) = false
same_number (Some m) None = false
same_number (Some m) (Some n) = eqb m n

-- did the reader read the record of these texts?
reads_texts : List (List ℕ) → Read (Option Record) → Bool
reads_texts texts (refused n) = false
reads_texts texts (accepted r) = same_all (record_texts r) texts

-- did it refuse with this number?
refuses_as : ℕ → Read (Option Record) → Bool
refuses_as k (refused n) = eqb n k
refuses_as k (accepted r) = false

-- allowed by 1.0 and 1.1, no segment name holding a comma
both : String → Bool
both l = allows10 (bytes l) && no_comma (bytes l) && same_number (first_broken (bytes l)) None

-- allowed by 1.1 alone
newer : String → Bool
newer l = allows (bytes l) && not (allows10 (bytes l)) && no_comma (bytes l) && same_number (first_broken (bytes l)) None

-- allowed, with a comma in a segment name
comma : String → Bool
comma l = allows (bytes l) && not (no_comma (bytes l))

-- not allowed, and the first column that is missing or breaks its expression
broken : ℕ → String → Bool
broken k l = not (allows (bytes l)) && same_number (first_broken (bytes l)) (Some k)

-- allowed, and states the record of these texts
says : String → List String → Bool
says l texts = allows (bytes l) && same_all (record_texts (states (bytes l))) (map bytes texts)

-- what the reader reads of a line
reading_of : String → Read (Option Record)
reading_of l = map_read stated (parse_line [] (record { at = 0; bytes = bytes l }))

-- the reader reads the record of these texts
read : String → List String → Bool
read l texts = reads_texts (map bytes texts) (reading_of l)

-- it refuses with number k
stops : ℕ → String → Bool
stops k l = refuses_as k (reading_of l)

-- is the answer these bytes?
answers : List ℕ → Outcome → Bool
answers bs (Outcome.refusal r) = false
answers bs (answer out) = same out bs

-- the bytes that path 0 of a text spells
spells : String → String → Bool
spells text bs = answers (bytes bs) (spell_path (bytes text) 0 65536 1024)

-- ---- the rows

-- Lines by sorts.
pub table : List Bool
table =
    -- segments
    both "S\t11\tACCTT"
    ∷ both "S\t1\t*"
    ∷ both "S\t1\tACGTCACANNN\tRC:i:1232\tLN:i:11\tab:Z:a b,c"
    ∷ says "S\t1\tACGT\tRC:i:1232\tab:Z:a b" ("1" ∷ "ACGT" ∷ "RC:i:1232" ∷ "ab:Z:a b" ∷ [])
    ∷ both "S\tA+B\tac=.N"
    ∷ both "S\ta*=\t*"
    ∷ comma "S\t,a\tA"
    ∷ comma "S\tA,B\t*"
    ∷ says "S\tA,B\t*" ("A,B" ∷ "*" ∷ [])
    ∷ broken 2 "S\tA+,B\t*"
    ∷ broken 2 "S\t*a\t*"
    ∷ broken 2 "S\t=a\t*"
    ∷ broken 2 "S\t\tA"
    ∷ broken 2 "S\ta b\tA"
    ∷ broken 2 "S"
    ∷ broken 3 "S\ta"
    ∷ broken 3 "S\ta\t"
    ∷ broken 3 "S\ta\tA*"
    ∷ broken 3 "S\ta\tA-C"
    ∷ broken 4 "S\ta\tA\tRC:x:1"
    ∷ broken 4 "S\ta\tA\t"
    ∷ broken 5 "S\ta\tA\tRC:i:1\tR:i:1"
    -- tags
    ∷ both "S\ta\tA\tx0:A:~\tx1:i:-07\tx2:f:+.5e-3\tx3:Z: \tx4:J:{}\tx5:H:0AF\tx6:B:c,1,-2"
    ∷ both "S\ta\tA\txx:f:1\tyy:f:1E+2\tzz:f:10.25"
    ∷ both "S\ta\tA\txx:B:f,-1.5e3,.5,7"
    ∷ broken 4 "S\ta\tA\tRC:i:xyz"
    ∷ broken 4 "S\ta\tA\tRC:i:"
    ∷ broken 4 "S\ta\tA\tRC:i:1.5"
    ∷ broken 4 "S\ta\tA\tRC:i:-"
    ∷ broken 4 "S\ta\tA\txx:A:ab"
    ∷ broken 4 "S\ta\tA\txx:A: "
    ∷ broken 4 "S\ta\tA\txx:f:1."
    ∷ broken 4 "S\ta\tA\txx:f:1e"
    ∷ broken 4 "S\ta\tA\txx:f:1e2E3"
    ∷ broken 4 "S\ta\tA\txx:f:1.2.3"
    ∷ broken 4 "S\ta\tA\txx:f:1e.5"
    ∷ broken 4 "S\ta\tA\txx:Z:"
    ∷ broken 4 "S\ta\tA\txx:H:af"
    ∷ broken 4 "S\ta\tA\txx:B:c"
    ∷ broken 4 "S\ta\tA\txx:B:c,"
    ∷ broken 4 "S\ta\tA\txx:B:x,1"
    ∷ broken 4 "S\ta\tA\t1x:i:1"
    ∷ read "S\ta\tA\tRC:i:xyz" ("a" ∷ "A" ∷ "RC:i:xyz" ∷ [])
    -- links
    ∷ both "L\t11\t+\t12\t-\t4M"
    ∷ both "L\t1\t+\t1\t+\t*\tMQ:i:40"
    ∷ says "L\t11\t+\t12\t-\t4M" ("11" ∷ "+" ∷ "12" ∷ "-" ∷ "4M" ∷ [])
    ∷ read "L\t1\t+\t1\t-\t*\tMQ:i:40\tid:Z:e" ("1" ∷ "+" ∷ "1" ∷ "-" ∷ "*" ∷ "MQ:i:40" ∷ "id:Z:e" ∷ [])
    ∷ comma "L\t1\t+\t2,\t-\t*"
    ∷ broken 3 "L\t1\t\t2\t-\t4M"
    ∷ broken 3 "L\t1\tx\t2\t-\t4M"
    ∷ broken 5 "L\t1\t+\t2\t++\t4M"
    ∷ broken 6 "L\t1\t+\t2\t-"
    ∷ broken 6 "L\t1\t+\t2\t-\t4"
    ∷ broken 6 "L\t1\t+\t2\t-\tM"
    ∷ broken 6 "L\t1\t+\t2\t-\t4M,4M"
    -- paths
    ∷ both "P\t14\t11+,12-,13+\t4M,5M"
    ∷ both "P\tp\t1+\t*"
    ∷ both "P\tp\t1+,2-,3+\t*,9M2I3D1=\tab:Z:abcd"
    ∷ both "P\tp\t++,--\t*"
    ∷ says "P\tp,q\t++,1-\t*,4M\tab:Z:x" ("p,q" ∷ "+" ∷ "+" ∷ "1" ∷ "-" ∷ "*,4M" ∷ "ab:Z:x" ∷ [])
    ∷ comma "P\tp\ta,b+,c-\t*"
    ∷ says "P\tp\ta,b+,c-\t*" ("p" ∷ "a,b" ∷ "+" ∷ "c" ∷ "-" ∷ "*" ∷ [])
    ∷ stops 13 "P\tp\ta,b+,c-\t*"
    ∷ comma "P\tp\t,a+\t*"
    ∷ says "P\tp\t,a+\t*" ("p" ∷ ",a" ∷ "+" ∷ "*" ∷ [])
    ∷ read "P\tp\t,a+\t*" ("p" ∷ "a" ∷ "+" ∷ "*" ∷ [])
    ∷ spells "S\t,a\tA\nS\ta\tC\nP\tp\t,a+\t*\n" "C"
    ∷ broken 2 "P\t*\t1+\t*"
    ∷ broken 3 "P\tp\t\t*"
    ∷ broken 3 "P\tp\t*\t*"
    ∷ broken 3 "P\tp\t1+,\t*"
    ∷ broken 3 "P\tp\t+,1+\t*"
    ∷ broken 3 "P\tp\t1,2,3\t*"
    ∷ broken 3 "P\tp\t1+,=2+\t*"
    ∷ broken 4 "P\tp\t1+"
    ∷ broken 4 "P\tp\t1+\t"
    ∷ broken 4 "P\tp\t1+,2+\t12,12"
    ∷ broken 4 "P\tp\t1+,2+\t12M|12M"
    -- walks
    ∷ newer "W\tNA12878\t1\tchr1\t0\t11\t>s11<s12>s13"
    ∷ newer "W\ts\t0\tc\t*\t*\t>1\txx:Z:y"
    ∷ newer "W\ts\t0\tc\t*\t*\t>*<=+"
    ∷ says "W\ts\t0\tc\t*\t7\t>a<b" ("s" ∷ "0" ∷ "c" ∷ "*" ∷ "7" ∷ ">a<b" ∷ "a" ∷ "+" ∷ "b" ∷ "-" ∷ [])
    ∷ comma "W\ts\t0\tc\t*\t*\t>a,b"
    ∷ broken 3 "W\ts\t*\tc\t*\t*\t>1"
    ∷ broken 5 "W\ts\t0\tc\t-1\t*\t>1"
    ∷ broken 7 "W\ts\t0\tc\t*\t*"
    ∷ broken 7 "W\ts\t0\tc\t*\t*\t"
    ∷ broken 7 "W\ts\t0\tc\t*\t*\t*"
    ∷ broken 7 "W\ts\t0\tc\t*\t*\tab>c"
    ∷ broken 7 "W\ts\t0\tc\t*\t*\t><1"
    ∷ broken 7 "W\ts\t0\tc\t*\t*\t>1>"
    -- other lines
    ∷ broken 1 ""
    ∷ broken 1 "H\tVN:Z:1.0"
    ∷ broken 1 "# comment"
    ∷ broken 1 "SS\ta\tA"
    ∷ broken 1 "s\ta\tA"
    ∷ []

-- Every row holds.
pub table_holds : T (all (λ b. b) table)
unfolding table both newer comma broken says read stops answers spells reading_of reads_texts refuses_as visit_texts record_texts same_all same_number in_class matches is_name is_sign ends_item holds_end is_segment_name is_sequence is_orientation is_index is_position is_cigar is_overlap is_character after_sign is_integer are_digits are_scaled is_float is_printed is_hex are_numbers is_array is_typed is_tag are_overlaps items is_item are_items starts_step walk_steps is_walk_step is_walk columns column sort_of line_sort expressions begins fits map_or allows_untagged allows allows10 broken_from first_broken item_visit walk_visit record_of states lacks_comma no_comma_in no_comma visit_of path_record stated computing
table_holds = tt

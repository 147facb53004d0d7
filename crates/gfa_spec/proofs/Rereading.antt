-- Entries that are written, each on its line, are read again. Assumes nothing.
use Prim.Native.Nat.{ℕ, suc}
use mathlib.Core.Bool.{Bool, true, false, true≢false}
use mathlib.Core.List.{List, [], ◌∷◌, ◌++◌, map, append_assoc}
use Rattle.std.specs.Prelude.{None}
use mathlib.Core.Path.{◌≡◌, refl, sym, ap, ◌∙◌}
use Rattle.gfa_spec.specs.Bytes.{same, any, join, tabbed, ended, Part, distinct, Each}
use Rattle.gfa_spec.specs.Reading.{fields, Entry, accepted, parse_line, parsed, id_of, after, onward, parse_lines, parse, map_read, choose}
use Rattle.gfa_spec.specs.Calls.{bad_byte}
use Rattle.gfa_spec.proofs.Each.{Lacks, each_front, each_map, each_implies, distinct_apart}
use Rattle.gfa_spec.proofs.Lines.{Unreturned, lacks_unreturned}
use Rattle.gfa_spec.proofs.Answers.{map_read_accepted}
use Rattle.gfa_spec.proofs.Places.{unplaced, erase, parse_line_alike, erase_parsed, id_of_erase, after_erase, parse_ended}
use Rattle.gfa_spec.proofs.Entries.{Holds, is_header, is_comment, is_blank, is_other_line, is_segment, is_link, is_p, is_w, line_holds, Fresh, parse_line_again}
use Rattle.gfa_spec.proofs.Clean.{LineBytes, no_feed, no_return, ended_good}
use Rattle.gfa_spec.proofs.Texts.{From}

-- ---- the line of an entry

-- the line that an entry is written on
unfoldable pub written : Entry → List ℕ
written e = choose (λ l. l) (λ l. l) (λ s. s.line) (λ l. l.line) (λ p. tabbed p.fields) e

-- behind segments with other IDs the line is read as the entry, but for the places of its steps
abbrev pub Again : Entry → Type 0
Again e = (ids : List (List ℕ)) → Fresh ids e → map_read erase (parse_line ids (unplaced (written e))) ≡ accepted (erase e)

-- ---- lines that are read again

-- the first entry, and the entries behind it
again_first : (number : ℕ) (ids : List (List ℕ)) (e : Entry) (p : Part) (ps : List Part) (es : List Entry)
    → map_read erase (parse_line ids p) ≡ accepted (erase e)
    → erase_parsed (parse_lines (suc number) (ids ++ id_of e) ps) ≡ parsed es → erase_parsed (parse_lines number ids (p ∷ ps)) ≡ parsed (erase e ∷ es)
unfolding parse_lines onward
again_first number ids e p ps es h k =
    let (d, i, j) = map_read_accepted erase (parse_line ids p) (erase e) h in
    let same-ids : id_of d ≡ id_of e = sym (id_of_erase d) ∙ ap id_of j ∙ id_of_erase e in
    rw i (after_erase d (parse_lines (suc number) (ids ++ id_of d) ps) ∙ rw (same-ids, k, j) (unfold after in refl))

-- the lines of entries that differ in their IDs
again_lines : (number : ℕ) (ids : List (List ℕ)) (es : List Entry) → Each Again es → distinct (ids ++ join (map id_of es)) ≡ true
    → erase_parsed (parse_lines number ids (map unplaced (map written es))) ≡ parsed (map erase es)
again_lines number ids [] h d = unfold parse_lines erase_parsed in refl
again_lines number ids (e ∷ es) h d =
    let rest = join (map id_of es) in
    let more : distinct (ids ++ (id_of e ++ rest)) ≡ true = unfold join in d in
    let new = each_front (λ id. any (same id) ids ≡ false) (id_of e) rest (distinct_apart ids (id_of e ++ rest) more) in
    again_first number ids e (unplaced (written e)) (map unplaced (map written es)) (map erase es) (h.0 ids new)
    (again_lines (suc number) (ids ++ id_of e) es h.1 (rw (append_assoc ids (id_of e) rest) more))

-- clean lines have no line feed
line_unfed : (ls : List (List ℕ)) → Each LineBytes ls → Each (Lacks 10) ls
line_unfed ls h = each_implies (λ l. each_implies no_feed l) ls h

-- and end in no carriage return
line_unreturned : (ls : List (List ℕ)) → Each LineBytes ls → Each Unreturned ls
line_unreturned ls h = each_implies (λ l k. lacks_unreturned l (each_implies no_return l k)) ls h

-- entries that differ in their IDs, written on clean lines, are read again, but for the places of their steps
pub read_again : (es : List Entry) → Each Again es → distinct (join (map id_of es)) ≡ true → Each (λ e. LineBytes (written e)) es
    → erase_parsed (parse (ended (map written es))) ≡ parsed (map erase es)
read_again es h d c =
    let ls = map written es in
    let clean = each_map LineBytes written es c in
    parse_ended ls (line_unfed ls clean) (line_unreturned ls clean) ∙ again_lines 1 [] es h d

-- and the text has no bad byte
pub written_good : (es : List Entry) → Each (λ e. LineBytes (written e)) es → bad_byte 0 (ended (map written es)) ≡ None
written_good es c = ended_good 0 (map written es) (each_map LineBytes written es c)

-- ---- entries that were read

-- an entry that is no path
unfoldable pub is_path : Entry → Bool
is_path e = choose (λ l. false) (λ l. false) (λ s. false) (λ l. false) (λ p. true) e

-- an entry that was read, and is no path, is written on its line
holds_written : (ids : List (List ℕ)) (p : Part) (fs : List Part) (e : Entry) → is_path e ≡ false → Holds ids p fs e → p.bytes ≡ written e
unfolding written is_path choose
holds_written ids p fs e n is_header = refl
holds_written ids p fs e n is_comment = refl
holds_written ids p fs e n is_blank = refl
holds_written ids p fs e n is_other_line = refl
holds_written ids p fs e n (is_segment long fresh) = refl
holds_written ids p fs e n (is_link a b long u i v j) = refl
holds_written ids p fs e n (is_p steps letter long a) = absurd (true≢false n)
holds_written ids p fs e n (is_w steps letter long a) = absurd (true≢false n)

-- so it is read again
pub from_again : (e : Entry) → is_path e ≡ false → From e → Again e
unfolding map_read unplaced
from_again e n f ids fresh =
    let line = holds_written f.ids f.line (fields f.line) e n (line_holds f.ids f.line e f.reads) in
    parse_line_alike ids (unplaced (written e)) f.line (sym line) ∙ rw (parse_line_again f.ids ids f.line e fresh f.reads)

-- from a clean line
pub from_line : (e : Entry) → is_path e ≡ false → From e → LineBytes (written e)
from_line e n f = rw (← (holds_written f.ids f.line (fields f.line) e n (line_holds f.ids f.line e f.reads))) f.clean

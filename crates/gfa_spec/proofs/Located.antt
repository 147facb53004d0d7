-- Where lines, fields and the names of steps stand in the text: a place and a length name their bytes. Assumes nothing.
use Prim.Native.Nat.{ℕ, zero, suc, ◌+◌, ◌-◌, ◌≤◌}
use native.Mathlib.Nat.{zero-add, suc-add}
use native.Mathlib.Omega.{arith}
use mathlib.Core.List.{List, [], ◌∷◌, ◌++◌, drop_last}
use mathlib.Core.Path.{◌≡◌, refl, sym, ap, ◌∙◌}
use lib.ListN.{length, take, drop}
use lib.Seq.{take-nil, take-take, drop-drop}
use Rattle.gfa_spec.specs.Bytes.{part, Part, split, nth, Each}
use Rattle.gfa_spec.specs.Reading.{fields, nowhere, lines, Step, Entry, header, comment, blank, other, segment, link, path, accepted, step_of, parse_psteps, walk, parse_wsteps, parsed, id_of, parse}
use Rattle.gfa_spec.specs.Records.{paths}
use Rattle.gfa_spec.proofs.Each.{each_implies, nth_each}
use Rattle.gfa_spec.proofs.Splitting.{Within, within_more, within_none, within_front, split_within}
use Rattle.gfa_spec.proofs.Lines.{within_shorter, lines_within}
use Rattle.gfa_spec.proofs.Steps.{psteps_each, walk_ind, wsteps_each}
use Rattle.gfa_spec.proofs.Entries.{Holds, is_header, is_comment, is_blank, is_other_line, is_segment, is_link, is_p, is_w, line_holds}
use Rattle.gfa_spec.proofs.Texts.{Reads, parse_reads}
use Rattle.gfa_spec.proofs.Sorts.{sorted_each}

-- ---- parts of parts

-- what is left of a front
pub drop_front : (a k : ℕ) (l : List ℕ) → drop a (take (a + k) l) ≡ take k (drop a l)
drop_front zero k l = ap (λ n. take n l) (zero-add k)
drop_front (suc a) k [] = ap (drop (suc a)) (take-nil (suc a + k)) ∙ sym (take-nil k)
drop_front (suc a) k (x ∷ l) = rw suc-add (drop_front a k l)

-- bytes of bytes of a text
pub part_part : (a n k b : ℕ) (s : List ℕ) → n ≤ k → part a n (part b (a + k) s) ≡ part (b + a) n s
unfolding part
part_part a n k b s l = ap (take n) (drop_front a k (drop b s)) ∙ take-take n k (drop a (drop b s)) l ∙ ap (take n) (drop-drop a b s)

-- a part of a part is a part of the text
pub within_within : (at : ℕ) (s : List ℕ) (p q : Part) → Within at s p → Within p.at p.bytes q → Within at s q
within_within at s p q w v =
    let a : ℕ = q.at - p.at in
    let k : ℕ = length p.bytes - a in
    let m : length p.bytes ≡ a + k = omega (arith, v.begins, v.ends) in
    let n : length q.bytes ≤ k = omega (arith, v.begins, v.ends) in
    let place : q.at - at ≡ (p.at - at) + a = omega (arith, w.begins, v.begins) in
    let inner : part (p.at - at) (a + k) s ≡ p.bytes = rw (← m) w.holds in
    record {
      begins = omega (arith, w.begins, v.begins);
      ends = omega (arith, w.ends, v.ends);
      holds = rw place (sym (part_part a (length q.bytes) k (p.at - at) s n) ∙ rw inner v.holds);
    }

-- ---- fields

-- the fields of a line
pub fields_within : (text : List ℕ) (p : Part) → Within 0 text p → Each (Within 0 text) (fields p)
unfolding fields
fields_within text p w = each_implies (λ q. within_within 0 text p q w) (split 9 p.at p.bytes) (split_within 9 p.at p.bytes)

-- ---- the names of steps

-- a string without its last byte is a front of the string
drop_last_front : (l : List ℕ) → (length (drop_last l) ≤ length l) × (take (length (drop_last l)) l ≡ drop_last l)
drop_last_front [] = (omega arith, refl)
drop_last_front (b ∷ []) = (omega arith, refl)
drop_last_front (b ∷ (c ∷ l)) = let r = drop_last_front (c ∷ l) in (omega arith, ap (λ m. b ∷ m) r.1)

-- the name of a step stands at its place in the text
abbrev pub NameWithin : List ℕ → Step → Type 0
NameWithin text s = Within 0 text s.name

-- the steps of a P field
psteps_within : (text : List ℕ) (f : Part) (steps : List Step) → Within 0 text f → parse_psteps f ≡ accepted steps → Each (NameWithin text) steps
unfolding step_of
psteps_within text f steps w a =
    psteps_each (Within 0 text) (NameWithin text)
    (λ item v good. let r = drop_last_front item.bytes in within_shorter 0 text item (drop_last item.bytes) v r.0 r.1)
    f steps (each_implies (λ q. within_within 0 text f q w) (split 44 f.at f.bytes) (split_within 44 f.at f.bytes)) a

-- the steps of a walk, and the bytes before its first mark
walk_within : (at : ℕ) (s : List ℕ) → Within at s (record { at = at; bytes = (walk at s).before }) × Each (λ t. Within at s t.name) (walk at s).steps
walk_within at s =
    walk_ind (λ at s w. Within at s (record { at = at; bytes = w.before }) × Each (λ t. Within at s t.name) w.steps)
    (λ at. (within_none at [], tt))
    (λ at b s w e h. (within_none at (b ∷ s), (within_more at b s _ h.0, each_implies (λ t. within_more at b s t.name) w.steps h.1)))
    (λ at b s w e h. (within_front at b s _ refl h.0, each_implies (λ t. within_more at b s t.name) w.steps h.1))
    at s

-- the steps of a W field
wsteps_within : (text : List ℕ) (f : Part) (steps : List Step) → Within 0 text f → parse_wsteps f ≡ accepted steps → Each (NameWithin text) steps
wsteps_within text f steps w a =
    let inner = each_implies {Q = NameWithin text} (λ t. within_within 0 text f t.name w) (walk f.at f.bytes).steps (walk_within f.at f.bytes).1 in
    each_implies (λ s h. h.1) steps (wsteps_each (NameWithin text) f steps inner a)

-- ---- a text

-- field k of a line, if it is there, or else no bytes at 0
field_within : (text : List ℕ) (k : ℕ) (fs : List Part) → Each (Within 0 text) fs → Within 0 text (nth k fs nowhere)
unfolding nowhere
field_within text k fs h = nth_each (Within 0 text) k fs nowhere h (within_none 0 text)

-- the names of an entry's steps stand at their places in the text
abbrev pub EntryWithin : List ℕ → Entry → Type 0
EntryWithin text (header l) = Unit {0}
EntryWithin text (comment l) = Unit {0}
EntryWithin text (blank l) = Unit {0}
EntryWithin text (other l) = Unit {0}
EntryWithin text (segment s) = Unit {0}
EntryWithin text (link l) = Unit {0}
EntryWithin text (path p) = Each (NameWithin text) p.steps

-- an entry of a line that stands in the text
holds_within : (text : List ℕ) (ids : List (List ℕ)) (p : Part) (fs : List Part) (e : Entry) → Each (Within 0 text) fs → Holds ids p fs e → EntryWithin text e
holds_within text ids p fs e w is_header = tt
holds_within text ids p fs e w is_comment = tt
holds_within text ids p fs e w is_blank = tt
holds_within text ids p fs e w is_other_line = tt
holds_within text ids p fs e w (is_segment long fresh) = tt
holds_within text ids p fs e w (is_link a b long u i v j) = tt
holds_within text ids p fs e w (is_p steps letter long a) = psteps_within text (nth 2 fs nowhere) steps (field_within text 2 fs w) a
holds_within text ids p fs e w (is_w steps letter long a) = wsteps_within text (nth 6 fs nowhere) steps (field_within text 6 fs w) a

-- lines that stand in the text
reads_within : (text : List ℕ) (ids : List (List ℕ)) (ps : List Part) (es : List Entry) → Each (Within 0 text) ps → Reads ids ps es → Each (EntryWithin text) es
reads_within text ids [] [] w r = tt
reads_within text ids [] (e ∷ es) w r = absurd r
reads_within text ids (p ∷ ps) [] w r = absurd r
reads_within text ids (p ∷ ps) (e ∷ es) w r =
    (holds_within text ids p (fields p) e (fields_within text p w.0) (line_holds ids p e r.0), reads_within text (ids ++ id_of e) ps es w.1 r.1)

-- The name of each step of each path of a text stands at its place in the text.
pub names_within : (text : List ℕ) (es : List Entry) → parse text ≡ parsed es → Each (λ p. Each (NameWithin text) p.steps) (paths es)
unfolding parse
names_within text es h = (sorted_each (EntryWithin text) es (reads_within text [] (lines text) es (lines_within text) (parse_reads 1 [] (lines text) es h))).2

-- So a place and a length name the bytes of such a part.
pub within_part : (text : List ℕ) (p : Part) → Within 0 text p → (p.at + length p.bytes ≤ length text) × (part p.at (length p.bytes) text ≡ p.bytes)
within_part text p w = let z : p.at - 0 ≡ p.at = omega arith in (omega (arith, w.ends), rw z at w.holds)

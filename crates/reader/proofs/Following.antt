-- The reading of a text, in continuation form: what is read first, and then the rest. Assumes nothing.
use Prim.Native.Nat.{ℕ, suc}
use mathlib.Core.List.{List, [], ◌∷◌, ◌++◌, append-nil}
use mathlib.Core.Path.{◌≡◌, refl, ap, sym, ◌∙◌}
use Rattle.gfa_spec.specs.Bytes.{Part, one, nil}
use Rattle.gfa_spec.specs.Reading.{Segment, Entry, header, comment, blank, other, segment, link, path, refused, accepted, Parsed, refused_at, parsed, parse_line, parse_lines, id_of, after, onward, choose}
use Rattle.gfa_spec.specs.Records.{segments, collect}
use Rattle.tables.specs.Segments.{ids_of}

-- the entries put before what the rest gives
pub follow : List Entry → Parsed → Parsed
follow [] p = p
follow (e ∷ es) p = after e (follow es p)

-- nothing put before
pub follow_none : (p : Parsed) → follow [] p ≡ p
unfolding follow
follow_none p = refl

-- one entry more
pub follow_snoc : (es : List Entry) (e : Entry) (p : Parsed) → follow es (after e p) ≡ follow (es ++ (e ∷ [])) p
unfolding follow
follow_snoc [] e p = refl
follow_snoc (d ∷ es) e p = ap (after d) (follow_snoc es e p)

-- a refusal stays
pub follow_refused : (es : List Entry) (n line : ℕ) → follow es (refused_at n line) ≡ refused_at n line
unfolding follow after
follow_refused [] n line = refl
follow_refused (e ∷ es) n line = ap (after e) (follow_refused es n line)

-- at the end the entries are all
pub follow_end : (es : List Entry) → follow es (parsed []) ≡ parsed es
unfolding follow after
follow_end [] = refl
follow_end (e ∷ es) = ap (after e) (follow_end es)

-- a line that is accepted, and one that is refused
pub parse_accepted : (n : ℕ) (ids : List (List ℕ)) (line : Part) (more : List Part) (e : Entry) → parse_line ids line ≡ accepted e →
    parse_lines n ids (line ∷ more) ≡ after e (parse_lines (suc n) (ids ++ id_of e) more)
unfolding parse_lines onward
parse_accepted n ids line more e h = rw h

pub parse_refused : (n : ℕ) (ids : List (List ℕ)) (line : Part) (more : List Part) (k : ℕ) → parse_line ids line ≡ refused k →
    parse_lines n ids (line ∷ more) ≡ refused_at k n
unfolding parse_lines onward
parse_refused n ids line more k h = rw h

-- the IDs of one segment more
ids_snoc : (ss : List Segment) (s : Segment) → ids_of (ss ++ (s ∷ [])) ≡ ids_of ss ++ (s.id ∷ [])
unfolding ids_of
ids_snoc [] s = refl
ids_snoc (t ∷ ts) s = ap (λ l. t.id ∷ l) (ids_snoc ts s)

-- the IDs of one entry more
no_ids : (ss : List Segment) → ids_of (ss ++ []) ≡ ids_of ss ++ []
no_ids ss = ap ids_of (append-nil ss) ∙ sym (append-nil (ids_of ss))

pub ids_entry : (ss : List Segment) (e : Entry) → ids_of (ss ++ segments (e ∷ [])) ≡ ids_of ss ++ id_of e
unfolding segments collect choose one nil id_of
ids_entry ss (header l) = no_ids ss
ids_entry ss (comment l) = no_ids ss
ids_entry ss (blank l) = no_ids ss
ids_entry ss (other l) = no_ids ss
ids_entry ss (segment s) = ids_snoc ss s
ids_entry ss (link l) = no_ids ss
ids_entry ss (path p) = no_ids ss

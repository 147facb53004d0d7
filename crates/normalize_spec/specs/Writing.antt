-- The rewritten text. Document 01, "Folding", rule 7.
use Rattle.std.specs.Prelude.{ℕ, zero, suc, cond, List, [], ◌∷◌, ◌++◌, map, eqb}
use Rattle.gfa_spec.specs.Bytes.{bytes, star, is_empty, join, join_with, tabbed, ended}
use Rattle.gfa_spec.specs.Reading.{Path, Kind, P, W, Entry}
use Rattle.gfa_spec.specs.Records.{segments, paths, leading, others}
use Rattle.normalize_spec.specs.Folding.{New, NewStep, transform}
use Rattle.normalize_spec.specs.Links.{Key, kept, added}

-- the line of a new segment
unfoldable pub segment_line : New → List ℕ
segment_line n = tabbed (bytes "S" ∷ n.id ∷ n.sequence ∷ [])

-- the line of an added link: overlap `0M`
unfoldable pub link_line : Key → List ℕ
link_line k = tabbed (bytes "L" ∷ k.from.name ∷ (k.from.orientation ∷ []) ∷ k.to.name ∷ (k.to.orientation ∷ []) ∷ bytes "0M" ∷ [])

-- a step as a P line has it: the name, then + or -
unfoldable pub p_token : NewStep → List ℕ
p_token s = s.name ++ (s.orientation ∷ [])

-- a step as a W line has it: `>` (62) for + or `<` (60) for -, then the name
unfoldable pub w_token : NewStep → List ℕ
w_token s = cond (eqb s.orientation 43) 62 60 ∷ s.name

-- the field of the steps; no steps is written `*`
unfoldable pub step_field : Kind → List NewStep → List ℕ
step_field P steps = cond (is_empty steps) star (join_with 44 (map p_token steps))
step_field W steps = cond (is_empty steps) star (join (map w_token steps))

-- field k, counted from 0, replaced by x
unfoldable pub replace : ℕ → List ℕ → List (List ℕ) → List (List ℕ)
replace k x [] = []
replace zero x (f ∷ fs) = x ∷ fs
replace (suc k) x (f ∷ fs) = f ∷ replace k x fs

-- the fields of a path with new steps: they stand in the third field of a P line, in the seventh of a W line
unfoldable pub with_steps : Kind → List NewStep → List (List ℕ) → List (List ℕ)
with_steps P steps fs = replace 2 (step_field P steps) fs
with_steps W steps fs = replace 6 (step_field W steps) fs

-- the line of a path with new steps; a P path keeps its overlaps and tags
unfoldable pub path_line : Path → List NewStep → List ℕ
path_line p steps = tabbed (with_steps p.kind steps p.fields)

-- the lines of the paths, each with its new steps
unfoldable pub path_lines : List Path → List (List NewStep) → List (List ℕ)
path_lines [] new = []
path_lines (p ∷ ps) [] = []
path_lines (p ∷ ps) (steps ∷ new) = path_line p steps ∷ path_lines ps new

-- the text: headers, comments and blanks as they came; segments; new segments; other lines; kept links; added links; paths
unfoldable pub rewritten : List Entry → ℕ → List ℕ
rewritten es cap =
    let t = transform es cap in
    ended (
    leading es
    ++ (map (λ s. s.line) (segments es)
    ++ (map segment_line t.made.new
    ++ (others es
    ++ (map (λ l. l.line) (kept es cap)
    ++ (map link_line (added es cap)
    ++ path_lines (paths es) t.paths))))))

-- What a line is read as does not depend on where it stands, but for the places of its steps. Assumes nothing.
use Prim.Native.Nat.{ℕ, suc}
use mathlib.Core.Bool.{Bool, true, false, cond, ◌||◌}
use mathlib.Core.List.{List, [], ◌∷◌, ◌++◌, map}
use mathlib.Core.Path.{◌≡◌, refl, ap, sym, ◌∙◌}
use lib.Dec.{eqb, ltb}
use lib.ListN.{length, length-map}
use Rattle.gfa_spec.specs.Bytes.{same, star, is_empty, ended, Part, bytes_of, nth, between, one, nil, Each}
use Rattle.gfa_spec.specs.Reading.{fields, nowhere, field, Step, Kind, P, W, Path, Entry, header, comment, blank, other, segment, link, path, Read, refused, accepted, then, is_step, step_of, parse_items, parse_psteps, is_mark, orientation_of, Walk, walk, non_empty, parse_wsteps, parse_s, parse_l, parse_p, parse_w, parse_fields, parse_line, Parsed, refused_at, parsed, id_of, after, onward, parse_lines, parse, lines, map_read, choose}
use Rattle.gfa_spec.proofs.Tests.{cond_ap}
use Rattle.gfa_spec.proofs.Each.{nth_map, Lacks}
use Rattle.gfa_spec.proofs.Lines.{Unreturned, lines_ended}
use Rattle.gfa_spec.proofs.Answers.{not_accepted}
use Rattle.gfa_spec.proofs.Splitting.{split_between}

-- a string as a part at the place 0
unfoldable pub unplaced : List ℕ → Part
unplaced s = record { at = 0; bytes = s }

-- a step with the place of its name erased
unfoldable pub erase_step : Step → Step
erase_step s = record { name = unplaced s.name.bytes; orientation = s.orientation }

-- a path with the places of the names erased
unfoldable pub erase_path : Path → Path
erase_path p = record { kind = p.kind; fields = p.fields; steps = map erase_step p.steps }

-- an entry with the places of the names erased
unfoldable pub erase : Entry → Entry
erase (header l) = header l
erase (comment l) = comment l
erase (blank l) = blank l
erase (other l) = other l
erase (segment s) = segment s
erase (link l) = link l
erase (path p) = path (erase_path p)

-- ---- the steps of a P line

-- the steps of a P field, at the place 0
unfoldable pub bare_p : List ℕ → Read (List Step)
bare_p s = cond (same s star) (accepted []) (parse_items (map unplaced (between 44 s)))

-- one item more, with the places erased
item_erase : (item : Part) (r : Read (List Step)) (skip here : Bool)
    → map_read (map erase_step) (cond skip r (cond here (then r (λ steps. accepted (step_of item ∷ steps))) (refused 13)))
    ≡ cond skip (map_read (map erase_step) r)
    (cond here (then (map_read (map erase_step) r) (λ steps. accepted (step_of (unplaced item.bytes) ∷ steps))) (refused 13))
unfolding map_read then step_of erase_step unplaced
item_erase item r true here = refl
item_erase item r false false = refl
item_erase item (refused n) false true = refl
item_erase item (accepted steps) false true = refl

-- the items with the places erased
items_erase : (items : List Part) → map_read (map erase_step) (parse_items items) ≡ parse_items (map unplaced (map bytes_of items))
unfolding parse_items map_read unplaced bytes_of
items_erase [] = refl
items_erase (item ∷ items) = item_erase item (parse_items items) (is_empty item.bytes) (is_step item.bytes) ∙ rw (items_erase items)

-- the steps of a P field with the places erased
pub psteps_bare : (f : Part) → map_read (map erase_step) (parse_psteps f) ≡ bare_p f.bytes
unfolding parse_psteps bare_p map_read
psteps_bare f = rw (cond_ap (map_read (map erase_step)), items_erase, split_between)

-- the steps of two P fields with the same bytes are the same but for their places
pub psteps_alike : (f g : Part) → f.bytes ≡ g.bytes → map_read (map erase_step) (parse_psteps f) ≡ map_read (map erase_step) (parse_psteps g)
psteps_alike f g e = psteps_bare f ∙ rw e (sym (psteps_bare g))

-- ---- the steps of a W line

-- a walk with the places erased
unfoldable pub erase_walk : Walk → Walk
erase_walk w = record { before = w.before; steps = map erase_step w.steps }

-- one byte more, with the places erased
walk_case : (at : ℕ) (b : ℕ) (w : Walk) (t : Bool)
    → erase_walk (cond t
    (record { before = []; steps = record { name = record { at = suc at; bytes = w.before }; orientation = orientation_of b } ∷ w.steps })
    (record { before = b ∷ w.before; steps = w.steps }))
    ≡ cond t
    (record { before = []; steps = record { name = unplaced (erase_walk w).before; orientation = orientation_of b } ∷ (erase_walk w).steps })
    (record { before = b ∷ (erase_walk w).before; steps = (erase_walk w).steps })
unfolding erase_walk erase_step unplaced
walk_case at b w true = refl
walk_case at b w false = refl

-- a walk does not depend on its place but for the places in it
walk_erase : (at too : ℕ) (s : List ℕ) → erase_walk (walk at s) ≡ erase_walk (walk too s)
unfolding walk
walk_erase at too [] = refl
walk_erase at too (b ∷ s) =
    walk_case at b (walk (suc at) s) (is_mark b) ∙ rw (walk_erase (suc at) (suc too) s) (sym (walk_case too b (walk (suc too) s) (is_mark b)))

-- nor do its steps
walk_steps_alike : (at : ℕ) (s : List ℕ) → map erase_step (walk at s).steps ≡ map erase_step (walk 0 s).steps
unfolding erase_walk
walk_steps_alike at s = ap (λ w. w.steps) (walk_erase at 0 s)

-- the steps of a W field, at the place 0
unfoldable pub bare_w : List ℕ → Read (List Step)
bare_w s = cond (same s star || is_empty s) (accepted []) (non_empty (map erase_step (walk 0 s).steps))

-- the test for empty steps does not look at places
non_empty_erase : (ss : List Step) → map_read (map erase_step) (non_empty ss) ≡ non_empty (map erase_step ss)
unfolding non_empty map_read then erase_step unplaced
non_empty_erase [] = refl
non_empty_erase (s ∷ []) = cond_ap (map_read (map erase_step)) (is_empty s.name.bytes) (refused 17) (accepted (s ∷ []))
non_empty_erase (s ∷ (t ∷ ts)) = go (is_empty s.name.bytes) (non_empty (t ∷ ts)) ∙ rw (non_empty_erase (t ∷ ts))
  where
    go : (u : Bool) (r : Read (List Step)) → map_read (map erase_step) (cond u (refused 15) (then r (λ steps. accepted (s ∷ steps))))
        ≡ cond u (refused 15) (then (map_read (map erase_step) r) (λ steps. accepted (erase_step s ∷ steps)))
    go true r = refl
    go false (refused n) = refl
    go false (accepted steps) = refl

-- the steps of a W field with the places erased
pub wsteps_bare : (f : Part) → map_read (map erase_step) (parse_wsteps f) ≡ bare_w f.bytes
unfolding parse_wsteps bare_w map_read
wsteps_bare f = rw (cond_ap (map_read (map erase_step)), non_empty_erase, walk_steps_alike f.at f.bytes)

-- the steps of two W fields with the same bytes are the same but for their places
pub wsteps_alike : (f g : Part) → f.bytes ≡ g.bytes → map_read (map erase_step) (parse_wsteps f) ≡ map_read (map erase_step) (parse_wsteps g)
wsteps_alike f g e = wsteps_bare f ∙ rw e (sym (wsteps_bare g))

-- ---- a line

-- a path read with the places of its steps erased
path_erase : (short : Bool) (n : ℕ) (k : Kind) (fs : List (List ℕ)) (r : Read (List Step))
    → map_read erase (cond short (refused n) (then r (λ steps. accepted (path (record { kind = k; fields = fs; steps = steps })))))
    ≡ cond short (refused n) (then (map_read (map erase_step) r) (λ steps. accepted (path (record { kind = k; fields = fs; steps = steps }))))
unfolding map_read then erase erase_path
path_erase true n k fs r = refl
path_erase false n k fs (refused m) = refl
path_erase false n k fs (accepted steps) = refl

-- paths with steps that are the same but for their places
path_alike : (short : Bool) (n : ℕ) (k : Kind) (fs : List (List ℕ)) (r q : Read (List Step)) → map_read (map erase_step) r ≡ map_read (map erase_step) q
    → map_read erase (cond short (refused n) (then r (λ steps. accepted (path (record { kind = k; fields = fs; steps = steps })))))
    ≡ map_read erase (cond short (refused n) (then q (λ steps. accepted (path (record { kind = k; fields = fs; steps = steps })))))
path_alike short n k fs r q e = path_erase short n k fs r ∙ rw e (sym (path_erase short n k fs q))

-- a field's bytes
pub nth_bytes : (k : ℕ) (ps : List Part) → (nth k ps nowhere).bytes ≡ nth k (map bytes_of ps) []
unfolding nowhere bytes_of
nth_bytes k ps = sym (nth_map bytes_of k ps nowhere)

-- the fields of two lines with the same bytes
module _ (fs gs : List Part) (alike : map bytes_of fs ≡ map bytes_of gs) where
  -- field k has the same bytes
  nth_alike : (k : ℕ) → (nth k fs nowhere).bytes ≡ (nth k gs nowhere).bytes
  nth_alike k = nth_bytes k fs ∙ rw alike (sym (nth_bytes k gs))

  -- field k has the same bytes, by its name
  field_alike : (k : ℕ) → field k fs ≡ field k gs
  unfolding field
  field_alike k = nth_alike k

  -- there are as many fields
  length_alike : length fs ≡ length gs
  length_alike = sym (length-map fs bytes_of) ∙ rw alike (length-map gs bytes_of)

  -- two S lines
  parse_s_alike : (ids : List (List ℕ)) (p q : Part) → p.bytes ≡ q.bytes → parse_s ids p fs ≡ parse_s ids q gs
  unfolding parse_s
  parse_s_alike ids p q e = rw (length_alike, field_alike 1, field_alike 2, e)

  -- two L lines
  parse_l_alike : (p q : Part) → p.bytes ≡ q.bytes → parse_l p fs ≡ parse_l q gs
  unfolding parse_l
  parse_l_alike p q e = rw (length_alike, field_alike 1, field_alike 2, field_alike 3, field_alike 4, e)

  -- two P lines
  parse_p_alike : map_read erase (parse_p fs) ≡ map_read erase (parse_p gs)
  unfolding parse_p
  parse_p_alike =
      rw (length_alike, alike)
      (path_alike (ltb (length gs) 3) 12 P (map bytes_of gs ++ cond (eqb (length gs) 3) (star ∷ []) []) (parse_psteps (nth 2 fs nowhere)) (parse_psteps (nth 2 gs nowhere)) (psteps_alike (nth 2 fs nowhere) (nth 2 gs nowhere) (nth_alike 2)))

  -- two W lines
  parse_w_alike : map_read erase (parse_w fs) ≡ map_read erase (parse_w gs)
  unfolding parse_w
  parse_w_alike =
      rw (length_alike, alike)
      (path_alike (ltb (length gs) 7) 14 W (map bytes_of gs) (parse_wsteps (nth 6 fs nowhere)) (parse_wsteps (nth 6 gs nowhere)) (wsteps_alike (nth 6 fs nowhere) (nth 6 gs nowhere) (nth_alike 6)))

  -- two lines that are neither blank nor comments
  pub parse_fields_alike : (ids : List (List ℕ)) (p q : Part) → p.bytes ≡ q.bytes → map_read erase (parse_fields ids p fs) ≡ map_read erase (parse_fields ids q gs)
  unfolding parse_fields map_read
  parse_fields_alike ids p q e =
      simp (cond_ap (map_read erase), field_alike 0, parse_s_alike ids p q e, parse_l_alike p q e, parse_p_alike, parse_w_alike, e)

-- lines with the same bytes have fields with the same bytes
fields_alike : (p q : Part) → p.bytes ≡ q.bytes → map bytes_of (fields p) ≡ map bytes_of (fields q)
unfolding fields
fields_alike p q e = split_between 9 p.at p.bytes ∙ rw e (sym (split_between 9 q.at q.bytes))

-- what a line is read as: the same refusal, or the same entry but for the places of its steps
pub parse_line_alike : (ids : List (List ℕ)) (p q : Part) → p.bytes ≡ q.bytes → map_read erase (parse_line ids p) ≡ map_read erase (parse_line ids q)
unfolding parse_line map_read
parse_line_alike ids p q e =
    simp (cond_ap (map_read erase), parse_fields_alike (fields p) (fields q) (fields_alike p q e) ids p q e, e)

-- ---- a text

-- what a text holds, with the places of the steps erased
unfoldable pub erase_parsed : Parsed → Parsed
erase_parsed (refused_at n line) = refused_at n line
erase_parsed (parsed es) = parsed (map erase es)

-- the ID stays
pub id_of_erase : (e : Entry) → id_of (erase e) ≡ id_of e
unfolding id_of choose one nil erase
id_of_erase (header l) = refl
id_of_erase (comment l) = refl
id_of_erase (blank l) = refl
id_of_erase (other l) = refl
id_of_erase (segment s) = refl
id_of_erase (link l) = refl
id_of_erase (path p) = refl

-- an entry in front, with the places erased
pub after_erase : (e : Entry) (r : Parsed) → erase_parsed (after e r) ≡ after (erase e) (erase_parsed r)
unfolding after erase_parsed
after_erase e (refused_at n line) = refl
after_erase e (parsed es) = refl

-- first lines that are read alike
onward_alike : (number : ℕ) (r q : Read Entry) (f g : Entry → Parsed) → map_read erase r ≡ map_read erase q
    → ((d e : Entry) → id_of d ≡ id_of e → erase_parsed (f d) ≡ erase_parsed (g e))
    → erase_parsed (onward number r f) ≡ erase_parsed (onward number q g)
unfolding map_read onward
onward_alike number (refused n) (refused m) f g e k = let same : n ≡ m = cc in rw same
onward_alike number (refused n) (accepted b) f g e k = absurd (not_accepted e)
onward_alike number (accepted a) (refused m) f g e k = absurd (not_accepted (sym e))
onward_alike number (accepted a) (accepted b) f g e k =
    let same : erase a ≡ erase b = cc in
    let ids : id_of a ≡ id_of b = sym (id_of_erase a) ∙ rw same (id_of_erase b) in
    rw (after_erase a, after_erase b, same, k a b ids)

-- lines with the same bytes are read as the same entries but for the places of their steps, or refused alike
pub parse_lines_alike : (number : ℕ) (ids : List (List ℕ)) (ps qs : List Part) → map bytes_of ps ≡ map bytes_of qs
    → erase_parsed (parse_lines number ids ps) ≡ erase_parsed (parse_lines number ids qs)
unfolding parse_lines bytes_of
parse_lines_alike number ids [] [] e = refl
parse_lines_alike number ids [] (q ∷ qs) e = cc
parse_lines_alike number ids (p ∷ ps) [] e = cc
parse_lines_alike number ids (p ∷ ps) (q ∷ qs) e =
    let here : p.bytes ≡ q.bytes = cc in
    let more : map bytes_of ps ≡ map bytes_of qs = cc in
    onward_alike number (parse_line ids p) (parse_line ids q)
    (λ d. parse_lines (suc number) (ids ++ id_of d) ps) (λ d. parse_lines (suc number) (ids ++ id_of d) qs)
    (parse_line_alike ids p q here)
    (λ c d same. rw same (parse_lines_alike (suc number) (ids ++ id_of d) ps qs more))

-- the bytes of strings at the place 0
bytes_of_unplaced : (ls : List (List ℕ)) → map bytes_of (map unplaced ls) ≡ ls
unfolding bytes_of unplaced
bytes_of_unplaced [] = refl
bytes_of_unplaced (l ∷ ls) = ap (λ ms. l ∷ ms) (bytes_of_unplaced ls)

-- a text that was written line by line is read line by line
pub parse_ended : (ls : List (List ℕ)) → Each (Lacks 10) ls → Each Unreturned ls
    → erase_parsed (parse (ended ls)) ≡ erase_parsed (parse_lines 1 [] (map unplaced ls))
unfolding parse
parse_ended ls h k = parse_lines_alike 1 [] (lines (ended ls)) (map unplaced ls) (lines_ended ls h k ∙ sym (bytes_of_unplaced ls))

-- The lines that are written, of new segments, added links and paths, are read as what they were written for. Assumes nothing.
use Prim.Native.Nat.{ℕ, suc}
use native.Mathlib.Omega.{arith}
use mathlib.Core.Bool.{true, false, cond}
use mathlib.Core.List.{List, [], ◌∷◌, map, append-nil}
use mathlib.Core.Path.{◌≡◌, refl, sym, ◌∙◌}
use lib.Dec.{eqb, ltb}
use lib.ListN.{length, length-map}
use borrow.Author.Tests.{le-ltb, ne_eqb}
use Rattle.gfa_spec.specs.Bytes.{bytes, same, star, is_empty, any, join, join_with, tabbed, Part, bytes_of, nth, Each}
use Rattle.gfa_spec.specs.Reading.{fields, nowhere, field, Step, Kind, P, W, Path, segment, link, path, accepted, then, is_orientation, parse_orientation, parse_s, parse_l, parse_p, parse_w, parse_fields, starts_comment, parse_line}
use Rattle.gfa_spec.proofs.Each.{Lacks, each_append, each_join, each_both, each_implies, each_map}
use Rattle.gfa_spec.proofs.Splitting.{fields_tabbed, parts_lack}
use Rattle.gfa_spec.proofs.Steps.{by_orientation}
use Rattle.gfa_spec.proofs.Places.{nth_bytes}
use Rattle.gfa_spec.proofs.Entries.{p_fields, w_fields, Shaped, shaped_p, shaped_w, Holds, is_p, is_w, line_holds, path_shaped, path_fields_bytes, path_names_bytes}
use Rattle.normalize_spec.specs.Folding.{New, NewStep, as_new}
use Rattle.normalize_spec.specs.Links.{Key}
use Rattle.normalize_spec.specs.Writing.{segment_line, link_line, p_token, w_token, step_field, replace, path_line, with_steps}
use Rattle.normalize_spec.proofs.StepFields.{PStep, WStep, steps_p_read, psteps_writable, steps_w_read, wsteps_writable}

-- ---- a line by its fields

-- p is a line of a letter, neither tab nor #, and of one field or more behind it
pub record IsLine (p : Part) (c : ℕ) (f : List ℕ) (fs : List (List ℕ)) : Type 0 where
  pub letter : eqb c 9 ≡ false
  pub no_comment : eqb c 35 ≡ false
  pub untabbed : Each (Lacks 9) (f ∷ fs)
  pub written : p.bytes ≡ tabbed ((c ∷ []) ∷ (f ∷ fs))

module _ {p : Part} {c : ℕ} {f : List ℕ} {fs : List (List ℕ)} (l : IsLine p c f fs) where
  -- its fields
  line_fields : map bytes_of (fields p) ≡ (c ∷ []) ∷ (f ∷ fs)
  unfolding fields
  line_fields = rw l.written (fields_tabbed p.at (c ∷ []) (f ∷ fs) ((l.letter, tt), l.untabbed))

  -- the bytes of field k
  line_at : (k : ℕ) → (nth k (fields p) nowhere).bytes ≡ nth k ((c ∷ []) ∷ (f ∷ fs)) []
  line_at k = nth_bytes k (fields p) ∙ rw line_fields

  -- the bytes of field k, by its name
  line_field : (k : ℕ) → field k (fields p) ≡ nth k ((c ∷ []) ∷ (f ∷ fs)) []
  unfolding field
  line_field k = line_at k

  -- the number of its fields
  line_length : length (fields p) ≡ suc (suc (length fs))
  line_length = sym (length-map (fields p) bytes_of) ∙ rw line_fields

  -- it is neither blank nor a comment
  line_parsed : (ids : List (List ℕ)) → parse_line ids p ≡ parse_fields ids p (fields p)
  unfolding parse_line tabbed join_with is_empty starts_comment
  line_parsed ids =
      let some : is_empty p.bytes ≡ false = rw l.written in
      let no_comment : starts_comment p.bytes ≡ false = rw l.written l.no_comment in
      rw (some, no_comment)

-- an orientation is no tab
no_tab : (o : ℕ) → is_orientation o ≡ true → eqb o 9 ≡ false
no_tab o h = by_orientation (λ o. eqb o 9 ≡ false) refl refl o h

-- ---- new segments

-- a segment's line with a new ID is read as that segment
pub segment_read : (ids : List (List ℕ)) (p : Part) (n : New) → p.bytes ≡ segment_line n → Lacks 9 n.id → Lacks 9 n.sequence
    → any (same n.id) ids ≡ false → parse_line ids p ≡ accepted (segment (record { id = n.id; sequence = n.sequence; line = p.bytes }))
unfolding segment_line bytes parse_fields parse_s same nth
segment_read ids p n e h k fresh =
    let l : IsLine p 83 n.id (n.sequence ∷ []) = record { letter = refl; no_comment = refl; untabbed = (h, (k, tt)); written = e } in
    line_parsed l ids ∙ rw (line_field l 0, line_length l, line_field l 1, line_field l 2, fresh)

-- ---- added links

-- a link's line is read as that link
pub link_read : (ids : List (List ℕ)) (p : Part) (k : Key) → p.bytes ≡ link_line k → Lacks 9 k.from.name → Lacks 9 k.to.name
    → is_orientation k.from.orientation ≡ true → is_orientation k.to.orientation ≡ true
    → parse_line ids p ≡ accepted (link (record {
      from = k.from.name;
      from_orientation = k.from.orientation;
      to = k.to.name;
      to_orientation = k.to.orientation;
      line = p.bytes;
    }))
unfolding link_line bytes parse_fields parse_l parse_orientation then same nth
link_read ids p k e h g u v =
    let l : IsLine p 76 k.from.name ((k.from.orientation ∷ []) ∷ k.to.name ∷ (k.to.orientation ∷ []) ∷ (48 ∷ 77 ∷ []) ∷ [])
    = record { letter = refl; no_comment = refl; untabbed = (h, ((no_tab k.from.orientation u, tt), (g, ((no_tab k.to.orientation v, tt), ((refl, (refl, tt)), tt))))); written = e } in
    line_parsed l ids ∙ rw (line_field l 0, line_length l, line_field l 1, line_field l 2, line_field l 3, line_field l 4, u, v)

-- ---- the field of the steps

-- the orientation is + or -, and each byte of the name has B
pub record Plain (B : ℕ → Type 0) (s : NewStep) : Type 0 where
  pub oriented : is_orientation s.orientation ≡ true
  pub bytes : Each B s.name

-- B, which the bytes have that a step field has of its own: * + , - < >
module _ (B : ℕ → Type 0) (own : Each B (42 ∷ 43 ∷ 44 ∷ 45 ∷ 60 ∷ 62 ∷ [])) where
  -- a step as a P line has it
  p_token_bytes : (s : NewStep) → Plain B s → Each B (p_token s)
  unfolding p_token
  p_token_bytes s h = each_append B s.name (s.orientation ∷ []) h.bytes (by_orientation B own.1.0 own.1.1.1.0 s.orientation h.oriented, tt)

  -- a step as a W line has it
  w_token_bytes : (s : NewStep) → Plain B s → Each B (w_token s)
  unfolding w_token
  w_token_bytes s h =
      (by_orientation (λ o. B (cond (eqb o 43) 62 60)) own.1.1.1.1.1.0 own.1.1.1.1.0 s.orientation h.oriented, h.bytes)

  -- steps with commas between them
  commas_bytes : (s : NewStep) (ss : List NewStep) → Each (Plain B) (s ∷ ss) → Each B (join_with 44 (map p_token (s ∷ ss)))
  unfolding join_with
  commas_bytes s [] h = p_token_bytes s h.0
  commas_bytes s (t ∷ ts) h =
      each_append B (p_token s) (44 ∷ join_with 44 (map p_token (t ∷ ts))) (p_token_bytes s h.0) (own.1.1.0, commas_bytes t ts h.1)

  -- steps in a row
  marks_bytes : (ss : List NewStep) → Each (Plain B) ss → Each B (join (map w_token ss))
  marks_bytes ss h = each_join B (map w_token ss) (each_map (Each B) w_token ss (each_implies w_token_bytes ss h))

  -- the field of the steps has what the names have
  pub step_field_bytes : (k : Kind) (steps : List NewStep) → Each (Plain B) steps → Each B (step_field k steps)
  unfolding step_field is_empty star
  step_field_bytes P [] h = (own.0, tt)
  step_field_bytes P (s ∷ ss) h = commas_bytes s ss h
  step_field_bytes W [] h = (own.0, tt)
  step_field_bytes W (s ∷ ss) h = marks_bytes (s ∷ ss) h

-- ---- paths

-- what a path's line is read as: a path with those fields, and with those steps
abbrev pub ReadAs : List (List ℕ) → Part → Kind → List (List ℕ) → List NewStep → Type 0
ReadAs ids p k fs steps = (ss : List Step) × (parse_line ids p ≡ accepted (path (record { kind = k; fields = fs; steps = ss }))) × (map as_new ss ≡ steps)

-- the fields of a line lack the tab
fields_lack : (line : Part) → Each (λ f. Lacks 9 f.bytes) (fields line)
unfolding fields
fields_lack line = parts_lack 9 line.at line.bytes

-- the byte is no tab
abbrev pub NoTab : ℕ → Type 0
NoTab c = eqb c 9 ≡ false

-- a step field has no tab where the names have none
step_field_untabbed : (k : Kind) (steps : List NewStep) → Each (Plain NoTab) steps → Lacks 9 (step_field k steps)
step_field_untabbed k steps h = step_field_bytes NoTab (refl, (refl, (refl, (refl, (refl, (refl, tt)))))) k steps h

-- the line of a P path is read as that path with its new steps
pub p_read : (ids : List (List ℕ)) (p : Part) (q : Path) (steps : List NewStep) (name old overlaps : List ℕ) (tags : List (List ℕ))
    → q.kind ≡ P → q.fields ≡ p_fields name old overlaps tags → p.bytes ≡ path_line q steps
    → Lacks 9 name → Each (Lacks 9) (overlaps ∷ tags) → Each PStep steps → Each (Plain NoTab) steps
    → ReadAs ids p P (p_fields name (step_field P steps) overlaps tags) steps
unfolding path_line replace with_steps parse_fields parse_p then same nth
p_read ids p q steps name old overlaps tags k f e h g good plain =
    let l : IsLine p 80 name (step_field P steps ∷ (overlaps ∷ tags))
    = record { letter = refl; no_comment = refl; untabbed = (h, (step_field_untabbed P steps plain, g)); written = e ∙ rw (k, f) } in
    let r = steps_p_read (nth 2 (fields p) nowhere) steps (line_at l 2) good in
    let long : ltb (length (fields p)) 3 ≡ false = le-ltb (length (fields p)) 3 (omega (arith, line_length l)) in
    let four : eqb (length (fields p)) 3 ≡ false = ne_eqb (length (fields p)) 3 (omega (arith, line_length l)) in
    (r.0, line_parsed l ids ∙ rw (line_field l 0, long, r.1, four, line_fields l, append-nil), r.2)

-- the line of a W path is read as that path with its new steps
pub w_read : (ids : List (List ℕ)) (p : Part) (q : Path) (steps : List NewStep) (sample index name start end old : List ℕ) (tags : List (List ℕ))
    → q.kind ≡ W → q.fields ≡ w_fields sample index name start end old tags → p.bytes ≡ path_line q steps
    → Each (Lacks 9) (sample ∷ index ∷ name ∷ start ∷ end ∷ []) → Each (Lacks 9) tags → Each WStep steps → Each (Plain NoTab) steps
    → ReadAs ids p W (w_fields sample index name start end (step_field W steps) tags) steps
unfolding path_line replace with_steps parse_fields parse_w then same nth
w_read ids p q steps sample index name start end old tags k f e h g good plain =
    let l : IsLine p 87 sample (index ∷ (name ∷ (start ∷ (end ∷ (step_field W steps ∷ tags)))))
    = record {
      letter = refl;
      no_comment = refl;
      untabbed = (h.0, (h.1.0, (h.1.1.0, (h.1.1.1.0, (h.1.1.1.1.0, (step_field_untabbed W steps plain, g))))));
      written = e ∙ rw (k, f);
    } in
    let r = steps_w_read (nth 6 (fields p) nowhere) steps (line_at l 6) good in
    let long : ltb (length (fields p)) 7 ≡ false = le-ltb (length (fields p)) 7 (omega (arith, line_length l)) in
    (r.0, line_parsed l ids ∙ rw (line_field l 0, long, r.1, line_fields l), r.2)

-- steps that a line of the kind can hold
abbrev pub StepWritable : Kind → NewStep → Type 0
StepWritable P = PStep
StepWritable W = WStep

-- the line of a path with the fields of its kind
shaped_read : (ids : List (List ℕ)) (p : Part) (q : Path) (steps : List NewStep) → Shaped q → Each (Lacks 9) q.fields
    → Each (StepWritable q.kind) steps → Each (Plain NoTab) steps → p.bytes ≡ path_line q steps
    → ReadAs ids p q.kind (with_steps q.kind steps q.fields) steps
unfolding replace with_steps
shaped_read ids p q steps (shaped_p name old overlaps tags past) h good plain e =
    p_read ids p q steps name old overlaps tags refl refl e h.1.0 h.1.1.1 good plain
shaped_read ids p q steps (shaped_w sample index name start end old tags past) h good plain e =
    w_read ids p q steps sample index name start end old tags refl refl e
    (h.1.0, (h.1.1.0, (h.1.1.1.0, (h.1.1.1.1.0, (h.1.1.1.1.1.0, tt)))))
    h.1.1.1.1.1.1.1 good plain

-- the line of a path that was read, written with new steps, is read as that path with the new steps
pub path_read : (ids too : List (List ℕ)) (line p : Part) (q : Path) (steps : List NewStep) → parse_line ids line ≡ accepted (path q)
    → Each (StepWritable q.kind) steps → Each (Plain NoTab) steps → p.bytes ≡ path_line q steps
    → ReadAs too p q.kind (with_steps q.kind steps q.fields) steps
path_read ids too line p q steps a good plain e =
    let h = line_holds ids line (path q) a in
    shaped_read too p q steps (path_shaped ids line (fields line) q h)
    (path_fields_bytes NoTab ids line (fields line) q refl (fields_lack line) h) good plain e

-- the steps of a path that was read can be written again
pub path_writable : (ids : List (List ℕ)) (line : Part) (fs : List Part) (q : Path) → Holds ids line fs (path q)
    → Each (StepWritable q.kind) (map as_new q.steps)
path_writable ids line fs q (is_p steps letter long a) = psteps_writable (nth 2 fs nowhere) steps a
path_writable ids line fs q (is_w steps letter long a) = wsteps_writable (nth 6 fs nowhere) steps a

-- such steps have orientations
writable_oriented : (k : Kind) (s : NewStep) → StepWritable k s → is_orientation s.orientation ≡ true
writable_oriented P s h = h.oriented
writable_oriented W s h = h.oriented

-- and have what each byte of the fields of its line has
pub path_plain : (B : ℕ → Type 0) (ids : List (List ℕ)) (line : Part) (fs : List Part) (q : Path) → Each (λ f. Each B f.bytes) fs
    → Holds ids line fs (path q) → Each (Plain B) (map as_new q.steps)
unfolding as_new
path_plain B ids line fs q h k =
    each_implies (λ s g. record { oriented = writable_oriented q.kind s g.0; bytes = g.1 }) (map as_new q.steps)
    (each_both (StepWritable q.kind) (λ s. Each B s.name) (map as_new q.steps) (path_writable ids line fs q k)
    (each_map (λ s. Each B s.name) as_new q.steps (path_names_bytes B ids line fs q h k)))

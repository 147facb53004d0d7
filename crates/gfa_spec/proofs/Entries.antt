-- What an accepted line holds, and that the same line is accepted behind other segments. Assumes nothing.
use Prim.Native.Nat.{ℕ, suc, ◌≤◌}
use native.Mathlib.Omega.{arith}
use mathlib.Core.Bool.{Bool, true, false, cond}
use mathlib.Core.List.{List, [], ◌∷◌, ◌++◌, map, append-nil}
use mathlib.Core.Path.{◌≡◌, refl}
use lib.Dec.{eqb, ltb}
use lib.ListN.{length}
use borrow.Author.Tests.{ltb-false, ne_eqb}
use Rattle.gfa_spec.specs.Bytes.{same, star, is_empty, any, Part, bytes_of, nth, one, nil, Each}
use Rattle.gfa_spec.specs.Reading.{fields, nowhere, field, Step, P, W, Path, Entry, header, comment, blank, other, segment, link, path, Read, refused, accepted, then, is_orientation, parse_psteps, parse_wsteps, parse_orientation, parse_s, parse_l, parse_p, parse_w, parse_fields, starts_comment, parse_line, id_of, choose}
use Rattle.gfa_spec.proofs.Tests.{same_equal}
use Rattle.gfa_spec.proofs.Each.{each_append, each_map, nth_each}
use Rattle.gfa_spec.proofs.Answers.{not_accepted}
use Rattle.gfa_spec.proofs.Steps.{psteps_bytes, wsteps_bytes}

-- ---- what an accepted line holds

-- The entry of the line p, whose fields are fs, behind segments with the given IDs.
pub data Holds (ids : List (List ℕ)) (p : Part) (fs : List Part) : Entry → Type 0 where
  is_header : Holds ids p fs (header p.bytes)
  is_comment : Holds ids p fs (comment p.bytes)
  is_blank : Holds ids p fs (blank p.bytes)
  is_other_line : Holds ids p fs (other p.bytes)
  is_segment : 3 ≤ length fs → any (same (field 1 fs)) ids ≡ false
      → Holds ids p fs (segment (record { id = field 1 fs; sequence = field 2 fs; line = p.bytes }))
  is_link : (a b : ℕ) → 6 ≤ length fs → field 2 fs ≡ a ∷ [] → is_orientation a ≡ true → field 4 fs ≡ b ∷ [] → is_orientation b ≡ true
      → Holds ids p fs (link (record { from = field 1 fs; from_orientation = a; to = field 3 fs; to_orientation = b; line = p.bytes }))
  is_p : (steps : List Step) → field 0 fs ≡ 80 ∷ [] → 3 ≤ length fs → parse_psteps (nth 2 fs nowhere) ≡ accepted steps
      → Holds ids p fs (path (record { kind = P; fields = map bytes_of fs ++ cond (eqb (length fs) 3) (star ∷ []) []; steps = steps }))
  is_w : (steps : List Step) → field 0 fs ≡ 87 ∷ [] → 7 ≤ length fs → parse_wsteps (nth 6 fs nowhere) ≡ accepted steps
      → Holds ids p fs (path (record { kind = W; fields = map bytes_of fs; steps = steps }))

-- what follows from either branch of a choice follows from the choice
either : {A B : Type 0} {z : A} (t : Bool) (x y : A) → (t ≡ true → x ≡ z → B) → (t ≡ false → y ≡ z → B) → cond t x y ≡ z → B
either true x y f g e = f refl e
either false x y f g e = g refl e

-- an accepted continuation had an accepted start
then_accepted : {A B : Type 0} (r : Read A) (k : A → Read B) (b : B) → then r k ≡ accepted b → (a : A) × (r ≡ accepted a) × (k a ≡ accepted b)
unfolding then
then_accepted (refused n) k b e = absurd (not_accepted e)
then_accepted (accepted a) k b e = (a, refl, e)

-- an orientation is a single + or -
pub orientation_accepted : (n : ℕ) (s : List ℕ) (a : ℕ) → parse_orientation n s ≡ accepted a → (s ≡ a ∷ []) × (is_orientation a ≡ true)
unfolding parse_orientation
orientation_accepted n [] a e = absurd (not_accepted e)
orientation_accepted n (b ∷ []) a e = go (is_orientation b) refl e
  where
    go : (t : Bool) → is_orientation b ≡ t → cond t (accepted b) (refused (suc n)) ≡ accepted a → (b ∷ [] ≡ a ∷ []) × (is_orientation a ≡ true)
    go true h e = let same : b ≡ a = cc in (cc, rw same at h)
    go false h e = absurd (not_accepted e)
orientation_accepted n (b ∷ (c ∷ s)) a e = absurd (not_accepted e)

module _ (ids : List (List ℕ)) (p : Part) (fs : List Part) (e : Entry) where
  -- an accepted entry is the one given
  given : {d : Entry} → Holds ids p fs d → accepted d ≡ accepted e → Holds ids p fs e
  given {d} h a = let same : d ≡ e = cc in rw same at h

  -- an accepted S line
  s_holds : parse_s ids p fs ≡ accepted e → Holds ids p fs e
  unfolding parse_s
  s_holds =
      either (ltb (length fs) 3) _ _ (λ short a. absurd (not_accepted a))
      (λ long. either (any (same (field 1 fs)) ids) _ _ (λ taken a. absurd (not_accepted a))
      (λ fresh. given (is_segment (ltb-false (length fs) 3 long) fresh)))

  -- an accepted L line
  l_holds : parse_l p fs ≡ accepted e → Holds ids p fs e
  unfolding parse_l
  l_holds =
      either (ltb (length fs) 6) _ _ (λ short a. absurd (not_accepted a))
      (λ long h.
      let a = then_accepted (parse_orientation 8 (field 2 fs)) _ e h in
      let b = then_accepted (parse_orientation 10 (field 4 fs)) _ e a.2 in
      let u = orientation_accepted 8 (field 2 fs) a.0 a.1 in
      let v = orientation_accepted 10 (field 4 fs) b.0 b.1 in
      given (is_link a.0 b.0 (ltb-false (length fs) 6 long) u.0 u.1 v.0 v.1) b.2)

  -- an accepted P line
  p_holds : field 0 fs ≡ 80 ∷ [] → parse_p fs ≡ accepted e → Holds ids p fs e
  unfolding parse_p
  p_holds letter =
      either (ltb (length fs) 3) _ _ (λ short a. absurd (not_accepted a))
      (λ long h.
      let a = then_accepted (parse_psteps (nth 2 fs nowhere)) _ e h in
      given (is_p a.0 letter (ltb-false (length fs) 3 long) a.1) a.2)

  -- an accepted W line
  w_holds : field 0 fs ≡ 87 ∷ [] → parse_w fs ≡ accepted e → Holds ids p fs e
  unfolding parse_w
  w_holds letter =
      either (ltb (length fs) 7) _ _ (λ short a. absurd (not_accepted a))
      (λ long h.
      let a = then_accepted (parse_wsteps (nth 6 fs nowhere)) _ e h in
      given (is_w a.0 letter (ltb-false (length fs) 7 long) a.1) a.2)

  -- an accepted line that is neither blank nor a comment
  fields_holds : parse_fields ids p fs ≡ accepted e → Holds ids p fs e
  unfolding parse_fields
  fields_holds =
      either (same (field 0 fs) (72 ∷ [])) _ _ (λ h. given is_header)
      (λ h. either (same (field 0 fs) (83 ∷ [])) _ _ (λ s. s_holds)
      (λ s. either (same (field 0 fs) (76 ∷ [])) _ _ (λ l. l_holds)
      (λ l. either (same (field 0 fs) (80 ∷ [])) _ _ (λ p. p_holds (same_equal (field 0 fs) (80 ∷ []) p))
      (λ p. either (same (field 0 fs) (87 ∷ [])) _ _ (λ w. w_holds (same_equal (field 0 fs) (87 ∷ []) w))
      (λ w. given is_other_line)))))

-- what an accepted line holds
pub line_holds : (ids : List (List ℕ)) (p : Part) (e : Entry) → parse_line ids p ≡ accepted e → Holds ids p (fields p) e
unfolding parse_line
line_holds ids p e =
    either (is_empty p.bytes) _ _ (λ b. given ids p (fields p) e is_blank)
    (λ b. either (starts_comment p.bytes) _ _ (λ c. given ids p (fields p) e is_comment)
    (λ c. fields_holds ids p (fields p) e))

-- ---- what an accepted path holds

-- the fields of a P path
abbrev pub p_fields : List ℕ → List ℕ → List ℕ → List (List ℕ) → List (List ℕ)
p_fields name walk overlaps tags = (80 ∷ []) ∷ (name ∷ (walk ∷ (overlaps ∷ tags)))

-- the fields of a W path
abbrev pub w_fields : List ℕ → List ℕ → List ℕ → List ℕ → List ℕ → List ℕ → List (List ℕ) → List (List ℕ)
w_fields sample index name start end walk tags = (87 ∷ []) ∷ (sample ∷ (index ∷ (name ∷ (start ∷ (end ∷ (walk ∷ tags))))))

-- A path whose fields are those of its kind.
pub data Shaped : Path → Type 0 where
  shaped_p : (name walk overlaps : List ℕ) (tags : List (List ℕ)) (steps : List Step)
      → Shaped (record { kind = P; fields = p_fields name walk overlaps tags; steps = steps })
  shaped_w : (sample index name start end walk : List ℕ) (tags : List (List ℕ)) (steps : List Step)
      → Shaped (record { kind = W; fields = w_fields sample index name start end walk tags; steps = steps })

-- the fields of an accepted P line, with its overlaps
p_shaped : (fs : List Part) (steps : List Step) → field 0 fs ≡ 80 ∷ [] → 3 ≤ length fs
    → Shaped (record { kind = P; fields = map bytes_of fs ++ cond (eqb (length fs) 3) (star ∷ []) []; steps = steps })
unfolding field nth bytes_of
p_shaped [] steps e h = absurd (omega arith)
p_shaped (a ∷ []) steps e h = absurd (omega arith)
p_shaped (a ∷ (b ∷ [])) steps e h = absurd (omega arith)
p_shaped (a ∷ (b ∷ (c ∷ []))) steps e h = rw e (shaped_p b.bytes c.bytes star [] steps)
p_shaped (a ∷ (b ∷ (c ∷ (d ∷ fs)))) steps e h =
    let four : eqb (suc (suc (suc (suc (length fs))))) 3 ≡ false = ne_eqb (suc (suc (suc (suc (length fs))))) 3 (omega arith) in
    rw (e, four, append-nil (map bytes_of fs)) (shaped_p b.bytes c.bytes d.bytes (map bytes_of fs) steps)

-- the fields of an accepted W line
w_shaped : (fs : List Part) (steps : List Step) → field 0 fs ≡ 87 ∷ [] → 7 ≤ length fs
    → Shaped (record { kind = W; fields = map bytes_of fs; steps = steps })
unfolding field nth bytes_of
w_shaped [] steps e h = absurd (omega arith)
w_shaped (a ∷ []) steps e h = absurd (omega arith)
w_shaped (a ∷ (b ∷ [])) steps e h = absurd (omega arith)
w_shaped (a ∷ (b ∷ (c ∷ []))) steps e h = absurd (omega arith)
w_shaped (a ∷ (b ∷ (c ∷ (d ∷ [])))) steps e h = absurd (omega arith)
w_shaped (a ∷ (b ∷ (c ∷ (d ∷ (f ∷ []))))) steps e h = absurd (omega arith)
w_shaped (a ∷ (b ∷ (c ∷ (d ∷ (f ∷ (g ∷ [])))))) steps e h = absurd (omega arith)
w_shaped (a ∷ (b ∷ (c ∷ (d ∷ (f ∷ (g ∷ (i ∷ fs))))))) steps e h =
    rw e (shaped_w b.bytes c.bytes d.bytes f.bytes g.bytes i.bytes (map bytes_of fs) steps)

-- an accepted path has the fields of its kind
pub path_shaped : (ids : List (List ℕ)) (p : Part) (fs : List Part) (q : Path) → Holds ids p fs (path q) → Shaped q
path_shaped ids p fs q (is_p steps letter long a) = p_shaped fs steps letter long
path_shaped ids p fs q (is_w steps letter long a) = w_shaped fs steps letter long

-- the bytes of field k have what each byte of each field has
pub nth_field : (B : ℕ → Type 0) (k : ℕ) (fs : List Part) → Each (λ f. Each B f.bytes) fs → Each B (nth k fs nowhere).bytes
unfolding nowhere
nth_field B k fs h = nth_each (λ f. Each B f.bytes) k fs nowhere h tt

-- the fields of a path have what each byte of the fields of its line has, and the byte *
pub path_fields_bytes : (B : ℕ → Type 0) (ids : List (List ℕ)) (p : Part) (fs : List Part) (q : Path) → B 42 → Each (λ f. Each B f.bytes) fs
    → Holds ids p fs (path q) → Each (Each B) q.fields
unfolding bytes_of star
path_fields_bytes B ids p fs q s h (is_p steps letter long a) =
    each_append (Each B) (map bytes_of fs) (cond (eqb (length fs) 3) (star ∷ []) []) (each_map (Each B) bytes_of fs h) (go (eqb (length fs) 3))
  where
    go : (t : Bool) → Each (Each B) (cond t (star ∷ []) [])
    go true = ((s, tt), tt)
    go false = tt
path_fields_bytes B ids p fs q s h (is_w steps letter long a) = each_map (Each B) bytes_of fs h

-- the names of its steps have what each byte of the fields of its line has
pub path_names_bytes : (B : ℕ → Type 0) (ids : List (List ℕ)) (p : Part) (fs : List Part) (q : Path) → Each (λ f. Each B f.bytes) fs
    → Holds ids p fs (path q) → Each (λ s. Each B s.name.bytes) q.steps
path_names_bytes B ids p fs q h (is_p steps letter long a) = psteps_bytes B (nth 2 fs nowhere) steps (nth_field B 2 fs h) a
path_names_bytes B ids p fs q h (is_w steps letter long a) = wsteps_bytes B (nth 6 fs nowhere) steps (nth_field B 6 fs h) a

-- ---- the same line behind other segments

-- a choice gives z where it gave z, if each branch does
lift : {A : Type 0} {z : A} (t : Bool) (x y v w : A) → (x ≡ z → v ≡ z) → (y ≡ z → w ≡ z) → cond t x y ≡ z → cond t v w ≡ z
lift true x y v w f g e = f e
lift false x y v w f g e = g e

-- no segment read before has the entry's ID
abbrev pub Fresh : List (List ℕ) → Entry → Type 0
Fresh ids e = Each (λ id. any (same id) ids ≡ false) (id_of e)

module _ (ids too : List (List ℕ)) (p : Part) (e : Entry) (fresh : Fresh too e) where
  -- an accepted S line with a new ID is accepted
  s_again : (fs : List Part) → parse_s ids p fs ≡ accepted e → parse_s too p fs ≡ accepted e
  unfolding parse_s id_of choose one nil
  s_again fs =
      lift (ltb (length fs) 3) _ _ _ _ (λ a. a)
      (either (any (same (field 1 fs)) ids) _ _ (λ taken a. absurd (not_accepted a))
      (λ old a.
      let it : e ≡ segment (record { id = field 1 fs; sequence = field 2 fs; line = p.bytes }) = cc in
      let new = rw it at fresh in
      rw new.0 a))

  -- the same by the fields
  fields_again : (fs : List Part) → parse_fields ids p fs ≡ accepted e → parse_fields too p fs ≡ accepted e
  unfolding parse_fields
  fields_again fs =
      lift (same (field 0 fs) (72 ∷ [])) _ _ _ _ (λ a. a)
      (lift (same (field 0 fs) (83 ∷ [])) _ _ _ _ (s_again fs) (λ a. a))

  -- an accepted line is read as the same entry behind other segments, none of which has its ID
  pub parse_line_again : parse_line ids p ≡ accepted e → parse_line too p ≡ accepted e
  unfolding parse_line
  parse_line_again =
      lift (is_empty p.bytes) _ _ _ _ (λ a. a)
      (lift (starts_comment p.bytes) _ _ _ _ (λ a. a) (fields_again (fields p)))

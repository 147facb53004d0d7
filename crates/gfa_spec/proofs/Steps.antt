-- What the steps of an accepted P or W field satisfy. Assumes nothing.
use Prim.Native.Nat.{ℕ, suc}
use mathlib.Core.Bool.{Bool, true, false, cond, not, ◌||◌, false≢true}
use mathlib.Core.List.{List, [], ◌∷◌, drop_last}
use mathlib.Core.Path.{◌≡◌, refl, sym}
use lib.Dec.{eqb}
use borrow.Author.Tests.{not-true, eqb-true}
use Rattle.gfa_spec.specs.Bytes.{same, star, is_empty, Part, split, last_byte, Each}
use Rattle.gfa_spec.specs.Reading.{Step, Read, refused, accepted, then, is_orientation, is_step, step_of, parse_items, parse_psteps, is_mark, orientation_of, Walk, walk, non_empty, parse_wsteps}
use Rattle.gfa_spec.proofs.Tests.{and_left, and_right, or_left, or_right, by_test}
use Rattle.gfa_spec.proofs.Each.{Lacks, each_implies, each_always, each_both}
use Rattle.gfa_spec.proofs.Answers.{not_accepted}
use Rattle.gfa_spec.proofs.Splitting.{parts_lack, parts_bytes}

-- an orientation is + or -
pub by_orientation : (P : ℕ → Type 0) → P 43 → P 45 → (o : ℕ) → is_orientation o ≡ true → P o
unfolding is_orientation
by_orientation P plus minus o h = go (eqb o 43) (eqb o 45) refl refl h
  where
    go : (t u : Bool) → eqb o 43 ≡ t → eqb o 45 ≡ u → t || u ≡ true → P o
    go true u e f h = rw (eqb-true o 43 e) plus
    go false true e f h = rw (eqb-true o 45 f) minus
    go false false e f h = absurd (false≢true h)

-- the name is not empty, and the orientation is + or -
pub record SoundStep (s : Step) : Type 0 where
  pub named : is_empty s.name.bytes ≡ false
  pub oriented : is_orientation s.orientation ≡ true

-- the name lacks the byte b
abbrev pub NameLacks : ℕ → Step → Type 0
NameLacks b s = Lacks b s.name.bytes

-- ---- the steps of a P line

-- what holds of each holds without the last
each_drop_last : {A : Type 0} (P : A → Type 0) (xs : List A) → Each P xs → Each P (drop_last xs)
each_drop_last P [] h = tt
each_drop_last P (x ∷ []) h = tt
each_drop_last P (x ∷ (y ∷ ys)) h = (h.0, each_drop_last P (y ∷ ys) h.1)

-- a fact of each item that is a step is a fact of each step read
module _ (P : Part → Type 0) (Q : Step → Type 0) (good : (item : Part) → P item → is_step item.bytes ≡ true → Q (step_of item)) where
  -- one item more
  item_each : (item : Part) (r : Read (List Step)) (skip here : Bool) (steps : List Step)
      → P item → is_step item.bytes ≡ here → ((more : List Step) → r ≡ accepted more → Each Q more)
      → cond skip r (cond here (then r (λ more. accepted (step_of item ∷ more))) (refused 13)) ≡ accepted steps → Each Q steps
  unfolding then
  item_each item r true here steps h e k a = k steps a
  item_each item r false false steps h e k a = absurd (not_accepted a)
  item_each item (refused n) false true steps h e k a = absurd (not_accepted a)
  item_each item (accepted more) false true steps h e k a =
      let l : step_of item ∷ more ≡ steps = cc in
      rw (← l) (good item h e, k more refl)

  -- all items
  items_each : (items : List Part) (steps : List Step) → Each P items → parse_items items ≡ accepted steps → Each Q steps
  unfolding parse_items
  items_each [] steps h a = let l : [] ≡ steps = cc in rw (← l) tt
  items_each (item ∷ items) steps h a =
      item_each item (parse_items items) (is_empty item.bytes) (is_step item.bytes) steps h.0 refl (λ more. items_each items more h.1) a

  -- all items of a field
  pub psteps_each : (f : Part) (steps : List Step) → Each P (split 44 f.at f.bytes) → parse_psteps f ≡ accepted steps → Each Q steps
  unfolding parse_psteps
  psteps_each f steps h a = go (same f.bytes star) a
    where
      go : (t : Bool) → cond t (accepted []) (parse_items (split 44 f.at f.bytes)) ≡ accepted steps → Each Q steps
      go true a = let l : [] ≡ steps = cc in rw (← l) tt
      go false a = items_each (split 44 f.at f.bytes) steps h a

-- an item that is a step
step_sound : (item : Part) → is_step item.bytes ≡ true → SoundStep (step_of item)
unfolding is_step step_of
step_sound item h =
    let oriented = is_orientation (last_byte item.bytes) in
    let empty = is_empty (drop_last item.bytes) in
    record { named = not-true empty (and_right oriented (not empty) h); oriented = and_left oriented (not empty) h }

-- its name has what each byte of the item has
step_bytes : (P : ℕ → Type 0) (item : Part) → Each P item.bytes → Each P (step_of item).name.bytes
unfolding step_of
step_bytes P item h = each_drop_last P item.bytes h

-- each step of an accepted P field is sound
pub psteps_sound : (f : Part) (steps : List Step) → parse_psteps f ≡ accepted steps → Each SoundStep steps
psteps_sound f steps a =
    psteps_each (λ item. Unit {0}) SoundStep (λ item h. step_sound item) f steps (each_always (λ item. tt) (split 44 f.at f.bytes)) a

-- its name lacks the comma
pub psteps_lack_comma : (f : Part) (steps : List Step) → parse_psteps f ≡ accepted steps → Each (NameLacks 44) steps
psteps_lack_comma f steps a =
    psteps_each (λ item. Lacks 44 item.bytes) (NameLacks 44) (λ item h e. step_bytes (λ c. eqb c 44 ≡ false) item h) f steps (parts_lack 44 f.at f.bytes) a

-- and has what each byte of the field has
pub psteps_bytes : (P : ℕ → Type 0) (f : Part) (steps : List Step) → Each P f.bytes → parse_psteps f ≡ accepted steps
    → Each (λ s. Each P s.name.bytes) steps
psteps_bytes P f steps h a =
    psteps_each (λ item. Each P item.bytes) (λ s. Each P s.name.bytes) (λ item k e. step_bytes P item k) f steps (parts_bytes P 44 f.at f.bytes h) a

-- ---- the steps of a W line

-- induction over a walk: its end, a mark in front, another byte in front
module _ (P : ℕ → List ℕ → Walk → Type 0)
    (last : (at : ℕ) → P at [] (record { before = []; steps = [] }))
    (mark : (at b : ℕ) (s : List ℕ) (w : Walk) → is_mark b ≡ true → P (suc at) s w
    → P at (b ∷ s) (record { before = []; steps = record { name = record { at = suc at; bytes = w.before }; orientation = orientation_of b } ∷ w.steps }))
    (more : (at b : ℕ) (s : List ℕ) (w : Walk) → is_mark b ≡ false → P (suc at) s w
    → P at (b ∷ s) (record { before = b ∷ w.before; steps = w.steps })) where
  -- one byte more in front
  walk_case : (at b : ℕ) (s : List ℕ) (w : Walk) (t : Bool) → is_mark b ≡ t → P (suc at) s w
      → P at (b ∷ s) (cond t
      (record { before = []; steps = record { name = record { at = suc at; bytes = w.before }; orientation = orientation_of b } ∷ w.steps })
      (record { before = b ∷ w.before; steps = w.steps }))
  walk_case at b s w true e h = mark at b s w e h
  walk_case at b s w false e h = more at b s w e h

  -- the induction
  pub walk_ind : (at : ℕ) (s : List ℕ) → P at s (walk at s)
  unfolding walk
  walk_ind at [] = last at
  walk_ind at (b ∷ s) = walk_case at b s (walk (suc at) s) (is_mark b) refl (walk_ind (suc at) s)

-- a fact of the bytes of a walk, but for the marks, is a fact of the bytes of its names
walk_each : (P : ℕ → Type 0) (at : ℕ) (s : List ℕ) → Each (λ c. is_mark c ≡ false → P c) s
    → Each P (walk at s).before × Each (λ t. Each P t.name.bytes) (walk at s).steps
walk_each P at s =
    walk_ind (λ at s w. Each (λ c. is_mark c ≡ false → P c) s → Each P w.before × Each (λ t. Each P t.name.bytes) w.steps)
    (λ at h. (tt, tt))
    (λ at b s w e k h. let r = k h.1 in (tt, (r.0, r.1)))
    (λ at b s w e k h. let r = k h.1 in ((h.0 e, r.0), r.1))
    at s

-- a mark gives + or -
orientation_of_oriented : (b : ℕ) → is_orientation (orientation_of b) ≡ true
unfolding is_orientation orientation_of
orientation_of_oriented b = by_test (eqb b 62) (λ e. rw e) (λ e. rw e)

-- each step of a walk has an orientation
walk_oriented : (at : ℕ) (s : List ℕ) → Each (λ t. is_orientation t.orientation ≡ true) (walk at s).steps
walk_oriented at s =
    walk_ind (λ at s w. Each (λ t. is_orientation t.orientation ≡ true) w.steps)
    (λ at. tt)
    (λ at b s w e h. (orientation_of_oriented b, h))
    (λ at b s w e h. h)
    at s

-- the name is not empty
abbrev pub Named : Step → Type 0
Named s = is_empty s.name.bytes ≡ false

-- accepted steps are the walk's, with names that are not empty
non_empty_named : (ss steps : List Step) → non_empty ss ≡ accepted steps → (ss ≡ steps) × Each Named steps
unfolding non_empty then
non_empty_named [] steps a = absurd (not_accepted a)
non_empty_named (s ∷ []) steps a = go (is_empty s.name.bytes) refl a
  where
    go : (t : Bool) → is_empty s.name.bytes ≡ t → cond t (refused 17) (accepted (s ∷ [])) ≡ accepted steps → (s ∷ [] ≡ steps) × Each Named steps
    go true e a = absurd (not_accepted a)
    go false e a = let l : s ∷ [] ≡ steps = cc in (l, rw (← l) (e, tt))
non_empty_named (s ∷ (t ∷ ts)) steps a = go (is_empty s.name.bytes) (non_empty (t ∷ ts)) refl (non_empty_named (t ∷ ts)) a
  where
    go : (u : Bool) (r : Read (List Step)) → is_empty s.name.bytes ≡ u → ((more : List Step) → r ≡ accepted more → (t ∷ ts ≡ more) × Each Named more)
        → cond u (refused 15) (then r (λ more. accepted (s ∷ more))) ≡ accepted steps → (s ∷ (t ∷ ts) ≡ steps) × Each Named steps
    go true r e k a = absurd (not_accepted a)
    go false (refused n) e k a = absurd (not_accepted a)
    go false (accepted more) e k a =
        let l : s ∷ more ≡ steps = cc in
        let m : t ∷ ts ≡ more = (k more refl).0 in
        (cc, rw (← l) (e, (k more refl).1))

-- and such steps are accepted
pub non_empty_kept : (ss : List Step) → is_empty ss ≡ false → Each Named ss → non_empty ss ≡ accepted ss
unfolding non_empty then is_empty
non_empty_kept [] e h = absurd (false≢true (sym e))
non_empty_kept (s ∷ []) e h = rw h.0
non_empty_kept (s ∷ (t ∷ ts)) e h = rw (h.0, non_empty_kept (t ∷ ts) refl h.1)

-- a fact of each step of the walk is a fact of each step read
pub wsteps_each : (P : Step → Type 0) (f : Part) (steps : List Step) → Each P (walk f.at f.bytes).steps → parse_wsteps f ≡ accepted steps
    → Each (λ s. Named s × P s) steps
unfolding parse_wsteps
wsteps_each P f steps h a = go (same f.bytes star || is_empty f.bytes) a
  where
    go : (t : Bool) → cond t (accepted []) (non_empty (walk f.at f.bytes).steps) ≡ accepted steps → Each (λ s. Named s × P s) steps
    go true a = let l : [] ≡ steps = cc in rw (← l) tt
    go false a =
        let r = non_empty_named (walk f.at f.bytes).steps steps a in
        each_both Named P steps r.1 (rw r.0 at h)

-- each step of an accepted W field is sound
pub wsteps_sound : (f : Part) (steps : List Step) → parse_wsteps f ≡ accepted steps → Each SoundStep steps
wsteps_sound f steps a =
    each_implies (λ s h. record { named = h.0; oriented = h.1 }) steps
    (wsteps_each (λ s. is_orientation s.orientation ≡ true) f steps (walk_oriented f.at f.bytes) a)

-- a fact of the bytes of the field, but for the marks, is a fact of the bytes of the names
wsteps_unmarked : (P : ℕ → Type 0) (f : Part) (steps : List Step) → Each (λ c. is_mark c ≡ false → P c) f.bytes → parse_wsteps f ≡ accepted steps
    → Each (λ s. Each P s.name.bytes) steps
wsteps_unmarked P f steps h a =
    each_implies (λ s k. k.1) steps (wsteps_each (λ s. Each P s.name.bytes) f steps (walk_each P f.at f.bytes h).1 a)

-- the names lack the marks
pub wsteps_lack_marks : (f : Part) (steps : List Step) → parse_wsteps f ≡ accepted steps → Each (λ s. NameLacks 62 s × NameLacks 60 s) steps
unfolding is_mark
wsteps_lack_marks f steps a =
    each_both (NameLacks 62) (NameLacks 60) steps
    (wsteps_unmarked (λ c. eqb c 62 ≡ false) f steps (each_always (λ c. or_left (eqb c 62) (eqb c 60)) f.bytes) a)
    (wsteps_unmarked (λ c. eqb c 60 ≡ false) f steps (each_always (λ c. or_right (eqb c 62) (eqb c 60)) f.bytes) a)

-- and have what each byte of the field has
pub wsteps_bytes : (P : ℕ → Type 0) (f : Part) (steps : List Step) → Each P f.bytes → parse_wsteps f ≡ accepted steps
    → Each (λ s. Each P s.name.bytes) steps
wsteps_bytes P f steps h a = wsteps_unmarked P f steps (each_implies (λ c k e. k) f.bytes h) a

-- The steps that a path line is written with are read again. Assumes nothing.
use Prim.Native.Nat.{ℕ, suc, ◌≤◌}
use native.Mathlib.Omega.{arith}
use mathlib.Core.Bool.{Bool, true, false, cond, ◌&&◌, true≢false}
use mathlib.Core.List.{List, [], ◌∷◌, ◌++◌, map, drop_last, append-nil}
use mathlib.Core.Path.{◌≡◌, refl, ap}
use lib.Dec.{eqb}
use lib.ListN.{length, length-append}
use Rattle.gfa_spec.specs.Bytes.{same, star, is_empty, join, join_with, Part, bytes_of, split, last_byte, Each}
use Rattle.gfa_spec.specs.Reading.{Step, P, W, Read, refused, accepted, then, is_orientation, is_step, step_of, parse_items, parse_psteps, is_mark, orientation_of, walk, non_empty, parse_wsteps, map_read}
use Rattle.gfa_spec.proofs.Each.{Lacks, each_append, each_implies, each_both, each_of_map, each_map}
use Rattle.gfa_spec.proofs.Splitting.{split_join}
use Rattle.gfa_spec.proofs.Answers.{not_accepted, map_read_accepted}
use Rattle.gfa_spec.proofs.Steps.{by_orientation, SoundStep, NameLacks, Named, non_empty_kept, psteps_sound, psteps_lack_comma, wsteps_sound, wsteps_lack_marks}
use Rattle.normalize_spec.specs.Folding.{NewStep, as_new}
use Rattle.normalize_spec.specs.Writing.{p_token, w_token, step_field}

-- ---- a field that is not `*`

-- a list that is not empty has an element
length_some : {A : Type 0} (xs : List A) → is_empty xs ≡ false → 1 ≤ length xs
unfolding is_empty
length_some [] h = absurd (true≢false h)
length_some (x ∷ xs) h = omega arith

-- a test that fails
and_false : (t : Bool) → t && false ≡ false
and_false true = refl
and_false false = refl

-- a field of two bytes or more is neither `*` nor empty
long_field : (s : List ℕ) → 2 ≤ length s → (same s star ≡ false) × (is_empty s ≡ false)
unfolding same star is_empty
long_field [] h = absurd (omega arith)
long_field (b ∷ []) h = absurd (omega arith)
long_field (b ∷ (c ∷ s)) h = (and_false (eqb b 42), refl)

-- ---- the steps of a P line

-- a step that a P line can hold
pub record PStep (s : NewStep) : Type 0 where
  pub named : is_empty s.name ≡ false
  pub plain : Lacks 44 s.name
  pub oriented : is_orientation s.orientation ≡ true

-- an orientation is no comma
orientation_no_comma : (o : ℕ) → is_orientation o ≡ true → eqb o 44 ≡ false
orientation_no_comma o h = by_orientation (λ o. eqb o 44 ≡ false) refl refl o h

-- the last byte of a step is its orientation
last_byte_token : (name : List ℕ) (o : ℕ) → last_byte (name ++ (o ∷ [])) ≡ o
unfolding last_byte
last_byte_token [] o = refl
last_byte_token (b ∷ []) o = refl
last_byte_token (b ∷ (c ∷ name)) o = last_byte_token (c ∷ name) o

-- the bytes before it are the name
drop_last_token : (name : List ℕ) (o : ℕ) → drop_last (name ++ (o ∷ [])) ≡ name
drop_last_token [] o = refl
drop_last_token (b ∷ []) o = refl
drop_last_token (b ∷ (c ∷ name)) o = ap (λ r. b ∷ r) (drop_last_token (c ∷ name) o)

-- a step that is written has two bytes or more
token_long : (s : NewStep) → PStep s → 2 ≤ length (p_token s)
unfolding p_token
token_long s h = omega (arith, length-append s.name (s.orientation ∷ []), length_some s.name h.named)

-- and no comma
token_lacks : (s : NewStep) → PStep s → Lacks 44 (p_token s)
unfolding p_token
token_lacks s h = each_append (λ c. eqb c 44 ≡ false) s.name (s.orientation ∷ []) h.plain (orientation_no_comma s.orientation h.oriented, tt)

-- what is written is a step
is_step_token : (s : NewStep) → PStep s → is_step (p_token s) ≡ true
unfolding is_step p_token
is_step_token s h = rw (last_byte_token s.name, drop_last_token s.name, h.oriented, h.named)

-- and it is that step
step_of_token : (item : Part) (s : NewStep) → item.bytes ≡ p_token s → as_new (step_of item) ≡ s
unfolding as_new step_of p_token
step_of_token item s e = rw (e, last_byte_token s.name, drop_last_token s.name)

-- one step more in front
then_cons : (t : Step) (r : Read (List Step)) (s : NewStep) (ss : List NewStep) → as_new t ≡ s → map_read (map as_new) r ≡ accepted ss
    → map_read (map as_new) (then r (λ steps. accepted (t ∷ steps))) ≡ accepted (s ∷ ss)
unfolding map_read then
then_cons t (refused n) s ss e h = absurd (not_accepted h)
then_cons t (accepted more) s ss e h = cc

-- items that were written are read as their steps
items_tokens : (items : List Part) (steps : List NewStep) → map bytes_of items ≡ map p_token steps → Each PStep steps
    → map_read (map as_new) (parse_items items) ≡ accepted steps
unfolding map_read parse_items bytes_of
items_tokens [] [] e h = refl
items_tokens [] (s ∷ ss) e h = cc
items_tokens (item ∷ items) [] e h = cc
items_tokens (item ∷ items) (s ∷ ss) e h =
    let b : item.bytes ≡ p_token s = cc in
    let bs : map bytes_of items ≡ map p_token ss = cc in
    let some : is_empty item.bytes ≡ false = rw b (long_field (p_token s) (token_long s h.0)).1 in
    let step : is_step item.bytes ≡ true = rw b (is_step_token s h.0) in
    rw (some, step)
    (then_cons (step_of item) (parse_items items) s ss (step_of_token item s b) (items_tokens items ss bs h.1))

-- strings joined are as long as the first
join_with_long : (b : ℕ) (x : List ℕ) (xs : List (List ℕ)) → length x ≤ length (join_with b (x ∷ xs))
unfolding join_with
join_with_long b x [] = omega arith
join_with_long b x (y ∷ ys) = simp length-append (omega arith)

-- the steps of a P field that was written are those that were written
pub steps_p : (f : Part) (steps : List NewStep) → f.bytes ≡ step_field P steps → Each PStep steps → map_read (map as_new) (parse_psteps f) ≡ accepted steps
unfolding parse_psteps step_field map_read is_empty same star
steps_p f [] e h = rw e
steps_p f (s ∷ ss) e h =
    let tokens = map p_token (s ∷ ss) in
    let long : 2 ≤ length (join_with 44 tokens) = omega (arith, join_with_long 44 (p_token s) (map p_token ss), token_long s h.0) in
    rw (e, (long_field (join_with 44 tokens) long).0)
    (items_tokens (split 44 f.at (join_with 44 tokens)) (s ∷ ss)
    (split_join 44 f.at (p_token s) (map p_token ss) (each_map (Lacks 44) p_token (s ∷ ss) (each_implies token_lacks (s ∷ ss) h))) h)

-- the same, taken apart
pub steps_p_read : (f : Part) (steps : List NewStep) → f.bytes ≡ step_field P steps → Each PStep steps
    → (ss : List Step) × (parse_psteps f ≡ accepted ss) × (map as_new ss ≡ steps)
steps_p_read f steps e h = map_read_accepted (map as_new) (parse_psteps f) steps (steps_p f steps e h)

-- steps that were read from a P field can be written in one
pub psteps_writable : (f : Part) (ss : List Step) → parse_psteps f ≡ accepted ss → Each PStep (map as_new ss)
unfolding as_new
psteps_writable f ss a =
    each_map PStep as_new ss
    (each_implies (λ s h. record { named = h.0.named; plain = h.1; oriented = h.0.oriented }) ss
    (each_both SoundStep (NameLacks 44) ss (psteps_sound f ss a) (psteps_lack_comma f ss a)))

-- ---- the steps of a W line

-- a step that a W line can hold
pub record WStep (s : NewStep) : Type 0 where
  pub named : is_empty s.name ≡ false
  pub no_right : Lacks 62 s.name
  pub no_left : Lacks 60 s.name
  pub oriented : is_orientation s.orientation ≡ true

-- a name that lacks both marks
unmarked : (name : List ℕ) → Lacks 62 name → Lacks 60 name → Each (λ c. is_mark c ≡ false) name
unfolding is_mark
unmarked name h k = each_implies (λ c e. rw (e.0, e.1)) name (each_both (λ c. eqb c 62 ≡ false) (λ c. eqb c 60 ≡ false) name h k)

-- the mark of an orientation is a mark
mark_is_mark : (o : ℕ) → is_orientation o ≡ true → is_mark (cond (eqb o 43) 62 60) ≡ true
unfolding is_mark
mark_is_mark o h = by_orientation (λ o. is_mark (cond (eqb o 43) 62 60) ≡ true) refl refl o h

-- and gives that orientation
orientation_of_mark : (o : ℕ) → is_orientation o ≡ true → orientation_of (cond (eqb o 43) 62 60) ≡ o
unfolding orientation_of
orientation_of_mark o h = by_orientation (λ o. orientation_of (cond (eqb o 43) 62 60) ≡ o) refl refl o h

-- a walk over a name goes on behind it
walk_over : (at : ℕ) (name rest : List ℕ) → Each (λ c. is_mark c ≡ false) name
    → (too : ℕ) × (walk at (name ++ rest) ≡ record { before = name ++ (walk too rest).before; steps = (walk too rest).steps })
unfolding walk
walk_over at [] rest h = (at, refl)
walk_over at (b ∷ name) rest h =
    let more = walk_over (suc at) name rest h.1 in
    (more.0, rw (h.0, more.1))

-- steps that were written are walked
walk_tokens : (at : ℕ) (steps : List NewStep) → Each WStep steps
    → ((walk at (join (map w_token steps))).before ≡ []) × (map as_new (walk at (join (map w_token steps))).steps ≡ steps)
unfolding walk join w_token as_new
walk_tokens at [] h = (refl, refl)
walk_tokens at (s ∷ ss) h =
    let over = walk_over (suc at) s.name (join (map w_token ss)) (unmarked s.name h.0.no_right h.0.no_left) in
    let more = walk_tokens over.0 ss h.1 in
    rw (mark_is_mark s.orientation h.0.oriented, orientation_of_mark s.orientation h.0.oriented, over.1, more.0, append-nil s.name)
    (refl {a = []}, ap (λ r. s ∷ r) more.1)

-- a list is not empty where its images are not
map_some : {A B : Type 0} (f : A → B) (xs : List A) → is_empty (map f xs) ≡ false → is_empty xs ≡ false
unfolding is_empty
map_some f [] h = h
map_some f (x ∷ xs) h = refl

-- a walk with steps that a W line can hold is accepted
walk_kept : (ts : List Step) (s : NewStep) (ss : List NewStep) → map as_new ts ≡ s ∷ ss → Each WStep (s ∷ ss)
    → map_read (map as_new) (non_empty ts) ≡ accepted (s ∷ ss)
unfolding map_read as_new is_empty
walk_kept ts s ss e h =
    let some : is_empty ts ≡ false = map_some as_new ts (rw e) in
    let named : Each Named ts = each_implies (λ t k. k.named) ts (each_of_map WStep as_new ts (rw e h)) in
    rw (non_empty_kept ts some named) (ap accepted e)

-- steps that were written have two bytes or more
walk_long : (s : NewStep) (ss : List NewStep) → WStep s → 2 ≤ length (join (map w_token (s ∷ ss)))
unfolding join w_token
walk_long s ss h = omega (arith, length-append s.name (join (map w_token ss)), length_some s.name h.named)

-- the steps of a W field that was written are those that were written
pub steps_w : (f : Part) (steps : List NewStep) → f.bytes ≡ step_field W steps → Each WStep steps → map_read (map as_new) (parse_wsteps f) ≡ accepted steps
unfolding parse_wsteps step_field map_read is_empty same star
steps_w f [] e h = rw e
steps_w f (s ∷ ss) e h =
    let long = long_field (join (map w_token (s ∷ ss))) (walk_long s ss h.0) in
    rw (e, long.0, long.1) (walk_kept (walk f.at (join (map w_token (s ∷ ss)))).steps s ss (walk_tokens f.at (s ∷ ss) h).1 h)

-- the same, taken apart
pub steps_w_read : (f : Part) (steps : List NewStep) → f.bytes ≡ step_field W steps → Each WStep steps
    → (ss : List Step) × (parse_wsteps f ≡ accepted ss) × (map as_new ss ≡ steps)
steps_w_read f steps e h = map_read_accepted (map as_new) (parse_wsteps f) steps (steps_w f steps e h)

-- steps that were read from a W field can be written in one
pub wsteps_writable : (f : Part) (ss : List Step) → parse_wsteps f ≡ accepted ss → Each WStep (map as_new ss)
unfolding as_new
wsteps_writable f ss a =
    each_map WStep as_new ss
    (each_implies (λ s h. record { named = h.0.named; no_right = h.1.0; no_left = h.1.1; oriented = h.0.oriented }) ss
    (each_both SoundStep (λ s. NameLacks 62 s × NameLacks 60 s) ss (wsteps_sound f ss a) (wsteps_lack_marks f ss a)))

-- A line is refused as n exactly under the condition of n. Assumes nothing.
use Prim.Native.Nat.{ℕ, suc}
use native.Mathlib.Omega.{arith}
use mathlib.Core.Bool.{Bool, true, false, cond, not, true≢false, false≢true}
use mathlib.Core.List.{List, [], ◌∷◌, map}
use mathlib.Core.Path.{◌≡◌, refl, sym}
use borrow.Author.Tests.{ltb-true, ltb-false, lt-ltb, le-ltb, not-true, eqb-true}
use lib.Dec.{eqb, ltb}
use lib.ListN.{length}
use Rattle.gfa_spec.specs.Bytes.{same, star, is_empty, any, Part, bytes_of, longer, split, between, last_byte, nth}
use Rattle.gfa_spec.specs.Reading.{fields, nowhere, field, Step, Entry, Read, refused, accepted, then, is_orientation, is_step, parse_items, parse_psteps, is_mark, walk, non_empty, parse_wsteps, parse_orientation, parse_s, parse_l, parse_p, parse_w, parse_fields, starts_comment, parse_line}
use Rattle.gfa_spec.specs.Conditions.{is_single, is_none, is_malformed, has_empty_step, LineRefuses, short_s, id_read, short_l, from_empty, from_other, to_empty, to_other, short_p, step_malformed, short_w, step_empty, no_step, last_empty}
use Rattle.gfa_spec.proofs.Tests.{by_test, or_left, or_right, same_equal}
use Rattle.gfa_spec.proofs.Answers.{not_accepted}
use Rattle.gfa_spec.proofs.Splitting.{split_between}
use Rattle.gfa_spec.proofs.Steps.{walk_ind}
use Rattle.gfa_spec.proofs.Entries.{orientation_accepted}

-- a refused continuation was refused at its start or behind it
then_refused : {A B C : Type 0} (r : Read A) (k : A → Read B) (n : ℕ) → (r ≡ refused n → C) → ((a : A) → r ≡ accepted a → k a ≡ refused n → C) → then r k ≡ refused n → C
unfolding then
then_refused (refused m) k n f g e = let same : m ≡ n = cc in f (rw same)
then_refused (accepted a) k n f g e = g a refl e

-- ---- orientations

-- a refused orientation is empty, or not a single + or -
orientation_refused : (C : ℕ → Type 0) (n m : ℕ) (s : List ℕ) → (s ≡ [] → C n) → (is_empty s ≡ false → is_single s ≡ false → C (suc n))
    → parse_orientation n s ≡ refused m → C m
unfolding parse_orientation is_empty is_single
orientation_refused C n m [] f g e = let same : n ≡ m = cc in rw same at (f refl)
orientation_refused C n m (b ∷ []) f g e =
    by_test (is_orientation b)
    (λ h. absurd (not_accepted (sym (rw h at e))))
    (λ h. let same : suc n ≡ m = cc (rw h at e) in rw same at (g refl h))
orientation_refused C n m (b ∷ (c ∷ s)) f g e = let same : suc n ≡ m = cc in rw same at (g refl refl)

-- an empty orientation is refused as n
empty_refused : (n : ℕ) (s : List ℕ) → s ≡ [] → parse_orientation n s ≡ refused n
unfolding parse_orientation
empty_refused n s h = rw h

-- one that is not a single + or -, as the next number
other_refused : (n : ℕ) (s : List ℕ) → is_empty s ≡ false → is_single s ≡ false → parse_orientation n s ≡ refused (suc n)
unfolding parse_orientation is_empty is_single
other_refused n [] h k = absurd (true≢false h)
other_refused n (b ∷ []) h k = rw k
other_refused n (b ∷ (c ∷ s)) h k = refl

-- a single + or - is accepted
single_accepted : (n : ℕ) (s : List ℕ) → is_single s ≡ true → (a : ℕ) × (parse_orientation n s ≡ accepted a)
unfolding parse_orientation is_single
single_accepted n [] h = absurd (false≢true h)
single_accepted n (b ∷ []) h = (b, rw h)
single_accepted n (b ∷ (c ∷ s)) h = absurd (false≢true h)

-- and only that
accepted_single : (n : ℕ) (s : List ℕ) (a : ℕ) → parse_orientation n s ≡ accepted a → is_single s ≡ true
unfolding is_single
accepted_single n s a e = let o = orientation_accepted n s a e in rw o.0 o.1

-- ---- the steps of a P line

-- items are refused as 13, and only if one of them is malformed
items_refused : (items : List Part) (n : ℕ) → parse_items items ≡ refused n → (13 ≡ n) × (any is_malformed (map bytes_of items) ≡ true)
unfolding parse_items any is_malformed bytes_of
items_refused [] n e = absurd (not_accepted (sym e))
items_refused (item ∷ items) n e =
    by_test (is_empty item.bytes)
    (λ h. rw h (items_refused items n (rw h at e)))
    (λ h. by_test (is_step item.bytes)
    (λ k. rw (h, k) (then_refused (parse_items items) _ n (items_refused items n) (λ a i j. absurd (not_accepted (sym j))) (rw (h, k) at e)))
    (λ k. rw (h, k) (cc (rw (h, k) at e), refl)))

-- and if one is malformed they are
malformed_refused : (items : List Part) → any is_malformed (map bytes_of items) ≡ true → parse_items items ≡ refused 13
unfolding parse_items any is_malformed bytes_of then
malformed_refused [] e = absurd (false≢true e)
malformed_refused (item ∷ items) e =
    by_test (is_empty item.bytes)
    (λ h. rw h (malformed_refused items (rw h at e)))
    (λ h. by_test (is_step item.bytes)
    (λ k. rw (h, k, malformed_refused items (rw (h, k) at e)))
    (λ k. rw (h, k)))

-- a field with a malformed item is not empty
malformed_given : (s : List ℕ) → any is_malformed (between 44 s) ≡ true → is_empty s ≡ false
unfolding between any is_malformed is_empty
malformed_given [] h = absurd (false≢true h)
malformed_given (b ∷ s) h = refl

-- the steps of a P field are refused as 13, and only if it has a malformed item
psteps_refused : (f : Part) (n : ℕ) → parse_psteps f ≡ refused n → (13 ≡ n) × (is_none f.bytes ≡ false) × (any is_malformed (between 44 f.bytes) ≡ true)
unfolding parse_psteps is_none
psteps_refused f n e =
    by_test (same f.bytes star)
    (λ h. absurd (not_accepted (sym (rw h at e))))
    (λ h. let (number, some) = items_refused (split 44 f.at f.bytes) n (rw h at e) in
    let some = rw split_between at some in
    (number, rw (h, malformed_given f.bytes some), some))

-- and then they are
refused_psteps : (f : Part) → is_none f.bytes ≡ false → any is_malformed (between 44 f.bytes) ≡ true → parse_psteps f ≡ refused 13
unfolding parse_psteps is_none
refused_psteps f h k = rw (or_left (same f.bytes star) (is_empty f.bytes) h) (malformed_refused (split 44 f.at f.bytes) (rw split_between k))

-- ---- the steps of a W line

-- what a walk's steps are read as: 15 if a mark stands at once behind a mark, 16 if there is no mark, 17 if the last byte is one
abbrev walk_verdict : List ℕ → List Step → Read (List Step)
walk_verdict s steps =
    cond (has_empty_step s) (refused 15) (cond (any is_mark s) (cond (is_mark (last_byte s)) (refused 17) (accepted steps)) (refused 16))

-- does the string begin with a mark, or has it no byte?
unfoldable starts_mark : List ℕ → Bool
starts_mark [] = true
starts_mark (c ∷ s) = is_mark c

-- What a walk says of its string: when it has no byte before its first mark, when it has no step, and what its steps are read as.
record WalkSays (s : List ℕ) (before : List ℕ) (steps : List Step) : Type 0 where
  pub begins : is_empty before ≡ starts_mark s
  pub unmarked : is_empty steps ≡ not (any is_mark s)
  pub says : non_empty steps ≡ walk_verdict s steps

-- without a mark no step is empty
unmarked_full : (s : List ℕ) → any is_mark s ≡ false → has_empty_step s ≡ false
unfolding any has_empty_step
unmarked_full [] h = refl
unmarked_full (b ∷ []) h = refl
unmarked_full (b ∷ (c ∷ s)) h = rw (or_left (is_mark b) _ h) (unmarked_full (c ∷ s) (or_right (is_mark b) _ h))

-- nor is the last byte a mark
unmarked_last : (s : List ℕ) → any is_mark s ≡ false → is_mark (last_byte s) ≡ false
unfolding any last_byte is_mark
unmarked_last [] h = refl
unmarked_last (b ∷ []) h = or_left (is_mark b) false h
unmarked_last (b ∷ (c ∷ s)) h = unmarked_last (c ∷ s) (or_right (is_mark b) _ h)

-- a step in front of what is read
step_before : (t : Step) (steps : List Step) (r : Read (List Step)) (hollow bare : Bool)
    → r ≡ cond hollow (refused 15) (cond true (cond bare (refused 17) (accepted steps)) (refused 16))
    → then r (λ more. accepted (t ∷ more)) ≡ cond hollow (refused 15) (cond true (cond bare (refused 17) (accepted (t ∷ steps))) (refused 16))
unfolding then
step_before t steps r true bare e = rw e
step_before t steps r false true e = rw e
step_before t steps r false false e = rw e

-- a mark in front: a step whose name is what stood before the first mark
mark_says : (b : ℕ) (s : List ℕ) (t : Step) (steps : List Step) → is_mark b ≡ true → WalkSays s t.name.bytes steps
    → non_empty (t ∷ steps) ≡ walk_verdict (b ∷ s) (t ∷ steps)
unfolding non_empty then any has_empty_step last_byte is_empty starts_mark
mark_says b [] t [] m w = rw (w.begins, m)
mark_says b [] t (u ∷ us) m w = absurd (false≢true w.unmarked)
mark_says b (c ∷ s) t [] m w =
    let none = not-true (any is_mark (c ∷ s)) (sym w.unmarked) in
    rw (w.begins, or_left (is_mark c) _ none, m, unmarked_full (c ∷ s) none, unmarked_last (c ∷ s) none)
mark_says b (c ∷ s) t (u ∷ us) m w =
    let some : any is_mark (c ∷ s) ≡ true = marked (any is_mark (c ∷ s)) w.unmarked in
    by_test (is_mark c)
    (λ k. rw (w.begins, k, m))
    (λ k. rw (w.begins, k, m) (step_before t (u ∷ us) (non_empty (u ∷ us)) (has_empty_step (c ∷ s)) (is_mark (last_byte (c ∷ s))) (rw some at w.says)))
  where
    marked : (a : Bool) → false ≡ not a → a ≡ true
    marked true h = refl
    marked false h = absurd (false≢true h)

-- another byte in front: the steps stay
more_says : (b : ℕ) (s : List ℕ) (steps : List Step) → is_mark b ≡ false → non_empty steps ≡ walk_verdict s steps → non_empty steps ≡ walk_verdict (b ∷ s) steps
unfolding any has_empty_step last_byte
more_says b [] steps m h = rw m h
more_says b (c ∷ s) steps m h = rw m h

-- what the walk of a string says of it
walk_says : (at : ℕ) (s : List ℕ) → WalkSays s (walk at s).before (walk at s).steps
unfolding non_empty any has_empty_step last_byte is_empty starts_mark
walk_says at s =
    walk_ind (λ at s w. WalkSays s w.before w.steps)
    (λ at. record { begins = refl; unmarked = refl; says = refl })
    (λ at b s w m h. record { begins = sym m; unmarked = rw m; says = mark_says b s _ w.steps m h })
    (λ at b s w m h. record { begins = sym m; unmarked = rw m h.unmarked; says = more_says b s w.steps m h.says })
    at s

-- so the steps of a W field are read as its bytes say
wsteps_says : (f : Part) → parse_wsteps f ≡ cond (is_none f.bytes) (accepted []) (walk_verdict f.bytes (walk f.at f.bytes).steps)
unfolding parse_wsteps is_none
wsteps_says f = rw (walk_says f.at f.bytes).says

-- ---- a line is refused under its condition only

module _ (ids : List (List ℕ)) (fs : List Part) (n : ℕ) where
  -- a number that is given is the one at hand
  given : {m : ℕ} → LineRefuses ids fs m → ◌≡◌ {A = Read Entry} (refused m) (refused n) → LineRefuses ids fs n
  given {m} h e = let same : m ≡ n = cc in rw same at h

  -- nothing is both accepted and refused
  never : {A : Type 0} {a : A} → accepted a ≡ refused n → LineRefuses ids fs n
  never e = absurd (not_accepted (sym e))

  -- an S line
  s_refused : (p : Part) → field 0 fs ≡ 83 ∷ [] → parse_s ids p fs ≡ refused n → LineRefuses ids fs n
  unfolding parse_s
  s_refused p letter e =
      by_test (ltb (length fs) 3)
      (λ short. given (short_s letter (ltb-true (length fs) 3 short)) (rw short at e))
      (λ long. by_test (any (same (field 1 fs)) ids)
      (λ taken. given (id_read letter (ltb-false (length fs) 3 long) taken) (rw (long, taken) at e))
      (λ fresh. never (rw (long, fresh) at e)))

  -- an L line
  l_refused : (p : Part) → field 0 fs ≡ 76 ∷ [] → parse_l p fs ≡ refused n → LineRefuses ids fs n
  unfolding parse_l
  l_refused p letter e =
      by_test (ltb (length fs) 6)
      (λ short. given (short_l letter (ltb-true (length fs) 6 short)) (rw short at e))
      (λ short. let long = ltb-false (length fs) 6 short in
      then_refused (parse_orientation 8 (field 2 fs)) _ n
      (orientation_refused (LineRefuses ids fs) 8 n (field 2 fs) (from_empty letter long) (from_other letter long))
      (λ a u. let from = accepted_single 8 (field 2 fs) a u in
      then_refused (parse_orientation 10 (field 4 fs)) _ n
      (orientation_refused (LineRefuses ids fs) 10 n (field 4 fs) (to_empty letter long from) (to_other letter long from))
      (λ b v. never)) (rw short at e))

  -- a P line
  p_refused : field 0 fs ≡ 80 ∷ [] → parse_p fs ≡ refused n → LineRefuses ids fs n
  unfolding parse_p field
  p_refused letter e =
      by_test (ltb (length fs) 3)
      (λ short. given (short_p letter (ltb-true (length fs) 3 short)) (rw short at e))
      (λ short. then_refused (parse_psteps (nth 2 fs nowhere)) _ n
      (λ r. let (number, some, bad) = psteps_refused (nth 2 fs nowhere) n r in
      given (step_malformed letter (ltb-false (length fs) 3 short) some bad) (cc (number)))
      (λ steps a. never) (rw short at e))

  -- the steps of a W line
  walk_refused : (steps : List Step) → field 0 fs ≡ 87 ∷ [] → ltb (length fs) 7 ≡ false
      → cond (is_none (field 6 fs)) (accepted []) (walk_verdict (field 6 fs) steps) ≡ refused n → LineRefuses ids fs n
  walk_refused steps letter short e =
      let long = ltb-false (length fs) 7 short in
      by_test (is_none (field 6 fs))
      (λ h. never (rw h at e))
      (λ some. by_test (has_empty_step (field 6 fs))
      (λ h. given (step_empty letter long some h) (cc (rw (some, h) at e)))
      (λ full. by_test (any is_mark (field 6 fs))
      (λ marked. by_test (is_mark (last_byte (field 6 fs)))
      (λ h. given (last_empty letter long some full marked h) (cc (rw (some, full, marked, h) at e)))
      (λ h. never (rw (some, full, marked, h) at e)))
      (λ h. given (no_step letter long some full h) (cc (rw (some, full, h) at e)))))

  -- a W line
  w_refused : field 0 fs ≡ 87 ∷ [] → parse_w fs ≡ refused n → LineRefuses ids fs n
  unfolding parse_w field
  w_refused letter e =
      by_test (ltb (length fs) 7)
      (λ short. given (short_w letter (omega (arith, ltb-true (length fs) 7 short))) (rw short at e))
      (λ short. then_refused (parse_wsteps (nth 6 fs nowhere)) _ n
      (λ r. walk_refused (walk (nth 6 fs nowhere).at (nth 6 fs nowhere).bytes).steps letter short (rw wsteps_says at r))
      (λ steps a. never) (rw short at e))

  -- a line that is neither blank nor a comment
  fields_refused : (p : Part) → parse_fields ids p fs ≡ refused n → LineRefuses ids fs n
  unfolding parse_fields
  fields_refused p e =
      by_test (same (field 0 fs) (72 ∷ [])) (λ h. never (rw h at e))
      (λ h. by_test (same (field 0 fs) (83 ∷ [])) (λ s. s_refused p (same_equal (field 0 fs) (83 ∷ []) s) (rw (h, s) at e))
      (λ s. by_test (same (field 0 fs) (76 ∷ [])) (λ l. l_refused p (same_equal (field 0 fs) (76 ∷ []) l) (rw (h, s, l) at e))
      (λ l. by_test (same (field 0 fs) (80 ∷ [])) (λ q. p_refused (same_equal (field 0 fs) (80 ∷ []) q) (rw (h, s, l, q) at e))
      (λ q. by_test (same (field 0 fs) (87 ∷ [])) (λ w. w_refused (same_equal (field 0 fs) (87 ∷ []) w) (rw (h, s, l, q, w) at e))
      (λ w. never (rw (h, s, l, q, w) at e))))))

-- a line is refused under the condition of its number only
pub line_refused : (ids : List (List ℕ)) (p : Part) (n : ℕ) → parse_line ids p ≡ refused n → LineRefuses ids (fields p) n
unfolding parse_line
line_refused ids p n e =
    by_test (is_empty p.bytes) (λ b. never ids (fields p) n (rw b at e))
    (λ b. by_test (starts_comment p.bytes) (λ c. never ids (fields p) n (rw (b, c) at e))
    (λ c. fields_refused ids (fields p) n p (rw (b, c) at e)))

-- ---- and under its condition it is refused

-- the list of a P line with a malformed item
list_refused : (fs : List Part) → is_none (field 2 fs) ≡ false → any is_malformed (between 44 (field 2 fs)) ≡ true → parse_psteps (nth 2 fs nowhere) ≡ refused 13
unfolding field
list_refused fs some bad = refused_psteps (nth 2 fs nowhere) some bad

-- the walk of a W line
walk_read : (fs : List Part) → parse_wsteps (nth 6 fs nowhere) ≡ cond (is_none (field 6 fs)) (accepted []) (walk_verdict (field 6 fs) (walk (nth 6 fs nowhere).at (field 6 fs)).steps)
unfolding field
walk_read fs = wsteps_says (nth 6 fs nowhere)

-- fields under their condition are refused
refused_fields : (ids : List (List ℕ)) (p : Part) (fs : List Part) (n : ℕ) → LineRefuses ids fs n → parse_fields ids p fs ≡ refused n
unfolding parse_fields parse_s parse_l parse_p parse_w then same
refused_fields ids p fs n (short_s letter short) = rw (letter, lt-ltb (length fs) 3 short)
refused_fields ids p fs n (id_read letter long taken) = rw (letter, le-ltb (length fs) 3 long, taken)
refused_fields ids p fs n (short_l letter short) = rw (letter, lt-ltb (length fs) 6 short)
refused_fields ids p fs n (from_empty letter long h) = rw (letter, le-ltb (length fs) 6 long, empty_refused 8 (field 2 fs) h)
refused_fields ids p fs n (from_other letter long h k) = rw (letter, le-ltb (length fs) 6 long, other_refused 8 (field 2 fs) h k)
refused_fields ids p fs n (to_empty letter long from h) =
    rw (letter, le-ltb (length fs) 6 long, (single_accepted 8 (field 2 fs) from).1, empty_refused 10 (field 4 fs) h)
refused_fields ids p fs n (to_other letter long from h k) =
    rw (letter, le-ltb (length fs) 6 long, (single_accepted 8 (field 2 fs) from).1, other_refused 10 (field 4 fs) h k)
refused_fields ids p fs n (short_p letter short) = rw (letter, lt-ltb (length fs) 3 short)
refused_fields ids p fs n (step_malformed letter long some bad) = rw (letter, le-ltb (length fs) 3 long, list_refused fs some bad)
refused_fields ids p fs n (short_w letter short) = rw (letter, lt-ltb (length fs) 7 (omega arith))
refused_fields ids p fs n (step_empty letter long some h) = rw (letter, le-ltb (length fs) 7 long, walk_read fs, some, h)
refused_fields ids p fs n (no_step letter long some full h) = rw (letter, le-ltb (length fs) 7 long, walk_read fs, some, full, h)
refused_fields ids p fs n (last_empty letter long some full marked h) = rw (letter, le-ltb (length fs) 7 long, walk_read fs, some, full, marked, h)

-- at most one condition holds of a line
pub one_condition : (ids : List (List ℕ)) (fs : List Part) (m n : ℕ) → LineRefuses ids fs m → LineRefuses ids fs n → m ≡ n
one_condition ids fs m n h k = cc (refused_fields ids nowhere fs m h, refused_fields ids nowhere fs n k)

-- a line whose fields are refused is neither blank nor a comment: its first field is a letter
refused_lettered : (ids : List (List ℕ)) (p : Part) (n at : ℕ) (s : List ℕ) → parse_fields ids p (split 9 at s) ≡ refused n → (is_empty s ≡ false) × (starts_comment s ≡ false)
unfolding parse_fields field nth nowhere same longer split is_empty starts_comment
refused_lettered ids p n at [] e = absurd (not_accepted (sym e))
refused_lettered ids p n at (b ∷ s) e =
    by_test (eqb b 35)
    (λ h. let hash = eqb-true b 35 h in absurd (go (split 9 (suc at) s) (rw hash at e)))
    (λ h. (refl, h))
  where
    go : (ps : List Part) → parse_fields ids p (longer at 35 ps) ≡ refused n → ⊥
    go [] e = not_accepted (sym e)
    go (q ∷ qs) e = not_accepted (sym e)

-- under the condition of a number the line is refused as that number
pub refused_line : (ids : List (List ℕ)) (p : Part) (n : ℕ) → LineRefuses ids (fields p) n → parse_line ids p ≡ refused n
unfolding parse_line fields
refused_line ids p n h =
    let e = refused_fields ids p (fields p) n h in
    let (some, plain) = refused_lettered ids p n p.at p.bytes e in
    rw (some, plain) e

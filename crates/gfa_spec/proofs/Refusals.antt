-- The numbers of refusals: 5 to 17 for a line, 1 to 17 for a text, 18 and 19 for a step. Assumes nothing.
use Prim.Native.Nat.{ℕ, suc, ◌+◌, ◌*◌, ◌≤◌, ◌<◌}
use native.Mathlib.Omega.{arith}
use mathlib.Core.Bool.{Bool, true, false, cond, not, ◌&&◌, ◌||◌}
use mathlib.Core.List.{List, [], ◌∷◌, ◌++◌}
use Rattle.std.specs.Prelude.{Option, None, Some}
use mathlib.Core.Path.{◌≡◌, refl}
use lib.Dec.{eqb, leb, ltb}
use lib.ListN.{length}
use Rattle.gfa_spec.specs.Bytes.{same, star, is_empty, any, Part, split, nth}
use Rattle.gfa_spec.specs.Reading.{fields, nowhere, field, Step, Segment, Entry, Read, refused, accepted, then, is_orientation, is_step, step_of, parse_items, parse_psteps, walk, non_empty, parse_wsteps, parse_orientation, parse_s, parse_l, parse_p, parse_w, parse_fields, starts_comment, parse_line, Parsed, refused_at, parsed, id_of, after, onward, lines, parse_lines, parse}
use Rattle.gfa_spec.specs.Records.{sequence_of}
use Rattle.gfa_spec.specs.Sequences.{oriented}
use Rattle.gfa_spec.specs.Spelling.{Spelt, bad, spelt, behind, spell_step, spell}
use Rattle.gfa_spec.specs.Calls.{Refusal, plainly, on_line, at_place, bad_byte, Input, entries, of_parsed, of_bytes, input}
use Rattle.gfa_spec.proofs.Tests.{by_test}

-- ---- a line

-- a number that refuses a line
pub record LineNumber (n : ℕ) : Type 0 where
  pub least : 5 ≤ n
  pub most : n ≤ 17

-- what is read, or refused by such a number
abbrev pub Numbered : {A : Type 0} → Read A → Type 0
Numbered (refused n) = LineNumber n
Numbered (accepted a) = Unit {0}

-- a choice
either_numbered : {A : Type 0} (t : Bool) (x y : Read A) → Numbered x → Numbered y → Numbered (cond t x y)
either_numbered true x y h k = h
either_numbered false x y h k = k

-- a continuation
then_numbered : {A B : Type 0} (r : Read A) (k : A → Read B) → Numbered r → ((a : A) → Numbered (k a)) → Numbered (then r k)
unfolding then
then_numbered (refused n) k h g = h
then_numbered (accepted a) k h g = g a

-- the items of a P field
items_numbered : (items : List Part) → Numbered (parse_items items)
unfolding parse_items
items_numbered [] = tt
items_numbered (item ∷ items) =
    either_numbered (is_empty item.bytes) (parse_items items) _ (items_numbered items)
    (either_numbered (is_step item.bytes) (then (parse_items items) (λ steps. accepted (step_of item ∷ steps))) (refused 13)
    (then_numbered (parse_items items) _ (items_numbered items) (λ steps. tt)) (omega arith))

-- the steps of a P field
psteps_numbered : (f : Part) → Numbered (parse_psteps f)
unfolding parse_psteps
psteps_numbered f = either_numbered (same f.bytes star) (accepted []) (parse_items (split 44 f.at f.bytes)) tt (items_numbered (split 44 f.at f.bytes))

-- the steps of a walk
non_empty_numbered : (ss : List Step) → Numbered (non_empty ss)
unfolding non_empty
non_empty_numbered [] = omega arith
non_empty_numbered (s ∷ []) = either_numbered (is_empty s.name.bytes) (refused 17) (accepted (s ∷ [])) (omega arith) tt
non_empty_numbered (s ∷ (t ∷ ts)) =
    either_numbered (is_empty s.name.bytes) (refused 15) _ (omega arith) (then_numbered (non_empty (t ∷ ts)) (λ steps. accepted (s ∷ steps)) (non_empty_numbered (t ∷ ts)) (λ steps. tt))

-- the steps of a W field
wsteps_numbered : (f : Part) → Numbered (parse_wsteps f)
unfolding parse_wsteps
wsteps_numbered f = either_numbered (same f.bytes star || is_empty f.bytes) (accepted []) (non_empty (walk f.at f.bytes).steps) tt (non_empty_numbered (walk f.at f.bytes).steps)

-- an orientation
orientation_numbered : (n : ℕ) (s : List ℕ) → 5 ≤ n → n < 17 → Numbered (parse_orientation n s)
unfolding parse_orientation
orientation_numbered n [] h k = omega arith
orientation_numbered n (b ∷ []) h k = either_numbered (is_orientation b) (accepted b) (refused (suc n)) tt (omega arith)
orientation_numbered n (b ∷ (c ∷ s)) h k = omega arith

-- an S line
s_numbered : (ids : List (List ℕ)) (p : Part) (fs : List Part) → Numbered (parse_s ids p fs)
unfolding parse_s
s_numbered ids p fs =
    either_numbered (ltb (length fs) 3) (refused 5) _ (omega arith) (either_numbered (any (same (field 1 fs)) ids) (refused 6) (accepted _) (omega arith) tt)

-- an L line
l_numbered : (p : Part) (fs : List Part) → Numbered (parse_l p fs)
unfolding parse_l
l_numbered p fs =
    either_numbered (ltb (length fs) 6) (refused 7) _ (omega arith)
    (then_numbered (parse_orientation 8 (field 2 fs)) _ (orientation_numbered 8 (field 2 fs) (omega arith) (omega arith))
    (λ a. then_numbered (parse_orientation 10 (field 4 fs)) _ (orientation_numbered 10 (field 4 fs) (omega arith) (omega arith)) (λ b. tt)))

-- a P line
p_numbered : (fs : List Part) → Numbered (parse_p fs)
unfolding parse_p
p_numbered fs = either_numbered (ltb (length fs) 3) (refused 12) _ (omega arith) (then_numbered (parse_psteps (nth 2 fs nowhere)) _ (psteps_numbered (nth 2 fs nowhere)) (λ steps. tt))

-- a W line
w_numbered : (fs : List Part) → Numbered (parse_w fs)
unfolding parse_w
w_numbered fs = either_numbered (ltb (length fs) 7) (refused 14) _ (omega arith) (then_numbered (parse_wsteps (nth 6 fs nowhere)) _ (wsteps_numbered (nth 6 fs nowhere)) (λ steps. tt))

-- any line
pub line_numbered : (ids : List (List ℕ)) (p : Part) → Numbered (parse_line ids p)
unfolding parse_line parse_fields
line_numbered ids p =
    let fs = fields p in
    either_numbered (is_empty p.bytes) (accepted _) _ tt
    (either_numbered (starts_comment p.bytes) (accepted _) _ tt
    (either_numbered (same (field 0 fs) (72 ∷ [])) (accepted _) _ tt
    (either_numbered (same (field 0 fs) (83 ∷ [])) (parse_s ids p fs) _ (s_numbered ids p fs)
    (either_numbered (same (field 0 fs) (76 ∷ [])) (parse_l p fs) _ (l_numbered p fs)
    (either_numbered (same (field 0 fs) (80 ∷ [])) (parse_p fs) _ (p_numbered fs)
    (either_numbered (same (field 0 fs) (87 ∷ [])) (parse_w fs) (accepted _) (w_numbered fs) tt))))))

-- ---- a text

-- what a text holds, or a refusal by such a number
abbrev pub NumberedText : Parsed → Type 0
NumberedText (refused_at n line) = LineNumber n
NumberedText (parsed es) = Unit {0}

-- an entry in front
after_numbered : (e : Entry) (r : Parsed) → NumberedText r → NumberedText (after e r)
unfolding after
after_numbered e (refused_at n line) h = h
after_numbered e (parsed es) h = tt

-- a first line, and the lines behind it
onward_numbered : (number : ℕ) (r : Read Entry) (rest : Entry → Parsed) → Numbered r → ((e : Entry) → NumberedText (rest e)) → NumberedText (onward number r rest)
unfolding onward
onward_numbered number (refused n) rest h k = h
onward_numbered number (accepted e) rest h k = after_numbered e (rest e) (k e)

-- the lines of a text
lines_numbered : (number : ℕ) (ids : List (List ℕ)) (ps : List Part) → NumberedText (parse_lines number ids ps)
unfolding parse_lines
lines_numbered number ids [] = tt
lines_numbered number ids (p ∷ ps) =
    onward_numbered number (parse_line ids p) (λ e. parse_lines (suc number) (ids ++ id_of e) ps) (line_numbered ids p) (λ e. lines_numbered (suc number) (ids ++ id_of e) ps)

-- a text is refused by 5 to 17
pub parse_numbered : (text : List ℕ) → NumberedText (parse text)
unfolding parse
parse_numbered text = lines_numbered 1 [] (lines text)

-- ---- a call

-- a bad byte is refused by 2 or 3
bad_numbered : (at : ℕ) (s : List ℕ) (r : Refusal) → bad_byte at s ≡ Some r → (2 ≤ r.number) × (r.number ≤ 3)
unfolding bad_byte at_place
bad_numbered at [] r e = let z : ◌≡◌ {A = ℕ} 0 1 = cc in absurd (omega arith)
bad_numbered at (b ∷ []) r e =
    by_test (leb 128 b)
    (λ h. let n : r.number ≡ 2 = cc (rw h at e) in omega arith)
    (λ h. by_test (eqb b 13)
    (λ k. let n : r.number ≡ 3 = cc (rw (h, k) at e) in omega arith)
    (λ k. let z : ◌≡◌ {A = ℕ} 0 1 = cc (rw (h, k) at e) in absurd (omega arith)))
bad_numbered at (b ∷ (c ∷ s)) r e =
    by_test (leb 128 b)
    (λ h. let n : r.number ≡ 2 = cc (rw h at e) in omega arith)
    (λ h. by_test (eqb b 13 && not (eqb c 10))
    (λ k. let n : r.number ≡ 3 = cc (rw (h, k) at e) in omega arith)
    (λ k. bad_numbered (suc at) (c ∷ s) r (rw (h, k) at e)))

-- what a call gives, or a refusal by 1 to 17
abbrev pub NumberedInput : Input → Type 0
NumberedInput (Input.refusal r) = (1 ≤ r.number) × (r.number ≤ 17)
NumberedInput (entries es) = Unit {0}

-- a text that was parsed, or refused
parsed_numbered : (r : Parsed) → NumberedText r → NumberedInput (of_parsed r)
unfolding of_parsed on_line
parsed_numbered (refused_at n line) h = omega arith
parsed_numbered (parsed es) h = tt

-- a choice
input_either : (t : Bool) (x y : Input) → NumberedInput x → NumberedInput y → NumberedInput (cond t x y)
input_either true x y h k = h
input_either false x y h k = k

-- a text whose bytes were looked at
bytes_numbered : (o : Option Refusal) (text : List ℕ) (work : ℕ) → bad_byte 0 text ≡ o → NumberedInput (of_bytes o text work)
unfolding of_bytes plainly
bytes_numbered (Some r) text work e = let b = bad_numbered 0 text r e in omega arith
bytes_numbered None text work e = input_either (ltb work (4 * length text + 64)) (Input.refusal (plainly 4)) (of_parsed (parse text)) (omega arith) (parsed_numbered (parse text) (parse_numbered text))

-- a call is refused by 1 to 17, before anything is answered
pub input_numbered : (text : List ℕ) (work : ℕ) → NumberedInput (input text work)
unfolding input plainly
input_numbered text work = input_either (ltb 1048576 (length text)) (Input.refusal (plainly 1)) (of_bytes (bad_byte 0 text) text work) (omega arith) (bytes_numbered (bad_byte 0 text) text work refl)

-- ---- a step

-- what is spelt, or a bad step by 18 or 19
abbrev pub NumberedSpelt : Spelt → Type 0
NumberedSpelt (bad n name) = (18 ≤ n) × (n ≤ 19)
NumberedSpelt (spelt s) = Unit {0}

-- bytes in front
behind_numbered : (s : List ℕ) (r : Spelt) → NumberedSpelt r → NumberedSpelt (behind s r)
unfolding behind
behind_numbered s (bad n name) h = h
behind_numbered s (spelt t) h = tt

-- a step in front
step_numbered : (comp : ℕ → ℕ) (s : Step) (o : Option (List ℕ)) (r : Spelt) → NumberedSpelt r → NumberedSpelt (spell_step comp s o r)
unfolding spell_step
step_numbered comp s None r h = omega arith
step_numbered comp s (Some seq) r h =
    by_test (same seq star) (λ e. rw e (omega arith)) (λ e. rw e (behind_numbered (oriented comp s.orientation seq) r h))

-- a bad step is refused by 18 or 19
pub spell_numbered : (comp : ℕ → ℕ) (ss : List Segment) (steps : List Step) → NumberedSpelt (spell comp ss steps)
unfolding spell
spell_numbered comp ss [] = tt
spell_numbered comp ss (s ∷ steps) = step_numbered comp s (sequence_of ss s.name.bytes) (spell comp ss steps) (spell_numbered comp ss steps)

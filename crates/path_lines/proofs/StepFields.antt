-- The field of a path's new steps, step by step. Assumes nothing.
use Prim.Native.Nat.{ℕ, zero, suc, ◌+◌, ◌-◌, ◌<◌}
use native.Mathlib.Omega.{arith}
use mathlib.Core.Bool.{false, cond}
use mathlib.Core.List.{List, [], ◌∷◌, ◌++◌, map, map-append, append_assoc}
use mathlib.Core.Path.{◌≡◌, refl, sym, ◌∙◌}
use lib.Dec.{eqb}
use lib.ListN.{length, length-map}
use borrow.Author.Tests.{ne_eqb}
use Rattle.gfa_spec.specs.Bytes.{nth, star, is_empty, join, join_with}
use Rattle.gfa_spec.specs.Reading.{Kind, P, W}
use Rattle.normalize_spec.specs.Folding.{NewStep}
use Rattle.normalize_spec.specs.Writing.{p_token, w_token, step_field}
use Rattle.scan.specs.Orientations.{sign_of}
use Rattle.writers.specs.declared.writer.Writer.{Writer}
use Rattle.writers.specs.Writers.{Puts, pieces_to}
use Rattle.writers.proofs.Writing.{as_piece, ◌▷◌}
use Rattle.writers.proofs.Joining.{join_last, joined_first, led_last}
use Rattle.tables.specs.declared.kinds.PathKind.{PathKind}
use Rattle.tables.specs.declared.kinds.PathKind.TheVariants as kind
use Rattle.tables.specs.declared.path_steps.Steps.{Steps}
use Rattle.tables.specs.declared.tables.Counts.{Counts}
use Rattle.tables.specs.Paths.{kind_in}
use Rattle.normalize_tables.specs.declared.layout.Layout.{Layout}
use Rattle.normalize_tables.specs.declared.layout.Made.{Made}
use Rattle.normalize_tables.specs.declared.rows.NewStepWords.{NewStepWords}
use Rattle.normalize_tables.specs.NewByNumber.{new_step_no, new_steps_from, new_path_no, NewStepIs, NewPathIs, step_in}
use Rattle.normalize_tables.proofs.NewByNumber.{new_steps_next, new_steps_none, new_steps_split}
use Rattle.path_lines.specs.PathPieces.{token_of, token_piece}
use Rattle.writers.proofs.Rowing.{grown, table_length}

-- one item more behind others
pub joined_last : (b : ℕ) (xs : List (List ℕ)) (y : List ℕ) → 0 < length xs → join_with b (xs ++ (y ∷ [])) ≡ join_with b xs ++ (b ∷ y)
joined_last b [] y h = absurd (omega arith)
joined_last b (x ∷ xs) y h = rw (joined_first b x (xs ++ (y ∷ [])), joined_first b x xs, led_last, append_assoc)

-- ---- the steps of a path

module _ (names : List (List ℕ)) (w : List ℕ) (g : Layout) (first : ℕ) where
  -- the first n steps
  abbrev steps_of : ℕ → List NewStep
  steps_of n = new_steps_from names w g first (first + n)

  steps_zero : steps_of 0 ≡ []
  steps_zero = new_steps_none names w g first (first + 0) (omega arith)

  steps_more : (n : ℕ) → steps_of (n + 1) ≡ steps_of n ++ (new_step_no names w g (first + n) ∷ [])
  steps_more n =
      let k = first + n in
      let end : first + (n + 1) ≡ k + 1 = omega arith in
      rw (end, new_steps_split names w g first k (k + 1) (omega arith) (omega arith), new_steps_next names w g k (k + 1) (omega arith), new_steps_none names w g (k + 1) (k + 1) (omega arith))

  steps_grown : (n : ℕ) → steps_of (suc n) ≡ steps_of n ++ (new_step_no names w g (first + n) ∷ [])
  steps_grown n = grown steps_of (λ i. new_step_no names w g (first + i)) steps_zero steps_more n

  steps_length : (n : ℕ) → length (steps_of n) ≡ n
  steps_length n = table_length steps_of (λ i. new_step_no names w g (first + i)) steps_zero steps_more n

  -- the steps of a P line, with commas between them
  commas : (n : ℕ) → join_with 44 (map p_token (steps_of n)) ≡ pieces_to (token_piece P names w g first) n
  unfolding pieces_to
  commas zero = rw steps_zero (unfold join_with in refl)
  commas (suc zero) = rw (steps_grown 0, steps_zero) (unfold join_with token_piece token_of in refl)
  commas (suc (suc n)) =
      let front = map p_token (steps_of (suc n)) in
      let many : length front ≡ suc n = rw length-map (steps_length (suc n)) in
      let comma : 44 ∷ p_token (new_step_no names w g (first + suc n)) ≡ token_piece P names w g first (suc n) = unfold token_piece token_of in rw (ne_eqb (suc n) 0 (λ z. omega arith)) in
      rw (steps_grown (suc n), map-append, joined_last 44 front _ (omega arith), commas (suc n), comma)

  -- the steps of a W line, one behind the other
  marks : (n : ℕ) → join (map w_token (steps_of n)) ≡ pieces_to (token_piece W names w g first) n
  unfolding pieces_to
  marks zero = rw steps_zero (unfold join in refl)
  marks (suc n) = rw (steps_grown n, map-append, join_last (map w_token (steps_of n)), marks n) (unfold token_piece token_of in refl)

-- a list of some length is not empty
some_there : {A : Type 0} (xs : List A) → (length xs ≡ 0 → ⊥) → is_empty xs ≡ false
unfolding is_empty
some_there [] h = absurd (h refl)
some_there (x ∷ xs) h = refl

-- no steps are written `*` (42)
none_field : (k : Kind) → 42 ∷ [] ≡ step_field k []
unfolding step_field is_empty star
none_field P = refl
none_field W = refl

-- any others step by step
some_field : (k : Kind) (names : List (List ℕ)) (w : List ℕ) (g : Layout) (first n : ℕ) → (n ≡ 0 → ⊥) → pieces_to (token_piece k names w g first) n ≡ step_field k (steps_of names w g first n)
unfolding step_field
some_field P names w g first n h = rw (some_there (steps_of names w g first n) (λ z. h (sym (steps_length names w g first n) ∙ z))) (sym (commas names w g first n))
some_field W names w g first n h = rw (some_there (steps_of names w g first n) (λ z. h (sym (steps_length names w g first n) ∙ z))) (sym (marks names w g first n))

module _ (k : Kind) (names : List (List ℕ)) {work : List ℕ} {n : Counts} {g : Layout} {m : Made} {p : ℕ} {before after : Writer} {r : Steps} (q : NewPathIs work n g m p r) where
  pub none_put : r.first ≡ r.end → Puts before (42 ∷ []) after → Puts before (step_field k (new_path_no names work g p)) after
  none_put e v = rw (q.path names, new_steps_none names work g r.first r.end (omega arith), ← none_field k) v

  pub steps_put : (r.first ≡ r.end → ⊥) → Puts before (pieces_to (token_piece k names work g r.first) (r.end - r.first)) after
      → Puts before (step_field k (new_path_no names work g p)) after
  steps_put h v =
      let size = r.end - r.first in
      let some-steps : size ≡ 0 → ⊥ = λ z. h (omega (arith, r.ordered)) in
      let end : r.first + size ≡ r.end = omega (arith, r.ordered) in
      rw (q.path names, ← (rw end at (some_field k names work g r.first size some-steps))) v

-- ---- a step

module _ (names : List (List ℕ)) (s : NewStepWords) (k : ℕ) {before after : Writer} where
  -- of a P line
  pub token_p : {sign : ℕ} {x y : Writer} → sign ≡ sign_of s.mark → Puts before (cond (eqb k 0) [] (44 ∷ [])) x → Puts x (nth s.node names []) y
      → Puts y (sign ∷ []) after → Puts before (token_of P k (step_in names s)) after
  unfolding token_of p_token
  token_p e comma name end = rw (← e) (as_piece (simp append_assoc) (comma ▷ name ▷ end))

  -- of a W line
  pub token_w : {sign mark : ℕ} {x : Writer} → sign ≡ sign_of s.mark → mark ≡ cond (eqb sign 43) 62 60 → Puts before (mark ∷ []) x → Puts x (nth s.node names []) after
      → Puts before (token_of W k (step_in names s)) after
  unfolding token_of w_token
  token_w o e mark name = rw (← o, ← e) (mark ▷ name)

  -- of those from step `first` on, by the kind
  module _ {work : List ℕ} {n : Counts} {g : Layout} {m : Made} (first : ℕ) {t : PathKind} (q : NewStepIs work n g m (first + k) s) where
    pub token_of_p : t ≡ kind.P → Puts before (token_of P k (step_in names s)) after → Puts before (token_piece (kind_in t) names work g first k) after
    unfolding token_piece
    token_of_p e v = rw (e, q.step names) v

    pub token_of_w : t ≡ kind.W → Puts before (token_of W k (step_in names s)) after → Puts before (token_piece (kind_in t) names work g first k) after
    unfolding token_piece
    token_of_w e v = rw (e, q.step names) v

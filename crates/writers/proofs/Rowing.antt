-- The pieces of the rows of a table: the loop that puts them, one behind the other; and what they are where each row is a line or lines. Assumes nothing.
use Prim.Native.Nat.{ℕ, zero, suc, ◌+◌, ◌<◌}
use native.Mathlib.Numerals.{add-one}
use native.Mathlib.Omega.{arith}
use mathlib.Core.List.{List, [], ◌∷◌, ◌++◌, map, map-append}
use mathlib.Core.Path.{◌≡◌, refl}
use lib.ListN.{length, length-append}
use Rattle.gfa_spec.specs.Bytes.{join, end_line, ended}
use Rattle.writers.specs.declared.writer.Writer.{Writer}
use Rattle.writers.specs.Writers.{Puts, pieces_to}
use Rattle.writers.proofs.Writing.{◌▷◌, puts_nothing}
use Rattle.writers.proofs.Joining.{join_last, ended_append, ended_last}

module _ (piece : ℕ → List ℕ) where
  -- before the first row
  pub pieces_none : {w : Writer} → Puts w (pieces_to piece 0) w
  unfolding pieces_to
  pieces_none = puts_nothing

  -- a turn puts the piece of row i
  pub pieces_next : {before now after : Writer} {i : ℕ} → Puts before (pieces_to piece i) now → Puts now (piece i) after → Puts before (pieces_to piece (i + 1)) after
  unfolding pieces_to
  pieces_next w v = rw add-one (w ▷ v)

-- pieces that are the same row by row
pub pieces_same : (piece other : ℕ → List ℕ) (n : ℕ) → ((i : ℕ) → i < n → piece i ≡ other i) → pieces_to piece n ≡ pieces_to other n
unfolding pieces_to
pieces_same piece other zero h = refl
pieces_same piece other (suc n) h = rw (pieces_same piece other n (λ i l. h i (omega arith)), h n (omega arith))

-- ---- a table that grows row by row

module _ {A : Type 0} (table : ℕ → List A) (row : ℕ → A) (none : table 0 ≡ []) (more : (i : ℕ) → table (i + 1) ≡ table i ++ (row i ∷ [])) where
  pub grown : (n : ℕ) → table (suc n) ≡ table n ++ (row n ∷ [])
  grown n = rw (← add-one n) (more n)

  pub table_length : (n : ℕ) → length (table n) ≡ n
  table_length zero = rw none
  table_length (suc n) = rw (grown n, length-append, table_length n) (omega arith)

  -- lines for each row
  pub pieces_many : (f : A → List (List ℕ)) (n : ℕ) → ended (join (map f (table n))) ≡ pieces_to (λ i. ended (f (row i))) n
  unfolding pieces_to
  pieces_many f zero = rw none (unfold ended join in refl)
  pieces_many f (suc n) = rw (grown n, map-append, join_last (map f (table n)), ended_append, pieces_many f n)

  -- one line for each row
  pub pieces_lines : (f : A → List ℕ) (n : ℕ) → ended (map f (table n)) ≡ pieces_to (λ i. end_line (f (row i))) n
  unfolding pieces_to
  pieces_lines f zero = rw none (unfold ended join in refl)
  pieces_lines f (suc n) = rw (grown n, map-append, ended_last (map f (table n)), pieces_lines f n)

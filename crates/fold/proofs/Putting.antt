-- Rows of new steps are put behind the others. Assumes nothing.
use Prim.Native.Nat.{ℕ, zero, suc, ◌+◌, ◌≤◌, ◌<◌}
use native.Mathlib.Decide.{dec_lt}
use native.Mathlib.Omega.{arith}
use mathlib.Core.Bool.{true}
use mathlib.Core.List.{List, []}
use mathlib.Core.Path.{◌≡◌, refl, ◌∙◌}
use lib.ListN.{length}
use Rattle.gfa_spec.specs.Bytes.{nth, copies}
use Rattle.gfa_spec.specs.Reading.{Segment, is_orientation}
use Rattle.normalize_spec.specs.Folding.{NewStep}
use Rattle.scan.specs.Orientations.{sign_of}
use Rattle.scan.proofs.Orientations.{sign_is}
use Rattle.tables.specs.declared.tables.Bases.{Bases}
use Rattle.tables.specs.declared.tables.Counts.{Counts}
use Rattle.normalize_tables.specs.declared.layout.Layout.{Layout}
use Rattle.normalize_tables.specs.declared.layout.Made.{Made}
use Rattle.normalize_tables.specs.declared.rows.NewStepWords.{NewStepWords}
use Rattle.normalize_tables.specs.Layout.{Placed}
use Rattle.normalize_tables.specs.News.{first_of, step_words, names_at, new_step_at}
use Rattle.normalize_tables.specs.NewByNumber.{new_step_no, new_steps_from, StepRoom, StepRowsTo, KeptTo, SegmentsKept}
use Rattle.normalize_tables.proofs.NewByNumber.{steps_put_low, steps_put_paths, steps_put_segments, steps_put_steps, steps_put_behind, new_steps_next, new_steps_none}
use Rattle.normalize_tables.proofs.NewsKept.{news_kept, names_kept, step_rows_kept}
use Rattle.new_segs.specs.Makes.{made_at, Making, Frame}
use Rattle.fold.specs.Turns.{EqualStepsPut, Stage}
use Rattle.new_segs.proofs.Keeping.{kept_less, of_text, making_kept}

-- ---- the rows

-- The state at i: the first i rows are put.
pub record Putting (first work : List ℕ) (g : Layout) (k : ℕ) (r : NewStepWords) (count i : ℕ) : Type 0 where
  pub room : StepRoom work g (k + count)
  pub small : r.node < 4294967296
  pub high : i ≤ count
  pub put : EqualStepsPut first work g k r i

-- ---- what the tables say then

-- new steps that are all the same
steps_constant : (names : List (List ℕ)) (w : List ℕ) (g : Layout) (k c : ℕ) (x : NewStep) → ((i : ℕ) → k ≤ i → i < k + c → new_step_no names w g i ≡ x) → new_steps_from names w g k (k + c) ≡ copies c x
steps_constant names w g k zero x h = new_steps_none names w g k (k + 0) (omega arith) ∙ (unfold copies in refl)
steps_constant names w g k (suc c) x h =
    new_steps_next names w g k (k + suc c) (omega arith)
    ∙ (let place : k + suc c ≡ k + 1 + c = omega arith in
    rw (h k (omega arith) (omega arith), place, steps_constant names w g (k + 1) c x (λ i l b. h i (omega arith) (omega arith))) (unfold copies in refl))

module _ {text w w' : List ℕ} {b : Bases} {n : Counts} {g : Layout} {m : Made} {r : NewStepWords} {c : ℕ} (s : Stage text w b n g m) (room : m.steps + c ≤ n.steps)
    (u : EqualStepsPut w w' g m.steps r c) where
  placed : Placed b n g (length w)
  placed = s.making.source.placed

  put_low : KeptTo g.last w w'
  put_low = kept_less g.last (steps_put_low placed m.steps (m.steps + c) u.only) (omega (arith, placed.paths))

  put_segs : SegmentsKept g m.segs w w'
  put_segs = steps_put_segments placed m.steps (m.steps + c) u.only m.segs s.making.half

  put_making : Making text w' b n g (first_of m.first) m.segs
  put_making = making_kept s.making (steps_put_low placed m.steps (m.steps + c) u.only) put_segs u.long

  pub put_names : names_at text w' b n g (first_of m.first) m.segs ≡ names_at text w b n g (first_of m.first) m.segs
  put_names = names_kept s.making.source (of_text s.making.source put_low) (first_of m.first) s.making.rows put_segs

  pub put_made : (ss : List Segment) → made_at ss text w' b g (first_of m.first) m.segs ≡ made_at ss text w b g (first_of m.first) m.segs
  unfolding made_at
  put_made ss = rw (news_kept s.making.source (of_text s.making.source put_low) (first_of m.first) s.making.rows put_segs)

  pub put_frame : Frame g n.paths m.steps w w'
  put_frame =
      record {
        long = u.long;
        low = put_low;
        paths = steps_put_paths placed m.steps (m.steps + c) u.only;
        steps = steps_put_steps g m.steps (m.steps + c) u.only;
        high = steps_put_behind placed m.steps (m.steps + c) u.only room;
      }

  pub put_steps_are : new_steps_from (names_at text w' b n g (first_of m.first) m.segs) w' g m.steps (m.steps + c)
      ≡ copies c (record { name = nth r.node (names_at text w b n g (first_of m.first) m.segs) []; orientation = sign_of r.mark })
  put_steps_are =
      steps_constant (names_at text w' b n g (first_of m.first) m.segs) w' g m.steps c (record { name = nth r.node (names_at text w b n g (first_of m.first) m.segs) []; orientation = sign_of r.mark })
      (λ i l h. unfold new_step_at in rw (u.nodes i l h, u.marks i l h, put_names))

  pub put_stage : (runs changed : ℕ) → r.node < n.segs + m.segs
      → Stage text w' b n g (record { first = m.first; segs = m.segs; steps = m.steps + c; runs = runs; changed = changed })
  put_stage runs changed l = record { making = put_making; steps = record { row = λ i h. record { node = (row i h (dec_lt i m.steps)).0; mark = (row i h (dec_lt i m.steps)).1 } } }
    where
      old : StepRowsTo (n.segs + m.segs) w' g m.steps
      old = step_rows_kept g (n.segs + m.segs) s.steps put_frame.steps (omega arith)

      row : (i : ℕ) → i < m.steps + c → Dec (i < m.steps) → ((step_words w' g i).node < n.segs + m.segs) × (is_orientation (step_words w' g i).mark ≡ true)
      row i h (yes k) = ((old.row i k).node, (old.row i k).mark)
      row i h (no k) = (rw (u.nodes i (omega arith) h) l, rw (u.marks i (omega arith) h) (sign_is r.mark))

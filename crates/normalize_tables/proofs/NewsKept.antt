-- The new segments, steps and paths stay where their rows do, and the tables of the text. Assumes nothing.
use Prim.Native.Nat.{ℕ, ◌+◌, ◌*◌, ◌≤◌, ◌<◌}
use native.Mathlib.Omega.{arith}
use mathlib.Core.List.{List}
use mathlib.Core.Path.{◌≡◌, sym, ◌∙◌}
use Rattle.work.proofs.Rows.{rows_kept, each_kept}
use Rattle.tables.specs.declared.tables.Bases.{Bases}
use Rattle.tables.specs.declared.tables.Counts.{Counts}
use Rattle.tables.proofs.ByNumber.{TablesKept, segment_stands}
use Rattle.normalize_tables.specs.declared.layout.Layout.{Layout}
use Rattle.normalize_tables.specs.Layout.{Source}
use Rattle.normalize_tables.specs.News.{segment_words, step_words, path_words, new_at, news_at, names_at, Agree, Suffixed, new_step_at}
use Rattle.normalize_tables.specs.NewByNumber.{new_step_no, new_steps_from, new_path_no, new_paths_to, SegmentRows, StepRowsTo, PathRowsTo, SegmentsKept, StepsKept, PathsKept}
use Rattle.normalize_tables.proofs.NewByNumber.{unit_kept, count_kept, suffix_kept, node_kept, mark_kept, first_kept, end_kept, new_steps_alike, new_paths_alike, new_path_is}
use Rattle.normalize_tables.proofs.Sources.{standing}

-- ---- new segments

pub segment_rows_kept : {w w' : List ℕ} (n : Counts) (g : Layout) {q : ℕ} → SegmentRows w n g q → SegmentsKept g q w w' → SegmentRows w' n g q
segment_rows_kept n g rows k =
    each_kept rows
    (λ j h r. record { unit = rw (unit_kept g k j h) r.unit; count = rw (count_kept g k j h) r.count; suffix = rw (suffix_kept g k j h) r.suffix })

module _ {text w w' : List ℕ} {b : Bases} {n : Counts} {g : Layout} (s : Source text w b n g) (t : TablesKept b n w w') {q : ℕ} (first : ℕ) (rows : SegmentRows w n g q)
    (k : SegmentsKept g q w w') where
  pub new_kept : (j : ℕ) → j < q → new_at text b g first w' j ≡ new_at text b g first w j
  unfolding new_at
  new_kept j h = rw (unit_kept g k j h, count_kept g k j h, suffix_kept g k j h, segment_stands s.readable t (segment_words w g j).unit.0 (rows.row j h).unit)

  pub news_kept : news_at text w' b g first q ≡ news_at text w b g first q
  unfolding news_at
  news_kept = rows_kept (new_at text b g first) 1 0 q (λ j h. let place : 0 + 1 * j ≡ j = omega arith in rw place (new_kept j h))

  pub names_kept : names_at text w' b n g first q ≡ names_at text w b n g first q
  unfolding names_at
  names_kept = rw ((standing s t).of_segments, news_kept)

  pub suffixed_kept : Suffixed text w b n g first q → Suffixed text w' b n g first q
  suffixed_kept f =
      record {
        taken = λ j i h l m. rw (new_kept j h, names_kept) (f.taken j i h l (rw (suffix_kept g k j h) at m));
        rising = λ i j h l m u c. let low : i < q = omega arith in
            rw (suffix_kept g k i low, suffix_kept g k j l) (f.rising i j h l m (rw (new_kept i low, new_kept j l) at u) (rw (new_kept i low, new_kept j l) at c));
      }

-- ---- new steps and new paths

-- where the names of so many nodes are the same
module _ {names names' : List (List ℕ)} {nodes : ℕ} (a : Agree nodes names names') {w w' : List ℕ} (g : Layout) {t : ℕ} (k : StepsKept g t w w')
    (rows : StepRowsTo nodes w g t) where
  new_step_kept : (i : ℕ) → i < t → new_step_no names' w' g i ≡ new_step_no names w g i
  unfolding new_step_at
  new_step_kept i h = rw (node_kept g k i h, mark_kept g k i h, a.same_name (step_words w g i).node (rows.row i h).node)

  pub new_steps_kept : (i end : ℕ) → i ≤ end → end ≤ t → new_steps_from names' w' g i end ≡ new_steps_from names w g i end
  new_steps_kept i end l h = new_steps_alike names names' w w' g i end (λ j a b. new_step_kept j (omega arith))

  pub new_paths_kept : (p : ℕ) → PathsKept g p w w' → PathRowsTo t w g p → new_paths_to names' w' g p ≡ new_paths_to names w g p
  new_paths_kept p l e = new_paths_alike names names' w w' g p path
    where
      path : (i : ℕ) → i < p → new_path_no names' w' g i ≡ new_path_no names w g i
      path i h =
          new_path_is names' w' g i
          ∙ rw (end_kept g l i h, first_kept g l i h) (new_steps_kept (path_words w g i).first (path_words w g i).end (omega arith) (e.row i h).steps)
          ∙ sym (new_path_is names w g i)

-- their rows are kept, where there are more nodes too
pub step_rows_kept : {w w' : List ℕ} (g : Layout) {t nodes : ℕ} (more : ℕ) → StepRowsTo nodes w g t → StepsKept g t w w' → nodes ≤ more
    → StepRowsTo more w' g t
step_rows_kept g more e k l =
    record { row = λ i h. let r = e.row i h in record { node = rw (node_kept g k i h) (omega (arith, r.node)); mark = rw (mark_kept g k i h) r.mark } }

pub path_rows_kept : {w w' : List ℕ} (g : Layout) {p t : ℕ} (more : ℕ) → PathRowsTo t w g p → PathsKept g p w w' → t ≤ more → PathRowsTo more w' g p
path_rows_kept g more e k l = record { row = λ i h. record { steps = rw (end_kept g k i h) (omega (arith, (e.row i h).steps)) } }

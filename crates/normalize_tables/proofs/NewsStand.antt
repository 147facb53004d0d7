-- The new segments, steps and paths stay where only words from the added links on change. Assumes nothing.
use Prim.Native.Nat.{ℕ, ◌+◌, ◌*◌, ◌≤◌}
use native.Mathlib.Omega.{arith}
use mathlib.Core.List.{List}
use mathlib.Core.Path.{◌≡◌, refl}
use lib.ListN.{length}
use Rattle.work.proofs.Rows.{KeptWords, kept_within, rows_kept}
use Rattle.tables.specs.declared.tables.Bases.{Bases}
use Rattle.tables.specs.declared.tables.Counts.{Counts}
use Rattle.tables.specs.ByNumber.{tables_end}
use Rattle.tables.proofs.ByNumber.{TablesKept}
use Rattle.normalize_tables.specs.declared.layout.Layout.{Layout}
use Rattle.normalize_tables.specs.declared.layout.Made.{Made}
use Rattle.normalize_tables.specs.Layout.{Placed, Source}
use Rattle.normalize_tables.specs.News.{first_of, news_at, names_at, new_step_at, new_steps_at}
use Rattle.normalize_tables.specs.NewByNumber.{new_paths_to, Named, SegmentRows, SegmentsKept, StepsKept, PathsKept}
use Rattle.normalize_tables.specs.Rewritten.{NewRows}
use Rattle.normalize_tables.proofs.Sources.{source_stands}
use Rattle.normalize_tables.proofs.NewByNumber.{segments_words, steps_words, paths_words}
use Rattle.normalize_tables.proofs.NewsKept.{segment_rows_kept, step_rows_kept, path_rows_kept, new_paths_kept, news_kept as news-stay, names_kept as names-stay}

-- ---- steps

module _ {lo hi : ℕ} {w w' : List ℕ} (k : KeptWords lo hi w w') (names : List (List ℕ)) where
  pub new_step_kept : (at : ℕ) → lo ≤ at → at + 2 ≤ hi → new_step_at names w' at ≡ new_step_at names w at
  unfolding new_step_at
  new_step_kept at l h = rw (k.word at l (omega arith), k.word (at + 1) (omega arith) (omega arith))

  pub new_steps_kept : (base n : ℕ) → lo ≤ base → base + 2 * n ≤ hi → new_steps_at names w' base n ≡ new_steps_at names w base n
  unfolding new_steps_at
  new_steps_kept base n l h = rows_kept (new_step_at names) 2 base n (λ i a. new_step_kept (base + 2 * i) (omega arith) (omega arith))

-- ---- rows

module _ {w w' : List ℕ} {b : Bases} {n : Counts} {g : Layout} {m : Made} {size : ℕ} (p : Placed b n g size) (k : KeptWords 0 g.added w w') (r : NewRows w n g m) where
  segments_stay : SegmentsKept g m.segs w w'
  segments_stay = segments_words g m.segs (kept_within g.segs (g.segs + 4 * m.segs) k (omega arith) (omega (arith, r.half)))

  steps_stay : StepsKept g m.steps w w'
  steps_stay = steps_words g m.steps (kept_within g.steps (g.steps + 2 * m.steps) k (omega arith) (omega (arith, r.few)))

  paths_stay : PathsKept g n.paths w w'
  paths_stay = paths_words g n.paths (kept_within g.paths (g.paths + 2 * n.paths) k (omega arith) (omega arith))

  pub new_rows_kept : NewRows w' n g m
  new_rows_kept =
      record {
        few = r.few;
        half = r.half;
        segs = segment_rows_kept n g r.segs segments_stay;
        steps = step_rows_kept g (n.segs + m.segs) r.steps steps_stay (omega arith);
        paths = path_rows_kept g m.steps r.paths paths_stay (omega arith);
      }

  pub paths_kept : (names : List (List ℕ)) → new_paths_to names w' g n.paths ≡ new_paths_to names w g n.paths
  paths_kept names = new_paths_kept (record { same_name = λ i h. refl }) g steps_stay r.steps n.paths paths_stay r.paths

-- ---- the tables

module _ {text w w' : List ℕ} {b : Bases} {n : Counts} {g : Layout} (s : Source text w b n g) (k : KeptWords 0 g.added w w') where
  -- the tables of the text are before them
  pub front_kept : TablesKept b n w w'
  front_kept = let p = s.placed in kept_within b.lines (tables_end b n) k (omega arith) (omega arith)

  pub source_kept : length w' ≡ length w → Source text w' b n g
  source_kept e = source_stands s front_kept e

  -- the new segments
  pub news_kept : (first q : ℕ) → 2 * q ≤ n.steps → SegmentRows w n g q → news_at text w' b g first q ≡ news_at text w b g first q
  news_kept first q h e =
      let p = s.placed in
      news-stay s front_kept first e (segments_words g q (kept_within g.segs (g.segs + 4 * q) k (omega arith) (omega arith)))

  module _ {m : Made} (r : NewRows w n g m) where
    pub names_kept : names_at text w' b n g (first_of m.first) m.segs ≡ names_at text w b n g (first_of m.first) m.segs
    names_kept = names-stay s front_kept (first_of m.first) r.segs (segments_stay s.placed k r)

-- ---- a graph whose paths are transformed

module _ {text work : List ℕ} {b : Bases} {n : Counts} {g : Layout} {m : Made} where
  -- its nodes may be named
  pub nodes_named : Source text work b n g → NewRows work n g m → Named text work b n g m.segs
  nodes_named s r = let p = s.placed in record { readable = s.readable; room = omega (arith, r.half); few = omega (arith, r.few); rows = r.segs }

-- The transformation, run by run and path by path: what is done, and what is left. Assumes nothing.
use mathlib.Core.List.{List, [], ◌∷◌, ◌++◌, append_assoc, append-nil}
use mathlib.Core.Path.{◌≡◌, refl}
use Rattle.gfa_spec.specs.Reading.{Segment, Path}
use Rattle.gfa_spec.specs.Runs.{Run, runs}
use Rattle.normalize_spec.specs.Folding.{Made, NewStep, Transformed, AllTransformed, turn, transform_runs, transform_paths}

-- ---- a path

-- steps that stand before what the runs behind them become
unfoldable pub before : List NewStep → Transformed → Transformed
before done t = record { made = t.made; steps = done ++ t.steps }

module _ (ss fs : List Segment) where
  -- nothing is done
  pub runs_start : (rs : List Run) (made : Made) → transform_runs ss fs rs made ≡ before [] (transform_runs ss fs rs made)
  unfolding before
  runs_start rs made = refl

  -- one run more is done
  pub runs_more : (done : List NewStep) (r : Run) (rs : List Run) (made : Made)
      → before done (transform_runs ss fs (r ∷ rs) made) ≡ before (done ++ (turn ss fs r made).steps) (transform_runs ss fs rs (turn ss fs r made).made)
  unfolding before transform_runs
  runs_more done r rs made = rw append_assoc

  -- all runs are done
  pub runs_end : (done : List NewStep) (made : Made) → before done (transform_runs ss fs [] made) ≡ record { made = made; steps = done }
  unfolding before transform_runs
  runs_end done made = rw append-nil

-- ---- all paths

-- new paths that stand before what the paths behind them become
unfoldable pub before_paths : List (List NewStep) → AllTransformed → AllTransformed
before_paths done t = record { made = t.made; paths = done ++ t.paths }

module _ (ss fs : List Segment) where
  -- nothing is done
  pub paths_start : (ps : List Path) (made : Made) → transform_paths ss fs ps made ≡ before_paths [] (transform_paths ss fs ps made)
  unfolding before_paths
  paths_start ps made = refl

  -- one path more is done
  pub paths_more : (done : List (List NewStep)) (p : Path) (ps : List Path) (made : Made)
      → before_paths done (transform_paths ss fs (p ∷ ps) made)
      ≡ before_paths (done ++ ((transform_runs ss fs (runs p.steps) made).steps ∷ [])) (transform_paths ss fs ps (transform_runs ss fs (runs p.steps) made).made)
  unfolding before_paths transform_paths
  paths_more done p ps made = rw append_assoc

  -- all paths are done
  pub paths_end : (done : List (List NewStep)) (made : Made) → before_paths done (transform_paths ss fs [] made) ≡ record { made = made; paths = done }
  unfolding before_paths transform_paths
  paths_end done made = rw append-nil

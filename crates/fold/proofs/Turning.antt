-- What a run becomes in the tables. Assumes nothing.
use Prim.Native.Nat.{ℕ, ◌+◌, ◌≤◌, ◌<◌}
use native.Mathlib.Omega.{arith}
use mathlib.Core.Bool.{Bool, true, false}
use mathlib.Core.List.{List, []}
use Rattle.std.specs.Prelude.{Option, None, Some}
use mathlib.Core.Path.{◌≡◌, refl, sym, ◌∙◌}
use lib.ListN.{length}
use Rattle.gfa_spec.specs.Bytes.{nth, copies}
use Rattle.gfa_spec.specs.Reading.{Segment}
use Rattle.gfa_spec.specs.Records.{segment_number}
use Rattle.gfa_spec.specs.Runs.{Run, is_repeat, bit}
use Rattle.normalize_spec.specs.Folding.{is_folded_run, made_for, onto, as_new, fold_run, keep_run, turn}
use Rattle.scan.specs.declared.orientation.Orientation.{Orientation}
use Rattle.scan.specs.declared.places.Place.{Place}
use Rattle.scan.specs.Orientations.{sign_of}
use Rattle.scan.specs.Places.{part_at, bytes_in}
use Rattle.tables.specs.declared.tables.Bases.{Bases}
use Rattle.tables.specs.declared.tables.Counts.{Counts}
use Rattle.tables.specs.declared.rows.StepWords.{StepWords}
use Rattle.tables.specs.declared.entry.SegmentNo.{SegmentNo}
use Rattle.tables.specs.ByNumber.{segment_no, step_no, segments_of, StepIs, NamedIs}
use Rattle.tables.proofs.Named.{named_number, named_below, unnamed_number}
use Rattle.normalize_tables.specs.declared.layout.Layout.{Layout}
use Rattle.normalize_tables.specs.declared.layout.Made.{Made}
use Rattle.normalize_tables.specs.News.{first_of, new_at, names_at}
use Rattle.normalize_tables.proofs.NewsKept.{step_rows_kept}
use Rattle.normalize_tables.specs.NewByNumber.{StepRoom}
use Rattle.new_segs.specs.Chains.{MadeIs}
use Rattle.new_segs.specs.Makes.{made_at, Frame, SegmentMade}
use Rattle.fold.specs.Turns.{EqualStepsPut, FoldedIs, KnownIn, KnownStep, UnitIs, Folds, Stage, Room, stands_at, OnUnit, TargetIs, FoldIs, KeepIs, TurnIs}
use Rattle.new_segs.proofs.Lookups.{number_name}
use Rattle.fold.proofs.Growing.{names_same, frame_none, frame_less, frame_then}
use Rattle.fold.proofs.Finding.{made_found, made_none, name_of_unit, name_of_new}
use Rattle.fold.proofs.Putting.{put_names, put_made, put_frame, put_steps_are, put_stage}

-- ---- the segment of a step

-- the name of a step that is known
pub step_known : {text work : List ℕ} {b : Bases} (n : Counts) {i : ℕ} {s : StepWords} → KnownStep text work b n i → StepIs text work b i s
    → KnownIn (segments_of text work b n) (bytes_in text s.name)
unfolding part_at
step_known n k q = rw q.step at k

-- the segment of a name that is known
module _ {text work : List ℕ} {b : Bases} {n : Counts} {name : Place} {r : Option SegmentNo} (q : NamedIs text work b n name r) where
  pub unit_named : {k : ℕ} → r ≡ Some (record { 0 = k }) → UnitIs text work b n name k
  unit_named e = record { is = named_number q e; below = named_below q e }

  pub unit_missing : KnownIn (segments_of text work b n) (bytes_in text name) → r ≡ None → ⊥
  unit_missing k e = let z : ◌≡◌ {A = ℕ} 0 1 = cc (k.is, unnamed_number q e) in omega arith

pub ruleset units = (unit_named, unit_missing)

-- ---- a run that is folded

module _ {text w : List ℕ} {b : Bases} {n : Counts} {g : Layout} {m : Made} {unit count : ℕ} {r : Option ℕ} (s : Stage text w b n g m) (room : Room n m count) (h : unit < n.segs) (two : 2 ≤ count)
    (f : MadeIs w g m.segs unit count r) where
  -- there is room for a step behind the others
  step_room : (w' : List ℕ) → length w' ≡ length w → StepRoom w' g (m.steps + 1)
  step_room w' e = let p = s.making.source.placed in omega (arith, p.added, p.ends, p.room, room.few)

  step_small : {node : ℕ} → node ≤ n.segs + m.segs → (node < 4294967296) × (m.steps < 4294967296) × (m.runs < 4294967296)
  step_small l = let k = s.making.source.readable.few in (omega (arith, k.1, k.4, s.making.half), omega (arith, k.4, room.few), omega (arith, k.4, room.runs))

  module _ {j : ℕ} (z : r ≡ Some j) where
    -- its node's number fits
    pub target_fits : n.segs + j < 18446744073709551616
    target_fits = omega (arith, (f.on j z).0, (step_small {node = n.segs + m.segs} (omega arith)).0)

    made_folded : (run : Run) → run.step.name.bytes ≡ (segment_no text w b unit).id → run.count ≡ count
        → fold_run (segments_of text w b n) run (made_at (segments_of text w b n) text w b g (first_of m.first) m.segs)
        ≡ onto run (nth (n.segs + j) (names_at text w b n g (first_of m.first) m.segs) []) (made_at (segments_of text w b n) text w b g (first_of m.first) m.segs)
    unfolding fold_run
    made_folded run e c =
        let found : made_for run.step.name.bytes run.count (made_at (segments_of text w b n) text w b g (first_of m.first) m.segs).new ≡ Some (new_at text b g (first_of m.first) w j).id =
        unfold made_at in rw (e, c) (made_found s.making unit count h f z) in
        rw (found, fold_run, name_of_new text w b n g (first_of m.first) m.segs j (f.on j z).0)

    -- its segment was made
    pub target_made : TargetIs text w w b n g m unit count (n.segs + j) m.segs
    target_made =
        record {
          stage = record { making = s.making; steps = s.steps };
          fits = omega (arith, (f.on j z).0);
          more = (omega arith, omega arith);
          names = record { same_name = λ k i. refl };
          frame = frame_none;
          folded = made_folded;
          room = step_room w refl;
          small = step_small (omega (arith, (f.on j z).0));
        }

  module _ (z : r ≡ None) where
    new_folded : {v : List ℕ} → SegmentMade text w v b n g (first_of m.first) m.segs unit count → (run : Run) → run.step.name.bytes ≡ (segment_no text w b unit).id → run.count ≡ count
        → fold_run (segments_of text w b n) run (made_at (segments_of text w b n) text w b g (first_of m.first) m.segs)
        ≡ onto run (nth (n.segs + m.segs) (names_at text v b n g (first_of m.first) (m.segs + 1)) []) (made_at (segments_of text w b n) text v b g (first_of m.first) (m.segs + 1))
    unfolding fold_run
    new_folded {v} a run e c =
        let ss = segments_of text w b n in
        let none_found : made_for run.step.name.bytes run.count (made_at ss text w b g (first_of m.first) m.segs).new ≡ None =
        unfold made_at in rw (e, c) (made_none s.making unit count h f z) in
        rw (none_found, fold_run, name_of_new text v b n g (first_of m.first) (m.segs + 1) m.segs (omega arith), a.new run e c, a.made run e c)

    -- there is none: a new one is made
    pub target_new : {v : List ℕ} → SegmentMade text w v b n g (first_of m.first) m.segs unit count → TargetIs text w v b n g m unit count (n.segs + m.segs) (m.segs + 1)
    target_new {v} a =
        record {
          stage = record { making = a.making; steps = step_rows_kept g (n.segs + (m.segs + 1)) s.steps frame.steps (omega arith) };
          fits = omega arith;
          more = (omega arith, omega arith);
          names = a.names;
          frame = frame;
          folded = new_folded a;
          room = step_room v a.frame.long;
          small = step_small (omega arith);
        }
      where
        frame : Frame g n.paths m.steps w v
        frame = frame_less n.paths m.steps a.frame (omega arith) (omega (arith, room.few))

-- a step on it
module _ {text w v w' : List ℕ} {b : Bases} {n : Counts} {g : Layout} {m : Made} {unit count node segs : ℕ} {mark : Orientation} (room : Room n m count) (two : 2 ≤ count)
    (a : TargetIs text w v b n g m unit count node segs) (u : EqualStepsPut v w' g m.steps (record { node = node; mark = mark }) 1) where
  fits : m.steps + 1 ≤ n.steps
  fits = omega (arith, room.few)

  pub fold_is : FoldIs text w w' b n g m unit count (sign_of mark) (record { first = m.first; segs = segs; steps = m.steps + 1; runs = m.runs + 1; changed = m.changed })
  fold_is =
      record {
        grown =
            record {
              stage = put_stage a.stage fits u (m.runs + 1) m.changed a.fits;
              first = refl;
              low = (a.more.0, omega arith, omega arith);
              few = omega (arith, a.more);
              half = omega (arith, a.more);
              runs = omega arith;
              names = record { same_name = λ k l. rw (put_names a.stage fits u) (a.names.same_name k l) };
              frame = frame_then a.frame (put_frame a.stage fits u);
            };
        changed = refl;
        runs = refl;
        folded = folded;
      }
    where
      folded : (run : Run) → OnUnit text w b unit count (sign_of mark) run
          → fold_run (segments_of text w b n) run (made_at (segments_of text w b n) text w b g (first_of m.first) m.segs)
          ≡ stands_at (segments_of text w b n) text w' b n g (record { first = m.first; segs = segs; steps = m.steps + 1; runs = m.runs + 1; changed = m.changed }) m.steps
      folded run q =
          a.folded run q.name q.times
          ∙ (unfold stands_at onto in rw (put_made a.stage fits u (segments_of text w b n), put_steps_are a.stage fits u, q.orientation) (unfold copies in refl))

-- ---- a run that is kept

module _ {text w w' : List ℕ} {b : Bases} {n : Counts} {g : Layout} {m : Made} {unit count : ℕ} {mark : Orientation} (s : Stage text w b n g m) (room : Room n m count) (h : unit < n.segs) where
  module _ (u : EqualStepsPut w w' g m.steps (record { node = unit; mark = mark }) count) where
    keep_fits : m.steps + count ≤ n.steps
    keep_fits = omega (arith, room.few)

    keep_steps : (run : Run) → OnUnit text w b unit count (sign_of mark) run
        → keep_run run (made_at (segments_of text w b n) text w b g (first_of m.first) m.segs)
        ≡ stands_at (segments_of text w b n) text w' b n g (record { first = m.first; segs = m.segs; steps = m.steps + count; runs = m.runs; changed = m.changed }) m.steps
    unfolding keep_run as_new stands_at
    keep_steps run q =
        rw (put_made s keep_fits u (segments_of text w b n), put_steps_are s keep_fits u, name_of_unit text w b n g (first_of m.first) m.segs unit h, q.name, q.times, q.orientation)

    pub keep_is : KeepIs text w w' b n g m unit count (sign_of mark) (record { first = m.first; segs = m.segs; steps = m.steps + count; runs = m.runs; changed = m.changed })
    keep_is =
        record {
          grown =
              record {
                stage = put_stage s keep_fits u m.runs m.changed (omega arith);
                first = refl;
                low = (omega arith, omega arith, omega arith);
                few = omega arith;
                half = omega arith;
                runs = omega arith;
                names = names_same (put_names s keep_fits u);
                frame = put_frame s keep_fits u;
              };
          changed = refl;
          runs = refl;
          kept = keep_steps;
        }

-- ---- a run

-- the run of `count` steps from step i on
abbrev run_at : List ℕ → List ℕ → Bases → ℕ → ℕ → Run
run_at text w b i count = record { step = step_no text w b i; count = count }

module _ {text w : List ℕ} {b : Bases} {n : Counts} {i unit : ℕ} {x : StepWords} {t : Bool} {g : Layout} {count : ℕ} (e : StepIs text w b i x) (u : UnitIs text w b n x.name unit)
    (f : FoldedIs w g unit count t) where
  number_is : segment_number (segments_of text w b n) (step_no text w b i).name.bytes ≡ Some unit
  unfolding part_at
  number_is = rw e.step u.is

  on_unit : OnUnit text w b unit count (sign_of x.mark) (run_at text w b i count)
  on_unit = record { name = number_name text w b n unit u.below (step_no text w b i).name.bytes number_is; times = refl; orientation = rw e.step }

  by_marks : (ss fs : List Segment) → Folds ss fs text w b n g → is_folded_run fs (run_at text w b i count) ≡ t
  unfolding is_repeat
  by_marks ss fs F = F.marks unit (run_at text w b i count) (rw F.segs at number_is) u.below ∙ sym f.answer

  -- that is folded
  pub turn_folded : {w' : List ℕ} {m r : Made} → t ≡ true → FoldIs text w w' b n g m unit count (sign_of x.mark) r → TurnIs text w w' b n g m i count r
  turn_folded {w'} {m} {r} y q = record { grown = q.grown; changed = q.changed; turned = turned; runs = λ ss fs F. q.runs ∙ rw (by_marks ss fs F, y) (unfold bit in refl) }
    where
      turned : (ss fs : List Segment) → Folds ss fs text w b n g → turn ss fs (run_at text w b i count) (made_at ss text w b g (first_of m.first) m.segs) ≡ stands_at ss text w' b n g r m.steps
      turned ss fs F = unfold turn in rw (by_marks ss fs F, y) (rw F.segs at (q.folded (run_at text w b i count) on_unit))

  -- that is kept
  pub turn_kept : {w' : List ℕ} {m r : Made} → t ≡ false → KeepIs text w w' b n g m unit count (sign_of x.mark) r → TurnIs text w w' b n g m i count r
  turn_kept {w'} {m} {r} y q = record { grown = q.grown; changed = q.changed; turned = turned; runs = λ ss fs F. q.runs ∙ rw (by_marks ss fs F, y) (unfold bit in omega arith) }
    where
      turned : (ss fs : List Segment) → Folds ss fs text w b n g → turn ss fs (run_at text w b i count) (made_at ss text w b g (first_of m.first) m.segs) ≡ stands_at ss text w' b n g r m.steps
      turned ss fs F = unfold turn in rw (by_marks ss fs F, y) (rw F.segs at (q.kept (run_at text w b i count) on_unit))

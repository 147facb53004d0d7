-- P and W lines: refused, or a path more, with its steps. Assumes nothing.
use Rattle.std.specs.Prelude.{Result, Ok, Err, Option, None, Some}
use Rattle.refusals.specs.declared.reason.Reason.{Reason}
use Rattle.refusals.specs.Reasons.{number_of}
use Prim.Native.Nat.{ℕ, ◌+◌, ◌*◌, ◌-◌, ◌≤◌, ◌<◌}
use native.Mathlib.Numerals.{add-one}
use native.Mathlib.Omega.{arith}
use mathlib.Core.List.{List, [], ◌∷◌}
use mathlib.Core.Logic.{inl, inr}
use mathlib.Core.Path.{◌≡◌, refl, ap, ◌∙◌}
use lib.ListN.{length}
use lib.Seq.{sets, length-sets}
use Rattle.tables.specs.declared.entry.Record.TheVariants.{Path}
use Rattle.lines.specs.declared.sort.Sort.TheVariants as sort
use Rattle.tables.specs.declared.tables.Bases.{Bases}
use Rattle.tables.specs.declared.tables.Counts.{Counts}
use Rattle.gfa_spec.specs.Bytes.{sum, one, nil}
use Rattle.gfa_spec.specs.Reading.{choose}
use Rattle.gfa_spec.specs.Records.{paths, collect}
use Rattle.gfa_spec.specs.Runs.{over_paths, step_count}
use Rattle.scan.specs.Places.{part_at, FieldIs}
use Rattle.lines.specs.PathLines.{PathHolds, PathSays, PathStepsAre}
use Rattle.lines.specs.Sorts.{SortIs, read_as}
use Rattle.tables.specs.Tables.{one_more}
use Rattle.scan.specs.declared.places.Place.{Place}
use Rattle.tables.specs.Steps.{step_at, steps_at}
use Rattle.steps.specs.StepFields.{StepsSay, StepsIs}
use Rattle.tables.specs.declared.kinds.PathKind.{PathKind}
use Rattle.tables.specs.declared.kinds.PathKind.TheVariants as kind
use Rattle.tables.specs.Paths.{kind_of, kind_in, kind_word, column_of, short_of, steps_of, path_at}
use Rattle.tables.specs.Entries.{entry_of}
use Rattle.lines.specs.Lines.{Ready, AddedIs}
use Rattle.scan.proofs.Fields.{found_at, few_fields}
use Rattle.work.specs.Rows.{span}
use Rattle.work.proofs.Rows.{rows_length, only_none, only_put, only_then, only_wider, only_kept, outside_less}
use Rattle.lines.proofs.Room.{column_short, spent_path, path_spare}
use Rattle.steps.proofs.StepFields.{path_short, path_refused, path_accepted}
use Rattle.tables.proofs.TableRows.{steps_kept, step_row_kept, path_put, path_row_put}
use Rattle.lines.proofs.Adding.{names_apart}

-- a path has its row's steps
path_steps : (text work : List ℕ) (b : Bases) (k first count : ℕ) → (path_at text b.steps work (b.paths + 5 * k)).steps ≡ steps_at text work first count
    → step_count (entry_of text work b (Path (record { 0 = k })) ∷ []) ≡ count
unfolding step_count over_paths paths collect entry_of choose one nil sum steps_at
path_steps text work b k first count e = omega (arith, ap length e, rows_length (step_at text) 3 work first count)

-- a kind's word says the kind
pub kind_of_word : (k : PathKind) → kind_of (kind_word k) ≡ kind_in k
unfolding kind_of
kind_of_word kind.P = refl
kind_of_word kind.W = refl

-- the field that holds the steps
module _ {text work : List ℕ} {b : Bases} {n : Counts} {line : Place} {j : ℕ} {kind : PathKind} {f : Option Place} (h : FieldIs text line j f) (c : j ≡ column_of (kind_in kind)) where
  -- too few fields
  pub path_missing : {k : Reason} → f ≡ None → number_of k ≡ short_of (kind_in kind) → PathStepsAre text work work b n line.start line.size kind (Err k)
  path_missing e k = record { says = record { read = path_short (kind_in kind) (rw c at (few_fields h e)) ∙ rw k; long = refl; only = only_none } }

  module _ {field : Place} (e : f ≡ Some field) (s : SortIs text line.start line.size (sort.Path kind)) (y : Ready text work b n line.start line.size) where
    steps_short : field.size + 3 ≤ line.size
    steps_short = column_short (kind_in kind) y.inside s.letter (rw c at (found_at h e))

    pub steps_room : {base : ℕ} → base ≡ b.steps + 3 * n.steps → base + 3 * field.size + 3 ≤ length work
    steps_room p = omega (arith, steps_short, y.room, path_spare text line.start line.size n y.inside (kind_in kind) (omega (arith, steps_short)) s.letter)

    -- what is said of the steps is said of the line, where the work area comes back
    pub path_told : {work' back : List ℕ} {base : ℕ} {r : Result ℕ Reason} → base ≡ b.steps + 3 * n.steps →
        StepsIs text work work' base field.size (steps_of (kind_in kind) (part_at text field.start field.size)) r → back ≡ work' → PathStepsAre text work back b n line.start line.size kind r
    path_told {work'} {r = r} p i z = rw z (record { says = go r (rw p at i.says) })
      where
        go : (r : Result ℕ Reason) → StepsSay text work work' (b.steps + 3 * n.steps) field.size (steps_of (kind_in kind) (part_at text field.start field.size)) r →
            PathSays text work work' b n line.start line.size kind r
        go (Ok m) q =
            record {
              read = path_accepted (kind_in kind) (rw c at (found_at h e)) _ q.read;
              few = omega (arith, q.few, steps_short);
              rows = q.rows;
              long = q.long;
              only = q.only;
            }
        go (Err k) q =
            record {
              read = path_refused (kind_in kind) (rw c at (found_at h e)) q.read;
              long = q.long;
              only = only_wider _ q.only (λ i o. (outside_less (b.steps + 3 * n.steps) (b.steps + 3 * n.steps + 3 * field.size) o.0 (omega arith) (omega (arith, steps_short)), tt));
            }

-- what the answer says, by its cases
module _ {text work middle : List ℕ} {b : Bases} {n : Counts} {start size : ℕ} {kind : PathKind} {c : Result ℕ Reason} (h : PathStepsAre text work middle b n start size kind c) where
  path_holds : {m : ℕ} → c ≡ Ok m → PathHolds text work middle b n start size kind m
  path_holds e = rw e at h.says

  -- how many steps there are
  module _ {m : ℕ} (e : c ≡ Ok m) (y : Ready text work b n start size) where
    pub path_few : m ≤ 1048576
    path_few = omega (arith, (path_holds e).few, y.inside, y.short)

    pub path_end : n.steps + m < 4294967296
    path_end = omega (arith, path_few, y.few)

  module _ {work' : List ℕ} (s : SortIs text start size (sort.Path kind)) where
    -- the line is refused
    pub p_refused : {k : Reason} → c ≡ Err k → AddedIs text work work' b n start size (Err k)
    unfolding read_as
    p_refused e = let r = rw e at h.says in record { says = record { read = s.is _ ∙ r.read } }

    -- the row is put into the table, behind the steps
    pub p_added : {m : ℕ} {counts : Counts} → c ≡ Ok m → Ready text work b n start size →
        work' ≡ sets middle (b.paths + 5 * n.paths) (kind_word kind ∷ start ∷ size ∷ n.steps ∷ (n.steps + m - n.steps) ∷ []) →
        counts ≡ one_more n 0 0 1 m → AddedIs text work work' b n start size (Ok (Path (record { 0 = n.paths }), counts))
    unfolding read_as entry_of
    p_added {m} e y q more =
        let p = path_holds e in
        let at = b.paths + 5 * n.paths in
        let base = b.steps + 3 * n.steps in
        let row = kind_word kind ∷ start ∷ size ∷ n.steps ∷ m ∷ [] in
        let count : n.steps + m - n.steps ≡ m = omega arith in
        let same = p.long in
        let fits : at + 5 ≤ length middle = omega (arith, y.behind, y.room, same) in
        let only = only_put row middle at in
        let high = only_kept b.steps (b.steps + 3 * (n.steps + m)) only (inr (omega (arith, y.behind)), tt) in
        record {
          says =
              rw (q, count, more)
              (record {
                read =
                    s.is _
                    ∙ p.read
                    ∙ rw (
                      path_put text middle at b.steps (kind_word kind) start size n.steps m fits,
                      kind_of_word kind,
                      steps_kept high text base m (omega arith) (omega arith),
                    );
                lines = add-one n.lines;
                segs = refl;
                links = refl;
                paths = refl;
                steps =
                    omega (
                      arith,
                      path_steps text (sets middle at row) b n.paths base m
                          (ap (λ q. q.steps) (path_put text middle at b.steps (kind_word kind) start size n.steps m fits)),
                    );
                row = (refl, path_row_put text middle at (n.steps + m) (kind_word kind) start size n.steps m fits y.inside (omega arith));
                visits = λ i l k.
                    let place : base + 3 * (i - n.steps) ≡ b.steps + 3 * i = omega (arith, l) in
                    step_row_kept high text (b.steps + 3 * i) (omega arith) (omega (arith, k)) (rw place at (p.rows.row (i - n.steps) (omega (arith, l, k))));
                spent = spent_path text start size n y.inside (kind_in kind) m p.few s.letter;
                names = λ h.
                    let z : n.segs + 0 ≡ n.segs = omega arith in
                    let o = only_then (span at (at + 5) ∷ span base (base + 3 * m) ∷ []) p.only only (λ i o. ((o.1.0, tt), (o.0, tt))) in
                    rw z
                    (names_apart y o
                    (inl (omega (arith, y.between, y.heads, y.beyond)), (inl (omega (arith, y.between, y.heads, y.beyond, y.behind)), tt))
                    (inl (omega (arith, y.beyond)), (inl (omega (arith, y.beyond, y.behind)), tt)) (length-sets middle at row ∙ same) h);
                long = length-sets middle at row ∙ same;
                only =
                    only_then _ p.only only
                    (λ i o. (
                      (outside_less base (base + 3 * m) o.1.1.1.1.0 (omega arith) (omega arith), tt),
                      (outside_less at (at + 5) o.1.1.1.0 (omega arith) (omega arith), tt),
                    ));
              });
        }

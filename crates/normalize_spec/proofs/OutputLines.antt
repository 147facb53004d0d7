-- Each entry of the output is read again from its line, and its line is clean. Assumes nothing.
use Prim.Native.Nat.{ℕ, zero, suc}
use mathlib.Core.Bool.{true, false}
use mathlib.Core.List.{List, [], ◌∷◌, map}
use mathlib.Core.Path.{◌≡◌, refl, sym, ap, ◌∙◌}
use Rattle.gfa_spec.specs.Bytes.{bytes, tabbed, one, nil, Each}
use Rattle.gfa_spec.specs.Reading.{Step, Path, Entry, segment, link, path, id_of, map_read, Kind, P, W, choose}
use Rattle.gfa_spec.proofs.Each.{Lacks, each_implies}
use Rattle.gfa_spec.proofs.Steps.{by_orientation}
use Rattle.gfa_spec.proofs.Places.{unplaced, erase_step, erase_path, erase}
use Rattle.gfa_spec.proofs.Clean.{is_line_byte, is_field_byte, LineBytes, FieldBytes, untabbed, tabbed_clean}
use Rattle.gfa_spec.proofs.Texts.{From, from_clean}
use Rattle.gfa_spec.proofs.Rereading.{written, Again, is_path, from_again, from_line}
use Rattle.normalize_spec.specs.Folding.{New, NewStep, as_new}
use Rattle.normalize_spec.specs.Links.{Key}
use Rattle.normalize_spec.specs.Writing.{segment_line, link_line, step_field, replace, path_line, with_steps}
use Rattle.normalize_spec.specs.Services.{as_step, as_segment}
use Rattle.normalize_spec.proofs.WrittenLines.{segment_read, link_read, Plain, NoTab, step_field_bytes, StepWritable, path_read}
use Rattle.normalize_spec.proofs.NewSteps.{Ends}
use Rattle.normalize_spec.proofs.Output.{as_link, renew, as_new_as_step}

-- a byte that a field may hold
abbrev pub InField : ℕ → Type 0
InField b = is_field_byte b ≡ true

-- a step whose name is made of such bytes
abbrev pub CleanStep : NewStep → Type 0
CleanStep = Plain InField

-- An entry of the output: its line is read as the entry, and is clean.
pub record Good (e : Entry) : Type 0 where
  pub again : Again e
  pub line : LineBytes (written e)

-- an entry of the input that is no path
pub kept_good : (e : Entry) → is_path e ≡ false → From e → Good e
kept_good e n f = record { again = from_again e n f; line = from_line e n f }

-- bytes of a field have no tab among them
no_tabs : (s : List ℕ) → FieldBytes s → Lacks 9 s
no_tabs s h = each_implies untabbed s h

-- ---- new segments

-- the ID and the sequence of a new segment are bytes that a field may hold
abbrev pub CleanNew : New → Type 0
CleanNew n = FieldBytes n.id × FieldBytes n.sequence

-- the line of a new segment is clean
segment_clean : (n : New) → CleanNew n → LineBytes (segment_line n)
unfolding segment_line bytes
segment_clean n h = tabbed_clean (bytes "S" ∷ n.id ∷ n.sequence ∷ []) ((unfold is_field_byte is_line_byte in refl, tt), (h.0, (h.1, tt)))

-- a new segment is read again
segment_again : (n : New) → CleanNew n → Again (segment (as_segment n))
unfolding map_read erase written unplaced as_segment id_of choose one nil
segment_again n h ids fresh =
    ap (map_read erase) (segment_read ids (unplaced (segment_line n)) n refl (no_tabs n.id h.0) (no_tabs n.sequence h.1) fresh.0)

-- a new segment is an entry of the output
pub segment_good : (n : New) → CleanNew n → Good (segment (as_segment n))
unfolding written as_segment choose
segment_good n h = record { again = segment_again n h; line = segment_clean n h }

-- ---- added links

-- an orientation is a byte that a field may hold
orientation_clean : (s : NewStep) → CleanStep s → FieldBytes (s.orientation ∷ [])
unfolding is_field_byte is_line_byte
orientation_clean s h = (by_orientation InField refl refl s.orientation h.oriented, tt)

-- the line of an added link is clean
link_clean : (k : Key) → Ends CleanStep k → LineBytes (link_line k)
unfolding link_line bytes
link_clean k h =
    tabbed_clean (bytes "L" ∷ k.from.name ∷ (k.from.orientation ∷ []) ∷ k.to.name ∷ (k.to.orientation ∷ []) ∷ bytes "0M" ∷ []) (
      (unfold is_field_byte is_line_byte in refl, tt),
      (
        h.0.bytes,
        (
          orientation_clean k.from h.0,
          (
            h.1.bytes,
            (
              orientation_clean k.to h.1,
              (unfold is_field_byte is_line_byte in (refl, (refl, tt)), tt),
            ),
          ),
        ),
      ),
    )

-- an added link is read again
link_again : (k : Key) → Ends CleanStep k → Again (link (as_link k))
unfolding map_read erase written unplaced as_link choose
link_again k h ids fresh =
    ap (map_read erase)
    (link_read ids (unplaced (link_line k)) k refl (no_tabs k.from.name h.0.bytes) (no_tabs k.to.name h.1.bytes) h.0.oriented h.1.oriented)

-- an added link is an entry of the output
pub link_good : (k : Key) → Ends CleanStep k → Good (link (as_link k))
unfolding written as_link choose
link_good k h = record { again = link_again k h; line = link_clean k h }

-- ---- paths with new steps

-- a step without its place is the step of a new path, read
erase_as_step : (ss : List Step) → map erase_step ss ≡ map as_step (map as_new ss)
unfolding erase_step unplaced as_step as_new
erase_as_step [] = refl
erase_as_step (s ∷ ss) = ap (λ ts. erase_step s ∷ ts) (erase_as_step ss)

-- so steps that read as new steps are these, but for their places
erase_steps : (ss : List Step) (steps : List NewStep) → map as_new ss ≡ steps → map erase_step ss ≡ map erase_step (map as_step steps)
erase_steps ss steps e = erase_as_step ss ∙ ap (map as_step) (e ∙ sym (as_new_as_step steps)) ∙ sym (erase_as_step (map as_step steps))

-- a field in place of another
replace_each : (F : List ℕ → Type 0) (k : ℕ) (x : List ℕ) (fs : List (List ℕ)) → F x → Each F fs → Each F (replace k x fs)
unfolding replace
replace_each F k x [] h g = tt
replace_each F zero x (f ∷ fs) h g = (h, g.1)
replace_each F (suc k) x (f ∷ fs) h g = (g.0, replace_each F k x fs h g.1)

-- new steps in place of a path's
with_steps_each : (F : List ℕ → Type 0) (k : Kind) (steps : List NewStep) (fs : List (List ℕ)) → F (step_field k steps) → Each F fs → Each F (with_steps k steps fs)
unfolding with_steps
with_steps_each F P steps fs h g = replace_each F 2 (step_field P steps) fs h g
with_steps_each F W steps fs h g = replace_each F 6 (step_field W steps) fs h g

-- A path, and new steps that its line can hold.
pub record Renewed (p : Path) (steps : List NewStep) : Type 0 where
  pub from : From (path p)
  pub writable : Each (StepWritable p.kind) steps
  pub clean : Each CleanStep steps

-- the bytes that a step field has of its own
own_clean : Each InField (42 ∷ 43 ∷ 44 ∷ 45 ∷ 60 ∷ 62 ∷ [])
unfolding is_field_byte is_line_byte
own_clean = (refl, (refl, (refl, (refl, (refl, (refl, tt))))))

-- the line of a path with new steps is clean
path_clean : (p : Path) (steps : List NewStep) → Renewed p steps → LineBytes (tabbed (renew p steps).fields)
unfolding renew
path_clean p steps r =
    tabbed_clean (with_steps p.kind steps p.fields)
    (with_steps_each FieldBytes p.kind steps p.fields (step_field_bytes InField own_clean p.kind steps r.clean) (from_clean (path p) r.from).0)

-- a path with new steps is read again
path_again : (p : Path) (steps : List NewStep) → Renewed p steps → Again (path (renew p steps))
unfolding map_read erase erase_path written renew unplaced path_line choose
path_again p steps r ids fresh =
    let f = r.from in
    let untab = each_implies {Q = Plain NoTab} (λ s h. record { oriented = h.oriented; bytes = no_tabs s.name h.bytes }) steps r.clean in
    let (ss, e, m) = path_read f.ids ids f.line (unplaced (path_line p steps)) p steps f.reads r.writable untab refl in
    ap (map_read erase) e ∙ rw (erase_steps ss steps m)

-- a path with new steps is an entry of the output
pub path_good : (p : Path) (steps : List NewStep) → Renewed p steps → Good (path (renew p steps))
unfolding written choose
path_good p steps r = record { again = path_again p steps r; line = path_clean p steps r }

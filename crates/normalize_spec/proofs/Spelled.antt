-- A new path spells what the old path spells. Assumes nothing.
use Prim.Native.Nat.{ℕ}
use mathlib.Core.Bool.{true}
use mathlib.Core.List.{List, [], ◌∷◌, ◌++◌, map, append-nil, map-append}
use Rattle.std.specs.Prelude.{Some}
use mathlib.Core.Path.{◌≡◌, refl, sym, ap, ◌∙◌}
use Rattle.gfa_spec.specs.Bytes.{join, copies, repeat, Each}
use Rattle.gfa_spec.specs.Reading.{Step, Segment}
use Rattle.gfa_spec.specs.Records.{sequence_of, sequence_or_empty}
use Rattle.gfa_spec.specs.Runs.{Run, runs}
use Rattle.gfa_spec.specs.Sequences.{oriented}
use Rattle.gfa_spec.specs.Spelling.{spelt, behind, spell_step, spell}
use Rattle.gfa_spec.proofs.Tests.{by_test}
use Rattle.gfa_spec.proofs.Each.{each_both, each_implies, each_of_map}
use Rattle.gfa_spec.proofs.Runs.{runs_each}
use Rattle.normalize_spec.specs.Folding.{is_folded_run, New, Made, NewStep, as_new}
use Rattle.normalize_spec.specs.Services.{as_segment}
use Rattle.gfa_spec.proofs.Known.{Known, known_sequence}
use Rattle.gfa_spec.proofs.Copies.{join_copies, map_copies, join_append, repeat_oriented, repeat_explicit}
use Rattle.normalize_spec.proofs.Images.{weight, id_for, image, images, images_each, HasId}
use Rattle.normalize_spec.proofs.Lost.{folded_count}
use Rattle.normalize_spec.proofs.Segments.{SoundTable}
use Rattle.normalize_spec.proofs.Lookup.{sequence_before, new_sequence}
use Rattle.normalize_spec.proofs.Expand.{expand, expand_runs}

-- ---- what a step and a step list spell, where all names are known

-- the bytes of a step; none where its name is not known
unfoldable pub spell_one : (comp : ℕ → ℕ) → List Segment → NewStep → List ℕ
spell_one comp ss s = oriented comp s.orientation (sequence_or_empty ss s.name)

-- the bytes of a step list
unfoldable pub spell_new : (comp : ℕ → ℕ) → List Segment → List NewStep → List ℕ
spell_new comp ss steps = join (map (spell_one comp ss) steps)

-- a name that finds the same has the same sequence
same_sequence : (ss after : List Segment) (name : List ℕ) → sequence_of after name ≡ sequence_of ss name → sequence_or_empty after name ≡ sequence_or_empty ss name
unfolding sequence_or_empty
same_sequence ss after name e = rw (e, sequence_or_empty)

-- a path of known steps spells the sequences of its steps
pub spell_known : (comp : ℕ → ℕ) (ss : List Segment) (steps : List Step) → Each (λ s. Known ss s.name.bytes) steps → spell comp ss steps ≡ spelt (spell_new comp ss (map as_new steps))
unfolding spell spell_new spell_one as_new join
spell_known comp ss [] h = refl
spell_known comp ss (s ∷ steps) h =
    let k = h.0 in
    rw (spell_known comp ss steps h.1, k.found, known_sequence ss s.name.bytes k.sequence k.found) (unfold spell_step behind in rw k.explicit)

-- ---- the runs of a path and their images

-- two step lists spell their bytes in order
spell_new_append : (comp : ℕ → ℕ) (ss : List Segment) (xs ys : List NewStep) → spell_new comp ss (xs ++ ys) ≡ spell_new comp ss xs ++ spell_new comp ss ys
unfolding spell_new
spell_new_append comp ss xs ys = rw (map-append, join_append)

-- copies of a step spell its bytes, repeated
spell_new_copies : (comp : ℕ → ℕ) (ss : List Segment) (n : ℕ) (a : NewStep) → spell_new comp ss (copies n a) ≡ repeat n (spell_one comp ss a)
unfolding spell_new
spell_new_copies comp ss n a = rw (map_copies, join_copies)

-- What the segments of the output have to give for a run: its repeated unit under the new ID, or its unit under its name.
pub record Given (ss fs after : List Segment) (new : List New) (r : Run) : Type 0 where
  pub folded : is_folded_run fs r ≡ true → sequence_of after (id_for new r) ≡ Some (repeat r.count (sequence_or_empty ss r.step.name.bytes))
  pub kept : sequence_of after r.step.name.bytes ≡ sequence_of ss r.step.name.bytes

-- a run's image spells what the run spells
run_spelled : (comp : ℕ → ℕ) (ss fs after : List Segment) (new : List New) (r : Run) → Given ss fs after new r
    → repeat (weight fs r) (spell_one comp after (image fs new r)) ≡ repeat r.count (spell_one comp ss (as_new r.step))
unfolding weight image spell_one as_new
run_spelled comp ss fs after new r g =
    by_test (is_folded_run fs r)
    (λ e. rw (e, known_sequence after (id_for new r) (repeat r.count (sequence_or_empty ss r.step.name.bytes)) (g.folded e), repeat_oriented) (unfold repeat in append-nil (repeat r.count (oriented comp r.step.orientation (sequence_or_empty ss r.step.name.bytes)))))
    (λ e. rw (e, same_sequence ss after r.step.name.bytes g.kept))

-- the images of runs spell what the runs spell
runs_spelled : (comp : ℕ → ℕ) (ss fs after : List Segment) (new : List New) (rs : List Run) → Each (Given ss fs after new) rs
    → spell_new comp after (images fs new rs) ≡ spell_new comp ss (expand rs)
unfolding images expand join
runs_spelled comp ss fs after new [] g = unfold spell_new join in refl
runs_spelled comp ss fs after new (r ∷ rs) g =
    let here = copies (weight fs r) (image fs new r) in
    let old = copies r.count (as_new r.step) in
    spell_new_append comp after here (images fs new rs)
    ∙ cc (spell_new_copies comp after (weight fs r) (image fs new r), spell_new_copies comp ss r.count (as_new r.step), run_spelled comp ss fs after new r g.0, runs_spelled comp ss fs after new rs g.1)
    ∙ sym (spell_new_append comp ss old (expand rs))

-- the new path spells what the old one spells
pub path_spelled : (comp : ℕ → ℕ) (ss fs after : List Segment) (new : List New) (steps : List Step) → Each (Given ss fs after new) (runs steps)
    → spell_new comp after (images fs new (runs steps)) ≡ spell_new comp ss (map as_new steps)
path_spelled comp ss fs after new steps g = runs_spelled comp ss fs after new (runs steps) g ∙ ap (spell_new comp ss) (expand_runs steps)

-- ---- the steps of the new path are known

-- the name of a run's image finds a sequence other than `*`
image_known : (ss fs after : List Segment) (new : List New) (r : Run) → Given ss fs after new r → Known ss r.step.name.bytes
    → Known after (image fs new r).name
unfolding image as_new
image_known ss fs after new r g k =
    by_test (is_folded_run fs r)
    (λ e. rw e (record { sequence = repeat r.count (sequence_or_empty ss r.step.name.bytes); found = g.folded e; explicit = repeat_explicit r.count (sequence_or_empty ss r.step.name.bytes) (folded_count fs r e) }))
    (λ e. rw e (record { sequence = k.sequence; found = g.kept ∙ k.found; explicit = k.explicit }))

-- the steps of the new path find sequences other than `*`
images_known : (ss fs after : List Segment) (new : List New) (rs : List Run) → Each (Given ss fs after new) rs → Each (λ r. Known ss r.step.name.bytes) rs
    → Each (λ s. Known after s.name) (images fs new rs)
images_known ss fs after new rs g k =
    images_each (λ s. Known after s.name) fs new rs
    (each_implies (λ r h. image_known ss fs after new r h.0 h.1) rs
    (each_both (Given ss fs after new) (λ r. Known ss r.step.name.bytes) rs g k))

-- steps that read as the new path, over segments that give its runs, spell what the old path spells
path_spells : (comp : ℕ → ℕ) (ss fs after : List Segment) (new : List New) (steps read : List Step) → map as_new read ≡ images fs new (runs steps)
    → Each (Given ss fs after new) (runs steps) → Each (λ s. Known ss s.name.bytes) steps → spell comp after read ≡ spell comp ss steps
unfolding as_new
path_spells comp ss fs after new steps read e g k =
    let known = images_known ss fs after new (runs steps) g (runs_each (λ s. Known ss s.name.bytes) steps k) in
    spell_known comp after read (each_of_map (λ s. Known after s.name) as_new read (rw e known))
    ∙ ap spelt (ap (spell_new comp after) e ∙ path_spelled comp ss fs after new steps g)
    ∙ sym (spell_known comp ss steps k)

-- a sound table gives each run, where the segments of the output find what the old and the new ones find
sound_gives : (ss fs after : List Segment) (made : Made) → SoundTable ss made
    → ((name : List ℕ) → sequence_of after name ≡ sequence_of (ss ++ map as_segment made.new) name) → (r : Run) → HasId fs made.new r
    → Known ss r.step.name.bytes → Given ss fs after made.new r
sound_gives ss fs after made sound same_names r h k = record {
  folded = λ f. same_names (id_for made.new r) ∙ new_sequence ss made sound r.step.name.bytes r.count (id_for made.new r) (h f);
  kept = same_names r.step.name.bytes ∙ sequence_before ss (map as_segment made.new) r.step.name.bytes k.sequence k.found ∙ sym k.found;
}

-- steps that read as the new path spell what the old path spells, over segments that find what the old and the new ones find
pub sound_spells : (comp : ℕ → ℕ) (ss fs after : List Segment) (made : Made) → SoundTable ss made
    → ((name : List ℕ) → sequence_of after name ≡ sequence_of (ss ++ map as_segment made.new) name) → (steps read : List Step)
    → map as_new read ≡ images fs made.new (runs steps) → Each (HasId fs made.new) (runs steps) → Each (λ s. Known ss s.name.bytes) steps
    → spell comp after read ≡ spell comp ss steps
sound_spells comp ss fs after made sound same_names steps read e has known =
    let both = each_both (HasId fs made.new) (λ r. Known ss r.step.name.bytes) (runs steps) has (runs_each (λ s. Known ss s.name.bytes) steps known) in
    let given = each_implies {Q = Given ss fs after made.new} (λ r h. sound_gives ss fs after made sound same_names r h.0 h.1) (runs steps) both in
    path_spells comp ss fs after made.new steps read e given known

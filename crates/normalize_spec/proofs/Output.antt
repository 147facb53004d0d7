-- The rewritten text as entries, each on its line. Assumes nothing.
use Prim.Native.Nat.{ℕ}
use mathlib.Core.Bool.{true}
use mathlib.Core.List.{List, [], ◌∷◌, ◌++◌, map, map-map, map-append, append-nil, append_assoc}
use mathlib.Core.Path.{◌≡◌, refl, ap, ◌∙◌}
use Rattle.gfa_spec.specs.Bytes.{keep, join, ended, distinct}
use Rattle.gfa_spec.specs.Reading.{Segment, Link, Path, Entry, segment, link, path, id_of, choose}
use Rattle.gfa_spec.specs.Records.{leading, others, segments, paths}
use Rattle.gfa_spec.specs.Runs.{runs}
use Rattle.gfa_spec.proofs.Texts.{ids_segments}
use Rattle.gfa_spec.proofs.Rereading.{written}
use Rattle.gfa_spec.proofs.Sorts.{Sorted, sorted_append, sorted_segments, sorted_links, sorted_paths, is_leading, is_other, sorted_leading, sorted_others, leading_written, others_written}
use Rattle.normalize_spec.specs.Folding.{folded, New, NewStep, as_new, taken, transform}
use Rattle.normalize_spec.specs.Links.{Key, kept, added}
use Rattle.normalize_spec.specs.Writing.{segment_line, link_line, path_line, path_lines, rewritten, with_steps}
use Rattle.normalize_spec.specs.Services.{as_step, as_segment}
use Rattle.normalize_spec.proofs.Images.{images, transform_images}
use Rattle.normalize_spec.proofs.Segments.{ids}
use Rattle.normalize_spec.proofs.Whole.{ids_differ}

-- ---- what is written

-- an added link, as a reader of the output has it
unfoldable pub as_link : Key → Link
as_link k = record {
  from = k.from.name;
  from_orientation = k.from.orientation;
  to = k.to.name;
  to_orientation = k.to.orientation;
  line = link_line k;
}

-- a path with new steps, as a reader of the output has it, but for the places of its steps
unfoldable pub renew : Path → List NewStep → Path
renew p steps = record {
  kind = p.kind;
  fields = with_steps p.kind steps p.fields;
  steps = map as_step steps;
}

module _ (es : List Entry) (cap : ℕ) where
  -- the segments of the output: the old ones, then the new ones
  unfoldable pub new_segments : List Segment
  new_segments = segments es ++ map as_segment (transform es cap).made.new

  -- the links of the output: those that are kept, then those that are added
  unfoldable pub new_links : List Link
  new_links = kept es cap ++ map as_link (added es cap)

  -- the new steps of a path
  unfoldable pub steps_for : Path → List NewStep
  steps_for p = images (folded es cap) (transform es cap).made.new (runs p.steps)

  -- the paths of the output
  unfoldable pub new_paths : List Path
  new_paths = map (λ p. renew p (steps_for p)) (paths es)

  -- the entries of the output
  unfoldable pub output : List Entry
  output =
      keep is_leading es
      ++ (map segment new_segments
      ++ (keep is_other es
      ++ (map link new_links
      ++ map path new_paths)))

-- ---- their lines

-- the lines of segments
segments_written : (ss : List Segment) → map written (map segment ss) ≡ map (λ s. s.line) ss
unfolding written choose
segments_written ss = map-map written segment ss

-- the lines of links
links_written : (ls : List Link) → map written (map link ls) ≡ map (λ l. l.line) ls
unfolding written choose
links_written ls = map-map written link ls

-- the lines of new segments
new_written : (new : List New) → map (λ s. s.line) (map as_segment new) ≡ map segment_line new
unfolding as_segment
new_written new = map-map (λ s. s.line) as_segment new

-- the lines of added links
added_written : (ks : List Key) → map (λ l. l.line) (map as_link ks) ≡ map link_line ks
unfolding as_link
added_written ks = map-map (λ l. l.line) as_link ks

-- the lines of paths with new steps
paths_written : (f : Path → List NewStep) (ps : List Path) → map written (map path (map (λ p. renew p (f p)) ps)) ≡ path_lines ps (map f ps)
unfolding written renew path_lines path_line choose
paths_written f [] = refl
paths_written f (p ∷ ps) = ap (λ ls. path_line p (f p) ∷ ls) (paths_written f ps)

-- the rewritten text is the entries of the output, each on its line
pub rewritten_output : (es : List Entry) (cap : ℕ) → rewritten es cap ≡ ended (map written (output es cap))
unfolding rewritten output new_segments new_links new_paths steps_for
rewritten_output es cap =
    simp (map-append, append_assoc, leading_written, others_written, segments_written, links_written, new_written, added_written, paths_written, transform_images)

-- ---- their records

-- the records of the output
pub output_sorted : (es : List Entry) (cap : ℕ) → Sorted (output es cap) (leading es) (others es) (new_segments es cap) (new_links es cap) (new_paths es cap)
unfolding output
output_sorted es cap =
    simp append-nil at
    (sorted_append (sorted_leading es)
    (sorted_append (sorted_segments (new_segments es cap))
    (sorted_append (sorted_others es)
    (sorted_append (sorted_links (new_links es cap)) (sorted_paths (new_paths es cap))))))

-- the IDs of the old and the new segments
new_ids_taken : (es : List Entry) (cap : ℕ) → map (λ s. s.id) (new_segments es cap) ≡ taken (segments es) (transform es cap).made.new
unfolding new_segments taken as_segment
new_ids_taken es cap = map-append (λ s. s.id) (segments es) (map as_segment (transform es cap).made.new) ∙ rw map-map

-- the IDs of the output differ, if those of the input do
pub output_distinct : (es : List Entry) (cap : ℕ) → distinct (map (λ s. s.id) (segments es)) ≡ true → distinct (join (map id_of (output es cap))) ≡ true
unfolding ids
output_distinct es cap d = rw (ids_segments, (output_sorted es cap).of_segments, new_ids_taken) (ids_differ es cap d)

-- a new step, read, is itself
pub as_new_as_step : (steps : List NewStep) → map as_new (map as_step steps) ≡ steps
unfolding as_new as_step
as_new_as_step [] = refl
as_new_as_step (s ∷ steps) = ap (λ l. s ∷ l) (as_new_as_step steps)

-- the new paths have the new steps
pub output_steps : (es : List Entry) (cap : ℕ) → map (λ p. map as_new p.steps) (new_paths es cap) ≡ (transform es cap).paths
unfolding new_paths renew steps_for
output_steps es cap = rw (map-map, transform_images) (simp as_new_as_step)

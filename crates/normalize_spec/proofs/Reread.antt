-- The rewritten text is read again as the entries it was written for. Assumes nothing.
use Prim.Native.Nat.{ℕ}
use native.Mathlib.Omega.{arith}
use mathlib.Core.Bool.{Bool, true, false, not}
use mathlib.Core.List.{List, ◌++◌, map, map-map}
use Rattle.std.specs.Prelude.{None}
use mathlib.Core.Path.{◌≡◌, refl, sym, ap, ◌∙◌}
use Rattle.gfa_spec.specs.Bytes.{keep, Each}
use Rattle.gfa_spec.specs.Reading.{fields, Path, Entry, segment, link, path, Parsed, refused_at, parsed, parse, choose}
use Rattle.gfa_spec.specs.Records.{leading, others, segments, links, paths}
use Rattle.gfa_spec.specs.Runs.{runs}
use Rattle.gfa_spec.specs.Calls.{bad_byte}
use Rattle.gfa_spec.proofs.Each.{each_append, each_both, each_implies, each_map, each_of_map, each_keep, all_each, each_all}
use Rattle.gfa_spec.proofs.Places.{unplaced, erase_step, erase_path, erase, erase_parsed}
use Rattle.gfa_spec.proofs.Entries.{line_holds}
use Rattle.gfa_spec.proofs.Clean.{is_field_byte, FieldBytes, fields_clean}
use Rattle.gfa_spec.proofs.Texts.{From, from_clean, parse_from, parse_distinct}
use Rattle.gfa_spec.proofs.Rereading.{read_again, written_good, is_path}
use Rattle.gfa_spec.proofs.Sorts.{is_leading, is_other, sorted_each, sorted_erase, leading_pathless, other_pathless}
use Rattle.normalize_spec.specs.Folding.{folded, as_new, transform}
use Rattle.normalize_spec.specs.Links.{is_removed, kept, added}
use Rattle.normalize_spec.specs.Writing.{rewritten}
use Rattle.normalize_spec.specs.Services.{as_segment}
use Rattle.normalize_spec.proofs.Ids.{is_plain_name}
use Rattle.normalize_spec.proofs.Images.{HasId, transform_has}
use Rattle.normalize_spec.proofs.Segments.{new_ids, transform_sound}
use Rattle.normalize_spec.proofs.Lookup.{new_bytes}
use Rattle.normalize_spec.proofs.WrittenLines.{StepWritable, path_writable, path_plain}
use Rattle.normalize_spec.proofs.NewSteps.{name_field, writable_renamed, plain_renamed, images_steps, Ends, added_ends}
use Rattle.normalize_spec.proofs.Output.{as_link, renew, new_segments, new_links, steps_for, new_paths, output, rewritten_output, output_sorted, output_distinct, output_steps}
use Rattle.normalize_spec.proofs.OutputLines.{InField, CleanStep, Good, kept_good, CleanNew, segment_good, link_good, Renewed, path_good}

-- ---- the entries of the output

module _ (es : List Entry) (cap : ℕ) (from : Each From es) where
  -- the IDs and sequences of the new segments are clean
  pub new_clean : Each CleanNew (transform es cap).made.new
  unfolding new_ids
  new_clean =
      let new = (transform es cap).made.new in
      let sound = transform_sound es cap in
      let sequences = each_implies (λ s f. each_all is_field_byte s.sequence (from_clean (segment s) f).1) (segments es) (sorted_each From es from).0 in
      each_both (λ n. FieldBytes n.id) (λ n. FieldBytes n.sequence) new
      (each_of_map FieldBytes (λ n. n.id) new (each_implies name_field (new_ids new) (all_each is_plain_name (new_ids new) sound.names)))
      (each_implies (λ n. all_each is_field_byte n.sequence) new (new_bytes is_field_byte (segments es) new sound.repeated sequences))

  -- a path of the input with its new steps
  renewed : (p : Path) → From (path p) → Each (HasId (folded es cap) (transform es cap).made.new) (runs p.steps) → Renewed p (steps_for es cap p)
  unfolding steps_for
  renewed p f has =
      let new = (transform es cap).made.new in
      let names = (transform_sound es cap).names in
      let h = line_holds f.ids f.line (path p) f.reads in
      let fs = fields f.line in
      record {
        from = f;
        writable = images_steps (StepWritable p.kind) (writable_renamed p.kind) (folded es cap) new names p.steps has (path_writable f.ids f.line fs p h);
        clean = images_steps CleanStep plain_renamed (folded es cap) new names p.steps has (path_plain InField f.ids f.line fs p (fields_clean f.line f.clean) h);
      }

  -- all paths of the input with their new steps
  pub all_renewed : Each (λ p. Renewed p (steps_for es cap p)) (paths es)
  all_renewed =
      let has : Path → Type 0 = λ p. Each (HasId (folded es cap) (transform es cap).made.new) (runs p.steps) in
      each_implies (λ p h. renewed p h.0 h.1) (paths es) (each_both (λ p. From (path p)) has (paths es) (sorted_each From es from).2 (transform_has es cap))

  -- the ends of the added links are clean
  pub added_clean : Each (Ends CleanStep) (added es cap)
  unfolding steps_for
  added_clean = added_ends CleanStep es cap (each_implies (λ p r. r.clean) (paths es) all_renewed)

  -- raw lines that pass a test
  raw_good : (p : Entry → Bool) → ((e : Entry) → p e ≡ true → is_path e ≡ false) → Each Good (keep p es)
  raw_good p pathless = each_implies (λ e h. kept_good e (pathless e h.0) h.1) (keep p es) (each_keep From p es from)

  -- the segments of the output
  segments_good : Each Good (map segment (new_segments es cap))
  unfolding new_segments is_path choose
  segments_good =
      let new = (transform es cap).made.new in
      each_map Good segment (segments es ++ map as_segment new)
      (each_append (λ s. Good (segment s)) (segments es) (map as_segment new)
      (each_implies (λ s. kept_good (segment s) refl) (segments es) (sorted_each From es from).0)
      (each_map (λ s. Good (segment s)) as_segment new (each_implies segment_good new new_clean)))

  -- the links of the output
  links_good : Each Good (map link (new_links es cap))
  unfolding new_links kept is_path choose
  links_good =
      each_map Good link (kept es cap ++ map as_link (added es cap))
      (each_append (λ l. Good (link l)) (kept es cap) (map as_link (added es cap))
      (each_implies (λ l h. kept_good (link l) refl h.1) (kept es cap) (each_keep (λ l. From (link l)) (λ l. not (is_removed (folded es cap) l)) (links es) (sorted_each From es from).1))
      (each_map (λ l. Good (link l)) as_link (added es cap) (each_implies link_good (added es cap) added_clean)))

  -- the paths of the output
  paths_good : Each Good (map path (new_paths es cap))
  unfolding new_paths
  paths_good =
      each_map Good path (new_paths es cap)
      (each_map (λ p. Good (path p)) (λ p. renew p (steps_for es cap p)) (paths es) (each_implies (λ p. path_good p (steps_for es cap p)) (paths es) all_renewed))

  -- all entries of the output
  output_good : Each Good (output es cap)
  unfolding output
  output_good =
      each_append Good (keep is_leading es) _ (raw_good is_leading leading_pathless)
      (each_append Good (map segment (new_segments es cap)) _ segments_good
      (each_append Good (keep is_other es) _ (raw_good is_other other_pathless)
      (each_append Good (map link (new_links es cap)) _ links_good paths_good)))

-- ---- the text

-- the rewritten text has no bad byte
pub rewritten_clean : (es : List Entry) (cap : ℕ) → Each From es → bad_byte 0 (rewritten es cap) ≡ None
rewritten_clean es cap from = rw rewritten_output (written_good (output es cap) (each_implies (λ e g. g.line) (output es cap) (output_good es cap from)))

-- the rewritten text is read as the entries of the output, but for the places of their steps
pub rewritten_erased : (es : List Entry) (cap : ℕ) (text : List ℕ) → Each From es → parse text ≡ parsed es
    → erase_parsed (parse (rewritten es cap)) ≡ parsed (map erase (output es cap))
rewritten_erased es cap text from reads =
    let good = output_good es cap from in
    rw rewritten_output
    (read_again (output es cap) (each_implies (λ e g. g.again) (output es cap) good) (output_distinct es cap (parse_distinct text es reads)) (each_implies (λ e g. g.line) (output es cap) good))

-- what is parsed but for places is parsed
erased_parsed : (r : Parsed) (es : List Entry) → erase_parsed r ≡ parsed es → (after : List Entry) × (r ≡ parsed after) × (map erase after ≡ es)
unfolding erase_parsed
erased_parsed (refused_at n line) es e = let z : ◌≡◌ {A = ℕ} 0 1 = cc in absurd (omega arith)
erased_parsed (parsed after) es e = (after, refl, cc)

-- ---- the records of the output, read again

-- What reading the output again gives: no bad byte, the raw lines, the old and the new segments, the links kept and added, and the paths with their new steps.
pub record Reread (es : List Entry) (cap : ℕ) (text : List ℕ) (after : List Entry) : Type 0 where
  pub clean : bad_byte 0 text ≡ None
  pub reads : parse text ≡ parsed after
  pub old_leading : leading after ≡ leading es
  pub old_others : others after ≡ others es
  pub new_segments_read : segments after ≡ segments es ++ map as_segment (transform es cap).made.new
  pub new_links_read : links after ≡ kept es cap ++ map as_link (added es cap)
  -- kinds, fields and steps, but for the places of the steps
  pub renewed_paths : map erase_path (paths after) ≡ map erase_path (new_paths es cap)
  pub new_paths_read : map (λ p. map as_new p.steps) (paths after) ≡ (transform es cap).paths

-- a path's steps as new steps do not depend on their places
path_as_new : (ps : List Path) → map (λ p. map as_new p.steps) (map erase_path ps) ≡ map (λ p. map as_new p.steps) ps
unfolding erase_path erase_step unplaced as_new
path_as_new ps = map-map (λ p. map as_new p.steps) erase_path ps ∙ simp map-map

-- the records of entries that are those of the output but for places
after_reread : (es : List Entry) (cap : ℕ) (text : List ℕ) (after : List Entry) → bad_byte 0 text ≡ None → parse text ≡ parsed after
    → map erase after ≡ map erase (output es cap) → Reread es cap text after
unfolding new_segments new_links
after_reread es cap text after clean reads e =
    let a = sorted_erase after in
    let b = sorted_erase (output es cap) in
    let o = output_sorted es cap in
    let renewed : map erase_path (paths after) ≡ map erase_path (new_paths es cap) = cc (a.of_paths, b.of_paths, o.of_paths, e) in
    record {
      clean = clean;
      reads = reads;
      old_leading = cc (a.of_leading, b.of_leading, o.of_leading, e);
      old_others = cc (a.of_others, b.of_others, o.of_others, e);
      new_segments_read = cc (a.of_segments, b.of_segments, o.of_segments, e);
      new_links_read = cc (a.of_links, b.of_links, o.of_links, e);
      renewed_paths = renewed;
      new_paths_read = sym (path_as_new (paths after)) ∙ ap (map (λ p. map as_new p.steps)) renewed ∙ path_as_new (new_paths es cap) ∙ output_steps es cap;
    }

-- the rewritten text of a text with no bad byte is read again
pub reread : (text : List ℕ) (es : List Entry) (cap : ℕ) → bad_byte 0 text ≡ None → parse text ≡ parsed es
    → (after : List Entry) × Reread es cap (rewritten es cap) after
reread text es cap good reads =
    let from = parse_from text es good reads in
    let (after, r, e) = erased_parsed (parse (rewritten es cap)) (map erase (output es cap)) (rewritten_erased es cap text from reads) in
    (after, after_reread es cap (rewritten es cap) after (rewritten_clean es cap from) r e)

-- The third demand, from what rereading the output gives. Assumes nothing.
use Prim.Native.Nat.{ℕ, ◌+◌}
use native.Mathlib.Omega.{arith}
use mathlib.Core.Bool.{true, false≢true}
use mathlib.Core.List.{List, [], ◌∷◌, ◌++◌, map, map-map}
use Rattle.std.specs.Prelude.{None}
use mathlib.Core.Path.{◌≡◌, refl, sym, ap, ◌∙◌}
use lib.ListN.{length, length-map}
use Rattle.gfa_spec.specs.Bytes.{is_empty, any, sum, nth, Each}
use Rattle.gfa_spec.specs.Reading.{Step, Segment, Path, Entry, parsed, parse}
use Rattle.gfa_spec.specs.Records.{segments, paths, sequence_of}
use Rattle.gfa_spec.specs.Runs.{Run, runs, is_repeat, pairs}
use Rattle.gfa_spec.specs.Sequences.{complement}
use Rattle.gfa_spec.specs.Spelling.{spell}
use Rattle.gfa_spec.proofs.Tests.{by_test, same_refl}
use Rattle.gfa_spec.proofs.Known.{Known, all_known, spelt_known, none_bad}
use Rattle.gfa_spec.proofs.Each.{each_implies, each_map, nth_map, nth_each}
use Rattle.normalize_spec.specs.Folding.{folded, is_folded_run, Made, NewStep, same_new_step, as_new, transform}
use Rattle.normalize_spec.specs.Guarantees.{looser, steps_of, loss, Kept, Monotone, loss_of}
use Rattle.gfa_spec.specs.Calls.{bad_byte}
use Rattle.gfa_spec.specs.Services.{bad_step}
use Rattle.normalize_spec.specs.Writing.{rewritten}
use Rattle.normalize_spec.specs.Counting.{rewritten_stats}
use Rattle.normalize_spec.specs.Services.{as_step, as_segment, same_spelling, spells_alike, unchanged_spelling, normal, fold}
use Rattle.normalize_spec.proofs.Images.{images, HasId, transform_images, transform_has}
use Rattle.normalize_spec.proofs.Lookup.{sequence_in}
use Rattle.normalize_spec.proofs.Fall.{OnSegment}
use Rattle.normalize_spec.proofs.Spelled.{spell_new, spell_known, sound_spells}
use Rattle.normalize_spec.proofs.Segments.{SoundTable, transform_sound}
use Rattle.normalize_spec.proofs.Monotone.{folded_looser, loss_looser}
use Rattle.normalize_spec.proofs.Output.{as_new_as_step}
use Rattle.normalize_spec.proofs.Reread.{Reread}
use Rattle.normalize_spec.proofs.Counters.{step_as_new}
use Rattle.normalize_spec.proofs.Whole.{new_path, as_many, path_lost, path_fall, path_same}

-- ---- where no step is bad

-- the steps of path k are known
known_paths : (es : List Entry) (k : ℕ) → bad_step es (paths es) ≡ None → Each (λ s. Known (segments es) s.name.bytes) (steps_of es k)
unfolding steps_of
known_paths es k h =
    let known : List Step → Type 0 = λ steps. Each (λ s. Known (segments es) s.name.bytes) steps in
    nth_each known k (map (λ p. p.steps) (paths es)) [] (each_map known (λ p. p.steps) (paths es) (none_bad es (paths es) h)) tt

-- ---- 20 never comes

-- a path of known steps spells as its new path does
alike : (ss after : List Segment) (steps read : List Step) → Each (λ s. Known ss s.name.bytes) steps → spell complement after read ≡ spell complement ss steps
    → same_spelling (spell complement ss steps) (spell complement after read) ≡ true
unfolding same_spelling
alike ss after steps read known e = rw (e, spell_known complement ss steps known) (same_refl (spell_new complement ss (map as_new steps)))

-- all paths of known steps spell as their new paths do
paths_alike : (ss fs : List Segment) (made : Made) → SoundTable ss made → (ps : List Path) → Each (λ p. Each (HasId fs made.new) (runs p.steps)) ps
    → Each (λ p. Each (λ s. Known ss s.name.bytes) p.steps) ps
    → spells_alike ss (ss ++ map as_segment made.new) ps (map (λ p. images fs made.new (runs p.steps)) ps) ≡ true
unfolding spells_alike
paths_alike ss fs made sound [] has known = refl
paths_alike ss fs made sound (p ∷ ps) has known =
    let after = ss ++ map as_segment made.new in
    let read = map as_step (images fs made.new (runs p.steps)) in
    let e = sound_spells complement ss fs after made sound (λ name. refl) p.steps read (as_new_as_step (images fs made.new (runs p.steps))) has.0 known.0 in
    rw (alike ss after p.steps read known.0 e) (paths_alike ss fs made sound ps has.1 known.1)

-- where no step is bad, every new path spells what its path spells
pub spelling_unchanged : (es : List Entry) (cap : ℕ) → bad_step es (paths es) ≡ None → unchanged_spelling es cap ≡ true
unfolding unchanged_spelling
spelling_unchanged es cap good =
    rw (transform_images es cap) (paths_alike (segments es) (folded es cap) (transform es cap).made (transform_sound es cap) (paths es) (transform_has es cap) (none_bad es (paths es) good))

-- a normalization with no bad step is accepted, up to the room for it
pub fold_accepts : (es : List Entry) (cap : ℕ) → bad_step es (paths es) ≡ None
    → fold es cap (bad_step es (paths es)) ≡ normal (rewritten es cap) (rewritten_stats es cap)
unfolding fold
fold_accepts es cap good = rw (good, spelling_unchanged es cap good)

-- ---- where some segment is folded

-- path k of the output is new path k
reread_steps : (es : List Entry) (cap : ℕ) (after : List Entry) → map (λ p. map as_new p.steps) (paths after) ≡ (transform es cap).paths → (k : ℕ)
    → map as_new (steps_of after k) ≡ new_path es cap k
unfolding steps_of new_path
reread_steps es cap after e k =
    sym (nth_map (map as_new) k (map (λ p. p.steps) (paths after)) [])
    ∙ ap (λ (l : List (List NewStep)). nth k l []) (map-map (map as_new) (λ p. p.steps) (paths after) ∙ e)

-- the third demand, where some segment is folded and no step is bad
pub kept_folded : (es : List Entry) (cap : ℕ) (output : List ℕ) (after : List Entry) → Reread es cap output after → bad_step es (paths es) ≡ None
    → Kept es cap output after
kept_folded es cap output after r good = record {
  clean = r.clean;
  reads = r.reads;
  as_many = sym (length-map (paths after) (λ p. map as_new p.steps)) ∙ ap length r.new_paths_read ∙ as_many es cap;
  spells = spelling_same;
  sequenced = λ k.
      let known = known_paths es k good in
      all_known (segments after) (steps_of after k) (spelt_known complement (segments after) (steps_of after k) (spell_new complement (segments es) (map as_new (steps_of es k))) (spelling_same complement k ∙ spell_known complement (segments es) (steps_of es k) known))
      ∙ sym (all_known (segments es) (steps_of es k) known);
  lost = λ k. path_lost es cap k ∙ ap (λ (n : ℕ). n + loss (folded es cap) (steps_of es k)) (ap length (sym (steps k)) ∙ length-map (steps_of after k) as_new);
  fallen = λ k. path_fall es cap k (named k) ∙ ap (λ (n : ℕ). n + loss (folded es cap) (steps_of es k)) (ap (pairs same_new_step) (sym (steps k)) ∙ step_as_new (steps_of after k));
}
  where
    steps : (k : ℕ) → map as_new (steps_of after k) ≡ new_path es cap k
    steps k = reread_steps es cap after r.new_paths_read k

    spelling_same : (comp : ℕ → ℕ) (k : ℕ) → spell comp (segments after) (steps_of after k) ≡ spell comp (segments es) (steps_of es k)
    spelling_same comp k =
        path_same es cap comp (segments after) (steps_of after k) k (λ name. ap (λ (ss : List Segment). sequence_of ss name) r.new_segments_read) (steps k) (known_paths es k good)

    named : (k : ℕ) → Each (OnSegment (segments es)) (steps_of es k)
    named k = each_implies (λ s q. sequence_in (segments es) s.name.bytes q.sequence q.found) (steps_of es k) (known_paths es k good)

-- ---- where none is folded

-- where none is folded no run loses a step
none_lost : (rs : List Run) → sum (map (loss_of []) rs) ≡ 0
unfolding sum loss_of is_folded_run any
none_lost [] = refl
none_lost (r ∷ rs) = by_test (is_repeat r) (λ e. rw e (omega (arith, none_lost rs))) (λ e. rw e (omega (arith, none_lost rs)))

-- where none is folded no step is lost
none_loss : (fs : List Segment) (steps : List Step) → is_empty fs ≡ true → loss fs steps ≡ 0
unfolding is_empty loss
none_loss [] steps h = unfold loss_of in none_lost (runs steps)
none_loss (f ∷ fs) steps h = absurd (false≢true h)

-- the third demand, where none is folded and the text is returned
pub kept_unchanged : (es : List Entry) (cap : ℕ) (text : List ℕ) → is_empty (folded es cap) ≡ true → bad_byte 0 text ≡ None → parse text ≡ parsed es
    → Kept es cap text es
kept_unchanged es cap text empty clean reads = record {
  clean = clean;
  reads = reads;
  as_many = refl;
  spells = λ comp k. refl;
  sequenced = λ k. refl;
  lost = λ k. omega (arith, none_loss (folded es cap) (steps_of es k) empty);
  fallen = λ k. omega (arith, none_loss (folded es cap) (steps_of es k) empty);
}

-- ---- two caps

-- of two outputs that keep the third demand, the one under the looser cap has no more steps
pub monotone : (es : List Entry) (c d : ℕ) (output-c output-d : List ℕ) (after-c after-d : List Entry) → looser c d ≡ true → Kept es c output-c after-c
    → Kept es d output-d after-d → Monotone es c d after-c after-d
monotone es c d output-c output-d after-c after-d loose kc kd = record {
  folds = folded_looser c d loose es;
  loses = λ k. loss_looser c d loose es (steps_of es k);
  no_more = λ k. omega (arith, kc.lost k, kd.lost k, loss_looser c d loose es (steps_of es k));
}

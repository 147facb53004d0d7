-- Laws of spelling, step by step from the front, and of the first bad step. Assumes nothing.
use Prim.Native.Nat.{ℕ, ◌+◌, ◌≤◌, ◌<◌}
use native.Mathlib.Omega.{arith}
use mathlib.Core.Bool.{Bool, true, false, cond}
use mathlib.Core.List.{List, [], ◌∷◌, ◌++◌, append-nil, append_assoc}
use Rattle.std.specs.Prelude.{Option, None, Some, Result, Ok, Err}
use mathlib.Core.Path.{◌≡◌, refl, sym, ap, ◌∙◌}
use Rattle.tables.specs.declared.tables.Bases.{Bases}
use Rattle.tables.specs.declared.tables.Counts.{Counts}
use Rattle.tables.specs.declared.entry.SegmentNo.{SegmentNo}
use Rattle.tables.specs.declared.rows.SegmentWords.{SegmentWords}
use Rattle.tables.specs.declared.rows.PathWords.{PathWords}
use Rattle.tables.specs.declared.rows.StepWords.{StepWords}
use Rattle.refusals.specs.declared.refusal.Refusal.{Refusal}
use Rattle.refusals.specs.declared.reason.Reason.{Reason}
use Rattle.refusals.specs.declared.reason.Reason.TheVariants.{UnknownSegment, StarSegment}
use Rattle.refusals.specs.Reasons.{number_of}
use Rattle.refusals.specs.Refusals.{stated}
use Rattle.gfa_spec.specs.Bytes.{Part, same, star}
use Rattle.gfa_spec.specs.Reading.{Step, Segment, Path, Entry}
use Rattle.gfa_spec.specs.Records.{segments, paths, sequence_of}
use Rattle.gfa_spec.specs.Sequences.{complement, oriented}
use Rattle.gfa_spec.specs.Spelling.{Spelt, bad, spelt, behind, spell_step, spell}
use Rattle.gfa_spec.specs.Calls.{on_name}
use Rattle.gfa_spec.specs.Services.{bad_step}
use Rattle.gfa_spec.proofs.Parts.{length_part}
use Rattle.scan.specs.declared.places.Place.{Place}
use Rattle.scan.specs.Places.{part_at, bytes_in, Inside}
use Rattle.scan.specs.Orientations.{sign_of}
use Rattle.writers.specs.declared.writer.Writer.{Writer}
use Rattle.writers.specs.Writers.{Puts}
use Rattle.writers.proofs.Writing.{◌▷◌, puts_nothing}
use Rattle.tables.specs.ByNumber.{path_no, step_no, segments_of, paths_to, paths_from, steps_from, SegmentIs, PathIs, StepIs, NamedIs}
use Rattle.tables.proofs.Named.{named_below, named_sequence, unnamed_sequence}
use Rattle.tables.proofs.ByNumber.{steps_next, steps_none, paths_all, paths_next, paths_none}
use Rattle.spelling.specs.Spelled.{SequenceIs, BadStepAt, SpeltIs, BadStepIs}

-- ---- the sequence of a name

module _ {text work : List ℕ} {b : Bases} {n : Counts} {name : Place} {r : Option SegmentNo} (h : NamedIs text work b n name r) where
  -- no segment has the name
  pub sequence_unknown : r ≡ None → SequenceIs text work b n name None
  sequence_unknown e = record { says = record { missing = unnamed_sequence h e } }

  -- its row tells the sequence
  pub sequence_found : {k : ℕ} {s : SegmentWords} → r ≡ Some (record { 0 = k }) → SegmentIs text work b k s → SequenceIs text work b n name (Some s.sequence)
  sequence_found e q = record { says = record { found = named_sequence h e q; inside = q.sequence } }

pub ruleset sequence_named = (sequence_unknown, sequence_found, named_below)

-- ---- pieces in front of what is spelled

-- nothing in front
behind_none : (s : Spelt) → behind [] s ≡ s
unfolding behind
behind_none (bad n name) = refl
behind_none (spelt seq) = refl

-- one piece in front, and another in front of that
behind_behind : (p q : List ℕ) (s : Spelt) → behind p (behind q s) ≡ behind (p ++ q) s
unfolding behind
behind_behind p q (bad n name) = refl
behind_behind p q (spelt seq) = ap spelt (sym (append_assoc p q seq))

-- what the first step alone spells, in front of what the others spell
chain : Spelt → Spelt → Spelt
chain (bad n name) more = bad n name
chain (spelt seq) more = behind seq more

chain_step : (s : Step) (o : Option (List ℕ)) (more : Spelt) → spell_step complement s o more ≡ chain (spell_step complement s o (spelt [])) more
unfolding spell_step chain behind
chain_step s None more = refl
chain_step s (Some seq) more = go (same seq star)
  where
    x : List ℕ
    x = oriented complement s.orientation seq

    go : (t : Bool) → cond t (bad 19 s.name) (behind x more) ≡ chain (cond t (bad 19 s.name) (behind x (spelt []))) more
    go true = refl
    go false = rw append-nil

spell_chain : (ss : List Segment) (s : Step) (more : List Step) → spell complement ss (s ∷ more) ≡ chain (spell complement ss (s ∷ [])) (spell complement ss more)
unfolding spell
spell_chain ss s more = chain_step s (sequence_of ss s.name.bytes) (spell complement ss more)

-- ---- one step

module _ {text work : List ℕ} {b : Bases} {n : Counts} {i : ℕ} {s : StepWords} {r : Option Place} (t : StepIs text work b i s) (h : SequenceIs text work b n s.name r) where
  abbrev one_step : Spelt
  one_step = spell complement (segments_of text work b n) (step_no text work b i ∷ [])

  -- the refusal of it
  abbrev refused_as : Reason → Refusal
  refused_as reason = record { reason = reason; line = 0; from = s.name.start; length = s.name.size }

  -- no segment has its name
  pub step_unknown : {before after : Writer} {d : Refusal} → r ≡ None → d ≡ refused_as UnknownSegment → SpeltIs text before one_step after (Err d)
  unfolding spell spell_step part_at
  step_unknown q e = rw e (record { says = record { spells = rw (t.step, (rw q at h.says).missing); inside = t.name; line = refl } })

  module _ {seq : Place} (q : r ≡ Some seq) where
    known : sequence_of (segments_of text work b n) (bytes_in text s.name) ≡ Some (bytes_in text seq)
    known = (rw q at h.says).found

    -- its sequence is within the text
    pub sequence_inside : Inside text seq
    sequence_inside = (rw q at h.says).inside

    module _ {d : Bool} (g : d ≡ same (bytes_in text seq) star) where
      -- its segment has sequence `*`
      pub step_star : {before after : Writer} {f : Refusal} → d ≡ true → f ≡ refused_as StarSegment → SpeltIs text before one_step after (Err f)
      unfolding spell spell_step part_at
      step_star z e = rw e (record { says = record { spells = rw (t.step, known, sym g ∙ z); inside = t.name; line = refl } })

      -- its sequence is put as it is oriented
      pub step_put : {before after : Writer} {mark : ℕ} → d ≡ false → Puts before (oriented complement mark (bytes_in text seq)) after → mark ≡ sign_of s.mark → SpeltIs text before one_step after (Ok tt)
      unfolding spell spell_step behind part_at
      step_put z w o =
          record { says = record { bytes = oriented complement (sign_of s.mark) (bytes_in text seq); spells = rw (t.step, known, sym g ∙ z, append-nil); puts = rw o at w } }

-- ---- a loop over the steps: a piece is put, and all steps spell that piece and then the rest

-- The state at step i: what the steps before it spell was put.
pub record SoFar (before : Writer) (text work : List ℕ) (b : Bases) (n : Counts) (first end : ℕ) (now : Writer) (i : ℕ) : Type 0 where
  pub low : first ≤ i
  pub high : i ≤ end
  pub piece : List ℕ
  pub puts : Puts before piece now
  pub spells : spell complement (segments_of text work b n) (steps_from text work b first end) ≡ behind piece (spell complement (segments_of text work b n) (steps_from text work b i end))

module _ {before : Writer} {text work : List ℕ} {b : Bases} {n : Counts} {first end : ℕ} where
  -- before the first step
  pub so_far_start : first ≤ end → SoFar before text work b n first end before first
  so_far_start h =
      record {
        low = omega arith;
        high = h;
        piece = [];
        puts = puts_nothing;
        spells = sym (behind_none (spell complement (segments_of text work b n) (steps_from text work b first end)));
      }

  module _ {now after : Writer} {i : ℕ} {r : Result (Unit {0}) Refusal} (s : SoFar before text work b n first end now i) (h : i < end)
      (one : SpeltIs text now (spell complement (segments_of text work b n) (step_no text work b i ∷ [])) after r) where
    abbrev ss : List Segment
    ss = segments_of text work b n

    -- all steps spell the piece, then this step and those behind it
    chained : spell complement ss (steps_from text work b first end)
        ≡ behind s.piece (chain (spell complement ss (step_no text work b i ∷ [])) (spell complement ss (steps_from text work b (i + 1) end)))
    chained = s.spells ∙ rw (steps_next text work b i end h, spell_chain ss (step_no text work b i) (steps_from text work b (i + 1) end))

    -- a step that spells something
    pub so_far_more : {u : Unit {0}} → r ≡ Ok u → SoFar before text work b n first end after (i + 1)
    unfolding chain
    so_far_more e =
        let got = rw e at one.says in
        record {
          low = omega (arith, s.low);
          high = omega arith;
          piece = s.piece ++ got.bytes;
          puts = s.puts ▷ got.puts;
          spells = chained ∙ rw got.spells (behind_behind s.piece got.bytes (spell complement ss (steps_from text work b (i + 1) end)));
        }

    -- a bad step
    pub so_far_bad : {f : Refusal} → r ≡ Err f → SpeltIs text before (spell complement (segments_of text work b n) (steps_from text work b first end)) after (Err f)
    unfolding chain behind
    so_far_bad e =
        let got = rw e at one.says in
        record { says = record { spells = chained ∙ rw got.spells; inside = got.inside; line = got.line } }

  -- after the last step
  pub so_far_end : {now : Writer} {i : ℕ} → SoFar before text work b n first end now i → end ≤ i
      → SpeltIs text before (spell complement (segments_of text work b n) (steps_from text work b first end)) now (Ok tt)
  unfolding behind spell
  so_far_end {i = i} s h = record { says = record { bytes = s.piece; spells = s.spells ∙ rw (steps_none text work b i end h, append-nil); puts = s.puts } }

-- Where steps are known to spell bytes, the speller put them, whatever it answered.
pub spelt_wrote : {text : List ℕ} {before after : Writer} {s : Spelt} (r : Result (Unit {0}) Refusal) (bs : List ℕ) → SpeltIs text before s after r → s ≡ spelt bs → Puts before bs after
spelt_wrote (Ok u) bs h e =
    let same_bytes : h.says.bytes ≡ bs = cc (h.says.spells, e) in
    rw same_bytes at h.says.puts
spelt_wrote (Err f) bs h e = let z : ◌≡◌ {A = ℕ} 0 1 = cc (h.says.spells, e) in absurd (omega arith)

-- ---- the first bad step of all paths

-- the refusal of a bad step is that of its name
pub bad_refusal : {text : List ℕ} {s : Spelt} {f : Refusal} → BadStepAt text s f → stated f ≡ on_name (number_of f.reason) (part_at text f.from f.length)
unfolding on_name part_at
bad_refusal {text} {f = f} h = rw (length_part f.from f.length text h.inside, h.line)

-- a path without a bad step is passed over
pass_good : (es : List Entry) (p : Path) (ps : List Path) (bytes : List ℕ) → spell complement (segments es) p.steps ≡ spelt bytes → bad_step es (p ∷ ps) ≡ bad_step es ps
unfolding bad_step
pass_good es p ps bytes e = rw (e, bad_step)

-- a path with one ends the search
stop_bad : (es : List Entry) (p : Path) (ps : List Path) (k : ℕ) (name : Part) → spell complement (segments es) p.steps ≡ bad k name → bad_step es (p ∷ ps) ≡ Some (on_name k name)
unfolding bad_step
stop_bad es p ps k name e = rw (e, bad_step)

-- The search at path i: the first bad step is that of the paths from there on.
pub record Seeking (text work : List ℕ) (b : Bases) (n : Counts) (i : ℕ) : Type 0 where
  pub high : i ≤ n.paths
  pub left : (es : List Entry) → segments es ≡ segments_of text work b n → paths es ≡ paths_to text work b n.paths → bad_step es (paths es) ≡ bad_step es (paths_from text work b n i)

module _ {text work : List ℕ} {b : Bases} {n : Counts} where
  pub seeking_start : Seeking text work b n 0
  seeking_start = record { high = omega arith; left = λ es s p. ap (bad_step es) (p ∙ paths_all text work b n) }

  pub seeking_end : {i : ℕ} → Seeking text work b n i → n.paths ≤ i → BadStepIs text work b n (Ok tt)
  unfolding bad_step
  seeking_end {i} k h = record { first = λ es s p. k.left es s p ∙ rw (paths_none text work b n i h) }

  module _ {i : ℕ} {before after : Writer} {p : PathWords} {r : Result (Unit {0}) Refusal} (k : Seeking text work b n i) (h : i < n.paths) (q : PathIs text work b n i p)
      (one : SpeltIs text before (spell complement (segments_of text work b n) (steps_from text work b p.steps.first p.steps.end)) after r) where
    -- what path i spells
    here : (es : List Entry) (s : Spelt) → segments es ≡ segments_of text work b n
        → spell complement (segments_of text work b n) (steps_from text work b p.steps.first p.steps.end) ≡ s → spell complement (segments es) (path_no text work b i).steps ≡ s
    here es s g e = rw (g, q.path) e

    pub seeking_more : {u : Unit {0}} → r ≡ Ok u → Seeking text work b n (i + 1)
    seeking_more e =
        let got = rw e at one.says in
        let good : (es : List Entry) → segments es ≡ segments_of text work b n → bad_step es (paths_from text work b n i) ≡ bad_step es (paths_from text work b n (i + 1))
        = λ es s. rw (paths_next text work b n i h) (pass_good es (path_no text work b i) _ got.bytes (here es (spelt got.bytes) s got.spells)) in
        record { high = omega arith; left = λ es s p. k.left es s p ∙ good es s }

    pub seeking_bad : {f : Refusal} → r ≡ Err f → BadStepIs text work b n (Err f)
    seeking_bad {f} e =
        let got = rw e at one.says in
        let its = part_at text f.from f.length in
        let refusal : Some (stated f) ≡ Some (on_name (number_of f.reason) its) = ap Some (bad_refusal got) in
        record {
          first = λ es s p. k.left es s p
              ∙ rw (paths_next text work b n i h) (stop_bad es (path_no text work b i) _ (number_of f.reason) its (here es (bad (number_of f.reason) its) s got.spells) ∙ sym refusal);
        }

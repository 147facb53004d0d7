-- A line that its record is added of stays ready to be read. Assumes nothing.
use Rattle.std.specs.Prelude.{Result, Ok, Err}
use Rattle.refusals.specs.declared.reason.Reason.{Reason}
use Rattle.tables.specs.declared.entry.Record.{Record}
use Rattle.tables.specs.declared.kinds.PathKind.{PathKind}
use Rattle.tables.specs.declared.rows.SegmentWords.{SegmentWords}
use Rattle.tables.specs.declared.rows.LinkWords.{LinkWords}
use Rattle.tables.specs.declared.rows.PathWords.{PathWords}
use Rattle.tables.specs.declared.tables.Bases.{Bases}
use Rattle.tables.specs.declared.tables.Counts.{Counts}
use Rattle.lines.specs.declared.new_line.NewLine.{NewLine}
use Rattle.tables.specs.ByNumber.{link_words, path_words}
use Rattle.tables.specs.Names.{Inserted}
use Rattle.tables.specs.Entries.{words_of}
use Rattle.lines.specs.PathLines.{PathStepsAre, PathSays}
use Prim.Native.Nat.{ℕ, ◌+◌, ◌*◌, ◌≤◌}
use native.Mathlib.Omega.{arith}
use mathlib.Core.List.{List, [], ◌∷◌}
use mathlib.Core.Logic.{◌⊎◌, inl, inr}
use mathlib.Core.Path.{◌≡◌, refl, ◌∙◌}
use lib.ListN.{length}
use lib.Seq.{sets, length-sets}
use Rattle.work.specs.Rows.{Range, span, Only}
use Rattle.lines.specs.Lines.{Ready}
use Rattle.lines.specs.NewLines.{SameLine}
use Rattle.work.proofs.Rows.{Apart, only_put, only_kept}
use Rattle.tables.proofs.TableRows.{segment_rows_kept, three_words}

pub same_none : {l : NewLine} → SameLine l l
same_none = record { text = refl; loan = refl; bases = refl; counts = refl; line = refl }

pub same_then : {a b c : NewLine} → SameLine a b → SameLine b c → SameLine a c
same_then s t = record { text = t.text ∙ s.text; loan = t.loan ∙ s.loan; bases = t.bases ∙ s.bases; counts = t.counts ∙ s.counts; line = t.line ∙ s.line }

module _ {text work work' : List ℕ} {b : Bases} {n : Counts} {start size : ℕ} (y : Ready text work b n start size) where
  -- what changed is apart from the rows of the segments
  ready_kept : {rs : List Range} → Only rs work work' → Apart b.segs (b.segs + 7 * n.segs) rs → length work' ≡ length work → Ready text work' b n start size
  ready_kept only apart long =
      record {
        inside = y.inside;
        short = y.short;
        few = y.few;
        apart = y.apart;
        between = y.between;
        heads = y.heads;
        beyond = y.beyond;
        behind = y.behind;
        room = omega (arith, y.room, long);
        rows = segment_rows_kept (only_kept b.segs (b.segs + 7 * n.segs) only apart) text b.segs n.segs (omega arith) (omega arith) y.rows;
      }

  ready_put : (at : ℕ) (vs : List ℕ) → work' ≡ sets work at vs → (b.segs + 7 * n.segs ≤ at) ⊎ (at + length vs ≤ b.segs) → Ready text work' b n start size
  ready_put at vs q apart = ready_kept {rs = span at (at + length vs) ∷ []} (rw q (only_put vs work at)) (apart, tt) (rw q (length-sets work at vs))

  pub ready_segment : {w : SegmentWords} → Inserted text work work' b n.segs w → Ready text work' b n start size
  ready_segment q = ready_kept q.only (inl (omega arith), (inl (omega (arith, y.between)), tt)) q.long

  pub ready_link : (w : LinkWords) → work' ≡ sets work (b.links + 8 * n.links) (link_words w) → Ready text work' b n start size
  ready_link w q = ready_put (b.links + 8 * n.links) (link_words w) q (inl (omega (arith, y.between, y.heads)))

  pub ready_path : (w : PathWords) → work' ≡ sets work (b.paths + 5 * n.paths) (path_words w) → Ready text work' b n start size
  ready_path w q = ready_put (b.paths + 5 * n.paths) (path_words w) q (inl (omega (arith, y.between, y.heads, y.beyond)))

  pub ready_entry : (r : Record) → work' ≡ sets work (b.lines + 3 * n.lines) (words_of r) → Ready text work' b n start size
  ready_entry r q = ready_put (b.lines + 3 * n.lines) (words_of r) q (inr (rw (three_words r) (omega (arith, y.apart))))

  -- the steps of a line, or of a part of it that is refused
  pub ready_steps : {kind : PathKind} {c : Result ℕ Reason} → PathStepsAre text work work' b n start size kind c → Ready text work' b n start size
  ready_steps {kind} {c} h = go c h.says
    where
      before : b.segs + 7 * n.segs ≤ b.steps + 3 * n.steps
      before = omega (arith, y.between, y.heads, y.beyond, y.behind)

      go : (c : Result ℕ Reason) → PathSays text work work' b n start size kind c → Ready text work' b n start size
      go (Ok m) p = ready_kept p.only (inl before, tt) p.long
      go (Err k) p = ready_kept p.only (inl before, tt) p.long

-- The sections, one behind the other, are the rewritten text. Assumes nothing.
use Rattle.normalize_tables.specs.News.{first_of}
use Prim.Native.Nat.{ℕ}
use mathlib.Core.List.{List, ◌++◌, append_assoc}
use mathlib.Core.Path.{◌≡◌, ◌∙◌}
use Rattle.gfa_spec.specs.Bytes.{ended}
use Rattle.gfa_spec.specs.Reading.{Segment}
use Rattle.normalize_spec.specs.Links.{is_removed}
use Rattle.writers.specs.declared.writer.Writer.{Writer}
use Rattle.writers.specs.Writers.{Puts, pieces_to}
use Rattle.writers.proofs.Writing.{as_piece, ◌▷◌}
use Rattle.writers.proofs.Joining.{ended_append}
use Rattle.tables.specs.declared.tables.Bases.{Bases}
use Rattle.tables.specs.declared.tables.Counts.{Counts}
use Rattle.normalize_tables.specs.declared.layout.Layout.{Layout}
use Rattle.normalize_tables.specs.declared.layout.Made.{Made}
use Rattle.normalize_tables.specs.Rewritten.{Relinked}
use Rattle.rewrite.specs.declared.lines.Class.TheVariants as class
use Rattle.rewrite.specs.Pieces.{raw_piece, segment_piece, new_piece, kept_piece, added_piece}
use Rattle.rewrite.specs.Rewriting.{front_at, back_at, rewritten_from, WroteText}
use Rattle.rewrite.proofs.Sections.{leading_pieces, segment_pieces, new_pieces, others_pieces, kept_pieces, added_pieces, paths_pieces}
use Rattle.path_lines.specs.PathPieces.{nodes, path_piece}

-- seven sections
seven : (a b c d e f g : List (List ℕ)) → ended (a ++ (b ++ (c ++ (d ++ (e ++ (f ++ g)))))) ≡ (ended a ++ (ended b ++ (ended c ++ ended d))) ++ (ended e ++ (ended f ++ ended g))
seven a b c d e f g = simp (ended_append, append_assoc)

module _ (text work : List ℕ) (b : Bases) (n : Counts) (g : Layout) (m : Made) {before after : Writer} where
  pub front_put : {x y z : Writer} → Puts before (pieces_to (raw_piece class.Leading text work b) n.lines) x → Puts x (pieces_to (segment_piece text work b) n.segs) y
      → Puts y (pieces_to (new_piece text work b g (first_of m.first)) m.segs) z → Puts z (pieces_to (raw_piece class.Other text work b) n.lines) after → Puts before (front_at text work b n g m) after
  unfolding front_at
  front_put leading segments new others = as_piece (simp append_assoc) (leading ▷ segments ▷ new ▷ others)

  pub back_put : (extra : ℕ) {x y : Writer} → Puts before (pieces_to (kept_piece text work b g) n.links) x → Puts x (pieces_to (added_piece (nodes text work b n g m) work g) extra) y
      → Puts y (pieces_to (path_piece (nodes text work b n g m) text work b g) n.paths) after → Puts before (back_at text work b n g m extra) after
  unfolding back_at
  back_put extra kept added paths = as_piece (simp append_assoc) (kept ▷ added ▷ paths)

module _ (text work : List ℕ) (b : Bases) (n : Counts) (g : Layout) (m : Made) (extra : ℕ) where
  whole_text : {fs : List Segment} → Relinked text work b n g fs m extra → front_at text work b n g m ++ back_at text work b n g m extra ≡ rewritten_from text work b n g fs m extra
  unfolding rewritten_from front_at back_at
  whole_text {fs} h =
      let names = nodes text work b n g m in
      rw (
        seven,
        leading_pieces text work b n.lines,
        others_pieces text work b n.lines,
        segment_pieces text work b n.segs,
        new_pieces text work b m.segs n g (first_of m.first),
        kept_pieces (is_removed fs) text work b g n.links h.removed,
        added_pieces names work g extra,
        paths_pieces names text work b g n.paths,
      )

  pub whole_put : {before x after : Writer} → Puts before (front_at text work b n g m) x → Puts x (back_at text work b n g m extra) after → WroteText before text work b n g m extra after
  whole_put front back = record { same = back.same ∙ front.same; puts = λ fs h. as_piece (whole_text h) (front ▷ back) }

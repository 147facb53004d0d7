-- The whole rewritten text from the tables. Document 01, "Folding", rule 7.
use Rattle.std.specs.Prelude.{ℕ, ◌≡◌, not, List, ◌++◌, map}
use Rattle.gfa_spec.specs.Bytes.{keep, ended}
use Rattle.gfa_spec.specs.Reading.{Segment}
use Rattle.gfa_spec.specs.Records.{leading, others}
use Rattle.normalize_spec.specs.Links.{is_removed}
use Rattle.normalize_spec.specs.Writing.{segment_line, link_line, path_lines}
use Rattle.tables.specs.declared.tables.Bases.{Bases}
use Rattle.tables.specs.declared.tables.Counts.{Counts}
use Rattle.tables.specs.ByNumber.{segments_of, links_to, paths_to}
use Rattle.tables.specs.Entries.{entries_at}
use Rattle.normalize_tables.specs.declared.layout.Layout.{Layout}
use Rattle.normalize_tables.specs.declared.layout.Made.{Made}
use Rattle.normalize_tables.specs.News.{first_of, news_at, names_at, keys_at}
use Rattle.normalize_tables.specs.NewByNumber.{new_paths_to}
use Rattle.normalize_tables.specs.Rewritten.{Relinked}
use Rattle.writers.specs.declared.writer.Writer.{Writer}
use Rattle.writers.specs.Writers.{Puts, pieces_to}
use Rattle.rewrite.specs.declared.lines.Class.TheVariants as class
use Rattle.rewrite.specs.Pieces.{raw_piece, segment_piece, new_piece, kept_piece, added_piece}
use Rattle.path_lines.specs.PathPieces.{nodes, path_piece}

-- the text up to the other lines
unfoldable pub front_at : List ℕ → List ℕ → Bases → Counts → Layout → Made → List ℕ
front_at text work b n g m =
    pieces_to (raw_piece class.Leading text work b) n.lines
    ++ (pieces_to (segment_piece text work b) n.segs ++ (pieces_to (new_piece text work b g (first_of m.first)) m.segs ++ pieces_to (raw_piece class.Other text work b) n.lines))

-- the text from the links on
unfoldable pub back_at : List ℕ → List ℕ → Bases → Counts → Layout → Made → ℕ → List ℕ
back_at text work b n g m extra =
    pieces_to (kept_piece text work b g) n.links
    ++ (pieces_to (added_piece (nodes text work b n g m) work g) extra ++ pieces_to (path_piece (nodes text work b n g m) text work b g) n.paths)

-- the rewritten text of the tables, where `fs` are the folded segments
unfoldable pub rewritten_from : List ℕ → List ℕ → Bases → Counts → Layout → List Segment → Made → ℕ → List ℕ
rewritten_from text work b n g fs m extra =
    let es = entries_at text work b n.lines in
    let names = names_at text work b n g (first_of m.first) m.segs in
    ended (
    leading es
    ++ (map (λ s. s.line) (segments_of text work b n)
    ++ (map segment_line (news_at text work b g (first_of m.first) m.segs)
    ++ (others es
    ++ (map (λ l. l.line) (keep (λ l. not (is_removed fs l)) (links_to text work b n.links))
    ++ (map link_line (keys_at names g.steps work g.added extra)
    ++ path_lines (paths_to text work b n.paths) (new_paths_to names work g n.paths)))))))

-- The rewritten text was written, whichever segments the removed links were marked for.
pub record WroteText (before : Writer) (text work : List ℕ) (b : Bases) (n : Counts) (g : Layout) (m : Made) (extra : ℕ) (after : Writer) : Type 0 where
  pub same : after.out.ghost_name ≡ before.out.ghost_name
  pub puts : (fs : List Segment) → Relinked text work b n g fs m extra → Puts before (rewritten_from text work b n g fs m extra) after

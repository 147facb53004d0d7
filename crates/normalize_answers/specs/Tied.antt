-- The tables of a text, tied to its entries.
use Rattle.std.specs.Prelude.{ℕ, List, ◌≡◌}
use Rattle.gfa_spec.specs.Reading.{Entry}
use Rattle.gfa_spec.specs.Records.{segments, links, paths}
use Rattle.tables.specs.declared.tables.Bases.{Bases}
use Rattle.tables.specs.declared.tables.Counts.{Counts}
use Rattle.tables.specs.Entries.{entries_at}
use Rattle.tables.specs.ByNumber.{segments_of, links_to, paths_to}

-- The tables hold the entries es, their segments, their links and their paths.
pub record Tied (es : List Entry) (text work : List ℕ) (b : Bases) (n : Counts) : Type 0 where
  pub entries : entries_at text work b n.lines ≡ es
  pub of_segments : segments_of text work b n ≡ segments es
  pub of_links : links_to text work b n.links ≡ links es
  pub of_paths : paths_to text work b n.paths ≡ paths es

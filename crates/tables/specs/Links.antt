-- The link table. Document 01, "Reading": link numbers count from 0.
use Rattle.std.specs.Prelude.{ℕ, ◌+◌, ◌≤◌, true, List, ◌≡◌, length, get_or}
use Rattle.gfa_spec.specs.Bytes.{part}
use Rattle.gfa_spec.specs.Reading.{Link, is_orientation}
use Rattle.work.specs.Rows.{rows_at}

-- the link whose row is at the word `at`: start and length of its line, and each end by start, length and orientation
unfoldable pub link_at : List ℕ → List ℕ → ℕ → Link
link_at text work at =
    record {
      from = part (get_or work (at + 2) 0) (get_or work (at + 3) 0) text;
      from_orientation = get_or work (at + 4) 0;
      to = part (get_or work (at + 5) 0) (get_or work (at + 6) 0) text;
      to_orientation = get_or work (at + 7) 0;
      line = part (get_or work at 0) (get_or work (at + 1) 0) text;
    }

-- the first n links of the table at `base`
unfoldable pub links_at : List ℕ → List ℕ → ℕ → ℕ → List Link
links_at text work base n = rows_at (link_at text) 8 work base n

-- A link's row names parts of the text, with + or - at each end.
pub record LinkRow (text work : List ℕ) (at : ℕ) : Type 0 where
  pub line : get_or work at 0 + get_or work (at + 1) 0 ≤ length text
  pub from : get_or work (at + 2) 0 + get_or work (at + 3) 0 ≤ length text
  pub leaves : is_orientation (get_or work (at + 4) 0) ≡ true
  pub to : get_or work (at + 5) 0 + get_or work (at + 6) 0 ≤ length text
  pub enters : is_orientation (get_or work (at + 7) 0) ≡ true

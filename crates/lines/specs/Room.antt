-- How much room the tables of a text take. Document 01, refusal 4: a work area has 4 words for each byte, and 64 more.
use Rattle.std.specs.Prelude.{ℕ, suc, ◌+◌, ◌*◌, ◌-◌, cond, List, [], ◌∷◌, ◌≡◌, eqb, length}
use Rattle.tables.specs.declared.tables.Bases.{Bases}
use Rattle.tables.specs.declared.tables.Counts.{Counts}
use Rattle.gfa_spec.specs.Bytes.{Part, part}
use Rattle.tables.specs.Tables.{one_more, bases_for}

-- 1 where a line has two bytes or more and begins with b; no shorter line is a record
unfoldable pub starting : ℕ → List ℕ → ℕ
starting b [] = 0
starting b (x ∷ []) = 0
starting b (x ∷ (y ∷ ys)) = cond (eqb x b) 1 0

-- at most how many segments, links and paths a line has
unfoldable pub segs_in : List ℕ → ℕ
segs_in line = starting 83 line

unfoldable pub links_in : List ℕ → ℕ
links_in line = starting 76 line

unfoldable pub paths_in : List ℕ → ℕ
paths_in line = starting 80 line + starting 87 line

-- what a line, with its line feed, leaves of its four words a byte: for its steps, and for later tables
unfoldable pub spare_in : List ℕ → ℕ
spare_in line = 4 * suc (length line) - (3 + 8 * segs_in line + 8 * links_in line + 5 * paths_in line)

-- a number of each line, summed
unfoldable pub total : (List ℕ → ℕ) → List Part → ℕ
total f [] = 0
total f (line ∷ more) = f line.bytes + total f more

-- The counts are the tally of some lines: at most how many rows each table but the steps' has.
pub record TallyIs (ls : List Part) (n : Counts) : Type 0 where
  pub lines : n.lines ≡ length ls
  pub segs : n.segs ≡ total segs_in ls
  pub links : n.links ≡ total links_in ls
  pub paths : n.paths ≡ total paths_in ls

-- The counts m are the counts n with those of a line.
pub record LineTally (text : List ℕ) (start size : ℕ) (n m : Counts) : Type 0 where
  pub is : m ≡ one_more n (segs_in (part start size text)) (links_in (part start size text)) (paths_in (part start size text)) 0

-- the tables of some lines
abbrev pub bases_of : List Part → Bases
bases_of ls = bases_for (record { lines = length ls; segs = total segs_in ls; links = total links_in ls; paths = total paths_in ls; steps = 0 })

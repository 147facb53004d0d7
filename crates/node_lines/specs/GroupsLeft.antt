-- The groups that an iterator has left.
use Rattle.std.specs.Prelude.{ℕ, ◌≤◌, List, ◌≡◌}
use Rattle.std.specs.Prelude.{Option, Some, None}
use Rattle.node_lines.specs.declared.buckets.Group.{Group}
use Rattle.node_lines.specs.declared.buckets.Groups.{Groups}
use Rattle.node_lines.specs.Groups.{GroupIs}

-- The groups from number i on are left.
pub record GroupsOf (work : List ℕ) (table nums m i : ℕ) (r : Groups) : Type 0 where
  pub its_work : r.work.now ≡ work
  pub its_table : r.table ≡ table
  pub its_nums : r.nums ≡ nums
  pub its_count : r.m ≡ m
  pub its_first : r.at ≡ i

-- The first of the groups that are left was given; the others are left.
pub record FirstGroup (old : Groups) (g : Group) (new : Groups) : Type 0 where
  pub group : GroupIs old.work.now old.table old.nums old.m old.at g
  pub left : GroupsOf old.work.now old.table old.nums old.m g.end new

-- No group is left.
pub record NoGroup (old new : Groups) : Type 0 where
  pub none : old.m ≤ old.at
  pub same : new ≡ old

-- by the cases of the answer
abbrev pub GroupGiven : Groups → Option Group → Groups → Type 0
GroupGiven old (Some g) new = FirstGroup old g new
GroupGiven old None new = NoGroup old new

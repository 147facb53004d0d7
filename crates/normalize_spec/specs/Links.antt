-- Which links are kept, and which are added. Document 01, "Folding", rule 6.
use Rattle.std.specs.Prelude.{ℕ, Bool, cond, not, ◌&&◌, List, [], ◌∷◌, ◌++◌, map, eqb}
use Rattle.gfa_spec.specs.Bytes.{same, any, keep, join}
use Rattle.gfa_spec.specs.Reading.{Segment, Link, Entry}
use Rattle.gfa_spec.specs.Records.{links, is_self_link}
use Rattle.normalize_spec.specs.Folding.{folded, NewStep, same_new_step, transform}

-- a link that is removed: of equal ends and equal orientations, on a folded segment
unfoldable pub is_removed : List Segment → Link → Bool
is_removed fs l = is_self_link l && eqb l.from_orientation l.to_orientation && any (λ s. same s.id l.from) fs

-- the kept links, in text order
unfoldable pub kept : List Entry → ℕ → List Link
kept es cap = keep (λ l. not (is_removed (folded es cap) l)) (links es)

-- A link's four parts: two ends with their orientations.
pub record Key : Type 0 where
  pub from : NewStep
  pub to : NewStep

-- exactly the same four parts
unfoldable pub same_key : Key → Key → Bool
same_key a b = same_new_step a.from b.from && same_new_step a.to b.to

-- the four parts of a link of the text
unfoldable pub key_of : Link → Key
key_of l = record { from = record { name = l.from; orientation = l.from_orientation }; to = record { name = l.to; orientation = l.to_orientation } }

-- the adjacent pairs of a path, from its left end
unfoldable pub adjacent : List NewStep → List Key
adjacent [] = []
adjacent (s ∷ []) = []
adjacent (s ∷ (t ∷ ts)) = record { from = s; to = t } ∷ adjacent (t ∷ ts)

-- the pairs that are not present, each once, in first-seen order
unfoldable pub missing : List Key → List Key → List Key
missing present [] = []
missing present (k ∷ ks) = cond (any (same_key k) present) (missing present ks) (k ∷ missing (present ++ (k ∷ [])) ks)

-- the added links: for each adjacent pair of each new path, changed or not, that has no kept or already added link
unfoldable pub added : List Entry → ℕ → List Key
added es cap = missing (map key_of (kept es cap)) (join (map adjacent (transform es cap).paths))

-- The cases of a list, as an iterator gives them.
use Rattle.std.specs.Prelude.{◌≡◌, Option, None, Some, length}
use Rattle.cases.specs.declared.lists.Case.{Case}
use Rattle.cases.specs.declared.lists.Cases.{Cases}
use Rattle.cases.specs.Cases.{CaseIs}

-- The case at the place of the iterator, which moves on to the next one.
pub record FirstCase (s : Cases) (c : Case) (t : Cases) : Type 0 where
  pub case : CaseIs (length s.list.now) c.parts.start c.parts
  pub list : c.list.now ≡ s.list.now
  pub here : c.parts.start ≡ s.at
  pub on : t.at ≡ c.parts.next

-- by the cases of the item
abbrev pub CaseSays : Cases → Option Case → Cases → Type 0
CaseSays s (Some c) t = FirstCase s c t
CaseSays s None t = s.at ≡ length s.list.now

-- What the next item says: the next case, or that the list is at its end.
pub record CaseGiven (s : Cases) (r : Option Case) (t : Cases) : Type 0 where
  pub same : t.list ≡ s.list
  pub says : CaseSays s r t

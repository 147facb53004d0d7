-- What a record of the line table is relied on for is one fact.
use Rattle.std.specs.Prelude.{ℕ, List}
use Rattle.std.proofs.Props.{props}
use Rattle.tables.specs.declared.tables.Counts.{Counts}
use Rattle.tables.specs.declared.entry.Record.{Record}
use Rattle.tables.specs.declared.entry.Record.TheVariants.{Segment, Link, Path, Header, Comment, Blank, Other}
use Rattle.tables.specs.Entries.{Fits}

pub Fits-prop : (text : List ℕ) (n : Counts) (r : Record) → IsProp (Fits text n r)
Fits-prop text n (Segment k) = hlevel props
Fits-prop text n (Link k) = hlevel props
Fits-prop text n (Path k) = hlevel props
Fits-prop text n (Header l) = hlevel props
Fits-prop text n (Comment l) = hlevel props
Fits-prop text n (Blank l) = hlevel props
Fits-prop text n (Other l) = hlevel props

-- `tally::visits::count_run` meets its contract: no node has the name, or the one that has it is counted. Assumes nothing.
use borrow.Author.Rules.{rules}
use native.Mathlib.Omega.{arith}
use Rattle.nodes.proofs.Finding.{found}
use Rattle.tally.proofs.Visiting.{counted_small, run_nowhere, run_room, run_fits_here, run_counted}
use Rattle.tally.proofs.visits.count_run.Goals as goal

pub returns-in_default : goal.returns-in_default
returns-in_default c = search run_nowhere

pub counter_at-c-requires : goal.counter_at-c-requires
counter_at-c-requires c = omega (arith, found c.find_row.ensures c.in-Some.is, c.requires.0.names.room)

pub counted-requires : goal.counted-requires
counted-requires c = (run_fits_here c.find_row.ensures c.in-Some.is c.requires.4 c.counter_at-c.ensures (omega arith), search rules)

pub put_counter-requires : goal.put_counter-requires
put_counter-requires c =
    let fits = run_fits_here c.find_row.ensures c.in-Some.is c.requires.4 c.counter_at-c.ensures (omega arith) in
    (search run_room, rw c.counted.ensures (counted_small _ fits (search rules) (search rules)))

pub returns : goal.returns
returns c = run_counted c.find_row.ensures c.in-Some.is c.requires.0 c.counter_at-c.ensures c.counted.ensures c.put_counter.ensures

-- `gfa_normalize::main` meets its contract: the slices that it lends are within its buffers. Assumes nothing.
use native.Mathlib.Omega.{arith}
use lib.ListN.{length-take}
use Rattle.gfa_normalize.proofs.main.Goals as goal

pub slice_bounds-write_all-end : goal.slice_bounds-write_all-end
slice_bounds-write_all-end c = simp length-take (omega (arith, c.print_normalized-shown.ensures.inside))

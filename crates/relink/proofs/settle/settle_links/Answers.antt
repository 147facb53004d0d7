-- `relink::settle::settle_links` meets its contract, by its two passes and the count of all self-links. Assumes nothing.
use borrow.Author.Rules.{rules}
use Rattle.relink.proofs.Settled.{removed_given, fits_given, settled_given}
use Rattle.relink.proofs.settle.settle_links.Goals as goal

pub overflow_sub-result : goal.overflow_sub-result
overflow_sub-result c = removed_given c.requires c.put_all_ends-removed.ensures.all c.add_paths.ensures.adds c.self_links-all.ensures (search rules) (search rules)

pub overflow_add-result : goal.overflow_add-result
overflow_add-result c =
    record { fits = fits_given c.requires c.put_all_ends-removed.ensures.all c.add_paths.ensures.adds c.self_links-all.ensures (search rules) (search rules) }

pub returns : goal.returns
returns c = settled_given c.requires c.put_all_ends-removed.ensures.all c.add_paths.ensures.adds c.self_links-all.ensures (search rules) (search rules)

-- `relink::lookup::Sought::find_link` meets its contract: a kept link, or an added one. Assumes nothing.
use borrow.Author.Rules.{rules}
use Rattle.relink.proofs.Lookups.{found_kept}
use Rattle.relink.proofs.lookup.Sought.find_link.Goals as goal

pub returns-then-kept_link : goal.returns-then-kept_link
returns-then-kept_link c = found_kept _ (search rules) (search rules) c.kept_link.ensures c.if-kept_link.true

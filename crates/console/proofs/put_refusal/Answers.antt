-- `console::put_refusal` meets its contract: four lines, one after the other. Assumes nothing.
use Rattle.gfa_spec.specs.Bytes.{bytes, ended, join}
use borrow.Author.Rules.{rules}
use Rattle.console.proofs.Printing.{put_lines}
use Rattle.console.proofs.put_refusal.Goals as goal

pub returns : goal.returns
unfolding bytes ended join
returns c = put_lines c.args.a c.new-w.ensures.starts c.put_number_lines.ensures (search rules)

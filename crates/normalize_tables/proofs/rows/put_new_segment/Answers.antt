-- `normalize_tables::rows::put_new_segment` meets its contract: the three words say the row.
use Rattle.std.proofs.Common.{rules}
use Rattle.normalize_tables.proofs.Words.{segment_told}
use Rattle.normalize_tables.proofs.rows.put_new_segment.Goals as goal

pub returns : goal.returns
returns c =
    record {
      words = segment_told c.put_row.new.work c.args.g c.args.j c.args.r (search rules) (search rules) (search rules);
      long = search rules;
      only = search rules;
    }

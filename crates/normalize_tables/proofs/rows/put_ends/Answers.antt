-- `normalize_tables::rows::put_ends` meets its contract: the three words say the row.
use Rattle.std.proofs.Common.{rules}
use Rattle.gfa_spec.proofs.Counting.{bit_byte}
use Rattle.normalize_tables.proofs.Words.{ends_told}
use Rattle.normalize_tables.proofs.rows.put_ends.Goals as goal

pub returns : goal.returns
returns c =
    let gone = bit_byte _ c.from.ensures in
    record {
      words = ends_told c.put_row.new.work c.args.g c.args.i.0 c.args.r (search rules) (search rules) (search rules);
      row = rw (← gone.0, ← c.word_of-from.ensures, ← c.word_of-to.ensures) c.put_row.ensures;
      long = search rules;
      only = search rules;
    }

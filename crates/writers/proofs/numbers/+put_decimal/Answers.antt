-- `writers::numbers::put_decimal` meets its contract: one digit, or the digits before the last and the last.
use Rattle.writers.proofs.Writing.{as_piece, ◌▷◌}
use Rattle.writers.proofs.Digits.{decimal_small, decimal_more}
use Rattle.writers.proofs.numbers.+put_decimal.Goals as goal

pub returns-then-n-lt10 : goal.returns-then-n-lt10
returns-then-n-lt10 t c = as_piece (rw (decimal_small _ c.if-n-lt10.true, c.digit.ensures)) c.put_byte.ensures

pub returns-else-n-lt10 : goal.returns-else-n-lt10
returns-else-n-lt10 t c = as_piece (rw (decimal_more _ c.if-n-lt10.false, c.digit-else-n-lt10.ensures)) (c.put_decimal.ensures ▷ c.put_byte-else-n-lt10.ensures)

-- `new_ids::ids::put_id` meets its contract: the ID of a segment of the text, or of a new one.
use Rattle.new_ids.proofs.Finding.{front_written, behind_written}
use Rattle.new_ids.proofs.ids.put_id.Goals as goal

pub returns-then-news-k : goal.returns-then-news-k
returns-then-news-k c = search behind_written

pub returns-else-news-k : goal.returns-else-news-k
returns-else-news-k c = search front_written

-- What was kept was written, and the pixel is kept.
use Rattle.dd_record.proofs.Written.{page_turned}
use Rattle.dd_record.proofs.pages.turn_page.Goals as goal

pub returns : goal.returns
returns g c = page_turned _ _ _ _ c.in_ok-write_kept.ensures.wrote c.keep_first.ensures

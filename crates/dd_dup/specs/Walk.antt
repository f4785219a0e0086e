-- What private functions gather: no public contract cites these words.
use Rattle.std.specs.Prelude.{ℕ, Bool, List, fold, Option, Some, None}
use Rattle.dd_geom.specs.Grid.{Grid}
use Rattle.dd_bits.specs.CanonicalList.{canonical_list}
use Rattle.dd_ops.specs.declared.operations.Op.{Op}
use Rattle.dd_acc.specs.Interval.{Interval, nothing, with_present}
use Rattle.dd_log.specs.declared.events.Entry.{Entry}
use Rattle.dd_log.specs.Picture.{presents}
use Rattle.dd_dup.specs.declared.frame.PictureNews.{PictureNews}

-- what is gathered after one event more: a present is added
abbrev pub gathered_next : Interval → Option (List Op) → Interval
gathered_next i None = i
gathered_next i (Some ops) = with_present i ops

-- what is gathered of some entries on a surface of this size
unfoldable pub gathered : ℕ → ℕ → List Entry → Interval
gathered w h es = fold with_present (nothing w h) (presents es)

-- what it tells, where the last present has this event number, and these points are hidden at the end
abbrev pub news_from : ℕ → Grid Bool → Interval → PictureNews
news_from last hidden i = record {
  accumulated = i.frames;
  last_present = last;
  coalesced = i.coalesced;
  moves = i.moves;
  dirt = canonical_list i.area;
  hidden = hidden;
}

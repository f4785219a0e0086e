-- What is new to a duplicator: what the entries from its marks on tell, and the frame of it.
use Rattle.std.specs.Prelude.{ℕ, ◌+◌, ◌*◌, Bool, List, [], length, drop, Option, Some, None}
use Rattle.dd_geom.specs.declared.rect.TheConstants.{RECT_BYTES, MOVE_BYTES}
use Rattle.dd_geom.specs.declared.rect.Rect.{Rect}
use Rattle.dd_geom.specs.declared.rect.Move.{Move}
use Rattle.dd_geom.specs.Grid.{Grid}
use Rattle.dd_grid.specs.Drawing.{any_hidden, hidden_points}
use Rattle.dd_bits.specs.CanonicalList.{canonical_list}
use Rattle.dd_pointer.specs.Shape.{PointerShape}
use Rattle.dd_acc.specs.Effects.{dirt, is_coalesced, moves}
use Rattle.dd_log.specs.declared.events.Entry.{Entry}
use Rattle.dd_calls.specs.declared.answers.FrameInfo.{FrameInfo}
use Rattle.dd_log.specs.History.{History, desk, desk_mode, last_present, last_pointed, last_shape}
use Rattle.dd_log.specs.Picture.{presents, picture}
use Rattle.dd_dup.specs.declared.frame.Frame.{Frame}
use Rattle.dd_dup.specs.declared.frame.News.{News}
use Rattle.dd_dup.specs.declared.frame.PictureNews.{PictureNews}
use Rattle.dd_dup.specs.declared.frame.PointerNews.{PointerNews}

-- the entries from a mark on
abbrev pub news : History → ℕ → List Entry
news h mark = drop mark h.entries

-- the moves of some entries, and their dirty rectangles on a surface of this size
abbrev pub moves_of : List Entry → List Move
moves_of es = moves (presents es)

unfoldable pub dirt_of : ℕ → ℕ → List Entry → List Rect
dirt_of w h es = canonical_list (dirt w h (presents es))

-- what some entries tell of the picture, where the last present among them has this event number, and these points
-- are hidden after them
unfoldable pub picture_news : ℕ → ℕ → ℕ → Grid Bool → List Entry → PictureNews
picture_news w h last hidden es = record {
  accumulated = length (presents es);
  last_present = last;
  coalesced = is_coalesced w h (presents es);
  moves = moves_of es;
  dirt = dirt_of w h es;
  hidden = hidden;
}

-- what the entries from a mark on tell of the picture
abbrev pub picture_since : History → ℕ → PictureNews
picture_since h mark =
    picture_news (desk_mode h).width (desk_mode h).height (last_present mark (news h mark))
    (hidden_points (picture h)) (news h mark)

-- and what they tell of the pointer
abbrev pub pointer_since : History → ℕ → PointerNews
pointer_since h mark = record {
  last_mouse = last_pointed mark (news h mark);
  pointer = (desk h).pointer;
  shape = last_shape (news h mark);
}

-- what is new: of the picture from one mark on, of the pointer from another
abbrev pub news_since : History → ℕ → ℕ → News
news_since h mark pointer_mark = record { picture = picture_since h mark; pointer = pointer_since h pointer_mark }

-- the bytes of a shape, where there is one
abbrev pub shape_bytes : Option PointerShape → List ℕ
shape_bytes None = []
shape_bytes (Some s) = s.bytes

-- a frame of what is new, and of whether some point of the desk is hidden
abbrev pub info_from : News → Bool → FrameInfo
info_from n protected = record {
  last_present = n.picture.last_present;
  last_mouse = n.pointer.last_mouse;
  accumulated = n.picture.accumulated;
  coalesced = n.picture.coalesced;
  protected = protected;
  pointer = n.pointer.pointer;
  meta_size = MOVE_BYTES * length n.picture.moves + RECT_BYTES * length n.picture.dirt;
  shape_size = length (shape_bytes n.pointer.shape);
}

abbrev pub frame_from : News → Bool → Frame
frame_from n protected = record {
  info = info_from n protected;
  moves = n.picture.moves;
  dirt = n.picture.dirt;
  shape = n.pointer.shape;
}

-- the frame of what is new
abbrev pub frame : History → ℕ → ℕ → Frame
frame h mark pointer_mark = frame_from (news_since h mark pointer_mark) (any_hidden (picture h))

-- the parts of a held frame
abbrev pub held_info : Option Frame → Option FrameInfo
held_info None = None
held_info (Some f) = Some f.info

abbrev pub held_moves : Option Frame → List Move
held_moves None = []
held_moves (Some f) = f.moves

abbrev pub held_dirt : Option Frame → List Rect
held_dirt None = []
held_dirt (Some f) = f.dirt

abbrev pub held_shape : Option Frame → Option PointerShape
held_shape None = None
held_shape (Some f) = f.shape

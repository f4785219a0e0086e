-- The parts of an answer.
use Rattle.std.specs.Prelude.{ℕ, Bool, List, Option, Some, None, is_some, option_map, unwrap_or}
use Rattle.dd_geom.specs.declared.rect.Rect.{Rect}
use Rattle.dd_geom.specs.declared.rect.Move.{Move}
use Rattle.dd_calls.specs.declared.answers.FrameInfo.{FrameInfo}
use Rattle.dd_calls.specs.declared.answers.Answer.{Answer}
use Rattle.dd_calls.specs.declared.answers.Answer.TheVariants.{Entered, NotDrawn, Opened, NotOpened, Closed, NotClosed, Frame, Refused, NoDuplicator}

-- the event number that an answer names
abbrev pub number_in : Answer → Option ℕ
number_in (Entered number) = Some number
number_in (Opened number slot) = Some number
number_in (Closed number) = Some number
number_in _ = None

-- the slot that it names
abbrev pub slot_in : Answer → Option ℕ
slot_in (Opened number slot) = Some slot
slot_in _ = None

-- what is told of a frame
pub record FrameTold : Type 0 where
  pub info : FrameInfo
  pub moves : List Move
  pub dirt : List Rect

-- the frame that an answer tells
abbrev pub frame_in : Answer → Option FrameTold
frame_in (Frame info moves dirt) = Some (record { info = info; moves = moves; dirt = dirt })
frame_in _ = None

abbrev pub is_frame : Answer → Bool
is_frame a = is_some (frame_in a)

-- something of the frame that an answer tells, or else this
abbrev pub of_frame : {A : Type 0} → A → (FrameTold → A) → Answer → A
of_frame else_this part a = unwrap_or (option_map part (frame_in a)) else_this

-- a refusal; none where an answer is something else
abbrev pub refusal_in : Answer → Option Answer
refusal_in (NotDrawn why) = Some (NotDrawn why)
refusal_in (NotOpened why) = Some (NotOpened why)
refusal_in (NotClosed why) = Some (NotClosed why)
refusal_in (Refused why buffer) = Some (Refused why buffer)
refusal_in NoDuplicator = Some NoDuplicator
refusal_in _ = None

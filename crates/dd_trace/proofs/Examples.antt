-- Small runs, and the limit of clients.
use Rattle.std.proofs.Common.{◌≡◌, ℕ, pos, Bool, true, false, List, [], ◌∷◌, Some, None, refl}
use Rattle.dd_geom.specs.declared.rect.Point.{Point}
use Rattle.dd_geom.specs.declared.rect.Rect.{Rect}
use Rattle.dd_modes.specs.declared.modes.Mode.{Mode}
use Rattle.dd_modes.specs.declared.modes.Rotation.TheVariants.{Identity}
use Rattle.dd_pointer.specs.declared.kind.Kind.TheVariants.{Monochrome}
use Rattle.dd_pointer.specs.Shape.{PointerShape}
use Rattle.dd_ops.specs.declared.operations.Op.TheVariants.{Fill}
use Rattle.dd_bits.specs.CanonicalList.{run_end, same_rows, canonical_list}
use Rattle.dd_bits.specs.Tiles.{tiles}
use Rattle.dd_coal.specs.Power.{least_power_from, power}
use Rattle.dd_acc.specs.Effects.{dirtied, dirt, is_coalesced, moves}
use Rattle.dd_calls.specs.declared.answers.Answer.{Answer}
use Rattle.dd_calls.specs.declared.answers.Answer.TheVariants.{Entered, NotDrawn, Opened, NotOpened, Closed, NotClosed, Frame, Released, Buffer, ShapeBuffer, Surface, Desc, Refused, NoDuplicator}
use Rattle.dd_calls.specs.declared.answers.OpenRefusal.TheVariants.{AccessDenied, AlreadyDuplicating, SessionDisconnected}
use Rattle.dd_calls.specs.declared.answers.CloseRefusal.TheVariants as closings
use Rattle.dd_calls.specs.declared.answers.DupRefusal.TheVariants.{AccessLost, InvalidCall, WaitTimeout, MoreData}
use Rattle.dd_log.specs.declared.refusal.LogRefusal.TheVariants.{BadMode}
use Rattle.dd_log.specs.declared.events.Draw.TheVariants.{Present, Switch, Disconnect}
use Rattle.dd_log.specs.declared.events.Draw.TheVariants as drawings
use Rattle.dd_log.specs.Desk.{first_desk, desk_after, desk_of}
use Rattle.dd_log.specs.Picture.{picture, presents, state_of}
use Rattle.dd_dup.specs.News.{dirt_of, picture_news}
use Rattle.dd_calls.specs.declared.steps.Step.{Step}
use Rattle.dd_calls.specs.declared.steps.Step.TheVariants.{Draw, Call}
use Rattle.dd_calls.specs.declared.steps.ClientCall.TheVariants.{Duplicate, Close, Acquire, Release}
use Rattle.dd_calls.specs.declared.steps.ClientCall.TheVariants as calls
use Rattle.dd_calls.specs.declared.steps.TheConstants.{MAX_CLIENTS}
use Rattle.dd_station.specs.Run.{start, next, run}
use Rattle.dd_trace.specs.Independence.{left_steps}

most_clients : MAX_CLIENTS ≡ 16
most_clients = refl

abbrev small : Mode
small = record { width = 4; height = 3; rotation = Identity }

-- the run of these steps, of a screen of 4 by 3 points, clients with these applications, of which 9 is privileged
abbrev Gives : List ℕ → List Step → List Answer → Type 0
Gives clients steps answers =
    run (record {
      spec = record { modes = small ∷ []; capacity = 100; privileged = 9 ∷ [] };
      clients = clients;
      steps = steps;
    })
    ≡ answers

abbrev rect : ℕ → ℕ → ℕ → ℕ → Rect
rect l t r b = record { left = pos l; top = pos t; right = pos r; bottom = pos b }

-- a fill with red
abbrev fills : Rect → Step
fills r = Draw (Present (Fill r 16711680 ∷ []))

abbrev acquire : ℕ → Step
acquire k = Call k (Acquire 0)

-- the frame of one present, the entry of this number, which drew this rectangle
abbrev one_fill : ℕ → Rect → Answer
one_fill number r =
    Frame
    (record {
      last_present = number;
      last_mouse = 0;
      accumulated = 1;
      coalesced = false;
      protected = false;
      pointer = record { position = record { x = pos 0; y = pos 0 }; visible = false };
      meta_size = 16;
      shape_size = 0;
    }) [] (r ∷ [])

abbrev black : List ℕ
black = 0 ∷ 0 ∷ 0 ∷ 0 ∷ []

abbrev red_rows : List (List ℕ)
red_rows = black ∷ (0 ∷ 16711680 ∷ 16711680 ∷ 0 ∷ []) ∷ black ∷ []

-- a mode change loses the duplicator, which still lends its surface until it is told so; its slot is open until it
-- is closed
mode_changed : Gives (1 ∷ [])
    (Call 1 Duplicate ∷ fills (rect 1 1 3 2) ∷ acquire 1 ∷ Draw (drawings.Mode 0) ∷ Call 1 calls.Surface
    ∷ Call 1 Release ∷ acquire 1 ∷ Call 1 calls.Surface ∷ Call 1 Duplicate ∷ Call 1 Close ∷ Call 1 Duplicate ∷ acquire 1 ∷ [])
    (Opened 1 0 ∷ Entered 2 ∷ one_fill 2 (rect 1 1 3 2) ∷ Entered 3 ∷ Surface (Some red_rows)
    ∷ Refused AccessLost None ∷ Refused AccessLost None ∷ Surface None ∷ NotOpened AlreadyDuplicating ∷ Closed 4 ∷ Opened 5 0 ∷ Refused WaitTimeout None
    ∷ [])
unfolding next run picture presents state_of first_desk desk_after desk_of run_end same_rows canonical_list tiles least_power_from power dirtied dirt is_coalesced moves dirt_of picture_news
mode_changed = refl

-- a secure desktop is for privileged applications, and a disconnected session for nobody
secured : Gives (1 ∷ 9 ∷ [])
    (Draw (Switch true) ∷ Call 1 Duplicate ∷ Call 2 Duplicate ∷ Draw Disconnect ∷ Call 1 Duplicate ∷ acquire 2 ∷ [])
    (Entered 1 ∷ NotOpened AccessDenied ∷ Opened 2 0 ∷ Entered 3 ∷ NotOpened SessionDisconnected
    ∷ Refused AccessLost None ∷ [])
unfolding next run picture presents state_of first_desk desk_after desk_of run_end same_rows canonical_list tiles least_power_from power dirtied dirt is_coalesced moves dirt_of picture_news
secured = refl

-- what stood before the switch isn't told to who opens again after it
opened_again : Gives (1 ∷ [])
    (Call 1 Duplicate ∷ Draw (Switch false) ∷ Call 1 Close ∷ Call 1 Duplicate ∷ fills (rect 0 0 1 1) ∷ acquire 1 ∷ [])
    (Opened 1 0 ∷ Entered 2 ∷ Closed 3 ∷ Opened 4 0 ∷ Entered 5 ∷ one_fill 5 (rect 0 0 1 1) ∷ [])
unfolding next run picture presents state_of first_desk desk_after desk_of run_end same_rows canonical_list tiles least_power_from power dirtied dirt is_coalesced moves dirt_of picture_news
opened_again = refl

-- two clients of one application: the second has no duplicator to close, and opens one when the first has closed its
-- own
one_application : Gives (1 ∷ 1 ∷ [])
    (Call 2 Close ∷ Call 1 Duplicate ∷ Call 2 Duplicate ∷ Call 2 Close ∷ Call 1 calls.Desc ∷ Call 1 Close ∷ Call 2 Duplicate ∷ Call 1 calls.Desc
    ∷ Draw (drawings.Mode 1) ∷ [])
    (NotClosed closings.NoDuplicator ∷ Opened 1 0 ∷ NotOpened AlreadyDuplicating ∷ NotClosed closings.NoDuplicator ∷ Desc small ∷ Closed 2 ∷ Opened 3 0
    ∷ NoDuplicator ∷ NotDrawn BadMode ∷ [])
unfolding next run picture presents state_of first_desk desk_after desk_of run_end same_rows canonical_list tiles least_power_from power dirtied dirt is_coalesced moves dirt_of picture_news
one_application = refl

-- a shape of one column is told once, also in a buffer that is longer; a pointer alone is a frame then
abbrev column : PointerShape
column =
    record { kind = Monochrome; width = 1; height = 2; hot = record { x = pos 0; y = pos 0 }; bytes = 128 ∷ 0 ∷ [] }

-- the frame of news of the pointer alone, of which the last is the entry of this number
abbrev pointed_at : ℕ → Point → Bool → ℕ → Answer
pointed_at number position visible shape_size =
    Frame
    (record {
      last_present = 0;
      last_mouse = number;
      accumulated = 0;
      coalesced = false;
      protected = false;
      pointer = record { position = position; visible = visible };
      meta_size = 0;
      shape_size = shape_size;
    }) [] []

abbrev point : ℕ → ℕ → Point
point x y = record { x = pos x; y = pos y }

shape_once : Gives (1 ∷ [])
    (Call 1 Duplicate ∷ Draw (drawings.Shape column) ∷ acquire 1 ∷ Call 1 (calls.Shape 1) ∷ Call 1 (calls.Shape 3)
    ∷ Call 1 (calls.Moves 1) ∷ Call 1 Release ∷ Draw (drawings.Pointer (point 3 2) true) ∷ acquire 1
    ∷ Call 1 (calls.Shape 1) ∷ Call 1 Release ∷ Call 1 (calls.Dirty 1) ∷ [])
    (Opened 1 0 ∷ Entered 2 ∷ pointed_at 2 (point 0 0) false 2 ∷ Refused (MoreData 2) (Some (238 ∷ []))
    ∷ ShapeBuffer 2 (128 ∷ 0 ∷ 238 ∷ [])
    (Some (record { kind = 1; width = 1; height = 2; pitch = 1; hot = point 0 0 }))
    ∷ Buffer 0 (238 ∷ []) ∷ Released ∷ Entered 3 ∷ pointed_at 3 (point 3 2) true 0
    ∷ ShapeBuffer 0 (238 ∷ []) None ∷ Released ∷ Refused InvalidCall (Some (238 ∷ [])) ∷ [])
unfolding next run picture presents state_of first_desk desk_after desk_of run_end same_rows canonical_list tiles least_power_from power dirtied dirt is_coalesced moves dirt_of picture_news
shape_once = refl

-- what another client does that enters nothing is left out: a refused opening, an acquire and a call without a
-- duplicator
left_out : left_steps 1 (λ n. true) (start (record { modes = small ∷ []; capacity = 100; privileged = [] }) (1 ∷ 1 ∷ []))
    (Call 2 calls.Desc ∷ Call 1 Duplicate ∷ Call 2 Duplicate ∷ Call 1 Close ∷ Call 2 Duplicate ∷ acquire 2 ∷ acquire 1 ∷ [])
    ≡ Call 1 Duplicate ∷ Call 1 Close ∷ Call 2 Duplicate ∷ acquire 1 ∷ []
unfolding next presents first_desk desk_after desk_of
left_out = refl

-- What is told by looking back over a small run.
use Rattle.std.proofs.Common.{◌≡◌, ℕ, pos, false, List, [], ◌∷◌, take, Option, Some, None, refl}
use Rattle.std.specs.Prelude.{option_map}
use Rattle.dd_geom.specs.declared.rect.Rect.{Rect}
use Rattle.dd_modes.specs.declared.modes.Mode.{Mode}
use Rattle.dd_modes.specs.declared.modes.Rotation.TheVariants.{Identity}
use Rattle.dd_ops.specs.declared.operations.Op.TheVariants.{Fill}
use Rattle.dd_bits.specs.CanonicalList.{run_end, same_rows, canonical_list}
use Rattle.dd_bits.specs.Tiles.{tiles}
use Rattle.dd_coal.specs.Power.{least_power_from, power}
use Rattle.dd_acc.specs.Effects.{dirtied, dirt, is_coalesced, moves}
use Rattle.dd_calls.specs.declared.answers.Answer.{Answer}
use Rattle.dd_calls.specs.declared.answers.Answer.TheVariants.{Frame}
use Rattle.dd_log.specs.declared.events.Draw.TheVariants.{Present}
use Rattle.dd_log.specs.declared.events.Draw.TheVariants as drawings
use Rattle.dd_log.specs.declared.events.Entry.{Entry}
use Rattle.dd_log.specs.declared.events.Event.{Event}
use Rattle.dd_log.specs.declared.events.Event.TheVariants.{Opened, Closed}
use Rattle.dd_log.specs.declared.events.Event.TheVariants as events
use Rattle.dd_log.specs.Desk.{first_desk, desk_after, desk_of}
use Rattle.dd_log.specs.Picture.{picture, presents, state_of}
use Rattle.dd_dup.specs.News.{dirt_of, picture_news}
use Rattle.dd_calls.specs.declared.steps.Step.TheVariants.{Draw, Call}
use Rattle.dd_calls.specs.declared.steps.ClientCall.TheVariants.{Duplicate, Close, Acquire, Release}
use Rattle.dd_station.specs.Run.{next}
use Rattle.dd_trace.specs.Trace.{Moment, trace, opening_of, place_of, picture_seen, frame_held}
use Rattle.dd_trace.specs.Entered.{entries_told}

abbrev small : Mode
small = record { width = 4; height = 3; rotation = Identity }

abbrev one_point : Rect
one_point = record { left = pos 0; top = pos 0; right = pos 1; bottom = pos 1 }

abbrev fills : Event
fills = events.Draw (Present (Fill one_point 16711680 ∷ []))

-- a client opens a duplicator, is given the frame of one present, is told that it is lost, and closes
abbrev small_run : List Moment
small_run =
    trace (record {
      spec = record { modes = small ∷ []; capacity = 100; privileged = [] };
      clients = 7 ∷ [];
      steps =
          Call 1 Duplicate ∷ Draw (Present (Fill one_point 16711680 ∷ [])) ∷ Call 1 (Acquire 0)
          ∷ Draw (drawings.Mode 0) ∷ Call 1 Release ∷ Call 1 Close ∷ [];
    })

-- the frame is held until the client is told of the loss
abbrev IsHeldAfter : ℕ → Option Answer → Type 0
IsHeldAfter n answer = frame_held 1 (take n small_run) ≡ answer

abbrev the_frame : Answer
the_frame =
    Frame
    (record {
      last_present = 2;
      last_mouse = 0;
      accumulated = 1;
      coalesced = false;
      protected = false;
      pointer = record { position = record { x = pos 0; y = pos 0 }; visible = false };
      meta_size = 16;
      shape_size = 0;
    }) [] (one_point ∷ [])

held_not_yet : IsHeldAfter 2 None
unfolding next trace picture presents state_of first_desk desk_after desk_of run_end same_rows canonical_list tiles least_power_from power dirtied dirt is_coalesced moves dirt_of picture_news
held_not_yet = refl

held_still : IsHeldAfter 4 (Some the_frame)
unfolding next trace picture presents state_of first_desk desk_after desk_of run_end same_rows canonical_list tiles least_power_from power dirtied dirt is_coalesced moves dirt_of picture_news
held_still = refl

held_no_more : IsHeldAfter 5 None
unfolding next trace picture presents state_of first_desk desk_after desk_of run_end same_rows canonical_list tiles least_power_from power dirtied dirt is_coalesced moves dirt_of picture_news
held_no_more = refl

-- it has seen up to its frame, and its opening is gone once it is closed
seen_first : picture_seen 1 (take 2 small_run) ≡ Some 0
unfolding next trace picture presents state_of first_desk desk_after desk_of run_end same_rows canonical_list tiles least_power_from power dirtied dirt is_coalesced moves dirt_of picture_news
seen_first = refl

seen_last : picture_seen 1 (take 5 small_run) ≡ Some 2
unfolding next trace picture presents state_of first_desk desk_after desk_of run_end same_rows canonical_list tiles least_power_from power dirtied dirt is_coalesced moves dirt_of picture_news
seen_last = refl

opened_then : option_map place_of (opening_of 1 (take 5 small_run)) ≡ Some 0
unfolding next trace picture presents state_of first_desk desk_after desk_of run_end same_rows canonical_list tiles least_power_from power dirtied dirt is_coalesced moves dirt_of picture_news
opened_then = refl

opened_no_more : option_map place_of (opening_of 1 small_run) ≡ None
unfolding next trace picture presents state_of first_desk desk_after desk_of run_end same_rows canonical_list tiles least_power_from power dirtied dirt is_coalesced moves dirt_of picture_news
opened_no_more = refl

-- of the six steps the first, the second, the fourth and the last entered something
abbrev by : ℕ → ℕ → Event → Entry
by actor step event = record { actor = actor; step = step; event = event }

told : entries_told (7 ∷ []) [] small_run
    ≡ by 1 1 (Opened 0 7) ∷ by 0 2 fills ∷ by 0 4 (events.Draw (drawings.Mode 0)) ∷ by 1 6 (Closed 0) ∷ []
unfolding next trace picture presents state_of first_desk desk_after desk_of run_end same_rows canonical_list tiles least_power_from power dirtied dirt is_coalesced moves dirt_of picture_news
told = refl

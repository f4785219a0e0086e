-- A small run with a cover, the veil of its script, and a cover that hides no colour.
use Rattle.std.proofs.Common.{◌≡◌, ℕ, ◌+◌, pos, Bool, true, false, List, [], ◌∷◌, ◌++◌, map, Some, refl}
use Rattle.dd_geom.specs.declared.rect.Rect.{Rect}
use Rattle.dd_geom.specs.declared.rect.Move.{Move}
use Rattle.dd_modes.specs.declared.modes.Rotation.TheVariants.{Identity}
use Rattle.dd_ops.specs.declared.operations.Op.{Op}
use Rattle.dd_ops.specs.declared.operations.Op.TheVariants.{Fill, Cover, Scroll}
use Rattle.dd_bits.specs.CanonicalList.{run_end, same_rows, canonical_list}
use Rattle.dd_bits.specs.Tiles.{tiles}
use Rattle.dd_coal.specs.Power.{least_power_from, power}
use Rattle.dd_acc.specs.Effects.{dirtied, dirt, is_coalesced, moves}
use Rattle.dd_calls.specs.declared.answers.Answer.{Answer}
use Rattle.dd_calls.specs.declared.answers.Answer.TheVariants.{Entered, NotDrawn, Opened, Frame, Surface}
use Rattle.dd_log.specs.declared.refusal.LogRefusal.TheVariants.{BadRect}
use Rattle.dd_log.specs.declared.events.Draw.TheVariants.{Present}
use Rattle.dd_log.specs.Desk.{first_desk, desk_after, desk_of}
use Rattle.dd_log.specs.Picture.{picture, presents, state_of}
use Rattle.dd_dup.specs.News.{dirt_of, picture_news}
use Rattle.dd_calls.specs.declared.steps.Script.{Script}
use Rattle.dd_calls.specs.declared.steps.Step.{Step}
use Rattle.dd_calls.specs.declared.steps.Step.TheVariants.{Draw, Call}
use Rattle.dd_calls.specs.declared.steps.ClientCall.TheVariants.{Duplicate, Acquire}
use Rattle.dd_calls.specs.declared.steps.ClientCall.TheVariants as calls
use Rattle.dd_station.specs.Run.{next, run}
use Rattle.dd_trace.specs.Veil.{veiled_script, steps_coloured}

abbrev rect : ℕ → ℕ → ℕ → ℕ → Rect
rect l t r b = record { left = pos l; top = pos t; right = pos r; bottom = pos b }

-- a red screen of 4 by 3 points, two of which a cover hides
abbrev hiding : List ℕ → Step
hiding colours = Draw (Present (Fill (rect 0 0 4 3) 16711680 ∷ Cover (rect 1 1 3 2) colours ∷ []))

abbrev script : List ℕ → Script
script colours = record {
  spec = record {
    modes = record { width = 4; height = 3; rotation = Identity } ∷ [];
    capacity = 100;
    privileged = [];
  };
  clients = 7 ∷ [];
  steps = Call 1 Duplicate ∷ hiding colours ∷ Call 1 (Acquire 0) ∷ Call 1 calls.Surface ∷ [];
}

-- the veil of a script has black in the cover, and all else as it was
veil_of : veiled_script (script (8 ∷ 9 ∷ [])) ≡ script (0 ∷ 0 ∷ [])
veil_of = refl

-- the frame is protected, and the surface is black where the cover hides 8 and 9
abbrev red : List ℕ
red = 16711680 ∷ 16711680 ∷ 16711680 ∷ 16711680 ∷ []

abbrev protected_frame : Answer
protected_frame =
    Frame
    (record {
      last_present = 2;
      last_mouse = 0;
      accumulated = 1;
      coalesced = false;
      protected = true;
      pointer = record { position = record { x = pos 0; y = pos 0 }; visible = false };
      meta_size = 16;
      shape_size = 0;
    }) [] (rect 0 0 4 3 ∷ [])

hidden_run :
    run (script (8 ∷ 9 ∷ []))
    ≡ Opened 1 0 ∷ Entered 2 ∷ protected_frame ∷ Surface (Some (red ∷ (16711680 ∷ 0 ∷ 0 ∷ 16711680 ∷ []) ∷ red ∷ [])) ∷ []
unfolding next run picture presents state_of first_desk desk_after desk_of run_end same_rows canonical_list tiles least_power_from power dirtied dirt is_coalesced moves dirt_of picture_news
hidden_run = refl

-- a client acquires, and asks for the surface, after these presents of a screen of 4 by 3 points
abbrev after_presents : List (List Op) → Script
after_presents ps = record {
  spec = (script []).spec;
  clients = 7 ∷ [];
  steps = Call 1 Duplicate ∷ map (λ ops. Draw (Present ops)) ps ++ Call 1 (Acquire 0) ∷ Call 1 calls.Surface ∷ [];
}

abbrev told : ℕ → Bool → List Move → List Rect → ℕ → Answer
told presents protected moves dirt meta =
    Frame
    (record {
      last_present = presents + 1;
      last_mouse = 0;
      accumulated = presents;
      coalesced = false;
      protected = protected;
      pointer = record { position = record { x = pos 0; y = pos 0 }; visible = false };
      meta_size = meta;
      shape_size = 0;
    }) moves dirt

abbrev black_row : List ℕ
black_row = 0 ∷ 0 ∷ 0 ∷ 0 ∷ []

-- what is hidden stays so where a scroll brings it: both points are dirty, and black
abbrev one_right : Move
one_right = record { source = record { x = pos 0; y = pos 0 }; dest = rect 1 0 2 1 }

scrolled_cover :
    run (after_presents ((Cover (rect 0 0 1 1) (16711680 ∷ []) ∷ []) ∷ (Scroll one_right ∷ []) ∷ []))
    ≡ Opened 1 0 ∷ Entered 2 ∷ Entered 3 ∷ told 2 true (one_right ∷ []) (rect 0 0 2 1 ∷ []) 40
    ∷ Surface (Some (black_row ∷ black_row ∷ black_row ∷ [])) ∷ []
unfolding next run picture presents state_of first_desk desk_after desk_of run_end same_rows canonical_list tiles least_power_from power dirtied dirt is_coalesced moves dirt_of picture_news
scrolled_cover = refl

-- a cover that is filled over in the same present hides nothing
filled_cover :
    run (after_presents ((Cover (rect 0 0 1 1) (16711680 ∷ []) ∷ Fill (rect 0 0 1 1) 65280 ∷ []) ∷ []))
    ≡ Opened 1 0 ∷ Entered 2 ∷ told 1 false [] (rect 0 0 1 1 ∷ []) 16
    ∷ Surface (Some ((65280 ∷ 0 ∷ 0 ∷ 0 ∷ []) ∷ black_row ∷ black_row ∷ [])) ∷ []
unfolding next run picture presents state_of first_desk desk_after desk_of run_end same_rows canonical_list tiles least_power_from power dirtied dirt is_coalesced moves dirt_of picture_news
filled_cover = refl

-- a cover that hides no colour is refused, but black in its place isn't
abbrev no_colour : Step
no_colour = hiding (8 ∷ 16777216 ∷ [])

abbrev alone : Step → Script
alone step = record { spec = (script []).spec; clients = []; steps = step ∷ [] }

not_coloured : steps_coloured (no_colour ∷ []) ≡ false
not_coloured = refl

refused_alone : (run (alone no_colour) ≡ NotDrawn (BadRect 1) ∷ []) × (run (veiled_script (alone no_colour)) ≡ Entered 1 ∷ [])
unfolding next run first_desk desk_after desk_of
refused_alone = (refl, refl)

-- What is seen after entries, made of what was seen before them; and which of them draw the whole surface.
use Rattle.std.specs.Prelude.{ℕ, ℤ, pos, int_le, Bool, false, ◌&&◌, List, fold, Option, None, Some}
use Rattle.std.specs.List.{list_any}
use Rattle.dd_geom.specs.declared.rect.Rect.{Rect}
use Rattle.dd_geom.specs.Grid.{Grid}
use Rattle.dd_ops.specs.declared.operations.Op.{Op}
use Rattle.dd_ops.specs.declared.operations.Op.TheVariants.{Fill, Blit, Cover, Scroll}
use Rattle.dd_ops.specs.Operations.{seen_drawn}
use Rattle.dd_log.specs.declared.events.Entry.{Entry}
use Rattle.dd_log.specs.declared.events.Event.{Event}
use Rattle.dd_log.specs.Events.{present_of}

-- after a present, where there is one
abbrev pub seen_if : Grid ℕ → Option (List Op) → Grid ℕ
seen_if s None = s
seen_if s (Some ops) = seen_drawn s ops

abbrev pub seen_after : Grid ℕ → Event → Grid ℕ
seen_after s e = seen_if s (present_of e)

abbrev pub seen_shown : Grid ℕ → List Entry → Grid ℕ
seen_shown s es = fold (λ t e. seen_after t e.event) s es

-- a span has all of the first n places
abbrev pub spans_all : ℤ → ℤ → ℕ → Bool
spans_all from to n = int_le from (pos 0) && int_le (pos n) to

-- a rectangle has all points of a surface
abbrev pub is_all : ℕ → ℕ → Rect → Bool
is_all w h r = spans_all r.left r.right w && spans_all r.top r.bottom h

-- an operation draws each point with a colour of its own
abbrev pub draws_all : ℕ → ℕ → Op → Bool
draws_all w h (Fill rect colour) = is_all w h rect
draws_all w h (Blit rect colours) = is_all w h rect
draws_all w h (Cover rect colours) = is_all w h rect
draws_all w h (Scroll mv) = false

-- one of them does
abbrev pub some_draws_all : ℕ → ℕ → List Op → Bool
some_draws_all w h ops = list_any (draws_all w h) ops

abbrev pub present_draws_all : ℕ → ℕ → Option (List Op) → Bool
present_draws_all w h None = false
present_draws_all w h (Some ops) = some_draws_all w h ops

abbrev pub event_draws_all : ℕ → ℕ → Event → Bool
event_draws_all w h e = present_draws_all w h (present_of e)

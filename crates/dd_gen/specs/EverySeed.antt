-- What holds of the script of every seed.
use Rattle.std.specs.Prelude.{◌≡◌, ℕ, ◌==◌, nat_le, Bool, true, false, ◌&&◌, length, IsTrue}
use Rattle.std.specs.List.{list_all, AllByRecursion}
use Rattle.dd_geom.specs.Rect.{covers}
use Rattle.dd_modes.specs.Modes.{are_modes}
use Rattle.dd_ops.specs.declared.operations.Op.{Op}
use Rattle.dd_ops.specs.declared.operations.Op.TheVariants.{Fill, Blit, Cover, Scroll}
use Rattle.dd_ops.specs.Operations.{fits}
use Rattle.dd_log.specs.declared.events.Draw as draws
use Rattle.dd_log.specs.declared.events.Draw.TheVariants as drawings
use Rattle.dd_calls.specs.declared.steps.ClientCall.{ClientCall}
use Rattle.dd_calls.specs.declared.steps.ClientCall.TheVariants.{Duplicate, Close, Acquire, Release, Moves, Dirty, Shape, Surface, Desc}
use Rattle.dd_calls.specs.declared.steps.Step.{Step}
use Rattle.dd_calls.specs.declared.steps.Step.TheVariants.{Draw, Call}
use Rattle.dd_calls.specs.declared.steps.Script.{Script}
use Rattle.dd_calls.specs.Calls.{IsOfClient}
use Rattle.dd_gen.specs.Generator.{rect_at, made}

-- a fill or a scroll that may be drawn on the screen
abbrev pub is_made_op : Op → Bool
is_made_op (Fill rect colour) = fits 1920 1080 (Fill rect colour)
is_made_op (Blit rect colours) = false
is_made_op (Cover rect colours) = false
is_made_op (Scroll mv) = fits 1920 1080 (Scroll mv)

-- one to four of these, or a pointer on the screen
abbrev pub is_made_drawing : draws.Draw → Bool
is_made_drawing (drawings.Present ops) = nat_le 1 (length ops) && nat_le (length ops) 4 && list_all is_made_op ops
is_made_drawing (drawings.Pointer position visible) = covers (rect_at 0 0 1920 1080) position.x position.y
is_made_drawing (drawings.Shape shape) = false
is_made_drawing (drawings.Mode index) = false
is_made_drawing (drawings.Switch secure) = false
is_made_drawing drawings.Disconnect = false
is_made_drawing drawings.Reconnect = false

-- an acquire doesn't wait
abbrev pub is_made_call : ClientCall → Bool
is_made_call Duplicate = true
is_made_call Close = true
is_made_call (Acquire timeout) = timeout == 0
is_made_call Release = true
is_made_call (Moves buffer) = false
is_made_call (Dirty buffer) = false
is_made_call (Shape buffer) = false
is_made_call Surface = false
is_made_call Desc = false

-- a drawing, or a call of one of the three clients
abbrev pub is_made_step : Step → Bool
is_made_step (Draw drawing) = is_made_drawing drawing
is_made_step (Call client call) = nat_le 1 client && nat_le client 3 && is_made_call call

-- an output may have its modes, and its steps are 1180, each of these kinds
pub record IsMade (s : Script) : Type 0 where
  pub modes : IsTrue (are_modes s.spec.modes)
  pub capacity : s.spec.capacity ≡ 4096
  pub clients : length s.clients ≡ 3
  pub count : length s.steps ≡ 1180
  pub steps : IsTrue (list_all is_made_step s.steps)
  pub calls : AllByRecursion (IsOfClient 3) s.steps

-- the script of every seed is such a one
abbrev pub ScriptsAreMade : Type 0
ScriptsAreMade = (seed : ℕ) → IsMade (made seed)

-- Which scripts can be read: those whose parts are in their ranges.
use Rattle.std.specs.Prelude.{ℕ, ◌^◌, ℤ, pos, negsuc, int_le, nat_lt, nat_le, ◌==◌, Bool, true, ◌&&◌, length, is_none}
use Rattle.std.specs.List.{list_all}
use Rattle.dd_geom.specs.declared.rect.Point.{Point}
use Rattle.dd_geom.specs.declared.rect.Rect.{Rect}
use Rattle.dd_modes.specs.Modes.{are_modes}
use Rattle.dd_pointer.specs.Shape.{PointerShape, shape_fault}
use Rattle.dd_ops.specs.declared.operations.Op.{Op}
use Rattle.dd_ops.specs.declared.operations.Op.TheVariants.{Fill, Blit, Cover, Scroll}
use Rattle.dd_grid.specs.declared.cell.TheConstants.{COLOURS}
use Rattle.dd_ops.specs.declared.lists.TheConstants.{MAX_OPS}
use Rattle.dd_log.specs.declared.events.Draw as draws
use Rattle.dd_log.specs.declared.events.Draw.TheVariants as drawings
use Rattle.dd_calls.specs.declared.steps.ClientCall.{ClientCall}
use Rattle.dd_calls.specs.declared.steps.ClientCall.TheVariants.{Duplicate, Close, Acquire, Release, Moves, Dirty, Shape, Surface, Desc}
use Rattle.dd_calls.specs.declared.steps.Step.{Step}
use Rattle.dd_calls.specs.declared.steps.Step.TheVariants.{Draw, Call}
use Rattle.dd_calls.specs.declared.steps.Script.{Script}
use Rattle.dd_script_read.specs.declared.calls.TheConstants.{MAX_BUFFER}
use Rattle.dd_script_read.specs.Script.{keeps_limits}

-- from 0 to 4294967295
abbrev pub is_number : ℕ → Bool
is_number n = nat_lt n (2 ^ 32)

-- from -2147483648 to 2147483647
abbrev pub is_coordinate : ℤ → Bool
is_coordinate z = int_le (negsuc 2147483647) z && int_le z (pos 2147483647)

abbrev pub is_point : Point → Bool
is_point p = is_coordinate p.x && is_coordinate p.y

abbrev pub is_rectangle : Rect → Bool
is_rectangle r = is_coordinate r.left && is_coordinate r.top && is_coordinate r.right && is_coordinate r.bottom

-- red, green and blue, with nothing above them
abbrev pub is_colour : ℕ → Bool
is_colour c = nat_lt c COLOURS

abbrev pub is_operation : Op → Bool
is_operation (Fill r c) = is_rectangle r && is_colour c
is_operation (Blit r cs) = is_rectangle r && list_all is_colour cs
is_operation (Cover r cs) = is_rectangle r && list_all is_colour cs
is_operation (Scroll m) = is_point m.source && is_rectangle m.dest

-- from 0 to 255
abbrev pub is_byte : ℕ → Bool
is_byte n = nat_lt n 256

-- a shape with no fault, of bytes, with a hot spot in the range of coordinates
abbrev pub is_shape : PointerShape → Bool
is_shape s = is_none (shape_fault s.kind s.width s.height s.bytes) && is_point s.hot && list_all is_byte s.bytes

abbrev pub is_drawing : draws.Draw → Bool
is_drawing (drawings.Present ops) = nat_le (length ops) MAX_OPS && list_all is_operation ops
is_drawing (drawings.Pointer position visible) = is_point position
is_drawing (drawings.Shape shape) = is_shape shape
is_drawing (drawings.Mode index) = is_number index
is_drawing (drawings.Switch secure) = true
is_drawing drawings.Disconnect = true
is_drawing drawings.Reconnect = true

-- a buffer's bytes, from 0 to 524288
abbrev pub is_buffer : ℕ → Bool
is_buffer n = nat_le n MAX_BUFFER

-- an acquire has no timeout
abbrev pub is_call : ClientCall → Bool
is_call Duplicate = true
is_call Close = true
is_call (Acquire timeout) = timeout == 0
is_call Release = true
is_call (Moves buffer) = is_buffer buffer
is_call (Dirty buffer) = is_buffer buffer
is_call (Shape buffer) = is_buffer buffer
is_call Surface = true
is_call Desc = true

abbrev pub is_step : Step → Bool
is_step (Draw drawing) = is_drawing drawing
is_step (Call client call) = is_number client && is_call call

-- each part is in its range, and the tests on a script that was read hold
unfoldable pub is_readable : Script → Bool
is_readable s =
    are_modes s.spec.modes && is_number s.spec.capacity && list_all is_number s.spec.privileged
    && list_all is_number s.clients && list_all is_step s.steps && keeps_limits s

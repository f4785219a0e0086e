-- What holds of the list in each state of a run whose script is in range: its modes, its capacity and its pointers.
use Rattle.std.proofs.Common.{◌≡◌, ℕ, ◌+◌, ◌≤◌, true, ◌&&◌, List, [], ◌∷◌, ◌++◌, pos, negsuc, FitsSigned, Option, Some, None, Result, Ok, Err, refl, sym, subst, arith}
use Rattle.std.specs.Prelude.{ℤ, int_le, IfSome, is_none, unwrap_or, slice_get}
use Rattle.std.specs.Int.{w32}
use Rattle.std.specs.List.{list_all}
use Rattle.std.proofs.lemmas.Bool.{and_parts}
use Rattle.std.proofs.lemmas.Bool.Decides.{nat_tests}
use Rattle.dd_geom.specs.declared.rect.Point.{Point}
use Rattle.dd_geom.specs.Rect.{IsSize}
use Rattle.dd_modes.specs.declared.modes.Mode.{Mode}
use Rattle.dd_modes.specs.Modes.{are_modes}
use Rattle.dd_modes.proofs.Limits.{first_of_modes, sizes_of_modes}
use Rattle.dd_pointer.specs.Shape.{PointerShape, shape_fault}
use Rattle.dd_log.specs.declared.refusal.LogRefusal.{LogRefusal}
use Rattle.dd_calls.specs.declared.answers.OpenRefusal.{OpenRefusal}
use Rattle.dd_calls.specs.declared.answers.CloseRefusal.{CloseRefusal}
use Rattle.dd_log.specs.declared.events.Draw.{Draw}
use Rattle.dd_log.specs.declared.events.Draw.TheVariants.{Present, Switch, Disconnect, Reconnect}
use Rattle.dd_log.specs.declared.events.Draw.TheVariants as drawings
use Rattle.dd_log.specs.declared.events.Entry.{Entry}
use Rattle.dd_log.specs.declared.events.Event.{Event}
use Rattle.dd_log.specs.declared.events.Event.TheVariants.{Opened, Closed, End}
use Rattle.dd_log.specs.declared.events.Event.TheVariants as events
use Rattle.dd_log.specs.declared.events.TheConstants.{MAX_CAPACITY}
use Rattle.dd_log.specs.Desk.{desk_of, first_desk, mode_after, mode_drawn}
use Rattle.dd_log.specs.History.{History, desk_mode, with_entry, allowed}
use Rattle.dd_log.proofs.Snoc.{by_snoc}
use Rattle.dd_log.proofs.Desks.{mode-push}
use Rattle.dd_table.specs.Opening.{opening, closing}
use Rattle.dd_record.specs.Writing.{KeepsShape}
use Rattle.dd_record.specs.Frames.{PointerInRange, PointersInRange}
use Rattle.dd_calls.specs.declared.steps.Step.{Step}
use Rattle.dd_calls.specs.declared.steps.Step.TheVariants as steps
use Rattle.dd_calls.specs.declared.steps.ClientCall.{ClientCall}
use Rattle.dd_calls.specs.declared.steps.ClientCall.TheVariants as calls
use Rattle.dd_station.specs.Run.{State, next, entry_of, app_of, memory_of, draw_history, opening_outcome, closing_outcome, call_outcome}
use Rattle.dd_dup.specs.Reply.{slot_of}
use Rattle.dd_script_read.specs.Readable.{is_coordinate, is_point, is_shape, is_drawing, is_step, is_byte}

-- ---- the desk's size

-- the mode after an event is one of the modes, or as before
size_drawn : (ms : List Mode) (old : Mode) (drawing : Draw) → are_modes ms ≡ true → IsSize old.width old.height
    → IsSize (mode_drawn ms old drawing).width (mode_drawn ms old drawing).height
size_drawn ms old (Present ops) modes size = size
size_drawn ms old (drawings.Pointer position visible) modes size = size
size_drawn ms old (drawings.Shape shape) modes size = size
size_drawn ms old (drawings.Mode index) modes size = found (slice_get ms index) (sizes_of_modes ms index modes) where
  found : (m : Option Mode) → IfSome m (λ mode. IsSize mode.width mode.height)
      → IsSize (unwrap_or m old).width (unwrap_or m old).height
  found None t = size
  found (Some m) t = t
size_drawn ms old (Switch secure) modes size = size
size_drawn ms old Disconnect modes size = size
size_drawn ms old Reconnect modes size = size

size_after : (ms : List Mode) (old : Mode) (e : Event) → are_modes ms ≡ true → IsSize old.width old.height
    → IsSize (mode_after ms old e).width (mode_after ms old e).height
size_after ms old (events.Draw drawing) modes size = size_drawn ms old drawing modes size
size_after ms old (Opened slot app) modes size = size
size_after ms old (Closed slot) modes size = size
size_after ms old End modes size = size

first_size : (ms : List Mode) → are_modes ms ≡ true → IsSize (desk_of ms []).mode.width (desk_of ms []).mode.height
unfolding desk_of first_desk
first_size ms modes = (first_of_modes ms modes).1

pub desk_size : (h : History) → are_modes h.spec.modes ≡ true → IsSize (desk_mode h).width (desk_mode h).height
desk_size h modes =
    by_snoc (λ (es : List Entry). HasSize (desk_of h.spec.modes es).mode) (first_size h.spec.modes modes)
    (λ (es : List Entry) (e : Entry) (size : HasSize (desk_of h.spec.modes es).mode).
    subst HasSize (sym (mode-push h.spec.modes es e))
    (size_after h.spec.modes (desk_of h.spec.modes es).mode e.event modes size)) h.entries where
      HasSize : Mode → Type 0
      HasSize mode = IsSize mode.width mode.height

-- ---- pointers and shapes

fits : (z : ℤ) → is_coordinate z ≡ true → FitsSigned w32 z
fits (pos n) t =
    let below = (and_parts (int_le (negsuc 2147483647) (pos n)) (int_le (pos n) (pos 2147483647)) t).1 in
    let few : n ≤ 2147483647 = grind (arith, nat_tests) in
    record { sfits = omega (arith, few) }
fits (negsuc n) t =
    let above = (and_parts (int_le (negsuc 2147483647) (negsuc n)) (int_le (negsuc n) (pos 2147483647)) t).0 in
    let few : n ≤ 2147483647 = grind (arith, nat_tests) in
    record { sfits = omega (arith, few) }

point_fits : (p : Point) → is_point p ≡ true → FitsSigned w32 p.x × FitsSigned w32 p.y
point_fits p t = let both = and_parts (is_coordinate p.x) (is_coordinate p.y) t in (fits p.x both.0, fits p.y both.1)

none_of : {A : Type 0} (o : Option A) → is_none o ≡ true → o ≡ None
none_of None t = refl
none_of (Some x) t = cc

shape_keeps : (s : PointerShape) → is_shape s ≡ true → KeepsShape s
shape_keeps s t =
    let both = and_parts (is_none (shape_fault s.kind s.width s.height s.bytes) && is_point s.hot)
    (list_all is_byte s.bytes) t in
    let first = and_parts (is_none (shape_fault s.kind s.width s.height s.bytes)) (is_point s.hot) both.0 in
    let hot = point_fits s.hot first.1 in
    record {
      shape = none_of (shape_fault s.kind s.width s.height s.bytes) first.0;
      x = hot.0;
      y = hot.1;
    }

drawing_in_range : (drawing : Draw) → is_drawing drawing ≡ true → PointerInRange (events.Draw drawing)
drawing_in_range (Present ops) t = (tt, tt)
drawing_in_range (drawings.Pointer position visible) t = (point_fits position t, tt)
drawing_in_range (drawings.Shape shape) t = (tt, shape_keeps shape t)
drawing_in_range (drawings.Mode index) t = (tt, tt)
drawing_in_range (Switch secure) t = (tt, tt)
drawing_in_range Disconnect t = (tt, tt)
drawing_in_range Reconnect t = (tt, tt)

-- one entry more that is in range
range_more : (es : List Entry) (e : Entry) → PointersInRange es → PointerInRange e.event
    → PointersInRange (es ++ e ∷ [])
range_more [] e range new = (new, tt)
range_more (x ∷ es) e range new = (range.0, range_more es e range.1 new)

-- ---- in each state

-- the modes, the capacity and the pointers of the list are in range
pub record IsInRange (h : History) : Type 0 where
  pub modes : are_modes h.spec.modes ≡ true
  pub some : 1 ≤ h.spec.capacity
  pub few : h.spec.capacity ≤ MAX_CAPACITY
  pub pointers : PointersInRange h.entries

range_entered : (h : History) (e : Entry) → IsInRange h → PointerInRange e.event → IsInRange (with_entry h e)
range_entered h e range new = record {
  modes = range.modes;
  some = range.some;
  few = range.few;
  pointers = range_more h.entries e range.pointers new;
}

range_drawn : (cause : Option LogRefusal) (h : History) (actor step : ℕ) (drawing : Draw) → is_drawing drawing ≡ true
    → IsInRange h
    → IsInRange (draw_history cause h (record { actor = actor; step = step; event = events.Draw drawing }))
range_drawn None h actor step drawing t range =
    range_entered h (record { actor = actor; step = step; event = events.Draw drawing }) range
    (drawing_in_range drawing t)
range_drawn (Some cause) h actor step drawing t range = range

range_opened : (r : Result ℕ OpenRefusal) (s : State) (k : ℕ) → IsInRange s.history
    → IsInRange (opening_outcome r s k).1.history
range_opened (Ok slot) s k range = range_entered s.history (entry_of s k (Opened slot (app_of s k))) range (tt, tt)
range_opened (Err cause) s k range = range

range_closed : (r : Result ℕ CloseRefusal) (s : State) (k : ℕ) → IsInRange s.history
    → IsInRange (closing_outcome r s k).1.history
range_closed (Ok slot) s k range = range_entered s.history (entry_of s k (Closed slot)) range (tt, tt)
range_closed (Err cause) s k range = range

range_called : (s : State) (k : ℕ) (call : ClientCall) → IsInRange s.history
    → IsInRange (call_outcome s k call).1.history
range_called s k calls.Duplicate range = range_opened (opening s.history (app_of s k)) s k range
range_called s k calls.Close range =
    range_closed (closing s.history (slot_of (memory_of s k) s.history)) s k range
range_called s k (calls.Acquire timeout) range = range
range_called s k calls.Release range = range
range_called s k (calls.Moves buffer) range = range
range_called s k (calls.Dirty buffer) range = range
range_called s k (calls.Shape buffer) range = range
range_called s k calls.Surface range = range
range_called s k calls.Desc range = range

pub range_next : (s : State) (t : Step) → is_step t ≡ true → IsInRange s.history → IsInRange (next s t).1.history
unfolding next
range_next s (steps.Draw drawing) t range =
    range_drawn (allowed s.history drawing) s.history 0 (s.steps + 1) drawing t range
range_next s (steps.Call k call) t range = range_called s k call range

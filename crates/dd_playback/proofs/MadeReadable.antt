-- The script of every seed can be read and run: what the generator says of its steps is more than a reader asks.
use Rattle.std.proofs.Common.{◌≡◌, ℕ, suc, ◌^◌, ◌≤◌, pos, negsuc, ℤ, true, Bool, List, [], ◌∷◌, length, refl, lit≤, arith}
use Rattle.std.specs.Prelude.{◌&&◌, int_le, int_lt, nat_le, nat_lt}
use Rattle.std.specs.List.{list_all}
use Rattle.std.proofs.lemmas.Bool.{and_from, and_parts, false≢true, leb-true, lt-ltb, le-leb}
use Rattle.dd_geom.specs.declared.rect.Rect.{Rect}
use Rattle.dd_geom.specs.Rect.{is_inside, source_rect, spans_inside, covers}
use Rattle.dd_grid.specs.declared.cell.TheConstants.{COLOURS}
use Rattle.dd_modes.specs.Modes.{is_mode, are_modes}
use Rattle.dd_ops.specs.declared.lists.TheConstants.{MAX_OPS}
use Rattle.dd_ops.specs.declared.operations.Op.{Op}
use Rattle.dd_ops.specs.declared.operations.Op.TheVariants.{Fill, Blit, Cover, Scroll}
use Rattle.dd_log.specs.declared.events.Draw as draws
use Rattle.dd_log.specs.declared.events.Draw.TheVariants as drawings
use Rattle.dd_calls.specs.declared.steps.ClientCall.{ClientCall}
use Rattle.dd_calls.specs.declared.steps.ClientCall.TheVariants.{Duplicate, Close, Acquire, Release, Moves, Dirty, Shape, Surface, Desc}
use Rattle.dd_calls.specs.declared.steps.Step.{Step}
use Rattle.dd_calls.specs.declared.steps.Step.TheVariants.{Draw, Call}
use Rattle.dd_script_read.specs.Script.{has_client, keeps_limits}
use Rattle.dd_script_read.specs.Readable.{is_coordinate, is_rectangle, is_operation, is_drawing, is_call, is_step, is_readable}
use Rattle.dd_gen.specs.Generator.{rect_at, made, made_steps}
use Rattle.dd_gen.specs.EverySeed.{is_made_op, is_made_drawing, is_made_call, is_made_step}
use Rattle.dd_gen.proofs.Every.{scripts_are_made}
use Rattle.dd_script_laws.proofs.LineBack.{scripts_read_back}
use Rattle.dd_playback.specs.MadeScripts.{MadeScriptsAreReadable, MadeScriptsAreRunnable, MadeScriptsAreRead}
use Rattle.dd_prog.proofs.MadeRuns as runs

-- the elements of a list pass a test that is weaker than the one that they pass
all_pass : {A : Type 0} (p q : A → Bool) → ((x : A) → p x ≡ true → q x ≡ true)
    → (xs : List A) → list_all p xs ≡ true → list_all q xs ≡ true
all_pass p q h [] t = refl
all_pass p q h (x ∷ xs) t =
    let both = and_parts (p x) (list_all p xs) t in
    and_from (q x) (list_all q xs) (h x both.0) (all_pass p q h xs both.1)

-- the places of a span of a screen are coordinates
span_coordinates : (from to : ℤ) (n : ℕ) → n ≤ 2147483647 → spans_inside from to n ≡ true
    → (is_coordinate from ≡ true) × (is_coordinate to ≡ true)
span_coordinates (pos a) (pos b) n few t =
    let whole = and_parts (int_le (pos 0) (pos a) && int_lt (pos a) (pos b)) (int_le (pos b) (pos n)) t in
    let some = and_parts (int_le (pos 0) (pos a)) (int_lt (pos a) (pos b)) whole.0 in
    let first = leb-true (suc a) b some.1 in
    let last = leb-true b n whole.1 in
    (and_from _ _ refl (le-leb a 2147483647 (omega arith)), and_from _ _ refl (le-leb b 2147483647 (omega arith)))
span_coordinates (pos a) (negsuc b) n few t =
    let whole = and_parts (int_le (pos 0) (pos a) && int_lt (pos a) (negsuc b)) (int_le (negsuc b) (pos n)) t in
    let some = and_parts (int_le (pos 0) (pos a)) (int_lt (pos a) (negsuc b)) whole.0 in
    absurd (false≢true some.1)
span_coordinates (negsuc a) to n few t =
    let whole = and_parts (int_le (pos 0) (negsuc a) && int_lt (negsuc a) to) (int_le to (pos n)) t in
    let some = and_parts (int_le (pos 0) (negsuc a)) (int_lt (negsuc a) to) whole.0 in
    absurd (false≢true some.0)

inside_coordinates : (r : Rect) → is_inside r 1920 1080 ≡ true
    → (is_rectangle r ≡ true) × (is_coordinate r.left ≡ true) × (is_coordinate r.top ≡ true)
inside_coordinates r t =
    let both = and_parts (spans_inside r.left r.right 1920) (spans_inside r.top r.bottom 1080) t in
    let across = span_coordinates r.left r.right 1920 (lit≤ tt) both.0 in
    let down = span_coordinates r.top r.bottom 1080 (lit≤ tt) both.1 in
    (and_from _ _ (and_from _ _ (and_from _ _ across.0 down.0) across.1) down.1, across.0, down.0)

operation : (op : Op) → is_made_op op ≡ true → is_operation op ≡ true
operation (Fill rect colour) t =
    let both = and_parts (is_inside rect 1920 1080) (nat_lt colour COLOURS) t in
    and_from _ _ (inside_coordinates rect both.0).0 both.1
operation (Blit rect colours) t = absurd (false≢true t)
operation (Cover rect colours) t = absurd (false≢true t)
operation (Scroll mv) t =
    let both = and_parts (is_inside mv.dest 1920 1080) (is_inside (source_rect mv) 1920 1080) t in
    let source = inside_coordinates (source_rect mv) both.1 in
    and_from _ _ (and_from _ _ source.1 source.2) (inside_coordinates mv.dest both.0).0

-- a coordinate from 0 to less than a length
coordinate_below : (z : ℤ) (n : ℕ) → n ≤ 2147483647 → int_le (pos 0) z ≡ true → int_lt z (pos n) ≡ true
    → is_coordinate z ≡ true
coordinate_below (pos m) n few low high =
    let h = leb-true (suc m) n high in
    and_from _ _ refl (le-leb m 2147483647 (omega arith))
coordinate_below (negsuc m) n few low high = absurd (false≢true low)

on_screen : (x y : ℤ) → covers (rect_at 0 0 1920 1080) x y ≡ true → (is_coordinate x && is_coordinate y) ≡ true
on_screen x y t =
    let c = and_parts (int_le (pos 0) x && int_lt x (pos 1920) && int_le (pos 0) y) (int_lt y (pos 1080)) t in
    let b = and_parts (int_le (pos 0) x && int_lt x (pos 1920)) (int_le (pos 0) y) c.0 in
    let a = and_parts (int_le (pos 0) x) (int_lt x (pos 1920)) b.0 in
    and_from _ _ (coordinate_below x 1920 (lit≤ tt) a.0 a.1) (coordinate_below y 1080 (lit≤ tt) b.1 c.1)

drawing_passes : (d : draws.Draw) → is_made_drawing d ≡ true → is_drawing d ≡ true
drawing_passes (drawings.Present ops) t =
    let each = and_parts (nat_le 1 (length ops) && nat_le (length ops) 4) (list_all is_made_op ops) t in
    let count = and_parts (nat_le 1 (length ops)) (nat_le (length ops) 4) each.0 in
    let few = leb-true (length ops) 4 count.1 in
    and_from _ _ (le-leb (length ops) MAX_OPS (omega arith)) (all_pass is_made_op is_operation operation ops each.1)
drawing_passes (drawings.Pointer position visible) t = on_screen position.x position.y t
drawing_passes (drawings.Shape shape) t = absurd (false≢true t)
drawing_passes (drawings.Mode index) t = absurd (false≢true t)
drawing_passes (drawings.Switch secure) t = absurd (false≢true t)
drawing_passes drawings.Disconnect t = absurd (false≢true t)
drawing_passes drawings.Reconnect t = absurd (false≢true t)

call_passes : (call : ClientCall) → is_made_call call ≡ true → is_call call ≡ true
call_passes Duplicate t = refl
call_passes Close t = refl
call_passes (Acquire timeout) t = t
call_passes Release t = refl
call_passes (Moves buffer) t = absurd (false≢true t)
call_passes (Dirty buffer) t = absurd (false≢true t)
call_passes (Shape buffer) t = absurd (false≢true t)
call_passes Surface t = absurd (false≢true t)
call_passes Desc t = absurd (false≢true t)

step_passes : (t : Step) → is_made_step t ≡ true → is_step t ≡ true
step_passes (Draw drawing) h = drawing_passes drawing h
step_passes (Call client call) h =
    let both = and_parts (nat_le 1 client && nat_le client 3) (is_made_call call) h in
    let range = and_parts (nat_le 1 client) (nat_le client 3) both.0 in
    let few = leb-true client 3 range.1 in
    and_from _ _ (lt-ltb client (2 ^ 32) (omega arith)) (call_passes call both.1)

client_passes : (t : Step) → is_made_step t ≡ true → has_client 3 t ≡ true
client_passes (Draw drawing) h = refl
client_passes (Call client call) h =
    (and_parts (nat_le 1 client && nat_le client 3) (is_made_call call) h).0

pub made_readable : MadeScriptsAreReadable
unfolding made is_readable keeps_limits are_modes is_mode
made_readable seed =
    let each = (scripts_are_made seed).steps in
    and_from _ _ (and_from _ _ refl (all_pass is_made_step is_step step_passes (made_steps seed) each))
    (and_from _ _ refl (all_pass is_made_step (has_client 3) client_passes (made_steps seed) each))

pub made_runnable : MadeScriptsAreRunnable
made_runnable seed = runs.made_runnable seed

pub made_read : MadeScriptsAreRead
made_read seed = scripts_read_back (made seed) (made_readable seed)

-- Neither a script's own tree nor the counts' holds a number with a fraction, so their text is told byte for byte.
use Rattle.std.proofs.Common.{◌≡◌, false, refl}
use Rattle.serde_json.specs.Written.{has_float}
use Rattle.dd_modes.specs.declared.modes.Mode.{Mode}
use Rattle.dd_ops.specs.declared.operations.Op.{Op}
use Rattle.dd_ops.specs.declared.operations.Op.TheVariants.{Fill, Blit, Cover, Scroll}
use Rattle.dd_pointer.specs.Shape.{PointerShape}
use Rattle.dd_log.specs.declared.events.Draw as draws
use Rattle.dd_log.specs.declared.events.Draw.TheVariants as drawings
use Rattle.dd_calls.specs.declared.counting.Counts.{Counts}
use Rattle.dd_calls.specs.declared.steps.ClientCall.TheVariants.{Duplicate, Close, Acquire, Release, Moves, Dirty, Shape, Surface, Desc}
use Rattle.dd_calls.specs.declared.steps.Step.{Step}
use Rattle.dd_calls.specs.declared.steps.Step.TheVariants.{Draw, Call}
use Rattle.dd_calls.specs.declared.steps.Script.{Script}
use Rattle.dd_script_write.specs.Answers.{count}
use Rattle.dd_script_write.specs.Spelling.{op_tree, shape_step_tree, draw_tree, step_tree, mode_tree, spelling}
use Rattle.dd_script_write.specs.Texts.{counts_tree}
use Rattle.dd_script_write.proofs.NoFloat.{list_has_none, point_has_none, rect_has_none}

op_has_none : (o : Op) → has_float (op_tree o) ≡ false
unfolding op_tree
op_has_none (Fill r c) = rw (rect_has_none r) refl
op_has_none (Blit r cs) = rw (rect_has_none r) refl
op_has_none (Cover r cs) = rw (rect_has_none r) refl
op_has_none (Scroll m) = rw (point_has_none m.source, rect_has_none m.dest) refl

shape_step_has_none : (s : PointerShape) → has_float (shape_step_tree s) ≡ false
unfolding shape_step_tree
shape_step_has_none s = rw (point_has_none s.hot) refl

draw_has_none : (d : draws.Draw) → has_float (draw_tree d) ≡ false
unfolding draw_tree
draw_has_none (drawings.Present ops) = rw (list_has_none op_tree op_has_none ops) refl
draw_has_none (drawings.Pointer position visible) = rw (point_has_none position) refl
draw_has_none (drawings.Shape shape) = shape_step_has_none shape
draw_has_none (drawings.Mode index) = refl
draw_has_none (drawings.Switch secure) = refl
draw_has_none drawings.Disconnect = refl
draw_has_none drawings.Reconnect = refl

step_has_none : (t : Step) → has_float (step_tree t) ≡ false
unfolding step_tree
step_has_none (Draw drawing) = draw_has_none drawing
step_has_none (Call client Duplicate) = refl
step_has_none (Call client Close) = refl
step_has_none (Call client (Acquire timeout)) = refl
step_has_none (Call client Release) = refl
step_has_none (Call client (Moves buffer)) = refl
step_has_none (Call client (Dirty buffer)) = refl
step_has_none (Call client (Shape buffer)) = refl
step_has_none (Call client Surface) = refl
step_has_none (Call client Desc) = refl

mode_has_none : (m : Mode) → has_float (mode_tree m) ≡ false
unfolding mode_tree
mode_has_none m = refl

pub script_has_no_float : (s : Script) → has_float (spelling s) ≡ false
unfolding spelling
script_has_no_float s =
    rw (
      list_has_none count (λ _. refl) s.clients,
      list_has_none mode_tree mode_has_none s.spec.modes,
      list_has_none count (λ _. refl) s.spec.privileged,
      list_has_none step_tree step_has_none s.steps,
    ) refl

pub counts_have_no_float : (c : Counts) → has_float (counts_tree c) ≡ false
unfolding counts_tree
counts_have_no_float c = refl

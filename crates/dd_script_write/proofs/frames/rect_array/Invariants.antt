use Rattle.std.proofs.Common.{◌≡◌, map, take}
use Rattle.serde_json.specs.View.{view}
use Rattle.dd_script_write.specs.Answers.{rect_tree}
use Rattle.dd_script_write.proofs.frames.rect_array.Given as goal

abbrev pub invariant-loop-r : goal.invariant-loop-r
invariant-loop-r l = map view l.list.items ≡ map rect_tree (take l.r-index l.rects)

use Rattle.std.proofs.Common.{◌≡◌, map, take}
use Rattle.serde_json.specs.View.{view}
use Rattle.dd_script_write.specs.Answers.{count}
use Rattle.dd_script_write.proofs.scripts.count_array.Given as goal

abbrev pub invariant-loop-n : goal.invariant-loop-n
invariant-loop-n l = map view l.list.items ≡ map count (take l.n-index l.numbers)

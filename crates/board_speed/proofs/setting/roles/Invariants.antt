use Rattle.std.proofs.Common.{◌≡◌, ◌+◌, vec_len}
use Rattle.board_speed.proofs.setting.roles.Given as goal

abbrev pub invariant-loop-number : goal.invariant-loop-number
invariant-loop-number l = vec_len l.roles ≡ l.number + 1

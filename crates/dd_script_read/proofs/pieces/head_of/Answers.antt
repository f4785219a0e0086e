use Rattle.std.proofs.Common.{◌≡◌, true, codes, Some, bytes_eq, arith}
use Rattle.json.specs.Json.{read_key}
use Rattle.dd_script_read.proofs.ByPieces.{member_read, head_read}
use Rattle.dd_script_read.proofs.pieces.head_of.Goals as goal

pub returns-then-eq : goal.returns-then-eq
returns-then-eq c =
    let k = c.in-Ok-Some.key.now in
    let key : read_key c.loop-key.reader ≡ Some (Some k, c.next_key.new.self) = grind arith in
    let named : bytes_eq k (codes "steps") ≡ true = grind arith in
    head_read c.args.reader.now c.loop-key.reader c.next_key.new.self c.loop-key.head.items k named key
    c.loop-key.invariant

pub loop-key-preserved : goal.loop-key-preserved
loop-key-preserved c =
    let k = c.in-Ok-Some.key in
    let key : read_key c.loop-key.reader ≡ Some (Some k.now, c.next_key.new.self) = grind arith in
    member_read c.args.reader.now c.loop-key.reader c.next_key.new.self c.next_tree.new.reader c.loop-key.head.items
    c.push.new.self.items k c.in_ok-tree.tree key c.in_ok-tree.ensures.ok c.in_ok-tree.ensures.shorter
    c.in_ok-push.ensures.items c.loop-key.invariant

use Rattle.std.proofs.Common.{◌≡◌, ℕ, ◌+◌, ◌-◌, ◌*◌, ◌++◌, drop, length, ap, ◌∙◌, arith}
use Rattle.dd_geom.specs.declared.rect.TheConstants.{MOVE_BYTES}
use Rattle.dd_geom.specs.Bytes.{move_bytes}
use Rattle.dd_geom.proofs.ByteLemmas.{length-move_bytes}
use Rattle.dd_meta.specs.Buffer.{bytes_of_moves}
use Rattle.dd_meta.proofs.Pieces.{put_more, put_all}
use Rattle.dd_meta.proofs.buffer.write_moves.Goals as goal

pub loop-i-preserved : goal.loop-i-preserved
loop-i-preserved c =
    let same = c.loop-i.auto.buffer in
    let is = c.copy_from_slice.ensures.after ∙ c.move_bytes.ensures in
    let size : length c.copy_from_slice.new.self ≡ c.loop-i.i * 24 + 24 - c.loop-i.i * 24 =
    ap length is ∙ (length-move_bytes _ ∙ omega arith) in
    put_more move_bytes c.args.moves.now _ c.loop-i.i _ _ _ c.args.buffer.now c.loop-i.buffer c.copy_from_slice.new.self
    c.loop-i-test.true (omega arith) is size (omega arith) c.loop-i.invariant

pub returns : goal.returns
returns c =
    let ends = c.loop-i.auto.i-end in
    let place : c.loop-i.i * MOVE_BYTES ≡ MOVE_BYTES * length c.args.moves.now = omega arith in
    put_all move_bytes c.args.moves.now c.loop-i.i (c.loop-i.i * MOVE_BYTES) c.args.buffer.now
    c.loop-i.buffer c.loop-i-test.false c.loop-i.invariant
    ∙ ap (λ (n : ℕ). bytes_of_moves c.args.moves.now ++ drop n c.args.buffer.now) place

use Rattle.std.proofs.Common.{◌≡◌, ℕ, ◌+◌, ◌-◌, ◌*◌, ◌++◌, drop, length, ap, ◌∙◌, arith}
use Rattle.dd_geom.specs.declared.rect.TheConstants.{RECT_BYTES}
use Rattle.dd_geom.specs.Bytes.{rect_bytes}
use Rattle.dd_geom.proofs.ByteLemmas.{length-rect_bytes}
use Rattle.dd_meta.specs.Buffer.{bytes_of_rects}
use Rattle.dd_meta.proofs.Pieces.{put_more, put_all}
use Rattle.dd_meta.proofs.buffer.write_rects.Goals as goal

pub loop-i-preserved : goal.loop-i-preserved
loop-i-preserved c =
    let same = c.loop-i.auto.buffer in
    let is = c.copy_from_slice.ensures.after ∙ c.rect_bytes.ensures in
    let size : length c.copy_from_slice.new.self ≡ c.loop-i.i * 16 + 16 - c.loop-i.i * 16 =
    ap length is ∙ (length-rect_bytes _ ∙ omega arith) in
    put_more rect_bytes c.args.rects.now _ c.loop-i.i _ _ _ c.args.buffer.now c.loop-i.buffer c.copy_from_slice.new.self
    c.loop-i-test.true (omega arith) is size (omega arith) c.loop-i.invariant

pub returns : goal.returns
returns c =
    let ends = c.loop-i.auto.i-end in
    let place : c.loop-i.i * RECT_BYTES ≡ RECT_BYTES * length c.args.rects.now = omega arith in
    put_all rect_bytes c.args.rects.now c.loop-i.i (c.loop-i.i * RECT_BYTES) c.args.buffer.now
    c.loop-i.buffer c.loop-i-test.false c.loop-i.invariant
    ∙ ap (λ (n : ℕ). bytes_of_rects c.args.rects.now ++ drop n c.args.buffer.now) place

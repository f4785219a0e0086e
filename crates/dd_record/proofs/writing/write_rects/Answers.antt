-- The buffer has room for all of them.
use Rattle.std.proofs.Common.{ℕ, take, replicate, subst, ap, ◌∙◌, arith}
use Rattle.std.proofs.lemmas.List.{length-replicate}
use Rattle.dd_meta.proofs.Sizes.{rects_size}
use Rattle.dd_record.specs.Sinks.{change, Writes}
use Rattle.dd_record.proofs.Written.{put_fits}
use Rattle.dd_record.proofs.writing.write_rects.Goals as goal

pub returns : goal.returns
returns g c =
    let size = rects_size c.args.rects.now in
    let few = c.requires in
    subst (λ bs. Writes (change g.K.Sink.held g.K.Sink.faults c.args.k.now c.write_bytes.new.k) bs c.write_bytes.result)
    (ap (λ n. take n c.put_rects.new.buffer) c.unwrap_or-size.ensures
    ∙ put_fits _ (replicate 1024 0) _ c.put_rects.result c.put_rects.ensures
    (omega (arith, size, few, length-replicate {A = ℕ} 1024 0)))
    c.write_bytes.ensures

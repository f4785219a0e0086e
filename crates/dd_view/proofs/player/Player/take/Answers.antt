-- Behind a chunk that was taken nothing was tested, and a frame more had 42 bytes at least.
use Rattle.std.proofs.Common.{◌≤◌, ◌*◌, ◌+◌, ℕ, length, ap, subst, sym, Option, Some, None, arith}
use Rattle.std.proofs.lemmas.List.{length-drop}
use Rattle.dd_record.specs.declared.chunk.Chunk.{Chunk}
use Rattle.dd_record.specs.declared.chunk.Chunk.TheVariants.{Opening, Frame, End}
use Rattle.dd_record.specs.declared.chunk.FrameChunk.{FrameChunk}
use Rattle.dd_record.specs.Fitting.{least_size}
use Rattle.dd_record.proofs.Before.{nothing_yet}
use Rattle.dd_view.specs.Player.{Reader}
use Rattle.dd_view.specs.Playing.{Screen, Played, frame_if, chunk_played}
use Rattle.dd_view.proofs.player.Player.take.Goals as goal

frame_more : (asked : ℕ) (p : Played) (f : FrameChunk) (s : Option Screen) (used at : ℕ) → 42 ≤ used
    → 42 * p.frames ≤ at → 42 * (frame_if asked p f s).frames ≤ at + used
frame_more asked p f None used at least few = omega (arith, least, few)
frame_more asked p f (Some s) used at least few = omega (arith, least, few)

frames_more : (asked : ℕ) (p : Played) (c : Chunk) (used at : ℕ) → least_size c ≤ used → 42 * p.frames ≤ at
    → 42 * (chunk_played asked p c).frames ≤ at + used
frames_more asked p (Opening mode) used at least few = omega (arith, few)
frames_more asked p (Frame f) used at least few = frame_more asked p f p.screen used at least few
frames_more asked p End used at least few = omega (arith, few)

pub invariant_of-self-2 : goal.invariant_of-self-2
invariant_of-self-2 c =
    let r = c.self.inside in
    let used : ℕ = c.args.parsed.used in
    let before : 42 * c.replace-played.result.frames ≤ r.at =
    subst (λ (p : Played). 42 * p.frames ≤ r.at) (sym c.replace-played.ensures.value) c.self.invariant.frames in
    record {
      few =
          omega (
            arith,
            c.self.invariant.few,
            c.requires.within,
            ap (λ (q : Reader). length q.rest) c.self.view_is,
            ap length c.skip.ensures,
            length-drop used r.pending,
          );
      frames =
          subst (λ (p : Played). 42 * p.frames ≤ r.at + used) (sym c.in_ok-self-inside.ensures)
          (frames_more r.asked c.replace-played.result c.args.parsed.chunk used r.at c.requires.least before);
      tested = omega arith;
      before = nothing_yet _;
    }

use Rattle.std.proofs.Common.{◌≡◌, take, drop, ap, ◌∙◌, arith, length-drop}
use Rattle.std.proofs.lemmas.List.{take_all}
use Rattle.dd_geom.specs.Bytes.{rect_of, move_of}
use Rattle.dd_geom.proofs.ByteLemmas.{same_move}
use Rattle.dd_geom.proofs.bytes.move_of.Goals as goal

pub returns : goal.returns
unfolding move_of
returns c =
    let all = c.args.bytes.now in
    let rest : take 16 (drop 8 all) ≡ drop 8 all = take_all 16 (drop 8 all) (omega (arith, length-drop 8 all)) in
    same_move _ (move_of all) c.read_point.ensures (c.read_rect.ensures ∙ ap rect_of rest)

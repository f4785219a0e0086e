use Rattle.dd_region.proofs.KeptLemmas.{IsPatch-move}
use Rattle.dd_region.proofs.bands.BandsArea.move_over.Goals as goal

pub write-requires : goal.write-requires
write-requires c =
    IsPatch-move c.args.m c.args.self.now.width c.args.self.now.height _ c.requires c.sides_of.ensures
    c.source_of.ensures

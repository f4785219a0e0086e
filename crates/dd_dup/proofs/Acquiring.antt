-- What an acquire that is granted does.
use Rattle.std.proofs.Common.{◌≡◌, true, false, refl}
use Rattle.dd_log.specs.History.{History, legal, any_begins}
use Rattle.dd_dup.specs.News.{news}
use Rattle.dd_dup.specs.Duplicator.{Duplicator, holding}
use Rattle.dd_dup.specs.Acquiring.{Acquires}
use Rattle.dd_dup.specs.Stands.{Stands}
use Rattle.dd_dup.proofs.Frames.{rebuilds_held, reached, exact}
use Rattle.dd_dup.proofs.Veiling.{holds_veil}

pub acquires : (d : Duplicator) (h : History) → Stands d h → legal h ≡ true → any_begins (news h d.memory.mark) ≡ false
    → Acquires d (holding d h) h
acquires d h stands t none = record {
  surface = refl;
  rebuilt = rebuilds_held d h stands t none;
  reached = reached h d.memory.mark d.memory.pointer_mark t none;
  honest = exact h d.memory.mark d.memory.pointer_mark t none;
  veiled = holds_veil d h;
  folded = refl;
}

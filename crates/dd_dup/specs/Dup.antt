-- What contracts see of a duplicator's fields.
use Rattle.dd_dup.specs.declared.duplicator.Dup.TheInside.{Inside}
use Rattle.dd_dup.specs.Duplicator.{Duplicator}

abbrev pub value : Inside → Duplicator
value d = record {
  memory = record { opened = d.opened; mark = d.mark; pointer_mark = d.pointer_mark; held = d.held; lost = d.lost };
  surface = d.surface;
  hidden = d.hidden;
  mode = d.mode;
  folded = d.folded;
}

use Rattle.std.proofs.Common.{◌≡◌, true, refl, Ok, Some, None, Option}
use Rattle.std.specs.Prelude.{is_none}
use Rattle.dd_log.specs.declared.refusal.LogRefusal.{LogRefusal}
use Rattle.dd_log.specs.History.{refusal, verdict}
use Rattle.dd_log.proofs.Legal.{may_add_of_parts}
use Rattle.dd_log.proofs.log.Log.append.Goals as goal

none_of_ok : (cause : Option LogRefusal) (x : Unit {0}) → Ok x ≡ verdict cause → is_none cause ≡ true
none_of_ok None x e = refl
none_of_ok (Some cause) x e = cc

pub add-requires : goal.add-requires
add-requires c = may_add_of_parts c.args.self.now c.args.entry (record {
  actor = c.requires.actor;
  step = c.requires.step;
  allowed = none_of_ok (refusal c.args.self.now c.args.entry.event) c.in_ok-allows.field-0 c.in_ok-allows.ensures;
  slot = c.requires.slot;
})

-- What a drawing answers.
use Rattle.std.specs.Prelude.{ℕ, List, Result}
use Rattle.dd_log.specs.declared.events.Spec.{Spec}
use Rattle.dd_log.specs.declared.events.Entry.{Entry}
use Rattle.dd_log.specs.declared.events.Draw.{Draw}
use Rattle.dd_log.specs.declared.events.Event.TheVariants as events
use Rattle.dd_log.specs.declared.refusal.LogRefusal.{LogRefusal}
use Rattle.dd_log.specs.History.{allowed, verdict}
use Rattle.dd_board.specs.Lists.{listed}

-- the entry of an actor's drawing
abbrev pub drawing_of : ℕ → ℕ → Draw → Entry
drawing_of actor step drawing = record { actor = actor; step = step; event = events.Draw drawing }

-- the answer to a drawing, by a list
abbrev pub drawing_answer : Spec → List Entry → Draw → Result (Unit {0}) LogRefusal
drawing_answer spec es drawing = verdict (allowed (listed spec es) drawing)

-- What it says of bytes that they are no input of a command.
use Rattle.std.proofs.Common.{◌≡◌, ◌⊎◌, inl, inr, ℕ, ◌<◌, ◌≤◌, List, Option, Some, None, Result, Ok, Err, refl}
use Rattle.dd_record.specs.declared.fault.RecordFault.{RecordFault}
use Rattle.dd_script_read.specs.Reading.{IsNoScript}
use Rattle.dd_script_read.specs.Script.{script_of}
use Rattle.dd_view.specs.Playing.{Shown}
use Rattle.dd_view.specs.Player.{reader_of, finish_answer}
use Rattle.dd_view.proofs.Asked.{ShownFrom, reader_keeps}
use Rattle.dd_prog.specs.Commands.{replay_work, view_work, IsNoInput}

-- Bytes that are no input of a replay have no JSON reading, or a tree that is no script.
pub no_script : (b : List ℕ) → IsNoInput replay_work b → IsNoScript b
no_script b none d json = no_value (script_of d) (λ s is. none s (d, json, is)) where
  no_value : {A : Type 0} (o : Option A) → ((x : A) → o ≡ Some x → ⊥) → o ≡ None
  no_value None h = refl
  no_value (Some x) h = absurd (h x refl)

-- Bytes that are no input of a view end with a fault, or have fewer frames than the one that is asked for.
pub no_record : (b : List ℕ) (frame : ℕ) → 1 ≤ frame → IsNoInput (view_work frame) b
    → ((fault : RecordFault) × (finish_answer (reader_of frame b) ≡ Err fault))
    ⊎ ((reader_of frame b).played.frames < frame)
no_record b frame some none =
    by_answer (finish_answer (reader_of frame b)) refl (reader_of frame b).played.shown refl
    (reader_keeps frame b some).shown where
      by_answer : (answer : Result (Unit {0}) RecordFault) → finish_answer (reader_of frame b) ≡ answer
          → (shown : Option Shown) → (reader_of frame b).played.shown ≡ shown
          → ShownFrom frame (reader_of frame b).played.shown (reader_of frame b).played.frames
          → ((fault : RecordFault) × (finish_answer (reader_of frame b) ≡ Err fault))
          ⊎ ((reader_of frame b).played.frames < frame)
      by_answer (Err fault) told shown is from = inl (fault, told)
      by_answer (Ok x) told None is from = inr (rw is at from)
      by_answer (Ok x) told (Some shown) is from = absurd (none shown (told, is))

-- A client's duplicator, along the list.
use Rattle.std.proofs.Common.{◌≡◌, ℕ, zero, suc, Bool, true, false, List, [], ◌∷◌, Option, Some, None, Result, Ok, Err, refl, sym, ap, ◌∙◌, if◌then◌else◌}
use Rattle.std.specs.Prelude.{slice_get}
use mathlib.Core.List.{IsPrefix}
use Rattle.dd_log.specs.declared.events.Spec.{Spec}
use Rattle.dd_log.specs.declared.events.Entry.{Entry}
use Rattle.dd_calls.specs.declared.answers.DupRefusal.{DupRefusal}
use Rattle.dd_calls.specs.declared.answers.DupRefusal.TheVariants.{AccessLost, InvalidCall, WaitTimeout, MoreData, OutOfMemory}
use Rattle.dd_log.specs.History.{History, Begins}
use Rattle.dd_log.specs.Slots.{entry_slot}
use Rattle.dd_dup.specs.declared.frame.Frame.{Frame}
use Rattle.dd_dup.specs.Reply.{Memory, is_lost, lost_memory, memory_after, acquire_reply, acquire_memory}
use Rattle.dd_dup.specs.Stands.{MayStand}
use Rattle.dd_dup.proofs.Frames.{stands_later}
use Rattle.dd_board.specs.declared.holding.Holding.{Holding}
use Rattle.dd_board.specs.declared.looking.LookAnswer.{LookAnswer}
use Rattle.dd_board.specs.declared.looking.LookAnswer.TheVariants as looks
use Rattle.dd_board.specs.Lists.{listed}
use Rattle.dd_board.specs.Holding.{held_dup, MayHold}
use Rattle.dd_board.specs.Looking.{IsAcquired}
use Rattle.dd_board.proofs.Prefixes.{prefix_length, prefix_take}

pub begins_with : (spec : Spec) (xs ys : List Entry) → IsPrefix xs ys → Begins (listed spec xs) (listed spec ys)
begins_with spec xs ys p =
    record { spec = refl; within = prefix_length xs ys p; entries = prefix_take xs ys p }

-- what an entry opened at a place it opened in each longer list
pub slot_kept : (xs ys : List Entry) (place slot : ℕ) → IsPrefix xs ys → entry_slot (slice_get xs place) ≡ Some slot
    → entry_slot (slice_get ys place) ≡ Some slot
slot_kept [] ys place slot p e = absurd (cc e)
slot_kept (x ∷ xs) [] place slot p e = absurd (cc (p.1))
slot_kept (x ∷ xs) (y ∷ ys) zero slot p e =
    let same : x ≡ y = cc (p.1) in
    ap (λ (z : Entry). entry_slot (Some z)) (sym same) ∙ e
slot_kept (x ∷ xs) (y ∷ ys) (suc place) slot p e = slot_kept xs ys place slot (p.0, cc (p.1)) e

pub may_hold_later : (o : Option Holding) (spec : Spec) (xs ys : List Entry) → IsPrefix xs ys
    → MayHold o (listed spec xs) → MayHold o (listed spec ys)
may_hold_later None spec xs ys p h = tt
may_hold_later (Some x) spec xs ys p h = (
  stands_later x.dup (listed spec xs) (listed spec ys) h.0 (begins_with spec xs ys p),
  slot_kept xs ys x.dup.memory.opened x.slot p h.1,
)

-- an acquire leaves the place of the opening
kept_if : (lost : Bool) (m after : Memory) → after.opened ≡ m.opened
    → (if lost then lost_memory m else after).opened ≡ m.opened
kept_if true m after e = refl
kept_if false m after e = e

after_opened : (m : Memory) (h : History) (r : Result Frame DupRefusal) → (memory_after m h r).opened ≡ m.opened
after_opened m h (Ok f) = refl
after_opened m h (Err cause) = refl

acquire_opened : (m : Memory) (h : History) → (acquire_memory m h).opened ≡ m.opened
acquire_opened m h =
    kept_if (is_lost m h) m (memory_after m h (acquire_reply m h)) (after_opened m h (acquire_reply m h))

refused_opened : (cause : DupRefusal) (old new : Memory) (h : History) → IsAcquired (looks.Refused cause) old new h
    → new.opened ≡ old.opened
refused_opened OutOfMemory old new h a = ap (λ (m : Memory). m.opened) a.1
refused_opened AccessLost old new h a = ap (λ (m : Memory). m.opened) a.1 ∙ acquire_opened old h
refused_opened InvalidCall old new h a = ap (λ (m : Memory). m.opened) a.1 ∙ acquire_opened old h
refused_opened WaitTimeout old new h a = ap (λ (m : Memory). m.opened) a.1 ∙ acquire_opened old h
refused_opened (MoreData required) old new h a = ap (λ (m : Memory). m.opened) a.1 ∙ acquire_opened old h

pub acquired_opened : (answer : LookAnswer) (old new : Memory) (h : History) → IsAcquired answer old new h
    → new.opened ≡ old.opened
acquired_opened (looks.Refused cause) old new h a = refused_opened cause old new h a
acquired_opened (looks.Frame info) old new h a = ap (λ (m : Memory). m.opened) a.1 ∙ acquire_opened old h
acquired_opened looks.Released old new h a = ap (λ (m : Memory). m.opened) a.1 ∙ acquire_opened old h
acquired_opened (looks.Size size) old new h a = ap (λ (m : Memory). m.opened) a.1 ∙ acquire_opened old h
acquired_opened looks.NoDuplicator old new h a = ap (λ (m : Memory). m.opened) a.1 ∙ acquire_opened old h
acquired_opened looks.NotEntered old new h a = ap (λ (m : Memory). m.opened) a.1 ∙ acquire_opened old h

pub may_stand : (o : Option Holding) (h : History) → MayHold o h → MayStand (held_dup o) h
may_stand None h m = tt
may_stand (Some x) h m = m.0

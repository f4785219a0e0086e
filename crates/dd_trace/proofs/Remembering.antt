-- What one call more of a client's own tells of its memory, by each answer.
use Rattle.std.proofs.Common.{◌≡◌, ℕ, Bool, true, false, if◌then◌else◌, List, [], ◌∷◌, ◌++◌, length, Option, Some, None, refl, ap, ◌∙◌}
use Rattle.std.specs.Prelude.{option_map, option_and_then}
use Rattle.std.proofs.lemmas.Bool.{eq-eqb}
use Rattle.dd_calls.specs.declared.answers.Answer.{Answer}
use Rattle.dd_calls.specs.declared.answers.Answer.TheVariants as answers
use Rattle.dd_pointer.specs.Shape.{PointerShape}
use Rattle.dd_log.specs.History.{History}
use Rattle.dd_dup.specs.declared.frame.Frame.{Frame}
use Rattle.dd_dup.specs.Reply.{Memory, fresh_memory, lost_memory, with_frame, without_frame}
use Rattle.dd_calls.specs.declared.steps.Step.TheVariants as steps
use Rattle.dd_calls.specs.declared.steps.ClientCall.{ClientCall}
use Rattle.dd_trace.specs.Independence.{is_of}
use Rattle.dd_trace.specs.Trace.{Moment, is_opened, where_is, place_of, picture_seen_at, pointer_seen_at, shape_behind}
use Rattle.dd_calls.specs.Parts.{is_frame}
use Rattle.dd_trace.specs.Headline.{MayRemember, as_told}
use Rattle.dd_trace.proofs.LookingBack.{opens_or_closes, shows, moves_frame, last-now, last-beside, remembers_same, same-beside}

-- the moment of a client's call
abbrev pub called : History → Option Memory → ℕ → ClientCall → Answer → Moment
called h o k call a = record { list = h; memory = o; step = steps.Call k call; answer = a }

-- with those before it
abbrev pub then_called : List Moment → History → Option Memory → ℕ → ClientCall → Answer → List Moment
then_called before h o k call a = before ++ called h o k call a ∷ []

-- an answer that tells nothing of the memory, and one by which the frame goes
pub record IsBeside (a : Answer) : Type 0 where
  pub opens : opens_or_closes a ≡ false
  pub frame : moves_frame a ≡ false
  pub seen : shows a ≡ false

pub record LetsGo (a : Answer) : Type 0 where
  pub opens : opens_or_closes a ≡ false
  pub frame : moves_frame a ≡ true
  pub seen : shows a ≡ false
  pub none : is_frame a ≡ false

-- the shape that was new at a moment, and at a frame that was the last to come or go
abbrev shape_at : Moment → Option PointerShape
shape_at m = shape_behind m.memory m.list

abbrev shape_since : Option Moment → Option PointerShape
shape_since x = option_and_then shape_at (where_is is_frame x)

module _ (k : ℕ) (before : List Moment) (h : History) (o : Option Memory) (call : ClientCall) where
  -- the client's own call
  own : is_of k (steps.Call k call) ≡ true
  own = eq-eqb k k refl

  pub told_opened : (entry slot : ℕ)
      → MayRemember k (then_called before h o k call (answers.Opened entry slot))
      (Some (fresh_memory h (length h.entries)))
  told_opened entry slot =
      let m : Moment = called h o k call (answers.Opened entry slot) in
      let seen = last-now k shows before m own refl in
      record {
        opened = ap (λ x. option_map place_of (where_is is_opened x)) (last-now k opens_or_closes before m own refl);
        picture = ap (option_map picture_seen_at) seen;
        pointer = ap (option_map pointer_seen_at) seen;
        held =
            ap (λ x. option_map (λ m. m.answer) (where_is is_frame x)) (last-now k moves_frame before m own refl);
        shape = ap shape_since (last-now k moves_frame before m own refl);
      }

  pub told_closed : (entry : ℕ) → MayRemember k (then_called before h o k call (answers.Closed entry)) None
  told_closed entry =
      ap (where_is is_opened) (last-now k opens_or_closes before (called h o k call (answers.Closed entry)) own refl)

  pub told_frame : (d : Memory) (f : Frame) → shape_behind o h ≡ f.shape → MayRemember k before (Some d)
      → MayRemember k (then_called before h o k call (as_told f)) (Some (with_frame d (length h.entries) f))
  told_frame d f fits told =
      let m : Moment = called h o k call (as_told f) in
      let seen = last-now k shows before m own refl in
      record {
        opened =
            ap (λ x. option_map place_of (where_is is_opened x)) (last-beside k opens_or_closes before m own refl)
            ∙ told.opened;
        picture = ap (option_map picture_seen_at) seen;
        pointer = ap (option_map pointer_seen_at) seen;
        held =
            ap (λ x. option_map (λ m. m.answer) (where_is is_frame x)) (last-now k moves_frame before m own refl);
        shape = ap shape_since (last-now k moves_frame before m own refl) ∙ fits;
      }

  pub told_let_go : (d : Memory) (a : Answer) → LetsGo a → MayRemember k before (Some d)
      → MayRemember k (then_called before h o k call a) (Some (without_frame d))
  told_let_go d a goes told =
      let m : Moment = called h o k call a in
      let seen = last-beside k shows before m own goes.seen in
      record {
        opened =
            ap (λ x. option_map place_of (where_is is_opened x))
            (last-beside k opens_or_closes before m own goes.opens)
            ∙ told.opened;
        picture = ap (option_map picture_seen_at) seen ∙ told.picture;
        pointer = ap (option_map pointer_seen_at) seen ∙ told.pointer;
        held =
            ap (λ x. option_map (λ m. m.answer) (where_is is_frame x))
            (last-now k moves_frame before m own goes.frame)
            ∙ ap (λ (b : Bool). option_map (λ m. m.answer) (if b then Some m else None)) goes.none;
        shape =
            ap shape_since (last-now k moves_frame before m own goes.frame)
            ∙ ap (λ (b : Bool). option_and_then shape_at (if b then Some m else None)) goes.none;
      }

  pub told_lost : (d : Memory) (a : Answer) → LetsGo a → MayRemember k before (Some d)
      → MayRemember k (then_called before h o k call a) (Some (lost_memory d))
  told_lost d a goes told =
      let free = told_let_go d a goes told in
      record { opened = free.opened; picture = free.picture; pointer = free.pointer; held = free.held; shape = free.shape }

  pub told_beside : (d : Option Memory) (a : Answer) → IsBeside a → MayRemember k before d
      → MayRemember k (then_called before h o k call a) d
  told_beside d a beside told =
      remembers_same k before (then_called before h o k call a) d
      (same-beside k before (called h o k call a) own beside.opens beside.frame beside.seen) told

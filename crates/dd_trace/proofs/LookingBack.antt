-- Looking back over one moment more: a client's own answer counts, of another client's step nothing does.
use Rattle.std.proofs.Common.{◌≡◌, ℕ, Bool, true, false, ◌&&◌, ◌||◌, if◌then◌else◌, List, [], ◌∷◌, ◌++◌, Option, Some, None, ap, ◌∙◌}
use Rattle.std.specs.Prelude.{option_map, option_and_then}
use Rattle.std.proofs.lemmas.List.Sums.{fold-append}
use Rattle.dd_calls.specs.declared.answers.Answer.{Answer}
use Rattle.dd_dup.specs.Reply.{Memory}
use Rattle.dd_trace.specs.Independence.{is_of}
use Rattle.dd_trace.specs.Trace.{Moment, is_opened, is_closed, lets_go, last_of, where_is, place_of, picture_seen_at, pointer_seen_at, shape_behind}
use Rattle.dd_calls.specs.Parts.{is_frame}
use Rattle.dd_trace.specs.Headline.{MayRemember}

-- one moment more
pub last-more : (k : ℕ) (kind : Answer → Bool) (before : List Moment) (m : Moment)
    → last_of k kind (before ++ m ∷ []) ≡ (if is_of k m.step && kind m.answer then Some m else last_of k kind before)
last-more k kind before m =
    fold-append (λ (found : Option Moment) (n : Moment). if is_of k n.step && kind n.answer then Some n else found) None
    before (m ∷ [])

-- that isn't the client's
pub last-other : (k : ℕ) (kind : Answer → Bool) (before : List Moment) (m : Moment) → is_of k m.step ≡ false
    → last_of k kind (before ++ m ∷ []) ≡ last_of k kind before
last-other k kind before m is =
    last-more k kind before m
    ∙ ap (λ b. if b && kind m.answer then Some m else last_of k kind before) is

-- that is the client's
pub last-own : (k : ℕ) (kind : Answer → Bool) (before : List Moment) (m : Moment) → is_of k m.step ≡ true
    → last_of k kind (before ++ m ∷ []) ≡ (if kind m.answer then Some m else last_of k kind before)
last-own k kind before m is =
    last-more k kind before m
    ∙ ap (λ b. if b && kind m.answer then Some m else last_of k kind before) is

-- whose answer is of no kind that is looked for
pub last-beside : (k : ℕ) (kind : Answer → Bool) (before : List Moment) (m : Moment) → is_of k m.step ≡ true
    → kind m.answer ≡ false → last_of k kind (before ++ m ∷ []) ≡ last_of k kind before
last-beside k kind before m is none =
    last-own k kind before m is ∙ ap (λ b. if b then Some m else last_of k kind before) none

-- or of one
pub last-now : (k : ℕ) (kind : Answer → Bool) (before : List Moment) (m : Moment) → is_of k m.step ≡ true
    → kind m.answer ≡ true → last_of k kind (before ++ m ∷ []) ≡ Some m
last-now k kind before m is some =
    last-own k kind before m is ∙ ap (λ b. if b then Some m else last_of k kind before) some

-- ---- what tells what a client remembers

abbrev pub opens_or_closes : Answer → Bool
opens_or_closes a = is_opened a || is_closed a

abbrev pub shows : Answer → Bool
shows a = is_opened a || is_frame a

abbrev pub moves_frame : Answer → Bool
moves_frame a = is_opened a || is_frame a || lets_go a || is_closed a

-- Two lists of moments tell the same where they have the same last answers.
pub record TellsSame (k : ℕ) (before now : List Moment) : Type 0 where
  pub opens : last_of k opens_or_closes now ≡ last_of k opens_or_closes before
  pub seen : last_of k shows now ≡ last_of k shows before
  pub frame : last_of k moves_frame now ≡ last_of k moves_frame before

pub remembers_same : (k : ℕ) (before now : List Moment) (o : Option Memory) → TellsSame k before now
    → MayRemember k before o → MayRemember k now o
remembers_same k before now None same told = ap (where_is is_opened) same.opens ∙ told
remembers_same k before now (Some d) same told = record {
  opened = ap (λ x. option_map place_of (where_is is_opened x)) same.opens ∙ told.opened;
  picture = ap (option_map picture_seen_at) same.seen ∙ told.picture;
  pointer = ap (option_map pointer_seen_at) same.seen ∙ told.pointer;
  held = ap (λ x. option_map (λ m. m.answer) (where_is is_frame x)) same.frame ∙ told.held;
  shape =
      ap (λ x. option_and_then (λ (m : Moment). shape_behind m.memory m.list) (where_is is_frame x)) same.frame
      ∙ told.shape;
}

-- another client's step, or a drawing
pub same-other : (k : ℕ) (before : List Moment) (m : Moment) → is_of k m.step ≡ false
    → TellsSame k before (before ++ m ∷ [])
same-other k before m is = record {
  opens = last-other k opens_or_closes before m is;
  seen = last-other k shows before m is;
  frame = last-other k moves_frame before m is;
}

-- a client's own answer that opens, closes and moves nothing
pub same-beside : (k : ℕ) (before : List Moment) (m : Moment) → is_of k m.step ≡ true
    → opens_or_closes m.answer ≡ false → moves_frame m.answer ≡ false → shows m.answer ≡ false
    → TellsSame k before (before ++ m ∷ [])
same-beside k before m is opens moves seen = record {
  opens = last-beside k opens_or_closes before m is opens;
  seen = last-beside k shows before m is seen;
  frame = last-beside k moves_frame before m is moves;
}

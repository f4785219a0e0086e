-- The list begins with that of each step before, so the mode at a client's opening is that of its list then.
use Rattle.std.proofs.Common.{◌≡◌, ℕ, Bool, true, false, ◌&&◌, if◌then◌else◌, List, [], ◌∷◌, ◌++◌, fold, Option, Some, None, ap, ◌∙◌}
use Rattle.std.specs.Prelude.{IfSome, option_map}
use Rattle.std.specs.List.{AllByRecursion}
use Rattle.std.proofs.SliceLists.{all_by_recursion_push}
use Rattle.dd_calls.specs.declared.answers.Answer.{Answer}
use Rattle.dd_log.specs.History.{History, Begins, desk_mode, first_entries}
use Rattle.dd_calls.specs.declared.steps.Step.{Step}
use Rattle.dd_station.specs.Run.{State, next}
use Rattle.dd_trace.specs.Independence.{is_of}
use Rattle.dd_trace.specs.Trace.{Moment, moment_of, is_opened, where_is, opening_of, place_of}
use Rattle.dd_trace.proofs.LookingBack.{opens_or_closes}
use Rattle.dd_trace.proofs.Others.{begins_next, begins_further, begins_first}

-- the list begins with that of each of these moments
abbrev pub BeginsWithEach : List Moment → History → Type 0
BeginsWithEach ms h = AllByRecursion (λ m. Begins m.list h) ms

each_further : (ms : List Moment) (h later : History) → Begins h later → BeginsWithEach ms h
    → BeginsWithEach ms later
each_further [] h later begins each = tt
each_further (m ∷ ms) h later begins each =
    (begins_further m.list h later each.0 begins, each_further ms h later begins each.1)

pub each_next : (s : State) (t : Step) (before : List Moment) → BeginsWithEach before s.history
    → BeginsWithEach (before ++ moment_of s t ∷ []) (next s t).1.history
each_next s t before each =
    let later = (next s t).1.history in
    all_by_recursion_push (λ (m : Moment). Begins m.list later) before (moment_of s t)
    (each_further before s.history later (begins_next s t) each) (begins_next s t)

-- ---- what holds of each moment holds of the one that is found

module _ (P : Moment → Type 0) where
  either_has : (b : Bool) (m : Moment) (found : Option Moment) → P m → IfSome found P
      → IfSome (if b then Some m else found) P
  either_has true m found now past = now
  either_has false m found now past = past

  last_has : (k : ℕ) (kind : Answer → Bool) (ms : List Moment) (first : Option Moment) → IfSome first P
      → AllByRecursion P ms
      → IfSome (fold (λ found m. if is_of k m.step && kind m.answer then Some m else found) first ms) P
  last_has k kind [] first past each = past
  last_has k kind (m ∷ ms) first past each =
      let b = is_of k m.step && kind m.answer in
      last_has k kind ms (if b then Some m else first) (either_has b m first each.0 past) each.1

  where_has : (kind : Answer → Bool) (o : Option Moment) → IfSome o P → IfSome (where_is kind o) P
  where_has kind None has = tt
  where_has kind (Some m) has = either_has (kind m.answer) m None has tt

  opening_has : (k : ℕ) (ms : List Moment) → AllByRecursion P ms → IfSome (opening_of k ms) P
  opening_has k ms each = where_has is_opened _ (last_has k opens_or_closes ms None tt each)

-- ---- the mode at the opening

mode_then : (h : History) (opened : ℕ) (o : Option Moment) → IfSome o (λ m. Begins m.list h)
    → option_map place_of o ≡ Some opened
    → option_map (λ m. desk_mode m.list) o ≡ Some (desk_mode (first_entries opened h))
mode_then h opened None begins is = cc
mode_then h opened (Some m) begins is =
    ap (λ (l : History). Some (desk_mode l)) (begins_first m.list h begins)
    ∙ ap (option_map (λ n. desk_mode (first_entries n h))) is

pub opening_mode : (k : ℕ) (before : List Moment) (h : History) (opened : ℕ) → BeginsWithEach before h
    → option_map place_of (opening_of k before) ≡ Some opened
    → option_map (λ m. desk_mode m.list) (opening_of k before) ≡ Some (desk_mode (first_entries opened h))
opening_mode k before h opened each is =
    mode_then h opened (opening_of k before) (opening_has (λ m. Begins m.list h) k before each) is

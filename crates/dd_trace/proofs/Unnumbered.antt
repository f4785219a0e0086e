-- What a list tells doesn't hang on the numbers of steps.
use Rattle.std.proofs.Common.{◌≡◌, ℕ, ◌+◌, nat_le, Bool, true, false, ◌||◌, ◌&&◌, not, if◌then◌else◌, List, [], ◌∷◌, length, map, Option, Some, None, Result, Ok, Err, refl, sym, ap, ◌∙◌, ◌==◌}
use Rattle.std.specs.Prelude.{fold, is_none, is_some, option_map, position, slice_get}
use Rattle.std.specs.List.{list_any, cons_option}
use Rattle.std.specs.Option.{option_or}
use Rattle.std.proofs.lemmas.List.{take-map, drop-map, length-map}
use Rattle.std.proofs.lemmas.Option.{slice_get-map}
use Rattle.dd_geom.specs.Grid.{Grid, rows}
use Rattle.dd_grid.specs.Cell.{Cell}
use Rattle.dd_grid.specs.Drawing.{seen, any_hidden, hidden_points}
use Rattle.dd_modes.specs.declared.modes.Mode.{Mode}
use Rattle.dd_bits.specs.CanonicalList.{canonical_list}
use Rattle.dd_pointer.specs.Shape.{PointerShape}
use Rattle.dd_ops.specs.declared.operations.Op.{Op}
use Rattle.dd_acc.specs.Effects.{dirt, is_coalesced, moves}
use Rattle.dd_calls.specs.declared.answers.DupRefusal.{DupRefusal}
use Rattle.dd_calls.specs.declared.answers.DupRefusal.TheVariants.{AccessLost, InvalidCall, WaitTimeout}
use Rattle.dd_calls.specs.declared.answers.OpenRefusal.{OpenRefusal}
use Rattle.dd_calls.specs.declared.answers.OpenRefusal.TheVariants as openings
use Rattle.dd_calls.specs.declared.answers.CloseRefusal.TheVariants as closings
use Rattle.dd_log.specs.declared.refusal.LogRefusal.TheVariants as refusals
use Rattle.dd_calls.specs.declared.answers.Answer.{Answer}
use Rattle.dd_log.specs.declared.pointer.Pointer.{Pointer}
use Rattle.dd_calls.specs.declared.answers.Answer.TheVariants as answers
use Rattle.dd_log.specs.declared.desk.Desk.{Desk}
use Rattle.dd_log.specs.declared.events.Entry.{Entry}
use Rattle.dd_log.specs.declared.events.Event.{Event}
use Rattle.dd_log.specs.declared.events.Draw.{Draw}
use Rattle.dd_log.specs.Desk.{desk_after, desk_of, first_desk, is_app}
use Rattle.dd_log.specs.Events.{number_from}
use Rattle.dd_log.specs.History.{History, desk, desk_mode, first_entries, any_points, any_presents, cuts_off, is_pointing, is_present, last_pointed, last_present, last_shape, present_of, shape_in, is_full, bad_draw, allowed}
use Rattle.dd_log.specs.Picture.{State, state_after, state_of, first_state, picture, presents, view}
use Rattle.dd_log.specs.Slots.{entry_slot, slot_at}
use Rattle.dd_table.specs.Opening.{opening, closing, least_free}
use Rattle.dd_calls.specs.declared.dup_call.DupCall.{DupCall}
use Rattle.dd_calls.specs.declared.dup_call.DupCall.TheVariants as asked
use Rattle.dd_dup.specs.declared.frame.Frame.{Frame}
use Rattle.dd_dup.specs.declared.frame.PictureNews.{PictureNews}
use Rattle.dd_dup.specs.declared.frame.PointerNews.{PointerNews}
use Rattle.dd_dup.specs.News.{news, dirt_of, picture_news, picture_since, pointer_since, news_since, frame, frame_from, held_shape, shape_bytes}
use Rattle.dd_dup.specs.Reply.{Memory, fresh_memory, is_lost, is_new, lost_memory, memory_after, with_frame, without_frame, buffer_answer, shape_answer, in_buffer, unless_refused, held_shape_info, filled_buffer, acquire_reply, acquire_memory, acquire_answer, release_answer, desc_reply, reply}
use Rattle.dd_trace.specs.Independence.{unnumbered, without_numbers}

-- a desk but for the last steps
abbrev stepless : Desk → Desk
stepless d = record d { steps = [] }

desk_step : (ms : List Mode) (d b : Desk) (e : Entry) → stepless d ≡ stepless b
    → stepless (desk_after ms d e) ≡ stepless (desk_after ms b (unnumbered e))
unfolding desk_after
desk_step ms d b e same = ap (λ (x : Desk). stepless (desk_after ms x e)) same

desk_folds : (ms : List Mode) (es : List Entry) (d b : Desk) → stepless d ≡ stepless b
    → stepless (fold (desk_after ms) d es) ≡ stepless (fold (desk_after ms) b (map unnumbered es))
desk_folds ms [] d b same = same
desk_folds ms (e ∷ es) d b same =
    desk_folds ms es (desk_after ms d e) (desk_after ms b (unnumbered e)) (desk_step ms d b e same)

pub desk_same : (h : History) → stepless (desk h) ≡ stepless (desk (without_numbers h))
unfolding desk_of
desk_same h = desk_folds h.spec.modes h.entries (first_desk h.spec.modes) (first_desk h.spec.modes) refl

-- and the same with the picture
abbrev stepless_state : State → State
stepless_state s = record { desk = stepless s.desk; picture = s.picture }

state_step : (ms : List Mode) (s b : State) (e : Entry) → stepless_state s ≡ stepless_state b
    → stepless_state (state_after ms s e) ≡ stepless_state (state_after ms b (unnumbered e))
unfolding desk_after
state_step ms s b e same = ap (λ (x : State). stepless_state (state_after ms x e)) same

state_folds : (ms : List Mode) (es : List Entry) (s b : State) → stepless_state s ≡ stepless_state b
    → stepless_state (fold (state_after ms) s es) ≡ stepless_state (fold (state_after ms) b (map unnumbered es))
state_folds ms [] s b same = same
state_folds ms (e ∷ es) s b same =
    state_folds ms es (state_after ms s e) (state_after ms b (unnumbered e)) (state_step ms s b e same)

picture_same : (h : History) → picture h ≡ picture (without_numbers h)
unfolding picture state_of
picture_same h =
    ap (λ (s : State). s.picture)
    (state_folds h.spec.modes h.entries (first_state h.spec.modes) (first_state h.spec.modes) refl)

mode_same : (h : History) → desk_mode h ≡ desk_mode (without_numbers h)
mode_same h = ap (λ (d : Desk). d.mode) (desk_same h)

-- what some entries tell
presents_same : (es : List Entry) → presents es ≡ presents (map unnumbered es)
unfolding presents
presents_same [] = refl
presents_same (e ∷ es) = ap (cons_option (present_of e.event)) (presents_same es)

any_same : (is : Event → Bool) (es : List Entry)
    → list_any (λ e. is e.event) es ≡ list_any (λ e. is e.event) (map unnumbered es)
any_same is [] = refl
any_same is (e ∷ es) = ap (λ b. is e.event || b) (any_same is es)

last_same : (is : Event → Bool) (es : List Entry) (last place : ℕ)
    → number_from is last place es ≡ number_from is last place (map unnumbered es)
last_same is [] last place = refl
last_same is (e ∷ es) last place = last_same is es _ (place + 1)

abbrev shape_then : Option PointerShape → Entry → Option PointerShape
shape_then shape e = option_or (shape_in e.event) shape

shape_folds : (es : List Entry) (shape : Option PointerShape)
    → fold shape_then shape es ≡ fold shape_then shape (map unnumbered es)
shape_folds [] shape = refl
shape_folds (e ∷ es) shape = shape_folds es (shape_then shape e)

news_same : (h : History) (place : ℕ) → map unnumbered (news h place) ≡ news (without_numbers h) place
news_same h place = sym (drop-map unnumbered place h.entries)

first_same : (h : History) (n : ℕ) → without_numbers (first_entries n h) ≡ first_entries n (without_numbers h)
first_same h n = ap (λ es. record { spec = h.spec; entries = es }) (sym (take-map unnumbered n h.entries))

-- what the entries from a mark on tell of the picture, and of the pointer
abbrev picture_from : ℕ → ℕ → Grid Bool → List (List Op) → ℕ → PictureNews
picture_from w h hidden ps last = record {
  accumulated = length ps;
  last_present = last;
  coalesced = is_coalesced w h ps;
  moves = moves ps;
  dirt = canonical_list (dirt w h ps);
  hidden = hidden;
}

abbrev picture_with : Mode → Grid Bool → List Entry → ℕ → PictureNews
picture_with mode hidden es last = picture_news mode.width mode.height last hidden es

picture_news_same : (w h last : ℕ) (hidden : Grid Bool) (es : List Entry)
    → picture_news w h last hidden es ≡ picture_news w h last hidden (map unnumbered es)
unfolding picture_news dirt_of
picture_news_same w h last hidden es = ap (λ ps. picture_from w h hidden ps last) (presents_same es)

last_from : (is : Event → Bool) (h : History) (mark : ℕ)
    → number_from is 0 mark (news h mark) ≡ number_from is 0 mark (news (without_numbers h) mark)
last_from is h mark =
    last_same is (news h mark) 0 mark ∙ ap (number_from is 0 mark) (news_same h mark)

picture_since_same : (h : History) (mark : ℕ) → picture_since h mark ≡ picture_since (without_numbers h) mark
picture_since_same h mark =
    let bare = without_numbers h in
    ap (λ last. picture_with (desk_mode h) (hidden_points (picture h)) (news h mark) last) (last_from is_present h mark)
    ∙ picture_news_same (desk_mode h).width (desk_mode h).height (last_present mark (news bare mark))
    (hidden_points (picture h)) (news h mark)
    ∙ ap (λ es. picture_with (desk_mode h) (hidden_points (picture h)) es (last_present mark (news bare mark)))
    (news_same h mark)
    ∙ ap (λ mode. picture_with mode (hidden_points (picture h)) (news bare mark) (last_present mark (news bare mark)))
    (mode_same h)
    ∙ ap (λ p. picture_with (desk_mode bare) (hidden_points p) (news bare mark) (last_present mark (news bare mark)))
    (picture_same h)

abbrev pointer_from : ℕ → Pointer → Option PointerShape → PointerNews
pointer_from last pointer shape = record { last_mouse = last; pointer = pointer; shape = shape }

pointer_since_same : (h : History) (mark : ℕ) → pointer_since h mark ≡ pointer_since (without_numbers h) mark
pointer_since_same h mark =
    let bare = without_numbers h in
    ap (λ last. pointer_from last (desk h).pointer (last_shape (news h mark))) (last_from is_pointing h mark)
    ∙ ap (λ (d : Desk). pointer_from (last_pointed mark (news bare mark)) d.pointer (last_shape (news h mark)))
    (desk_same h)
    ∙ ap (pointer_from (last_pointed mark (news bare mark)) (desk bare).pointer)
    (shape_folds (news h mark) None ∙ ap last_shape (news_same h mark))

frame_same : (h : History) (mark pointer_mark : ℕ)
    → frame h mark pointer_mark ≡ frame (without_numbers h) mark pointer_mark
frame_same h mark pointer_mark =
    let bare = without_numbers h in
    ap (λ (n : PictureNews). frame_from (record { picture = n; pointer = pointer_since h pointer_mark })
    (any_hidden (picture h))) (picture_since_same h mark)
    ∙ ap (λ (n : PointerNews). frame_from (record { picture = picture_since bare mark; pointer = n })
    (any_hidden (picture h))) (pointer_since_same h pointer_mark)
    ∙ ap (λ (p : Grid Cell). frame_from (news_since bare mark pointer_mark) (any_hidden p)) (picture_same h)

-- whether one of the entries from a mark on is of a kind
kind_since : (is : Event → Bool) (h : History) (mark : ℕ)
    → list_any (λ e. is e.event) (news h mark) ≡ list_any (λ e. is e.event) (news (without_numbers h) mark)
kind_since is h mark = any_same is (news h mark) ∙ ap (list_any (λ e. is e.event)) (news_same h mark)

lost_same : (h : History) (m : Memory) → is_lost m h ≡ is_lost m (without_numbers h)
lost_same h m = ap (λ b. m.lost || b) (kind_since cuts_off h (m.opened + 1))

new_same : (h : History) (m : Memory) → is_new m h ≡ is_new m (without_numbers h)
new_same h m =
    ap (λ b. b || any_points (news h m.pointer_mark)) (kind_since is_present h m.mark)
    ∙ ap (λ b. any_presents (news (without_numbers h) m.mark) || b) (kind_since is_pointing h m.pointer_mark)

-- the replies to a duplicator's client
abbrev acquire_with : Memory → Bool → Bool → Frame → Result Frame DupRefusal
acquire_with m lost new f =
    if lost then Err AccessLost
    else if is_some m.held then Err InvalidCall else if new then Ok f else Err WaitTimeout

acquire_same : (h : History) (m : Memory) → acquire_reply m h ≡ acquire_reply m (without_numbers h)
acquire_same h m =
    let bare = without_numbers h in
    ap (λ b. acquire_with m b (is_new m h) (frame h m.mark m.pointer_mark)) (lost_same h m)
    ∙ ap (λ b. acquire_with m (is_lost m bare) b (frame h m.mark m.pointer_mark)) (new_same h m)
    ∙ ap (acquire_with m (is_lost m bare) (is_new m bare)) (frame_same h m.mark m.pointer_mark)

memory_same : (h : History) (m : Memory) (r : Result Frame DupRefusal)
    → memory_after m h r ≡ memory_after m (without_numbers h) r
memory_same h m (Ok f) = ap (λ n. with_frame m n f) (sym (length-map h.entries unnumbered))
memory_same h m (Err cause) = refl

acquired_same : (h : History) (m : Memory) → acquire_memory m h ≡ acquire_memory m (without_numbers h)
acquired_same h m =
    ap (λ b. if b then lost_memory m else memory_after m h (acquire_reply m h)) (lost_same h m)
    ∙ ap (λ (x : Memory). if is_lost m (without_numbers h) then lost_memory m else x)
    (memory_same h m (acquire_reply m h) ∙ ap (memory_after m (without_numbers h)) (acquire_same h m))

view_same : (h : History) (n : ℕ) → view (first_entries n h) ≡ view (first_entries n (without_numbers h))
view_same h n =
    ap seen (picture_same (first_entries n h) ∙ ap picture (first_same h n))

desc_same : (h : History) (m : Memory) → desc_reply m h ≡ desc_reply m (without_numbers h)
desc_same h m = mode_same (first_entries m.opened h) ∙ ap desk_mode (first_same h m.opened)

abbrev released_with : Memory → Bool → Answer × Memory
released_with m lost = (
  release_answer (if lost then Err AccessLost else if is_some m.held then Ok tt else Err InvalidCall),
  if lost then lost_memory m else without_frame m,
)

-- a call about the held frame that puts bytes into a buffer
abbrev held_with : Memory → (Result ℕ DupRefusal → List ℕ → Answer) → List ℕ → List ℕ → Bool → Answer × Memory
held_with m answer bytes buffer lost = (
  in_buffer answer (unless_refused
      (if lost then Err AccessLost else if is_some m.held then Ok tt else Err InvalidCall) bytes buffer),
  if lost then lost_memory m else m,
)

pub reply_same : (call : DupCall) (m : Memory) (h : History) → reply call m h ≡ reply call m (without_numbers h)
reply_same asked.Acquire m h =
    ap (λ (r : Result Frame DupRefusal). (acquire_answer r, acquire_memory m h)) (acquire_same h m)
    ∙ ap (λ (x : Memory). (acquire_answer (acquire_reply m (without_numbers h)), x)) (acquired_same h m)
reply_same asked.Release m h = ap (released_with m) (lost_same h m)
reply_same (asked.Moves buffer) m h =
    ap (held_with m buffer_answer _ (filled_buffer buffer)) (lost_same h m)
reply_same (asked.Dirty buffer) m h =
    ap (held_with m buffer_answer _ (filled_buffer buffer)) (lost_same h m)
reply_same (asked.Shape buffer) m h =
    ap (held_with m (shape_answer (held_shape_info m.held)) (shape_bytes (held_shape m.held)) (filled_buffer buffer))
    (lost_same h m)
reply_same asked.Surface m h =
    ap (λ v. (answers.Surface (option_map (λ f. rows v) m.held), m)) (view_same h m.mark)
reply_same asked.Desc m h = ap (λ (mode : Mode). (answers.Desc mode, m)) (desc_same h m)

-- the answers to an opening and a closing, and why a drawing isn't entered
full_same : (h : History) → is_full h ≡ is_full (without_numbers h)
full_same h = ap (λ n. nat_le h.spec.capacity (n + 1)) (sym (length-map h.entries unnumbered))

free_same : (h : History) (found : Option ℕ) → least_free found h ≡ least_free found (without_numbers h)
free_same h None = refl
free_same h (Some slot) = ap (λ b. if b then Err openings.Full else Ok slot) (full_same h)

abbrev opening_with : History → ℕ → Desk → Result ℕ OpenRefusal
opening_with h app d =
    if not d.connected || d.ended then Err openings.SessionDisconnected
    else (if d.secure && not (list_any (λ other. other == app) h.spec.privileged) then Err openings.AccessDenied
    else (if is_some (position (is_app app) d.slots) then Err openings.AlreadyDuplicating
    else least_free (position is_none d.slots) h))

abbrev opening_last : History → ℕ → Desk → Result ℕ OpenRefusal → Result ℕ OpenRefusal
opening_last h app d last =
    if not d.connected || d.ended then Err openings.SessionDisconnected
    else (if d.secure && not (list_any (λ other. other == app) h.spec.privileged) then Err openings.AccessDenied
    else (if is_some (position (is_app app) d.slots) then Err openings.AlreadyDuplicating else last))

pub opening_same : (h : History) (app : ℕ) → opening h app ≡ opening (without_numbers h) app
opening_same h app =
    ap (opening_with h app) (desk_same h)
    ∙ ap (opening_last h app (desk (without_numbers h)))
    (free_same h (position is_none (desk (without_numbers h)).slots))

pub closing_same : (h : History) (own : Option ℕ) → closing h own ≡ closing (without_numbers h) own
closing_same h None = refl
closing_same h (Some slot) =
    ap (λ (d : Desk). if d.ended then Err closings.Ended else (if is_full h then Err closings.Full else Ok slot))
    (desk_same h)
    ∙ ap (λ b. if (desk (without_numbers h)).ended then Err closings.Ended
    else (if b then Err closings.Full else Ok slot)) (full_same h)

pub allowed_same : (h : History) (drawing : Draw) → allowed h drawing ≡ allowed (without_numbers h) drawing
allowed_same h drawing =
    ap (λ (d : Desk). if d.ended then Some refusals.Ended
    else (if is_full h && true then Some refusals.Full else bad_draw h.spec.modes d.mode drawing)) (desk_same h)
    ∙ ap (λ b. if (desk (without_numbers h)).ended then Some refusals.Ended
    else (if b && true then Some refusals.Full
    else bad_draw h.spec.modes (desk_mode (without_numbers h)) drawing)) (full_same h)

pub fresh_same : (h : History) (place : ℕ) → fresh_memory h place ≡ fresh_memory (without_numbers h) place
fresh_same h place =
    ap (λ (d : Desk). record { opened = place; mark = d.picture_start; pointer_mark = 0; held = None; lost = false })
    (desk_same h)

numbered_slot : (e : Option Entry) → entry_slot e ≡ entry_slot (option_map unnumbered e)
numbered_slot None = refl
numbered_slot (Some e) = refl

pub slot_same : (h : History) (place : ℕ) → slot_at h place ≡ slot_at (without_numbers h) place
slot_same h place =
    numbered_slot (slice_get h.entries place) ∙ ap entry_slot (sym (slice_get-map unnumbered h.entries place))

-- Replies are the same on a list and on its veil.
use Rattle.std.proofs.Common.{◌≡◌, ℕ, Bool, true, false, ◌||◌, ◌+◌, fold, if◌then◌else◌, List, length, map, Option, Some, Result, Ok, Err, refl, sym, ap, subst, ◌∙◌}
use Rattle.std.specs.Prelude.{is_some, option_map}
use Rattle.std.specs.List.{flat_map}
use Rattle.std.proofs.lemmas.List.{drop-map, length-map}
use Rattle.dd_geom.specs.Grid.{Grid, rows}
use Rattle.dd_grid.specs.Drawing.{any_hidden, hidden_points}
use Rattle.dd_bits.specs.Area.{IsNowhere, nowhere}
use Rattle.dd_bits.specs.CanonicalList.{canonical_list}
use Rattle.dd_modes.specs.declared.modes.Mode.{Mode}
use Rattle.dd_ops.specs.declared.operations.Op.{Op}
use Rattle.dd_ops.specs.Veil.{veiled}
use Rattle.dd_pointer.specs.Shape.{PointerShape}
use Rattle.dd_acc.specs.Effects.{Effect, each_effects, settled, rounds, moves_in, moves, dirt, is_coalesced}
use Rattle.dd_acc.proofs.Hiding.{none_hidden}
use Rattle.dd_acc.proofs.Veiling.{each_effects-veiled}
use Rattle.dd_calls.specs.declared.answers.Answer.{Answer}
use Rattle.dd_calls.specs.declared.answers.Answer.TheVariants as answers
use Rattle.dd_calls.specs.declared.answers.DupRefusal.{DupRefusal}
use Rattle.dd_calls.specs.declared.answers.DupRefusal.TheVariants.{AccessLost, InvalidCall, WaitTimeout}
use Rattle.dd_log.specs.declared.desk.Desk.{Desk}
use Rattle.dd_log.specs.declared.events.Entry.{Entry}
use Rattle.dd_log.specs.History.{History, desk, desk_mode, first_entries, any_cuts_off, any_presents, any_points, last_present, last_pointed, last_shape}
use Rattle.dd_log.specs.Picture.{presents, picture, view}
use Rattle.dd_log.specs.Veil.{veil, veiled_entry}
use Rattle.dd_log.proofs.Veiling.{shows-veiled, presents-veiled, first-veiled, any_cuts-veiled, any_presents-veiled, any_points-veiled, last_present-veiled, last_pointed-veiled, last_shape-veiled}
use Rattle.dd_calls.specs.declared.dup_call.DupCall.TheVariants as calls
use Rattle.dd_dup.specs.declared.frame.Frame.{Frame}
use Rattle.dd_dup.specs.declared.frame.PictureNews.{PictureNews}
use Rattle.dd_dup.specs.declared.frame.PointerNews.{PointerNews}
use Rattle.dd_meta.specs.Buffer.{bytes_of_moves, bytes_of_rects}
use Rattle.dd_dup.specs.News.{held_moves, held_dirt, held_shape, shape_bytes, news, picture_news, dirt_of, picture_since, pointer_since, news_since, frame_from, frame}
use Rattle.dd_dup.specs.Reply.{Memory, is_lost, lost_memory, is_new, memory_after, without_frame, acquire_reply, acquire_memory, acquire_answer, release_answer, in_buffer, buffer_answer, shape_answer, held_shape_info, filled_buffer, unless_refused}
use Rattle.dd_dup.specs.Duplicator.{Duplicator, holding, lent}
use Rattle.dd_dup.specs.Veil.{HiddenReplies, HoldsVeil, LendsVeil}
use Rattle.dd_dup.proofs.Frames.{whole-picture}

-- pictures that hide the same points hide one or none
falls_with : (a b : Bool) → (a ≡ false → b ≡ false) → (b ≡ false → a ≡ false) → b ≡ a
falls_with true true to from = refl
falls_with true false to from = sym (from refl)
falls_with false b to from = to refl

any_same : (h g : History) → hidden_points (picture g) ≡ hidden_points (picture h)
    → any_hidden (picture g) ≡ any_hidden (picture h)
any_same h g same =
    let of_h = none_hidden (picture h) (whole-picture h) in
    let of_g = none_hidden (picture g) (whole-picture g) in
    falls_with (any_hidden (picture h)) (any_hidden (picture g))
    (λ n. of_g.1 (subst IsNowhere (sym same) (of_h.0 n)))
    (λ n. of_h.1 (subst IsNowhere same (of_g.0 n)))

-- what the presents of some entries tell hangs on their number and their effects
abbrev told_by : ℕ → ℕ → ℕ → Grid Bool → ℕ → List (List Effect) → PictureNews
told_by w h last hidden count effects = record {
  accumulated = count;
  last_present = last;
  coalesced = rounds (nowhere w h) effects;
  moves = moves_in (flat_map (λ es. es) effects);
  dirt = canonical_list (fold settled (nowhere w h) effects);
  hidden = hidden;
}

abbrev told_by_presents : ℕ → ℕ → ℕ → Grid Bool → List (List Op) → PictureNews
told_by_presents w h last hidden ps = told_by w h last hidden (length ps) (each_effects 0 ps)

picture_told : (w h last : ℕ) (hidden : Grid Bool) (es : List Entry)
    → picture_news w h last hidden es ≡ told_by_presents w h last hidden (presents es)
unfolding picture_news dirt_of moves dirt is_coalesced
picture_told w h last hidden es = refl

presents_told : (w h last : ℕ) (hidden : Grid Bool) (ps : List (List Op))
    → told_by_presents w h last hidden (map veiled ps) ≡ told_by_presents w h last hidden ps
presents_told w h last hidden ps =
    ap (λ n. told_by w h last hidden n (each_effects 0 (map veiled ps))) (length-map ps veiled)
    ∙ ap (told_by w h last hidden (length ps)) (each_effects-veiled 0 ps)

picture_news_same : (w h last : ℕ) (hidden : Grid Bool) (es : List Entry)
    → picture_news w h last hidden (map veiled_entry es) ≡ picture_news w h last hidden es
picture_news_same w h last hidden es =
    picture_told w h last hidden (map veiled_entry es)
    ∙ ap (told_by_presents w h last hidden) (presents-veiled es)
    ∙ presents_told w h last hidden (presents es)
    ∙ sym (picture_told w h last hidden es)

-- the entries from a mark on
news_same : (h : History) (mark : ℕ) → news (veil h) mark ≡ map veiled_entry (news h mark)
news_same h mark = drop-map veiled_entry mark h.entries

mode_same : (h : History) → desk_mode (veil h) ≡ desk_mode h
mode_same h = ap (λ (d : Desk). d.mode) (shows-veiled h).same_desk

-- what is new of the picture, and of the pointer
abbrev picture_with : Mode → ℕ → Grid Bool → List Entry → PictureNews
picture_with mode last hidden es = picture_news mode.width mode.height last hidden es

picture_same : (h : History) (mark : ℕ) → picture_since (veil h) mark ≡ picture_since h mark
picture_same h mark =
    let es : List Entry = news h mark in
    let hidden : Grid Bool = hidden_points (picture h) in
    ap (λ (m : Mode). picture_with m (last_present mark (news (veil h) mark)) (hidden_points (picture (veil h)))
    (news (veil h) mark)) (mode_same h)
    ∙ ap (λ (g : Grid Bool). picture_with (desk_mode h) (last_present mark (news (veil h) mark)) g (news (veil h) mark))
    (shows-veiled h).same_hidden
    ∙ ap (λ (xs : List Entry). picture_with (desk_mode h) (last_present mark xs) hidden xs) (news_same h mark)
    ∙ ap (λ n. picture_with (desk_mode h) n hidden (map veiled_entry es)) (last_present-veiled mark es)
    ∙ picture_news_same (desk_mode h).width (desk_mode h).height (last_present mark es) hidden es

abbrev pointer_with : Desk → ℕ → Option PointerShape → PointerNews
pointer_with d last shape = record { last_mouse = last; pointer = d.pointer; shape = shape }

pointer_same : (h : History) (mark : ℕ) → pointer_since (veil h) mark ≡ pointer_since h mark
pointer_same h mark =
    let es : List Entry = news h mark in
    ap (λ (d : Desk). pointer_with d (last_pointed mark (news (veil h) mark)) (last_shape (news (veil h) mark)))
    (shows-veiled h).same_desk
    ∙ ap (λ (xs : List Entry). pointer_with (desk h) (last_pointed mark xs) (last_shape xs)) (news_same h mark)
    ∙ ap (λ n. pointer_with (desk h) n (last_shape (map veiled_entry es))) (last_pointed-veiled mark es)
    ∙ ap (pointer_with (desk h) (last_pointed mark es)) (last_shape-veiled es)

-- the frame
pub frame-veiled : (h : History) (mark pointer_mark : ℕ) → frame (veil h) mark pointer_mark ≡ frame h mark pointer_mark
frame-veiled h mark pointer_mark =
    ap (λ (n : PictureNews). frame_from (record { picture = n; pointer = pointer_since (veil h) pointer_mark })
    (any_hidden (picture (veil h)))) (picture_same h mark)
    ∙ ap (λ (n : PointerNews). frame_from (record { picture = picture_since h mark; pointer = n })
    (any_hidden (picture (veil h)))) (pointer_same h pointer_mark)
    ∙ ap (frame_from (news_since h mark pointer_mark)) (any_same h (veil h) (shows-veiled h).same_hidden)

-- whether a duplicator is lost, and whether anything is new to it
lost_same : (m : Memory) (h : History) → is_lost m (veil h) ≡ is_lost m h
lost_same m h =
    ap (λ b. m.lost || b)
    (ap any_cuts_off (news_same h (m.opened + 1)) ∙ any_cuts-veiled (news h (m.opened + 1)))

new_same : (m : Memory) (h : History) → is_new m (veil h) ≡ is_new m h
new_same m h =
    ap (λ b. b || any_points (news (veil h) m.pointer_mark))
    (ap any_presents (news_same h m.mark) ∙ any_presents-veiled (news h m.mark))
    ∙ ap (λ b. any_presents (news h m.mark) || b)
    (ap any_points (news_same h m.pointer_mark) ∙ any_points-veiled (news h m.pointer_mark))

-- what is granted
abbrev granted_by : Memory → Bool → Bool → Frame → Result Frame DupRefusal
granted_by m lost new f =
    if lost then Err AccessLost
    else if is_some m.held then Err InvalidCall else if new then Ok f else Err WaitTimeout

acquire_same : (m : Memory) (h : History) → acquire_reply m (veil h) ≡ acquire_reply m h
acquire_same m h =
    ap (λ b. granted_by m b (is_new m (veil h)) (frame (veil h) m.mark m.pointer_mark)) (lost_same m h)
    ∙ ap (λ b. granted_by m (is_lost m h) b (frame (veil h) m.mark m.pointer_mark)) (new_same m h)
    ∙ ap (granted_by m (is_lost m h) (is_new m h)) (frame-veiled h m.mark m.pointer_mark)

after_same : (m : Memory) (h : History) (r : Result Frame DupRefusal) → memory_after m (veil h) r ≡ memory_after m h r
after_same m h (Ok f) =
    ap (λ n. record m { mark = n; pointer_mark = n; held = Some f }) (length-map h.entries veiled_entry)
after_same m h (Err cause) = refl

acquired_same : (m : Memory) (h : History) → acquire_memory m (veil h) ≡ acquire_memory m h
acquired_same m h =
    ap (λ b. if b then lost_memory m else memory_after m (veil h) (acquire_reply m (veil h))) (lost_same m h)
    ∙ ap (λ (x : Memory). if is_lost m h then lost_memory m else x)
    (after_same m h (acquire_reply m (veil h)) ∙ ap (memory_after m h) (acquire_same m h))

-- what is seen at a mark
pub view_at-veiled : (h : History) (mark : ℕ) → view (first_entries mark (veil h)) ≡ view (first_entries mark h)
view_at-veiled h mark = ap view (first-veiled h mark) ∙ (shows-veiled (first_entries mark h)).same_view

-- a call about the held frame hangs on whether the duplicator is lost
abbrev held_by : Memory → Bool → Result (Unit {0}) DupRefusal
held_by m lost = if lost then Err AccessLost else if is_some m.held then Ok tt else Err InvalidCall

abbrev kept_by : Memory → Bool → Memory
kept_by m lost = if lost then lost_memory m else m

abbrev released_by : Memory → Bool → Answer × Memory
released_by m lost = (release_answer (held_by m lost), if lost then lost_memory m else without_frame m)

abbrev put_by : Memory → (Result ℕ DupRefusal → List ℕ → Answer) → List ℕ → ℕ → Bool → Answer × Memory
put_by m answer bytes size lost =
    (in_buffer answer (unless_refused (held_by m lost) bytes (filled_buffer size)), kept_by m lost)

pub reply-veiled : HiddenReplies
reply-veiled calls.Acquire m h =
    ap (λ (r : Result Frame DupRefusal). (acquire_answer r, acquire_memory m (veil h))) (acquire_same m h)
    ∙ ap (λ (x : Memory). (acquire_answer (acquire_reply m h), x)) (acquired_same m h)
reply-veiled calls.Release m h = ap (released_by m) (lost_same m h)
reply-veiled (calls.Moves buffer) m h =
    ap (put_by m buffer_answer (bytes_of_moves (held_moves m.held)) buffer) (lost_same m h)
reply-veiled (calls.Dirty buffer) m h =
    ap (put_by m buffer_answer (bytes_of_rects (held_dirt m.held)) buffer) (lost_same m h)
reply-veiled (calls.Shape buffer) m h =
    ap (put_by m (shape_answer (held_shape_info m.held)) (shape_bytes (held_shape m.held)) buffer) (lost_same m h)
reply-veiled calls.Surface m h =
    ap (λ v. (answers.Surface (option_map (λ f. rows v) m.held), m)) (view_at-veiled h m.mark)
reply-veiled calls.Desc m h =
    ap (λ (mode : Mode). (answers.Desc mode, m))
    (ap desk_mode (first-veiled h m.opened) ∙ mode_same (first_entries m.opened h))

-- what is held is of the veil
pub holds_veil : (d : Duplicator) (h : History) → HoldsVeil d (holding d h) h
holds_veil d h =
    (ap Some (sym (frame-veiled h d.memory.mark d.memory.pointer_mark)), sym (shows-veiled h).same_view)

-- and so is what is lent
pub lends_veil : (surface : Option (Grid ℕ)) (d : Duplicator) → surface ≡ lent d → LendsVeil surface d
lends_veil surface d is h stands =
    is ∙ ap (λ s. option_map (λ f. s) d.memory.held) (stands.surface ∙ sym (view_at-veiled h d.memory.mark))

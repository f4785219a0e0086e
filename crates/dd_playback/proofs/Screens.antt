-- The screen that a client's chunks have played, beside the client's memory.
use Rattle.std.proofs.Common.{◌≡◌, ℕ, ◌<◌, ◌≤◌, true, false, List, [], ◌∷◌, length, take, drop, fold, Option, Some, None, Ok, refl, sym, ap, ◌∙◌, subst, arith}
use Rattle.std.specs.Option.{option_or}
use Rattle.std.proofs.lemmas.List.{take-append-drop, take_all}
use Rattle.std.proofs.lemmas.List.Sums.{fold-append}
use Rattle.dd_geom.specs.Grid.{Grid}
use Rattle.dd_geom.proofs.GridLemmas.{length-cells}
use Rattle.dd_grid.specs.Cell.{seen_cell}
use Rattle.dd_grid.specs.Drawing.{cell_at, seen}
use Rattle.dd_modes.specs.declared.modes.Mode.{Mode}
use Rattle.dd_pointer.specs.Shape.{PointerShape}
use Rattle.dd_acc.specs.Rebuild.{all_moved}
use Rattle.dd_log.specs.declared.pointer.Pointer.{Pointer}
use Rattle.dd_log.specs.declared.events.Entry.{Entry}
use Rattle.dd_log.specs.Events.{shape_in}
use Rattle.dd_log.specs.History.{History, Begins, desk, desk_mode, first_entries, legal, last_shape, any_begins}
use Rattle.dd_log.specs.Picture.{picture, view}
use Rattle.dd_log.proofs.Pictures.{begins_black}
use Rattle.dd_dup.proofs.Loss.{opening_within}
use Rattle.dd_dup.specs.declared.frame.Frame.{Frame}
use Rattle.dd_dup.specs.News.{frame, news}
use Rattle.dd_dup.specs.Reply.{Memory, fresh_memory, is_lost, with_frame, acquire_reply, desc_reply}
use Rattle.dd_dup.proofs.Frames.{first_entries_later, seen-black, picture_all, granted_is, granted_kept, kept_parts, rebuilds}
use Rattle.dd_record.specs.Frames.{frame_chunk, pixels_in}
use Rattle.dd_view.specs.Playing.{Screen, opened, framed, with_shape, pasted, Shown, shown_of}
use Rattle.dd_playback.specs.FramesShown.{desk_shown}
use Rattle.dd_playback.proofs.Pasting.{IsWhole, whole-moved, pasted_is_copied}
use Rattle.dd_trace.proofs.Running.{StandsFor}

-- the screen has what was seen of the desk at the memory's mark, the mode at its opening, and the last shape before its
-- pointer mark
pub record IsScreenOf (m : Memory) (h : History) (s : Screen) : Type 0 where
  pub surface : s.surface ≡ view (first_entries m.mark h)
  pub mode : s.mode ≡ desk_mode (first_entries m.opened h)
  pub shape : s.shape ≡ last_shape (take m.pointer_mark h.entries)

-- ---- shapes

-- the last shape of all entries is that of the later ones, where they give one
or_assoc : (a b old : Option PointerShape)
    → option_or (option_or a (option_or b None)) old ≡ option_or a (option_or b old)
or_assoc None None old = refl
or_assoc None (Some b) old = refl
or_assoc (Some a) b old = refl

abbrev later_shape : Option PointerShape → Entry → Option PointerShape
later_shape shape e = option_or (shape_in e.event) shape

shape_from : (es : List Entry) (old : Option PointerShape)
    → fold later_shape old es ≡ option_or (fold later_shape None es) old
shape_from [] old = refl
shape_from (e ∷ es) old =
    let given = shape_in e.event in
    shape_from es (option_or given old)
    ∙ sym (ap (λ s. option_or s old) (shape_from es (option_or given None))
    ∙ or_assoc (fold later_shape None es) given old)

shape_parts : (n : ℕ) (es : List Entry) → option_or (last_shape (drop n es)) (last_shape (take n es)) ≡ last_shape es
shape_parts n es =
    sym (shape_from (drop n es) (last_shape (take n es)))
    ∙ sym (fold-append later_shape None (take n es) (drop n es))
    ∙ ap last_shape (take-append-drop n es)

-- ---- a frame

whole-view : (h : History) → IsWhole (view h)
whole-view h =
    length-cells (picture h).width (picture h).height (λ x y. seen_cell (cell_at (picture h) x y))

-- a frame's moves and pixels bring the surface forward
surface_framed : (h : History) (mark pointer_mark : ℕ) (s : Grid ℕ) → legal h ≡ true
    → any_begins (news h mark) ≡ false → s ≡ view (first_entries mark h)
    → pasted (all_moved s (frame h mark pointer_mark).moves) (frame h mark pointer_mark).dirt
    (pixels_in (view h) (frame h mark pointer_mark).dirt) ≡ view h
surface_framed h mark pointer_mark s t none is =
    let f = frame h mark pointer_mark in
    let before = view (first_entries mark h) in
    ap (λ (g : Grid ℕ). pasted (all_moved g f.moves) f.dirt (pixels_in (view h) f.dirt)) is
    ∙ pasted_is_copied f.dirt (all_moved before f.moves) (view h)
    (whole-moved before f.moves (whole-view (first_entries mark h)))
    ∙ rebuilds h mark pointer_mark t none

-- the screen after a frame that was granted is what is seen of the desk, with the desk's pointer and its shape
pub record IsDesk (h : History) (opening : Mode) (s : Screen) : Type 0 where
  pub surface : s.surface ≡ view h
  pub mode : s.mode ≡ opening
  pub pointer : s.pointer ≡ (desk h).pointer
  pub shape : s.shape ≡ last_shape h.entries

desk_by_news : (m : Memory) (h : History) (s : Screen) → legal h ≡ true → any_begins (news h m.mark) ≡ false
    → IsScreenOf m h s
    → IsDesk h (desc_reply m h) (framed s (frame_chunk (frame h m.mark m.pointer_mark) (view h)))
desk_by_news m h s t none is = record {
  surface = surface_framed h m.mark m.pointer_mark s.surface t none is.surface;
  mode = is.mode;
  pointer = refl;
  shape = ap (option_or (last_shape (news h m.pointer_mark))) is.shape ∙ shape_parts m.pointer_mark h.entries;
}

pub desk_framed : (m : Memory) (h : History) (f : Frame) (s : Screen) → legal h ≡ true → StandsFor (Some m) h
    → acquire_reply m h ≡ Ok f → IsScreenOf m h s
    → IsDesk h (desc_reply m h) (framed s (frame_chunk f (view h)))
desk_framed m h f s t stands granted is =
    let d = stands.0 in
    let kept : is_lost d.memory h ≡ false = ap (λ n. is_lost n h) stands.1 ∙ granted_kept m h _ f granted in
    let none : any_begins (news h m.mark) ≡ false =
    ap (λ (n : Memory). any_begins (news h n.mark)) (sym stands.1) ∙ (kept_parts d h stands.2 kept).1 in
    subst (λ (g : Frame). IsDesk h (desc_reply m h) (framed s (frame_chunk g (view h))))
    (granted_is m h (frame h m.mark m.pointer_mark) f granted) (desk_by_news m h s t none is)

-- and so it is the screen of the memory that holds the frame
pub screen_of_desk : (m : Memory) (h : History) (f : Frame) (s : Screen) → IsDesk h (desc_reply m h) s
    → IsScreenOf (with_frame m (length h.entries) f) h s
screen_of_desk m h f s is = record {
  surface = is.surface ∙ ap seen (picture_all h);
  mode = is.mode;
  shape = is.shape ∙ ap last_shape (sym (take_all (length h.entries) h.entries (omega arith)));
}

-- what is shown of it
pub shown_desk : (h : History) (mode : Mode) (s : Screen) → IsDesk h mode s → shown_of s ≡ desk_shown h mode
shown_desk h mode s is =
    let shown : Grid ℕ → Mode → Shown = λ g n. record { surface = g; mode = n } in
    ap (λ n. shown (with_shape s.surface s.pointer s.shape) n) is.mode
    ∙ ap (λ g. shown (with_shape g s.pointer s.shape) mode) is.surface
    ∙ ap (λ (p : Pointer). shown (with_shape (view h) p s.shape) mode) is.pointer
    ∙ ap (λ o. shown (with_shape (view h) (desk h).pointer o) mode) is.shape

-- ---- an opening

pub screen_opened : (h later : History) → Begins h later
    → IsScreenOf (fresh_memory h (length h.entries)) later (opened (desk_mode h))
screen_opened h later begins =
    let black_then = begins_black h in
    let start = (desk h).picture_start in
    record {
      surface =
          seen-black (desk_mode h).width (desk_mode h).height
          ∙ ap seen (sym black_then.black)
          ∙ ap view (sym (first_entries_later h later start begins black_then.within));
      mode = ap desk_mode (sym (first_entries_later h later (length h.entries) begins (omega arith) ∙ whole h));
      shape = refl;
    } where
      whole : (h : History) → first_entries (length h.entries) h ≡ h
      whole h = ap (λ es. record { spec = h.spec; entries = es }) (take_all (length h.entries) h.entries (omega arith))

-- ---- a longer list

pub screen_later : (m : Memory) (h later : History) (s : Screen) → StandsFor (Some m) h → Begins h later
    → IsScreenOf m h s → IsScreenOf m later s
screen_later m h later s stands begins is =
    let d = stands.0 in
    let same = stands.1 in
    let st = stands.2 in
    let marked : m.mark ≤ length h.entries = omega (arith, st.marked, ap (λ (n : Memory). n.mark) same) in
    let pointed : m.pointer_mark ≤ length h.entries =
    omega (arith, st.pointed, ap (λ (n : Memory). n.pointer_mark) same) in
    let opening : d.memory.opened < length h.entries = opening_within h.entries d.memory.opened st.opened in
    let opened_in : m.opened ≤ length h.entries = omega (arith, opening, ap (λ (n : Memory). n.opened) same) in
    record {
      surface = is.surface ∙ ap view (sym (first_entries_later h later m.mark begins marked));
      mode = is.mode ∙ ap desk_mode (sym (first_entries_later h later m.opened begins opened_in));
      shape =
          is.shape
          ∙ ap (λ (g : History). last_shape g.entries)
          (sym (first_entries_later h later m.pointer_mark begins pointed));
    }

-- What a step gives shows the list: a frame from where its client had seen it, a surface as the held frame saw it.
use Rattle.std.proofs.Common.{◌≡◌, ℕ, true, false, if◌then◌else◌, List, length, Option, Some, None, Result, Ok, Err, refl, sym, ap, ◌∙◌, subst}
use Rattle.std.specs.Prelude.{is_some, option_map}
use Rattle.dd_pointer.specs.declared.shape.ShapeInfo.{ShapeInfo}
use Rattle.dd_calls.specs.declared.answers.Answer.{Answer}
use Rattle.dd_log.specs.declared.refusal.LogRefusal.{LogRefusal}
use Rattle.dd_calls.specs.declared.answers.OpenRefusal.{OpenRefusal}
use Rattle.dd_calls.specs.declared.answers.CloseRefusal.{CloseRefusal}
use Rattle.dd_calls.specs.declared.answers.DupRefusal.{DupRefusal}
use Rattle.dd_log.specs.History.{History, legal, allowed}
use Rattle.dd_table.specs.Opening.{opening, closing}
use Rattle.dd_calls.specs.declared.dup_call.DupCall.{DupCall}
use Rattle.dd_calls.specs.declared.dup_call.DupCall.TheVariants as asked
use Rattle.dd_dup.specs.declared.frame.Frame.{Frame}
use Rattle.dd_dup.specs.News.{frame, picture_news}
use Rattle.dd_dup.specs.Reply.{Memory, is_lost, acquire_reply, acquire_answer, release_reply, release_answer, buffer_answer, shape_answer, moves_reply, dirty_reply, shape_reply, filled_buffer, held_shape_info, reply}
use Rattle.dd_dup.specs.Duplicator.{Duplicator}
use Rattle.dd_dup.specs.Stands.{Stands}
use Rattle.dd_dup.proofs.Frames.{granted_is, granted_kept, kept_parts, rebuilds, reached}
use Rattle.dd_calls.specs.declared.steps.Step.{Step}
use Rattle.dd_calls.specs.declared.steps.Step.TheVariants as steps
use Rattle.dd_calls.specs.declared.steps.ClientCall.{ClientCall}
use Rattle.dd_calls.specs.declared.steps.ClientCall.TheVariants as calls
use Rattle.dd_station.specs.Run.{State, next, app_of, memory_of, draw_answer, client_reply, opening_outcome, closing_outcome, call_outcome, next_number}
use Rattle.dd_calls.specs.Calls.{IsOfClient}
use Rattle.dd_dup.specs.Reply.{slot_of}
use Rattle.dd_trace.specs.Trace.{Moment, caller, picture_seen, frame_held}
use Rattle.dd_trace.specs.Headline.{MayRemember, as_told, Shows, Points, PictureIsShown, PointerIsShown, FrameShows, SurfaceShows, DescShows, rows_at}
use Rattle.dd_trace.proofs.Running.{IsRun, StandsFor, stands_for}
use Rattle.dd_trace.proofs.ToldNext.{Told}
use Rattle.dd_trace.proofs.Earlier.{BeginsWithEach, opening_mode}

-- ---- a frame

-- a duplicator that isn't lost is given the frame of its mark
shows_mark : (d : Duplicator) (h : History) → legal h ≡ true → Stands d h → is_lost d.memory h ≡ false
    → Shows d.memory.mark h (frame h d.memory.mark d.memory.pointer_mark).info
    (frame h d.memory.mark d.memory.pointer_mark).moves (frame h d.memory.mark d.memory.pointer_mark).dirt
unfolding picture_news
shows_mark d h t stands kept =
    let none = (kept_parts d h stands kept).1 in
    record {
      within = stands.marked;
      counted = refl;
      last = refl;
      rebuilt = rebuilds h d.memory.mark d.memory.pointer_mark t none;
      scrolls = refl;
      dirty = refl;
      rounded = refl;
      honest = reached h d.memory.mark d.memory.pointer_mark t none;
      veiled = refl;
      size = refl;
    }

shows_frame : (m : Memory) (h : History) (f : Frame) → legal h ≡ true → StandsFor (Some m) h
    → acquire_reply m h ≡ Ok f → Shows m.mark h f.info f.moves f.dirt
shows_frame m h f t stands given =
    let kept : is_lost stands.0.memory h ≡ false =
    ap (λ (x : Memory). is_lost x h) stands.1 ∙ granted_kept m h (frame h m.mark m.pointer_mark) f given in
    subst (λ (g : Frame). Shows m.mark h g.info g.moves g.dirt)
    (granted_is m h (frame h m.mark m.pointer_mark) f given)
    (subst
    (λ (x : Memory). Shows x.mark h (frame h x.mark x.pointer_mark).info (frame h x.mark x.pointer_mark).moves
    (frame h x.mark x.pointer_mark).dirt)
    stands.1 (shows_mark stands.0 h t stands.2 kept))

-- and what it tells of the pointer is what came since its pointer mark
points_frame : (m : Memory) (h : History) (f : Frame) → acquire_reply m h ≡ Ok f → Points m.pointer_mark h f.info
points_frame m h f given =
    subst (λ (g : Frame). Points m.pointer_mark h g.info)
    (granted_is m h (frame h m.mark m.pointer_mark) f given)
    (record { last = refl; pointer = refl; shape = refl })

-- ---- each answer

abbrev pub IsShown : ℕ → List Moment → History → Answer → Type 0
IsShown k before h a = FrameShows k before h a × SurfaceShows k before h a × DescShows k before a

module _ (k : ℕ) (before : List Moment) (h : History) where
  acquire_shows : (r : Result Frame DupRefusal) (m : Memory) → acquire_reply m h ≡ r → legal h ≡ true
      → StandsFor (Some m) h → MayRemember k before (Some m) → IsShown k before h (acquire_answer r)
  acquire_shows (Ok f) m is t stands told =
      let picture : PictureIsShown k before h f.info f.moves f.dirt =
      (m.mark, told.picture, shows_frame m h f t stands is) in
      let pointer : PointerIsShown k before h f.info = (m.pointer_mark, told.pointer, points_frame m h f is) in
      ((picture, pointer), tt, tt)
  acquire_shows (Err why) m is t stands told = (tt, tt, tt)

  release_shows : (r : Result (Unit {0}) DupRefusal) → IsShown k before h (release_answer r)
  release_shows (Ok x) = (tt, tt, tt)
  release_shows (Err why) = (tt, tt, tt)

  buffer_shows : (r : Result ℕ DupRefusal) (buffer : List ℕ) → IsShown k before h (buffer_answer r buffer)
  buffer_shows (Ok size) buffer = (tt, tt, tt)
  buffer_shows (Err why) buffer = (tt, tt, tt)

  shape_shows : (shape : Option ShapeInfo) (r : Result ℕ DupRefusal) (buffer : List ℕ)
      → IsShown k before h (shape_answer shape r buffer)
  shape_shows shape (Ok size) buffer = (tt, tt, tt)
  shape_shows shape (Err why) buffer = (tt, tt, tt)

  -- the rows are those of the mark, where a frame is held
  lent_rows : (held : Option Frame) (mark : ℕ)
      → option_map (λ f. rows_at h mark) held
      ≡ (if is_some (option_map as_told held) then option_map (rows_at h) (Some mark) else None)
  lent_rows None mark = refl
  lent_rows (Some f) mark = refl

  surface_shows : (m : Memory) → MayRemember k before (Some m)
      → option_map (λ f. rows_at h m.mark) m.held
      ≡ (if is_some (frame_held k before) then option_map (rows_at h) (picture_seen k before) else None)
  surface_shows m told =
      lent_rows m.held m.mark
      ∙ ap
      (λ (o : Option Answer). if is_some o then option_map (rows_at h) (Some m.mark) else None)
      (sym told.held)
      ∙ ap
      (λ (o : Option ℕ). if is_some (frame_held k before) then option_map (rows_at h) o else None)
      (sym told.picture)

  reply_shows : (ask : DupCall) (m : Memory) → legal h ≡ true → BeginsWithEach before h → StandsFor (Some m) h
      → MayRemember k before (Some m)
      → IsShown k before h (reply ask m h).0
  reply_shows asked.Acquire m t each stands told = acquire_shows (acquire_reply m h) m refl t stands told
  reply_shows asked.Release m t each stands told = release_shows (release_reply m h)
  reply_shows (asked.Moves size) m t each stands told =
      let r = moves_reply m h (filled_buffer size) in
      buffer_shows r.0 r.1
  reply_shows (asked.Dirty size) m t each stands told =
      let r = dirty_reply m h (filled_buffer size) in
      buffer_shows r.0 r.1
  reply_shows (asked.Shape size) m t each stands told =
      let r = shape_reply m h (filled_buffer size) in
      shape_shows (held_shape_info m.held) r.0 r.1
  reply_shows asked.Surface m t each stands told = (tt, surface_shows m told, tt)
  reply_shows asked.Desc m t each stands told =
      (tt, tt, opening_mode k before h m.opened each told.opened)

  client_shows : (ask : DupCall) (o : Option Memory) → legal h ≡ true → BeginsWithEach before h → StandsFor o h
      → MayRemember k before o → IsShown k before h (client_reply ask o h).0
  client_shows ask None t each stands told = (tt, tt, tt)
  client_shows ask (Some m) t each stands told = reply_shows ask m t each stands told

-- ---- each step

opening_shows : (r : Result ℕ OpenRefusal) (s : State) (k : ℕ) (before : List Moment)
    → IsShown k before s.history (opening_outcome r s k).0
opening_shows (Ok slot) s k before = (tt, tt, tt)
opening_shows (Err why) s k before = (tt, tt, tt)

closing_shows : (r : Result ℕ CloseRefusal) (s : State) (k : ℕ) (before : List Moment)
    → IsShown k before s.history (closing_outcome r s k).0
closing_shows (Ok slot) s k before = (tt, tt, tt)
closing_shows (Err why) s k before = (tt, tt, tt)

drawing_shows : (why : Option LogRefusal) (number k : ℕ) (before : List Moment) (h : History)
    → IsShown k before h (draw_answer why number)
drawing_shows None number k before h = (tt, tt, tt)
drawing_shows (Some why) number k before h = (tt, tt, tt)

call_shows : (s : State) (k : ℕ) (call : ClientCall) (before : List Moment) → IsRun s
    → BeginsWithEach before s.history → MayRemember k before (memory_of s k)
    → IsShown k before s.history (call_outcome s k call).0
call_shows s k call before run each told = shown call where
  asks : (ask : DupCall) → IsShown k before s.history (client_reply ask (memory_of s k) s.history).0
  asks ask = client_shows k before s.history ask (memory_of s k) run.legal each (stands_for s k run) told

  shown : (call : ClientCall) → IsShown k before s.history (call_outcome s k call).0
  shown calls.Duplicate = opening_shows (opening s.history (app_of s k)) s k before
  shown calls.Close = closing_shows (closing s.history (slot_of (memory_of s k) s.history)) s k before
  shown (calls.Acquire timeout) = asks asked.Acquire
  shown calls.Release = asks asked.Release
  shown (calls.Moves size) = asks (asked.Moves size)
  shown (calls.Dirty size) = asks (asked.Dirty size)
  shown (calls.Shape size) = asks (asked.Shape size)
  shown calls.Surface = asks asked.Surface
  shown calls.Desc = asks asked.Desc

pub next_shows : (s : State) (t : Step) (before : List Moment) → IsRun s → IsOfClient (length s.clients) t
    → BeginsWithEach before s.history → Told (length s.clients) before s
    → IsShown (caller t) before s.history (next s t).0
unfolding next
next_shows s (steps.Draw d) before run client each told =
    drawing_shows (allowed s.history d) (next_number s) 0 before s.history
next_shows s (steps.Call k call) before run client each told =
    call_shows s k call before run each (told k client.0 client.1)

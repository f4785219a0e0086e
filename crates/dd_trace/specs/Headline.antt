-- What holds of every run, in one statement: of each step, what it is answered, and why.
use Rattle.std.specs.Prelude.{◌≡◌, ◌≤◌, ℕ, ◌+◌, ◌*◌, true, false, not, if◌then◌else◌, List, [], ◌∷◌, ◌++◌, length, drop, Option, Some, None, is_some, is_none, option_map, option_and_then, unwrap_or, position, Ok, Err}
use Rattle.std.specs.List.{AllByRecursion}
use Rattle.dd_geom.specs.declared.rect.TheConstants.{RECT_BYTES, MOVE_BYTES}
use Rattle.dd_geom.specs.declared.rect.Rect.{Rect}
use Rattle.dd_geom.specs.declared.rect.Move.{Move}
use Rattle.dd_geom.specs.Grid.{rows}
use Rattle.dd_grid.specs.Drawing.{any_hidden}
use Rattle.dd_acc.specs.Effects.{any_reaches, is_coalesced}
use Rattle.dd_acc.specs.Rebuild.{any_has, rebuild}
use Rattle.dd_meta.specs.Buffer.{bytes_of_moves, bytes_of_rects, put}
use Rattle.dd_calls.specs.declared.answers.Answer.{Answer}
use Rattle.dd_calls.specs.declared.answers.Answer.TheVariants as answers
use Rattle.dd_calls.specs.declared.answers.DupRefusal.TheVariants.{MoreData}
use Rattle.dd_calls.specs.declared.answers.FrameInfo.{FrameInfo}
use Rattle.dd_log.specs.History.{History, desk, desk_mode, first_entries, last_present, last_pointed, last_shape}
use Rattle.dd_log.specs.Picture.{presents, picture, view}
use Rattle.dd_dup.specs.declared.frame.Frame.{Frame}
use Rattle.dd_pointer.specs.Shape.{PointerShape, info_of}
use Rattle.dd_dup.specs.News.{moves_of, dirt_of, held_shape, shape_bytes}
use Rattle.dd_dup.specs.Reply.{Memory, filled_buffer}
use Rattle.dd_calls.specs.declared.steps.TheConstants.{MAX_CLIENTS}
use Rattle.dd_calls.specs.declared.steps.Script.{Script}
use Rattle.dd_calls.specs.declared.steps.Step.{Step}
use Rattle.dd_calls.specs.declared.steps.Step.TheVariants as steps
use Rattle.dd_calls.specs.declared.steps.ClientCall.TheVariants as calls
use Rattle.dd_calls.specs.Calls.{IsOfClient}
use Rattle.dd_trace.specs.Trace.{Moment, trace, whole_list, caller, place_of, opening_of, picture_seen, pointer_seen, frame_held, shape_held}
use Rattle.dd_trace.specs.Causes.{causes_of, first_of, is_granted}
use Rattle.dd_calls.specs.Parts.{refusal_in, frame_in}
use Rattle.dd_calls.specs.Parts.{number_in}
use Rattle.dd_trace.specs.Entered.{entry_told, entries_told, IsEntered}

-- ---- what a client's duplicator remembers is what its answers told

abbrev pub as_told : Frame → Answer
as_told f = answers.Frame f.info f.moves f.dirt

-- It was opened where the client's last opening stands; it has seen up to its last frame, or else up to where the
-- picture began at its opening; and it holds the frame that it was given and didn't let go, with the shape that was new
-- then.
pub record Remembers (k : ℕ) (before : List Moment) (d : Memory) : Type 0 where
  pub opened : option_map place_of (opening_of k before) ≡ Some d.opened
  pub picture : picture_seen k before ≡ Some d.mark
  pub pointer : pointer_seen k before ≡ Some d.pointer_mark
  pub held : frame_held k before ≡ option_map as_told d.held
  pub shape : shape_held k before ≡ held_shape d.held

-- and it has none where it opened none, or closed it
abbrev pub MayRemember : ℕ → List Moment → Option Memory → Type 0
MayRemember k before None = opening_of k before ≡ None
MayRemember k before (Some d) = Remembers k before d

abbrev pub IsRemembered : List Moment → Option Memory → Step → Type 0
IsRemembered before memory (steps.Draw d) = Unit {0}
IsRemembered before memory (steps.Call k call) = MayRemember k before memory

-- ---- what a frame tells

-- A frame over a list, of a duplicator that has seen the first entries of it: those are never more than the list has;
-- what was seen then, with the frame's moves drawn in their order and then its dirty rectangles copied from what is
-- seen of the list now, is exactly that; and its info is that of the presents behind the entries that were seen.
pub record Shows (before : ℕ) (h : History) (info : FrameInfo) (moves : List Move) (dirt : List Rect) : Type 0 where
  pub within : before ≤ length h.entries
  -- how many presents there are, and the event number of the last of them, 0 where there is none
  pub counted : info.accumulated ≡ length (presents (drop before h.entries))
  pub last : info.last_present ≡ last_present before (drop before h.entries)
  pub rebuilt : rebuild (view (first_entries before h)) moves dirt (view h) ≡ view h
  pub scrolls : moves ≡ moves_of (drop before h.entries)
  pub dirty : dirt ≡ dirt_of (desk_mode h).width (desk_mode h).height (drop before h.entries)
  -- it is said of the rectangles whether they were rounded, and unless they were, each of their points was drawn or
  -- scrolled to since then
  pub rounded :
      info.coalesced ≡ is_coalesced (desk_mode h).width (desk_mode h).height (presents (drop before h.entries))
  pub honest : info.coalesced ≡ false
      → (x y : ℕ) → any_has dirt x y ≡ true → any_reaches (presents (drop before h.entries)) x y ≡ true
  -- whether some point of the desktop is hidden now
  pub veiled : info.protected ≡ any_hidden (picture h)
  -- the bytes of the moves and of the dirty rectangles together
  pub size : info.meta_size ≡ MOVE_BYTES * length moves + RECT_BYTES * length dirt

-- What a frame tells of the pointer, where its duplicator had seen the first entries of the list.
pub record Points (before : ℕ) (h : History) (info : FrameInfo) : Type 0 where
  -- the event number of the last entry behind them that set the pointer or its shape, 0 where there is none
  pub last : info.last_mouse ≡ last_pointed before (drop before h.entries)
  -- where the pointer is now, and whether it is shown
  pub pointer : info.pointer ≡ (desk h).pointer
  -- the bytes of the last shape that it was given behind them, 0 where there is none
  pub shape : info.shape_size ≡ length (shape_bytes (last_shape (drop before h.entries)))

-- the picture is shown from where the client had seen it, and the pointer from where it had seen that
abbrev pub PictureIsShown : ℕ → List Moment → History → FrameInfo → List Move → List Rect → Type 0
PictureIsShown k before h info moves dirt =
    (seen : ℕ) × (picture_seen k before ≡ Some seen) × Shows seen h info moves dirt

abbrev pub PointerIsShown : ℕ → List Moment → History → FrameInfo → Type 0
PointerIsShown k before h info = (seen : ℕ) × (pointer_seen k before ≡ Some seen) × Points seen h info

-- an answer that is a frame shows both
abbrev pub FrameShows : ℕ → List Moment → History → Answer → Type 0
FrameShows k before h (answers.Frame info moves dirt) =
    PictureIsShown k before h info moves dirt × PointerIsShown k before h info
FrameShows k before h _ = Unit {0}

-- the rows of what is seen of the first entries
abbrev pub rows_at : History → ℕ → List (List ℕ)
rows_at h place = rows (view (first_entries place h))

-- the rows that are lent are those of the one list after the entries that the held frame saw; none where none is held
abbrev pub SurfaceShows : ℕ → List Moment → History → Answer → Type 0
SurfaceShows k before h (answers.Surface given) =
    given ≡ (if is_some (frame_held k before) then option_map (rows_at h) (picture_seen k before) else None)
SurfaceShows k before h _ = Unit {0}

-- the mode that is told is that of the list at the client's opening
abbrev pub DescShows : ℕ → List Moment → Answer → Type 0
DescShows k before (answers.Desc mode) = option_map (λ m. desk_mode m.list) (opening_of k before) ≡ Some mode
DescShows k before _ = Unit {0}

-- ---- what a buffer has

-- the moves and the dirty rectangles of an answer that is a frame
abbrev pub moves_told : Option Answer → List Move
moves_told a = unwrap_or (option_map (λ f. f.moves) (option_and_then frame_in a)) []

abbrev pub dirt_told : Option Answer → List Rect
dirt_told a = unwrap_or (option_map (λ f. f.dirt) (option_and_then frame_in a)) []

-- A buffer of n bytes into which bytes were put has them at its front, and behind them stays as it was filled; one that
-- is shorter comes back as it was filled, with the number of bytes that is required.
abbrev pub BufferHas : List ℕ → ℕ → Answer → Type 0
BufferHas bytes n (answers.Buffer size buffer) = put bytes (filled_buffer n) ≡ (Ok size, buffer)
BufferHas bytes n (answers.Refused (MoreData required) (Some buffer)) =
    put bytes (filled_buffer n) ≡ (Err required, buffer)
BufferHas bytes n _ = Unit {0}

-- So it is with the bytes of a shape, and beside them it is told which shape they are; none where there is none.
abbrev pub ShapeHas : Option PointerShape → ℕ → Answer → Type 0
ShapeHas shape n (answers.ShapeBuffer size buffer told) =
    (put (shape_bytes shape) (filled_buffer n) ≡ (Ok size, buffer)) × (told ≡ option_map info_of shape)
ShapeHas shape n (answers.Refused (MoreData required) (Some buffer)) =
    put (shape_bytes shape) (filled_buffer n) ≡ (Err required, buffer)
ShapeHas shape n _ = Unit {0}

-- the bytes are those of the moves, of the dirty rectangles or of the new shape of the frame that the client was told
-- and holds
abbrev pub BufferShows : List Moment → Step → Answer → Type 0
BufferShows before (steps.Call k (calls.Moves n)) a =
    BufferHas (bytes_of_moves (moves_told (frame_held k before))) n a
BufferShows before (steps.Call k (calls.Dirty n)) a =
    BufferHas (bytes_of_rects (dirt_told (frame_held k before))) n a
BufferShows before (steps.Call k (calls.Shape n)) a = ShapeHas (shape_held k before) n a
BufferShows before t a = Unit {0}

-- the slot of a duplicator that was opened is the least free one
abbrev pub SlotShows : History → Answer → Type 0
SlotShows h (answers.Opened number slot) = position is_none (desk h).slots ≡ Some slot
SlotShows h _ = Unit {0}

-- ---- the headline

-- Of a step, with those before it: its list is a beginning of the one list, and has the entries that the answers before
-- it told and no other; its client's duplicator remembers what its answers told; it is refused exactly where a cause
-- stands, by the first in order, and else is given what it asks for; what it is given shows the list; and where its
-- answer names an event number, that is the next one, and the one list has there what the step entered.
pub record IsRight (script : Script) (before : List Moment) (m : Moment) : Type 0 where
  pub one_list : m.list ≡ first_entries (place_of m) (whole_list script)
  pub listed : m.list.entries ≡ entries_told script.clients [] before
  pub remembered : IsRemembered before m.memory m.step
  pub refused : refusal_in m.answer ≡ first_of (causes_of script.clients m)
  pub granted : is_granted m.step m.answer ≡ not (is_some (refusal_in m.answer))
  pub frame : FrameShows (caller m.step) before m.list m.answer
  pub surface : SurfaceShows (caller m.step) before m.list m.answer
  pub desc : DescShows (caller m.step) before m.answer
  pub buffer : BufferShows before m.step m.answer
  pub slot : SlotShows m.list m.answer
  pub entered :
      IsEntered (whole_list script) (place_of m) (number_in m.answer) (entry_told script.clients before m)

-- each step of a script is right
abbrev pub Headline : Script → Type 0
Headline script =
    (before later : List Moment) (m : Moment) → trace script ≡ before ++ m ∷ later → IsRight script before m

-- Every script of at most 16 clients, whose calls are of one of them, has it.
abbrev pub HeadlineHolds : Type 0
HeadlineHolds =
    (script : Script) → length script.clients ≤ MAX_CLIENTS
    → AllByRecursion (IsOfClient (length script.clients)) script.steps → Headline script

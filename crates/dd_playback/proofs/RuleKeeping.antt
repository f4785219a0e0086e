-- The chunks that a client's steps leave follow one another as those of a record do.
use Rattle.std.proofs.Common.{◌≡◌, ℕ, ◌+◌, ◌≤◌, Bool, true, false, List, [], ◌∷◌, length, drop, Option, Some, None, Result, Ok, Err, refl, sym, ap, ◌∙◌, subst, if◌then◌else◌, ◌==◌}
use Rattle.std.specs.Prelude.{is_some, option_map}
use Rattle.std.specs.List.{AllByRecursion, cons_option, list_all}
use Rattle.std.proofs.lemmas.Bool.{and_parts, or_parts, eqb-true}
use Rattle.dd_geom.specs.Rect.{IsSize}
use Rattle.dd_modes.specs.declared.modes.Mode.{Mode}
use Rattle.dd_calls.specs.declared.answers.OpenRefusal.{OpenRefusal}
use Rattle.dd_calls.specs.declared.answers.DupRefusal.{DupRefusal}
use Rattle.dd_calls.specs.declared.answers.DupRefusal.TheVariants.{AccessLost, InvalidCall, WaitTimeout}
use Rattle.dd_log.specs.History.{History, desk_mode, first_entries, legal, any_begins, any_cuts_off}
use Rattle.dd_log.specs.Picture.{view}
use Rattle.dd_log.proofs.Pictures.{none_begins, goes_on}
use Rattle.dd_table.specs.Opening.{opening}
use Rattle.dd_dup.specs.declared.frame.Frame.{Frame}
use Rattle.dd_dup.specs.News.{news, frame}
use Rattle.dd_dup.specs.Reply.{Memory, is_lost, is_new, acquire_reply}
use Rattle.dd_dup.specs.Duplicator.{Duplicator}
use Rattle.dd_dup.specs.Stands.{Stands}
use Rattle.dd_dup.proofs.Loss.{cut_off_past}
use Rattle.dd_dup.proofs.Frames.{granted_is, granted_kept, kept_parts}
use Rattle.dd_record.specs.declared.chunk.Chunk.{Chunk}
use Rattle.dd_record.specs.declared.chunk.Chunk.TheVariants as chunks
use Rattle.dd_record.specs.declared.chunk.FrameChunk.{FrameChunk}
use Rattle.dd_record.specs.Frames.{frame_chunk}
use Rattle.dd_record.specs.Writing.{KeepsRules}
use Rattle.dd_record.proofs.FrameRules.{frames_keep_rules}
use Rattle.dd_calls.specs.declared.steps.Step.{Step}
use Rattle.dd_calls.specs.declared.steps.Step.TheVariants as steps
use Rattle.dd_calls.specs.declared.steps.ClientCall.{ClientCall}
use Rattle.dd_calls.specs.declared.steps.ClientCall.TheVariants as calls
use Rattle.dd_station.specs.Run.{State, next, app_of, memory_of}
use Rattle.dd_calls.specs.Calls.{IsOfClient}
use Rattle.dd_station.proofs.Stepped.{stepped_next}
use Rattle.dd_script_read.specs.Readable.{is_step}
use Rattle.dd_view.specs.Playing.{Screen, Played, frame_if}
use Rattle.dd_view.specs.Player.{open_mode}
use Rattle.dd_view.specs.Records.{Follow}
use Rattle.dd_playback.proofs.ByCalls.{opening_left, frame_left, acquire_left, call_left, chunk_left, all_left}
use Rattle.dd_trace.proofs.Running.{IsRun, run_next, StandsFor, stands_for}
use Rattle.dd_playback.proofs.Ranges.{IsInRange, desk_size, range_next}
use Rattle.dd_playback.proofs.Following.{Follows}
use Rattle.dd_playback.proofs.Played.{played_if, plays_next}

-- what a step leaves keeps the rules, behind an opening chunk of this mode or behind none
abbrev KeepsFrame : Option Mode → FrameChunk → Type 0
KeepsFrame None f = ⊥
KeepsFrame (Some mode) f = KeepsRules mode f

abbrev LeftKeeps : Option Mode → Option Chunk → Type 0
LeftKeeps before None = Unit {0}
LeftKeeps before (Some (chunks.Opening mode)) = IsSize mode.width mode.height
LeftKeeps before (Some (chunks.Frame f)) = KeepsFrame before f
LeftKeeps before (Some chunks.End) = ⊥

-- the mode of a screen, where there is one
abbrev mode_of : Option Screen → Option Mode
mode_of screen = option_map (λ s. s.mode) screen

-- ---- a frame

-- what is new to a duplicator that was given a frame
new_if : (held new : Bool) (given other : Frame)
    → (if held then Err InvalidCall else if new then Ok given else Err WaitTimeout) ≡ Ok other → new ≡ true
new_if true new given other e = cc
new_if false true given other e = refl
new_if false false given other e = cc

new_unless : (lost held new : Bool) (given other : Frame)
    → (if lost then Err AccessLost else if held then Err InvalidCall else if new then Ok given else Err WaitTimeout)
    ≡ Ok other → new ≡ true
new_unless true held new given other e = cc
new_unless false held new given other e = new_if held new given other e

-- the mode is the one at the opening, until the duplicator is lost
mode_since : (d : Duplicator) (h : History) → Stands d h → is_lost d.memory h ≡ false
    → desk_mode (first_entries d.memory.opened h) ≡ desk_mode h
mode_since d h stands kept =
    let o = d.memory.opened in
    let none : any_cuts_off (drop (o + 1) h.entries) ≡ false =
    (or_parts d.memory.lost (any_cuts_off (drop (o + 1) h.entries)) kept).1 in
    (goes_on h o (none_begins (drop o h.entries) (cut_off_past h o stands.opened ∙ none))).mode

record Granted (m : Memory) (h : History) : Type 0 where
  begins : any_begins (news h m.mark) ≡ false
  marked : m.mark ≤ length h.entries
  pointed : m.pointer_mark ≤ length h.entries
  mode : desk_mode (first_entries m.opened h) ≡ desk_mode h

granted_by : (d : Duplicator) (h : History) → Stands d h → is_lost d.memory h ≡ false → Granted d.memory h
granted_by d h stands kept = record {
  begins = (kept_parts d h stands kept).1;
  marked = stands.marked;
  pointed = stands.pointed;
  mode = mode_since d h stands kept;
}

frame_keeps : (m : Memory) (h : History) (f : Frame) → legal h ≡ true → IsInRange h → StandsFor (Some m) h
    → acquire_reply m h ≡ Ok f → KeepsRules (desk_mode (first_entries m.opened h)) (frame_chunk f (view h))
frame_keeps m h f t range stands granted =
    let d = stands.0 in
    let same = stands.1 in
    let kept : is_lost d.memory h ≡ false = ap (λ n. is_lost n h) same ∙ granted_kept m h _ f granted in
    let found : Granted m h = subst (λ (n : Memory). Granted n h) same (granted_by d h stands.2 kept) in
    let new : is_new m h ≡ true = new_unless (is_lost m h) (is_some m.held) (is_new m h) _ f granted in
    subst (λ (mode : Mode). KeepsRules mode (frame_chunk f (view h))) (sym found.mode)
    (subst (λ (g : Frame). KeepsRules (desk_mode h) (frame_chunk g (view h)))
    (granted_is m h (frame h m.mark m.pointer_mark) f granted)
    (frames_keep_rules h m.mark m.pointer_mark t (desk_size h range.modes) range.few range.some found.begins
    found.marked found.pointed new range.pointers))

-- behind the screen of the client's memory
left_frame : (r : Result Frame DupRefusal) (m : Memory) (h : History) (screen : Option Screen) → acquire_reply m h ≡ r
    → legal h ≡ true → IsInRange h → StandsFor (Some m) h → Follows screen (Some m) h
    → LeftKeeps (mode_of screen) (frame_left r h)
left_frame (Err cause) m h screen is t range stands follows = tt
left_frame (Ok f) m h screen is t range stands follows =
    let mode = desk_mode (first_entries m.opened h) in
    let there : mode_of screen ≡ Some mode =
    ap mode_of follows.1 ∙ ap (λ (n : Mode). Some n) follows.2.mode in
    subst (λ (o : Option Mode). KeepsFrame o (frame_chunk f (view h))) (sym there)
    (frame_keeps m h f t range stands is)

left_acquire : (o : Option Memory) (h : History) (screen : Option Screen) → legal h ≡ true → IsInRange h
    → StandsFor o h → Follows screen o h → LeftKeeps (mode_of screen) (acquire_left o h)
left_acquire None h screen t range stands follows = tt
left_acquire (Some m) h screen t range stands follows =
    left_frame (acquire_reply m h) m h screen refl t range stands follows

-- ---- a step

left_opening : (r : Result ℕ OpenRefusal) (before : Option Mode) (h : History) → IsInRange h
    → LeftKeeps before (opening_left r h)
left_opening (Ok slot) before h range = desk_size h range.modes
left_opening (Err cause) before h range = tt

left_call : (s : State) (k : ℕ) (call : ClientCall) (screen : Option Screen) → IsRun s → IsInRange s.history
    → Follows screen (memory_of s k) s.history → LeftKeeps (mode_of screen) (call_left s k call)
left_call s k calls.Duplicate screen run range follows =
    left_opening (opening s.history (app_of s k)) (mode_of screen) s.history range
left_call s k calls.Close screen run range follows = tt
left_call s k (calls.Acquire timeout) screen run range follows =
    left_acquire (memory_of s k) s.history screen run.legal range (stands_for s k run) follows
left_call s k calls.Release screen run range follows = tt
left_call s k (calls.Moves buffer) screen run range follows = tt
left_call s k (calls.Dirty buffer) screen run range follows = tt
left_call s k (calls.Shape buffer) screen run range follows = tt
left_call s k calls.Surface screen run range follows = tt
left_call s k calls.Desc screen run range follows = tt

left_own : (own : Bool) (s : State) (j c : ℕ) (call : ClientCall) (screen : Option Screen) → (j == c) ≡ own → IsRun s
    → IsInRange s.history → Follows screen (memory_of s c) s.history
    → LeftKeeps (mode_of screen) (if own then call_left s j call else None)
left_own false s j c call screen is run range follows = tt
left_own true s j c call screen is run range follows =
    left_call s j call screen run range
    (subst (λ n. Follows screen (memory_of s n) s.history) (sym (eqb-true j c is)) follows)

left_step : (s : State) (c : ℕ) (t : Step) (screen : Option Screen) → IsRun s → IsInRange s.history
    → Follows screen (memory_of s c) s.history → LeftKeeps (mode_of screen) (chunk_left c s t)
left_step s c (steps.Draw drawing) screen run range follows = tt
left_step s c (steps.Call j call) screen run range follows = left_own (j == c) s j c call screen refl run range follows

-- ---- all steps

-- a frame keeps the mode of the last opening chunk
follow_frame : (k : ℕ) (p : Played) (f : FrameChunk) (screen : Option Screen) (rest : List Chunk)
    → KeepsFrame (mode_of screen) f → Follow (mode_of (frame_if k p f screen).screen) rest
    → Follow (mode_of screen) (chunks.Frame f ∷ rest)
follow_frame k p f None rest keeps follow = absurd keeps
follow_frame k p f (Some s) rest keeps follow = (keeps, follow)

follow_more : (k : ℕ) (p : Played) (chunk : Option Chunk) (rest : List Chunk) → LeftKeeps (open_mode p) chunk
    → Follow (open_mode (played_if k p chunk)) rest → Follow (open_mode p) (cons_option chunk rest)
follow_more k p None rest keeps follow = follow
follow_more k p (Some (chunks.Opening mode)) rest keeps follow = (keeps, follow)
follow_more k p (Some (chunks.Frame f)) rest keeps follow = follow_frame k p f p.screen rest keeps follow
follow_more k p (Some chunks.End) rest keeps follow = absurd keeps

pub follow_all : (k : ℕ) (p : Played) (s : State) (c : ℕ) (ts : List Step) → IsRun s → IsInRange s.history → 1 ≤ c
    → AllByRecursion (IsOfClient (length s.clients)) ts → list_all is_step ts ≡ true
    → Follows p.screen (memory_of s c) s.history → Follow (open_mode p) (all_left c s ts)
follow_all k p s c [] run range one clients t follows = tt
follow_all k p s c (x ∷ xs) run range one clients t follows =
    let later = (next s x).1 in
    let both = and_parts (is_step x) (list_all is_step xs) t in
    let plays = plays_next k p s c x run one clients.0 follows in
    let same : s.clients ≡ later.clients = sym (stepped_next s x).0 in
    follow_more k p (chunk_left c s x) (all_left c later xs) (left_step s c x p.screen run range follows)
    (follow_all k (played_if k p (chunk_left c s x)) later c xs (run_next s x run clients.0)
    (range_next s x both.0 range) one
    (subst (λ (cs : List ℕ). AllByRecursion (IsOfClient (length cs)) xs) same clients.1) both.1 plays.follows)

-- A client's chunks played beside its steps: after each, the screen is that of the client's memory.
use Rattle.std.proofs.Common.{◌≡◌, ◌≢◌, ℕ, ◌-◌, ◌<◌, ◌≤◌, Bool, true, false, List, [], ◌∷◌, length, fold, Option, Some, None, Result, Ok, Err, refl, sym, ap, ◌∙◌, subst, arith, if◌then◌else◌, ◌==◌, replicate}
use Rattle.std.specs.Prelude.{slice_set, slice_index_or}
use Rattle.std.specs.List.{AllByRecursion, cons_option}
use Rattle.std.proofs.lemmas.Bool.{eq-eqb, eqb-true, false≢true}
use Rattle.std.proofs.lemmas.List.{get_or-set_same}
use Rattle.dd_calls.specs.declared.answers.OpenRefusal.{OpenRefusal}
use Rattle.dd_calls.specs.declared.answers.CloseRefusal.{CloseRefusal}
use Rattle.dd_calls.specs.declared.answers.DupRefusal.{DupRefusal}
use Rattle.dd_log.specs.declared.events.Entry.{Entry}
use Rattle.dd_log.specs.declared.events.Event.TheVariants as events
use Rattle.dd_log.specs.History.{History, with_entry, legal, allowed, desk_mode}
use Rattle.dd_log.specs.Picture.{view}
use Rattle.dd_table.specs.Opening.{opening, closing}
use Rattle.dd_calls.specs.declared.dup_call.DupCall.{DupCall}
use Rattle.dd_calls.specs.declared.dup_call.DupCall.TheVariants as asked
use Rattle.dd_dup.specs.declared.frame.Frame.{Frame}
use Rattle.dd_dup.specs.Reply.{Memory, reply, is_lost, lost_memory, without_frame, memory_after, acquire_reply, desc_reply}
use Rattle.dd_dup.proofs.Frames.{granted_kept}
use Rattle.dd_record.specs.declared.chunk.Chunk.{Chunk}
use Rattle.dd_record.specs.Frames.{frame_chunk}
use Rattle.dd_calls.specs.declared.steps.Step.{Step}
use Rattle.dd_calls.specs.declared.steps.Step.TheVariants as steps
use Rattle.dd_calls.specs.declared.steps.ClientCall.{ClientCall}
use Rattle.dd_calls.specs.declared.steps.ClientCall.TheVariants as calls
use Rattle.dd_station.specs.Run.{State, start, next, app_of, memory_of, entry_of, draw_history, opening_outcome, closing_outcome, client_reply, asking_outcome, call_outcome}
use Rattle.dd_calls.specs.Calls.{IsOfClient}
use Rattle.dd_dup.specs.Reply.{slot_of}
use Rattle.dd_trace.specs.Trace.{trace}
use Rattle.dd_station.proofs.Kept.{begins-with_entry}
use Rattle.dd_station.proofs.Stepped.{stepped_next}
use Rattle.dd_view.specs.Playing.{Screen, opened, framed, Shown, Played, nothing_played, frame_if, chunk_played, played}
use Rattle.dd_playback.proofs.ByCalls.{opening_left, frame_left, acquire_left, call_left, chunk_left, all_left, chunks_told}
use Rattle.dd_playback.specs.FramesShown.{acquire_shown, frame_shown, call_shown, step_shown, frames_shown}
use Rattle.dd_playback.specs.Records.{RecordsPlayBack}
use Rattle.dd_trace.proofs.Running.{IsRun, none_there, run_begun, run_next, StandsFor, stands_for, place_of}
use Rattle.dd_playback.proofs.Screens.{IsScreenOf, desk_framed, screen_of_desk, shown_desk, screen_opened}
use Rattle.dd_trace.proofs.Others.{begins_drawn, begins_called, other_called}
use Rattle.dd_playback.proofs.Following.{Follows, follows_later}
use Rattle.dd_playback.proofs.Tally.{Tally, tally_of, counted, counted_if, frames_more, frame_from}

abbrev pub played_if : ℕ → Played → Option Chunk → Played
played_if asked p None = p
played_if asked p (Some chunk) = chunk_played asked p chunk

-- a chunk, or none, was played
pub record Plays (asked : ℕ) (p : Played) (chunk : Option Chunk) (shown : Option Shown) (m : Option Memory)
    (h : History) : Type 0 where
  pub follows : Follows (played_if asked p chunk).screen m h
  pub tally : tally_of (played_if asked p chunk) ≡ counted_if asked (tally_of p) shown

plays_none : (k : ℕ) (p : Played) (m : Option Memory) (h : History) → Follows p.screen m h → Plays k p None None m h
plays_none k p m h follows = record { follows = follows; tally = refl }

-- ---- the client's own calls

-- its memory is set
own_set : (k : ℕ) (p : Played) (chunk : Option Chunk) (shown : Option Shown) (ms : List (Option Memory)) (c : ℕ)
    (m : Option Memory) (h : History) → c - 1 < length ms → Plays k p chunk shown m h
    → Plays k p chunk shown (slice_index_or (slice_set ms (c - 1) m) (c - 1) None) h
own_set k p chunk shown ms c m h there plays =
    subst (λ (n : Option Memory). Plays k p chunk shown n h) (sym (get_or-set_same ms (c - 1) m None there)) plays

own_opened : (r : Result ℕ OpenRefusal) (k : ℕ) (p : Played) (s : State) (c : ℕ) → c - 1 < length s.memories
    → Follows p.screen (memory_of s c) s.history
    → Plays k p (opening_left r s.history) None (memory_of (opening_outcome r s c).1 c)
    (opening_outcome r s c).1.history
own_opened (Err cause) k p s c there follows = plays_none k p (memory_of s c) s.history follows
own_opened (Ok slot) k p s c there follows =
    let h = s.history in
    let e : Entry = entry_of s c (events.Opened slot (app_of s c)) in
    own_set k p (opening_left (Ok slot) h) None s.memories c _ (with_entry h e) there
    (record {
      follows = (opened (desk_mode h), refl, screen_opened h (with_entry h e) (begins-with_entry h e));
      tally = refl;
    })

own_closed : (r : Result ℕ CloseRefusal) (k : ℕ) (p : Played) (s : State) (c : ℕ) → c - 1 < length s.memories
    → Follows p.screen (memory_of s c) s.history
    → Plays k p None None (memory_of (closing_outcome r s c).1 c) (closing_outcome r s c).1.history
own_closed (Err cause) k p s c there follows = plays_none k p (memory_of s c) s.history follows
own_closed (Ok slot) k p s c there follows =
    let e : Entry = entry_of s c (events.Closed slot) in
    own_set k p None None s.memories c None (with_entry s.history e) there
    (plays_none k p None (with_entry s.history e) tt)

-- an acquire of a duplicator
frame_plays : (k : ℕ) (p : Played) (f : Frame) (m : Memory) (h : History) (s : Screen) → p.screen ≡ Some s
    → legal h ≡ true → StandsFor (Some m) h → acquire_reply m h ≡ Ok f → IsScreenOf m h s
    → Plays k p (frame_left (Ok f) h) (frame_shown (Ok f) m h) (Some (memory_after m h (Ok f))) h
frame_plays k p f m h s there t stands granted is =
    let chunk = frame_chunk f (view h) in
    let now = desk_framed m h f s t stands granted is in
    let plays = ap (frame_if k p chunk) there in
    record {
      follows = (
        framed s chunk,
        ap (λ (q : Played). q.screen) plays,
        screen_of_desk m h f (framed s chunk) now,
      );
      tally =
          ap tally_of plays
          ∙ ap (λ x. counted k (tally_of p) x) (shown_desk h (desc_reply m h) (framed s chunk) now);
    }

acquire_plays : (lost : Bool) (r : Result Frame DupRefusal) (k : ℕ) (p : Played) (m : Memory) (h : History)
    → is_lost m h ≡ lost → acquire_reply m h ≡ r → legal h ≡ true → StandsFor (Some m) h → Follows p.screen (Some m) h
    → Plays k p (frame_left r h) (frame_shown r m h) (Some (if lost then lost_memory m else memory_after m h r)) h
acquire_plays true (Ok f) k p m h lost is t stands follows =
    absurd (false≢true (sym (granted_kept m h _ f is) ∙ lost))
acquire_plays true (Err cause) k p m h lost is t stands follows =
    plays_none k p (Some (lost_memory m)) h (
      follows.0,
      follows.1,
      record {
        surface = follows.2.surface;
        mode = follows.2.mode;
        shape = follows.2.shape;
      },
    )
acquire_plays false (Ok f) k p m h lost is t stands follows =
    frame_plays k p f m h follows.0 follows.1 t stands is follows.2
acquire_plays false (Err cause) k p m h lost is t stands follows = plays_none k p (Some m) h follows

own_acquired : (o : Option Memory) (k : ℕ) (p : Played) (h : History) → legal h ≡ true → StandsFor o h
    → Follows p.screen o h
    → Plays k p (acquire_left o h) (acquire_shown o h) (client_reply asked.Acquire o h).1 h
own_acquired None k p h t stands follows = plays_none k p None h tt
own_acquired (Some m) k p h t stands follows =
    acquire_plays (is_lost m h) (acquire_reply m h) k p m h refl refl t stands follows

-- a release, and a call that only looks
abbrev IsLook : DupCall → Type 0
IsLook asked.Acquire = ⊥
IsLook asked.Release = Unit {0}
IsLook (asked.Moves buffer) = Unit {0}
IsLook (asked.Dirty buffer) = Unit {0}
IsLook (asked.Shape buffer) = Unit {0}
IsLook asked.Surface = Unit {0}
IsLook asked.Desc = Unit {0}

follows_lost : (lost : Bool) (screen : Option Screen) (m : Memory) (h : History) → Follows screen (Some m) h
    → Follows screen (Some (if lost then lost_memory m else m)) h
follows_lost true screen m h follows = (
  follows.0,
  follows.1,
  record {
    surface = follows.2.surface;
    mode = follows.2.mode;
    shape = follows.2.shape;
  },
)
follows_lost false screen m h follows = follows

follows_released : (lost : Bool) (screen : Option Screen) (m : Memory) (h : History) → Follows screen (Some m) h
    → Follows screen (Some (if lost then lost_memory m else without_frame m)) h
follows_released true screen m h follows = follows_lost true screen m h follows
follows_released false screen m h follows = (
  follows.0,
  follows.1,
  record {
    surface = follows.2.surface;
    mode = follows.2.mode;
    shape = follows.2.shape;
  },
)

own_looked : (o : Option Memory) (call : DupCall) (k : ℕ) (p : Played) (h : History) → IsLook call
    → Follows p.screen o h → Plays k p None None (client_reply call o h).1 h
own_looked None call k p h look follows = plays_none k p None h tt
own_looked (Some m) call k p h look follows =
    plays_none k p (Some (reply call m h).1) h (kept call look) where
      kept : (call : DupCall) → IsLook call → Follows p.screen (Some (reply call m h).1) h
      kept asked.Acquire look = absurd look
      kept asked.Release look = follows_released (is_lost m h) p.screen m h follows
      kept (asked.Moves buffer) look = follows_lost (is_lost m h) p.screen m h follows
      kept (asked.Dirty buffer) look = follows_lost (is_lost m h) p.screen m h follows
      kept (asked.Shape buffer) look = follows_lost (is_lost m h) p.screen m h follows
      kept asked.Surface look = follows
      kept asked.Desc look = follows

own_asked : (k : ℕ) (p : Played) (s : State) (c : ℕ) (call : DupCall) → IsLook call → c - 1 < length s.memories
    → Follows p.screen (memory_of s c) s.history
    → Plays k p None None (memory_of (asking_outcome s c call).1 c) s.history
own_asked k p s c call look there follows =
    own_set k p None None s.memories c (client_reply call (memory_of s c) s.history).1 s.history there
    (own_looked (memory_of s c) call k p s.history look follows)

own_called : (k : ℕ) (p : Played) (s : State) (c : ℕ) (call : ClientCall) → IsRun s → c - 1 < length s.memories
    → Follows p.screen (memory_of s c) s.history
    → Plays k p (call_left s c call) (call_shown s c call) (memory_of (call_outcome s c call).1 c)
    (call_outcome s c call).1.history
own_called k p s c calls.Duplicate run there follows =
    own_opened (opening s.history (app_of s c)) k p s c there follows
own_called k p s c calls.Close run there follows =
    own_closed (closing s.history (slot_of (memory_of s c) s.history)) k p s c there follows
own_called k p s c (calls.Acquire timeout) run there follows =
    own_set k p (acquire_left (memory_of s c) s.history) (acquire_shown (memory_of s c) s.history) s.memories c
    (client_reply asked.Acquire (memory_of s c) s.history).1 s.history there
    (own_acquired (memory_of s c) k p s.history run.legal (stands_for s c run) follows)
own_called k p s c calls.Release run there follows = own_asked k p s c asked.Release tt there follows
own_called k p s c (calls.Moves buffer) run there follows = own_asked k p s c (asked.Moves buffer) tt there follows
own_called k p s c (calls.Dirty buffer) run there follows = own_asked k p s c (asked.Dirty buffer) tt there follows
own_called k p s c (calls.Shape buffer) run there follows = own_asked k p s c (asked.Shape buffer) tt there follows
own_called k p s c calls.Surface run there follows = own_asked k p s c asked.Surface tt there follows
own_called k p s c calls.Desc run there follows = own_asked k p s c asked.Desc tt there follows

-- ---- a step

plays_call : (own : Bool) (k : ℕ) (p : Played) (s : State) (j c : ℕ) (call : ClientCall) → (j == c) ≡ own → IsRun s
    → 1 ≤ c → 1 ≤ j → j ≤ length s.clients → Follows p.screen (memory_of s c) s.history
    → Plays k p (if own then call_left s j call else None) (if own then call_shown s j call else None)
    (memory_of (call_outcome s j call).1 c) (call_outcome s j call).1.history
plays_call true k p s j c call is run one from to follows =
    let same : c ≡ j = sym (eqb-true j c is) in
    subst (λ n. Plays k p (call_left s j call) (call_shown s j call) (memory_of (call_outcome s j call).1 n)
    (call_outcome s j call).1.history) (sym same)
    (own_called k p s j call run (place_of s j run from to)
    (subst (λ n. Follows p.screen (memory_of s n) s.history) same follows))
plays_call false k p s j c call is run one from to follows =
    let ne : j ≢ c = λ (e : j ≡ c). false≢true (sym is ∙ eq-eqb j c e) in
    let later = (call_outcome s j call).1 in
    plays_none k p (memory_of later c) later.history
    (subst (λ (m : Option Memory). Follows p.screen m later.history) (sym (other_called s j c call from one ne))
    (follows_later p.screen (memory_of s c) s.history later.history (stands_for s c run) (begins_called s j call)
    follows))

pub plays_next : (k : ℕ) (p : Played) (s : State) (c : ℕ) (t : Step) → IsRun s → 1 ≤ c → IsOfClient (length s.clients) t
    → Follows p.screen (memory_of s c) s.history
    → Plays k p (chunk_left c s t) (step_shown c s t) (memory_of (next s t).1 c) (next s t).1.history
unfolding next
plays_next k p s c (steps.Draw drawing) run one client follows =
    let later = draw_history (allowed s.history drawing) s.history (entry_of s 0 (events.Draw drawing)) in
    plays_none k p (memory_of s c) later
    (follows_later p.screen (memory_of s c) s.history later (stands_for s c run)
    (begins_drawn (allowed s.history drawing) s.history (entry_of s 0 (events.Draw drawing))) follows)
plays_next k p s c (steps.Call j call) run one client follows =
    plays_call (j == c) k p s j c call refl run one client.0 client.1 follows

-- ---- all steps

chunks_more : (k : ℕ) (p : Played) (chunk : Option Chunk) (rest : List Chunk)
    → fold (chunk_played k) p (cons_option chunk rest) ≡ fold (chunk_played k) (played_if k p chunk) rest
chunks_more k p None rest = refl
chunks_more k p (Some chunk) rest = refl

plays_all : (k : ℕ) (p : Played) (s : State) (c : ℕ) (ts : List Step) → IsRun s → 1 ≤ c
    → AllByRecursion (IsOfClient (length s.clients)) ts → Follows p.screen (memory_of s c) s.history
    → tally_of (fold (chunk_played k) p (all_left c s ts)) ≡ fold (counted k) (tally_of p) (frames_shown c s ts)
plays_all k p s c [] run one clients follows = refl
plays_all k p s c (t ∷ ts) run one clients follows =
    let later = (next s t).1 in
    let plays = plays_next k p s c t run one clients.0 follows in
    let same : s.clients ≡ later.clients = sym (stepped_next s t).0 in
    ap tally_of (chunks_more k p (chunk_left c s t) (all_left c later ts))
    ∙ plays_all k (played_if k p (chunk_left c s t)) later c ts (run_next s t run clients.0) one
    (subst (λ (cs : List ℕ). AllByRecursion (IsOfClient (length cs)) ts) same clients.1) plays.follows
    ∙ ap (λ (x : Tally). fold (counted k) x (frames_shown c later ts)) plays.tally
    ∙ sym (frames_more k (tally_of p) (step_shown c s t) (frames_shown c later ts))

-- ---- the whole record

abbrev no_memory : Option Memory
no_memory = None

pub none_follows : (n c : ℕ) (h : History)
    → Follows None (slice_index_or (replicate n no_memory) (c - 1) None) h
none_follows n c h =
    subst (λ (m : Option Memory). Follows None m h) (sym (none_there n (c - 1) no_memory refl)) tt

pub records_play_back : RecordsPlayBack
unfolding played trace
records_play_back script c k runnable one from =
    let s = start script.spec script.clients in
    ap (λ (cs : List Chunk). (played k cs).shown) (sym (chunks_told c s script.steps))
    ∙ ap (λ (t : Tally). t.shown)
    (plays_all k nothing_played s c script.steps (run_begun script.spec script.clients runnable.few) one runnable.calls
    (none_follows (length script.clients) c s.history))
    ∙ frame_from k 0 (k - 1) (frames_shown c s script.steps) (omega (arith, from))

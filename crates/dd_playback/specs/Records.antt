-- What holds of the record of each client of each script.
use Rattle.std.specs.Prelude.{◌≡◌, ◌≤◌, ℕ, ◌-◌, true, List, Some, slice_get}
use Rattle.dd_calls.specs.declared.steps.Script.{Script}
use Rattle.dd_station.specs.Run.{start}
use Rattle.dd_trace.specs.Trace.{trace}
use Rattle.dd_script_read.specs.Reading.{IsScript}
use Rattle.dd_script_read.specs.Script.{IsRunnable}
use Rattle.dd_script_read.specs.Readable.{is_readable}
use Rattle.dd_view.specs.Playing.{Shown, played}
use Rattle.dd_view.specs.Player.{reader_of}
use Rattle.dd_view.specs.Records.{read_whole}
use Rattle.dd_prog.specs.Commands.{IsRecordShowing}
use Rattle.dd_prog.specs.Recording.{recorded, record_of}
use Rattle.dd_playback.specs.FramesShown.{frames_shown}

-- For each script that can be run and each client c: playing the client's record shows, after the k-th frame, what the
-- client's k-th frame shows; and nothing where there are fewer frames.
abbrev pub RecordsPlayBack : Type 0
RecordsPlayBack =
    (script : Script) (c k : ℕ) → IsRunnable script → 1 ≤ c → 1 ≤ k
    → (played k (recorded c (trace script))).shown
    ≡ slice_get (frames_shown c (start script.spec script.clients) script.steps) (k - 1)

-- For each script whose parts are in their ranges and each client c: reading the client's record ends with its End
-- chunk and no fault, and has played exactly the chunks that the client's steps left.
abbrev pub RecordsAreRead : Type 0
RecordsAreRead =
    (script : Script) (c k : ℕ) → is_readable script ≡ true → 1 ≤ c
    → reader_of k (record_of script c) ≡ read_whole k (recorded c (trace script))

-- So a reader of the record's bytes shows, of the k-th frame, what the client's k-th frame shows.
abbrev pub RecordsShowFrames : Type 0
RecordsShowFrames =
    (script : Script) (c k : ℕ) → is_readable script ≡ true → 1 ≤ c → 1 ≤ k
    → (reader_of k (record_of script c)).played.shown
    ≡ slice_get (frames_shown c (start script.spec script.clients) script.steps) (k - 1)

-- For each script that is read, each client c of it and each frame k of the client: the bytes that `record` writes for
-- the client are an input of `view` for this frame, which shows what the client's frame shows.
abbrev pub RecordsAreViewed : Type 0
RecordsAreViewed =
    (b : List ℕ) (script : Script) (c k : ℕ) (shown : Shown) → IsScript b script → 1 ≤ c → 1 ≤ k
    → slice_get (frames_shown c (start script.spec script.clients) script.steps) (k - 1) ≡ Some shown
    → IsRecordShowing k (record_of script c) shown

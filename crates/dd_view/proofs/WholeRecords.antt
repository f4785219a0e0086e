-- The record of chunks that follow one another is read chunk by chunk, up to its end.
use Rattle.std.proofs.Common.{◌≡◌, ℕ, zero, suc, ◌+◌, ◌≤◌, Bool, true, nat_le, List, [], ◌∷◌, ◌++◌, length, drop, fold, Option, Some, None, refl, ap, ◌∙◌, append_assoc, length-append, arith, if◌then◌else◌}
use Rattle.std.specs.Prelude.{option_map}
use Rattle.std.specs.List.{flat_map}
use Rattle.std.proofs.lemmas.Bool.{le-leb}
use Rattle.dd_modes.specs.declared.modes.Mode.{Mode}
use Rattle.dd_record.specs.declared.chunk.Chunk.{Chunk}
use Rattle.dd_record.specs.declared.chunk.Chunk.TheVariants.{Opening, Frame, End}
use Rattle.dd_record.specs.declared.chunk.FrameChunk.{FrameChunk}
use Rattle.dd_record.specs.declared.chunk.Parsed.{Parsed}
use Rattle.dd_record.specs.declared.fault.RecordFault.TheVariants.{BadMagic}
use Rattle.dd_record.specs.Reading.{Reading, Good}
use Rattle.dd_record.specs.Grammar.{chunk_of}
use Rattle.dd_record.specs.Writing.{magic, chunk_bytes, record_bytes, end_bytes, opening_bytes, frame_bytes, head_bytes}
use Rattle.dd_record.proofs.FrameBack.{reads_what_is_written}
use Rattle.dd_view.specs.declared.stage.Stage.{Stage}
use Rattle.dd_view.specs.declared.stage.Stage.TheVariants.{Begun, Going, Ended}
use Rattle.dd_view.specs.Playing.{Screen, Played, nothing_played, frame_if, chunk_played, played}
use Rattle.dd_view.specs.Player.{Reader, agree, behind_magic, begun_next, stopped, chunk_next, stage_behind, open_mode, next, steps, read_on}
use Rattle.dd_view.specs.Records.{Follow, ReadsRecords}

-- the bytes behind the magic
abbrev body : List Chunk → List ℕ
body chunks = flat_map chunk_bytes chunks ++ end_bytes

abbrev at_stage : Stage → ℕ → ℕ → List ℕ → Played → Reader
at_stage stage asked at rest p = record { asked = asked; stage = stage; at = at; rest = rest; played = p }

-- where a step changes nothing, none does
steps_still : (n : ℕ) (r : Reader) → next r ≡ r → steps n r ≡ r
steps_still zero r e = refl
steps_still (suc n) r e = ap (steps n) e ∙ steps_still n r e

some_bytes : (c : Chunk) → 1 ≤ length (chunk_bytes c)
unfolding end_bytes opening_bytes frame_bytes head_bytes
some_bytes (Opening mode) = omega arith
some_bytes (Frame f) = omega arith
some_bytes End = omega arith

body_more : (c : Chunk) (cs : List Chunk) → body (c ∷ cs) ≡ chunk_bytes c ++ body cs
body_more c cs = append_assoc (chunk_bytes c) (flat_map chunk_bytes cs) end_bytes

behind : (bytes rest : List ℕ) → drop (length bytes) (bytes ++ rest) ≡ rest
behind [] rest = refl
behind (b ∷ bytes) rest = behind bytes rest

-- one chunk is read
chunk_read : (c : Chunk) (rest : List ℕ) (asked at : ℕ) (p : Played)
    → chunk_of (open_mode p) (chunk_bytes c ++ rest) ≡ Good (record { chunk = c; used = length (chunk_bytes c) })
    → next (at_stage Going asked at (chunk_bytes c ++ rest) p)
    ≡ at_stage (stage_behind c) asked (at + length (chunk_bytes c)) rest (chunk_played asked p c)
chunk_read c rest asked at p e =
    ap (λ (r : Reading Parsed). chunk_next (at_stage Going asked at (chunk_bytes c ++ rest) p) r) e
    ∙ ap
    (λ (left : List ℕ). at_stage (stage_behind c) asked (at + length (chunk_bytes c)) left (chunk_played asked p c))
    (behind (chunk_bytes c) rest)

-- a chunk, and then those behind it
go_on : (c : Chunk) (cs : List Chunk) (asked at n : ℕ) (p : Played) → stage_behind c ≡ Going
    → chunk_of (open_mode p) (chunk_bytes c ++ body cs) ≡ Good (record { chunk = c; used = length (chunk_bytes c) })
    → length (body (c ∷ cs)) ≤ n
    → ((m : ℕ) → length (body cs) ≤ m
    → steps m (at_stage Going asked (at + length (chunk_bytes c)) (body cs) (chunk_played asked p c))
    ≡ at_stage Ended asked (at + length (chunk_bytes c) + length (body cs)) []
    (fold (chunk_played asked) (chunk_played asked p c) cs))
    → steps n (at_stage Going asked at (body (c ∷ cs)) p)
    ≡ at_stage Ended asked (at + length (body (c ∷ cs))) [] (fold (chunk_played asked) p (c ∷ cs))
go_on c cs asked at zero p going e long later =
    absurd (omega (arith, long, some_bytes c, ap length (body_more c cs), length-append (chunk_bytes c) (body cs)))
go_on c cs asked at (suc n) p going e long later =
    let size = length-append (chunk_bytes c) (body cs) in
    let sizes = ap length (body_more c cs) in
    let total : at + length (chunk_bytes c) + length (body cs) ≡ at + length (body (c ∷ cs)) =
    omega (arith, size, sizes) in
    ap (λ (bytes : List ℕ). steps n (next (at_stage Going asked at bytes p))) (body_more c cs)
    ∙ (ap (steps n) (chunk_read c (body cs) asked at p e)
    ∙ (ap
    (λ (s : Stage). steps n (at_stage s asked (at + length (chunk_bytes c)) (body cs) (chunk_played asked p c))) going
    ∙ (later n (omega (arith, long, some_bytes c, size, sizes))
    ∙ ap (λ k. at_stage Ended asked k [] (fold (chunk_played asked) p (c ∷ cs))) total)))

-- a frame keeps the mode
frame_keeps : (asked : ℕ) (p : Played) (f : FrameChunk) (mode : Mode) → open_mode p ≡ Some mode
    → open_mode (chunk_played asked p (Frame f)) ≡ Some mode
frame_keeps asked p f mode e = by_screen p.screen e where
  by_screen : (s : Option Screen) → option_map (λ t. t.mode) s ≡ Some mode
      → open_mode (frame_if asked p f s) ≡ Some mode
  by_screen None e = cc
  by_screen (Some s) e = e

reads_body : (cs : List Chunk) (last : Option Mode) (asked at n : ℕ) (p : Played) → open_mode p ≡ last
    → length (body cs) ≤ n → Follow last cs
    → steps n (at_stage Going asked at (body cs) p)
    ≡ at_stage Ended asked (at + length (body cs)) [] (fold (chunk_played asked) p cs)
unfolding end_bytes
reads_body [] last asked at zero p is long follow = absurd (omega (arith, long))
reads_body [] last asked at (suc n) p is long follow =
    ap (steps n) (chunk_read End [] asked at p (reads_what_is_written.end (open_mode p) []))
    ∙ steps_still n (at_stage Ended asked (at + 1) [] p) refl
reads_body (Opening mode ∷ cs) last asked at n p is long follow =
    go_on (Opening mode) cs asked at n p refl (reads_what_is_written.opening (open_mode p) mode (body cs) follow.0) long
    (λ m within. reads_body cs (Some mode) asked (at + length (opening_bytes mode)) m _ refl within follow.1)
reads_body (Frame f ∷ cs) None asked at n p is long follow = absurd follow
reads_body (Frame f ∷ cs) (Some mode) asked at n p is long follow =
    go_on (Frame f) cs asked at n p refl
    (ap (λ (o : Option Mode). chunk_of o (frame_bytes f ++ body cs)) is
    ∙ reads_what_is_written.frame mode f (body cs) follow.0) long
    (λ m within. reads_body cs (Some mode) asked (at + length (frame_bytes f)) m _ (frame_keeps asked p f mode is)
    within follow.1)
reads_body (End ∷ cs) last asked at n p is long follow = absurd follow

-- the magic agrees with itself, whatever stands behind it
agree_nil : (bytes : List ℕ) → agree bytes [] ≡ true
agree_nil [] = refl
agree_nil (b ∷ bytes) = refl

begun : (asked : ℕ) (rest : List ℕ)
    → next (at_stage Begun asked 0 (magic ++ rest) nothing_played)
    ≡ at_stage Going asked (length magic) rest nothing_played
unfolding magic begun_next
begun asked rest =
    let whole : List ℕ = 68 ∷ 68 ∷ 82 ∷ 49 ∷ rest in
    let r : Reader = at_stage Begun asked 0 whole nothing_played in
    ap (λ (b : Bool). if b then (if nat_le 4 (length whole) then behind_magic r else r) else stopped BadMagic r)
    (agree_nil rest)
    ∙ ap (λ (b : Bool). if b then behind_magic r else r) (le-leb 4 (length whole) (omega arith))

pub reads_records : ReadsRecords
unfolding record_bytes played magic read_on
reads_records asked cs follow =
    let n = length (body cs) in
    let total : 4 + n ≡ suc (suc (suc (suc n))) = omega arith in
    ap (steps (suc (suc (suc n)))) (begun asked (body cs))
    ∙ (reads_body cs None asked 4 (suc (suc (suc n))) nothing_played refl (omega arith) follow
    ∙ ap (λ k. at_stage Ended asked k [] (fold (chunk_played asked) nothing_played cs)) total)

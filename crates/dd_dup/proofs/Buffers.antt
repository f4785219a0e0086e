-- A buffer that is long enough is never too short.
use Rattle.std.proofs.Common.{◌≡◌, ◌≤◌, ℕ, List, length, Result, Ok, Err, sym, subst}
use Rattle.std.specs.Prelude.{IsOk}
use Rattle.dd_geom.specs.declared.rect.Rect.{Rect}
use Rattle.dd_geom.specs.declared.rect.Move.{Move}
use Rattle.dd_meta.specs.Buffer.{bytes_of_moves, bytes_of_rects, put}
use Rattle.dd_meta.specs.declared.buffer.TheConstants.{MOVES_BUFFER, RECTS_BUFFER}
use Rattle.dd_meta.proofs.Sizes.{moves_fit, rects_fit}
use Rattle.dd_calls.specs.declared.answers.DupRefusal.{DupRefusal}
use Rattle.dd_dup.specs.Reply.{put_answer, IsNotShort}

not_short : (r : Result ℕ ℕ) → IsOk r → IsNotShort (put_answer r)
not_short (Ok size) t = tt
not_short (Err required) t = cc

pub moves_enough : (moves : List Move) (buffer now : List ℕ) (r : Result ℕ ℕ) (answer : Result ℕ DupRefusal)
    → length moves ≤ 16 → MOVES_BUFFER ≤ length buffer → (r, now) ≡ put (bytes_of_moves moves) buffer
    → answer ≡ put_answer r → IsNotShort answer
moves_enough moves buffer now r answer few long is told =
    subst IsNotShort (sym told)
    (not_short r
    (subst (λ (q : Result ℕ ℕ × List ℕ). IsOk q.0) (sym is) (moves_fit moves buffer few long)))

pub rects_enough : (rects : List Rect) (buffer now : List ℕ) (r : Result ℕ ℕ) (answer : Result ℕ DupRefusal)
    → length rects ≤ 64 → RECTS_BUFFER ≤ length buffer → (r, now) ≡ put (bytes_of_rects rects) buffer
    → answer ≡ put_answer r → IsNotShort answer
rects_enough rects buffer now r answer few long is told =
    subst IsNotShort (sym told)
    (not_short r
    (subst (λ (q : Result ℕ ℕ × List ℕ). IsOk q.0) (sym is) (rects_fit rects buffer few long)))

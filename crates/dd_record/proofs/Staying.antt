-- What was read of a chunk stays when more bytes come.
use Rattle.std.proofs.Common.{◌≡◌, ◌==◌, ℕ, zero, suc, ◌+◌, ◌*◌, ◌≤◌, Bool, true, false, cond, nat_le, List, ◌++◌, length, take, drop, Option, Some, None, refl, sym, ap, ◌∙◌, subst, length-append, length-drop, arith}
use Rattle.std.proofs.lemmas.Bool.{le-leb}
use Rattle.std.proofs.lemmas.List.{take-append-le, drop-append-le}
use borrow.Author.Tests.{leb-true}
use Rattle.dd_geom.specs.declared.rect.TheConstants.{MOVE_BYTES, RECT_BYTES}
use Rattle.dd_modes.specs.declared.modes.Mode.{Mode}
use Rattle.dd_record.specs.declared.layout.TheConstants.{FRAME_HEAD_BYTES, PIXEL_BYTES, SHAPE_HEAD_BYTES}
use Rattle.dd_record.specs.Reading.{Reading, Good, Bad, Short, ◌>>=◌, Stays, come, number, fields}
use Rattle.dd_record.specs.Dirt.{pixel_count}
use Rattle.dd_record.specs.Grammar.{width_of, height_of, mode_of, opening_of, last_present_of, last_mouse_of, accumulated_of, coalesced_of, protected_of, pointer_of, meta_of, shape_size_of, move_count_of, rect_count_of, info_of, head_of, move_at, moves_of, rect_at, rects_of, dirt_of, pixel_at, pixels_of, shape_head_at, shape_at, new_shape_of, behind_rects, behind_pixels, frame_chunk_of, frame_of, frame_after, tagged, chunk_of, ReadingStays}

same : {A : Type 0} (r : Reading A) → Stays r r
same (Good x) = refl
same (Bad at) = refl
same Short = tt

then : {A B : Type 0} (r s : Reading A) (f g : A → Reading B) → Stays r s → ((x : A) → Stays (f x) (g x))
    → Stays (r >>= f) (s >>= g)
then (Good x) s f g first rest = subst (λ s. Stays (f x) (s >>= g)) (sym first) (rest x)
then (Bad at) s f g first rest = ap (λ s. s >>= g) first
then Short s f g first rest = tt

either : {A : Type 0} (b : Bool) (r s p q : Reading A) → Stays r p → Stays s q → Stays (cond b r s) (cond b p q)
either true r s p q first second = first
either false r s p q first second = second

fields_stay : {A : Type 0} (f g : ℕ → Reading A) → ((at : ℕ) → Stays (f at) (g at)) → (size at n : ℕ)
    → Stays (fields f size at n) (fields g size at n)
fields_stay f g one size at zero = refl
fields_stay f g one size at (suc n) =
    then (f at) (g at) _ _ (one at) (λ x.
    then (fields f size (at + size) n) (fields g size (at + size) n) _ _ (fields_stay f g one size (at + size) n)
    (λ xs. refl))

module _ (bytes more : List ℕ) where
  abbrev later : List ℕ
  later = bytes ++ more

  come_stays : (at size : ℕ) → Stays (come at size bytes) (come at size later)
  unfolding come
  come_stays at size = by_test (nat_le (at + size) (length bytes)) refl where
    by_test : (b : Bool) → nat_le (at + size) (length bytes) ≡ b
        → Stays (cond b (Good (take size (drop at bytes))) Short) (come at size later)
    by_test false is = tt
    by_test true is =
        let within : at + size ≤ length bytes = leb-true _ _ is in
        let long : at + size ≤ length later = omega (arith, within, length-append bytes more) in
        let enough : size ≤ length (drop at bytes) = omega (arith, within, length-drop at bytes) in
        ap (λ b. cond b (Good (take size (drop at later))) Short) (le-leb _ _ long)
        ∙ ap Good (ap (take size) (drop-append-le at bytes more (omega (arith, within)))
        ∙ take-append-le size (drop at bytes) more enough)

  -- a field and what is made of it
  read_stays : {B : Type 0} (at size : ℕ) (f : List ℕ → Reading B)
      → Stays (come at size bytes >>= f) (come at size later >>= f)
  read_stays at size f = then _ _ f f (come_stays at size) (λ field. same (f field))

  pub number_stays : (at size : ℕ) → Stays (number at size bytes) (number at size later)
  number_stays at size = read_stays at size _

  -- a number and a rule
  ruled : {B : Type 0} (at size : ℕ) (f : ℕ → Reading B)
      → Stays (number at size bytes >>= f) (number at size later >>= f)
  ruled at size f = then _ _ f f (number_stays at size) (λ n. same (f n))

  mode_stays : Stays (mode_of bytes) (mode_of later)
  unfolding mode_of width_of height_of
  mode_stays =
      then _ _ _ _ (ruled 1 4 _) (λ w.
      then _ _ _ _ (ruled 5 4 _) (λ h.
      then _ _ _ _ (ruled 9 4 _) (λ r. refl)))

  pointer_stays : Stays (pointer_of bytes) (pointer_of later)
  unfolding pointer_of
  pointer_stays =
      then _ _ _ _ (read_stays 23 4 _) (λ x.
      then _ _ _ _ (read_stays 27 4 _) (λ y.
      then _ _ _ _ (ruled 31 1 _) (λ v. refl)))

  info_stays : Stays (info_of bytes) (info_of later)
  unfolding info_of last_present_of last_mouse_of accumulated_of coalesced_of protected_of meta_of shape_size_of
  info_stays =
      then _ _ _ _ (ruled 1 8 _) (λ last_present.
      then _ _ _ _ (ruled 9 8 _) (λ last_mouse.
      then _ _ _ _ (ruled 17 4 _) (λ accumulated.
      then _ _ _ _ (ruled 21 1 _) (λ coalesced.
      then _ _ _ _ (ruled 22 1 _) (λ protected.
      then _ _ _ _ pointer_stays (λ pointer.
      then _ _ _ _ (ruled 32 4 _) (λ meta.
      then _ _ _ _ (ruled 36 4 _) (λ shape. refl))))))))

  pub head_stays : Stays (head_of bytes) (head_of later)
  unfolding head_of move_count_of rect_count_of
  head_stays =
      then _ _ _ _ info_stays (λ info.
      then _ _ _ _ (ruled 40 1 _) (λ moves.
      then _ _ _ _ (ruled 41 1 _) (λ rects. refl)))

  move_stays : (mode : Mode) (at : ℕ) → Stays (move_at mode bytes at) (move_at mode later at)
  unfolding move_at
  move_stays mode at = then _ _ _ _ (read_stays at MOVE_BYTES _) (λ m. same _)

  pub moves_stay : (mode : Mode) (n at : ℕ) → Stays (moves_of mode n bytes at) (moves_of mode n later at)
  moves_stay mode n at = fields_stay (move_at mode bytes) (move_at mode later) (move_stays mode) MOVE_BYTES at n

  rect_stays : (mode : Mode) (at : ℕ) → Stays (rect_at mode bytes at) (rect_at mode later at)
  unfolding rect_at
  rect_stays mode at = then _ _ _ _ (read_stays at RECT_BYTES _) (λ r. same _)

  pub dirt_stays : (mode : Mode) (n at : ℕ) → Stays (dirt_of mode n bytes at) (dirt_of mode n later at)
  unfolding dirt_of
  dirt_stays mode n at =
      then (rects_of mode n bytes at) (rects_of mode n later at) _ _
      (fields_stay (rect_at mode bytes) (rect_at mode later) (rect_stays mode) RECT_BYTES at n) (λ rects. same _)

  pub pixel_stays : (at : ℕ) → Stays (pixel_at bytes at) (pixel_at later at)
  unfolding pixel_at
  pixel_stays at = read_stays at PIXEL_BYTES _

  shape_stays : (size at : ℕ) → Stays (new_shape_of size bytes at) (new_shape_of size later at)
  unfolding new_shape_of shape_at shape_head_at
  shape_stays size at =
      either (size == 0) _ _ _ _ refl (then _ _ _ _
      (then _ _ _ _ (then _ _ _ _ (read_stays at SHAPE_HEAD_BYTES _) (λ head. same _)) (λ head.
      read_stays (at + SHAPE_HEAD_BYTES) size _)) (λ shape. refl))

  frame_chunk_stays : (mode : Mode) → Stays (frame_chunk_of mode bytes) (frame_chunk_of mode later)
  unfolding frame_chunk_of
  frame_chunk_stays mode =
      then _ _ _ _ head_stays (λ head.
      then (moves_of mode head.moves bytes FRAME_HEAD_BYTES) (moves_of mode head.moves later FRAME_HEAD_BYTES) _ _
      (moves_stay mode head.moves FRAME_HEAD_BYTES) (λ moves.
      then _ _ _ _ (dirt_stays mode head.rects (FRAME_HEAD_BYTES + MOVE_BYTES * head.moves)) (λ dirt.
      then (pixels_of (pixel_count dirt) bytes (behind_rects head.info))
      (pixels_of (pixel_count dirt) later (behind_rects head.info)) _ _
      (fields_stay (pixel_at bytes) (pixel_at later) pixel_stays PIXEL_BYTES
      (behind_rects head.info) (pixel_count dirt))
      (λ pixels.
      then _ _ _ _ (shape_stays head.info.shape_size (behind_pixels head.info dirt)) (λ shape. refl)))))

  frame_stays : (mode : Option Mode) → Stays (frame_after mode bytes) (frame_after mode later)
  unfolding frame_of
  frame_stays None = refl
  frame_stays (Some mode) = then _ _ _ _ (frame_chunk_stays mode) (λ frame. refl)

  opening_stays : Stays (opening_of bytes) (opening_of later)
  unfolding opening_of
  opening_stays = then _ _ _ _ mode_stays (λ mode. refl)

pub reading_stays : ReadingStays
unfolding chunk_of
reading_stays mode bytes more =
    then _ _ (tagged mode bytes) (tagged mode (bytes ++ more)) (number_stays bytes more 0 1) (λ tag.
    either (tag == 0) _ _ _ _ refl (either (tag == 1) _ _ _ _ (opening_stays bytes more)
    (either (tag == 2) _ _ _ _ (frame_stays bytes more mode) refl)))

-- Where nothing of the first bytes of a chunk is bad, nothing of its pixels within them is.
use Rattle.std.proofs.Common.{◌≡◌, ◌==◌, ℕ, zero, suc, ◌+◌, ◌-◌, ◌*◌, ◌<◌, ◌≤◌, Bool, true, false, nat_le, cond, slice_index_or, List, [], ◌∷◌, ◌++◌, length, take, drop, Option, Some, None, Ok, refl, sym, ap, ◌∙◌, subst, arith}
use borrow.Author.Tests.{leb-true}
use Rattle.std.proofs.lemmas.Bool.{lt-leb, leb-false}
use Rattle.std.proofs.lemmas.List.{length-take-le, take-append-drop}
use Rattle.byteorder.specs.Endian.{little_number}
use Rattle.dd_geom.specs.declared.rect.TheConstants.{MOVE_BYTES, RECT_BYTES}
use Rattle.dd_geom.specs.declared.rect.Rect.{Rect}
use Rattle.dd_geom.specs.declared.rect.Move.{Move}
use Rattle.dd_modes.specs.declared.modes.Mode.{Mode}
use Rattle.dd_record.specs.declared.chunk.Parsed.{Parsed}
use Rattle.dd_record.specs.declared.head.Head.{Head}
use Rattle.dd_record.specs.declared.layout.TheConstants.{FRAME_HEAD_BYTES, PIXEL_BYTES}
use Rattle.dd_record.specs.Reading.{Reading, Good, Bad, Short, ◌>>=◌, NothingBad, Stays, come, kept, number}
use Rattle.dd_record.specs.Answers.{IsGood}
use Rattle.dd_record.specs.Dirt.{pixel_count}
use Rattle.dd_record.specs.Grammar.{last_present_of, info_of, head_of, moves_of, dirt_of, pixel_at, pixels_of, behind_rects, frame_chunk_of, frame_of, chunk_of, told}
use Rattle.dd_record.proofs.Rules.{dirt_few}
use Rattle.dd_record.proofs.Testing.{first_not_bad, behind_good, one_more, stops_there, all_good, tested_before}
use Rattle.dd_record.proofs.Needs.{Needs, head_needs, moves_need, dirt_needs, pixel_needs, tag_needs}
use Rattle.dd_record.proofs.Staying.{head_stays, moves_stay, dirt_stays, pixel_stays, number_stays}
use Rattle.dd_record.proofs.HeadMeta.{head_meta}

module _ (bytes : List ℕ) (good : ℕ) (within : good ≤ length bytes) where
  abbrev small : List ℕ
  small = take good bytes

  length-small : length small ≡ good
  length-small = length-take-le good bytes within

  pixel_agrees : (at : ℕ) → Stays (pixel_at small at) (pixel_at bytes at)
  pixel_agrees at =
      subst (λ (all : List ℕ). Stays (pixel_at small at) (pixel_at all at)) (take-append-drop good bytes)
      (pixel_stays small (drop good bytes) at)

  pixel_whole : (at : ℕ) → at + PIXEL_BYTES ≤ good → pixel_at small at ≡ Short → ⊥
  pixel_whole at came is =
      let few : length small < at + PIXEL_BYTES = subst (Needs small (at + PIXEL_BYTES)) is (pixel_needs small at) in
      omega (arith, few, came, length-small)

  -- where none of the pixels of the first bytes is bad, those that have come are good
  pub pixels_tested : (at n i : ℕ) → i ≤ n → PIXEL_BYTES * i ≤ good - at → NothingBad (pixels_of n small at)
      → IsGood (pixels_of i bytes at)
  pixels_tested at n zero le came given = tt
  pixels_tested at n (suc i) le came given =
      tested_before (pixel_at small) (pixel_at bytes) PIXEL_BYTES good pixel_agrees pixel_whole at n (suc i) le
      (omega (arith, came)) given

  -- what was read of the first bytes, where none are missing, is what is read of all
  agrees : {A : Type 0} (n : ℕ) (r s : Reading A) → Stays r s → Needs small n r → n ≤ good → NothingBad r → r ≡ s
  agrees n (Good x) s stays needs came given = sym stays
  agrees n (Bad at) s stays needs came given = elim given [ ]
  agrees n Short s stays needs came given = elim (absurd needs) [ ] where
    absurd : length small < n → ⊥
    absurd few = omega (arith, few, came, length-small)

  -- for what is read of all bytes
  by_all : {A : Type 0} (r : List ℕ → Reading A) → Stays (r small) (r (small ++ drop good bytes))
      → Stays (r small) (r bytes)
  by_all r stays = subst (λ (all : List ℕ). Stays (r small) (r all)) (take-append-drop good bytes) stays

  -- a part that was read, and so what follows it
  behind : {A B : Type 0} (n : ℕ) (r s : Reading A) (x : A) (f : A → Reading B) → Stays r s → Needs small n r → n ≤ good
      → s ≡ Good x → NothingBad (r >>= f) → NothingBad (f x)
  behind n r s x f stays needs came is given =
      let same : r ≡ Good x = agrees n r s stays needs came (first_not_bad r f given) ∙ is in
      subst (λ r. NothingBad (r >>= f)) same given

  -- pixels behind the first bytes haven't come
  none_come : (at : ℕ) → good ≤ at → pixel_at small at ≡ Short
  unfolding pixel_at come
  none_come at ahead =
      let few : length small < at + PIXEL_BYTES = omega (arith, ahead, length-small) in
      ap (λ b. cond b (Good (take PIXEL_BYTES (drop at small))) Short >>= λ field.
      kept at (slice_index_or field 3 0 == 255) (little_number 3 field)) (lt-leb _ _ few)

  none_bad : (at n : ℕ) → good ≤ at → NothingBad (pixels_of n small at)
  none_bad at zero ahead = tt
  none_bad at (suc n) ahead =
      subst (λ (r : Reading ℕ). NothingBad (r >>= λ x. pixels_of n small (at + PIXEL_BYTES) >>= λ xs. Good (x ∷ xs)))
      (sym (none_come at ahead)) tt

-- what a loop that tests pixels needs
pub ruleset testing = (pixels_tested, one_more, stops_there, all_good)

-- and so of the frame's pixels, whose number and place all bytes tell
pub pixels_before : (mode : Mode) (bytes : List ℕ) (good : ℕ) (head : Head) (moves : List Move) (dirt : List Rect)
    → good ≤ length bytes → head_of bytes ≡ Good head → moves_of mode head.moves bytes FRAME_HEAD_BYTES ≡ Good moves
    → dirt_of mode head.rects bytes (FRAME_HEAD_BYTES + MOVE_BYTES * head.moves) ≡ Good dirt
    → NothingBad (frame_chunk_of mode (take good bytes))
    → NothingBad (pixels_of (pixel_count dirt) (take good bytes) (behind_rects head.info))
unfolding frame_chunk_of
pixels_before mode bytes good head moves dirt within is_head are_moves is_dirt given =
    by_place (nat_le (behind_rects head.info) good) refl where
      first : List ℕ
      first = take good bytes

      meta : head.info.meta_size ≡ MOVE_BYTES * head.moves + RECT_BYTES * head.rects
      meta = head_meta bytes head is_head

      at : ℕ
      at = FRAME_HEAD_BYTES + MOVE_BYTES * head.moves

      by_place : (b : Bool) → nat_le (behind_rects head.info) good ≡ b
          → NothingBad (pixels_of (pixel_count dirt) first (behind_rects head.info))
      by_place false is =
          let ahead : good < behind_rects head.info = leb-false _ _ is in
          none_bad bytes good within (behind_rects head.info) (pixel_count dirt) (omega (arith, ahead))
      by_place true is =
          let come : behind_rects head.info ≤ good = leb-true _ _ is in
          let a = behind bytes good within FRAME_HEAD_BYTES (head_of first) (head_of bytes) head _
          (by_all bytes good within head_of (head_stays first (drop good bytes))) (head_needs first)
          (omega (arith, come)) is_head given in
          let b = behind bytes good within at
          (moves_of mode head.moves first FRAME_HEAD_BYTES) (moves_of mode head.moves bytes FRAME_HEAD_BYTES) moves _
          (by_all bytes good within (λ bytes. moves_of mode head.moves bytes FRAME_HEAD_BYTES)
          (moves_stay first (drop good bytes) mode head.moves FRAME_HEAD_BYTES))
          (moves_need first mode head.moves FRAME_HEAD_BYTES) (omega (arith, come, meta)) are_moves a in
          let c = behind bytes good within (at + RECT_BYTES * head.rects)
          (dirt_of mode head.rects first at) (dirt_of mode head.rects bytes at) dirt _
          (by_all bytes good within (λ bytes. dirt_of mode head.rects bytes at)
          (dirt_stays first (drop good bytes) mode head.rects at))
          (dirt_needs first mode head.rects at) (omega (arith, come, meta)) is_dirt b in
          first_not_bad (pixels_of (pixel_count dirt) first (behind_rects head.info)) _ c

-- of no bytes nothing is bad
none_yet : (mode : Mode) → NothingBad (frame_of mode [])
unfolding frame_of frame_chunk_of head_of info_of last_present_of come
none_yet mode = tt

-- where nothing of a chunk with a frame's tag is bad, nothing of its frame is
pub frame_before : (mode : Mode) (bytes : List ℕ) (good : ℕ) → good ≤ length bytes → number 0 1 bytes ≡ Good 2
    → NothingBad (chunk_of (Some mode) (take good bytes)) → NothingBad (frame_of mode (take good bytes))
unfolding chunk_of
frame_before mode bytes zero within tag given = none_yet mode
frame_before mode bytes (suc k) within tag given =
    behind bytes (suc k) within 1 (number 0 1 (take (suc k) bytes)) (number 0 1 bytes) 2 _
    (by_all bytes (suc k) within (number 0 1) (number_stays (take (suc k) bytes) (drop (suc k) bytes) 0 1))
    (tag_needs (take (suc k) bytes)) (omega arith) tag given

-- what a frame that comes in pieces needs
pub ruleset in_pieces = (dirt_few, pixels_before, behind_good)

-- ---- for those who feed a chunk in pieces

-- of no bytes nothing is bad
pub nothing_yet : (mode : Option Mode) → NothingBad (chunk_of mode [])
unfolding chunk_of come
nothing_yet mode = tt

-- where no chunk is whole and no fault is told, nothing that has come is bad
pub none_is_good : (at : ℕ) (r : Reading Parsed) → told at r ≡ Ok None → NothingBad r
none_is_good at (Good parsed) e = tt
none_is_good at (Bad offset) e = cc
none_is_good at Short e = tt

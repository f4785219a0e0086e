-- A frame's head that was written is read again.
use Rattle.std.proofs.Common.{◌≡◌, ◌==◌, ◌||◌, ◌&&◌, not, ℕ, zero, suc, ◌+◌, ◌*◌, ◌<◌, ◌≤◌, ◌^◌, Bool, true, false, cond, List, [], ◌∷◌, ◌++◌, length, take, drop, refl, sym, ap, ◌∙◌, eq-eqb, arith}
use Rattle.std.proofs.lemmas.Bool.{le-leb, and_from}
use Rattle.std.proofs.lemmas.Bool.Decides.{nat_tests}
use Rattle.byteorder.specs.Endian.{little_number}
use Rattle.dd_geom.specs.declared.rect.TheConstants.{MOVE_BYTES, RECT_BYTES}
use Rattle.dd_pointer.specs.declared.kind.TheConstants.{MAX_BYTES}
use Rattle.dd_meta.specs.declared.buffer.TheConstants.{MAX_METADATA}
use Rattle.dd_acc.specs.declared.interval.TheConstants.{MAX_MOVES}
use Rattle.dd_coal.specs.declared.coalescing.TheConstants.{MAX_RECTS}
use Rattle.dd_calls.specs.declared.answers.FrameInfo.{FrameInfo}
use Rattle.dd_record.specs.Reading.{Good, ◌>>=◌, number}
use Rattle.dd_record.specs.Grammar.{zero_where, is_flag, last_present_of, last_mouse_of, accumulated_of, coalesced_of, protected_of, pointer_of, meta_of, shape_size_of, move_count_of, rect_count_of, info_of, head_of}
use Rattle.dd_record.specs.Writing.{head_bytes, KeepsInfo}
use Rattle.dd_record.proofs.ReadBack.{come_is, kept_good, number_is, coordinate_is, go}

byte_is : (at n : ℕ) (bytes : List ℕ) → at + 1 ≤ length bytes → take 1 (drop at bytes) ≡ n ∷ []
    → number at 1 bytes ≡ Good n
byte_is at n bytes within is =
    let same : n + 256 * 0 ≡ n = omega arith in
    ap (λ r. r >>= λ field. Good (little_number 1 field)) (come_is at 1 bytes (n ∷ []) within is) ∙ ap Good same

positive : (k : ℕ) → 1 ≤ k → (k == 0) ≡ false
positive k e = grind (arith, nat_tests)

zero_is : (earlier n : ℕ) → (1 ≤ n → 1 ≤ earlier) → zero_where earlier n ≡ true
zero_is zero zero e = refl
zero_is zero (suc n) e = absurd (let a : 1 ≤ 0 = e (omega arith) in omega arith)
zero_is (suc k) n e = ap (λ b. not b || n == 0) (positive (suc k) (omega arith))

flag_is : (b : Bool) → is_flag (cond b 1 0) ≡ true
flag_is true = refl
flag_is false = refl

flag_value : (b : Bool) → (cond b 1 0 == 1) ≡ b
flag_value true = refl
flag_value false = refl

coalesced_is : (b : Bool) (accumulated : ℕ) → (b ≡ true → 1 ≤ accumulated) → 1 ≤ cond b 1 0 → 1 ≤ accumulated
coalesced_is true accumulated e some = e refl
coalesced_is false accumulated e some = absurd (omega arith)

some_is : (m n : ℕ) → 1 ≤ m + n → not (m == 0 && n == 0) ≡ true
some_is zero zero e = absurd (omega arith)
some_is zero (suc n) e = ap (λ b. not (0 == 0 && b)) (positive (suc n) (omega arith))
some_is (suc m) n e = ap (λ b. not (b && n == 0)) (positive (suc m) (omega arith))

module _ (info : FrameInfo) (moves rects : ℕ) (rest : List ℕ) (keeps : KeepsInfo info) where
  abbrev bytes : List ℕ
  bytes = head_bytes info moves rects ++ rest

  long : 42 ≤ length bytes
  unfolding head_bytes
  long = omega arith

  accumulated_small : info.accumulated < 256 ^ 4
  accumulated_small = omega (arith, keeps.accumulated, keeps.last_present)

  last_present_is : last_present_of bytes ≡ Good info.last_present
  unfolding last_present_of head_bytes
  last_present_is =
      go _ _ info.last_present _
      (number_is 1 8 info.last_present bytes (omega (arith, keeps.last_present)) (omega (arith, long)) refl)
      (kept_good 1 _ _ (le-leb _ _ keeps.last_present))

  last_mouse_is : last_mouse_of info.last_present bytes ≡ Good info.last_mouse
  unfolding last_mouse_of head_bytes
  last_mouse_is =
      go _ _ info.last_mouse _
      (number_is 9 8 info.last_mouse bytes (omega (arith, keeps.last_mouse)) (omega (arith, long)) refl)
      (kept_good 9 _ _
      (and_from _ _ (le-leb _ _ keeps.last_mouse) (some_is info.last_present info.last_mouse keeps.some)))

  accumulated_is : accumulated_of info.last_present bytes ≡ Good info.accumulated
  unfolding accumulated_of head_bytes
  accumulated_is =
      go _ _ info.accumulated _
      (number_is 17 4 info.accumulated bytes accumulated_small (omega (arith, long)) refl)
      (kept_good 17 _ _ (and_from _ _ (and_from _ _
      (zero_is info.last_present info.accumulated (λ e. omega (arith, keeps.accumulated)))
      (zero_is info.accumulated info.last_present keeps.presents))
      (le-leb _ _ keeps.accumulated)))

  coalesced_read : coalesced_of info.accumulated bytes ≡ Good info.coalesced
  unfolding coalesced_of head_bytes
  coalesced_read =
      let n : ℕ = cond info.coalesced 1 0 in
      go _ _ n _ (byte_is 21 n bytes (omega (arith, long)) refl)
      (go _ _ n _
      (kept_good 21 _ _ (and_from _ _ (flag_is info.coalesced)
      (zero_is info.accumulated n (coalesced_is info.coalesced info.accumulated keeps.coalesced))))
      (ap Good (flag_value info.coalesced)))

  protected_read : protected_of bytes ≡ Good info.protected
  unfolding protected_of head_bytes
  protected_read =
      let n : ℕ = cond info.protected 1 0 in
      go _ _ n _ (byte_is 22 n bytes (omega (arith, long)) refl)
      (go _ _ n _ (kept_good 22 _ _ (flag_is info.protected)) (ap Good (flag_value info.protected)))

  pointer_read : pointer_of bytes ≡ Good info.pointer
  unfolding pointer_of head_bytes
  pointer_read =
      let p = info.pointer.position in
      let n : ℕ = cond info.pointer.visible 1 0 in
      go _ _ p.x _ (coordinate_is 23 p.x bytes keeps.x (omega (arith, long)) refl)
      (go _ _ p.y _ (coordinate_is 27 p.y bytes keeps.y (omega (arith, long)) refl)
      (go _ _ n _
      (go _ _ n _ (byte_is 31 n bytes (omega (arith, long)) refl) (kept_good 31 _ _ (flag_is info.pointer.visible)))
      (ap (λ (b : Bool). Good (record { position = p; visible = b })) (flag_value info.pointer.visible))))

  module _ (meta : info.meta_size ≡ MOVE_BYTES * moves + RECT_BYTES * rects) (few_moves : moves ≤ MAX_MOVES)
      (few_rects : rects ≤ MAX_RECTS) (few_bytes : info.shape_size ≤ MAX_BYTES) where
    meta_is : meta_of info.accumulated bytes ≡ Good info.meta_size
    unfolding meta_of head_bytes
    meta_is =
        let few : info.meta_size ≤ MAX_METADATA = omega (arith, meta, few_moves, few_rects) in
        go _ _ info.meta_size _
        (number_is 32 4 info.meta_size bytes (omega (arith, few)) (omega (arith, long)) refl)
        (kept_good 32 _ _ (and_from _ _ (le-leb _ _ few) (zero_is info.accumulated info.meta_size keeps.news)))

    shape_size_is : shape_size_of info.last_mouse bytes ≡ Good info.shape_size
    unfolding shape_size_of head_bytes
    shape_size_is =
        go _ _ info.shape_size _
        (number_is 36 4 info.shape_size bytes (omega (arith, few_bytes)) (omega (arith, long)) refl)
        (kept_good 36 _ _ (and_from _ _ (le-leb _ _ few_bytes) (zero_is info.last_mouse info.shape_size keeps.shape)))

    move_count_is : move_count_of info.meta_size bytes ≡ Good moves
    unfolding move_count_of head_bytes
    move_count_is =
        go _ _ moves _ (byte_is 40 moves bytes (omega (arith, long)) refl)
        (kept_good 40 _ _ (and_from _ _ (le-leb _ _ few_moves) (le-leb _ _ (omega (arith, meta)))))

    rect_count_is : rect_count_of info.meta_size moves bytes ≡ Good rects
    unfolding rect_count_of head_bytes
    rect_count_is =
        go _ _ rects _ (byte_is 41 rects bytes (omega (arith, long)) refl)
        (kept_good 41 _ _ (and_from _ _ (le-leb _ _ few_rects) (eq-eqb _ _ (sym meta))))

    info_is : info_of bytes ≡ Good info
    unfolding info_of
    info_is =
        go _ _ info.last_present _ last_present_is
        (go _ _ info.last_mouse _ last_mouse_is
        (go _ _ info.accumulated _ accumulated_is
        (go _ _ info.coalesced _ coalesced_read
        (go _ _ info.protected _ protected_read
        (go _ _ info.pointer _ pointer_read
        (go _ _ info.meta_size _ meta_is
        (go _ _ info.shape_size _ shape_size_is refl)))))))

    pub head_is : head_of bytes ≡ Good (record { info = info; moves = moves; rects = rects })
    unfolding head_of
    head_is = go _ _ info _ info_is (go _ _ moves _ move_count_is (go _ _ rects _ rect_count_is refl))

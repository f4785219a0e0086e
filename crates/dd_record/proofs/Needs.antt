-- Bytes are missing only where the last of a part's bytes hasn't come.
use Rattle.std.proofs.Common.{◌≡◌, ◌==◌, ℕ, zero, suc, ◌+◌, ◌*◌, ◌<◌, ◌≤◌, Bool, true, false, cond, nat_le, List, length, take, drop, refl, arith}
use Rattle.std.specs.Prelude.{⊤}
use Rattle.std.proofs.lemmas.Bool.{leb-false}
use Rattle.std.proofs.Math.Nat.{mul-suc}
use Rattle.dd_geom.specs.declared.rect.TheConstants.{MOVE_BYTES, RECT_BYTES}
use Rattle.dd_modes.specs.declared.modes.Mode.{Mode}
use Rattle.dd_record.specs.declared.layout.TheConstants.{FRAME_HEAD_BYTES, PIXEL_BYTES}
use Rattle.dd_record.specs.Reading.{Reading, Good, Bad, Short, ◌>>=◌, come, kept, number, fields}
use Rattle.dd_record.specs.Grammar.{last_present_of, last_mouse_of, accumulated_of, coalesced_of, protected_of, pointer_of, meta_of, shape_size_of, move_count_of, rect_count_of, info_of, head_of, move_at, moves_of, rect_at, rects_of, dirt_of, pixel_at}

module _ (bytes : List ℕ) where
  -- bytes are missing only where fewer than n have come
  abbrev pub Needs : {A : Type 0} → ℕ → Reading A → Type 0
  Needs n (Good x) = ⊤
  Needs n (Bad at) = ⊤
  Needs n Short = length bytes < n

  then : {A B : Type 0} (n : ℕ) (r : Reading A) (f : A → Reading B) → Needs n r → ((x : A) → Needs n (f x))
      → Needs n (r >>= f)
  then n (Good x) f first rest = rest x
  then n (Bad at) f first rest = tt
  then n Short f first rest = first

  more : {A : Type 0} (n m : ℕ) (r : Reading A) → n ≤ m → Needs n r → Needs m r
  more n m (Good x) le needs = tt
  more n m (Bad at) le needs = tt
  more n m Short le needs = omega (arith, le, needs)

  kept_needs : {A : Type 0} (n at : ℕ) (rule : Bool) (x : A) → Needs n (kept at rule x)
  unfolding kept
  kept_needs n at true x = tt
  kept_needs n at false x = tt

  come_needs : (at size : ℕ) → Needs (at + size) (come at size bytes)
  unfolding come
  come_needs at size = by_test (nat_le (at + size) (length bytes)) refl where
    by_test : (b : Bool) → nat_le (at + size) (length bytes) ≡ b
        → Needs (at + size) (cond b (Good (take size (drop at bytes))) Short)
    by_test true is = tt
    by_test false is = leb-false _ _ is

  pub pixel_needs : (at : ℕ) → Needs (at + PIXEL_BYTES) (pixel_at bytes at)
  unfolding pixel_at
  pixel_needs at = then _ _ _ (come_needs at PIXEL_BYTES) (λ field. kept_needs _ at _ _)

  -- a field and what is made of it
  read_needs : {A : Type 0} (n at size : ℕ) (f : List ℕ → Reading A) → at + size ≤ n
      → ((field : List ℕ) → Needs n (f field)) → Needs n (come at size bytes >>= f)
  read_needs n at size f le rest =
      then n (come at size bytes) f (more (at + size) n (come at size bytes) le (come_needs at size)) rest

  -- a number that has to keep a rule
  number_needs : (n at size : ℕ) (rule : ℕ → Bool) → at + size ≤ n
      → Needs n (number at size bytes >>= λ x. kept at (rule x) x)
  number_needs n at size rule le =
      then n (number at size bytes) _ (read_needs n at size _ le (λ field. tt)) (λ x. kept_needs n at (rule x) x)

  -- and a flag
  flag_needs : (n at size : ℕ) (rule : ℕ → Bool) → at + size ≤ n
      → Needs n (number at size bytes >>= λ x. kept at (rule x) x >>= λ x. Good (x == 1))
  flag_needs n at size rule le =
      then n (number at size bytes) _ (read_needs n at size _ le (λ field. tt)) (λ x.
      then n _ _ (kept_needs n at (rule x) x) (λ y. tt))

  pointer_needs : Needs FRAME_HEAD_BYTES (pointer_of bytes)
  unfolding pointer_of
  pointer_needs =
      then _ _ _ (read_needs _ 23 4 _ (omega arith) (λ field. tt)) (λ x.
      then _ _ _ (read_needs _ 27 4 _ (omega arith) (λ field. tt)) (λ y.
      then _ _ _ (number_needs _ 31 1 _ (omega arith)) (λ v. tt)))

  info_needs : Needs FRAME_HEAD_BYTES (info_of bytes)
  unfolding info_of last_present_of last_mouse_of accumulated_of coalesced_of protected_of meta_of shape_size_of
  info_needs =
      then _ _ _ (number_needs _ 1 8 _ (omega arith)) (λ last_present.
      then _ _ _ (number_needs _ 9 8 _ (omega arith)) (λ last_mouse.
      then _ _ _ (number_needs _ 17 4 _ (omega arith)) (λ accumulated.
      then _ _ _ (flag_needs _ 21 1 _ (omega arith)) (λ coalesced.
      then _ _ _ (flag_needs _ 22 1 _ (omega arith)) (λ protected.
      then _ _ _ pointer_needs (λ pointer.
      then _ _ _ (number_needs _ 32 4 _ (omega arith)) (λ meta.
      then _ _ _ (number_needs _ 36 4 _ (omega arith)) (λ shape. tt))))))))

  pub head_needs : Needs FRAME_HEAD_BYTES (head_of bytes)
  unfolding head_of move_count_of rect_count_of
  head_needs =
      then _ _ _ info_needs (λ info.
      then _ _ _ (number_needs _ 40 1 _ (omega arith)) (λ moves.
      then _ _ _ (number_needs _ 41 1 _ (omega arith)) (λ rects. tt)))

  -- several fields
  fields_need : {A : Type 0} (f : ℕ → Reading A) (size : ℕ) → ((at : ℕ) → Needs (at + size) (f at))
      → (at k : ℕ) → Needs (at + size * k) (fields f size at k)
  fields_need f size one at zero = tt
  fields_need f size one at (suc k) =
      let all : ℕ = at + size * suc k in
      let rest : Needs all (fields f size (at + size) k) =
      more (at + size + size * k) all (fields f size (at + size) k) (omega (arith, mul-suc size k))
      (fields_need f size one (at + size) k) in
      then all (f at) _ (more (at + size) all (f at) (omega (arith, mul-suc size k)) (one at)) (λ x.
      then all (fields f size (at + size) k) _ rest (λ xs. tt))

  move_needs : (mode : Mode) (at : ℕ) → Needs (at + MOVE_BYTES) (move_at mode bytes at)
  unfolding move_at
  move_needs mode at =
      then _ _ _ (read_needs _ at MOVE_BYTES _ (omega arith) (λ field. tt)) (λ m. kept_needs _ at _ m)

  rect_needs : (mode : Mode) (at : ℕ) → Needs (at + RECT_BYTES) (rect_at mode bytes at)
  unfolding rect_at
  rect_needs mode at =
      then _ _ _ (read_needs _ at RECT_BYTES _ (omega arith) (λ field. tt)) (λ r. kept_needs _ at _ r)

  pub moves_need : (mode : Mode) (k at : ℕ) → Needs (at + MOVE_BYTES * k) (moves_of mode k bytes at)
  moves_need mode k at = fields_need (move_at mode bytes) MOVE_BYTES (move_needs mode) at k

  pub dirt_needs : (mode : Mode) (k at : ℕ) → Needs (at + RECT_BYTES * k) (dirt_of mode k bytes at)
  unfolding dirt_of
  dirt_needs mode k at =
      then _ (rects_of mode k bytes at) _ (fields_need (rect_at mode bytes) RECT_BYTES (rect_needs mode) at k) (λ rects.
      kept_needs _ at _ rects)

  pub tag_needs : Needs 1 (number 0 1 bytes)
  tag_needs = read_needs 1 0 1 _ (omega arith) (λ field. tt)

-- What was read keeps its rules.
use Rattle.std.proofs.Common.{◌≡◌, ℕ, zero, suc, ◌+◌, ◌-◌, ◌*◌, ◌<◌, ◌≤◌, ◌^◌, Bool, true, false, List, [], ◌∷◌, length, refl, sym, ap, ◌∙◌, IsTrue, arith}
use Rattle.std.specs.List.{list_all, sum_by}
use Rattle.std.proofs.lemmas.List.Sums.{sum-map, sum_by-cons}
use Rattle.std.proofs.lemmas.Bool.{and_from, and_parts}
use Rattle.std.proofs.lemmas.Nat.{mul-le}
use Rattle.std.proofs.Math.Nat.{mul-suc}
use Rattle.dd_geom.specs.declared.rect.Rect.{Rect}
use Rattle.dd_geom.specs.declared.rect.TheConstants.{MAX_PIXELS}
use Rattle.dd_geom.specs.Rect.{IsSize, is_inside, place, points}
use Rattle.dd_geom.proofs.RectLemmas.{AreInside-sides}
use Rattle.dd_modes.specs.declared.modes.Mode.{Mode}
use Rattle.dd_record.specs.Reading.{Reading, Good, Bad, Short, ◌>>=◌, kept, fields}
use Rattle.dd_record.specs.Dirt.{are_inside, is_canonical, pixel_count}
use Rattle.dd_record.specs.Grammar.{rect_at, rects_of, dirt_of}

module _ {A B : Type 0} where
  -- where something was read, so was each part of it
  pub parts : (r : Reading A) (f : A → Reading B) (y : B) → (r >>= f) ≡ Good y
      → (x : A) × (r ≡ Good x) × (f x ≡ Good y)
  parts (Good x) f y e = (x, refl, e)
  parts (Bad at) f y e = cc
  parts Short f y e = cc

module _ {A : Type 0} where
  -- a value that was let pass keeps its rule
  pub kept_is : (at : ℕ) (rule : Bool) (x y : A) → kept at rule x ≡ Good y → (rule ≡ true) × (x ≡ y)
  unfolding kept
  kept_is at true x y e = (refl, cc)
  kept_is at false x y e = cc

  -- each of several fields keeps a rule that one keeps, and there are as many as were asked for
  pub all_kept :
      (f : ℕ → Reading A) (p : A → Bool) → ((at : ℕ) (x : A) → f at ≡ Good x → p x ≡ true)
      → (size at n : ℕ) (xs : List A) → fields f size at n ≡ Good xs → list_all p xs ≡ true
  all_kept f p one size at zero [] e = refl
  all_kept f p one size at zero (x ∷ xs) e = cc
  all_kept f p one size at (suc n) xs e =
      let a = parts (f at) (λ x. fields f size (at + size) n >>= λ ys. Good (x ∷ ys)) xs e in
      let b = parts (fields f size (at + size) n) (λ ys. Good (a.0 ∷ ys)) xs a.2 in
      let is : a.0 ∷ b.0 ≡ xs = cc in
      rw (← is) (and_from _ _ (one at a.0 a.1) (all_kept f p one size (at + size) n b.0 b.1))

rect_inside : (mode : Mode) (bytes : List ℕ) (at : ℕ) (r : Rect) → rect_at mode bytes at ≡ Good r
    → is_inside r mode.width mode.height ≡ true
unfolding rect_at
rect_inside mode bytes at r e =
    let a = parts _ (λ r. kept at (is_inside r mode.width mode.height) r) r e in
    let k = kept_is at (is_inside a.0 mode.width mode.height) a.0 r a.2 in
    rw (← k.1) k.0

pub rects_inside : (mode : Mode) (n : ℕ) (bytes : List ℕ) (at : ℕ) (rects : List Rect)
    → rects_of mode n bytes at ≡ Good rects → IsTrue (are_inside mode rects)
rects_inside mode n bytes at rects e =
    all_kept (rect_at mode bytes) (λ r. is_inside r mode.width mode.height) (rect_inside mode bytes) _ at n rects e

-- ---- the dirty rectangles have few points

pub length-fields : {A : Type 0} (f : ℕ → Reading A) (size at n : ℕ) (xs : List A) → fields f size at n ≡ Good xs
    → length xs ≡ n
length-fields f size at zero [] e = refl
length-fields f size at zero (x ∷ xs) e = cc
length-fields f size at (suc n) xs e =
    let a = parts (f at) (λ x. fields f size (at + size) n >>= λ ys. Good (x ∷ ys)) xs e in
    let b = parts (fields f size (at + size) n) (λ ys. Good (a.0 ∷ ys)) xs a.2 in
    let is : a.0 ∷ b.0 ≡ xs = cc in
    ap length (sym is) ∙ ap suc (length-fields f size (at + size) n b.0 b.1)

points_few : (r : Rect) (w h : ℕ) → IsSize w h → is_inside r w h ≡ true → points r ≤ MAX_PIXELS
points_few r w h size inside =
    let s = AreInside-sides r w h inside in
    let across : place r.right - place r.left ≤ w = omega (arith, s.right) in
    let down : place r.bottom - place r.top ≤ h = omega (arith, s.bottom) in
    omega (arith, mul-le (place r.right - place r.left) (place r.bottom - place r.top) w h across down, size.pixels)

pixels_few : (mode : Mode) (rects : List Rect) → IsSize mode.width mode.height → are_inside mode rects ≡ true
    → sum_by points rects ≤ MAX_PIXELS * length rects
pixels_few mode [] size inside = omega arith
pixels_few mode (r ∷ rects) size inside =
    let both = and_parts (is_inside r mode.width mode.height) (are_inside mode rects) inside in
    let first = points_few r mode.width mode.height size both.0 in
    let others = pixels_few mode rects size both.1 in
    omega (arith, mul-suc MAX_PIXELS (length rects), sum_by-cons points r rects, first, others)

pub dirt_few : (mode : Mode) (n : ℕ) (bytes : List ℕ) (at : ℕ) (rects : List Rect) → IsSize mode.width mode.height
    → n < 256 → dirt_of mode n bytes at ≡ Good rects → pixel_count rects ≤ 2 ^ 32
unfolding dirt_of
dirt_few mode n bytes at rects size few e =
    let rule : List Rect → Bool = is_canonical mode.width mode.height in
    let a = parts (rects_of mode n bytes at) (λ rects. kept at (rule rects) rects) rects e in
    let k = kept_is at (rule a.0) a.0 rects a.2 in
    let count = length-fields (rect_at mode bytes) _ at n a.0 a.1 in
    let inside = rects_inside mode n bytes at a.0 a.1 in
    let sum = pixels_few mode a.0 size inside in
    rw (← k.1) (omega (arith, sum-map points a.0, sum, count, few))

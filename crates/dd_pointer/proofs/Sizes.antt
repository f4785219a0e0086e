-- What parts without a fault say of a shape's size and of its bytes.
use Rattle.std.proofs.Common.{◌≡◌, ℕ, ◌+◌, ◌*◌, ◌/◌, ◌<◌, ◌≤◌, Bool, ◌&&◌, true, false, not, cond, nat_le, List, length, Option, Some, None, ◌==◌, refl, ap, ◌∙◌, arith}
use Rattle.std.proofs.lemmas.Bool.{and_parts}
use Rattle.std.proofs.lemmas.Bool.Decides.{nat_tests}
use Rattle.std.proofs.lemmas.Nat.{mul-le, row_fits_turned}
use Rattle.dd_pointer.specs.declared.kind.Kind.{Kind}
use Rattle.dd_pointer.specs.declared.kind.Kind.TheVariants.{Monochrome, Color, MaskedColor}
use Rattle.dd_pointer.specs.declared.kind.TheConstants.{MAX_WIDTH, MAX_MASK_HEIGHT, MAX_BYTES}
use Rattle.dd_pointer.specs.Shape.{pitch, required, is_height, is_size, shape_fault, number, kind_of, read_as, unless, ShapeIsRead}
use borrow.Author.Tests.{leb-true, eqb-true}

no_fault :
    {A : Type 0} (a b : Bool) (x y : A) (z : Option A) → cond (not a) (Some x) (cond (not b) (Some y) z) ≡ None
    → (a ≡ true) × (b ≡ true)
no_fault true true x y z e = (refl, refl)
no_fault true false x y z e = cc
no_fault false b x y z e = cc

-- a size that the kind may have, and as many bytes as it asks for
pub record HasSize (kind : Kind) (w h : ℕ) (bytes : List ℕ) : Type 0 where
  pub size : is_size kind w h ≡ true
  pub wide : 1 ≤ w
  pub width : w ≤ MAX_WIDTH
  pub height : is_height kind h ≡ true
  pub whole : length bytes ≡ pitch kind w * h

pub has_size : (kind : Kind) (w h : ℕ) (bytes : List ℕ) → shape_fault kind w h bytes ≡ None → HasSize kind w h bytes
unfolding shape_fault
has_size kind w h bytes e =
    let both = no_fault (is_size kind w h) (length bytes == required kind w h) _ _ _ e in
    let size = and_parts (nat_le 1 w && nat_le w MAX_WIDTH) (is_height kind h) both.0 in
    let wide = and_parts (nat_le 1 w) (nat_le w MAX_WIDTH) size.0 in
    record {
      size = both.0;
      wide = leb-true _ _ wide.0;
      width = leb-true _ _ wide.1;
      height = size.1;
      whole = eqb-true _ _ both.1;
    }

-- a shape of a size that its kind may have has few bytes
pub required_few : (kind : Kind) (w h : ℕ) → is_size kind w h ≡ true → pitch kind w * h ≤ MAX_BYTES
required_few Monochrome w h e =
    let both = and_parts (nat_le 1 w && nat_le w MAX_WIDTH) (is_height Monochrome h) e in
    let across : (w + 7) / 8 ≤ 32 = grind (arith, nat_tests) in
    let down : h ≤ 512 = grind (arith, nat_tests) in
    omega (arith, mul-le ((w + 7) / 8) h 32 512 across down)
required_few Color w h e =
    let across : 4 * w ≤ 1024 = grind (arith, nat_tests) in
    let down : h ≤ 256 = grind (arith, nat_tests) in
    omega (arith, mul-le (4 * w) h 1024 256 across down)
required_few MaskedColor w h e =
    let across : 4 * w ≤ 1024 = grind (arith, nat_tests) in
    let down : h ≤ 256 = grind (arith, nat_tests) in
    omega (arith, mul-le (4 * w) h 1024 256 across down)

-- the kind of a kind's number is the kind
pub kind_of-number : (kind : Kind) → kind_of (number kind) ≡ Some kind
kind_of-number Monochrome = refl
kind_of-number Color = refl
kind_of-number MaskedColor = refl

pub shape_is_read : ShapeIsRead
shape_is_read s e =
    ap (λ k. read_as k s.width s.height s.hot s.bytes) (kind_of-number s.kind)
    ∙ ap (λ fault. unless fault s) e

-- and it has some
pub required_some : (kind : Kind) (w h : ℕ) → is_size kind w h ≡ true → 1 ≤ pitch kind w * h
required_some Monochrome w h e =
    let both = and_parts (nat_le 1 w && nat_le w MAX_WIDTH) (is_height Monochrome h) e in
    let across : 1 ≤ (w + 7) / 8 = grind (arith, nat_tests) in
    let down : 1 ≤ h = grind (arith, nat_tests) in
    omega (arith, mul-le 1 1 ((w + 7) / 8) h across down)
required_some Color w h e =
    let across : 1 ≤ 4 * w = grind (arith, nat_tests) in
    let down : 1 ≤ h = grind (arith, nat_tests) in
    omega (arith, mul-le 1 1 (4 * w) h across down)
required_some MaskedColor w h e =
    let across : 1 ≤ 4 * w = grind (arith, nat_tests) in
    let down : 1 ≤ h = grind (arith, nat_tests) in
    omega (arith, mul-le 1 1 (4 * w) h across down)

-- a kind allows no more rows than two masks have
pub height_few : (kind : Kind) (h : ℕ) → is_height kind h ≡ true → h ≤ MAX_MASK_HEIGHT
height_few Monochrome h e = grind (arith, nat_tests)
height_few Color h e = grind (arith, nat_tests)
height_few MaskedColor h e = grind (arith, nat_tests)

-- a kind's number is small
pub number_small : (kind : Kind) → number kind ≤ 4
number_small Monochrome = omega arith
number_small Color = omega arith
number_small MaskedColor = omega arith

-- the byte of a pixel's bit lies in a mask
pub mask_inside :
    (kind : Kind) (w h : ℕ) (bytes : List ℕ) (x y : ℕ) → kind ≡ Monochrome → shape_fault kind w h bytes ≡ None
    → x < w → y < h → y * pitch kind w + x / 8 < length bytes
mask_inside kind w h bytes x y mono e across down =
    let s = has_size kind w h bytes e in
    let wide : pitch kind w ≡ (w + 7) / 8 = ap (λ k. pitch k w) mono in
    let row : y * pitch kind w + pitch kind w ≤ pitch kind w * h =
    row_fits_turned y (pitch kind w) (pitch kind w) h down (omega arith) in
    let inside : x / 8 < (w + 7) / 8 = omega arith in
    omega (arith, s.whole)

-- the four bytes of a pixel lie among the bytes
pub pixel_inside :
    (kind : Kind) (w h : ℕ) (bytes : List ℕ) (x y : ℕ) → pitch kind w ≡ 4 * w → shape_fault kind w h bytes ≡ None
    → x < w → y < h → y * pitch kind w + 4 * x + 4 ≤ length bytes
pixel_inside kind w h bytes x y wide e across down =
    let s = has_size kind w h bytes e in
    let row : y * pitch kind w + pitch kind w ≤ pitch kind w * h =
    row_fits_turned y (pitch kind w) (pitch kind w) h down (omega arith) in
    omega (arith, s.whole)

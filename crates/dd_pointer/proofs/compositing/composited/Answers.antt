-- What a pixel asks for lies among the bytes.
use Rattle.std.proofs.Common.{◌≡◌, ◌+◌, ◌/◌, ap, sym, ◌∙◌, arith}
use Rattle.dd_pointer.specs.Shape.{pitch}
use Rattle.dd_pointer.specs.Compositing.{rows_covered}
use Rattle.dd_pointer.proofs.Sizes.{mask_inside, pixel_inside}
use Rattle.dd_pointer.proofs.compositing.composited.Goals as goal

pub mask_bit-and-requires : goal.mask_bit-and-requires
mask_bit-and-requires c =
    let s = c.args.shape.now in
    let mono = sym c.kind.ensures.kind ∙ c.in-Monochrome.is in
    let rows : rows_covered s.kind s.height ≡ s.height / 2 = ap (λ k. rows_covered k s.height) mono in
    mask_inside s.kind s.width s.height s.bytes c.args.x c.args.y mono c.kind.ensures.shape c.requires.x (omega arith)

pub mask_bit-xor-requires : goal.mask_bit-xor-requires
mask_bit-xor-requires c =
    let s = c.args.shape.now in
    let mono = sym c.kind.ensures.kind ∙ c.in-Monochrome.is in
    let rows : rows_covered s.kind s.height ≡ s.height / 2 = ap (λ k. rows_covered k s.height) mono in
    mask_inside s.kind s.width s.height s.bytes c.args.x (c.args.y + c.rows.result) mono c.kind.ensures.shape
    c.requires.x (omega arith)

pub pixel-requires : goal.pixel-requires
pixel-requires c =
    let s = c.args.shape.now in
    let kind = sym c.kind.ensures.kind ∙ c.in-Color.is in
    let rows : rows_covered s.kind s.height ≡ s.height = ap (λ k. rows_covered k s.height) kind in
    pixel_inside s.kind s.width s.height s.bytes c.args.x c.args.y (ap (λ k. pitch k s.width) kind)
    c.kind.ensures.shape c.requires.x (omega arith)

pub pixel-requires-in-MaskedColor : goal.pixel-requires-in-MaskedColor
pixel-requires-in-MaskedColor c =
    let s = c.args.shape.now in
    let kind = sym c.kind.ensures.kind ∙ c.in-MaskedColor.is in
    let rows : rows_covered s.kind s.height ≡ s.height = ap (λ k. rows_covered k s.height) kind in
    pixel_inside s.kind s.width s.height s.bytes c.args.x c.args.y (ap (λ k. pitch k s.width) kind)
    c.kind.ensures.shape c.requires.x (omega arith)

-- What is parsed is the number that the word writes.
use Rattle.std.proofs.Common.{◌≡◌, true, ◌∙◌, sym, ap, arith}
use Rattle.dd_prog.specs.Options.{has_no_leading_0, within}
use Rattle.dd_prog.proofs.Numerals.{parsed}
use Rattle.dd_prog.proofs.options.numeral.Goals as goal

pub returns : goal.returns
returns c =
    let starts : has_no_leading_0 c.args.word.now ≡ true =
    sym c.has_no_leading_0.ensures ∙ c.if-not-has_no_leading_0.false
    in
    c.within.ensures
    ∙ ap (within c.args.least c.args.most) c.ok.ensures.value
    ∙ parsed c.args.least c.args.most c.args.word.now c.parse.result starts (omega (arith, c.ranges.most))
    c.parse.ensures.value.0

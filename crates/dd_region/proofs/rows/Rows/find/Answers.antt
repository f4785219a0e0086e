use Rattle.std.proofs.Common.{◌<◌, ◌+◌, subst, arith}
use Rattle.std.proofs.lemmas.List.{get_or_read}
use Rattle.dd_region.specs.declared.rows.Band.{Band}
use Rattle.dd_region.specs.Rows.{ArePassed}
use Rattle.dd_region.proofs.BandLemmas.{passed_within, passed_more}
use Rattle.dd_region.proofs.rows.Rows.find.Goals as goal

pub loop-band-init : goal.loop-band-init
loop-band-init c = record {
  passed = c.requires.passed;
  later = omega arith;
  within = passed_within c.args.self.now.bands.items c.args.from c.args.y c.requires.passed c.requires.row;
}

pub loop-band-preserved : goal.loop-band-preserved
loop-band-preserved c =
    let bands = c.args.self.now.bands.items in
    let more : ArePassed c.args.self.now (c.loop-band.band + 1) c.args.y =
    passed_more bands c.loop-band.band c.args.y c.index.result.now c.loop-band.invariant.passed
    c.loop-band.invariant.within c.index.ensures c.loop-band-test.true in
    record {
      passed = more;
      later = omega (arith, c.loop-band.invariant.later);
      within = passed_within bands (c.loop-band.band + 1) c.args.y more c.requires.row;
    }

pub returns-clause-found : goal.returns-clause-found
returns-clause-found c d =
    let same = get_or_read c.args.self.now.bands.items c.loop-band.band c.index.result.now c.loop-band.invariant.within
    c.index.ensures d in
    subst (λ (v : Band). c.args.y < v.bottom) same c.loop-band-test.false

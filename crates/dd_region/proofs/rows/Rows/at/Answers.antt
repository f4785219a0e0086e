use Rattle.std.proofs.Common.{arith, ◌≡◌, ◌≤◌, ◌<◌, ℕ, sym, ap, ◌∙◌, subst}
use Rattle.dd_region.specs.declared.rows.Band.{Band}
use Rattle.dd_region.specs.Rows.{band_runs, row_at}
use Rattle.dd_region.proofs.BandLemmas.{row_at-band, bottom_within}
use Rattle.dd_region.proofs.rows.Rows.at.Goals as goal

pub returns-clause-runs : goal.returns-clause-runs
returns-clause-runs c =
    let s = c.args.self.now in
    let b = c.index-rows.result.now in
    let found = c.find-band.ensures in
    let below : c.args.y < b.bottom =
    subst (λ (v : Band). c.args.y < v.bottom) (sym c.index-rows.ensures) (found.found b) in
    ap (λ rs. band_runs rs b) c.deref.ensures.value
    ∙ sym (row_at-band s c.find-band.result c.args.y c.args.y b found.within found.passed c.index-rows.ensures
    (omega arith) below)

pub returns-clause-within : goal.returns-clause-within
returns-clause-within c =
    bottom_within c.args.self.now.bands.items c.find-band.result c.index-rows.result.now c.find-band.ensures.within
    c.index-rows.ensures

pub returns-clause-same : goal.returns-clause-same
returns-clause-same c z p q =
    let s = c.args.self.now in
    let b = c.index-rows.result.now in
    let found = c.find-band.ensures in
    let at : (r : ℕ) → c.args.y ≤ r → r < b.bottom → row_at s r ≡ band_runs s.runs.items b =
    λ r a l. row_at-band s c.find-band.result c.args.y r b found.within found.passed c.index-rows.ensures a l in
    at z p q ∙ sym (at c.args.y (omega arith) (omega arith))

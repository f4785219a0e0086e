use Rattle.std.proofs.Common.{◌++◌, ◌∷◌, [], map, arith, ap, ◌∙◌, append_assoc}
use Rattle.std.specs.List.{slice_range}
use Rattle.dd_region.specs.Carry.{moved_band}
use Rattle.dd_region.proofs.CarryLemmas.{HasRowsOf-carried}
use Rattle.dd_region.proofs.carry.carry.Goals as goal

pub returns : goal.returns
returns c =
    let was = c.args.new.now.bands.items in
    let old = c.args.old.now.bands.items in
    let s = c.span_of-span.result in
    let base = c.len-base.result in
    let first = c.find-first.result in
    let last = c.find-last.result in
    HasRowsOf-carried c.args.old.now c.args.new.now _ s base first last c.args.to c.index-end.result.now
    (record {
      rows = c.requires.rows;
      before = c.requires.new;
      deep = omega arith;
      above = λ k d p q. omega (arith, c.find-first.ensures.passed k d p q, c.requires.start);
      order = c.find-last.ensures.later;
      inside = c.find-last.ensures.within;
      passed = c.find-last.ensures.passed;
      found = c.find-last.ensures.found;
      is_last = c.index-end.ensures;
      within = c.span_of-span.ensures.within;
      all = c.span_of-span.ensures.all;
      base_is = omega arith;
      runs_are = c.in_ok-extend_from_slice.ensures.items
          ∙ ap (λ rs. c.args.new.now.runs.items ++ slice_range rs s.start s.end) c.deref.ensures.value;
      bands_are = c.in_ok-push.ensures.items
          ∙ ap (λ bs. bs ++ c.moved.result ∷ [])
          (c.in_ok-push_bands.ensures
          ∙ ap (λ bs. was ++ map (moved_band s.start base) (slice_range bs first last)) c.deref-2.ensures.value)
          ∙ ap (λ b. was ++ map (moved_band s.start base) (slice_range old first last) ++ b ∷ []) c.moved.ensures
          ∙ append_assoc was (map (moved_band s.start base) (slice_range old first last)) _;
    })

use Rattle.std.proofs.Common.{ℕ, List, map, ◌++◌, ◌∷◌, [], ◌∙◌, sym, ap, zero-add}
use Rattle.std.specs.List.{range_with_len}
use Rattle.std.proofs.lemmas.List.FromFn.{map-range_with_len_more}
use Rattle.dd_geom.specs.Grid.{row}
use Rattle.dd_dup.proofs.calls.rows_of.Goals as goal

pub loop-y-preserved : goal.loop-y-preserved
loop-y-preserved c =
    let before : List (List ℕ) = map (row c.args.surface.now) (range_with_len 0 c.loop-y.y) in
    let last : List ℕ = c.from_vec.result in
    c.in_ok-push.ensures.items
    ∙ ap (λ (xs : List (List ℕ)). xs ++ last ∷ []) c.loop-y.invariant
    ∙ ap (λ (x : List ℕ). before ++ x ∷ []) (c.from_vec.ensures ∙ c.in_ok-row.ensures.items ∙ c.row.ensures.row)
    ∙ sym (map-range_with_len_more (row c.args.surface.now) 0 c.loop-y.y c.loop-y.y (zero-add c.loop-y.y))

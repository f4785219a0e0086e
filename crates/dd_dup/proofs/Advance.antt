-- What a frame tells rebuilds what is seen of the picture brought forward.
use Rattle.std.proofs.Common.{◌≡◌, ℕ, ◌+◌, Bool, true, false, ◌||◌, List, [], ◌∷◌, refl, sym, ap, ◌∙◌, subst, if◌then◌else◌, cond, arith}
use Rattle.std.specs.List.{list_any, count_by}
use Rattle.std.proofs.lemmas.List.Sums.{sum_by-cons}
use Rattle.dd_geom.specs.declared.rect.Rect.{Rect}
use Rattle.dd_geom.specs.Rect.{has}
use Rattle.dd_geom.specs.Grid.{Grid, grid}
use Rattle.dd_grid.specs.Cell.{Cell}
use Rattle.dd_grid.specs.Drawing.{seen}
use Rattle.dd_bits.specs.Area.{is_in}
use Rattle.dd_bits.specs.CanonicalList.{canonical_list}
use Rattle.dd_bits.proofs.Cover.{count_by-canonical_list}
use Rattle.dd_ops.specs.declared.operations.Op.{Op}
use Rattle.dd_acc.specs.Effects.{all_effects, moves, dirt, is_coalesced, presents_fit, any_reaches, drawn_afresh}
use Rattle.dd_acc.specs.Rebuild.{any_has, rebuild, HasDrawn}
use Rattle.dd_acc.proofs.Honest.{drawn-dirt, honest}
use Rattle.dd_acc.proofs.Rebuilding.{rebuilds, width-presents, height-presents}
use Rattle.dd_log.specs.declared.events.Entry.{Entry}
use Rattle.dd_log.specs.History.{entries_fit}
use Rattle.dd_log.specs.Picture.{presents, shown}
use Rattle.dd_dup.specs.News.{moves_of, dirt_of}
use Rattle.dd_dup.proofs.Entries.{presents-fit, shown-presents}

-- one of the rectangles has a point exactly where the set does
any_step : (here b later : Bool) (n : ℕ) → ((c : Bool) → n ≡ (if c then 1 else 0) → later ≡ c)
    → cond here 1 0 + n ≡ (if b then 1 else 0) → (here || later) ≡ b
any_step true true later n ih e = refl
any_step true false later n ih e = absurd (omega arith)
any_step false true later n ih e = ih true (omega arith)
any_step false false later n ih e = ih false (omega arith)

any_from_count : (p : Rect → Bool) (xs : List Rect) (b : Bool) → count_by p xs ≡ (if b then 1 else 0)
    → list_any p xs ≡ b
any_from_count p [] true e = let f : 0 ≡ 1 = e in absurd (omega (arith, f))
any_from_count p [] false e = refl
any_from_count p (x ∷ xs) b e =
    any_step (p x) b (list_any p xs) (count_by p xs) (any_from_count p xs)
    (sym (sum_by-cons (λ y. cond (p y) 1 0) x xs) ∙ e)

any_has-list : (g : Grid Bool) (x y : ℕ) → any_has (canonical_list g) x y ≡ is_in g x y
any_has-list g x y = any_from_count (λ r. has r x y) (canonical_list g) (is_in g x y) (count_by-canonical_list g x y)

pub width-shown : (p : Grid Cell) (es : List Entry) → (shown p es).width ≡ p.width
width-shown p es = ap (λ (q : Grid Cell). q.width) (shown-presents es p) ∙ width-presents (presents es) p

pub height-shown : (p : Grid Cell) (es : List Entry) → (shown p es).height ≡ p.height
height-shown p es = ap (λ (q : Grid Cell). q.height) (shown-presents es p) ∙ height-presents (presents es) p

-- the rectangles have each point that was drawn afresh
has_drawn : (w h : ℕ) (ps : List (List Op)) → presents_fit w h ps ≡ true
    → HasDrawn w h ps (canonical_list (dirt w h ps))
has_drawn w h ps fit x y across down t = any_has-list (dirt w h ps) x y ∙ drawn-dirt w h ps x y fit across down t

-- the moves drawn, and the dirty points copied from the newer surface
pub rebuild-news :
    (p : Grid Cell) (es : List Entry) → entries_fit p.width p.height es ≡ true
    → rebuild (seen p) (moves_of es) (dirt_of p.width p.height es) (seen (shown p es)) ≡ seen (shown p es)
unfolding dirt_of
rebuild-news p es fit =
    let ps = presents es in
    let rects = canonical_list (dirt p.width p.height ps) in
    let fits = presents-fit p.width p.height es fit in
    subst (λ (q : Grid Cell). rebuild (seen p) (moves ps) rects (seen q) ≡ seen q) (sym (shown-presents es p))
    (rebuilds p ps rects fits (has_drawn p.width p.height ps fits))

-- a point of a dirty rectangle is where an operation drew
pub reached-news :
    (w h : ℕ) (es : List Entry) (x y : ℕ) → is_coalesced w h (presents es) ≡ false → entries_fit w h es ≡ true
    → any_has (dirt_of w h es) x y ≡ true → any_reaches (presents es) x y ≡ true
unfolding dirt_of
reached-news w h es x y exact fit t =
    (honest w h (presents es) (presents-fit w h es fit)).reached exact x y
    (sym (any_has-list (dirt w h (presents es)) x y) ∙ t)

-- and the dirty rectangles are those of what all effects draw afresh
pub exact-news :
    (w h : ℕ) (es : List Entry) → is_coalesced w h (presents es) ≡ false → entries_fit w h es ≡ true
    → dirt_of w h es ≡ canonical_list (grid w h (drawn_afresh (all_effects (presents es))))
unfolding dirt_of
exact-news w h es exact fit = ap canonical_list ((honest w h (presents es) (presents-fit w h es fit)).exact exact)

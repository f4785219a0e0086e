-- What is seen follows the entries, and what stands before an entry that draws the whole surface doesn't matter.
use Rattle.std.proofs.Common.{◌≡◌, ℕ, ◌<◌, ◌+◌, ◌-◌, ℤ, pos, int_le, int_lt, Bool, true, false, ◌&&◌, ◌||◌, cond, List, [], ◌∷◌, ◌++◌, length, take, drop, get_or, Option, None, Some, refl, sym, ap, ◌∙◌, arith}
use Rattle.std.specs.List.{list_all}
use Rattle.std.proofs.lemmas.Bool.{and_parts, and_from, false≢true}
use Rattle.std.proofs.lemmas.List.{take_more, drop_more, take_all, take-append-drop, length-drop}
use Rattle.std.proofs.lemmas.List.Folds.{list_all-append}
use Rattle.std.proofs.lemmas.List.Sums.{fold-append, fold_push}
use Rattle.std.proofs.lemmas.Int.{ints}
use Rattle.dd_geom.specs.declared.rect.Rect.{Rect}
use Rattle.dd_geom.specs.Rect.{has}
use Rattle.dd_geom.specs.Grid.{Grid, grid}
use Rattle.dd_geom.proofs.RectLemmas.{has_is_covers, and_assoc}
use Rattle.dd_geom.proofs.GridLemmas.{grid_from_agree}
use Rattle.dd_grid.specs.Cell.{Cell}
use Rattle.dd_grid.specs.Drawing.{seen, colour_at, image_at}
use Rattle.dd_ops.specs.declared.operations.Op.{Op}
use Rattle.dd_ops.specs.declared.operations.Op.TheVariants.{Fill, Blit, Cover, Scroll}
use Rattle.dd_ops.specs.Operations.{seen_drawn_by, seen_drawn}
use Rattle.dd_ops.proofs.Seen.{seen-drawn}
use Rattle.dd_log.specs.declared.events.Entry.{Entry}
use Rattle.dd_log.specs.Events.{present_of}
use Rattle.dd_log.specs.History.{event_fits, entries_fit}
use Rattle.dd_log.specs.Picture.{drawn_if, shown, shown_after}
use Rattle.dd_dup.specs.Seen.{seen_if, seen_after, seen_shown, spans_all, is_all, draws_all, some_draws_all, present_draws_all, event_draws_all}

-- ---- what is seen follows

seen-if : (p : Grid Cell) (o : Option (List Op)) → seen (drawn_if p o) ≡ seen_if (seen p) o
seen-if p None = refl
seen-if p (Some ops) = seen-drawn p ops

pub seen-shown : (p : Grid Cell) (es : List Entry) → seen (shown p es) ≡ seen_shown (seen p) es
seen-shown p [] = refl
seen-shown p (e ∷ es) =
    seen-shown (shown_after p e.event) es ∙ ap (λ s. seen_shown s es) (seen-if p (present_of e.event))

pub seen_more : (s t : Grid ℕ) (es : List Entry) (k : ℕ) (e : Entry) → k < length es → e ≡ get_or es k e
    → t ≡ seen_shown s (take k es) → seen_after t e.event ≡ seen_shown s (take (k + 1) es)
seen_more s t es k e within is so_far =
    ap (λ g. seen_after g e.event) so_far
    ∙ sym (fold_push (λ g (x : Entry). seen_after g x.event) s (take k es) e)
    ∙ ap (λ xs. seen_shown s (take k es ++ xs ∷ [])) is
    ∙ ap (seen_shown s) (sym (take_more es k e within))

-- ---- sizes stay

width-by : (s : Grid ℕ) (op : Op) → (seen_drawn_by s op).width ≡ s.width
width-by s (Fill rect colour) = refl
width-by s (Blit rect colours) = refl
width-by s (Cover rect colours) = refl
width-by s (Scroll mv) = refl

height-by : (s : Grid ℕ) (op : Op) → (seen_drawn_by s op).height ≡ s.height
height-by s (Fill rect colour) = refl
height-by s (Blit rect colours) = refl
height-by s (Cover rect colours) = refl
height-by s (Scroll mv) = refl

width-drawn : (s : Grid ℕ) (ops : List Op) → (seen_drawn s ops).width ≡ s.width
width-drawn s [] = refl
width-drawn s (op ∷ ops) = width-drawn (seen_drawn_by s op) ops ∙ width-by s op

height-drawn : (s : Grid ℕ) (ops : List Op) → (seen_drawn s ops).height ≡ s.height
height-drawn s [] = refl
height-drawn s (op ∷ ops) = height-drawn (seen_drawn_by s op) ops ∙ height-by s op

width-if : (s : Grid ℕ) (o : Option (List Op)) → (seen_if s o).width ≡ s.width
width-if s None = refl
width-if s (Some ops) = width-drawn s ops

height-if : (s : Grid ℕ) (o : Option (List Op)) → (seen_if s o).height ≡ s.height
height-if s None = refl
height-if s (Some ops) = height-drawn s ops

width-shown : (s : Grid ℕ) (es : List Entry) → (seen_shown s es).width ≡ s.width
width-shown s [] = refl
width-shown s (e ∷ es) = width-shown (seen_after s e.event) es ∙ width-if s (present_of e.event)

height-shown : (s : Grid ℕ) (es : List Entry) → (seen_shown s es).height ≡ s.height
height-shown s [] = refl
height-shown s (e ∷ es) = height-shown (seen_after s e.event) es ∙ height-if s (present_of e.event)

-- ---- drawing over all

-- two surfaces of one size
abbrev AreLike : ℕ → ℕ → Grid ℕ → Grid ℕ → Type 0
AreLike w h s t = (s.width ≡ w) × (s.height ≡ h) × (t.width ≡ w) × (t.height ≡ h)

span_has : (from to : ℤ) (n x : ℕ) → spans_all from to n ≡ true → x < n
    → (int_le from (pos x) && int_lt (pos x) to) ≡ true
span_has from to n x all within = grind (arith, ints)

all_has : (w h : ℕ) (r : Rect) (x y : ℕ) → is_all w h r ≡ true → x < w → y < h → has r x y ≡ true
all_has w h r x y all across down =
    let both = and_parts (spans_all r.left r.right w) (spans_all r.top r.bottom h) all in
    has_is_covers r x y
    ∙ and_assoc (int_le r.left (pos x) && int_lt (pos x) r.right) (int_le r.top (pos y)) (int_lt (pos y) r.bottom)
    ∙ and_from _ _ (span_has r.left r.right w x both.0 across) (span_has r.top r.bottom h y both.1 down)

-- each point has a new colour, whatever was there
drawn_over : (w h : ℕ) (s t : Grid ℕ) (r : Rect) (f : ℕ → ℕ → ℕ) → AreLike w h s t → is_all w h r ≡ true
    → grid s.width s.height (λ x y. cond (has r x y) (f x y) (colour_at s x y))
    ≡ grid t.width t.height (λ x y. cond (has r x y) (f x y) (colour_at t x y))
drawn_over w h s t r f like all =
    let of_s = λ (x y : ℕ). cond (has r x y) (f x y) (colour_at s x y) in
    let of_t = λ (x y : ℕ). cond (has r x y) (f x y) (colour_at t x y) in
    ap (λ n. grid n s.height of_s) like.0 ∙ ap (λ n. grid w n of_s) like.1
    ∙ grid_from_agree w h of_s of_t (λ x y across down.
    ap (λ b. cond b (f x y) (colour_at s x y)) (all_has w h r x y all across down)
    ∙ ap (λ b. cond b (f x y) (colour_at t x y)) (sym (all_has w h r x y all across down)))
    ∙ sym (ap (λ n. grid n t.height of_t) like.2 ∙ ap (λ n. grid w n of_t) like.3)

like_by : (w h : ℕ) (s t : Grid ℕ) (op : Op) → AreLike w h s t
    → AreLike w h (seen_drawn_by s op) (seen_drawn_by t op)
like_by w h s t op like =
    (width-by s op ∙ like.0, height-by s op ∙ like.1, width-by t op ∙ like.2, height-by t op ∙ like.3)

op_over : (w h : ℕ) (s t : Grid ℕ) (op : Op) → AreLike w h s t → draws_all w h op ≡ true
    → seen_drawn_by s op ≡ seen_drawn_by t op
op_over w h s t (Fill rect colour) like all = drawn_over w h s t rect (λ _ _. colour) like all
op_over w h s t (Blit rect colours) like all = drawn_over w h s t rect (image_at rect colours) like all
op_over w h s t (Cover rect colours) like all = drawn_over w h s t rect (λ _ _. 0) like all
op_over w h s t (Scroll mv) like all = absurd (false≢true all)

-- the first of them draws all, or a later one does
first_over : (w h : ℕ) (s t : Grid ℕ) (op : Op) (ops : List Op) (b : Bool) → draws_all w h op ≡ b
    → AreLike w h s t → (b || some_draws_all w h ops) ≡ true
    → ((u v : Grid ℕ) → AreLike w h u v → some_draws_all w h ops ≡ true → seen_drawn u ops ≡ seen_drawn v ops)
    → seen_drawn (seen_drawn_by s op) ops ≡ seen_drawn (seen_drawn_by t op) ops
first_over w h s t op ops true e like all later = ap (λ g. seen_drawn g ops) (op_over w h s t op like e)
first_over w h s t op ops false e like all later =
    later (seen_drawn_by s op) (seen_drawn_by t op) (like_by w h s t op like) all

ops_over : (w h : ℕ) (s t : Grid ℕ) (ops : List Op) → AreLike w h s t → some_draws_all w h ops ≡ true
    → seen_drawn s ops ≡ seen_drawn t ops
ops_over w h s t [] like all = absurd (false≢true all)
ops_over w h s t (op ∷ ops) like all =
    first_over w h s t op ops (draws_all w h op) refl like all (λ u v. ops_over w h u v ops)

present_over : (w h : ℕ) (s t : Grid ℕ) (o : Option (List Op)) → AreLike w h s t → present_draws_all w h o ≡ true
    → seen_if s o ≡ seen_if t o
present_over w h s t None like all = absurd (false≢true all)
present_over w h s t (Some ops) like all = ops_over w h s t ops like all

-- the entries after some, where the first of them draws all
pub shown_anew : (w h k : ℕ) (es : List Entry) (e : Entry) (s : Grid ℕ) → s.width ≡ w → s.height ≡ h
    → k < length es → e ≡ get_or es k e → event_draws_all w h e.event ≡ true
    → seen_shown s (drop k es) ≡ seen_shown s es
shown_anew w h k es e s wide high within is all =
    let before = seen_shown s (take k es) in
    let rest = drop (k + 1) es in
    let like : AreLike w h s before =
    (wide, high, width-shown s (take k es) ∙ wide, height-shown s (take k es) ∙ high) in
    let cut : drop k es ≡ e ∷ rest = drop_more es k e within ∙ ap (λ x. x ∷ rest) (sym is) in
    ap (seen_shown s) cut
    ∙ ap (λ g. seen_shown g rest) (present_over w h s before (present_of e.event) like all)
    ∙ ap (seen_shown before) (sym cut)
    ∙ sym (fold-append (λ g (x : Entry). seen_after g x.event) s (take k es) (drop k es))
    ∙ ap (seen_shown s) (take-append-drop k es)

-- they are what is left of a list
rest_of : (k : ℕ) (es : List Entry) → take (length es - k) (drop k es) ≡ drop k es
rest_of k es = take_all (length es - k) (drop k es) (omega (arith, length-drop k es))

pub slice_anew : (w h k : ℕ) (es : List Entry) (e : Entry) (s : Grid ℕ) → s.width ≡ w → s.height ≡ h
    → k < length es → e ≡ get_or es k e → event_draws_all w h e.event ≡ true
    → seen_shown s (take (length es - k) (drop k es)) ≡ seen_shown s es
slice_anew w h k es e s wide high within is all =
    ap (seen_shown s) (rest_of k es) ∙ shown_anew w h k es e s wide high within is all

pub slice_fits : (w h k : ℕ) (es : List Entry) → entries_fit w h es ≡ true
    → entries_fit w h (take (length es - k) (drop k es)) ≡ true
unfolding entries_fit
slice_fits w h k es fit =
    let one = λ (e : Entry). event_fits w h e.event in
    ap (list_all one) (rest_of k es)
    ∙ (and_parts (list_all one (take k es)) _
    (sym (list_all-append one (take k es) (drop k es)) ∙ ap (list_all one) (take-append-drop k es) ∙ fit)).1

-- Entries one after another: what one more adds to the presents, the picture and what is gathered.
use Rattle.std.proofs.Common.{◌≡◌, ℕ, ◌+◌, ◌<◌, ◌≤◌, Bool, true, List, [], ◌∷◌, ◌++◌, length, take, get_or, Option, Some, None, refl, sym, ap, ◌∙◌, append-nil, arith}
use Rattle.std.specs.List.{fold, cons_option}
use Rattle.std.proofs.lemmas.Bool.{and_parts, and_from}
use Rattle.std.proofs.lemmas.List.{take_more, length-take}
use Rattle.std.proofs.lemmas.List.Elements.{filter_map-append}
use Rattle.std.proofs.lemmas.List.Sums.{AllPass-from_list_all, fold_push}
use Rattle.dd_geom.specs.Grid.{Grid}
use Rattle.dd_grid.specs.Cell.{Cell}
use Rattle.dd_ops.specs.declared.operations.Op.{Op}
use Rattle.dd_ops.specs.Operations.{drawn}
use Rattle.dd_acc.specs.Effects.{dirt, is_coalesced, moves, presents_fit}
use Rattle.dd_acc.specs.Interval.{Interval, nothing, with_present}
use Rattle.dd_acc.proofs.Counting.{composes}
use Rattle.dd_acc.proofs.Honest.{width-dirt, height-dirt}
use Rattle.dd_log.specs.declared.events.Entry.{Entry}
use Rattle.dd_log.specs.History.{present_of, present_fits, event_fits, entries_fit}
use Rattle.dd_log.specs.Picture.{presents, drawn_if, shown, shown_after}
use Rattle.dd_dup.specs.News.{picture_news, dirt_of}
use Rattle.dd_dup.specs.Walk.{gathered_next, gathered, news_from}

-- the entry at a place joins those before it
take_item : (es : List Entry) (k : ℕ) (e : Entry) → k < length es → e ≡ get_or es k e
    → take (k + 1) es ≡ take k es ++ e ∷ []
take_item es k e k_in is = take_more es k e k_in ∙ ap (λ x. take k es ++ x ∷ []) (sym is)

-- the presents of lists one after the other
presents-append : (xs ys : List Entry) → presents (xs ++ ys) ≡ presents xs ++ presents ys
unfolding presents
presents-append xs ys = filter_map-append (λ e. present_of e.event) xs ys

presents-one : (e : Entry) → presents (e ∷ []) ≡ cons_option (present_of e.event) []
unfolding presents
presents-one e = refl

presents-cons : (e : Entry) (es : List Entry) → presents (e ∷ es) ≡ cons_option (present_of e.event) (presents es)
unfolding presents
presents-cons e es = refl

presents_none : presents [] ≡ []
unfolding presents
presents_none = refl

presents_more : (es : List Entry) (k : ℕ) (e : Entry) → k < length es → e ≡ get_or es k e
    → presents (take (k + 1) es) ≡ presents (take k es) ++ cons_option (present_of e.event) []
presents_more es k e k_in is =
    ap presents (take_item es k e k_in is)
    ∙ presents-append (take k es) (e ∷ [])
    ∙ ap (λ ps. presents (take k es) ++ ps) (presents-one e)

-- there are no more presents than entries
length-cons_option : (o : Option (List Op)) (ps : List (List Op)) → length (cons_option o ps) ≤ length ps + 1
length-cons_option None ps = omega arith
length-cons_option (Some ops) ps = omega arith

pub length-presents : (es : List Entry) → length (presents es) ≤ length es
length-presents [] = omega (arith, ap length presents_none)
length-presents (e ∷ es) =
    omega (
      arith,
      ap length (presents-cons e es),
      length-cons_option (present_of e.event)
          (presents es),
      length-presents es,
    )

pub shown_more : (p q : Grid Cell) (es : List Entry) (k : ℕ) (e : Entry) → k < length es → e ≡ get_or es k e
    → q ≡ shown p (take k es)
    → shown_after q e.event ≡ shown p (take (k + 1) es)
shown_more p q es k e k_in is so_far =
    ap (λ g. shown_after g e.event) so_far
    ∙ sym (fold_push (λ g x. shown_after g x.event) p (take k es) e)
    ∙ ap (shown p) (sym (take_item es k e k_in is))

-- each entry of a list that fits does
pub fit_item : (w h : ℕ) (es : List Entry) (k : ℕ) (e : Entry) → entries_fit w h es ≡ true → k < length es
    → e ≡ get_or es k e → event_fits w h e.event ≡ true
unfolding entries_fit
fit_item w h es k e t k_in is = ap (λ (x : Entry). event_fits w h x.event) is
    ∙ AllPass-from_list_all (λ (x : Entry). event_fits w h x.event) es t k e k_in

-- one event more is gathered
gathered_push : (i : Interval) (ps : List (List Op)) (o : Option (List Op))
    → gathered_next (fold with_present i ps) o ≡ fold with_present i (ps ++ cons_option o [])
gathered_push i ps None = ap (fold with_present i) (sym (append-nil ps))
gathered_push i ps (Some ops) = sym (fold_push with_present i ps ops)

pub gathered_none : (w h : ℕ) → gathered w h [] ≡ nothing w h
unfolding gathered presents
gathered_none w h = refl

pub gathered_more : (w h k : ℕ) (es : List Entry) (e : Entry) (i : Interval) → k < length es
    → e ≡ get_or es k e → i ≡ gathered w h (take k es)
    → gathered_next i (present_of e.event) ≡ gathered w h (take (k + 1) es)
unfolding gathered
gathered_more w h k es e i k_in is so_far =
    ap (λ j. gathered_next j (present_of e.event)) so_far
    ∙ gathered_push (nothing w h) (presents (take k es)) (present_of e.event)
    ∙ ap (fold with_present (nothing w h)) (sym (presents_more es k e k_in is))

-- what is gathered is the dirt, the moves, the flag and the number of the presents
abbrev interval : ℕ → ℕ → List (List Op) → Interval
interval w h ps =
    record { area = dirt w h ps; moves = moves ps; coalesced = is_coalesced w h ps; frames = length ps }

pub gathered_is : (w h : ℕ) (es : List Entry) → gathered w h es ≡ interval w h (presents es)
unfolding gathered
gathered_is w h es = composes w h (presents es)

pub width-gathered : (w h : ℕ) (es : List Entry) (i : Interval) → i ≡ gathered w h es → i.area.width ≡ w
width-gathered w h es i is =
    ap (λ (j : Interval). j.area.width) (is ∙ gathered_is w h es) ∙ width-dirt w h (presents es)

pub height-gathered : (w h : ℕ) (es : List Entry) (i : Interval) → i ≡ gathered w h es → i.area.height ≡ h
height-gathered w h es i is =
    ap (λ (j : Interval). j.area.height) (is ∙ gathered_is w h es) ∙ height-dirt w h (presents es)

pub few_frames : (w h k n : ℕ) (es : List Entry) (i : Interval) → k ≤ n → i ≡ gathered w h (take k es) → i.frames ≤ n
few_frames w h k n es i k_in is =
    omega (
      arith,
      ap (λ (j : Interval). j.frames) (is ∙ gathered_is w h (take k es)),
      length-presents
          (take k es),
      length-take k es,
    )

-- as news
pub gathered_news : (w h last : ℕ) (hidden : Grid Bool) (es : List Entry) (i : Interval) → i ≡ gathered w h es
    → news_from last hidden i ≡ picture_news w h last hidden es
unfolding picture_news dirt_of
gathered_news w h last hidden es i is = ap (λ (j : Interval). news_from last hidden j) (is ∙ gathered_is w h es)

-- the presents alone are drawn
drawn_one : (p : Grid Cell) (o : Option (List Op)) (ps : List (List Op))
    → fold drawn (drawn_if p o) ps ≡ fold drawn p (cons_option o ps)
drawn_one p None ps = refl
drawn_one p (Some ops) ps = refl

pub shown-presents : (es : List Entry) (p : Grid Cell) → shown p es ≡ fold drawn p (presents es)
shown-presents [] p = ap (fold drawn p) (sym presents_none)
shown-presents (e ∷ es) p =
    shown-presents es (shown_after p e.event)
    ∙ drawn_one p (present_of e.event) (presents es)
    ∙ ap (fold drawn p) (sym (presents-cons e es))

-- entries that fit are presents that do
fit_one : (w h : ℕ) (o : Option (List Op)) (ps : List (List Op)) → present_fits w h o ≡ true
    → presents_fit w h ps ≡ true → presents_fit w h (cons_option o ps) ≡ true
fit_one w h None ps f fs = fs
fit_one w h (Some ops) ps f fs = and_from _ _ f fs

pub presents-fit : (w h : ℕ) (es : List Entry) → entries_fit w h es ≡ true → presents_fit w h (presents es) ≡ true
unfolding entries_fit
presents-fit w h [] t = ap (presents_fit w h) presents_none
presents-fit w h (e ∷ es) t =
    let both = and_parts (event_fits w h e.event) _ t in
    ap (presents_fit w h) (presents-cons e es)
    ∙ fit_one w h (present_of e.event) (presents es) both.0 (presents-fit w h es both.1)

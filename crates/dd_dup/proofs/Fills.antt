-- What fills make of a surface, point by point, in some rows and in all.
use Rattle.std.proofs.Common.{◌≡◌, ℕ, ◌<◌, ◌≤◌, ◌+◌, ◌*◌, ℤ, pos, negsuc, nat_le, nat_lt, int_le, int_lt, Bool, true, false, ◌&&◌, ◌||◌, cond, List, [], ◌∷◌, ◌++◌, length, take, get_or, Option, None, Some, refl, sym, ap, ◌∙◌, subst, arith}
use Rattle.std.specs.Prelude.{IfSome, ◌==◌}
use Rattle.std.specs.Int.{int_max, int_min}
use Rattle.std.proofs.lemmas.Bool.{and_parts, and_from, and_right, false≢true, true≢false, lt-ltb, ltb-true}
use Rattle.std.proofs.lemmas.Bool.Decides.{nat_tests}
use Rattle.std.proofs.lemmas.Int.{ints}
use Rattle.std.proofs.lemmas.List.{take_more}
use Rattle.std.proofs.lemmas.List.Sums.{fold_push}
use Rattle.dd_geom.specs.declared.rect.Rect.{Rect}
use Rattle.dd_geom.specs.Rect.{has, place, spans_inside, is_inside, points}
use Rattle.dd_geom.specs.Grid.{Grid}
use Rattle.dd_geom.proofs.RectLemmas.{and_assoc, int_le-max, int_lt-min}
use Rattle.dd_geom.proofs.GridLemmas.{grid_from_agree, grid-value_at, value_at-grid, length-cells}
use Rattle.dd_grid.specs.declared.cell.TheConstants.{COLOURS}
use Rattle.dd_grid.specs.Drawing.{colour_at, painted}
use Rattle.dd_ops.specs.declared.operations.Op.{Op}
use Rattle.dd_ops.specs.declared.operations.Op.TheVariants.{Fill, Blit, Cover, Scroll}
use Rattle.dd_ops.specs.Operations.{fits, are_colours, seen_drawn_by, seen_drawn}
use Rattle.dd_log.specs.declared.events.Entry.{Entry}
use Rattle.dd_log.specs.Events.{present_of}
use Rattle.dd_dup.specs.declared.bands.Rows.{Rows}
use Rattle.dd_dup.specs.Seen.{seen_if, seen_shown}
use Rattle.dd_dup.specs.Filling.{fill_in, is_fill, are_fills, present_fills, event_fills, entries_fill, fill_at, filled_at, op_at, ops_at, present_at, event_at, entries_at, IsWhole, has_row, rect_in, in_rows}

-- what becomes of the colours of a surface, each by itself
abbrev Change : Type 0
Change = ℕ → ℕ → ℕ → ℕ

-- ---- in some rows

either_same : (b : Bool) (c : ℕ) → cond b c c ≡ c
either_same true c = refl
either_same false c = refl

-- no change
in_rows_none : (s : Grid ℕ) (rows : ℕ → Bool) → IsWhole s → in_rows s rows (λ x y c. c) ≡ s
in_rows_none s rows whole =
    grid_from_agree s.width s.height (λ x y. cond (rows y) (colour_at s x y) (colour_at s x y)) (colour_at s)
    (λ x y across down. either_same (rows y) (colour_at s x y))
    ∙ sym (grid-value_at 0 s whole)

-- one change after another, in the same rows
take_item : {A : Type 0} (xs : List A) (k : ℕ) (x : A) → k < length xs → x ≡ get_or xs k x
    → take (k + 1) xs ≡ take k xs ++ x ∷ []
take_item xs k x within is = take_more xs k x within ∙ ap (λ y. take k xs ++ y ∷ []) (sym is)

twice_chosen : (b : Bool) (f g : ℕ → ℕ) (c : ℕ) → cond b (g (cond b (f c) c)) (cond b (f c) c) ≡ cond b (g (f c)) c
twice_chosen true f g c = refl
twice_chosen false f g c = refl

in_rows_twice : (s : Grid ℕ) (rows : ℕ → Bool) (f g : Change)
    → in_rows (in_rows s rows f) rows g ≡ in_rows s rows (λ x y c. g x y (f x y c))
in_rows_twice s rows f g =
    let first = λ (x y : ℕ). cond (rows y) (f x y (colour_at s x y)) (colour_at s x y) in
    let then = colour_at (in_rows s rows f) in
    grid_from_agree s.width s.height (λ x y. cond (rows y) (g x y (then x y)) (then x y))
    (λ x y. cond (rows y) (g x y (f x y (colour_at s x y))) (colour_at s x y)) (λ x y across down.
    ap (λ c. cond (rows y) (g x y c) c) (value_at-grid 0 s.width s.height first x y across down)
    ∙ twice_chosen (rows y) (f x y) (g x y) (colour_at s x y))

-- the same change, in rows one after another
abbrev cut : Bool → Bool → (ℕ → ℕ) → ℕ → ℕ
cut a b f c = cond b (f (cond a (f c) c)) (cond a (f c) c)

cut_either : (a b both : Bool) (f : ℕ → ℕ) (c : ℕ) → (a && b) ≡ false → both ≡ (a || b)
    → cut a b f c ≡ cond both (f c) c
cut_either true true both f c apart is = absurd (true≢false apart)
cut_either true false both f c apart is = ap (λ t. cond t (f c) c) (sym is)
cut_either false true both f c apart is = ap (λ t. cond t (f c) c) (sym is)
cut_either false false both f c apart is = ap (λ t. cond t (f c) c) (sym is)

in_rows_more : (s : Grid ℕ) (one next both : ℕ → Bool) (f : Change)
    → ((y : ℕ) → (one y && next y) ≡ false) → ((y : ℕ) → both y ≡ (one y || next y))
    → in_rows (in_rows s one f) next f ≡ in_rows s both f
in_rows_more s one next both f apart is =
    let first = λ (x y : ℕ). cond (one y) (f x y (colour_at s x y)) (colour_at s x y) in
    let then = colour_at (in_rows s one f) in
    grid_from_agree s.width s.height (λ x y. cond (next y) (f x y (then x y)) (then x y))
    (λ x y. cond (both y) (f x y (colour_at s x y)) (colour_at s x y)) (λ x y across down.
    ap (λ c. cond (next y) (f x y c) c) (value_at-grid 0 s.width s.height first x y across down)
    ∙ cut_either (one y) (next y) (both y) (f x y) (colour_at s x y) (apart y) (is y))

-- all rows of a surface
in_all_rows : (s : Grid ℕ) (rows : ℕ → Bool) (f : Change) → ((y : ℕ) → y < s.height → rows y ≡ true)
    → in_rows s rows f ≡ in_rows s (λ _. true) f
in_all_rows s rows f all =
    grid_from_agree s.width s.height (λ x y. cond (rows y) (f x y (colour_at s x y)) (colour_at s x y))
    (λ x y. f x y (colour_at s x y)) (λ x y across down.
    ap (λ b. cond b (f x y (colour_at s x y)) (colour_at s x y)) (all y down))

-- no rows
in_no_rows : (s : Grid ℕ) (rows : ℕ → Bool) (f : Change) → IsWhole s → ((y : ℕ) → rows y ≡ false)
    → in_rows s rows f ≡ s
in_no_rows s rows f whole none =
    grid_from_agree s.width s.height (λ x y. cond (rows y) (f x y (colour_at s x y)) (colour_at s x y)) (colour_at s)
    (λ x y across down. ap (λ b. cond b (f x y (colour_at s x y)) (colour_at s x y)) (none y))
    ∙ sym (grid-value_at 0 s whole)

-- ---- a part of a rectangle

regrouped : (a c d p q : Bool) → (a && (c && p) && (d && q)) ≡ ((a && c && d) && (p && q))
regrouped false c d p q = refl
regrouped true false d p q = refl
regrouped true true true p q = refl
regrouped true true false true q = refl
regrouped true true false false q = refl

nat_le-place : (z : ℤ) (y : ℕ) → nat_le (place z) y ≡ int_le z (pos y)
nat_le-place (pos n) y = refl
nat_le-place (negsuc n) y = grind arith

nat_lt-place : (z : ℤ) (y : ℕ) → nat_lt y (place z) ≡ int_lt (pos y) z
nat_lt-place (pos n) y = refl
nat_lt-place (negsuc n) y = grind arith

below_both : (a b : ℤ) (y : ℕ) → nat_le (place (int_max a b)) y ≡ (nat_le (place a) y && nat_le (place b) y)
below_both a b y =
    nat_le-place (int_max a b) y ∙ int_le-max a b (pos y)
    ∙ ap (λ t. t && int_le b (pos y)) (sym (nat_le-place a y))
    ∙ ap (λ t. nat_le (place a) y && t) (sym (nat_le-place b y))

above_both : (a b : ℤ) (y : ℕ) → nat_lt y (place (int_min a b)) ≡ (nat_lt y (place a) && nat_lt y (place b))
above_both a b y =
    nat_lt-place (int_min a b) y ∙ int_lt-min a b (pos y)
    ∙ ap (λ t. t && int_lt (pos y) b) (sym (nat_lt-place a y))
    ∙ ap (λ t. nat_lt y (place a) && t) (sym (nat_lt-place b y))

has-part : (r : Rect) (rows : Rows) (x y : ℕ) → has (rect_in r rows) x y ≡ (has r x y && has_row rows y)
has-part r rows x y =
    let across = nat_le (place r.left) x && nat_lt x (place r.right) in
    ap (λ t. across && t && nat_lt y (place (int_min r.bottom rows.bottom))) (below_both r.top rows.top y)
    ∙ ap (λ t. across && (nat_le (place r.top) y && nat_le (place rows.top) y) && t)
    (above_both r.bottom rows.bottom y)
    ∙ regrouped across (nat_le (place r.top) y) (nat_lt y (place r.bottom)) (nat_le (place rows.top) y)
    (nat_lt y (place rows.bottom))

in_both : (b r : Bool) (u c : ℕ) → cond (b && r) u c ≡ cond r (cond b u c) c
in_both true r u c = refl
in_both false true u c = refl
in_both false false u c = refl

painted_part : (s : Grid ℕ) (rows : Rows) (r : Rect) (colour : ℕ)
    → painted s (rect_in r rows) colour ≡ in_rows s (has_row rows) (fill_at r colour)
painted_part s rows r colour =
    grid_from_agree s.width s.height (λ x y. cond (has (rect_in r rows) x y) colour (colour_at s x y))
    (λ x y. cond (has_row rows y) (cond (has r x y) colour (colour_at s x y)) (colour_at s x y))
    (λ x y across down.
    ap (λ b. cond b colour (colour_at s x y)) (has-part r rows x y)
    ∙ in_both (has r x y) (has_row rows y) colour (colour_at s x y))

pub part_filled : (s t : Grid ℕ) (rows : Rows) (r part : Rect) (colour : ℕ) → part ≡ rect_in r rows
    → t ≡ painted s part colour → t ≡ in_rows s (has_row rows) (fill_at r colour)
part_filled s t rows r part colour is drawn =
    drawn ∙ ap (λ p. painted s p colour) is ∙ painted_part s rows r colour

-- it lies inside where it has rows
span_part : (top bottom a b : ℤ) (h : ℕ) → spans_inside top bottom h ≡ true
    → int_lt (int_max top a) (int_min bottom b) ≡ true → spans_inside (int_max top a) (int_min bottom b) h ≡ true
span_part top bottom a b h inside some = grind (arith, ints)

pub part_inside : (r part : Rect) (rows : Rows) (w h : ℕ) → part ≡ rect_in r rows → is_inside r w h ≡ true
    → int_lt part.top part.bottom ≡ true → is_inside part w h ≡ true
part_inside r part rows w h is inside some =
    let both = and_parts (spans_inside r.left r.right w) (spans_inside r.top r.bottom h) inside in
    let rows_left : int_lt (int_max r.top rows.top) (int_min r.bottom rows.bottom) ≡ true =
    ap (λ (p : Rect). int_lt p.top p.bottom) (sym is) ∙ some in
    ap (λ p. is_inside p w h) is
    ∙ and_from _ _ both.0 (span_part r.top r.bottom rows.top rows.bottom h both.1 rows_left)

-- and where it has none, nothing changes
no_span : (from to x : ℤ) → int_lt from to ≡ false → (int_le from x && int_lt x to) ≡ false
no_span from to x none = grind (arith, ints)

no_rows : (top bottom : ℤ) (y : ℕ) → int_lt top bottom ≡ false
    → (nat_le (place top) y && nat_lt y (place bottom)) ≡ false
no_rows top bottom y none =
    ap (λ t. t && nat_lt y (place bottom)) (nat_le-place top y)
    ∙ ap (λ t. int_le top (pos y) && t) (nat_lt-place bottom y)
    ∙ no_span top bottom (pos y) none

has-none : (r : Rect) (x y : ℕ) → int_lt r.top r.bottom ≡ false → has r x y ≡ false
has-none r x y none =
    and_assoc (nat_le (place r.left) x && nat_lt x (place r.right)) (nat_le (place r.top) y) (nat_lt y (place r.bottom))
    ∙ and_right _ _ (no_rows r.top r.bottom y none)

pub part_empty : (s : Grid ℕ) (rows : Rows) (r part : Rect) (colour : ℕ) → part ≡ rect_in r rows
    → int_lt part.top part.bottom ≡ false → IsWhole s → s ≡ in_rows s (has_row rows) (fill_at r colour)
part_empty s rows r part colour is none whole =
    part_filled s s rows r part colour is
    (grid-value_at 0 s whole
    ∙ grid_from_agree s.width s.height (colour_at s) (λ x y. cond (has part x y) colour (colour_at s x y))
    (λ x y across down. ap (λ b. cond b colour (colour_at s x y)) (sym (has-none part x y none))))

-- what an operation that fits fills
fill_fits : (w h : ℕ) (op : Op) → fits w h op ≡ true
    → IfSome (fill_in op) (λ f. (is_inside f.0 w h ≡ true) × (f.1 < COLOURS))
fill_fits w h (Fill rect colour) fit =
    let both = and_parts (is_inside rect w h) (nat_lt colour COLOURS) fit in
    (both.0, ltb-true colour COLOURS both.1)
fill_fits w h (Blit rect colours) fit = tt
fill_fits w h (Cover rect colours) fit =
    let image = and_parts (is_inside rect w h && length colours == points rect) (are_colours colours) fit in
    ((and_parts (is_inside rect w h) (length colours == points rect) image.0).0, omega arith)
fill_fits w h (Scroll mv) fit = tt

pub part_fits : (w h : ℕ) (op : Op) (r : Rect) (colour : ℕ) → fill_in op ≡ Some (r, colour) → fits w h op ≡ true
    → (is_inside r w h ≡ true) × (colour < COLOURS)
part_fits w h op r colour is fit =
    subst (λ o. IfSome o (λ f. (is_inside f.0 w h ≡ true) × (f.1 < COLOURS))) is (fill_fits w h op fit)

pub op_drawn : (s t : Grid ℕ) (rows : ℕ → Bool) (op : Op) (f : Rect × ℕ) → fill_in op ≡ Some f
    → t ≡ in_rows s rows (fill_at f.0 f.1) → t ≡ in_rows s rows (op_at op)
op_drawn s t rows op f is drawn = drawn ∙ ap (λ o. in_rows s rows (filled_at o)) (sym is)

pub op_none : (s : Grid ℕ) (rows : ℕ → Bool) (op : Op) → fill_in op ≡ None → IsWhole s
    → s ≡ in_rows s rows (op_at op)
op_none s rows op is whole = sym (in_rows_none s rows whole) ∙ ap (λ o. in_rows s rows (filled_at o)) (sym is)

pub present_none : (s : Grid ℕ) (rows : ℕ → Bool) (o : Option (List Op)) → o ≡ None → IsWhole s
    → s ≡ in_rows s rows (present_at o)
present_none s rows o is whole = sym (in_rows_none s rows whole) ∙ ap (λ p. in_rows s rows (present_at p)) (sym is)

pub present_drawn : (s t : Grid ℕ) (rows : ℕ → Bool) (o : Option (List Op)) (ops : List Op) → o ≡ Some ops
    → t ≡ in_rows s rows (ops_at ops) → t ≡ in_rows s rows (present_at o)
present_drawn s t rows o ops is drawn = drawn ∙ ap (λ p. in_rows s rows (present_at p)) (sym is)

-- what is drawn has a colour for each point again
rows_whole : (s t : Grid ℕ) (rows : ℕ → Bool) (f : Change) → t ≡ in_rows s rows f → IsWhole t
rows_whole s t rows f is =
    ap (λ (g : Grid ℕ). length g.cells) is
    ∙ length-cells s.width s.height (λ x y. cond (rows y) (f x y (colour_at s x y)) (colour_at s x y))
    ∙ sym (ap (λ (g : Grid ℕ). g.width * g.height) is)

-- ---- one operation after another

pub nothing_drawn : (s : Grid ℕ) (rows : ℕ → Bool) → IsWhole s → s ≡ in_rows s rows (λ x y c. c)
nothing_drawn s rows whole = sym (in_rows_none s rows whole)

pub ops_more : (s t u : Grid ℕ) (rows : ℕ → Bool) (ops : List Op) (k : ℕ) (op : Op) → k < length ops
    → op ≡ get_or ops k op → t ≡ in_rows s rows (ops_at (take k ops)) → (IsWhole t → u ≡ in_rows t rows (op_at op))
    → u ≡ in_rows s rows (ops_at (take (k + 1) ops))
ops_more s t u rows ops k op within is so_far more =
    more (rows_whole s t rows (ops_at (take k ops)) so_far)
    ∙ ap (λ g. in_rows g rows (op_at op)) so_far
    ∙ in_rows_twice s rows (ops_at (take k ops)) (op_at op)
    ∙ ap (in_rows s rows) (λ i x y c. sym (fold_push (λ d o. op_at o x y d) c (take k ops) op) i)
    ∙ ap (λ os. in_rows s rows (ops_at os)) (sym (take_item ops k op within is))

-- ---- one entry after another

pub entries_more : (s t u : Grid ℕ) (rows : ℕ → Bool) (es : List Entry) (k : ℕ) (e : Entry) → k < length es
    → e ≡ get_or es k e → t ≡ in_rows s rows (entries_at (take k es))
    → (IsWhole t → u ≡ in_rows t rows (event_at e.event))
    → u ≡ in_rows s rows (entries_at (take (k + 1) es))
entries_more s t u rows es k e within is so_far more =
    more (rows_whole s t rows (entries_at (take k es)) so_far)
    ∙ ap (λ g. in_rows g rows (event_at e.event)) so_far
    ∙ in_rows_twice s rows (entries_at (take k es)) (event_at e.event)
    ∙ ap (in_rows s rows) (λ i x y c. sym (fold_push (λ d (o : Entry). event_at o.event x y d) c (take k es) e) i)
    ∙ ap (λ os. in_rows s rows (entries_at os)) (sym (take_item es k e within is))

-- ---- in all rows they draw what is seen

abbrev everywhere : Grid ℕ → Change → Grid ℕ
everywhere s f = in_rows s (λ _. true) f

whole_rows : (s : Grid ℕ) (f : Change) → IsWhole (everywhere s f)
whole_rows s f = length-cells s.width s.height (λ x y. f x y (colour_at s x y))

op_seen : (s : Grid ℕ) (op : Op) → is_fill op ≡ true → seen_drawn_by s op ≡ everywhere s (op_at op)
op_seen s (Fill rect colour) fill = refl
op_seen s (Blit rect colours) fill = absurd (false≢true fill)
op_seen s (Cover rect colours) fill = refl
op_seen s (Scroll mv) fill = absurd (false≢true fill)

ops_seen : (s : Grid ℕ) (ops : List Op) → IsWhole s → are_fills ops ≡ true
    → seen_drawn s ops ≡ everywhere s (ops_at ops)
ops_seen s [] whole fill = sym (in_rows_none s (λ _. true) whole)
ops_seen s (op ∷ ops) whole fill =
    let both = and_parts (is_fill op) (are_fills ops) fill in
    ap (λ g. seen_drawn g ops) (op_seen s op both.0)
    ∙ ops_seen (everywhere s (op_at op)) ops (whole_rows s (op_at op)) both.1
    ∙ in_rows_twice s (λ _. true) (op_at op) (ops_at ops)

present_seen : (s : Grid ℕ) (o : Option (List Op)) → IsWhole s → present_fills o ≡ true
    → seen_if s o ≡ everywhere s (present_at o)
present_seen s None whole fill = sym (in_rows_none s (λ _. true) whole)
present_seen s (Some ops) whole fill = ops_seen s ops whole fill

entries_seen : (s : Grid ℕ) (es : List Entry) → IsWhole s → entries_fill es ≡ true
    → seen_shown s es ≡ everywhere s (entries_at es)
entries_seen s [] whole fill = sym (in_rows_none s (λ _. true) whole)
entries_seen s (e ∷ es) whole fill =
    let both = and_parts (event_fills e.event) (entries_fill es) fill in
    ap (λ g. seen_shown g es) (present_seen s (present_of e.event) whole both.0)
    ∙ entries_seen (everywhere s (event_at e.event)) es (whole_rows s (event_at e.event)) both.1
    ∙ in_rows_twice s (λ _. true) (event_at e.event) (entries_at es)

-- ---- one band after another

-- the rows above one
abbrev pub above : ℕ → ℕ → Bool
above n y = nat_lt y n

pub bands_none : (s : Grid ℕ) (es : List Entry) → IsWhole s → s ≡ in_rows s (above 0) (entries_at es)
bands_none s es whole = sym (in_no_rows s (above 0) (entries_at es) whole (λ y. grind (arith, nat_tests)))

pub bands_more : (s t u : Grid ℕ) (es : List Entry) (top bottom : ℕ) (rows : Rows)
    → rows ≡ record { top = pos top; bottom = pos bottom } → top ≤ bottom
    → t ≡ in_rows s (above top) (entries_at es) → (IsWhole t → u ≡ in_rows t (has_row rows) (entries_at es))
    → u ≡ in_rows s (above bottom) (entries_at es)
bands_more s t u es top bottom rows is ordered so_far more =
    let next = λ (y : ℕ). nat_le top y && nat_lt y bottom in
    more (rows_whole s t (above top) (entries_at es) so_far)
    ∙ ap (λ r. in_rows t (has_row r) (entries_at es)) is
    ∙ ap (λ g. in_rows g next (entries_at es)) so_far
    ∙ in_rows_more s (above top) next (above bottom) (entries_at es)
    (λ y. grind (arith, nat_tests)) (λ y. grind (arith, nat_tests))

pub bands_all : (s t : Grid ℕ) (es : List Entry) (n : ℕ) → IsWhole s → entries_fill es ≡ true → s.height ≤ n
    → t ≡ in_rows s (above n) (entries_at es) → t ≡ seen_shown s es
bands_all s t es n whole fill all is =
    is ∙ in_all_rows s (above n) (entries_at es) (λ y down. lt-ltb y n (omega arith))
    ∙ sym (entries_seen s es whole fill)

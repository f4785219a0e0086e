-- The picture after one entry more, and where the last one begins.
use Rattle.std.proofs.Common.{◌≡◌, ℕ, ◌+◌, ◌<◌, ◌≤◌, Bool, true, false, List, [], ◌∷◌, ◌++◌, length, drop, sym, ap, subst, ◌∙◌, refl, arith}
use Rattle.std.specs.List.{list_all}
use Rattle.std.proofs.lemmas.Bool.{and_from, or_from, or_parts, cases_lt, le-ltb, cond-true, cond-false}
use Rattle.std.proofs.lemmas.List.{drop-append-le, take-append-le, length_push}
use Rattle.std.proofs.lemmas.List.Folds.{list_all-append}
use Rattle.std.proofs.lemmas.List.Sums.{fold_push}
use Rattle.std.proofs.Math.ListN.{drop_of_length-le}
use Rattle.std.proofs.Math.Logic.{⊎_elim}
use Rattle.dd_geom.specs.Grid.{Grid}
use Rattle.dd_grid.specs.Cell.{Cell}
use Rattle.dd_modes.specs.declared.modes.Mode.{Mode}
use Rattle.dd_log.specs.declared.desk.Desk.{Desk}
use Rattle.dd_log.specs.declared.events.Entry.{Entry}
use Rattle.dd_log.specs.declared.events.Event.{Event}
use Rattle.dd_log.specs.declared.events.Event.TheVariants.{Opened, Closed, End}
use Rattle.dd_log.specs.declared.events.Event.TheVariants as events
use Rattle.dd_log.specs.declared.events.Draw.{Draw}
use Rattle.dd_log.specs.declared.events.Draw.TheVariants.{Present, Switch, Disconnect, Reconnect}
use Rattle.dd_log.specs.declared.events.Draw.TheVariants as drawings
use Rattle.dd_log.specs.declared.events.Spec.{Spec}
use Rattle.dd_log.specs.Events.{draws_anew, begins_picture, loses, cuts_off, any_begins, any_cuts_off}
use Rattle.dd_log.specs.Desk.{first_desk, desk_after, desk_of, mode_drawn, mode_after}
use Rattle.dd_log.specs.History.{History, first_entries, desk, desk_mode, entries_fit, event_fits, legal}
use Rattle.dd_log.specs.Picture.{State, first_state, state_after, state_of, picture, picture_after, shown, shown_after, black_in, GoesOn, PictureGoesOn, PictureBegins, PictureSinceStart}
use Rattle.dd_log.proofs.Snoc.{by_snoc, take-past, any_drop_push}
use Rattle.dd_log.proofs.Desks.{desk-push, mode-push, start_marks, start_tells}
use Rattle.dd_log.proofs.Legal.{legal_before, parts_of_may_add, allowed_by, fits_mode}

abbrev listed : Spec → List Entry → History
listed spec es = record { spec = spec; entries = es }

-- one entry more
state-push : (ms : List Mode) (es : List Entry) (e : Entry)
    → state_of ms (es ++ e ∷ []) ≡ state_after ms (state_of ms es) e
unfolding state_of
state-push ms es e = fold_push (state_after ms) (first_state ms) es e

state_desk : (ms : List Mode) (es : List Entry) → (state_of ms es).desk ≡ desk_of ms es
unfolding state_of desk_of
state_desk ms es =
    by_snoc (λ (xs : List Entry). (state_of ms xs).desk ≡ desk_of ms xs) refl
    (λ (xs : List Entry) (x : Entry) (is : (state_of ms xs).desk ≡ desk_of ms xs).
    ap (λ (s : State). s.desk) (state-push ms xs x) ∙ ap (λ (d : Desk). desk_after ms d x) is
    ∙ sym (desk-push ms xs x)) es

pub picture-push : (spec : Spec) (es : List Entry) (e : Entry)
    → picture (listed spec (es ++ e ∷ []))
    ≡ picture_after (desk_of spec.modes (es ++ e ∷ [])).mode (picture (listed spec es)) e.event
unfolding picture
picture-push spec es e =
    let before : Grid Cell = (state_of spec.modes es).picture in
    ap (λ (s : State). s.picture) (state-push spec.modes es e)
    ∙ ap (λ (d : Desk). picture_after (desk_after spec.modes d e).mode before e.event) (state_desk spec.modes es)
    ∙ ap (λ (d : Desk). picture_after d.mode before e.event) (sym (desk-push spec.modes es e))

-- an event that begins no picture keeps the mode
mode_kept_by : (ms : List Mode) (old : Mode) (d : Draw) → draws_anew d ≡ false → mode_drawn ms old d ≡ old
mode_kept_by ms old (Present ops) n = refl
mode_kept_by ms old (drawings.Pointer position visible) n = refl
mode_kept_by ms old (drawings.Shape shape) n = refl
mode_kept_by ms old (drawings.Mode index) n = cc
mode_kept_by ms old (Switch secure) n = refl
mode_kept_by ms old Disconnect n = refl
mode_kept_by ms old Reconnect n = refl

pub mode_kept : (ms : List Mode) (old : Mode) (e : Event) → begins_picture e ≡ false → mode_after ms old e ≡ old
mode_kept ms old (events.Draw d) n = mode_kept_by ms old d n
mode_kept ms old (Opened slot app) n = refl
mode_kept ms old (Closed slot) n = refl
mode_kept ms old End n = refl

-- what begins a picture loses duplicators
anew_loses : (d : Draw) → loses d ≡ false → draws_anew d ≡ false
anew_loses (Present ops) n = refl
anew_loses (drawings.Pointer position visible) n = refl
anew_loses (drawings.Shape shape) n = refl
anew_loses (drawings.Mode index) n = n
anew_loses (Switch secure) n = n
anew_loses Disconnect n = refl
anew_loses Reconnect n = refl

pub begins_loses : (e : Event) → cuts_off e ≡ false → begins_picture e ≡ false
begins_loses (events.Draw d) n = anew_loses d n
begins_loses (Opened slot app) n = refl
begins_loses (Closed slot) n = refl
begins_loses End n = refl

pub none_begins : (es : List Entry) → any_cuts_off es ≡ false → any_begins es ≡ false
none_begins [] none = refl
none_begins (e ∷ es) none =
    let both = or_parts (cuts_off e.event) (any_cuts_off es) none in
    or_from _ _ (begins_loses e.event both.0) (none_begins es both.1)

-- from the end on, all goes on
first_all : (spec : Spec) (es : List Entry) (place : ℕ) → length es ≤ place
    → first_entries place (listed spec es) ≡ listed spec es
first_all spec es place past = ap (listed spec) (take-past place es past)

goes_past : (spec : Spec) (es : List Entry) (place : ℕ) → length es ≤ place → GoesOn (listed spec es) place
unfolding entries_fit
goes_past spec es place past =
    let first = first_all spec es place past in
    let none = drop_of_length-le es past in
    let mode : Mode = desk_mode (listed spec es) in
    record {
      picture = sym (ap (shown (picture (first_entries place (listed spec es)))) none ∙ ap picture first);
      mode = ap desk_mode first;
      fit = λ _. ap (entries_fit mode.width mode.height) none;
    }

-- an entry more that begins no picture
first_same : (spec : Spec) (es : List Entry) (e : Entry) (place : ℕ) → place ≤ length es
    → first_entries place (listed spec (es ++ e ∷ [])) ≡ first_entries place (listed spec es)
first_same spec es e place within = ap (listed spec) (take-append-le place es (e ∷ []) within)

mode_same : (spec : Spec) (es : List Entry) (e : Entry) → begins_picture e.event ≡ false
    → desk_mode (listed spec (es ++ e ∷ [])) ≡ desk_mode (listed spec es)
mode_same spec es e n = mode-push spec.modes es e ∙ mode_kept spec.modes (desk_of spec.modes es).mode e.event n

goes_picture : (spec : Spec) (es : List Entry) (e : Entry) (place : ℕ) → place ≤ length es
    → begins_picture e.event ≡ false
    → picture (listed spec es) ≡ shown (picture (first_entries place (listed spec es))) (drop place es)
    → picture (listed spec (es ++ e ∷ []))
    ≡ shown (picture (first_entries place (listed spec (es ++ e ∷ [])))) (drop place (es ++ e ∷ []))
goes_picture spec es e place within n is =
    let first : Grid Cell = picture (first_entries place (listed spec es)) in
    picture-push spec es e
    ∙ cond-false (begins_picture e.event) _ (shown_after (picture (listed spec es)) e.event) n
    ∙ ap (λ (p : Grid Cell). shown_after p e.event) is
    ∙ sym (fold_push (λ (q : Grid Cell) (x : Entry). shown_after q x.event) first (drop place es) e)
    ∙ ap (shown first) (sym (drop-append-le place es (e ∷ []) within))
    ∙ ap (λ (h : History). shown (picture h) (drop place (es ++ e ∷ []))) (sym (first_same spec es e place within))

goes_fit : (spec : Spec) (es : List Entry) (e : Entry) (place : ℕ) → place ≤ length es → begins_picture e.event ≡ false
    → (legal (listed spec es) ≡ true
    → entries_fit (desk_mode (listed spec es)).width (desk_mode (listed spec es)).height (drop place es) ≡ true)
    → legal (listed spec (es ++ e ∷ [])) ≡ true
    → entries_fit (desk_mode (listed spec (es ++ e ∷ []))).width (desk_mode (listed spec (es ++ e ∷ []))).height
    (drop place (es ++ e ∷ [])) ≡ true
unfolding entries_fit
goes_fit spec es e place within n is t =
    let h : History = listed spec es in
    let mode : Mode = desk_mode h in
    let before = legal_before h e t in
    let may = parts_of_may_add h e before.1 in
    let here = fits_mode spec.modes mode e.event (allowed_by h e.event may.allowed).fit in
    let fits : Entry → Bool = λ x. event_fits mode.width mode.height x.event in
    subst (λ (m : Mode). entries_fit m.width m.height (drop place (es ++ e ∷ [])) ≡ true) (sym (mode_same spec es e n))
    (ap (list_all fits) (drop-append-le place es (e ∷ []) within)
    ∙ list_all-append fits (drop place es) (e ∷ [])
    ∙ and_from _ _ (is before.0) (and_from _ _ here refl))

goes_more : (spec : Spec) (es : List Entry) (e : Entry) (place : ℕ) → place ≤ length es → begins_picture e.event ≡ false
    → GoesOn (listed spec es) place → GoesOn (listed spec (es ++ e ∷ [])) place
goes_more spec es e place within n on =
    record {
      picture = goes_picture spec es e place within n on.picture;
      mode = ap desk_mode (first_same spec es e place within) ∙ on.mode ∙ sym (mode_same spec es e n);
      fit = goes_fit spec es e place within n on.fit;
    }

goes_step : (spec : Spec) (place : ℕ) (es : List Entry) (e : Entry)
    → (any_begins (drop place es) ≡ false → GoesOn (listed spec es) place)
    → any_begins (drop place (es ++ e ∷ [])) ≡ false → GoesOn (listed spec (es ++ e ∷ [])) place
goes_step spec place es e is none =
    ⊎_elim (λ (past : length es < place). goes_past spec (es ++ e ∷ []) place (omega (arith, length_push es e)))
    (λ (within : place ≤ length es).
    let both = or_parts (any_begins (drop place es)) (begins_picture e.event)
    (sym (any_drop_push (λ x. begins_picture x.event) place es e within) ∙ none) in
    goes_more spec es e place within both.1 (is both.0))
    (cases_lt (length es) place)

pub goes_on : PictureGoesOn
goes_on h place none =
    by_snoc (λ (xs : List Entry). any_begins (drop place xs) ≡ false → GoesOn (listed h.spec xs) place)
    (λ _. goes_past h.spec [] place (omega arith)) (goes_step h.spec place) h.entries none

-- the last picture begins black
abbrev start_of : Spec → List Entry → ℕ
start_of spec es = (desk_of spec.modes es).picture_start

abbrev BlackAt : Spec → List Entry → Type 0
BlackAt spec es = picture (first_entries (start_of spec es) (listed spec es)) ≡ black_in (desk_mode (listed spec es))

black_more : (spec : Spec) (es : List Entry) (e : Entry) (b : Bool) → begins_picture e.event ≡ b
    → BlackAt spec es → BlackAt spec (es ++ e ∷ [])
black_more spec es e true begins is =
    let more : History = listed spec (es ++ e ∷ []) in
    let start : start_of spec (es ++ e ∷ []) ≡ length es + 1 =
    (start_marks spec.modes).more es e ∙ cond-true (begins_picture e.event) (length es + 1) (start_of spec es) begins in
    ap picture (first_all spec (es ++ e ∷ []) (start_of spec (es ++ e ∷ [])) (omega (arith, start, length_push es e)))
    ∙ picture-push spec es e
    ∙ cond-true (begins_picture e.event) (black_in (desk_mode more)) _ begins
black_more spec es e false begins is =
    let start : start_of spec (es ++ e ∷ []) ≡ start_of spec es =
    (start_marks spec.modes).more es e
    ∙ cond-false (begins_picture e.event) (length es + 1) (start_of spec es) begins in
    let within = (start_tells spec.modes es).within in
    ap (λ n. picture (first_entries n (listed spec (es ++ e ∷ [])))) start
    ∙ ap picture (first_same spec es e (start_of spec es) within)
    ∙ is ∙ ap black_in (sym (mode_same spec es e begins))

black_first : (spec : Spec) → BlackAt spec []
unfolding picture state_of desk_of first_desk
black_first spec = refl

black_at : (spec : Spec) (es : List Entry) → BlackAt spec es
black_at spec es =
    by_snoc (BlackAt spec) (black_first spec)
    (λ (xs : List Entry) (x : Entry) (is : BlackAt spec xs). black_more spec xs x (begins_picture x.event) refl is) es

pub begins_black : PictureBegins
begins_black h =
    let tells = start_tells h.spec.modes h.entries in
    record {
      within = tells.within;
      black = black_at h.spec h.entries;
      last = sym (tells.since (desk h).picture_start)
          ∙ le-ltb (desk h).picture_start (desk h).picture_start (omega arith);
    }

pub since_start : PictureSinceStart
since_start h =
    let begins = begins_black h in
    (goes_on h (desk h).picture_start begins.last).picture
    ∙ ap (λ (p : Grid Cell). shown p (drop (desk h).picture_start h.entries)) begins.black

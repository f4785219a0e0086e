-- Legal lists: what a test of one entry more says, and what such an entry makes of the list.
use Rattle.std.proofs.Common.{◌≡◌, ℕ, ◌+◌, ◌<◌, ◌≤◌, Bool, cond, true, false, ◌&&◌, ◌||◌, not, List, [], ◌∷◌, ◌++◌, length, take, drop, get_or, Option, Some, None, nat_lt, eqb, sym, ap, subst, ◌∙◌, refl, append_assoc, append-nil, arith, if◌then◌else◌, ◌==◌}
use Rattle.std.specs.Prelude.{is_none, slice_index_or}
use Rattle.std.specs.List.{list_all, position_or_len}
use Rattle.std.specs.Prelude.{option_map}
use Rattle.std.proofs.lemmas.Bool.{and_parts, and_from, cases_lt, false≢true, ltb-true, lt-ltb, leb-false, ltb-false, cond-false, eq-eqb, ne_eqb}
use Rattle.std.proofs.lemmas.List.{take-append-drop, take_more, length_push}
use Rattle.std.proofs.lemmas.List.Folds.{position_or_len_push}
use Rattle.std.proofs.lemmas.List.Sums.{fold_push}
use Rattle.std.proofs.Math.Bool.{and-true, and-false}
use Rattle.std.proofs.Math.ListN.{get_or-eq_default}
use Rattle.std.proofs.Math.Logic.{⊎_elim}
use Rattle.dd_modes.specs.declared.modes.Mode.{Mode}
use Rattle.dd_ops.specs.declared.operations.Op.{Op}
use Rattle.dd_ops.specs.Operations.{fits}
use Rattle.dd_log.specs.declared.refusal.LogRefusal.{LogRefusal}
use Rattle.dd_log.specs.declared.refusal.LogRefusal.TheVariants.{Ended, Full, BadRect}
use Rattle.dd_log.specs.declared.events.Entry.{Entry}
use Rattle.dd_log.specs.declared.events.Event.{Event}
use Rattle.dd_log.specs.declared.events.Event.TheVariants.{Opened, Closed, End}
use Rattle.dd_log.specs.declared.events.Event.TheVariants as events
use Rattle.dd_log.specs.declared.events.Draw.{Draw}
use Rattle.dd_log.specs.declared.events.Draw.TheVariants.{Present, Switch, Disconnect, Reconnect}
use Rattle.dd_log.specs.declared.events.Draw.TheVariants as drawings
use Rattle.dd_log.specs.declared.events.Spec.{Spec}
use Rattle.dd_log.specs.declared.events.TheConstants.{MAX_ACTORS}
use Rattle.dd_log.specs.Events.{operations_of, is_end}
use Rattle.dd_log.specs.Desk.{desk_of, first_desk, finds_slot}
use Rattle.dd_log.specs.History.{History, with_entry, first_entries, desk, desk_mode, last_step, is_full, before_end, bad_rect, bad_draw, bad_event, present_fits, event_fits, refusal, may_add, legal_after, legal, end_of, BeginningIsLegal, LegalByEntries, LegalHasRoom, EndIsLast, BeforeEndCounts}
use Rattle.dd_log.proofs.Snoc.{by_snoc}
use Rattle.dd_log.proofs.Desks.{ended-push, ended_tells, step_tells, len_of_steps}

-- what the test of one entry more asks
pub record MayAdd (h : History) (e : Entry) : Type 0 where
  pub actor : e.actor < MAX_ACTORS
  pub step : last_step h.entries e.actor < e.step
  pub allowed : is_none (refusal h e.event) ≡ true
  pub slot : finds_slot (desk h).slots e.event ≡ true

pub parts_of_may_add : (h : History) (e : Entry) → may_add h e ≡ true → MayAdd h e
unfolding may_add
parts_of_may_add h e t =
    let c = and_parts _ (finds_slot (desk h).slots e.event) t in
    let b = and_parts _ (is_none (refusal h e.event)) c.0 in
    let a = and_parts (nat_lt e.actor MAX_ACTORS) (nat_lt (last_step h.entries e.actor) e.step) b.0 in
    record { actor = ltb-true _ _ a.0; step = ltb-true _ _ a.1; allowed = b.1; slot = c.1 }

pub may_add_of_parts : (h : History) (e : Entry) → MayAdd h e → may_add h e ≡ true
unfolding may_add
may_add_of_parts h e p =
    and_from _ _ (and_from _ _ (and_from _ _ (lt-ltb _ _ p.actor) (lt-ltb _ _ p.step)) p.allowed) p.slot

-- the end of a list that goes on
pub may_end : (h : History) (actor step : ℕ) → (desk h).ended ≡ false → actor < MAX_ACTORS
    → last_step h.entries actor < step → may_add h (end_of actor step) ≡ true
may_end h actor step going within past =
    let refused : refusal h End ≡ (if is_full h && false then Some Full else None) =
    cond-false (desk h).ended _ _ going in
    may_add_of_parts h (end_of actor step)
    (record {
      actor = within;
      step = past;
      allowed = ap is_none refused ∙ ap (λ (b : Bool). is_none (if b then Some Full else None)) (and-false (is_full h));
      slot = refl;
    })

-- what an event that no cause refuses has
pub record Allowed (h : History) (e : Event) : Type 0 where
  pub going : (desk h).ended ≡ false
  pub room : is_end e ≡ false → length h.entries + 1 < h.spec.capacity
  pub fit : bad_event h.spec.modes (desk_mode h) e ≡ None

none_if : (full : Bool) (cause : LogRefusal) (other : Option LogRefusal)
    → is_none (if full then Some cause else other) ≡ true → (full ≡ false) × (is_none other ≡ true)
none_if true cause other h = absurd (false≢true h)
none_if false cause other h = (refl, h)

none_is : (cause : Option LogRefusal) → is_none cause ≡ true → cause ≡ None
none_is None h = refl
none_is (Some cause) h = absurd (false≢true h)

not_full : (full ends : Bool) → (full && not ends) ≡ false → ends ≡ false → full ≡ false
not_full true true h e = cc
not_full true false h e = h
not_full false ends h e = refl

pub allowed_by : (h : History) (e : Event) → is_none (refusal h e) ≡ true → Allowed h e
allowed_by h e n =
    let a = none_if (desk h).ended Ended _ n in
    let b = none_if (is_full h && not (is_end e)) Full (bad_event h.spec.modes (desk_mode h) e) a.1 in
    record {
      going = a.0;
      room = λ (ends : is_end e ≡ false). leb-false _ _ (not_full (is_full h) (is_end e) b.0 ends);
      fit = none_is (bad_event h.spec.modes (desk_mode h) e) b.1;
    }

-- a list is legal where its front is, and what follows is legal after it
and_assoc : (a b c : Bool) → (a && (b && c)) ≡ ((a && b) && c)
and_assoc true b c = refl
and_assoc false b c = refl

pub legal_after-append : (spec : Spec) (before xs ys : List Entry)
    → legal_after spec before (xs ++ ys) ≡ (legal_after spec before xs && legal_after spec (before ++ xs) ys)
legal_after-append spec before [] ys = ap (λ b. legal_after spec b ys) (sym (append-nil before))
legal_after-append spec before (x ∷ xs) ys =
    let here : Bool = may_add (record { spec = spec; entries = before }) x in
    let front : Bool = legal_after spec (before ++ x ∷ []) xs in
    ap (λ b. here && b) (legal_after-append spec (before ++ x ∷ []) xs ys)
    ∙ and_assoc here front (legal_after spec ((before ++ x ∷ []) ++ xs) ys)
    ∙ ap (λ b. (here && front) && legal_after spec b ys) (append_assoc before (x ∷ []) xs)

-- one entry more
pub legal-with_entry : LegalByEntries
unfolding legal
legal-with_entry h e =
    legal_after-append h.spec [] h.entries (e ∷ [])
    ∙ ap (λ b. legal_after h.spec [] h.entries && b) (and-true (may_add h e))

pub legal_added : (h : History) (e : Entry) → legal h ≡ true → may_add h e ≡ true → legal (with_entry h e) ≡ true
legal_added h e t may = legal-with_entry h e ∙ and_from (legal h) (may_add h e) t may

pub legal_before : (h : History) (e : Entry) → legal (with_entry h e) ≡ true → (legal h ≡ true) × (may_add h e ≡ true)
legal_before h e t = and_parts (legal h) (may_add h e) (sym (legal-with_entry h e) ∙ t)

-- a beginning
pub legal_beginning : BeginningIsLegal
unfolding legal
legal_beginning h n t =
    let whole = ap (legal_after h.spec []) (take-append-drop n h.entries) in
    (and_parts (legal_after h.spec [] (take n h.entries)) _
    (sym (legal_after-append h.spec [] (take n h.entries) (drop n h.entries)) ∙ whole ∙ t)).0

-- the entry at a place was one that the list before it may have
pub may_follow : (h : History) (n : ℕ) (e : Entry) → legal h ≡ true → n < length h.entries → e ≡ get_or h.entries n e
    → may_add (first_entries n h) e ≡ true
may_follow h n e t within is =
    let before : List Entry = take n h.entries in
    let whole : take (n + 1) h.entries ≡ before ++ e ∷ [] =
    take_more h.entries n e within ∙ ap (λ x. before ++ x ∷ []) (sym is) in
    (legal_before (first_entries n h) e
    (ap (λ es. legal (record { spec = h.spec; entries = es })) (sym whole) ∙ legal_beginning h (n + 1) t)).1

-- what goes on from each legal list to a legal list of one entry more holds of all
pub record Step (h : History) (e : Entry) : Type 0 where
  pub legal : legal h ≡ true
  pub may : MayAdd h e
  pub allowed : Allowed h e.event

pub by_entries : (spec : Spec) (P : List Entry → Type 0) → P []
    → ((es : List Entry) (e : Entry) → Step (record { spec = spec; entries = es }) e → P es → P (es ++ e ∷ []))
    → (es : List Entry) → legal (record { spec = spec; entries = es }) ≡ true → P es
by_entries spec P none more es =
    by_snoc (λ (xs : List Entry). legal (record { spec = spec; entries = xs }) ≡ true → P xs) (λ _. none)
    (λ (xs : List Entry) (x : Entry) (is : legal (record { spec = spec; entries = xs }) ≡ true → P xs)
    (t : legal (record { spec = spec; entries = xs ++ x ∷ [] }) ≡ true).
    let h : History = record { spec = spec; entries = xs } in
    let before = legal_before h x t in
    let may = parts_of_may_add h x before.1 in
    more xs x (record { legal = before.0; may = may; allowed = allowed_by h x.event may.allowed }) (is before.0)) es

-- the place that is kept for the end
abbrev kept_place : Bool → ℕ
kept_place ended = cond ended 0 1

end_of_push : (spec : Spec) (es : List Entry) (e : Entry) → Step (record { spec = spec; entries = es }) e
    → (desk_of spec.modes (es ++ e ∷ [])).ended ≡ is_end e.event
end_of_push spec es e s = ended-push spec.modes es e ∙ ap (λ b. b || is_end e.event) s.allowed.going

kept_more : (ends : Bool) (n cap : ℕ) → n + 1 ≤ cap → (ends ≡ false → n + 1 < cap) → n + 1 + kept_place ends ≤ cap
kept_more true n cap room before = omega arith
kept_more false n cap room before = let k = before refl in omega arith

pub legal_room : (h : History) → legal h ≡ true → 1 ≤ h.spec.capacity
    → length h.entries + kept_place (desk h).ended ≤ h.spec.capacity
unfolding desk_of first_desk
legal_room h t some =
    by_entries h.spec (λ (es : List Entry). length es + kept_place (desk_of h.spec.modes es).ended ≤ h.spec.capacity)
    some
    (λ (es : List Entry) (e : Entry) (s : Step (record { spec = h.spec; entries = es }) e)
    (is : length es + kept_place (desk_of h.spec.modes es).ended ≤ h.spec.capacity).
    let room : length es + 1 ≤ h.spec.capacity =
    subst (λ (b : Bool). length es + kept_place b ≤ h.spec.capacity) s.allowed.going is in
    let more = kept_more (is_end e.event) (length es) h.spec.capacity room s.allowed.room in
    subst (λ (b : Bool). length (es ++ e ∷ []) + kept_place b ≤ h.spec.capacity) (sym (end_of_push h.spec es e s))
    (omega (arith, length_push es e, more))) h.entries t

-- an entry that may be added finds a place
pub room_before : (h : History) (e : Entry) → legal h ≡ true → 1 ≤ h.spec.capacity → may_add h e ≡ true
    → length h.entries + 1 ≤ h.spec.capacity
room_before h e t some may =
    subst (λ (b : Bool). length h.entries + kept_place b ≤ h.spec.capacity)
    (allowed_by h e.event (parts_of_may_add h e may).allowed).going (legal_room h t some)

pub has_room : LegalHasRoom
has_room h t some =
    let room = legal_room h t some in (
      omega (arith, room),
      λ (going : (desk h).ended ≡ false).
          subst (λ (b : Bool). length h.entries + kept_place b ≤ h.spec.capacity) going room,
    )

-- nothing follows the end
abbrev ends_at : Bool → ℕ → ℕ
ends_at ended n = if ended then n + 1 else n

ends_more : (ends : Bool) (n before : ℕ) → n ≡ before → n + 1 ≡ ends_at ends (n + cond ends 0 1)
ends_more true n before is = omega arith
ends_more false n before is = refl

before_push : (es : List Entry) (e : Entry) → length es ≡ before_end es
    → before_end (es ++ e ∷ []) ≡ length es + cond (is_end e.event) 0 1
before_push es e is =
    position_or_len_push (λ x. is_end x.event) es e
    ∙ ap (λ (b : Bool). cond b (length es + cond (is_end e.event) 0 1) (before_end es))
    (eq-eqb (before_end es) (length es) (sym is))

legal_ends : (h : History) → legal h ≡ true → length h.entries ≡ ends_at (desk h).ended (before_end h.entries)
unfolding desk_of first_desk
legal_ends h t =
    by_entries h.spec (λ (es : List Entry). length es ≡ ends_at (desk_of h.spec.modes es).ended (before_end es)) refl
    (λ (es : List Entry) (e : Entry) (s : Step (record { spec = h.spec; entries = es }) e)
    (is : length es ≡ ends_at (desk_of h.spec.modes es).ended (before_end es)).
    let all : length es ≡ before_end es =
    subst (λ (b : Bool). length es ≡ ends_at b (before_end es)) s.allowed.going is in
    length_push es e ∙ ends_more (is_end e.event) (length es) (before_end es) all
    ∙ ap (ends_at (is_end e.event)) (sym (before_push es e all))
    ∙ ap (λ (b : Bool). ends_at b (before_end (es ++ e ∷ []))) (sym (end_of_push h.spec es e s))) h.entries t

pub end_last : EndIsLast
end_last h = (ended_tells h.spec.modes h.entries, legal_ends h)

counts_more : (ends : Bool) (n before : ℕ) → n ≡ before → n + cond ends 0 1 ≡ (if ends then before else before + 1)
counts_more true n before is = omega arith
counts_more false n before is = omega arith

pub before_counts : BeforeEndCounts
before_counts h e t =
    let before = legal_before h e t in
    let going = (allowed_by h e.event (parts_of_may_add h e before.1).allowed).going in
    let all : length h.entries ≡ before_end h.entries =
    subst (λ (b : Bool). length h.entries ≡ ends_at b (before_end h.entries)) going (legal_ends h before.0) in
    before_push h.entries e all ∙ counts_more (is_end e.event) (length h.entries) (before_end h.entries) all

-- an actor past the last has no step
other_step : (actor at step last : ℕ) → actor < MAX_ACTORS → MAX_ACTORS ≤ at → last ≡ 0
    → (if actor == at then step else last) ≡ 0
other_step actor at step last within past is =
    cond-false (eqb actor at) step last (ne_eqb actor at (λ (e : actor ≡ at). absurd (omega arith))) ∙ is

pub no_step : (h : History) (actor : ℕ) → legal h ≡ true → MAX_ACTORS ≤ actor → last_step h.entries actor ≡ 0
no_step h actor t past =
    by_entries h.spec (λ (es : List Entry). last_step es actor ≡ 0) refl
    (λ (es : List Entry) (e : Entry) (s : Step (record { spec = h.spec; entries = es }) e)
    (is : last_step es actor ≡ 0).
    fold_push (λ last x. if x.actor == actor then x.step else last) 0 es e
    ∙ other_step e.actor actor e.step (last_step es actor) s.may.actor past is) h.entries t

-- the desk of a legal list tells each actor's last step
pub any_step : (h : History) (actor : ℕ) → legal h ≡ true
    → slice_index_or (desk h).steps actor 0 ≡ last_step h.entries actor
any_step h actor t =
    ⊎_elim (λ (within : actor < MAX_ACTORS). step_tells h.spec.modes h.entries actor within)
    (λ (past : MAX_ACTORS ≤ actor).
    get_or-eq_default (desk h).steps 0 (omega (arith, len_of_steps h.spec.modes h.entries))
    ∙ sym (no_step h actor t past))
    (cases_lt actor MAX_ACTORS)

-- a list none of whose elements fails has all of them pass
fits_here : {A : Type 0} (p : A → Bool) (x : A) (xs : List A) (n : ℕ) (b : Bool) → p x ≡ b
    → (length xs ≤ n → list_all p xs ≡ true) → length (x ∷ xs) ≤ cond (not (not (p x))) (1 + n) 0
    → list_all p (x ∷ xs) ≡ true
fits_here p x xs n true e ih h = let k = rw e at h in and_from (p x) (list_all p xs) e (ih (omega arith))
fits_here p x xs n false e ih h = let k = rw e at h in absurd (omega arith)

pub all_pass : {A : Type 0} (p : A → Bool) (xs : List A) → length xs ≤ position_or_len (λ x. not (p x)) xs
    → list_all p xs ≡ true
all_pass p [] h = refl
all_pass p (x ∷ xs) h = fits_here p x xs (position_or_len (λ y. not (p y)) xs) (p x) refl (all_pass p xs) h

none_only : (b : Bool) (cause : ℕ) → option_map BadRect (cond b (Some cause) None) ≡ None → b ≡ false
none_only true cause h = cc
none_only false cause h = refl

-- what isn't refused fits the mode
ops_fit : (w h : ℕ) (ops : List Op) → bad_rect w h ops ≡ None → list_all (fits w h) ops ≡ true
ops_fit w h ops n =
    let fits_it : Op → Bool = fits w h in
    let first = position_or_len (λ op. not (fits_it op)) ops in
    all_pass fits_it ops (ltb-false _ _ (none_only (nat_lt first (length ops)) first n))

draw_fits : (ms : List Mode) (mode : Mode) (d : Draw) → bad_draw ms mode d ≡ None
    → present_fits mode.width mode.height (operations_of d) ≡ true
draw_fits ms mode (Present ops) n = ops_fit mode.width mode.height ops n
draw_fits ms mode (drawings.Pointer position visible) n = refl
draw_fits ms mode (drawings.Shape shape) n = refl
draw_fits ms mode (drawings.Mode index) n = refl
draw_fits ms mode (Switch secure) n = refl
draw_fits ms mode Disconnect n = refl
draw_fits ms mode Reconnect n = refl

pub fits_mode : (ms : List Mode) (mode : Mode) (e : Event) → bad_event ms mode e ≡ None
    → event_fits mode.width mode.height e ≡ true
fits_mode ms mode (events.Draw d) n = draw_fits ms mode d n
fits_mode ms mode (Opened slot app) n = refl
fits_mode ms mode (Closed slot) n = refl
fits_mode ms mode End n = refl

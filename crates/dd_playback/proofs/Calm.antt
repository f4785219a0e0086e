-- A list on which the script of a seed goes on: nothing stands there that refuses its next step.
use Rattle.std.proofs.Common.{◌≡◌, ℕ, zero, suc, ◌+◌, ◌<◌, ◌≤◌, true, false, Bool, ◌&&◌, ◌||◌, not, cond, List, [], ◌∷◌, ◌++◌, length, Option, Some, None, option_map, refl, ap, sym, ◌∙◌, arith, length-append}
use Rattle.std.specs.Prelude.{if◌then◌else◌, nat_le, position, slice_get}
use Rattle.std.specs.List.{list_all, position_or_len}
use Rattle.std.proofs.lemmas.Bool.{and_parts, false≢true, lt-leb, le-ltb}
use Rattle.dd_ops.specs.declared.operations.Op.{Op}
use Rattle.dd_ops.specs.declared.operations.Op.TheVariants.{Fill, Blit, Cover, Scroll}
use Rattle.dd_ops.specs.Operations.{fits, first_unfit}
use Rattle.dd_log.specs.declared.refusal.LogRefusal.{LogRefusal}
use Rattle.dd_log.specs.declared.refusal.LogRefusal.TheVariants.{Ended, Full, BadRect}
use Rattle.dd_log.specs.declared.events.Draw as draws
use Rattle.dd_log.specs.declared.events.Draw.TheVariants as drawings
use Rattle.dd_log.specs.declared.events.Entry.{Entry}
use Rattle.dd_log.specs.declared.events.Event.{Event}
use Rattle.dd_log.specs.declared.events.Event.TheVariants as events
use Rattle.dd_log.specs.Desk.{mode_after}
use Rattle.dd_log.specs.Slots.{slot_at, entry_slot}
use Rattle.dd_log.specs.History.{History, with_entry, desk, desk_mode, is_full, is_end, cuts_off, any_cuts_off, bad_draw, allowed}
use Rattle.dd_log.proofs.Desks.{mode-push, ended-push}
use Rattle.dd_log.proofs.Snoc.{any_push}
use Rattle.dd_gen.specs.Generator.{screen}
use Rattle.dd_gen.specs.EverySeed.{is_made_op, is_made_drawing}

-- So many entries of a made script: the list goes on, in the one mode, nothing lost the duplicators, and these are
-- open in the slots 0 to 2.
pub record Calm (n : ℕ) (h : History) : Type 0 where
  pub modes : h.spec.modes ≡ screen ∷ []
  pub capacity : h.spec.capacity ≡ 4096
  pub count : length h.entries ≡ n
  pub goes_on : (desk h).ended ≡ false
  pub mode : desk_mode h ≡ screen
  pub keeps : any_cuts_off h.entries ≡ false
  pub first : slot_at h 0 ≡ Some 0
  pub second : slot_at h 1 ≡ Some 1
  pub third : slot_at h 2 ≡ Some 2

-- an event that changes none of this
pub record IsCalm (h : History) (e : Event) : Type 0 where
  pub goes_on : is_end e ≡ false
  pub keeps : cuts_off e ≡ false
  pub mode : mode_after h.spec.modes (desk_mode h) e ≡ desk_mode h

get_before : (es : List Entry) (e : Entry) (k : ℕ) → k < length es → slice_get (es ++ e ∷ []) k ≡ slice_get es k
get_before [] e k within = absurd (omega (arith, within))
get_before (x ∷ xs) e zero within = refl
get_before (x ∷ xs) e (suc k) within = get_before xs e k (omega (arith, within))

-- the slot of an entry that was there
same_slot : (h : History) (e : Entry) (k : ℕ) → k < length h.entries → slot_at (with_entry h e) k ≡ slot_at h k
same_slot h e k within = ap entry_slot (get_before h.entries e k within)

-- one entry more
pub calm_next : (n : ℕ) (h : History) (e : Entry) → 3 ≤ n → Calm n h → IsCalm h e.event → Calm (n + 1) (with_entry h e)
calm_next n h e few c calm =
    let count = c.count in
    record {
      modes = c.modes;
      capacity = c.capacity;
      count = length-append h.entries (e ∷ []) ∙ ap (λ m. m + 1) c.count;
      goes_on =
          ended-push h.spec.modes h.entries e ∙ ap (λ b. b || is_end e.event) c.goes_on ∙ calm.goes_on;
      mode = mode-push h.spec.modes h.entries e ∙ calm.mode ∙ c.mode;
      keeps =
          any_push (λ (x : Entry). cuts_off x.event) h.entries e ∙ ap (λ b. b || cuts_off e.event) c.keeps
          ∙ calm.keeps;
      first = same_slot h e 0 (omega (arith, count)) ∙ c.first;
      second = same_slot h e 1 (omega (arith, count)) ∙ c.second;
      third = same_slot h e 2 (omega (arith, count)) ∙ c.third;
    }

-- what a made script draws is such an event
pub calm_drawing : (h : History) (d : draws.Draw) → is_made_drawing d ≡ true → IsCalm h (events.Draw d)
calm_drawing h (drawings.Present ops) t = record { goes_on = refl; keeps = refl; mode = refl }
calm_drawing h (drawings.Pointer position visible) t = record { goes_on = refl; keeps = refl; mode = refl }
calm_drawing h (drawings.Shape shape) t = absurd (false≢true t)
calm_drawing h (drawings.Mode index) t = absurd (false≢true t)
calm_drawing h (drawings.Switch secure) t = absurd (false≢true t)
calm_drawing h drawings.Disconnect t = absurd (false≢true t)
calm_drawing h drawings.Reconnect t = absurd (false≢true t)

-- ---- nothing refuses a drawing

passes_here : (b : Bool) (n l : ℕ) → b ≡ true → l ≤ n → suc l ≤ cond (not (not b)) (1 + n) 0
passes_here true n l t within = omega (arith, within)
passes_here false n l t within = absurd (false≢true t)

made_fits : (op : Op) → is_made_op op ≡ true → fits 1920 1080 op ≡ true
made_fits (Fill rect colour) t = t
made_fits (Blit rect colours) t = absurd (false≢true t)
made_fits (Cover rect colours) t = absurd (false≢true t)
made_fits (Scroll mv) t = t

none_unfit : (ops : List Op) → list_all is_made_op ops ≡ true
    → length ops ≤ position_or_len (λ op. not (fits 1920 1080 op)) ops
none_unfit [] t = omega arith
none_unfit (op ∷ ops) t =
    let both = and_parts (is_made_op op) (list_all is_made_op ops) t in
    passes_here (fits 1920 1080 op) (position_or_len (λ x. not (fits 1920 1080 x)) ops) (length ops)
    (made_fits op both.0) (none_unfit ops both.1)

all_fit : (ops : List Op) → list_all is_made_op ops ≡ true → first_unfit 1920 1080 ops ≡ None
all_fit ops t =
    let first = position_or_len (λ op. not (fits 1920 1080 op)) ops in
    ap (λ b. cond b (Some first) None) (le-ltb first (length ops) (none_unfit ops t))

fits_mode : (d : draws.Draw) → is_made_drawing d ≡ true → bad_draw (screen ∷ []) screen d ≡ None
fits_mode (drawings.Present ops) t =
    ap (option_map BadRect) (all_fit ops (and_parts (nat_le 1 (length ops) && nat_le (length ops) 4) _ t).1)
fits_mode (drawings.Pointer position visible) t = refl
fits_mode (drawings.Shape shape) t = absurd (false≢true t)
fits_mode (drawings.Mode index) t = absurd (false≢true t)
fits_mode (drawings.Switch secure) t = absurd (false≢true t)
fits_mode drawings.Disconnect t = absurd (false≢true t)
fits_mode drawings.Reconnect t = absurd (false≢true t)

-- a place is left
pub has_room : (n : ℕ) (h : History) → Calm n h → n + 1 < 4096 → is_full h ≡ false
has_room n h c room =
    let capacity = c.capacity in
    let count = c.count in
    lt-leb h.spec.capacity (length h.entries + 1) (omega (arith, capacity, count))

unrefused : (ended full : Bool) (bad : Option LogRefusal) → ended ≡ false → full ≡ false → bad ≡ None
    → (if ended then Some Ended else (if full && true then Some Full else bad)) ≡ None
unrefused false false bad e f b = b
unrefused true full bad e f b = absurd (false≢true (sym e))
unrefused false true bad e f b = absurd (false≢true (sym f))

pub drawing_allowed : (n : ℕ) (h : History) (d : draws.Draw) → Calm n h → n + 1 < 4096 → is_made_drawing d ≡ true
    → allowed h d ≡ None
drawing_allowed n h d c room t =
    unrefused (desk h).ended (is_full h) (bad_draw h.spec.modes (desk_mode h) d) c.goes_on (has_room n h c room)
    (ap (λ ms. bad_draw ms (desk_mode h) d) c.modes ∙ ap (λ m. bad_draw (screen ∷ []) m d) c.mode ∙ fits_mode d t)

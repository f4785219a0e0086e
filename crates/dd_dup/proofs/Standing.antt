-- A duplicator stands on later lists, and after each call.
use Rattle.std.proofs.Common.{◌≡◌, ℕ, zero, suc, ◌+◌, ◌-◌, ◌<◌, ◌≤◌, Bool, true, false, ◌||◌, List, [], ◌∷◌, ◌++◌, length, take, drop, Option, None, refl, sym, ap, ◌∙◌, arith}
use Rattle.std.specs.Prelude.{slice_get}
use Rattle.std.proofs.lemmas.Bool.{false≢true}
use Rattle.std.proofs.lemmas.List.{take-append-drop, take_all, take-take, drop_all, length-take}
use Rattle.std.specs.Prelude.{option_map, unwrap_or}
use Rattle.dd_geom.proofs.GridLemmas.{grid_from_agree, value_at-grid}
use Rattle.dd_grid.specs.Cell.{plain, seen_cell}
use Rattle.dd_grid.specs.Drawing.{blank}
use Rattle.dd_modes.specs.declared.modes.Mode.{Mode}
use Rattle.dd_log.specs.declared.events.Spec.{Spec}
use Rattle.dd_geom.specs.Grid.{Grid}
use Rattle.dd_grid.specs.Cell.{Cell}
use Rattle.dd_grid.specs.Drawing.{black, seen, hidden_points}
use Rattle.dd_bits.specs.Area.{nowhere}
use Rattle.dd_log.specs.declared.events.Entry.{Entry}
use Rattle.dd_log.specs.History.{History, Begins, first_entries, desk, desk_mode, is_opening, cuts_off, any_begins, any_cuts_off}
use Rattle.dd_log.proofs.Pictures.{begins_black}
use Rattle.dd_log.specs.Picture.{picture, view}
use Rattle.dd_dup.specs.Reply.{is_lost}
use Rattle.dd_dup.specs.Duplicator.{Duplicator, holding, losing}
use Rattle.dd_dup.specs.Stands.{Stands, StandsOnceOpened}
use Rattle.dd_dup.proofs.Loss.{some_later, opening_within}

pub picture_all : (h : History) → picture h ≡ picture (first_entries (length h.entries) h)
picture_all h =
    ap (λ es. picture (record { spec = h.spec; entries = es }))
    (sym (take_all (length h.entries) h.entries (omega arith)))

-- a list that begins with another has the same first entries
pub first_entries_later : (h later : History) (m : ℕ) → Begins h later → m ≤ length h.entries
    → first_entries m later ≡ first_entries m h
first_entries_later h later m begins m_in =
    ap (λ (s : Spec). record { spec = s; entries = take m later.entries }) begins.spec
    ∙ ap (λ es. record { spec = h.spec; entries = es })
    (sym (take-take m (length h.entries) later.entries m_in) ∙ ap (take m) begins.entries)

-- and is it, with more entries
entries_later : (h later : History) → Begins h later
    → later.entries ≡ h.entries ++ drop (length h.entries) later.entries
entries_later h later begins =
    sym (take-append-drop (length h.entries) later.entries)
    ∙ ap (λ es. es ++ drop (length h.entries) later.entries) begins.entries

-- a loss is one in each list that begins with the list
lost_later : (h later : History) (k : ℕ) → Begins h later → k ≤ length h.entries
    → any_cuts_off (drop k h.entries) ≡ true → any_cuts_off (drop k later.entries) ≡ true
lost_later h later k begins within some =
    ap (λ es. any_cuts_off (drop k es)) (entries_later h later begins)
    ∙ some_later (λ (e : Entry). cuts_off e.event) k h.entries (drop (length h.entries) later.entries) within some

get_later : (es : List Entry) (k n : ℕ) → k < n → slice_get (take n es) k ≡ slice_get es k
get_later es k zero k_in = absurd (omega arith)
get_later [] k (suc n) k_in = refl
get_later (e ∷ es) zero (suc n) k_in = refl
get_later (e ∷ es) (suc k) (suc n) k_in = get_later es k n (omega arith)

-- an opening
abbrev opens : Option Entry → Bool
opens entry = unwrap_or (option_map (λ e. is_opening e.event) entry) false

-- a duplicator that stands on a list stands on each that begins with it
pub stands_later : (d : Duplicator) (h later : History) → Stands d h → Begins h later → Stands d later
stands_later d h later stands begins =
    let o : ℕ = d.memory.opened in
    let opened_in : o < length h.entries = opening_within h.entries o stands.opened in
    let marked = stands.marked in
    let grows = begins.within in
    let same = first_entries_later h later d.memory.mark begins marked in
    let opened_same = first_entries_later h later o begins (omega arith) in
    record {
      opened =
          ap opens (sym (get_later later.entries o (length h.entries) opened_in))
          ∙ ap (λ es. opens (slice_get es o)) begins.entries
          ∙ stands.opened;
      marked = omega arith;
      pointed = omega (arith, stands.pointed);
      began = ap (λ (k : History). any_begins (drop d.memory.mark k.entries)) opened_same ∙ stands.began;
      mode = stands.mode ∙ ap desk_mode (sym opened_same);
      hidden = stands.hidden ∙ ap (λ (e : History). hidden_points (picture e)) (sym same);
      surface = stands.surface ∙ ap view (sym same);
      lost = λ t. lost_later h later (o + 1) begins (omega arith) (stands.lost t);
      free = stands.free;
      folded = ap (λ (k : History). d.folded + (desk k).picture_start) opened_same ∙ stands.folded;
    }

-- a fresh duplicator's surface is what is seen of a black picture
pub seen-black : (w h : ℕ) → blank w h ≡ seen (black w h)
seen-black w h =
    grid_from_agree w h _ _
    (λ x y across down. sym (ap seen_cell (value_at-grid (plain 0) w h (λ a b. plain 0) x y across down)))

-- nor has it a hidden point
hidden-black : (w h : ℕ) → nowhere w h ≡ hidden_points (black w h)
hidden-black w h =
    grid_from_agree w h _ _
    (λ x y across down. sym (ap (λ (c : Cell). c.hidden)
    (value_at-grid (plain 0) w h (λ a b. plain 0) x y across down)))

-- a duplicator that was opened at a place, and has seen nothing yet
abbrev pub opened_at : ℕ → ℕ → Mode → Grid ℕ → Grid Bool → Duplicator
opened_at place mark mode s hidden = record {
  memory = record { opened = place; mark = mark; pointer_mark = 0; held = None; lost = false };
  surface = s;
  hidden = hidden;
  mode = mode;
  folded = 0;
}

-- the list that another begins with
begins_is : (h later : History) (place : ℕ) → place ≡ length h.entries → Begins h later → first_entries place later ≡ h
begins_is h later place place_is begins =
    ap (λ n. first_entries n later) place_is
    ∙ (ap (λ (s : Spec). record { spec = s; entries = take (length h.entries) later.entries }) begins.spec
    ∙ ap (λ es. record { spec = h.spec; entries = es }) begins.entries)

pub stands_fresh : (h : History) (place mark : ℕ) (mode : Mode) (s : Grid ℕ) (hidden : Grid Bool)
    → place ≡ length h.entries → mark ≡ (desk h).picture_start → mode ≡ desk_mode h
    → s ≡ blank mode.width mode.height → hidden ≡ nowhere mode.width mode.height
    → StandsOnceOpened (opened_at place mark mode s hidden) h
stands_fresh h place mark mode s hidden place_is mark_is mode_is s_is hidden_is later begins opens =
    let black_then = begins_black h in
    let within : mark ≤ length h.entries = omega (arith, black_then.within) in
    let first = begins_is h later place place_is begins in
    let shows : black mode.width mode.height ≡ picture (first_entries mark later) =
    ap (λ (m : Mode). black m.width m.height) mode_is
    ∙ (sym black_then.black
    ∙ (ap (λ n. picture (first_entries n h)) (sym mark_is)
    ∙ ap picture (sym (first_entries_later h later mark begins within)))) in
    record {
      opened = opens;
      marked = omega (arith, begins.within);
      pointed = omega arith;
      began =
          ap (λ (k : History). any_begins (drop mark k.entries)) first
          ∙ (ap (λ n. any_begins (drop n h.entries)) mark_is ∙ black_then.last);
      mode = mode_is ∙ ap desk_mode (sym first);
      hidden = hidden_is ∙ hidden-black mode.width mode.height ∙ ap hidden_points shows;
      surface = s_is ∙ seen-black mode.width mode.height ∙ ap seen shows;
      lost = λ t. cc;
      free = λ t. refl;
      folded = ap (λ (k : History). 0 + (desk k).picture_start) first ∙ (omega arith ∙ sym mark_is);
    }

-- entries up to a mark, and those from it on, are counted once
counted : (n start mark len : ℕ) → n + start ≡ mark → mark ≤ len → n + (len - mark) + start ≡ len
counted n start mark len e within = omega arith

pub stands_holding : (d : Duplicator) (h : History) → Stands d h → d.memory.lost ≡ false → Stands (holding d h) h
stands_holding d h stands kept = record {
  opened = stands.opened;
  marked = omega arith;
  pointed = omega arith;
  began =
      ap any_begins
      (drop_all (length h.entries) (take d.memory.opened h.entries)
      (omega (arith, length-take d.memory.opened h.entries)));
  mode = stands.mode;
  hidden = ap hidden_points (picture_all h);
  surface = ap seen (picture_all h);
  lost = stands.lost;
  free = λ t. absurd (false≢true (sym kept ∙ t));
  folded = counted d.folded _ d.memory.mark (length h.entries) stands.folded stands.marked;
}

-- a duplicator that was told that it is lost
lost_by : (told some : Bool) → (told ≡ true → some ≡ true) → (told || some) ≡ true → some ≡ true
lost_by true some e t = e refl
lost_by false some e t = t

pub stands_losing : (d : Duplicator) (h : History) → Stands d h → is_lost d.memory h ≡ true → Stands (losing d) h
stands_losing d h stands t = record {
  opened = stands.opened;
  marked = stands.marked;
  pointed = stands.pointed;
  began = stands.began;
  mode = stands.mode;
  hidden = stands.hidden;
  surface = stands.surface;
  lost = λ _. lost_by d.memory.lost (any_cuts_off (drop (d.memory.opened + 1) h.entries)) stands.lost t;
  free = λ _. refl;
  folded = stands.folded;
}

-- What the entries after an opening tell: whether its duplicator is lost, and whether a picture began.
use Rattle.std.proofs.Common.{◌≡◌, ℕ, zero, suc, ◌+◌, ◌-◌, ◌<◌, ◌≤◌, Bool, true, false, ◌||◌, List, [], ◌∷◌, ◌++◌, length, take, drop, Option, slice_get, refl, sym, ap, ◌∙◌, inl, inr, arith}
use Rattle.std.specs.Prelude.{option_map, unwrap_or}
use Rattle.std.specs.List.{list_any}
use Rattle.std.proofs.lemmas.Bool.{or_parts, or_from, cases_lt}
use Rattle.std.proofs.lemmas.List.{take-append-drop, drop_all, drop-append-le, length-take}
use Rattle.std.proofs.lemmas.List.Folds.{list_any-append}
use Rattle.dd_log.specs.declared.events.Entry.{Entry}
use Rattle.dd_log.specs.declared.events.Event.{Event}
use Rattle.dd_log.specs.declared.events.Event.TheVariants.{Opened, Closed, End}
use Rattle.dd_log.specs.declared.events.Event.TheVariants as events
use Rattle.dd_log.specs.History.{History, opens_at, is_opening, begins_picture, cuts_off, any_begins, any_cuts_off}
use Rattle.dd_log.proofs.Pictures.{none_begins}
use Rattle.dd_dup.specs.Duplicator.{Duplicator}
use Rattle.dd_dup.specs.Stands.{Stands}

or_more : (a b : Bool) → a ≡ true → (a || b) ≡ true
or_more true b t = refl
or_more false b t = cc

module _ {A : Type 0} where
  -- what none of a list has, none of its end has
  pub none_dropped : (p : A → Bool) (k : ℕ) (xs : List A) → list_any p xs ≡ false → list_any p (drop k xs) ≡ false
  none_dropped p k xs none =
      (or_parts (list_any p (take k xs)) (list_any p (drop k xs))
      (sym (list_any-append p (take k xs) (drop k xs)) ∙ (ap (list_any p) (take-append-drop k xs) ∙ none))).1

  -- what one of a list's end has, one of the end of a longer list has
  pub some_later : (p : A → Bool) (k : ℕ) (xs ys : List A) → k ≤ length xs → list_any p (drop k xs) ≡ true
      → list_any p (drop k (xs ++ ys)) ≡ true
  some_later p k xs ys within some =
      ap (list_any p) (drop-append-le k xs ys within)
      ∙ (list_any-append p (drop k xs) ys ∙ or_more _ (list_any p ys) some)

  -- the end of a list, from a place on that another place cuts
  pub split_at : (p : A → Bool) (k n : ℕ) (xs : List A) → k ≤ n → n ≤ length xs
      → list_any p (drop k xs) ≡ (list_any p (drop k (take n xs)) || list_any p (drop n xs))
  split_at p k n xs order within =
      ap (λ (ys : List A). list_any p (drop k ys)) (sym (take-append-drop n xs))
      ∙ (ap (list_any p)
      (drop-append-le k (take n xs) (drop n xs) (omega (arith, length-take n xs)))
      ∙ list_any-append p (drop k (take n xs)) (drop n xs))

  pub drop-more : (k n : ℕ) (xs : List A) → drop (k + n) xs ≡ drop n (drop k xs)
  drop-more zero n xs =
      let e : 0 + n ≡ n = omega arith in
      ap (λ m. drop m xs) e
  drop-more (suc k) n [] = drop_all (suc k + n) [] (omega arith) ∙ sym (drop_all n [] (omega arith))
  drop-more (suc k) n (x ∷ xs) =
      let e : suc k + n ≡ suc (k + n) = omega arith in
      ap (λ m. drop m (x ∷ xs)) e ∙ drop-more k n xs

-- an opening begins no picture, and loses no duplicator
opening_begins_none : (e : Event) → is_opening e ≡ true → begins_picture e ≡ false
opening_begins_none (events.Draw d) t = cc
opening_begins_none (Opened slot app) t = refl
opening_begins_none (Closed slot) t = cc
opening_begins_none End t = cc

opening_loses_none : (e : Event) → is_opening e ≡ true → cuts_off e ≡ false
opening_loses_none (events.Draw d) t = cc
opening_loses_none (Opened slot app) t = refl
opening_loses_none (Closed slot) t = cc
opening_loses_none End t = cc

abbrev opens : Option Entry → Bool
opens entry = unwrap_or (option_map (λ e. is_opening e.event) entry) false

-- what no opening has, the entries from an opening on have where those after it have it
false_or : (a b : Bool) → a ≡ false → (a || b) ≡ b
false_or false b e = refl
false_or true b e = cc

past_opening : (P : Event → Bool) → ((e : Event) → is_opening e ≡ true → P e ≡ false) → (es : List Entry) (k : ℕ)
    → opens (slice_get es k) ≡ true
    → list_any (λ (e : Entry). P e.event) (drop k es) ≡ list_any (λ (e : Entry). P e.event) (drop (k + 1) es)
past_opening P none [] k t = let f : false ≡ true = t in cc
past_opening P none (e ∷ es) zero t = false_or (P e.event) (list_any (λ (x : Entry). P x.event) es) (none e.event t)
past_opening P none (e ∷ es) (suc k) t =
    let more : suc (k + 1) ≡ suc k + 1 = omega arith in
    past_opening P none es k t ∙ ap (λ n. list_any (λ (x : Entry). P x.event) (drop n (e ∷ es))) more

pub cut_off_past : (h : History) (place : ℕ) → opens_at h place ≡ true
    → any_cuts_off (drop place h.entries) ≡ any_cuts_off (drop (place + 1) h.entries)
cut_off_past h place t = past_opening cuts_off opening_loses_none h.entries place t

begins_past : (h : History) (place : ℕ) → opens_at h place ≡ true
    → any_begins (drop place h.entries) ≡ any_begins (drop (place + 1) h.entries)
begins_past h place t = past_opening begins_picture opening_begins_none h.entries place t

pub opening_within : (es : List Entry) (k : ℕ) → opens (slice_get es k) ≡ true → k < length es
opening_within [] k t = let f : false ≡ true = t in cc
opening_within (e ∷ es) zero t = omega arith
opening_within (e ∷ es) (suc k) t = let r = opening_within es k t in omega arith

-- from the mark of a duplicator that isn't lost on, no picture begins
pub begins_none : (d : Duplicator) (h : History) → Stands d h
    → any_cuts_off (drop (d.memory.opened + 1) h.entries) ≡ false
    → any_begins (drop d.memory.mark h.entries) ≡ false
begins_none d h stands kept =
    let o : ℕ = d.memory.opened in
    let m : ℕ = d.memory.mark in
    let later : any_begins (drop (o + 1) h.entries) ≡ false = none_begins (drop (o + 1) h.entries) kept in
    let within : o < length h.entries = opening_within h.entries o stands.opened in
    elim (cases_lt o m) [
      | inl past ↦
          ap (λ n. any_begins (drop n h.entries)) (omega arith)
          ∙ (ap any_begins (drop-more (o + 1) (m - (o + 1)) h.entries)
          ∙ none_dropped (λ (e : Entry). begins_picture e.event) (m - (o + 1)) (drop (o + 1) h.entries) later)
      | inr before ↦
          split_at (λ (e : Entry). begins_picture e.event) m o h.entries before (omega arith)
          ∙ or_from _ _ stands.began (begins_past h o stands.opened ∙ later)
    ]

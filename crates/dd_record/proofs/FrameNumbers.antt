-- The event numbers of a frame: within the list, at least one for each present, and 0 exactly where nothing of the kind
-- came.
use Rattle.std.proofs.Common.{◌≡◌, ℕ, ◌+◌, ◌≤◌, Bool, true, false, ◌||◌, if◌then◌else◌, List, [], ◌∷◌, length, Option, Some, None, arith}
use Rattle.std.specs.Prelude.{is_some}
use Rattle.std.specs.List.{list_any, cons_option}
use Rattle.dd_ops.specs.declared.operations.Op.{Op}
use Rattle.dd_log.specs.declared.events.Entry.{Entry}
use Rattle.dd_log.specs.declared.events.Event.{Event}
use Rattle.dd_log.specs.Desk.{place_after}
use Rattle.dd_log.specs.Events.{number_from, present_of, is_present}
use Rattle.dd_log.specs.Picture.{presents}

-- the number after one entry more
place_rises : (b : Bool) (place last : ℕ) → last ≤ place → last ≤ place_after b place last
place_rises true place last le = omega (arith, le)
place_rises false place last le = omega arith

place_within : (b : Bool) (place last : ℕ) → last ≤ place → place_after b place last ≤ place + 1
place_within true place last le = omega arith
place_within false place last le = omega (arith, le)

some_after : (b rest : Bool) (place last n : ℕ) → (b || rest) ≡ true → place_after b place last ≤ n
    → (rest ≡ true → 1 ≤ n) → 1 ≤ n
some_after true rest place last n t le later = omega (arith, le)
some_after false rest place last n t le later = later t

module _ (is : Event → Bool) where
  number_rises : (es : List Entry) (last place : ℕ) → last ≤ place → last ≤ number_from is last place es
  number_rises [] last place le = omega arith
  number_rises (e ∷ es) last place le =
      let here = place_rises (is e.event) place last le in
      let later = number_rises es (place_after (is e.event) place last) (place + 1)
      (place_within (is e.event) place last le) in
      omega (arith, here, later)

  -- it is within the list
  pub number_within : (es : List Entry) (last place : ℕ) → last ≤ place
      → number_from is last place es ≤ place + length es
  number_within [] last place le = omega (arith, le)
  number_within (e ∷ es) last place le =
      let later = number_within es (place_after (is e.event) place last) (place + 1)
      (place_within (is e.event) place last le) in
      omega (arith, later)

  -- there is one where an entry is of the kind
  pub number_some : (es : List Entry) (last place : ℕ) → last ≤ place → list_any (λ (e : Entry). is e.event) es ≡ true
      → 1 ≤ number_from is last place es
  number_some [] last place le t = cc
  number_some (e ∷ es) last place le t =
      let within = place_within (is e.event) place last le in
      some_after (is e.event) (list_any (λ (x : Entry). is x.event) es) place last _ t
      (number_rises es (place_after (is e.event) place last) (place + 1) within)
      (λ u. number_some es (place_after (is e.event) place last) (place + 1) within u)

-- ---- presents

abbrev one_if : Bool → ℕ
one_if b = if b then 1 else 0

length-cons_option : (o : Option (List Op)) (ps : List (List Op))
    → length (cons_option o ps) ≡ one_if (is_some o) + length ps
length-cons_option None ps = omega arith
length-cons_option (Some ops) ps = omega arith

length-presents : (e : Entry) (es : List Entry)
    → length (presents (e ∷ es)) ≡ one_if (is_present e.event) + length (presents es)
unfolding presents
length-presents e es = length-cons_option (present_of e.event) (presents es)

counted_after : (b : Bool) (place last : ℕ) → last ≤ place → last + one_if b ≤ place_after b place last
counted_after true place last le = omega (arith, le)
counted_after false place last le = omega arith

-- there are no more presents than entries up to the last one
pub presents_counted : (es : List Entry) (last place : ℕ) → last ≤ place
    → last + length (presents es) ≤ number_from is_present last place es
unfolding presents
presents_counted [] last place le = omega arith
presents_counted (e ∷ es) last place le =
    let b : Bool = is_present e.event in
    let here = counted_after b place last le in
    let later = presents_counted es (place_after b place last) (place + 1) (place_within b place last le) in
    omega (arith, here, later, length-presents e es)

numbered_after : (b : Bool) (place last n : ℕ) → 1 ≤ place_after b place last + n → 1 ≤ last + (one_if b + n)
numbered_after true place last n le = omega arith
numbered_after false place last n le = omega (arith, le)

-- a number is that of a present
pub present_numbered : (es : List Entry) (last place : ℕ) → 1 ≤ number_from is_present last place es
    → 1 ≤ last + length (presents es)
unfolding presents
present_numbered [] last place le = omega (arith, le)
present_numbered (e ∷ es) last place le =
    let b : Bool = is_present e.event in
    let later = present_numbered es (place_after b place last) (place + 1) le in
    omega (arith, numbered_after b place last (length (presents es)) later, length-presents e es)

-- `clap` takes the words of each command, and from them the command that they are.
use Rattle.std.proofs.Common.{◌≡◌, ◌==◌, ◌++◌, ◌∙◌, ◌≤◌, ◌⊎◌, inl, inr, ℕ, Bool, true, false, List, [], ◌∷◌, Option, Some, None, codes, refl, sym, ap, ap₂, subst, arith}
use Rattle.std.specs.Prelude.{IfSome, IsSome, bytes_eq, take, drop, length, nat_le, unwrap_or, option_map, option_and_then, if◌then◌else◌}
use Rattle.std.proofs.lemmas.List.{take-append-drop}
use Rattle.std.proofs.lemmas.Slice.Eq.{bytes_eq-Decides}
use Rattle.clap.specs.Words.{is_simple, takes}
use Rattle.clap.proofs.OnLiterals.{clap_on_literals}
use Rattle.dd_calls.specs.declared.steps.TheConstants.{MAX_CLIENTS}
use Rattle.dd_prog.specs.declared.command.Command.{Command}
use Rattle.dd_prog.specs.declared.command.Command.TheVariants.{Replay, Record, View, Gen, Sum}
use Rattle.dd_prog.specs.declared.command.TheConstants.{MAX_FRAME}
use Rattle.dd_prog.specs.CommandLine.{command_line, command_from}
use Rattle.dd_prog.specs.Commands.{IsCounted, command_of}
use Rattle.dd_prog.specs.Options.{behind, has_no_leading_0, u32_max, numeral, number_given, value_given, within}
use Rattle.dd_prog.proofs.Numerals.{in_range, no_hyphen, numeral_starts}

-- ---- each command, in both forms

-- the words are taken, and the command is this
abbrev Takes : List (List ℕ) → Option Command → Type 0
Takes ws c = (takes command_line ws ≡ true) × (command_from ws ≡ c)

-- the command with the number that a word writes
abbrev numbered : (ℕ → Command) → List ℕ → Option Command
numbered make v = option_map make (within 0 u32_max (numeral v))

pub line_is_simple : is_simple command_line ≡ true
unfolding clap_on_literals
line_is_simple = refl

replay_alone : Takes (codes "replay" ∷ []) (Some Replay)
unfolding clap_on_literals
replay_alone = (refl, refl)

-- the value of an option is taken from one word, and from two, whatever it is but for a hyphen before it
abbrev InOne : (ℕ → Command) → List ℕ → List ℕ → Type 0
InOne make name option = (v : List ℕ) → Takes (name ∷ (option ++ (codes "=" ++ v)) ∷ []) (numbered make v)

abbrev InTwo : (ℕ → Command) → List ℕ → List ℕ → Type 0
InTwo make name option =
    (d : ℕ) (ds : List ℕ) → (d == 45) ≡ false → Takes (name ∷ option ∷ (d ∷ ds) ∷ []) (numbered make (d ∷ ds))

record_in_one : InOne (λ n. Record n) (codes "record") (codes "--client")
unfolding clap_on_literals
record_in_one v = (refl, refl)

record_in_two : InTwo (λ n. Record n) (codes "record") (codes "--client")
unfolding clap_on_literals
record_in_two d ds h = (rw (h, h) refl, rw (h, h) refl)

view_in_one : InOne (λ n. View n) (codes "view") (codes "--frame")
unfolding clap_on_literals
view_in_one v = (refl, refl)

view_in_two : InTwo (λ n. View n) (codes "view") (codes "--frame")
unfolding clap_on_literals
view_in_two d ds h = (rw (h, h) refl, rw (h, h) refl)

gen_in_one : InOne (λ n. Gen n) (codes "gen") (codes "--seed")
unfolding clap_on_literals
gen_in_one v = (refl, refl)

gen_in_two : InTwo (λ n. Gen n) (codes "gen") (codes "--seed")
unfolding clap_on_literals
gen_in_two d ds h = (rw (h, h) refl, rw (h, h) refl)

sum_in_one : InOne (λ n. Sum n) (codes "sum") (codes "--seed")
unfolding clap_on_literals
sum_in_one v = (refl, refl)

sum_in_two : InTwo (λ n. Sum n) (codes "sum") (codes "--seed")
unfolding clap_on_literals
sum_in_two d ds h = (rw (h, h) refl, rw (h, h) refl)

-- ---- the words that give a value

-- a word with a front is the front, and what stands behind it
behind_is : (front w rest : List ℕ) → behind front w ≡ Some rest → w ≡ front ++ rest
behind_is front w rest is = by_front (bytes_eq front (take (length front) w)) refl is where
  by_front : (begins : Bool) → bytes_eq front (take (length front) w) ≡ begins
      → (if begins then Some (drop (length front) w) else None) ≡ Some rest → w ≡ front ++ rest
  by_front true e is =
      let same : front ≡ take (length front) w = (bytes_eq-Decides _ _).0 e in
      let left : drop (length front) w ≡ rest = ap (λ o. unwrap_or o rest) is in
      sym (take-append-drop (length front) w) ∙ ap₂ (λ xs ys. xs ++ ys) (sym same) left
  by_front false e is = cc

-- the words that give the value to the option, in one word or in two
abbrev Gives : List ℕ → List ℕ → List (List ℕ) → Type 0
Gives option v ws = (ws ≡ (option ++ (codes "=" ++ v)) ∷ []) ⊎ (ws ≡ option ∷ v ∷ [])

gives : (option v : List ℕ) (ws : List (List ℕ)) → value_given option ws ≡ Some v → Gives option v ws
gives option v [] is = cc
gives option v (w ∷ []) is = inl (by_rest (behind option w) refl is) where
  by_rest : (o : Option (List ℕ)) → behind option w ≡ o → option_and_then (behind (codes "=")) o ≡ Some v
      → (w ∷ []) ≡ (option ++ (codes "=" ++ v)) ∷ []
  by_rest None e is = cc
  by_rest (Some rest) e is =
      ap (λ x. x ∷ []) (behind_is option w rest e ∙ ap (λ x. option ++ x) (behind_is (codes "=") rest v is))
gives option v (w ∷ u ∷ []) is = inr (by_name (bytes_eq w option) refl is) where
  by_name : (same : Bool) → bytes_eq w option ≡ same → (if same then Some u else None) ≡ Some v
      → (w ∷ u ∷ []) ≡ option ∷ v ∷ []
  by_name true e is = ap₂ (λ x y. x ∷ y ∷ []) ((bytes_eq-Decides w option).0 e) (ap (λ o. unwrap_or o v) is)
  by_name false e is = cc
gives option v (w ∷ u ∷ t ∷ ws) is = cc

-- ---- words that are a command

-- a number of a smaller range is one of all that are read
widened : (least most : ℕ) (o : Option ℕ) (n : ℕ) → most ≤ u32_max → within least most o ≡ Some n
    → within 0 u32_max o ≡ Some n
widened least most o n fits is =
    let range = in_range least most o n is in
    let high : nat_le n u32_max ≡ true = grind (arith, fits, range.2) in
    let low : nat_le 0 n ≡ true = grind arith in
    rw (range.0, low, high) refl

module _ (make : ℕ → Command) (name option : List ℕ) (one : InOne make name option) (two : InTwo make name option) where
  -- what writes a number is taken
  value_taken : (v : List ℕ) (ws : List (List ℕ)) → has_no_leading_0 v ≡ true → Gives option v ws
      → Takes (name ∷ ws) (numbered make v)
  value_taken v ws starts (inl is) = subst (λ xs. Takes (name ∷ xs) (numbered make v)) (sym is) (one v)
  value_taken [] ws starts (inr is) = cc
  value_taken (d ∷ ds) ws starts (inr is) =
      subst (λ xs. Takes (name ∷ xs) (numbered make (d ∷ ds))) (sym is) (two d ds (no_hyphen d ds starts))

  -- and so is the number
  number_is_taken : (least most n : ℕ) (ws : List (List ℕ)) → most ≤ u32_max
      → number_given option least most ws ≡ Some n → Takes (name ∷ ws) (Some (make n))
  number_is_taken least most n ws fits is = by_value (value_given option ws) refl (in_range least most _ n is).0 where
    by_value : (o : Option (List ℕ)) → value_given option ws ≡ o → option_and_then numeral o ≡ Some n
        → Takes (name ∷ ws) (Some (make n))
    by_value None e none = cc
    by_value (Some v) e writes =
        let taken = value_taken v ws (numeral_starts v n writes) (gives option v ws e) in
        let same : numbered make v ≡ Some (make n) =
        ap (option_map make) (widened least most (numeral v) n fits (rw e at is))
        in
        (taken.0, taken.1 ∙ same)

  by_number : (least most : ℕ) (ws : List (List ℕ)) → most ≤ u32_max
      → IsSome (option_map make (number_given option least most ws))
      → Takes (name ∷ ws) (option_map make (number_given option least most ws))
  by_number least most ws fits some = by_case (number_given option least most ws) refl some where
    by_case : (o : Option ℕ) → number_given option least most ws ≡ o → IsSome (option_map make o)
        → Takes (name ∷ ws) (option_map make o)
    by_case None e some = cc
    by_case (Some n) e some = number_is_taken least most n ws fits e

-- what holds of words that begin with a name, and of all others, holds
by_name : (P : List (List ℕ) → Type 0) (name w : List ℕ) (ws : List (List ℕ)) → P (name ∷ ws)
    → (bytes_eq w name ≡ false → P (w ∷ ws)) → P (w ∷ ws)
by_name P name w ws named other = by_same (bytes_eq w name) refl where
  by_same : (same : Bool) → bytes_eq w name ≡ same → P (w ∷ ws)
  by_same true e = subst (λ x. P (x ∷ ws)) (sym ((bytes_eq-Decides w name).0 e)) named
  by_same false e = other e

-- what holds of words that begin with the name of a command, and of words that are none, holds of all
by_command : (P : List (List ℕ) → Type 0)
    → ((ws : List (List ℕ)) → P (codes "replay" ∷ ws))
    → ((ws : List (List ℕ)) → P (codes "record" ∷ ws))
    → ((ws : List (List ℕ)) → P (codes "view" ∷ ws))
    → ((ws : List (List ℕ)) → P (codes "gen" ∷ ws))
    → ((ws : List (List ℕ)) → P (codes "sum" ∷ ws))
    → ((ws : List (List ℕ)) → command_of ws ≡ None → P ws)
    → (ws : List (List ℕ)) → P ws
by_command P replay record_ view gen sum none [] = none [] refl
by_command P replay record_ view gen sum none (w ∷ ws) =
    by_name P (codes "replay") w ws (replay ws) (λ e1.
    by_name P (codes "record") w ws (record_ ws) (λ e2.
    by_name P (codes "view") w ws (view ws) (λ e3.
    by_name P (codes "gen") w ws (gen ws) (λ e4.
    by_name P (codes "sum") w ws (sum ws) (λ e5. none (w ∷ ws) (rw (e1, e2, e3, e4, e5) refl))))))

-- words that are a command are taken, and give the command that they are
pub all_taken : (ws : List (List ℕ)) → IsSome (command_of ws) → Takes ws (command_of ws)
all_taken =
    by_command (λ ws. IsSome (command_of ws) → Takes ws (command_of ws)) alone
    (λ ws. by_number (λ n. Record n) (codes "record") (codes "--client") record_in_one record_in_two 1 MAX_CLIENTS ws
    (omega arith))
    (λ ws. by_number (λ n. View n) (codes "view") (codes "--frame") view_in_one view_in_two 1 MAX_FRAME ws
    (omega arith))
    (λ ws. by_number (λ n. Gen n) (codes "gen") (codes "--seed") gen_in_one gen_in_two 0 u32_max ws (omega arith))
    (λ ws. by_number (λ n. Sum n) (codes "sum") (codes "--seed") sum_in_one sum_in_two 0 u32_max ws (omega arith))
    (λ ws none some. let no : IsSome {T = Command} None = rw none at some in cc)
  where
    alone : (ws : List (List ℕ)) → IsSome (command_of (codes "replay" ∷ ws))
        → Takes (codes "replay" ∷ ws) (command_of (codes "replay" ∷ ws))
    alone [] some = replay_alone
    alone (w ∷ ws) some = cc

-- a client and a frame are counted from 1
pub counted : (ws : List (List ℕ)) → IfSome (command_of ws) IsCounted
counted =
    by_command (λ ws. IfSome (command_of ws) IsCounted) alone
    (λ ws. by_range (λ n. Record n) 1 MAX_CLIENTS (codes "--client") ws (λ n low. low))
    (λ ws. by_range (λ n. View n) 1 MAX_FRAME (codes "--frame") ws (λ n low. low))
    (λ ws. by_range (λ n. Gen n) 0 u32_max (codes "--seed") ws (λ n low. tt))
    (λ ws. by_range (λ n. Sum n) 0 u32_max (codes "--seed") ws (λ n low. tt))
    (λ ws none. rw none tt)
  where
    alone : (ws : List (List ℕ)) → IfSome (command_of (codes "replay" ∷ ws)) IsCounted
    alone [] = tt
    alone (w ∷ ws) = tt

    by_range : (make : ℕ → Command) (least most : ℕ) (option : List ℕ) (ws : List (List ℕ))
        → ((n : ℕ) → least ≤ n → IsCounted (make n))
        → IfSome (option_map make (number_given option least most ws)) IsCounted
    by_range make least most option ws counts = by_case (number_given option least most ws) refl where
      by_case : (o : Option ℕ) → number_given option least most ws ≡ o → IfSome (option_map make o) IsCounted
      by_case None e = tt
      by_case (Some n) e =
          counts n (in_range least most (option_and_then numeral (value_given option ws)) n e).1

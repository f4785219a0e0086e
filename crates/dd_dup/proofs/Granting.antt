-- What is granted, and to a duplicator that isn't lost.
use Rattle.std.proofs.Common.{◌≡◌, ◌+◌, Bool, true, false, drop, refl, if◌then◌else◌}
use Rattle.std.proofs.lemmas.Bool.{or_parts}
use Rattle.std.specs.Prelude.{Result, Ok, Err, is_some}
use Rattle.dd_calls.specs.declared.answers.DupRefusal.{DupRefusal}
use Rattle.dd_calls.specs.declared.answers.DupRefusal.TheVariants.{AccessLost, InvalidCall, WaitTimeout}
use Rattle.dd_log.specs.History.{History, any_begins, any_cuts_off}
use Rattle.dd_dup.specs.News.{news}
use Rattle.dd_dup.specs.Reply.{Memory, granted, given_news, is_lost, is_new}
use Rattle.dd_dup.specs.Duplicator.{Duplicator}
use Rattle.dd_dup.specs.Stands.{Stands}
use Rattle.dd_dup.proofs.Loss.{begins_none}

-- what was granted is what was to be given, to a duplicator that isn't lost
granted_for : {A : Type 0} (held new : Bool) (given other : A)
    → (if held then Err InvalidCall else if new then Ok given else Err WaitTimeout) ≡ Ok other → given ≡ other
granted_for true new given other e = cc
granted_for false true given other e = cc
granted_for false false given other e = cc

granted_of : {A : Type 0} (lost : Bool) (r : Result A DupRefusal) (other : A)
    → (if lost then Err AccessLost else r) ≡ Ok other → (lost ≡ false) × (r ≡ Ok other)
granted_of true r other e = cc
granted_of false r other e = (refl, e)

pub granted_is : {A : Type 0} (m : Memory) (h : History) (given other : A) → granted m h given ≡ Ok other
    → given ≡ other
granted_is m h given other e =
    granted_for (is_some m.held) (is_new m h) given other (granted_of (is_lost m h) _ other e).1

pub granted_kept : {A : Type 0} (m : Memory) (h : History) (given other : A) → granted m h given ≡ Ok other
    → is_lost m h ≡ false
granted_kept m h given other e =
    (granted_of (is_lost m h) (if is_some m.held then Err InvalidCall else given_news m h given) other e).0

-- a duplicator that isn't lost wasn't told so, and no picture began since its mark
pub kept_parts : (d : Duplicator) (h : History) → Stands d h → is_lost d.memory h ≡ false
    → (d.memory.lost ≡ false) × (any_begins (news h d.memory.mark) ≡ false)
kept_parts d h stands kept =
    let both = or_parts d.memory.lost (any_cuts_off (drop (d.memory.opened + 1) h.entries)) kept in
    (both.0, begins_none d h stands both.1)

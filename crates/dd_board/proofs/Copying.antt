-- What was copied, where it is known which way it went.
use Rattle.std.proofs.Common.{◌≡◌, ℕ, List, subst}
use Rattle.dd_log.specs.declared.events.Spec.{Spec}
use Rattle.dd_log.specs.declared.events.Entry.{Entry}
use Rattle.dd_board.specs.declared.listing.Copied.{Copied}
use Rattle.dd_board.specs.Copied.{IsCopied}

pub copied_is : {L : Type 0} (p q : Copied L) (spec : Spec) (longest : List Entry) (amount : ℕ) (es : List Entry)
    → p ≡ q → IsCopied p spec longest amount es → IsCopied q spec longest amount es
copied_is {L = L} p q spec longest amount es is h =
    subst (λ (x : Copied L). IsCopied x spec longest amount es) is h

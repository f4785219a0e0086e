-- The seats of some roles, one more at a time.
use Rattle.std.proofs.Common.{◌≡◌, ℕ, ◌+◌, ◌<◌, List, [], ◌∷◌, ◌++◌, length, take, get_or, ap, ◌∙◌, arith}
use Rattle.std.proofs.lemmas.List.{take_more, length-take-le}
use Rattle.dd_calls.specs.declared.answers.Role.{Role}
use Rattle.dd_board.specs.declared.board.Seat.{Seat}
use Rattle.dd_board.specs.Boards.{seat_of, seats_from}

seats_push : {L : Type 0} (n : ℕ) (rs : List Role) (r : Role) (m : ℕ) → m ≡ n + length rs
    → seats_from {L = L} n (rs ++ r ∷ []) ≡ seats_from n rs ++ seat_of m r ∷ []
seats_push {L = L} n [] r m e =
    let same : n ≡ m = omega (arith, e) in ap (λ (k : ℕ). seat_of {L = L} k r ∷ []) same
seats_push {L = L} n (x ∷ rs) r m e =
    ap (λ (l : List (Seat L)). seat_of n x ∷ l) (seats_push {L = L} (n + 1) rs r m (omega (arith, e)))

pub seats_more : {L : Type 0} (roles : List Role) (k : ℕ) (d : Role) → k < length roles
    → seats_from {L = L} 0 (take (k + 1) roles) ≡ seats_from 0 (take k roles) ++ seat_of k (get_or roles k d) ∷ []
seats_more {L = L} roles k d within =
    ap (seats_from {L = L} 0) (take_more roles k d within)
    ∙ seats_push {L = L} 0 (take k roles) (get_or roles k d) k (omega (arith, length-take-le k roles (omega arith)))

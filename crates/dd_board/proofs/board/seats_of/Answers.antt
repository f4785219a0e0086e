use Rattle.std.proofs.Common.{ℕ, ◌+◌, length, ◌∙◌, List, [], ◌∷◌, ◌++◌, get_or, sym, ap, arith}
use Rattle.std.proofs.lemmas.List.{length_push}
use Rattle.dd_calls.specs.declared.answers.Role.TheVariants.{Drawer}
use Rattle.dd_board.specs.declared.board.Seat.{Seat}
use Rattle.dd_board.specs.Boards.{seat_of}
use Rattle.dd_board.specs.Seats.{Seated}
use Rattle.dd_board.proofs.Boards.{seats_more}
use Rattle.dd_board.proofs.board.seats_of.Goals as goal

pub loop-number-preserved : goal.loop-number-preserved
loop-number-preserved g c =
    let roles = c.args.roles.now in
    let k = c.loop-number.number in
    let here = c.seat_of.ensures
    ∙ ap (λ (n : ℕ). seat_of {L = g.row.L.Denot} n (get_or roles k Drawer))
    (ap (λ (s : Seated). s.number) c.new-actor.ensures) in (
      c.in_ok-push.ensures.items
          ∙ ap (λ (s : Seat g.row.L.Denot). c.loop-number.seats.items ++ s ∷ []) here
          ∙ ap (λ (l : List (Seat g.row.L.Denot)). l ++ seat_of k (get_or roles k Drawer) ∷ [])
          c.loop-number.invariant.0
          ∙ sym (seats_more {L = g.row.L.Denot} roles k Drawer c.loop-number-test.true),
      omega (arith, c.split_off-own.ensures.amount_left, c.loop-number.invariant.1),
      omega (arith, c.split_off-own.ensures.parts_left, c.loop-number.invariant.2),
      ap length c.in_ok-push.ensures.items ∙ length_push c.loop-number.seats.items c.seat_of.result
          ∙ ap (λ (n : ℕ). n + 1) c.loop-number.invariant.3,
    )

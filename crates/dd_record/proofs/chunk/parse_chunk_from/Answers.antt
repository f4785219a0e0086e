-- A bad field has come, so its place in the record is a number of 64 bits.
use Rattle.std.proofs.Common.{ℕ, ◌≤◌, ◌<◌, List, length, subst, arith}
use Rattle.std.specs.List.{All}
use Rattle.std.proofs.lemmas.List.{get_or_default}
use Rattle.dd_record.specs.Answers.{Stops}
use Rattle.dd_record.specs.Grammar.{chunk_of}
use Rattle.dd_record.proofs.Fits.{chunk_fits}
use Rattle.dd_record.proofs.Within.{bad_has_come}
use Rattle.dd_record.proofs.chunk.parse_chunk_from.Goals as goal

pub overflow_add-result : goal.overflow_add-result
overflow_add-result c =
    let bad = c.in-Err-Bad in
    let is = subst (λ e. Stops e (chunk_of c.args.mode c.args.bytes.now)) bad.field-0-is bad.ensures in
    let within : bad.offset ≤ length c.args.bytes.now = bad_has_come c.args.mode c.args.bytes.now bad.offset is in
    omega (arith, within)

pub returns-in-Ok-clause-fits : goal.returns-in-Ok-clause-fits
returns-in-Ok-clause-fits c =
    let bytes : List ℕ = c.args.bytes.now in
    let small : All (λ b. b < 256) bytes =
    λ i d within. rw (get_or_default bytes i d 0 within) (omega (arith, c.type_inv.bytes i)) in
    chunk_fits c.args.mode bytes c.in-Ok.parsed small c.in-Ok.ensures

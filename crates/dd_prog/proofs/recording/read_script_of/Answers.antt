-- An input that is none of a replay is none of a record.
use Rattle.std.proofs.lemmas.Result.{err_from_is_err_and}
use Rattle.dd_prog.specs.Exchange.{side}
use Rattle.dd_prog.proofs.ClientThere.{no_record, no_record_told}
use Rattle.dd_prog.proofs.recording.read_script_of.Goals as goal

pub returns-in_err-script-clause-reads : goal.returns-in_err-script-clause-reads
returns-in_err-script-clause-reads g c =
    let p = err_from_is_err_and c.from_residual.result c.from_residual.ensures.1 in
    let source = side g.S.Source.left g.S.Source.faults c.args.source.now c.read_script.new.source in
    rw (p.1, p.2) (no_record c.in_err-script.field-0.0 c.args.client source c.in_err-script.ensures.reads)

pub returns-in_err-script-clause-told : goal.returns-in_err-script-clause-told
returns-in_err-script-clause-told g c =
    let p = err_from_is_err_and c.from_residual.result c.from_residual.ensures.1 in
    let source = side g.S.Source.left g.S.Source.faults c.args.source.now c.read_script.new.source in
    rw (p.1, p.2) (no_record_told c.in_err-script.field-0.0 c.args.client source c.in_err-script.ensures.told)

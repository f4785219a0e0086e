-- The line was written, or the sink failed and took a front of it.
use Rattle.std.proofs.Common.{◌≡◌, ◌∙◌, ◌⊎◌, subst, inl, inr, Result, Ok, Err, OnOk, OnErr}
use Rattle.dd_prog.specs.Exchange.{side, TookOrFailed}
use Rattle.dd_prog.specs.Status.{line_of}
use Rattle.dd_prog.proofs.reporting.name_status.Goals as goal

all_or_failed : {T E : Type 0} (A B C : Type 0) (r : Result T E) → OnOk r A → OnErr r B → OnErr r C → A ⊎ (B × C)
all_or_failed A B C (Ok x) all front failed = inl all
all_or_failed A B C (Err e) all front failed = inr (front, failed)

pub returns-clause-named : goal.returns-clause-named
returns-clause-named g c =
    let wrote = c.write_all.ensures in
    let bytes : c.as_bytes.result.now ≡ line_of c.args.status = c.as_bytes.ensures.value ∙ c.line.ensures in
    subst (TookOrFailed (side g.N.Sink.held g.N.Sink.faults c.args.names.now c.write_all.new.k)) bytes
    (all_or_failed _ _ _ c.write_all.result wrote.appends wrote.prefix wrote.failed)

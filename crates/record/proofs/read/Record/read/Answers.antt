use Rattle.std.proofs.Common.{sym, subst, ◌∙◌, arith}
use Rattle.std.proofs.lemmas.Result.{err_from_is_err_and}
use Rattle.record.specs.Format.{Bytes}
use Rattle.record.specs.Reading.{record_run, read_fault}
use Rattle.record.specs.Readings.{Read}
use Rattle.record.proofs.Readable.{reading, one_reading, one_run, faulty_for, not_faulty}
use Rattle.record.proofs.read.Record.read.Goals as goal

pub returns-in_err-check-clause-reads : goal.returns-in_err-check-clause-reads
returns-in_err-check-clause-reads c =
    let bytes = c.args.bytes.now in
    let items : Bytes bytes = λ k. omega (arith, c.type_inv.bytes k) in
    let faulty = faulty_for (read_fault bytes) c.in_err-check.field-0.0 (sym c.in_err-check.was ∙ c.check.ensures) in
    let p = err_from_is_err_and c.from_residual.result c.from_residual.ensures.1 in
    rw (p.1, p.2) (subst (Read bytes (record_run bytes)) faulty (reading bytes items))

pub returns-in_err-check-clause-one : goal.returns-in_err-check-clause-one
returns-in_err-check-clause-one c =
    let bytes = c.args.bytes.now in
    let items : Bytes bytes = λ k. omega (arith, c.type_inv.bytes k) in
    (one_reading bytes items, one_run bytes)

pub returns-clause-reads : goal.returns-clause-reads
returns-clause-reads c =
    let bytes = c.args.bytes.now in
    let items : Bytes bytes = λ k. omega (arith, c.type_inv.bytes k) in
    subst (Read bytes (record_run bytes)) (not_faulty (read_fault bytes) c.in_ok-check.field-0 c.in_ok-check.ensures) (reading bytes items)

pub returns-clause-one : goal.returns-clause-one
returns-clause-one c =
    let bytes = c.args.bytes.now in
    let items : Bytes bytes = λ k. omega (arith, c.type_inv.bytes k) in
    (one_reading bytes items, one_run bytes)

use Rattle.std.proofs.Common.{◌≡◌, length, sum_by, arith, rules}
use Rattle.record.specs.Writing.{call_bytes}
use Rattle.record.proofs.Short.{fields_short}
use Rattle.record.proofs.writer.size_of_all.Goals as goal

pub returns-clause-short : goal.returns-clause-short
returns-clause-short c =
    let size : c.sum.result ≡ sum_by (λ call. length (call_bytes call)) c.args.calls.now = search rules in
    omega (arith, size, fields_short c.args.calls.now c.requires)

use Rattle.std.proofs.Common.{◌≡◌, sym, subst}
use Rattle.std.proofs.lemmas.Result.{err_from_is_err_and}
use Rattle.bench.specs.Benches.{bench_run}
use Rattle.bench.specs.Refusals.{Answers}
use Rattle.bench.specs.Tests.{refusal, answer}
use Rattle.bench.proofs.Refused.{answered, answer_none}
use Rattle.bench.proofs.Orderly.{Tested, lasts}
use Rattle.bench.proofs.bench.Bench.act.Goals as goal

pub returns-in_err-judge-clause-answers : goal.returns-in_err-judge-clause-answers
returns-in_err-judge-clause-answers c =
    let run = bench_run c.args.self.now in
    let a = c.args.action in
    let p = err_from_is_err_and c.from_residual.result c.from_residual.ensures.1 in
    let same : answer (refusal run a) ≡ c.from_residual.result = cc (p.1, p.2, c.in_err-judge.ensures) in
    subst (Answers run a) same (answered run a)

pub invariant_of-self : goal.invariant_of-self
invariant_of-self c =
    let b = c.args.self.now in
    let kept : Tested (bench_run b) = record { ranges = b.ranges; steps = b.steps; initials = b.initials; sources = b.sources; settlings = b.settlings } in
    let t = lasts (bench_run b) _ c.args.action (answer_none _ (sym c.in_ok-judge.ensures)) c.take.ensures kept in
    record { ranges = t.ranges; steps = t.steps; initials = t.initials; sources = t.sources; settlings = t.settlings }

pub returns-clause-answers : goal.returns-clause-answers
returns-clause-answers c =
    let run = bench_run c.args.self.now in
    subst (Answers run c.args.action) (sym c.in_ok-judge.ensures) (answered run c.args.action)

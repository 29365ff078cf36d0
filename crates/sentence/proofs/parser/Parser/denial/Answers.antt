use Rattle.std.proofs.Common.{true, [], drop, sym, refl, ◌∙◌}
use Rattle.sentence.specs.Looks.{first_role}
use Rattle.sentence.specs.Machine.{words, speaks, tilde_seen, operand, of_check, nothing, feed}
use Rattle.sentence.specs.Statements.{Stated, GetsStuck}
use Rattle.sentence.proofs.Looking.{handed, lacked}
use Rattle.sentence.proofs.Looked.{word_so}
use Rattle.sentence.proofs.Heard.{denial_off}
use Rattle.sentence.proofs.Phrases.{step_stated}
use Rattle.sentence.proofs.parser.Parser.denial.Goals as goal

pub returns-in_err-word : goal.returns-in_err-word
returns-in_err-word c =
    handed (Stated (λ p. tilde_seen p c.args.flag) c.args.self.sorts.now c.args.at) c.from_residual.result c.in_err-word.field-0.0 c.from_residual.ensures
    (lacked (GetsStuck (λ p. tilde_seen p c.args.flag) c.args.self.sorts.now c.args.at) c.in_err-word.ensures.value c.in_err-word.ensures.ok_part
    (λ p. denial_off c.args.self.sorts.now c.args.at p c.args.flag (sym c.word_at.ensures ∙ c.in_err-word.ensures.ok_part)))

pub returns : goal.returns
unfolding feed
returns c =
    step_stated c.args.self.sorts.now (λ p. tilde_seen p c.args.flag) (λ p. operand p (of_check c.args.flag true c.in_ok-word.word) [] nothing) c.args.at (speaks (words c.in_ok-word.word))
    (word_so (first_role (drop c.args.at c.args.self.sorts.now)) c.in_ok-word.word (sym c.word_at.ensures ∙ c.in_ok-word.ensures.ok_part)) (λ p. refl) c.claim.result c.claim.ensures

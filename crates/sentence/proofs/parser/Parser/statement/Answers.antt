use Rattle.std.proofs.Common.{false, [], drop, Some, sym, refl, ap, ◌∙◌}
use Rattle.sentence.specs.Looks.{first_role}
use Rattle.sentence.specs.Machine.{lets, flags, words, complements, speaks, ready, let_seen, flag_seen, tilde_seen, operand, of_check, nothing, feed}
use Rattle.sentence.specs.Statements.{Stated, GetsStuck}
use Rattle.sentence.proofs.Looking.{not_so, handed, lacked}
use Rattle.sentence.proofs.Looked.{speech_so}
use Rattle.sentence.proofs.Phrases.{ready_other, ready_none, step_stated}
use Rattle.sentence.proofs.parser.Parser.statement.Goals as goal

pub returns-then-stands : goal.returns-then-stands
unfolding feed
returns-then-stands c =
    step_stated c.args.self.sorts.now (λ p. ready p) (λ p. tilde_seen p false) c.args.at complements (c.stands.ensures.0 c.if-stands.true) (λ p. refl) c.denial.result c.denial.ensures

pub returns-in_err-speech : goal.returns-in_err-speech
returns-in_err-speech c =
    handed (Stated (λ p. ready p) c.args.self.sorts.now c.args.at) c.from_residual.result c.in_err-speech.field-0.0 c.from_residual.ensures
    (lacked (GetsStuck (λ p. ready p) c.args.self.sorts.now c.args.at) c.in_err-speech.ensures.value c.in_err-speech.ensures.ok_part
    (ready_none c.args.self.sorts.now c.args.at c.requires (not_so _ c.stands.ensures c.if-stands.false) (sym c.speech_at.ensures ∙ c.in_err-speech.ensures.ok_part)))

pub returns-in-Lets : goal.returns-in-Lets
unfolding feed
returns-in-Lets c =
    step_stated c.args.self.sorts.now (λ p. ready p) (λ p. let_seen p) c.args.at (speaks lets)
    (speech_so (first_role (drop c.args.at c.args.self.sorts.now)) lets (sym c.speech_at.ensures ∙ c.in_ok-speech.ensures.ok_part ∙ ap Some c.in-Lets.is)) (λ p. refl) c.binds.result c.binds.ensures

pub returns-in-Flags : goal.returns-in-Flags
unfolding feed
returns-in-Flags c =
    step_stated c.args.self.sorts.now (λ p. ready p) (λ p. flag_seen p) c.args.at (speaks flags)
    (speech_so (first_role (drop c.args.at c.args.self.sorts.now)) flags (sym c.speech_at.ensures ∙ c.in_ok-speech.ensures.ok_part ∙ ap Some c.in-Flags.is)) (λ p. refl) c.warning.result c.warning.ensures

pub returns-in-Words : goal.returns-in-Words
unfolding feed
returns-in-Words c =
    step_stated c.args.self.sorts.now (λ p. ready p) (λ p. operand p (of_check false false c.in-Words.word) [] nothing) c.args.at (speaks (words c.in-Words.word))
    (speech_so (first_role (drop c.args.at c.args.self.sorts.now)) (words c.in-Words.word) (sym c.speech_at.ensures ∙ c.in_ok-speech.ensures.ok_part ∙ ap Some c.in-Words.is)) (λ p. refl) c.claim.result c.claim.ensures

pub returns-in_default : goal.returns-in_default
returns-in_default c =
    ready_other c.args.self.sorts.now c.args.at c.in_ok-speech.speech (speech_so (first_role (drop c.args.at c.args.self.sorts.now)) c.in_ok-speech.speech (sym c.speech_at.ensures ∙ c.in_ok-speech.ensures.ok_part))
    c.in_default.not-Lets c.in_default.not-Flags c.in_default.not-Words

use Rattle.std.proofs.Common.{rules}
use Rattle.token.proofs.Unique.{one_answer}
use Rattle.token.proofs.Computed.{computed}
use Rattle.token.proofs.Words.{stuck_in_words}
use Rattle.token.proofs.lexer.lex.Goals as goal

pub returns-then-text-gt-BYTES : goal.returns-then-text-gt-BYTES
returns-then-text-gt-BYTES c = record { told = search rules; one = one_answer c.args.text.now; words = stuck_in_words; computed = computed c.args.text.now }

pub returns-in_err-check : goal.returns-in_err-check
returns-in_err-check c = record { told = search rules; one = one_answer c.args.text.now; words = stuck_in_words; computed = computed c.args.text.now }

pub returns : goal.returns
returns c = record { told = c.gather.ensures; one = one_answer c.args.text.now; words = stuck_in_words; computed = computed c.args.text.now }

use Rattle.term.proofs.term.Term.TheLaws.{the_size}
use Rattle.meaning.proofs.setting.Setting.+evaluate.Given as goal

abbrev pub decreases-evaluate : goal.decreases-evaluate
decreases-evaluate l = the_size l.term.now

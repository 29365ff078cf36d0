use Rattle.relation.specs.Masks.{Member, Related}
use Rattle.sentence.specs.declared.sign.Post.TheVariants as post
use Rattle.meaning.specs.Tables.{value_meaning}
use Rattle.meaning.proofs.Operated.{postfixed_made}
use Rattle.meaning.proofs.operate.postfixed.Goals as goal

pub returns-in-Plus : goal.returns-in-Plus
returns-in-Plus c =
    postfixed_made (Member c.args.universe) post.Plus c.in-Plus.is c.pairs.result (Related c.pairs_in-relation.result.rows) (value_meaning c.args.value) c.pairs.ensures c.closure.ensures c.pairs_in-relation.ensures

pub returns-in-Closure : goal.returns-in-Closure
returns-in-Closure c =
    postfixed_made (Member c.args.universe) post.Closure c.in-Closure.is c.pairs-in-Closure.result (Related c.pairs_in-relation.result.rows) (value_meaning c.args.value) c.pairs-in-Closure.ensures c.star.ensures c.pairs_in-relation.ensures

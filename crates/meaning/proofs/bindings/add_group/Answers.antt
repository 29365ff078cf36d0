use Rattle.std.proofs.Common.{map, min, ap, sym, ◌∙◌}
use lib.ListN.{length-map}
use Rattle.term.specs.Statements.{binding_of}
use Rattle.meaning.proofs.Knowing.{added_group}
use Rattle.meaning.proofs.bindings.add_group.Goals as goal

pub returns : goal.returns
returns c =
    let bindings = c.args.bindings.now in
    added_group c.args.base.now (map binding_of bindings) c.args.values.now c.put.new.values c.solve-found.result c.min.result
    (c.min.ensures ∙ ap (λ n. min n 64) (sym (length-map bindings binding_of)))
    (rw c.under.ensures.known at (rw c.under.ensures.base at c.solve-found.ensures)) c.put.ensures

use Rattle.std.proofs.Common.{map, arith}
use lib.ListN.{length-map}
use Rattle.term.specs.Statements.{binding_of}
use Rattle.meaning.specs.Systems.{System}
use Rattle.meaning.proofs.Gone.{at_read}
use Rattle.meaning.proofs.Valued.{value_body, nothing_body}
use Rattle.meaning.proofs.equations.GroupEquations.value.Goals as goal

pub returns-in-Some : goal.returns-in-Some
returns-in-Some c =
    let bindings = c.args.self.now.bindings.now in
    let h = c.in-Some.ensures.lookup in
    let s : System = record { base = c.args.self.now.setting.base.now; known = c.args.self.now.setting.known.now; bindings = map binding_of bindings } in
    value_body s c.args.found.now c.count.result c.args.slot (binding_of c.in-Some.binding.now) c.evaluate.result (omega arith) c.count.ensures
    (at_read binding_of bindings c.args.slot c.in-Some.binding.now h.3.0 h.1) c.evaluate.ensures c.pairs_in.ensures

pub returns-in-None : goal.returns-in-None
returns-in-None c = nothing_body _ _ c.args.slot (omega (arith, length-map c.args.self.now.bindings.now binding_of, c.in-None.ensures.lookup.3)) c.none.ensures

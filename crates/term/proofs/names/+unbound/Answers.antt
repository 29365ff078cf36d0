use Rattle.std.proofs.Common.{ap}
use Rattle.term.specs.Terms.{term_of}
use Rattle.term.proofs.Shapes.{shape_joined}
use Rattle.term.proofs.Naming.{names_none, names_unbound, names_inside, names_joined}
use Rattle.term.proofs.names.+unbound.Goals as goal

pub returns-in-Given : goal.returns-in-Given
returns-in-Given t c = names_none c.in-Given.is

pub returns-in-Given-2 : goal.returns-in-Given-2
returns-in-Given-2 t c = names_none c.in-Given.is

pub returns-in-Unbound : goal.returns-in-Unbound
returns-in-Unbound t c = names_unbound (ap term_of c.in-Unbound.is)

pub returns-in-Test : goal.returns-in-Test
returns-in-Test t c = names_inside c.in-Test.is c.deref-in-Test.ensures c.unbound-in-Test.ensures

pub returns-in-Joined : goal.returns-in-Joined
returns-in-Joined t c = names_joined (shape_joined c.in-Joined.is c.deref.ensures c.deref-in-Joined.ensures) c.lower.ensures c.unbound.ensures c.unbound-in-Joined.ensures

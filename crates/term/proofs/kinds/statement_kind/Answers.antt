use Rattle.std.proofs.Common.{◌++◌, map, vec_items, sym, ap, ◌∙◌}
use Rattle.term.specs.Statements.{statement_of}
use Rattle.term.specs.Kinds.{relation}
use Rattle.term.proofs.Kinding.{grouped}
use Rattle.term.proofs.kinds.statement_kind.Goals as goal

pub returns-in_ok-add_relations-in-Group : goal.returns-in_ok-add_relations-in-Group
returns-in_ok-add_relations-in-Group c =
    let e =
    grouped (vec_items c.args.known.now) (vec_items c.add_relations.new.known) (vec_items c.in-Group.bindings) (ap statement_of c.in-Group.is) c.as_slice-in-Group-3.ensures.value
    (c.in_ok-add_relations-in-Group.ensures ∙ ap (λ l. vec_items c.args.known.now ++ map (λ _. relation) l) (c.as_slice-in-Group.ensures.value ∙ sym c.as_slice-in-Group-3.ensures.value))
    c.as_slice-in-Group-2.ensures.value c.group_kind.ensures in
    record { fault = e.0; known = e.1 }

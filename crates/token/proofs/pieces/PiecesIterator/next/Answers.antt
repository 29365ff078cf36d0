use Rattle.std.proofs.Common.{◌≡◌, ◌+◌, ◌<◌, ◌≤◌, length, drop, ap, ◌∙◌, rules}
use Rattle.std.proofs.lemmas.List.{take_rest}
use Rattle.token.specs.Items.{item_of}
use Rattle.token.specs.Views.{stretch_view, parted}
use Rattle.token.proofs.Keeping.{stretch_inside}
use Rattle.token.proofs.pieces.PiecesIterator.next.Goals as goal
use Rattle.token.proofs.pieces.PiecesIterator.next.Goals.{In-Some}

-- the piece is that of the text
here : (c : In-Some) → stretch_view c.in-Some.piece.token c.in-Some.piece.length ≡ parted (item_of (drop c.args.self.now.at c.args.self.now.text.now))
here c = c.in-Some.ensures ∙ ap (λ t. parted (item_of t)) (take_rest c.args.self.now.text.now c.args.self.now.at)

-- it has a byte, and stays within the text
inside : (c : In-Some) → (0 < c.in-Some.piece.length) × (c.args.self.now.at + c.in-Some.piece.length ≤ length c.args.self.now.text.now)
inside c = stretch_inside c.args.self.now.text.now c.args.self.now.at c.in-Some.piece.token c.in-Some.piece.length c.args.self.now.within (here c)

pub overflow_add-self : goal.overflow_add-self
overflow_add-self c =
    let h : c.args.self.now.at + c.in-Some.piece.length ≤ length c.args.self.now.text.now = (inside (goal.at.overflow_add-self c).In-Some).1 in
    search rules

pub invariant_of-self-2 : goal.invariant_of-self-2
invariant_of-self-2 c = record { within = (inside (goal.at.invariant_of-self-2 c).In-Some).1 }

pub returns-clause-goes : goal.returns-clause-goes
returns-clause-goes c =
    let some : 0 < c.in-Some.piece.length = (inside (goal.at.returns-clause-goes c).In-Some).0 in
    let h : c.args.self.now.at + c.in-Some.piece.length ≤ length c.args.self.now.text.now = (inside (goal.at.returns-clause-goes c).In-Some).1 in
    search rules

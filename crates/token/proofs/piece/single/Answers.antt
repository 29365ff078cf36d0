use Rattle.std.proofs.Common.{sym, ap, arith}
use Rattle.std.proofs.lemmas.Bool.Decides.{nat_tests}
use Rattle.token.specs.Items.{single}
use Rattle.token.specs.Views.{parted}
use Rattle.token.proofs.piece.single.Goals as goal

pub returns-in-41 : goal.returns-in-41
unfolding single
returns-in-41 c = sym (ap (λ b. parted (single b)) c.in-41.is)

pub returns-in-91 : goal.returns-in-91
unfolding single
returns-in-91 c = sym (ap (λ b. parted (single b)) c.in-91.is)

pub returns-in-93 : goal.returns-in-93
unfolding single
returns-in-93 c = sym (ap (λ b. parted (single b)) c.in-93.is)

pub returns-in-124 : goal.returns-in-124
unfolding single
returns-in-124 c = sym (ap (λ b. parted (single b)) c.in-124.is)

pub returns-in-59 : goal.returns-in-59
unfolding single
returns-in-59 c = sym (ap (λ b. parted (single b)) c.in-59.is)

pub returns-in-92 : goal.returns-in-92
unfolding single
returns-in-92 c = sym (ap (λ b. parted (single b)) c.in-92.is)

pub returns-in-38 : goal.returns-in-38
unfolding single
returns-in-38 c = sym (ap (λ b. parted (single b)) c.in-38.is)

pub returns-in-42 : goal.returns-in-42
unfolding single
returns-in-42 c = sym (ap (λ b. parted (single b)) c.in-42.is)

pub returns-in-126 : goal.returns-in-126
unfolding single
returns-in-126 c = sym (ap (λ b. parted (single b)) c.in-126.is)

pub returns-in-43 : goal.returns-in-43
unfolding single
returns-in-43 c = sym (ap (λ b. parted (single b)) c.in-43.is)

pub returns-in-63 : goal.returns-in-63
unfolding single
returns-in-63 c = sym (ap (λ b. parted (single b)) c.in-63.is)

pub returns-in-61 : goal.returns-in-61
unfolding single
returns-in-61 c = sym (ap (λ b. parted (single b)) c.in-61.is)

pub returns-in_default : goal.returns-in_default
unfolding single
returns-in_default c = grind (arith, nat_tests)

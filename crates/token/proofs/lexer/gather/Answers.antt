use Rattle.std.proofs.Common.{◌≡◌, ◌∷◌, [], ◌++◌, length, Err, sym, ap, ◌∙◌, subst, rules}
use Rattle.token.specs.Views.{stretch_view}
use Rattle.token.specs.Lexings.{Crowded, Told}
use Rattle.token.proofs.Walks.{Gathered, gathered_word}
use Rattle.token.proofs.Keeping.{piece_given, fault_given, gathered_gap, gathered_full}
use Rattle.token.proofs.lexer.gather.Goals as goal

pub returns-in_err-place : goal.returns-in_err-place
returns-in_err-place c =
    let told : Told c.args.text.now (Err c.in_err-place.field-0.0) =
    fault_given c.args.text.now c.loop-piece.piece-iterator c.next.new.self c.in-Some.piece c.in_err-place.field-0.0 c.requires.short (record { found = _; walks = c.loop-piece.invariant.3.walks }) c.loop-piece.invariant.2
    c.in-Some.ensures.steps c.in_err-place.was in
    search rules

pub loop-piece-preserved-in_default : goal.loop-piece-preserved-in_default
loop-piece-preserved-in_default c =
    let p = piece_given c.args.text.now c.loop-piece.piece-iterator c.next.new.self c.in-Some.piece (c.in_ok-place.place, c.in_ok-place.piece) c.loop-piece.invariant.2 c.in-Some.ensures.steps c.in_ok-place.was in
    let none = ap (λ t. stretch_view t c.in_ok-place.piece.length) (sym c.in_default.is) ∙ p.1 in (
      tt,
      tt,
      p.3,
      subst (λ n. Gathered c.args.text.now n c.loop-piece.found.items) (sym p.2)
          (gathered_gap c.args.text.now c.loop-piece.piece-iterator.at c.loop-piece.found.items c.in_ok-place.piece.length c.loop-piece.invariant.3 none),
    )

pub returns-then-len-eq-TOKENS : goal.returns-then-len-eq-TOKENS
returns-then-len-eq-TOKENS c =
    let p = piece_given c.args.text.now c.loop-piece.piece-iterator c.next.new.self c.in-Some.piece (c.in_ok-place.place, c.in_ok-place.piece) c.loop-piece.invariant.2 c.in-Some.ensures.steps c.in_ok-place.was in
    let some = ap (λ t. stretch_view t c.in_ok-place.piece.length) (sym c.in-Some-token.is) ∙ p.1 in
    let full : length c.loop-piece.found.items ≡ 1024 = search rules in (
      c.requires.short,
      subst (Crowded c.args.text.now) (sym p.0)
          (gathered_full c.args.text.now c.loop-piece.piece-iterator.at c.loop-piece.found.items c.in-Some-token.token c.in_ok-place.piece.length c.requires.lexable c.loop-piece.invariant.3 full some),
    )

pub loop-piece-preserved : goal.loop-piece-preserved
loop-piece-preserved c =
    let p = piece_given c.args.text.now c.loop-piece.piece-iterator c.next.new.self c.in-Some.piece (c.in_ok-place.place, c.in_ok-place.piece) c.loop-piece.invariant.2 c.in-Some.ensures.steps c.in_ok-place.was in
    let some = ap (λ t. stretch_view t c.in_ok-place.piece.length) (sym c.in-Some-token.is) ∙ p.1 in
    let size : length c.loop-piece.found.items ≡ c.len.result = search rules in
    let pushed : c.push.new.self.items ≡ c.loop-piece.found.items ++ (record { token = c.in-Some-token.token; place = c.in_ok-place.place } ∷ []) = search rules in (
      tt,
      tt,
      p.3,
      subst (λ n. Gathered c.args.text.now n c.push.new.self.items) (sym p.2)
          (gathered_word c.args.text.now c.loop-piece.piece-iterator.at c.loop-piece.found.items c.push.new.self.items _ c.in_ok-place.piece.length c.loop-piece.invariant.3
          (λ e. c.if-len-eq-TOKENS.false (sym size ∙ e)) pushed p.0 some),
    )

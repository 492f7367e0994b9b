use Rattle.std.proofs.Common.{◌≡◌, ◌+◌, ◌≤◌, ◌<◌, length, refl, ap, ◌∙◌, arith, length-append}
use Rattle.std.proofs.lemmas.List.{length-map}
use Rattle.jr_lexer.specs.declared.stored.Stored.{Stored}
use Rattle.jr_lexer.specs.Token.{token_of, tokens_of}
use Rattle.jr_lexer.proofs.Texts.{pushed, within_more, within_push}
use Rattle.jr_lexer.proofs.tokens.Tokens.push.Goals as goal

pub invariant_of-self-in_err-push : goal.invariant_of-self-in_err-push
invariant_of-self-in_err-push c =
    let le : length c.self.inside.texts.items ≤ length c.extend_from_slice.new.self.items = omega (arith, ap length c.in_ok-extend_from_slice.ensures.items, length-append c.self.inside.texts.items c.args.text.now) in
    rw c.in_err-push.ensures.items (within_more _ _ _ le c.self.invariant.0, c.self.invariant.1)

pub invariant_of-self-2 : goal.invariant_of-self-2
invariant_of-self-2 c =
    let both : length c.extend_from_slice.new.self.items ≡ length c.self.inside.texts.items + length c.args.text.now = ap length c.in_ok-extend_from_slice.ensures.items ∙ length-append c.self.inside.texts.items c.args.text.now in
    let start : c.len.result ≡ length c.self.inside.texts.items = omega (arith, c.len.ensures, c.self.inside.texts.ok.0) in
    let count : length c.self.inside.stored.items < 1048576 = omega (arith, c.requires.room, ap length c.self.view_is, length-map c.self.inside.stored.items (token_of c.self.inside.texts.items)) in
    rw c.in_ok-push.ensures.items (within_push _ _ _ (within_more _ _ _ (omega arith) c.self.invariant.0) (omega arith), omega (arith, length-append {A = Stored}))

pub returns : goal.returns
returns c =
    let before : tokens_of c.self.inside.texts.items c.self.inside.stored.items ≡ c.args.self.now = c.self.view_is in
    let start : c.len.result ≡ length c.self.inside.texts.items = omega (arith, c.len.ensures, c.self.inside.texts.ok.0) in
    rw (c.in_ok-push.ensures.items, c.in_ok-extend_from_slice.ensures.items, ← before) (pushed _ _ _ _ c.self.invariant.0 start refl)

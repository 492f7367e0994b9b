use Rattle.std.proofs.Common.{◌≡◌, ◌∙◌, sym, ap, Some}
use Rattle.std.specs.Prelude.{slice_get}
use Rattle.std.proofs.lemmas.Option.{slice_get_past, slice_get-get_or}
use Rattle.jr_lexer.proofs.Texts.{within_at, text_there, no_text}
use Rattle.jr_lexer.proofs.tokens.text_in.Goals as goal

pub part-requires : goal.part-requires
part-requires c =
    let w = c.in-Some.token.now in
    let found : Some w ≡ slice_get c.args.stored.now c.args.at = ap Some (c.in-Some.ensures.lookup.3.1 w) ∙ sym (slice_get-get_or c.args.stored.now c.args.at w c.in-Some.ensures.lookup.3.0) in
    within_at _ c.args.stored.now c.args.at w c.requires found

pub returns-in-None : goal.returns-in-None
returns-in-None c = no_text c.args.texts.now c.args.stored.now c.args.at (sym (slice_get_past c.args.stored.now c.args.at c.in-None.ensures.lookup.3))

pub returns-in-Some : goal.returns-in-Some
returns-in-Some c =
    let w = c.in-Some.token.now in
    let found : Some w ≡ slice_get c.args.stored.now c.args.at = ap Some (c.in-Some.ensures.lookup.3.1 w) ∙ sym (slice_get-get_or c.args.stored.now c.args.at w c.in-Some.ensures.lookup.3.0) in
    rw c.part.ensures (text_there c.args.texts.now c.args.stored.now c.args.at w found)

-- Behind the last token no modifier stands.
use Rattle.std.proofs.Common.{◌≡◌, ℕ, ◌≤◌, Bool, true, false, List, length, Option, None, sym, ap, refl, ◌∙◌}
use Rattle.std.proofs.lemmas.Option.{slice_get_past}
use Rattle.jr_lexer.specs.declared.kind.Kind.TheVariants as k
use Rattle.jr_lexer.specs.Token.{Token}
use Rattle.jr_lexer.specs.Reading.{jml_at, kind_at, kind_of}
use Rattle.jr_unit_parser.specs.Grammar.{modifier_of}

no_word : (b : Bool) → None ≡ modifier_of b k.End
no_word true = refl
no_word false = refl

pub no_word_behind : (ts : List Token) (at : ℕ) → length ts ≤ at → None ≡ modifier_of (jml_at ts at) (kind_at ts at)
no_word_behind ts at past = no_word (jml_at ts at) ∙ ap (λ (t : Option Token). modifier_of (jml_at ts at) (kind_of t)) (sym (slice_get_past ts at past))

-- Worked examples of the definitions.
use Rattle.std.proofs.Common.{◌≡◌, ℕ, Bool, true, false, List, [], ◌∷◌, refl, codes}
use Rattle.std.specs.Prelude.{Ok}
use Rattle.std.specs.List.{flat_map}
use Rattle.jr_ops.specs.Keywords.{keywords, keyword_row}
use Rattle.jr_lexer.specs.declared.kind.Kind.{Kind}
use Rattle.jr_lexer.specs.declared.kind.Kind.TheVariants as k
use Rattle.jr_lexer.specs.Numbers.{big_literal, no_number}
use Rattle.jr_lexer.specs.Signs.{longest_sign}
use Rattle.jr_lexer.specs.Token.{Token}
use Rattle.jr_lexer.specs.Lexical.{word_kind, word, backslash_kind, backslash_word, integer, string, sign, token, jml_piece, annotation, line_comment, block_comment, java_piece, java}
use Rattle.jr_token_laws.specs.Elements.{Ats, JmlToken, Element, Blank, LineComment, BlockComment, JavaToken, LineAnnotation, BlockAnnotation, bytes_of, tokens_of}

abbrev plain : Bool → ℕ → ℕ → Kind → List ℕ → Token
plain jml start end kind text = record { kind = kind; text = text; number = no_number; span = record { start = start; end = end }; jml = jml }

-- the elements of `a/*@x@@*/ //@@;`
abbrev some_elements : List Element
some_elements =
    JavaToken (plain false 0 1 k.Name (codes "a")) (codes "a")
    ∷ BlockAnnotation (Ats 1 ∷ JmlToken (plain true 4 5 k.Name (codes "x")) (codes "x") ∷ []) 2
    ∷ Blank 32
    ∷ LineAnnotation (Ats 2 ∷ JmlToken (plain true 14 15 k.Semicolon (codes ";")) (codes ";") ∷ [])
    ∷ []

bytes : flat_map bytes_of some_elements ≡ codes "a/*@x@@*/ //@@;"
bytes = refl

read : java (codes "a/*@x@@*/ //@@;") ≡ Ok (flat_map tokens_of some_elements)
unfolding keywords keyword_row longest_sign word_kind word backslash_kind backslash_word integer string sign token big_literal jml_piece annotation line_comment block_comment java_piece java
read = refl

-- the elements of `/**/ //x`
abbrev no_tokens : List Element
no_tokens = BlockComment [] ∷ Blank 32 ∷ LineComment (codes "x") ∷ []

comments : flat_map bytes_of no_tokens ≡ codes "/**/ //x"
comments = refl

nothing_read : java (codes "/**/ //x") ≡ Ok (flat_map tokens_of no_tokens)
unfolding longest_sign word backslash_word integer string sign token jml_piece annotation line_comment block_comment java_piece java
nothing_read = refl

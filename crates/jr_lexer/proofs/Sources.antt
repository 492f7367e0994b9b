-- A source is UTF-8, or is not.
use Rattle.std.proofs.Common.{◌≡◌, ℕ, List, refl, false}
use Rattle.std.specs.Prelude.{Err, IsUtf8}
use Rattle.std.specs.Str.{is_utf8}
use Rattle.std.specs.Str.Lossy.{utf8_valid_len}
use Rattle.std.proofs.lemmas.Str.{IsUtf8-from_is_utf8, is_utf8-from_IsUtf8}
use Rattle.std.proofs.lemmas.Bool.{false_from_ne_true}
use Rattle.jr_base.specs.declared.number.Span.{Span}
use Rattle.jr_base.specs.declared.refusal.Refusal.TheVariants.{BadUtf8}
use Rattle.jr_lexer.specs.Lexical.{here, java, tokens}

pub not_utf8 : (z : List ℕ) (at : ℕ) (span : Span) → (IsUtf8 z → ⊥) → at ≡ utf8_valid_len z → span ≡ here at → tokens z ≡ Err (BadUtf8 span)
unfolding tokens
not_utf8 z at span otherwise first place =
    let test : is_utf8 z ≡ false = false_from_ne_true _ (λ yes. otherwise (IsUtf8-from_is_utf8 z yes)) in
    rw (test, place, first) refl

pub utf8 : (z : List ℕ) → IsUtf8 z → tokens z ≡ java z
unfolding tokens
utf8 z is = rw (is_utf8-from_IsUtf8 z is) refl

-- For what the tokens of a source are refused.
use Rattle.std.specs.Prelude.{Bool, true, false, IsTrue, Result, Ok, Err}
use Rattle.jr_base.specs.declared.refusal.Refusal.{Refusal}
use Rattle.jr_base.specs.declared.refusal.Refusal.TheVariants.{BadUtf8, BadToken, OpenComment, BigLiteral, LongText}

abbrev pub is_lexical : Refusal → Bool
is_lexical (BadUtf8 span) = true
is_lexical (BadToken span) = true
is_lexical (OpenComment span) = true
is_lexical (BigLiteral span) = true
is_lexical (LongText span) = true
is_lexical _ = false

-- nothing else refuses it
abbrev pub RefusesLexically : {A : Type 0} → Result A Refusal → Type 0
RefusesLexically (Ok x) = Unit {0}
RefusesLexically (Err r) = IsTrue (is_lexical r)

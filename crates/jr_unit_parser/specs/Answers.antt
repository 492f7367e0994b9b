-- What the reader of a source answers.
use Rattle.std.specs.Prelude.{◌≡◌, ◌<◌, ℕ, List, length, Result, Ok, Err}
use Rattle.jr_base.specs.declared.refusal.Refusal.{Refusal}
use Rattle.jr_base.specs.declared.refusal.Fail.{Fail}
use Rattle.jr_lexer.specs.Token.{Token}
use Rattle.jr_ast.specs.declared.unit.Unit.{Unit as UnitTree}
use Rattle.jr_ast.specs.Units.{Class, view_unit}
use Rattle.jr_reading.specs.Answers as answers
use Rattle.jr_reading.specs.Limits.{nesting_limit}
use Rattle.jr_stmt_parser.specs.Answers.{LeftOutFrom, BigLiteralIn}
use Rattle.jr_unit_parser.specs.Begins.{OtherLabel}
use Rattle.jr_unit_parser.specs.Grammar.{SpellsUnit}
use Rattle.jr_unit_parser.specs.Nesting.{ShallowUnit}

-- all tokens spell the classes, whatever index is named
abbrev pub Spelled : List Token → List Class → ℕ → Type 0
Spelled ts cs j = SpellsUnit ts cs

-- NotInProfile names a word or sign that is left out, or a label that isn't `commit`; BigLiteral the big literal
-- of a type, of code or of an annotation, which is not itself the operand of a unary `-`; and Syntax any token.
abbrev pub Refuses : List Token → Refusal → Type 0
Refuses ts r = answers.Refuses (Spelled ts) ShallowUnit (LeftOutFrom ts (OtherLabel ts) 0) (BigLiteralIn ts 0) (nesting_limit < length ts) r

abbrev pub Fails : List Token → Fail → Type 0
Fails ts f = answers.Fails (Refuses ts) f

-- the classes that the tokens spell, which nest within the limit
pub record Fits (ts : List Token) (cs : List Class) : Type 0 where
  pub spelled : SpellsUnit ts cs
  pub shallow : ShallowUnit cs

-- what is answered for a source
abbrev pub Answers : List Token → Result UnitTree Fail → Type 0
Answers ts (Ok u) = Fits ts (view_unit u)
Answers ts (Err f) = Fails ts f

-- the tokens spell one unit at most
abbrev pub OneUnit : List Token → Type 0
OneUnit ts = (cs ds : List Class) → SpellsUnit ts cs → SpellsUnit ts ds → cs ≡ ds

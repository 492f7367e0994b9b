-- What the bytes of a source mean: the program that they spell, or why they are refused.
use Rattle.std.specs.Prelude.{◌≡◌, ◌≤◌, ℕ, IsTrue, List, length, Result, Ok, Err}
use Rattle.jr_base.specs.declared.refusal.Refusal.{Refusal}
use Rattle.jr_base.specs.declared.refusal.Fail.{Fail}
use Rattle.jr_base.specs.declared.refusal.Fail.TheVariants.{Refused, Memory}
use Rattle.jr_lexer.specs.Token.{Token}
use Rattle.jr_lexer.specs.Lexical.{tokens}
use Rattle.jr_lexer.specs.Refusals.{is_lexical}
use Rattle.jr_ast.specs.Units.{Class}
use Rattle.jr_unit_parser.specs.Answers.{Fits, Refuses}
use Rattle.jr_program.specs.Programs.{Program}
use Rattle.jr_program.specs.UnitViews.{program_of}
use Rattle.jr_program.specs.declared.parts.UnitParts.{UnitParts}
use Rattle.jr_typing_rules.specs.Answers.{Good, Bad}
use Rattle.jr_typing_rules.specs.Whole.{typing}
use Rattle.jr_safepoints.specs.Whole.{position}

-- the bytes have tokens, which spell these classes, nested within the limit
pub record SpellsClasses (bytes : List ℕ) (classes : List Class) : Type 0 where
  pub read : List Token
  pub lexed : tokens bytes ≡ Ok read
  pub spelled : Fits read classes

-- The bytes, not more than a source may have, spell classes that keep the rules of names, types, clauses and sites, and by
-- these rules it is this program.
pub record Spells (bytes : List ℕ) (program : Program) : Type 0 where
  pub short : length bytes ≤ 1048576
  pub classes : List Class
  pub unit : SpellsClasses bytes classes
  pub typed : typing (position bytes) classes ≡ Good program

-- the bytes spell classes that break one of these rules, and that is the refusal of the first of them
pub record BreaksARule (bytes : List ℕ) (refusal : Refusal) : Type 0 where
  pub classes : List Class
  pub unit : SpellsClasses bytes classes
  pub typed : typing (position bytes) classes ≡ Bad refusal

-- the bytes have tokens, which spell no unit within the limit, for this cause
pub record IsUnread (bytes : List ℕ) (refusal : Refusal) : Type 0 where
  pub read : List Token
  pub lexed : tokens bytes ≡ Ok read
  pub cause : Refuses read refusal

-- Why a source is refused, and as what: for its tokens; for what they spell; or for a rule that this breaks.
pub data IsRefused (bytes : List ℕ) : Refusal → Type 0 where
  for_tokens : {r : Refusal} → tokens bytes ≡ Err r → IsTrue (is_lexical r) → IsRefused bytes r
  for_syntax : {r : Refusal} → IsUnread bytes r → IsRefused bytes r
  for_rules : {r : Refusal} → BreaksARule bytes r → IsRefused bytes r

-- Each answer but want of memory comes where it is true.
abbrev pub Reads : List ℕ → Result UnitParts Fail → Type 0
Reads bytes (Ok unit) = Spells bytes (program_of unit)
Reads bytes (Err (Refused refusal)) = IsRefused bytes refusal
Reads bytes (Err Memory) = Unit {0}

-- Bytes spell at most one program, and are refused where they spell none alone.
pub record IsOneMeaning (bytes : List ℕ) : Type 0 where
  pub one_program : (p q : Program) → Spells bytes p → Spells bytes q → p ≡ q
  pub program_or_refused : (p : Program) (r : Refusal) → Spells bytes p → IsRefused bytes r → ⊥

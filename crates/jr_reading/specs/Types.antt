-- What a type is (JLS 4.1, 10.1).
use Rattle.std.specs.Prelude.{◌≡◌, ℕ, ◌+◌, false, List, Option, Some, None}
use Rattle.jr_lexer.specs.declared.kind.Kind.{Kind}
use Rattle.jr_lexer.specs.declared.kind.Kind.TheVariants as k
use Rattle.jr_lexer.specs.Token.{Token}
use Rattle.jr_ast.specs.declared.name.Name.{Name}
use Rattle.jr_ast.specs.declared.name.ElementType.{ElementType}
use Rattle.jr_ast.specs.declared.name.ElementType.TheVariants as element
use Rattle.jr_ast.specs.declared.name.TypeName.{TypeName}
use Rattle.jr_ast.specs.declared.name.TypeName.TheVariants as types
use Rattle.jr_reading.specs.Seen.{seen, name_at}

-- a type of no array, of which a class is written by its name
abbrev pub element_of : Kind → Name → Option ElementType
element_of k.Int name = Some element.Int
element_of k.Long name = Some element.Long
element_of k.Boolean name = Some element.Boolean
element_of k.Name name = Some (element.Class name)
element_of _ name = None

-- TypeOf ts i t j: the tokens of code from index i up to index j spell the type t: `int`, `long`, `boolean` or a
-- class, or an array of one of these.
pub data TypeOf (ts : List Token) : ℕ → TypeName → ℕ → Type 0 where
  single : {i : ℕ} {t : ElementType} → element_of (seen false ts i) (name_at ts i) ≡ Some t → TypeOf ts i (types.Single t) (i + 1)
  array : {i : ℕ} {t : ElementType} → element_of (seen false ts i) (name_at ts i) ≡ Some t
      → seen false ts (i + 1) ≡ k.OpenBracket → seen false ts (i + 2) ≡ k.CloseBracket → TypeOf ts i (types.ArrayOf t) (i + 3)

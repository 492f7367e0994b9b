-- The reader of what holds no clause and no block, as functions of the tokens and an index. Only contracts of
-- private functions cite these.
use Rattle.std.specs.Prelude.{ℕ, zero, suc, ◌+◌, nat_le, nat_lt, Bool, true, false, not, if◌then◌else◌, ◌==◌, List, [], ◌∷◌, ◌++◌, length, codes, Option, Some, None, Result, Ok, Err}
use Rattle.jr_base.specs.declared.refusal.Refusal.{Refusal}
use Rattle.jr_base.specs.declared.refusal.Refusal.TheVariants as refusal
use Rattle.jr_lexer.specs.declared.kind.Kind.{Kind}
use Rattle.jr_lexer.specs.declared.kind.Kind.TheVariants as k
use Rattle.jr_lexer.specs.Token.{Token}
use Rattle.jr_lexer.specs.Reading.{kind_at, jml_at, value_at, big_at, span_at}
use Rattle.jr_ast.specs.declared.name.TypeName.{TypeName}
use Rattle.jr_ast.specs.declared.unit.Modifier.{Modifier}
use Rattle.jr_ast.specs.declared.unit.ModifierKind.TheVariants as modifier
use Rattle.jr_ast.specs.declared.unit.Constant.{Constant}
use Rattle.jr_ast.specs.declared.unit.ConstantValue.{ConstantValue}
use Rattle.jr_ast.specs.declared.unit.ConstantValue.TheVariants as value
use Rattle.jr_ast.specs.declared.unit.FieldDeclarator.{FieldDeclarator}
use Rattle.jr_ast.specs.declared.unit.Formal.{Formal}
use Rattle.jr_ast.specs.declared.unit.MethodKind.{MethodKind}
use Rattle.jr_ast.specs.declared.unit.MethodKind.TheVariants as kind
use Rattle.jr_reading.specs.Seen.{seen, name_at, literal_at}
use Rattle.jr_reading.specs.Outcomes.{Outcome, ◌>>=◌, one_or}
use Rattle.jr_reading.specs.Steps.{refusal_at, sees, expect, expect_text, type_name, listed}
use Rattle.jr_unit_parser.specs.declared.head.ClassHead.{ClassHead}
use Rattle.jr_unit_parser.specs.declared.head.Declared.{Declared}
use Rattle.jr_unit_parser.specs.declared.head.Declared.TheVariants as declared
use Rattle.jr_unit_parser.specs.Grammar.{is_part, begins_import, modifier_of, modifier_at}

-- the words that begin a clause of a method or constructor, and those that begin one of a class
abbrev pub begins_method_clause : Kind → Bool
begins_method_clause k.Requires = true
begins_method_clause k.Ensures = true
begins_method_clause k.When = true
begins_method_clause k.Locks = true
begins_method_clause k.Assignable = true
begins_method_clause k.Modifies = true
begins_method_clause _ = false

abbrev pub begins_class_clause : Kind → Bool
begins_class_clause k.Public = true
begins_class_clause k.Private = true
begins_class_clause k.Protected = true
begins_class_clause k.Static = true
begins_class_clause k.Invariant = true
begins_class_clause k.Constraint = true
begins_class_clause k.MonitorsFor = true
begins_class_clause _ = false

module _ (ts : List Token) where
  -- where a clause of a method begins, a member, and a class
  unfoldable pub clause_begins : ℕ → Bool
  clause_begins i = begins_method_clause (seen true ts i)

  unfoldable pub member_begins : ℕ → Bool
  member_begins i = not (sees false ts i k.CloseBrace)

  unfoldable pub class_begins : ℕ → Bool
  class_begins i = nat_lt i (length ts)

  -- ---- packages and imports

  unfoldable pub dotted : ℕ → ℕ → Result ℕ Refusal
  dotted zero i = Ok i
  dotted (suc n) i = if sees false ts i k.Dot then (if is_part (seen false ts (i + 1)) then dotted n (i + 2) else Err (refusal_at ts (i + 1))) else Ok i

  -- one of them
  unfoldable pub import_at : ℕ → Result ℕ Refusal
  import_at i =
      expect false ts (i + 1) k.Name >>= λ u.
      dotted (length ts) (i + 2) >>= λ j.
      expect false ts j k.Semicolon >>= λ u.
      Ok (j + 1)

  unfoldable pub imports : ℕ → ℕ → Result ℕ Refusal
  imports zero i = Ok i
  imports (suc n) i = if begins_import (seen false ts i) then (import_at i >>= λ j. imports n j) else Ok i

  -- ---- modifiers

  unfoldable pub mark : ℕ → Option (Modifier × ℕ)
  mark i = if sees false ts i k.At then (if sees false ts (i + 1) k.Name then Some (modifier_at ts i modifier.Mark, i + 2) else None) else None

  unfoldable pub one_modifier : ℕ → Option (Modifier × ℕ)
  one_modifier i = one_or (modifier_of (jml_at ts i) (kind_at ts i)) (mark i) (λ kind. Some (modifier_at ts i kind, i + 1))

  unfoldable pub modifiers : ℕ → List Modifier → ℕ → Outcome (List Modifier)
  modifiers zero found i = Ok (found, i)
  modifiers (suc n) found i = one_or (one_modifier i) (Ok (found, i)) (λ m. modifiers n (found ++ m.0 ∷ []) m.1)

  -- ---- fields

  abbrev pub constant_at : ℕ → ConstantValue → Constant
  constant_at i v = record { place = span_at ts i; value = v }

  unfoldable pub integer : ℕ → Outcome Constant
  integer i =
      if nat_lt (value_at ts i) (big_at ts i) then Ok (constant_at i (value.Integer (literal_at ts i)), i + 1)
      else (if value_at ts i == big_at ts i then Err (refusal.BigLiteral (span_at ts i)) else Err (refusal_at ts i))

  unfoldable pub negated : ℕ → Outcome Constant
  negated i =
      expect false ts (i + 1) k.Integer >>= λ u.
      if nat_le (value_at ts (i + 1)) (big_at ts (i + 1)) then Ok (constant_at i (value.Negated (literal_at ts (i + 1))), i + 2) else Err (refusal_at ts (i + 1))

  abbrev pub constant_by : Kind → ℕ → Outcome Constant
  constant_by k.Integer i = integer i
  constant_by k.Minus i = negated i
  constant_by k.True i = Ok (constant_at i (value.Boolean true), i + 1)
  constant_by k.False i = Ok (constant_at i (value.Boolean false), i + 1)
  constant_by k.Null i = Ok (constant_at i value.Null, i + 1)
  constant_by _ i = Err (refusal_at ts i)

  unfoldable pub constant : ℕ → Outcome Constant
  constant i = constant_by (seen false ts i) i

  unfoldable pub declarator : ℕ → Outcome FieldDeclarator
  declarator i =
      expect false ts i k.Name >>= λ u.
      if sees false ts (i + 1) k.Equal then (constant (i + 2) >>= λ c. Ok (record { name = name_at ts i; constant = Some c.0 }, c.1))
      else Ok (record { name = name_at ts i; constant = None }, i + 1)

  -- the field whose first token stands at index i, from its first name on
  unfoldable pub field : ℕ → List Modifier → TypeName → ℕ → Outcome Declared
  field i ms t j =
      listed false ts declarator (length ts) [] j >>= λ ds.
      expect false ts ds.1 k.Semicolon >>= λ u.
      Ok (declared.Field (record { place = span_at ts i; modifiers = ms; type_name = t; declarators = ds.0 }), ds.1 + 1)

  -- ---- methods and constructors

  unfoldable pub formal : ℕ → Outcome Formal
  formal i =
      modifiers (length ts) [] i >>= λ ms.
      type_name false ts ms.1 >>= λ t.
      expect false ts t.1 k.Name >>= λ u.
      Ok (record { modifiers = ms.0; type_name = t.0; name = name_at ts t.1 }, t.1 + 1)

  unfoldable pub formals : ℕ → Outcome (List Formal)
  formals i =
      if sees false ts i k.CloseParen then Ok ([], i + 1)
      else (listed false ts formal (length ts) [] i >>= λ fs. expect false ts fs.1 k.CloseParen >>= λ u. Ok (fs.0, fs.1 + 1))

  unfoldable pub names : ℕ → ℕ → Result ℕ Refusal
  names zero i = Err (refusal_at ts i)
  names (suc n) i = expect false ts i k.Name >>= λ u. if sees false ts (i + 1) k.Comma then names n (i + 1 + 1) else Ok (i + 1)

  unfoldable pub throws : ℕ → Result ℕ Refusal
  throws i = if sees false ts i k.Throws then names (length ts) (i + 1) else Ok i

  unfoldable pub signature : List Modifier → MethodKind → ℕ → Outcome Declared
  signature ms how j =
      formals (j + 2) >>= λ fs.
      throws fs.1 >>= λ m.
      Ok (declared.Routine (record { modifiers = ms; kind = how; name = name_at ts j; formals = fs.0 }), m)

  unfoldable pub is_constructor : ℕ → Bool
  is_constructor i = if sees false ts i k.Name then sees false ts (i + 1) k.OpenParen else false

  unfoldable pub method_kind : ℕ → Outcome MethodKind
  method_kind i =
      if sees false ts i k.Void then Ok (kind.Void, i + 1)
      else (if is_constructor i then Ok (kind.Constructor, i)
      else (type_name false ts i >>= λ t. Ok (kind.Valued t.0, t.1)))

  abbrev pub field_by : MethodKind → ℕ → List Modifier → ℕ → Outcome Declared
  field_by (kind.Valued t) i ms j = field i ms t j
  field_by _ i ms j = Err (refusal_at ts (j + 1))

  -- a field, or what stands before the block of a method or constructor
  unfoldable pub declared_at : ℕ → Outcome Declared
  declared_at i =
      modifiers (length ts) [] i >>= λ ms.
      method_kind ms.1 >>= λ how.
      expect false ts how.1 k.Name >>= λ u.
      if sees false ts (how.1 + 1) k.OpenParen then signature ms.0 how.0 how.1 else field_by how.0 i ms.0 how.1

  -- ---- classes

  unfoldable pub above : Kind → List ℕ → ℕ → Outcome Bool
  above word class i =
      if sees false ts i word then (expect false ts (i + 1) k.Name >>= λ u. expect_text ts (i + 1) class >>= λ u. Ok (true, i + 2)) else Ok (false, i)

  unfoldable pub class_head : ℕ → Outcome ClassHead
  class_head i =
      modifiers (length ts) [] i >>= λ ms.
      expect false ts ms.1 k.Class >>= λ u.
      expect false ts (ms.1 + 1) k.Name >>= λ u.
      above k.Extends (codes "Thread") (ms.1 + 2) >>= λ thread.
      above k.Implements (codes "Runnable") thread.1 >>= λ runnable.
      expect false ts runnable.1 k.OpenBrace >>= λ u.
      Ok (record { modifiers = ms.0; name = name_at ts (ms.1 + 1); extends_thread = thread.0; implements_runnable = runnable.0 }, runnable.1 + 1)

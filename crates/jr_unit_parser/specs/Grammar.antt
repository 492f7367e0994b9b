-- What a source is (JLS 7.3, 8; JML Reference Manual, "Class and Interface Member Declarations"): one case a
-- production. The place of a class, a member or a constant is that of its first token.
use Rattle.std.specs.Prelude.{◌≡◌, ◌<◌, ◌≤◌, ℕ, ◌+◌, Bool, true, false, List, [], ◌∷◌, length, Option, Some, None, codes}
use Rattle.jr_lexer.specs.declared.kind.Kind.{Kind}
use Rattle.jr_lexer.specs.declared.kind.Kind.TheVariants as k
use Rattle.jr_lexer.specs.Token.{Token}
use Rattle.jr_lexer.specs.Reading.{kind_at, text_at, jml_at, value_at, big_at, span_at}
use Rattle.jr_ast.specs.declared.name.Name.{Name}
use Rattle.jr_ast.specs.declared.name.TypeName.{TypeName}
use Rattle.jr_ast.specs.declared.unit.Modifier.{Modifier}
use Rattle.jr_ast.specs.declared.unit.ModifierKind.{ModifierKind}
use Rattle.jr_ast.specs.declared.unit.ModifierKind.TheVariants as modifier
use Rattle.jr_ast.specs.declared.unit.Constant.{Constant}
use Rattle.jr_ast.specs.declared.unit.ConstantValue.TheVariants as constant
use Rattle.jr_ast.specs.declared.unit.FieldDeclarator.{FieldDeclarator}
use Rattle.jr_ast.specs.declared.unit.Field.{Field}
use Rattle.jr_ast.specs.declared.unit.Formal.{Formal}
use Rattle.jr_ast.specs.declared.unit.MethodKind.{MethodKind}
use Rattle.jr_ast.specs.declared.unit.MethodKind.TheVariants as kind
use Rattle.jr_ast.specs.Clauses.{MethodClause, ClassClause}
use Rattle.jr_ast.specs.Statements.{Stmts}
use Rattle.jr_ast.specs.Units.{Method, Member, Empty, OfField, OfMethod, OfClause, Class}
use Rattle.jr_reading.specs.Seen.{seen, name_at, literal_at}
use Rattle.jr_reading.specs.Listed.{Listed}
use Rattle.jr_reading.specs.Types.{TypeOf}
use Rattle.jr_jml_parser.specs.Grammar.{SpellsMethod, SpellsClass}
use Rattle.jr_stmt_parser.specs.Grammar.{Block}
use Rattle.jr_unit_parser.specs.declared.head.Signature.{Signature}
use Rattle.jr_unit_parser.specs.declared.head.ClassHead.{ClassHead}

-- X ts i x j: the tokens from index i up to index j spell x.

-- one after the other
pub data Many {A : Type 0} (One : ℕ → A → ℕ → Type 0) : ℕ → List A → ℕ → Type 0 where
  none : {i : ℕ} → Many One i [] i
  one_more : {i j m : ℕ} {x : A} {xs : List A} → One i x j → Many One j xs m → Many One i (x ∷ xs) m

pub data NameAt (ts : List Token) : ℕ → Name → ℕ → Type 0 where
  name : {i : ℕ} → seen false ts i ≡ k.Name → NameAt ts i (name_at ts i) (i + 1)

-- ---- packages and imports, which leave nothing in the tree

-- what is behind a dot
abbrev pub is_part : Kind → Bool
is_part k.Name = true
is_part k.Star = true
is_part _ = false

pub data Dotted (ts : List Token) : ℕ → ℕ → Type 0 where
  no_part : {i : ℕ} → Dotted ts i i
  part : {i j : ℕ} → seen false ts i ≡ k.Dot → is_part (seen false ts (i + 1)) ≡ true → Dotted ts (i + 2) j → Dotted ts i j

abbrev pub begins_import : Kind → Bool
begins_import k.Package = true
begins_import k.Import = true
begins_import _ = false

pub data Imports (ts : List Token) : ℕ → ℕ → Type 0 where
  no_import : {i : ℕ} → Imports ts i i
  import : {i j m : ℕ} → begins_import (seen false ts i) ≡ true → seen false ts (i + 1) ≡ k.Name → Dotted ts (i + 2) j → seen false ts j ≡ k.Semicolon → Imports ts (j + 1) m → Imports ts i m

-- ---- modifiers

-- the modifiers of one word: those of Java, and those of JML, which stand in annotations
abbrev pub modifier_of : Bool → Kind → Option ModifierKind
modifier_of false k.Public = Some modifier.Public
modifier_of false k.Private = Some modifier.Private
modifier_of false k.Protected = Some modifier.Protected
modifier_of false k.Static = Some modifier.Static
modifier_of false k.Final = Some modifier.Final
modifier_of false k.Synchronized = Some modifier.Synchronized
modifier_of false k.Volatile = Some modifier.Volatile
modifier_of true k.Pure = Some modifier.Pure
modifier_of true k.Helper = Some modifier.Helper
modifier_of true k.Atomic = Some modifier.Atomic
modifier_of true k.Nullable = Some modifier.Nullable
modifier_of true k.NonNull = Some modifier.NonNull
modifier_of true k.SpecPublic = Some modifier.SpecPublic
modifier_of true k.SpecProtected = Some modifier.SpecProtected
modifier_of true k.SpecSafeMath = Some modifier.SpecSafeMath
modifier_of true k.SpecJavaMath = Some modifier.SpecJavaMath
modifier_of _ _ = None

-- the modifier whose first token stands at an index
abbrev pub modifier_at : List Token → ℕ → ModifierKind → Modifier
modifier_at ts i kind = record { place = span_at ts i; kind = kind }

pub data ModifierAt (ts : List Token) : ℕ → Modifier → ℕ → Type 0 where
  word : {i : ℕ} {kind : ModifierKind} → modifier_of (jml_at ts i) (kind_at ts i) ≡ Some kind → ModifierAt ts i (modifier_at ts i kind) (i + 1)
  -- `@ Name` (JLS 9.7.2)
  mark : {i : ℕ} → seen false ts i ≡ k.At → seen false ts (i + 1) ≡ k.Name → ModifierAt ts i (modifier_at ts i modifier.Mark) (i + 2)

-- ---- fields (JLS 8.3)

-- the big literal of a type stands behind a `-` alone
pub data ConstantAt (ts : List Token) : ℕ → Constant → ℕ → Type 0 where
  integer : {i : ℕ} → seen false ts i ≡ k.Integer → value_at ts i < big_at ts i → ConstantAt ts i (record { place = span_at ts i; value = constant.Integer (literal_at ts i) }) (i + 1)
  negated : {i : ℕ} → seen false ts i ≡ k.Minus → seen false ts (i + 1) ≡ k.Integer → value_at ts (i + 1) ≤ big_at ts (i + 1) → ConstantAt ts i (record { place = span_at ts i; value = constant.Negated (literal_at ts (i + 1)) }) (i + 2)
  truth : {i : ℕ} → seen false ts i ≡ k.True → ConstantAt ts i (record { place = span_at ts i; value = constant.Boolean true }) (i + 1)
  falsity : {i : ℕ} → seen false ts i ≡ k.False → ConstantAt ts i (record { place = span_at ts i; value = constant.Boolean false }) (i + 1)
  null : {i : ℕ} → seen false ts i ≡ k.Null → ConstantAt ts i (record { place = span_at ts i; value = constant.Null }) (i + 1)

pub data DeclaratorAt (ts : List Token) : ℕ → FieldDeclarator → ℕ → Type 0 where
  bare : {i : ℕ} → seen false ts i ≡ k.Name → DeclaratorAt ts i (record { name = name_at ts i; constant = None }) (i + 1)
  with_constant : {i j : ℕ} {c : Constant} → seen false ts i ≡ k.Name → seen false ts (i + 1) ≡ k.Equal → ConstantAt ts (i + 2) c j → DeclaratorAt ts i (record { name = name_at ts i; constant = Some c }) j

pub data FieldAt (ts : List Token) : ℕ → Field → ℕ → Type 0 where
  field : {i a b j : ℕ} {ms : List Modifier} {t : TypeName} {ds : List FieldDeclarator}
      → Many (ModifierAt ts) i ms a → TypeOf ts a t b → Listed false ts (DeclaratorAt ts) b ds j → seen false ts j ≡ k.Semicolon
      → FieldAt ts i (record { place = span_at ts i; modifiers = ms; type_name = t; declarators = ds }) (j + 1)

-- ---- methods (JLS 8.4) and constructors (JLS 8.8)

-- what stands between the modifiers and the name
pub data ResultAt (ts : List Token) : ℕ → MethodKind → ℕ → Type 0 where
  constructor : {i : ℕ} → ResultAt ts i kind.Constructor i
  without_result : {i : ℕ} → seen false ts i ≡ k.Void → ResultAt ts i kind.Void (i + 1)
  with_result : {i j : ℕ} {t : TypeName} → TypeOf ts i t j → ResultAt ts i (kind.Valued t) j

pub data FormalAt (ts : List Token) : ℕ → Formal → ℕ → Type 0 where
  formal : {i a j : ℕ} {ms : List Modifier} {t : TypeName} → Many (ModifierAt ts) i ms a → TypeOf ts a t j → seen false ts j ≡ k.Name → FormalAt ts i (record { modifiers = ms; type_name = t; name = name_at ts j }) (j + 1)

-- from behind the opening bracket up to behind the closing one
pub data Formals (ts : List Token) : ℕ → List Formal → ℕ → Type 0 where
  none : {i : ℕ} → seen false ts i ≡ k.CloseParen → Formals ts i [] (i + 1)
  some : {i j : ℕ} {fs : List Formal} → Listed false ts (FormalAt ts) i fs j → seen false ts j ≡ k.CloseParen → Formals ts i fs (j + 1)

-- `throws` leaves nothing in the tree
pub data Throws (ts : List Token) : ℕ → ℕ → Type 0 where
  nothing : {i : ℕ} → Throws ts i i
  throws : {i j : ℕ} {xs : List Name} → seen false ts i ≡ k.Throws → Listed false ts (NameAt ts) (i + 1) xs j → Throws ts i j

-- what stands between the clauses of a method or constructor and its block
pub data SignatureAt (ts : List Token) : ℕ → Signature → ℕ → Type 0 where
  signature : {i a b c j : ℕ} {ms : List Modifier} {how : MethodKind} {fs : List Formal}
      → Many (ModifierAt ts) i ms a → ResultAt ts a how b → seen false ts b ≡ k.Name → seen false ts (b + 1) ≡ k.OpenParen → Formals ts (b + 2) fs c → Throws ts c j
      → SignatureAt ts i (record { modifiers = ms; kind = how; name = name_at ts b; formals = fs }) j

pub data MethodAt (ts : List Token) : ℕ → Method → ℕ → Type 0 where
  method : {i a b j : ℕ} {cs : List MethodClause} {s : Signature} {body : Stmts}
      → Many (SpellsMethod ts) i cs a → SignatureAt ts a s b → Block ts b body j
      → MethodAt ts i (record { place = span_at ts i; clauses = cs; modifiers = s.modifiers; kind = s.kind; name = s.name; formals = s.formals; body = body }) j

-- ---- classes (JLS 8.1)

pub data MemberAt (ts : List Token) : ℕ → Member → ℕ → Type 0 where
  empty : {i : ℕ} → seen false ts i ≡ k.Semicolon → MemberAt ts i Empty (i + 1)
  field : {i j : ℕ} {f : Field} → FieldAt ts i f j → MemberAt ts i (OfField f) j
  method : {i j : ℕ} {m : Method} → MethodAt ts i m j → MemberAt ts i (OfMethod m) j
  clause : {i j : ℕ} {c : ClassClause} → SpellsClass ts i c j → MemberAt ts i (OfClause c) j

-- a word of a class's head and the one class that may stand behind it, or neither
pub data Above (ts : List Token) (word : Kind) (class : List ℕ) : ℕ → Bool → ℕ → Type 0 where
  without : {i : ℕ} → Above ts word class i false i
  above : {i : ℕ} → seen false ts i ≡ word → seen false ts (i + 1) ≡ k.Name → text_at ts (i + 1) ≡ class → Above ts word class i true (i + 2)

-- what stands before the members of a class
pub data ClassHeadAt (ts : List Token) : ℕ → ClassHead → ℕ → Type 0 where
  class_head : {i a b j : ℕ} {ms : List Modifier} {thread runnable : Bool}
      → Many (ModifierAt ts) i ms a → seen false ts a ≡ k.Class → seen false ts (a + 1) ≡ k.Name
      → Above ts k.Extends (codes "Thread") (a + 2) thread b → Above ts k.Implements (codes "Runnable") b runnable j → seen false ts j ≡ k.OpenBrace
      → ClassHeadAt ts i (record { modifiers = ms; name = name_at ts (a + 1); extends_thread = thread; implements_runnable = runnable }) (j + 1)

pub data ClassAt (ts : List Token) : ℕ → Class → ℕ → Type 0 where
  class : {i a j : ℕ} {h : ClassHead} {ms : List Member}
      → ClassHeadAt ts i h a → Many (MemberAt ts) a ms j → seen false ts j ≡ k.CloseBrace
      → ClassAt ts i (record { place = span_at ts i; modifiers = h.modifiers; name = h.name; extends_thread = h.extends_thread; implements_runnable = h.implements_runnable; members = ms }) (j + 1)

-- The tokens, from the first to the last, spell the classes.
pub data SpellsUnit (ts : List Token) : List Class → Type 0 where
  unit : {i : ℕ} {cs : List Class} → Imports ts 0 i → Many (ClassAt ts) i cs (length ts) → SpellsUnit ts cs

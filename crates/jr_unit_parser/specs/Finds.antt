-- What a function of the reader answers, over a relation One: One i x j says that the tokens from index i up
-- to index j spell x. Only contracts of private functions cite these.
use Rattle.std.specs.Prelude.{◌≡◌, ◌<◌, ℕ, Bool, false, List, length, Result, Ok, Err}
use Rattle.jr_base.specs.declared.refusal.Refusal.{Refusal}
use Rattle.jr_base.specs.declared.refusal.Refusal.TheVariants as refusal
use Rattle.jr_base.specs.declared.refusal.Fail.{Fail}
use Rattle.jr_base.specs.declared.refusal.Fail.TheVariants.{Memory, Refused}
use Rattle.jr_lexer.specs.Token.{Token}
use Rattle.jr_lexer.specs.Reading.{span_at}
use Rattle.jr_ast.specs.Clauses.{MethodClause}
use Rattle.jr_ast.specs.Statements.{Stmts}
use Rattle.jr_ast.specs.Units.{Method}
use Rattle.jr_reading.specs.Answers.{Fits}
use Rattle.jr_reading.specs.Limits.{nesting_limit}
use Rattle.jr_stmt_parser.specs.Answers.{LeftOutFrom, BigLiteralIn}
use Rattle.jr_stmt_parser.specs.Grammar.{Block}
use Rattle.jr_stmt_parser.specs.Nesting.{Shallow}
use Rattle.jr_unit_parser.specs.declared.head.Signature.{Signature}
use Rattle.jr_unit_parser.specs.Grammar.{Many}
use Rattle.jr_unit_parser.specs.Begins.{OtherLabel}

-- a refusal has its cause
abbrev pub Caused : List Token → Refusal → Type 0
Caused ts (refusal.Syntax s) = Unit {0}
Caused ts (refusal.NotInProfile s) = LeftOutFrom ts (OtherLabel ts) 0 s
Caused ts (refusal.BigLiteral s) = BigLiteralIn ts 0 s
Caused ts (refusal.TooDeep s) = nesting_limit < length ts
Caused ts _ = ⊥

-- TooDeep speaks of what is shallow, any other refusal of all
abbrev pub Concerns : Refusal → Type 0 → Type 0
Concerns (refusal.TooDeep s) Shallow = Shallow
Concerns _ Shallow = Unit {0}

-- Nothing stands at the index that the refusal concerns.
pub record Misses {A : Type 0} (ts : List Token) (One : ℕ → A → ℕ → Type 0) (Shallow : A → Type 0) (i : ℕ) (r : Refusal) : Type 0 where
  pub caused : Caused ts r
  pub nothing : (x : A) (j : ℕ) → One i x j → Concerns r (Shallow x) → ⊥

abbrev pub Fails : {A : Type 0} → List Token → (ℕ → A → ℕ → Type 0) → (A → Type 0) → ℕ → Fail → Type 0
Fails ts One Shallow i Memory = Unit {0}
Fails ts One Shallow i (Refused r) = Misses ts One Shallow i r

-- what stands at the index, with view its plain data, and the index behind it
abbrev pub Finds : {A B : Type 0} → List Token → (B → A) → (ℕ → A → ℕ → Type 0) → (A → Type 0) → ℕ → Result (B × ℕ) Fail → Type 0
Finds ts view One Shallow i (Ok r) = Fits (One i) Shallow (view r.0) r.1
Finds ts view One Shallow i (Err e) = Fails ts One Shallow i e

-- as many as there are, up to an index at which no more begins
pub record AllOf {A : Type 0} (One : ℕ → A → ℕ → Type 0) (begins : ℕ → Bool) (i : ℕ) (xs : List A) (j : ℕ) : Type 0 where
  pub many : Many One i xs j
  pub ended : begins j ≡ false

-- the method or constructor whose first token stands at an index
abbrev pub method_of : List Token → ℕ → List MethodClause → Signature → Stmts → Method
method_of ts first cs s body = record { place = span_at ts first; clauses = cs; modifiers = s.modifiers; kind = s.kind; name = s.name; formals = s.formals; body = body }

-- the block of a method or constructor, with what stands before it
pub record BodyAt (ts : List Token) (first : ℕ) (cs : List MethodClause) (s : Signature) (i : ℕ) (m : Method) (j : ℕ) : Type 0 where
  pub body : Stmts
  pub block : Block ts i body j
  pub whole : m ≡ method_of ts first cs s body

abbrev pub ShallowBody : Method → Type 0
ShallowBody m = Shallow 0 m.body

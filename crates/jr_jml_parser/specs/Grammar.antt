-- What a clause is: one case a production. Every token of a clause stands in an annotation, and the place of
-- a clause is that of its keyword; i and j are the indexes of tokens. (JML Reference Manual, "Method Specification Clauses", "Type
-- Specifications" and "Assert Statements"; `locks` after Rodríguez, Dwyer, Flanagan, Hatcliff, Leavens and
-- Robby 2005.)
use Rattle.std.specs.Prelude.{◌≡◌, ◌≢◌, ℕ, ◌+◌, Bool, true, false, List}
use Rattle.jr_lexer.specs.declared.kind.Kind.{Kind}
use Rattle.jr_lexer.specs.declared.kind.Kind.TheVariants as k
use Rattle.jr_lexer.specs.Token.{Token}
use Rattle.jr_lexer.specs.Reading.{jml_at, kind_at, span_at}
use Rattle.jr_ast.specs.Expressions.{Expr}
use Rattle.jr_ast.specs.Clauses.{MethodClause, ClassClause, Clause}
use Rattle.jr_ast.specs.Clauses as c
use Rattle.jr_reading.specs.Seen.{seen, name_at}
use Rattle.jr_reading.specs.Listed.{Listed}
use Rattle.jr_expr_parser.specs.Grammar.{Spells}

-- the expression of a clause: of level 2, with quantifiers nested at most two deep
abbrev pub Expression : List Token → ℕ → Expr → ℕ → Type 0
Expression ts i e j = Spells true ts 2 2 i e j

-- an expression and the `;` behind it
pub data Condition (ts : List Token) : ℕ → Expr → ℕ → Type 0 where
  condition : {i j : ℕ} {e : Expr} → Expression ts i e j → seen true ts j ≡ k.Semicolon → Condition ts i e (j + 1)

-- one or more expressions with commas between, and the `;` behind them
pub data Objects (ts : List Token) : ℕ → List Expr → ℕ → Type 0 where
  objects : {i j : ℕ} {es : List Expr} → Listed true ts (Expression ts) i es j → seen true ts j ≡ k.Semicolon → Objects ts i es (j + 1)

-- any tokens but `;`, and the `;` behind them
pub data Anything (ts : List Token) : ℕ → ℕ → Type 0 where
  end : {i : ℕ} → seen true ts i ≡ k.Semicolon → Anything ts i (i + 1)
  skip : {i j : ℕ} → jml_at ts i ≡ true → kind_at ts i ≢ k.Semicolon → Anything ts (i + 1) j → Anything ts i j

-- a clause of a method or constructor
pub data SpellsMethod (ts : List Token) : ℕ → MethodClause → ℕ → Type 0 where
  requires : {i j : ℕ} {e : Expr} → seen true ts i ≡ k.Requires → Condition ts (i + 1) e j → SpellsMethod ts i (c.Requires (span_at ts i) e) j
  ensures : {i j : ℕ} {e : Expr} → seen true ts i ≡ k.Ensures → Condition ts (i + 1) e j → SpellsMethod ts i (c.Ensures (span_at ts i) e) j
  when : {i j : ℕ} {e : Expr} → seen true ts i ≡ k.When → Condition ts (i + 1) e j → SpellsMethod ts i (c.When (span_at ts i) e) j
  locks : {i j : ℕ} {es : List Expr} → seen true ts i ≡ k.Locks → Objects ts (i + 1) es j → SpellsMethod ts i (c.Locks (span_at ts i) es) j
  assignable : {i j : ℕ} → seen true ts i ≡ k.Assignable → Anything ts (i + 1) j → SpellsMethod ts i (c.Assignable (span_at ts i)) j
  modifies : {i j : ℕ} → seen true ts i ≡ k.Modifies → Anything ts (i + 1) j → SpellsMethod ts i (c.Modifies (span_at ts i)) j

-- a visibility
abbrev pub is_visibility : Kind → Bool
is_visibility k.Public = true
is_visibility k.Private = true
is_visibility k.Protected = true
is_visibility _ = false

-- any visibilities and words `static`, in any order; whether one is `static`
pub data Modified (ts : List Token) : ℕ → Bool → ℕ → Type 0 where
  plain : {i : ℕ} → Modified ts i false i
  visible : {i j : ℕ} {is_static : Bool} → is_visibility (seen true ts i) ≡ true → Modified ts (i + 1) is_static j → Modified ts i is_static j
  static : {i j : ℕ} {is_static : Bool} → seen true ts i ≡ k.Static → Modified ts (i + 1) is_static j → Modified ts i true j

-- what stands between the field of `monitors_for` and its objects: `=` or `<-`
pub data Tie (ts : List Token) : ℕ → ℕ → Type 0 where
  equal : {i : ℕ} → seen true ts i ≡ k.Equal → Tie ts i (i + 1)
  arrow : {i : ℕ} → seen true ts i ≡ k.Less → seen true ts (i + 1) ≡ k.Minus → Tie ts i (i + 2)

-- A clause of a class from its keyword on, where is_static says whether `static` stands before. No `static`
-- stands before `monitors_for`.
pub data Declares (ts : List Token) (is_static : Bool) : ℕ → ClassClause → ℕ → Type 0 where
  invariant : {i j : ℕ} {e : Expr} → seen true ts i ≡ k.Invariant → Condition ts (i + 1) e j → Declares ts is_static i (c.Invariant (span_at ts i) is_static e) j
  constraint : {i j : ℕ} {e : Expr} → seen true ts i ≡ k.Constraint → Condition ts (i + 1) e j → Declares ts is_static i (c.Constraint (span_at ts i) is_static e) j
  monitors_for : {i m j : ℕ} {es : List Expr} → is_static ≡ false → seen true ts i ≡ k.MonitorsFor → seen true ts (i + 1) ≡ k.Name → Tie ts (i + 2) m → Objects ts m es j → Declares ts is_static i (c.MonitorsFor (span_at ts i) (name_at ts (i + 1)) es) j

-- a clause of a class
pub data SpellsClass (ts : List Token) : ℕ → ClassClause → ℕ → Type 0 where
  modified : {i m j : ℕ} {is_static : Bool} {a : ClassClause} → Modified ts i is_static m → Declares ts is_static m a j → SpellsClass ts i a j

-- `assert`, what holds there, and `;`
pub data SpellsAssert (ts : List Token) : ℕ → Expr → ℕ → Type 0 where
  asserts : {i j : ℕ} {e : Expr} → seen true ts i ≡ k.Assert → Condition ts (i + 1) e j → SpellsAssert ts i e j

-- SpellsClause ts i a j: the tokens from index i up to index j spell the clause a. As a clause ends in its
-- `;`, it stands where tokens spell one.
pub data SpellsClause (ts : List Token) : ℕ → Clause → ℕ → Type 0 where
  of_method : {i j : ℕ} {a : MethodClause} → SpellsMethod ts i a j → SpellsClause ts i (c.OfMethod a) j
  of_class : {i j : ℕ} {a : ClassClause} → SpellsClass ts i a j → SpellsClause ts i (c.OfClass a) j
  assertion : {i j : ℕ} {e : Expr} → SpellsAssert ts i e j → SpellsClause ts i (c.Assert (span_at ts i) e) j

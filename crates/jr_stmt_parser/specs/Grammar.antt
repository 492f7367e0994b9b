-- What a statement is (JLS 14): one case a production. The place of a statement is that of its first token.
use Rattle.std.specs.Prelude.{◌≡◌, ◌≢◌, ◌≤◌, ℕ, ◌+◌, Bool, true, false, List, [], ◌∷◌, length, Option, Some, None, codes}
use Rattle.jr_lexer.specs.declared.kind.Kind.TheVariants as k
use Rattle.jr_lexer.specs.Token.{Token}
use Rattle.jr_lexer.specs.Reading.{text_at, span_at}
use Rattle.jr_ast.specs.declared.name.Name.{Name}
use Rattle.jr_ast.specs.declared.name.TypeName.{TypeName}
use Rattle.jr_ast.specs.declared.operator.Prefix.TheVariants as prefixes
use Rattle.jr_ast.specs.Expressions.{Expr}
use Rattle.jr_ast.specs.Expressions as exprs
use Rattle.jr_ast.specs.Statements.{Stmt, Stmts, no_stmt, and_stmt, Catches, no_catch, and_catch, Declarator, ForInit, Declares, Evaluates, Part, Text, Value}
use Rattle.jr_ast.specs.Statements as s
use Rattle.jr_reading.specs.Seen.{seen, name_at}
use Rattle.jr_reading.specs.Types.{TypeOf}
use Rattle.jr_reading.specs.Listed.{Listed}
use Rattle.jr_expr_parser.specs.Grammar.{Spells}
use Rattle.jr_jml_parser.specs.Grammar.{SpellsAssert}

-- an assignment, an increment or decrement, a call or a `new` (JLS 14.8)
abbrev pub has_effect : Expr → Bool
has_effect (exprs.Assignment at op a b) = true
has_effect (exprs.Prefixed at prefixes.Increment a) = true
has_effect (exprs.Prefixed at prefixes.Decrement a) = true
has_effect (exprs.Postfixed at op a) = true
has_effect (exprs.Call at m es) = true
has_effect (exprs.CallOf at a m es) = true
has_effect (exprs.NewObject at x es) = true
has_effect (exprs.NewArray at t a) = true
has_effect _ = false

-- declared variables
abbrev pub is_locals : Stmt → Bool
is_locals (s.Locals at t ds) = true
is_locals _ = false

-- An expression of code from index i up to index j.
abbrev pub Expression : List Token → ℕ → Expr → ℕ → Type 0
Expression ts i e j = Spells false ts 2 1 i e j

-- An expression that is evaluated for its effect (JLS 14.8).
pub record Effect (ts : List Token) (i : ℕ) (e : Expr) (j : ℕ) : Type 0 where
  pub spelled : Expression ts i e j
  pub effect : has_effect e ≡ true

abbrev pub Effects : List Token → ℕ → List Expr → ℕ → Type 0
Effects ts = Listed false ts (Effect ts)

-- An expression that may be missing.
pub data Optional (ts : List Token) : ℕ → Option Expr → ℕ → Type 0 where
  missing : {i : ℕ} → Optional ts i None i
  given : {i j : ℕ} {e : Expr} → Expression ts i e j → Optional ts i (Some e) j

-- A declared variable (JLS 14.4.1).
pub data Declared (ts : List Token) : ℕ → Declarator → ℕ → Type 0 where
  bare : {i : ℕ} → seen false ts i ≡ k.Name → Declared ts i (record { name = name_at ts i; initial = None }) (i + 1)
  with_value : {i j : ℕ} {e : Expr} → seen false ts i ≡ k.Name → seen false ts (i + 1) ≡ k.Equal → Expression ts (i + 2) e j → Declared ts i (record { name = name_at ts i; initial = Some e }) j

abbrev pub Declarators : List Token → ℕ → List Declarator → ℕ → Type 0
Declarators ts = Listed false ts (Declared ts)

-- Variables of one type (JLS 14.4).
pub data Locals (ts : List Token) : ℕ → TypeName → List Declarator → ℕ → Type 0 where
  locals : {i j m : ℕ} {t : TypeName} {ds : List Declarator} → TypeOf ts i t j → Declarators ts j ds m → Locals ts i t ds m

-- What a `for` does first, and after each turn (JLS 14.14.1).
pub data Init (ts : List Token) : ℕ → ForInit → ℕ → Type 0 where
  nothing : {i : ℕ} → Init ts i (Evaluates []) i
  declares : {i j : ℕ} {t : TypeName} {ds : List Declarator} → Locals ts i t ds j → Init ts i (Declares t ds) j
  evaluates : {i j : ℕ} {es : List Expr} → Effects ts i es j → Init ts i (Evaluates es) j

pub data Updates (ts : List Token) : ℕ → List Expr → ℕ → Type 0 where
  nothing : {i : ℕ} → Updates ts i [] i
  evaluates : {i j : ℕ} {es : List Expr} → Effects ts i es j → Updates ts i es j

-- The tokens from i on are `System . out . println (`.
pub record BeginsPrint (ts : List Token) (i : ℕ) : Type 0 where
  pub system : seen false ts i ≡ k.Name
  pub system_text : text_at ts i ≡ codes "System"
  pub dot : seen false ts (i + 1) ≡ k.Dot
  pub out : seen false ts (i + 2) ≡ k.Name
  pub out_text : text_at ts (i + 2) ≡ codes "out"
  pub second_dot : seen false ts (i + 3) ≡ k.Dot
  pub println : seen false ts (i + 4) ≡ k.Name
  pub println_text : text_at ts (i + 4) ≡ codes "println"
  pub open_paren : seen false ts (i + 5) ≡ k.OpenParen

-- What is added to a printed string: a string, or an expression of which the loosest operators are `*`,
-- `/` and `%`.
pub data PartOf (ts : List Token) : ℕ → Part → ℕ → Type 0 where
  text : {i : ℕ} → seen false ts i ≡ k.Text → PartOf ts i (Text (text_at ts i)) (i + 1)
  value : {i j : ℕ} {e : Expr} → Spells false ts 2 15 i e j → PartOf ts i (Value e) j

-- Any number of parts, with a `+` before each.
pub data Added (ts : List Token) : ℕ → List Part → ℕ → Type 0 where
  none : {i : ℕ} → Added ts i [] i
  one_more : {i j m : ℕ} {p : Part} {ps : List Part} → seen false ts i ≡ k.Plus → PartOf ts (i + 1) p j → Added ts j ps m → Added ts i (p ∷ ps) m

-- What stands between the brackets of a print.
pub data Printed (ts : List Token) : ℕ → List Part → ℕ → Type 0 where
  nothing : {i : ℕ} → Printed ts i [] i
  value : {i j : ℕ} {e : Expr} → Expression ts i e j → Printed ts i (Value e ∷ []) j
  text : {i j : ℕ} {ps : List Part} → seen false ts i ≡ k.Text → Added ts (i + 1) ps j → Printed ts i (Text (text_at ts i) ∷ ps) j

-- `commit :`, the label of the statement before which the method's `when` is to hold (JLS 14.7).
pub record Label (ts : List Token) (i : ℕ) : Type 0 where
  pub name : seen false ts i ≡ k.Name
  pub text : text_at ts i ≡ codes "commit"
  pub colon : seen false ts (i + 1) ≡ k.Colon

-- Statement ts i s j: the tokens from index i up to index j spell the statement s.
mutual
  pub data Statement (ts : List Token) : ℕ → Stmt → ℕ → Type 0 where
    empty : {i : ℕ} → seen false ts i ≡ k.Semicolon → Statement ts i (s.Empty (span_at ts i)) (i + 1)
    block : {i j : ℕ} {ss : Stmts} → Block ts i ss j → Statement ts i (s.Block (span_at ts i) ss) j
    locals : {i j : ℕ} {t : TypeName} {ds : List Declarator} → Locals ts i t ds j → seen false ts j ≡ k.Semicolon → Statement ts i (s.Locals (span_at ts i) t ds) (j + 1)
    final_locals : {i j : ℕ} {t : TypeName} {ds : List Declarator} → seen false ts i ≡ k.Final → Locals ts (i + 1) t ds j → seen false ts j ≡ k.Semicolon → Statement ts i (s.Locals (span_at ts i) t ds) (j + 1)
    -- a statement that begins as a print is one
    effect : {i j : ℕ} {e : Expr} → Effect ts i e j → (BeginsPrint ts i → ⊥) → seen false ts j ≡ k.Semicolon → Statement ts i (s.Expression (span_at ts i) e) (j + 1)
    -- what follows is no `else`: that would belong here
    if_alone : {i j m : ℕ} {e : Expr} {a : Stmt} → seen false ts i ≡ k.If → seen false ts (i + 1) ≡ k.OpenParen → Expression ts (i + 2) e j → seen false ts j ≡ k.CloseParen → Statement ts (j + 1) a m → seen false ts m ≢ k.Else → Statement ts i (s.If (span_at ts i) e a) m
    if_else : {i j m n : ℕ} {e : Expr} {a b : Stmt} → seen false ts i ≡ k.If → seen false ts (i + 1) ≡ k.OpenParen → Expression ts (i + 2) e j → seen false ts j ≡ k.CloseParen → Statement ts (j + 1) a m → seen false ts m ≡ k.Else → Statement ts (m + 1) b n → Statement ts i (s.IfElse (span_at ts i) e a b) n
    while : {i j m : ℕ} {e : Expr} {a : Stmt} → seen false ts i ≡ k.While → seen false ts (i + 1) ≡ k.OpenParen → Expression ts (i + 2) e j → seen false ts j ≡ k.CloseParen → Statement ts (j + 1) a m → Statement ts i (s.While (span_at ts i) e a) m
    do_while : {i j m : ℕ} {e : Expr} {a : Stmt} → seen false ts i ≡ k.Do → Statement ts (i + 1) a j → seen false ts j ≡ k.While → seen false ts (j + 1) ≡ k.OpenParen → Expression ts (j + 2) e m → seen false ts m ≡ k.CloseParen → seen false ts (m + 1) ≡ k.Semicolon → Statement ts i (s.Do (span_at ts i) a e) (m + 2)
    for : {i j m n o : ℕ} {init : ForInit} {e : Option Expr} {es : List Expr} {a : Stmt} → seen false ts i ≡ k.For → seen false ts (i + 1) ≡ k.OpenParen → Init ts (i + 2) init j → seen false ts j ≡ k.Semicolon → Optional ts (j + 1) e m → seen false ts m ≡ k.Semicolon → Updates ts (m + 1) es n → seen false ts n ≡ k.CloseParen → Statement ts (n + 1) a o → Statement ts i (s.For (span_at ts i) init e es a) o
    return : {i j : ℕ} {e : Option Expr} → seen false ts i ≡ k.Return → Optional ts (i + 1) e j → seen false ts j ≡ k.Semicolon → Statement ts i (s.Return (span_at ts i) e) (j + 1)
    break : {i : ℕ} → seen false ts i ≡ k.Break → seen false ts (i + 1) ≡ k.Semicolon → Statement ts i (s.Break (span_at ts i)) (i + 2)
    continue : {i : ℕ} → seen false ts i ≡ k.Continue → seen false ts (i + 1) ≡ k.Semicolon → Statement ts i (s.Continue (span_at ts i)) (i + 2)
    throw_variable : {i : ℕ} → seen false ts i ≡ k.Throw → seen false ts (i + 1) ≡ k.Name → seen false ts (i + 2) ≡ k.Semicolon → Statement ts i (s.ThrowVariable (span_at ts i) (name_at ts (i + 1))) (i + 3)
    throw_new : {i : ℕ} → seen false ts i ≡ k.Throw → seen false ts (i + 1) ≡ k.New → seen false ts (i + 2) ≡ k.Name → seen false ts (i + 3) ≡ k.OpenParen → seen false ts (i + 4) ≡ k.CloseParen → seen false ts (i + 5) ≡ k.Semicolon → Statement ts i (s.ThrowNew (span_at ts i) (name_at ts (i + 2))) (i + 6)
    throw_message : {i : ℕ} → seen false ts i ≡ k.Throw → seen false ts (i + 1) ≡ k.New → seen false ts (i + 2) ≡ k.Name → seen false ts (i + 3) ≡ k.OpenParen → seen false ts (i + 4) ≡ k.Text → seen false ts (i + 5) ≡ k.CloseParen → seen false ts (i + 6) ≡ k.Semicolon → Statement ts i (s.ThrowNew (span_at ts i) (name_at ts (i + 2))) (i + 7)
    try : {i j m : ℕ} {class x : Name} {ss body : Stmts} {cs : Catches} → seen false ts i ≡ k.Try → Block ts (i + 1) ss j → CatchesOf ts j (and_catch class x body cs) m → Statement ts i (s.Try (span_at ts i) ss (and_catch class x body cs)) m
    synchronized : {i j m : ℕ} {e : Expr} {ss : Stmts} → seen false ts i ≡ k.Synchronized → seen false ts (i + 1) ≡ k.OpenParen → Expression ts (i + 2) e j → seen false ts j ≡ k.CloseParen → Block ts (j + 1) ss m → Statement ts i (s.Synchronized (span_at ts i) e ss) m
    -- no declaration stands under a label
    commit : {i j : ℕ} {a : Stmt} → Label ts i → Statement ts (i + 2) a j → is_locals a ≡ false → Statement ts i (s.Commit (span_at ts i) a) j
    print : {i j : ℕ} {ps : List Part} → BeginsPrint ts i → Printed ts (i + 6) ps j → length ps ≤ 8 → seen false ts j ≡ k.CloseParen → seen false ts (j + 1) ≡ k.Semicolon → Statement ts i (s.Print (span_at ts i) ps) (j + 2)
    -- `assert` of JML (JML Reference Manual, "Assert Statements")
    assert : {i j : ℕ} {e : Expr} → SpellsAssert ts i e j → Statement ts i (s.Assert (span_at ts i) e) j

  -- `{ .. }` (JLS 14.2)
  pub data Block (ts : List Token) : ℕ → Stmts → ℕ → Type 0 where
    braces : {i j : ℕ} {ss : Stmts} → seen false ts i ≡ k.OpenBrace → Statements ts (i + 1) ss j → seen false ts j ≡ k.CloseBrace → Block ts i ss (j + 1)

  pub data Statements (ts : List Token) : ℕ → Stmts → ℕ → Type 0 where
    none : {i : ℕ} → Statements ts i no_stmt i
    one_more : {i j m : ℕ} {a : Stmt} {ss : Stmts} → Statement ts i a j → Statements ts j ss m → Statements ts i (and_stmt a ss) m

  -- catches (JLS 14.20); what follows is no `catch`: that would belong here
  pub data CatchesOf (ts : List Token) : ℕ → Catches → ℕ → Type 0 where
    no_more : {i : ℕ} → seen false ts i ≢ k.Catch → CatchesOf ts i no_catch i
    caught : {i j m : ℕ} {ss : Stmts} {cs : Catches} → seen false ts i ≡ k.Catch → seen false ts (i + 1) ≡ k.OpenParen → seen false ts (i + 2) ≡ k.Name → seen false ts (i + 3) ≡ k.Name → seen false ts (i + 4) ≡ k.CloseParen → Block ts (i + 5) ss j → CatchesOf ts j cs m → CatchesOf ts i (and_catch (name_at ts (i + 2)) (name_at ts (i + 3)) ss cs) m

-- The pieces of a statement as the reader takes them, each from an index on. Only contracts of private
-- functions cite these; what a statement is stands in `Grammar`.
use Rattle.std.specs.Prelude.{◌≡◌, ◌≢◌, ◌<◌, ◌≤◌, ◌⊎◌, ℕ, ◌+◌, ◌-◌, Bool, true, false, List, [], ◌∷◌, length, Option, Some, None, Ok}
use Rattle.jr_lexer.specs.declared.kind.Kind.{Kind}
use Rattle.jr_lexer.specs.declared.kind.Kind.TheVariants as k
use Rattle.jr_lexer.specs.Token.{Token as TokenOf}
use Rattle.jr_lexer.specs.Reading.{kind_at, text_at, span_at}
use Rattle.jr_ast.specs.declared.name.Name.{Name}
use Rattle.jr_ast.specs.declared.name.TypeName.{TypeName}
use Rattle.jr_ast.specs.Expressions.{Expr}
use Rattle.jr_ast.specs.Statements.{Stmt, Stmts, stmts, catches, Catch, Declarator, ForInit, Declares, Evaluates, Part, Text, Value as Valued}
use Rattle.jr_ast.specs.Statements as s
use Rattle.jr_reading.specs.Seen.{seen, name_at}
use Rattle.jr_reading.specs.Steps.{type_name}
use Rattle.jr_expr_parser.specs.BigLiteral.{frees}
use Rattle.jr_expr_parser.specs.Nesting.{nesting as nesting_of_expr}
use Rattle.jr_expr_parser.specs.Grammar.{Stands}
use Rattle.jr_jml_parser.specs.Grammar.{SpellsAssert}
use Rattle.jr_stmt_parser.specs.Grammar.{has_effect, is_locals, BeginsPrint, Label, Statement}
use Rattle.jr_stmt_parser.specs.Nesting.{nesting}
use Rattle.jr_stmt_parser.specs.Gives.{Piece, Then, Just, Split, When, Many, Listed}

-- the tokens behind which a statement may begin
abbrev pub opens : Kind → Bool
opens k.OpenBrace = true
opens k.CloseBrace = true
opens k.Semicolon = true
opens k.CloseParen = true
opens k.Else = true
opens k.Do = true
opens _ = false

-- what stands in front of a statement: one of these tokens, or the label `commit`
abbrev pub MayBegin : List TokenOf → ℕ → Type 0
MayBegin ts at = ((h : ℕ) × (h + 1 ≡ at) × (opens (kind_at ts h) ≡ true)) ⊎ ((h : ℕ) × (h + 2 ≡ at) × Label ts h)

-- before the token stands one behind which a `-` is unary
abbrev pub Fronts : List TokenOf → ℕ → Type 0
Fronts ts i = frees (seen false ts (i - 1)) ≡ true

-- what a statement begins with that declares variables
abbrev pub declares : Kind → Kind → Kind → Bool
declares k.Int a b = true
declares k.Long a b = true
declares k.Boolean a b = true
declares k.Name k.Name b = true
declares k.Name k.OpenBracket k.CloseBracket = true
declares _ _ _ = false

module _ (ts : List TokenOf) where
  -- a token of the kind
  abbrev pub Token : Kind → Piece (Unit {0})
  Token kind l i u j = (seen false ts i ≡ kind) × (i < length ts) × (i + 1 ≡ j)

  abbrev pub After : {A : Type 0} → Kind → Piece A → Piece A
  After kind P = Then (Token kind) (λ u. P)

  abbrev pub Is : Kind → ℕ → Type 0
  Is kind i = seen false ts i ≡ kind

  abbrev pub Isnt : Kind → ℕ → Type 0
  Isnt kind i = seen false ts i ≢ kind

  abbrev pub BeginsLocals : ℕ → Type 0
  BeginsLocals i = declares (seen false ts i) (seen false ts (i + 1)) (seen false ts (i + 2)) ≡ true

  abbrev pub Named : Piece Name
  Named l i x j = (seen false ts i ≡ k.Name) × (i < length ts) × (name_at ts i ≡ x) × (i + 1 ≡ j)

  abbrev pub Typed : Piece TypeName
  Typed l i t j = type_name false ts i ≡ Ok (t, j)

  -- where a block has no more statements
  abbrev pub Closes : ℕ → Type 0
  Closes i = (seen false ts i ≡ k.CloseBrace) ⊎ (length ts ≤ i)

  -- ---- pieces with parts, above which depth constructs are
  module _ (depth : ℕ) where
    abbrev pub Value : Piece Expr
    Value l i e j = Stands false ts 1 i e j × (depth + nesting_of_expr e ≤ l)

    abbrev pub Factor : Piece Expr
    Factor l i e j = Stands false ts 15 i e j × (depth + nesting_of_expr e ≤ l)

    abbrev pub Asserted : Piece Expr
    Asserted l i e j = SpellsAssert ts i e j × (depth + nesting_of_expr e ≤ l)

    abbrev pub String : Piece Part
    String l i x j = (seen false ts i ≡ k.Text) × (depth ≤ l) × (i < length ts) × (Text (text_at ts i) ≡ x) × (i + 1 ≡ j)

    abbrev pub Inner : Piece Stmt
    Inner l i a j = Statement ts i a j × (depth + nesting a ≤ l)

    abbrev pub Declared : Piece Declarator
    Declared = Then Named (λ x. Split (Is k.Equal) (After k.Equal (Then Value (λ e. Just (record { name = x; initial = Some e })))) (Just (record { name = x; initial = None })))

    abbrev pub Declarators : Piece (List Declarator)
    Declarators = Listed Declared (Many (Isnt k.Comma) (After k.Comma Declared))

    abbrev pub Locals : Piece (TypeName × List Declarator)
    Locals = Then Typed (λ t. Then Declarators (λ ds. Just (t, ds)))

    abbrev pub Effect : Piece Expr
    Effect = Then Value (λ e. When (has_effect e ≡ true) (Just e))

    abbrev pub Effects : Piece (List Expr)
    Effects = Listed Effect (Many (Isnt k.Comma) (After k.Comma Effect))

    abbrev pub Optional : Piece (Option Expr)
    Optional = Split (Is k.Semicolon) (Just None) (Then Value (λ e. Just (Some e)))

    abbrev pub Init : Piece ForInit
    Init = Split (Is k.Semicolon) (Just (Evaluates [])) (Split BeginsLocals (Then Locals (λ d. Just (Declares d.0 d.1))) (Then Effects (λ es. Just (Evaluates es))))

    abbrev pub Updates : Piece (List Expr)
    Updates = Split (Is k.CloseParen) (Just []) Effects

    abbrev pub Term : Piece Part
    Term = Split (Is k.Text) String (Then Factor (λ e. Just (Valued e)))

    abbrev pub AddedOne : Piece Part
    AddedOne = After k.Plus Term

    abbrev pub Sum : Piece (List Part)
    Sum = Listed String (Many (Isnt k.Plus) AddedOne)

    abbrev pub Parts : Piece (List Part)
    Parts = Split (Is k.CloseParen) (Just []) (Split (Is k.Text) Sum (Then Value (λ e. Just (Valued e ∷ []))))

    abbrev pub Statements : Piece (List Stmt)
    Statements = Many Closes Inner

    abbrev pub Block : Piece (List Stmt)
    Block = Then (Token k.OpenBrace) (λ u. Then Statements (λ ss. Then (Token k.CloseBrace) (λ u. Just ss)))

    -- what stands behind `catch`
    abbrev pub Handler : Piece Catch
    Handler = After k.OpenParen (Then Named (λ x. Then Named (λ y. After k.CloseParen (Then Block (λ ss. Just (record { class = x; variable = y; body = stmts ss }))))))

    abbrev pub Caught : Piece Catch
    Caught = After k.Catch Handler

    abbrev pub Catches : Piece (List Catch)
    Catches = Listed Caught (Many (Isnt k.Catch) Caught)

    -- ---- the forms, each from its first token on, which stands at index h

    abbrev pub Empties : ℕ → Piece Stmt
    Empties h = After k.Semicolon (Just (s.Empty (span_at ts h)))

    abbrev pub Blocks : ℕ → Piece Stmt
    Blocks h = Then Block (λ ss. Just (s.Block (span_at ts h) (stmts ss)))

    abbrev pub Declarations : ℕ → Piece Stmt
    Declarations h = Then Locals (λ d. After k.Semicolon (Just (s.Locals (span_at ts h) d.0 d.1)))

    abbrev pub Finals : ℕ → Piece Stmt
    Finals h = After k.Final (Then Locals (λ d. After k.Semicolon (Just (s.Locals (span_at ts h) d.0 d.1))))

    abbrev pub Evaluations : ℕ → Piece Stmt
    Evaluations h = Then Effect (λ e. After k.Semicolon (Just (s.Expression (span_at ts h) e)))

    abbrev pub Ifs : ℕ → Piece Stmt
    Ifs h = After k.If (After k.OpenParen (Then Value (λ e. After k.CloseParen (Then Inner (λ a. Split (Is k.Else) (After k.Else (Then Inner (λ b. Just (s.IfElse (span_at ts h) e a b)))) (Just (s.If (span_at ts h) e a)))))))

    abbrev pub Whiles : ℕ → Piece Stmt
    Whiles h = After k.While (After k.OpenParen (Then Value (λ e. After k.CloseParen (Then Inner (λ a. Just (s.While (span_at ts h) e a))))))

    abbrev pub Dos : ℕ → Piece Stmt
    Dos h = After k.Do (Then Inner (λ a. After k.While (After k.OpenParen (Then Value (λ e. After k.CloseParen (After k.Semicolon (Just (s.Do (span_at ts h) a e))))))))

    abbrev pub Fors : ℕ → Piece Stmt
    Fors h = After k.For (After k.OpenParen (Then Init (λ init. After k.Semicolon (Then Optional (λ e. After k.Semicolon (Then Updates (λ es. After k.CloseParen (Then Inner (λ a. Just (s.For (span_at ts h) init e es a))))))))))

    abbrev pub Returns : ℕ → Piece Stmt
    Returns h = After k.Return (Then Optional (λ e. After k.Semicolon (Just (s.Return (span_at ts h) e))))

    abbrev pub Breaks : ℕ → Piece Stmt
    Breaks h = After k.Break (After k.Semicolon (Just (s.Break (span_at ts h))))

    abbrev pub Continues : ℕ → Piece Stmt
    Continues h = After k.Continue (After k.Semicolon (Just (s.Continue (span_at ts h))))

    -- the class and the message behind `throw new`
    abbrev pub Made : Piece Name
    Made = Then Named (λ x. After k.OpenParen (Split (Is k.Text) (After k.Text (After k.CloseParen (Just x))) (After k.CloseParen (Just x))))

    abbrev pub Throws : ℕ → Piece Stmt
    Throws h = After k.Throw (Split (Is k.New) (After k.New (Then Made (λ x. After k.Semicolon (Just (s.ThrowNew (span_at ts h) x))))) (Then Named (λ x. After k.Semicolon (Just (s.ThrowVariable (span_at ts h) x)))))

    abbrev pub Tries : ℕ → Piece Stmt
    Tries h = After k.Try (Then Block (λ ss. Then Catches (λ cs. Just (s.Try (span_at ts h) (stmts ss) (catches cs)))))

    abbrev pub Synchronizeds : ℕ → Piece Stmt
    Synchronizeds h = After k.Synchronized (After k.OpenParen (Then Value (λ e. After k.CloseParen (Then Block (λ ss. Just (s.Synchronized (span_at ts h) e (stmts ss)))))))

    abbrev pub Asserts : ℕ → Piece Stmt
    Asserts h = Then Asserted (λ e. Just (s.Assert (span_at ts h) e))

    -- ---- what begins with a name

    abbrev pub Labelled : Piece (Unit {0})
    Labelled l i u j = Label ts i × (i + 2 ≡ j)

    abbrev pub Commits : ℕ → Piece Stmt
    Commits h = Then Labelled (λ u. Then Inner (λ a. When (is_locals a ≡ false) (Just (s.Commit (span_at ts h) a))))

    abbrev pub Opened : Piece (Unit {0})
    Opened l i u j = BeginsPrint ts i × (i + 6 ≡ j)

    abbrev pub Prints : ℕ → Piece Stmt
    Prints h = Then Opened (λ u. Then Parts (λ ps. When (length ps ≤ 8) (After k.CloseParen (After k.Semicolon (Just (s.Print (span_at ts h) ps))))))

    abbrev pub Names : ℕ → Piece Stmt
    Names h = Split (BeginsPrint ts) (Prints h) (Split (λ i. seen false ts (i + 1) ≡ k.Colon) (Commits h) (Split BeginsLocals (Declarations h) (Evaluations h)))

    -- a statement, by the kind of its first token
    abbrev pub FormBy : Kind → ℕ → Piece Stmt
    FormBy k.Semicolon = Empties
    FormBy k.OpenBrace = Blocks
    FormBy k.Int = Declarations
    FormBy k.Long = Declarations
    FormBy k.Boolean = Declarations
    FormBy k.Final = Finals
    FormBy k.If = Ifs
    FormBy k.While = Whiles
    FormBy k.Do = Dos
    FormBy k.For = Fors
    FormBy k.Return = Returns
    FormBy k.Break = Breaks
    FormBy k.Continue = Continues
    FormBy k.Throw = Throws
    FormBy k.Try = Tries
    FormBy k.Synchronized = Synchronizeds
    FormBy k.Name = Names
    FormBy k.End = Asserts
    FormBy _ = Evaluations

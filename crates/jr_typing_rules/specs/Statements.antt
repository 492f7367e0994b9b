-- Statements (JLS 14): what each is made into, or which rule it breaks, where the rules are applied from left
-- to right.
use Rattle.std.specs.Prelude.{ℕ, ◌+◌, nat_lt, nat_le, pos, Bool, true, false, cond, not, ◌&&◌, ◌||◌, List, [], ◌∷◌, ◌++◌, length, map, take, Option, Some, None, is_none, codes}
use Rattle.std.specs.List.{list_any}
use Rattle.std.specs.Str.{bytes_eq}
use Rattle.jr_base.specs.declared.number.Span.{Span}
use Rattle.jr_base.specs.declared.number.ClassId.{ClassId}
use Rattle.jr_base.specs.declared.finish.Fault.{Fault}
use Rattle.jr_base.specs.declared.refusal.Refusal.TheVariants.{Duplicate, Unknown, Mismatch, BadLabel, NotInProfile, TooManyLocals}
use Rattle.jr_base.specs.declared.kind.SlotKind.{SlotKind}
use Rattle.jr_base.specs.declared.kind.SlotKind.TheVariants as kinds
use Rattle.jr_arith.specs.declared.operator.Width.TheVariants as width
use Rattle.jr_program.specs.WellFormed.{most_in_scope, most_parts}
use Rattle.jr_program.specs.Programs as program
use Rattle.jr_program.specs.Programs.{Statement, Effect}
use Rattle.jr_program.specs.StatementViews as block
use Rattle.jr_ast.specs.declared.name.Name.{Name}
use Rattle.jr_ast.specs.declared.name.TypeName.{TypeName}
use Rattle.jr_ast.specs.declared.name.TypeName.TheVariants as written
use Rattle.jr_ast.specs.Expressions as expressions
use Rattle.jr_ast.specs.Expressions.{place_of}
use Rattle.jr_ast.specs.Statements as source
use Rattle.jr_typing_rules.specs.declared.words.ValueType.{ValueType}
use Rattle.jr_typing_rules.specs.declared.words.ValueType.TheVariants as type
use Rattle.jr_typing_rules.specs.declared.words.VariableKind.{VariableKind}
use Rattle.jr_typing_rules.specs.declared.words.VariableKind.TheVariants as variable
use Rattle.jr_typing_rules.specs.declared.words.FieldEntry.{FieldEntry}
use Rattle.jr_typing_rules.specs.Answers.{Typing, Good, Bad, ◌>>=◌, require, found, each}
use Rattle.jr_typing_rules.specs.Types.{is_number, is_boolean, is_reference, kind_of}
use Rattle.jr_typing_rules.specs.Names.{Text, Names, is_assignable}
use Rattle.jr_typing_rules.specs.Exceptions.{fault_named}
use Rattle.jr_typing_rules.specs.Scopes.{Scope, Variable, variable_named, own_field}
use Rattle.jr_typing_rules.specs.Denotations.{Denotation, ANothing, Value, value_of, brought}
use Rattle.jr_typing_rules.specs.Expressions.{denotes, value, as_boolean, element_type}

-- what is the same in a whole method
pub record Frame : Type 0 where
  pub names : Names
  pub own : ClassId
  pub is_static : Bool
  pub result : Option ValueType
  -- how many clauses and texts of the program stand before the body
  pub clauses : ℕ
  pub texts : ℕ

-- a JML `assert`, which the clauses' rules judge later: where it stands, what it states, and what is in scope
pub record Asserted : Type 0 where
  pub place : Span
  pub condition : expressions.Expr
  pub variables : List Variable

-- what changes from statement to statement
pub record State : Type 0 where
  -- those in scope
  pub variables : List Variable
  -- of all variables that the method has declared so far, by their places
  pub kinds : List SlotKind
  pub has_commit : Bool
  pub asserts : List Asserted
  pub texts : List (List ℕ)

-- a statement that was made, and what stands behind it
pub record Made : Type 0 where
  pub state : State
  pub statement : Statement

-- statements that were made
pub record Mades : Type 0 where
  pub state : State
  pub statements : List Statement

abbrev pub scope_in : Frame → State → Scope
scope_in frame state = record { names = frame.names; own = frame.own; is_static = frame.is_static; variables = state.variables }

abbrev pub makes : State → Statement → Typing Made
makes state s = Good (record { state = state; statement = s })

-- one statement is itself, and several are a block
abbrev pub chained : List Statement → Statement
chained [] = program.Skip
chained (s ∷ []) = s
chained (s ∷ t ∷ ss) = program.Then s (block.chained (t ∷ ss))

-- ---- variables

-- the value of a variable without an initialiser (JLS 4.12.5)
abbrev pub default_of : SlotKind → program.Expr
default_of kinds.Int = program.Number width.Int (pos 0)
default_of kinds.Long = program.Number width.Long (pos 0)
default_of kinds.Bool = program.Truth false
default_of _ = program.Null

-- how many variables are in scope, `this` among them
abbrev pub count_in_scope : Bool → State → ℕ
count_in_scope is_static state = cond is_static (length state.variables) (length state.variables + 1)

unfoldable pub has_variable : State → Text → Bool
has_variable state x = list_any (λ (v : Variable). bytes_eq x v.name) state.variables

-- one more variable, whose name no other one in scope has (JLS 6.4); at most 256 are in scope
unfoldable pub and_variable : Frame → State → Name → VariableKind → SlotKind → Typing State
and_variable frame state x of kind =
    require (not (has_variable state x.text)) (Duplicate x.place) >>= λ u.
    require (nat_lt (count_in_scope frame.is_static state) most_in_scope) (TooManyLocals x.place) >>= λ u.
    Good (record state { variables = state.variables ++ record { name = x.text; kind = of } ∷ []; kinds = state.kinds ++ kind ∷ [] })

abbrev pub and_local : Frame → State → Name → ValueType → Typing State
and_local frame state x t = and_variable frame state x (variable.Local t (length state.kinds)) (kind_of t)

-- the variable of a catch (JLS 14.20)
abbrev pub and_caught : Frame → State → Name → Typing State
and_caught frame state x = and_variable frame state x (variable.Caught (length state.kinds)) kinds.Caught

-- those that a block has declared are in scope up to its end (JLS 6.3)
abbrev pub leaving : State → State → State
leaving before state = record state { variables = take (length before.variables) state.variables }

abbrev pub type_of : Names → TypeName → Typing ValueType
type_of names (written.Single t) = element_type names t >>= λ e. Good (type.Single e)
type_of names (written.ArrayOf t) = element_type names t >>= λ e. Good (type.ArrayOf e)

-- a value where one of that type is asked for
abbrev pub value_for : Scope → ValueType → expressions.Expr → Typing program.Expr
value_for scope t e =
    value scope e >>= λ v. require (is_assignable scope.names v.of t) (Mismatch (place_of e)) >>= λ u. Good (brought v.of t v.node)

abbrev pub initial_value : Scope → ValueType → Option expressions.Expr → Typing program.Expr
initial_value scope t (Some e) = value_for scope t e
initial_value scope t None = Good (default_of (kind_of t))

-- a variable, which its own initialiser doesn't see
abbrev pub declares : Frame → ValueType → Mades → source.Declarator → Typing Mades
declares frame t made d =
    initial_value (scope_in frame made.state) t d.initial >>= λ e.
    and_local frame made.state d.name t >>= λ state.
    Good (record { state = state; statements = made.statements ++ program.Declare (length made.state.kinds) e ∷ [] })

abbrev pub declares_all : Frame → ValueType → Mades → List source.Declarator → Typing Mades
declares_all frame t made [] = Good made
declares_all frame t made (d ∷ ds) = declares frame t made d >>= λ made. declares_all frame t made ds

-- variables of one type, from left to right (JLS 14.4)
unfoldable pub local_variables : Frame → State → TypeName → List source.Declarator → Typing Mades
local_variables frame state t ds = type_of frame.names t >>= λ t. declares_all frame t (record { state = state; statements = [] }) ds

abbrev pub as_one : Mades → Typing Made
as_one made = makes made.state (chained made.statements)

-- ---- expressions as statements (JLS 14.8)

abbrev pub effect_of : Span → Denotation → Typing Effect
effect_of at (ANothing e) = Good e
effect_of at m = value_of at m >>= λ v. Good (program.Evaluate v.node)

unfoldable pub effect : Scope → expressions.Expr → Typing Effect
effect scope e = denotes scope e >>= effect_of (place_of e)

abbrev pub is_caught_kind : VariableKind → Bool
is_caught_kind (variable.Caught place) = true
is_caught_kind _ = false

abbrev pub is_caught : Option Variable → Bool
is_caught (Some v) = is_caught_kind v.kind
is_caught None = false

-- `x.printStackTrace()` of a catch variable, which does nothing
abbrev pub is_trace : Scope → expressions.Expr → Bool
is_trace scope (expressions.CallOf at (expressions.SimpleName name_at x) m expressions.no_expr) =
    bytes_eq m.text (codes "printStackTrace") && is_caught (variable_named scope x.text)
is_trace scope _ = false

unfoldable pub expression_statement : Scope → expressions.Expr → Typing Statement
expression_statement scope e = cond (is_trace scope e) (Good program.Skip) (effect scope e >>= λ d. Good (program.Do d))

-- ---- conditions, and what is returned (JLS 14.17)

unfoldable pub condition : Scope → expressions.Expr → Typing Value
condition scope e = value scope e >>= as_boolean (place_of e)

unfoldable pub reference : Scope → expressions.Expr → Typing Value
reference scope e = value scope e >>= λ v. require (is_reference v.of) (Mismatch (place_of e)) >>= λ u. Good v

-- a condition that is missing is true (JLS 14.14.1)
abbrev pub condition_or_true : Scope → Option expressions.Expr → Typing program.Expr
condition_or_true scope (Some e) = condition scope e >>= λ v. Good v.node
condition_or_true scope None = Good (program.Truth true)

abbrev pub returns_value : Scope → Option ValueType → expressions.Expr → Typing Statement
returns_value scope (Some t) e = value_for scope t e >>= λ v. Good (program.ReturnValue v)
returns_value scope None e = value scope e >>= λ v. Bad (Mismatch (place_of e))

unfoldable pub returns : Scope → Option ValueType → Span → Option expressions.Expr → Typing Statement
returns scope result at (Some e) = returns_value scope result e
returns scope result at None = require (is_none result) (Mismatch at) >>= λ u. Good program.Return

-- ---- exceptions (JLS 14.18, 14.20)

abbrev pub fault_of : Name → Typing Fault
fault_of x = found (fault_named x.text) (Unknown x.place)

-- only a catch variable is thrown
abbrev pub throws_kind : Name → VariableKind → Typing Statement
throws_kind x (variable.Caught place) = Good (program.ThrowCaught place)
throws_kind x (variable.Local t place) = Bad (Mismatch x.place)
throws_kind x variable.Arguments = Bad (NotInProfile x.place)

abbrev pub throws_field : Name → Option FieldEntry → Typing Statement
throws_field x (Some f) = Bad (Mismatch x.place)
throws_field x None = Bad (Unknown x.place)

abbrev pub throws_found : Scope → Name → Option Variable → Typing Statement
throws_found scope x (Some v) = throws_kind x v.kind
throws_found scope x None = throws_field x (own_field scope x.text)

unfoldable pub throws_variable : Scope → Name → Typing Statement
throws_variable scope x = throws_found scope x (variable_named scope x.text)

-- ---- what is printed

pub record Printed : Type 0 where
  pub texts : List (List ℕ)
  pub parts : List program.Part

-- a number or a boolean is printed
abbrev pub shown : Scope → expressions.Expr → Typing program.Part
shown scope e = value scope e >>= λ v. require (is_number v.of || is_boolean v.of) (Mismatch (place_of e)) >>= λ u. Good (program.Shown v.node)

-- each string literal is one more text
abbrev pub prints : Frame → Scope → Printed → List source.Part → Typing Printed
prints frame scope before [] = Good before
prints frame scope before (source.Text bytes ∷ ps) =
    prints frame scope (record { texts = before.texts ++ bytes ∷ []; parts = before.parts ++ program.Literal (record { 0 = frame.texts + length before.texts }) ∷ [] }) ps
prints frame scope before (source.Value e ∷ ps) =
    shown scope e >>= λ p. prints frame scope (record before { parts = before.parts ++ p ∷ [] }) ps

-- a print has at most 8 parts
abbrev pub printed : Frame → State → Span → List source.Part → Typing Made
printed frame state at ps =
    require (nat_le (length ps) most_parts) (Mismatch at) >>= λ u.
    prints frame (scope_in frame state) (record { texts = state.texts; parts = [] }) ps >>= λ p. makes (record state { texts = p.texts }) (program.Println p.parts)

-- ---- asserts

abbrev pub and_place : VariableKind → List ℕ → List ℕ
and_place (variable.Local t place) rest = place ∷ rest
and_place _ rest = rest

-- those that have a value, by their places
abbrev pub places_in : List Variable → List ℕ
places_in [] = []
places_in (v ∷ vs) = and_place v.kind (places_in vs)

-- clauses count from 1
abbrev pub asserts : Frame → State → Span → expressions.Expr → Typing Made
asserts frame state at e =
    makes (record state { asserts = state.asserts ++ record { place = at; condition = e; variables = state.variables } ∷ [] })
    (program.Assert (record { 0 = frame.clauses + length state.asserts + 1 }) (places_in state.variables))

-- ---- statements

-- catches that were made
pub record Caught : Type 0 where
  pub state : State
  pub catches : program.Catches

abbrev pub then_makes : State → Typing Statement → Typing Made
then_makes state made = made >>= λ s. makes state s

-- a statement that is part of another: what it declares is in scope in it alone
abbrev pub leaves : State → Made → Typing Made
leaves before made = makes (leaving before made.state) made.statement

abbrev pub ends_block : State → Mades → Typing Made
ends_block before made = makes (leaving before made.state) (chained made.statements)

-- what a `for` does first
abbrev pub does_first : Frame → State → source.ForInit → Typing Mades
does_first frame state (source.Declares t ds) = local_variables frame state t ds
does_first frame state (source.Evaluates es) = each (effect (scope_in frame state)) es >>= λ ds. Good (record { state = state; statements = map program.Do ds })

abbrev pub starts : State → Mades
starts state = record { state = state; statements = [] }

abbrev mutual
  pub typed : Frame → Bool → State → source.Stmt → Typing Made
  typed frame in_loop state (source.Empty at) = makes state program.Skip
  typed frame in_loop state (source.Block at ss) = all_typed frame in_loop (starts state) ss >>= ends_block state
  typed frame in_loop state (source.Locals at t ds) = local_variables frame state t ds >>= as_one
  typed frame in_loop state (source.Expression at e) = then_makes state (expression_statement (scope_in frame state) e)
  typed frame in_loop state (source.If at e a) =
      condition (scope_in frame state) e >>= λ c. typed frame in_loop state a >>= leaves state >>= λ a.
      makes a.state (program.If c.node a.statement program.Skip)
  typed frame in_loop state (source.IfElse at e a b) =
      condition (scope_in frame state) e >>= λ c. typed frame in_loop state a >>= leaves state >>= λ a. typed frame in_loop a.state b >>= leaves a.state >>= λ b.
      makes b.state (program.If c.node a.statement b.statement)
  typed frame in_loop state (source.While at e s) =
      condition (scope_in frame state) e >>= λ c. typed frame true state s >>= leaves state >>= λ s. makes s.state (program.Loop c.node [] s.statement)
  typed frame in_loop state (source.Do at s e) =
      typed frame true state s >>= leaves state >>= λ s. condition (scope_in frame s.state) e >>= λ c. makes s.state (program.DoLoop s.statement c.node)
  typed frame in_loop state (source.For at i c us s) =
      does_first frame state i >>= λ i. condition_or_true (scope_in frame i.state) c >>= λ c. each (effect (scope_in frame i.state)) us >>= λ us.
      typed frame true i.state s >>= leaves state >>= λ s. makes s.state (chained (i.statements ++ program.Loop c us s.statement ∷ []))
  typed frame in_loop state (source.Return at e) = then_makes state (returns (scope_in frame state) frame.result at e)
  typed frame in_loop state (source.Break at) = require in_loop (BadLabel at) >>= λ u. makes state program.Break
  typed frame in_loop state (source.Continue at) = require in_loop (BadLabel at) >>= λ u. makes state program.Continue
  typed frame in_loop state (source.ThrowNew at x) = then_makes state (fault_of x >>= λ f. Good (program.Throw f))
  typed frame in_loop state (source.ThrowVariable at x) = then_makes state (throws_variable (scope_in frame state) x)
  typed frame in_loop state (source.Try at ss cs) =
      all_typed frame in_loop (starts state) ss >>= ends_block state >>= λ made. all_caught frame in_loop made.state cs >>= λ caught.
      makes caught.state (program.Try made.statement caught.catches)
  typed frame in_loop state (source.Synchronized at e ss) =
      reference (scope_in frame state) e >>= λ v. all_typed frame in_loop (starts state) ss >>= ends_block state >>= λ made.
      makes made.state (program.Synchronized v.node made.statement)
  typed frame in_loop state (source.Commit at s) =
      require (not state.has_commit) (BadLabel at) >>= λ u. typed frame in_loop (record state { has_commit = true }) s >>= leaves state >>= λ s.
      makes s.state (program.Commit s.statement)
  typed frame in_loop state (source.Print at ps) = printed frame state at ps
  typed frame in_loop state (source.Assert at e) = asserts frame state at e

  -- statements of a block, behind those that stand before them
  pub all_typed : Frame → Bool → Mades → source.Stmts → Typing Mades
  all_typed frame in_loop before source.no_stmt = Good before
  all_typed frame in_loop before (source.and_stmt s ss) =
      typed frame in_loop before.state s >>= λ made. all_typed frame in_loop (record { state = made.state; statements = before.statements ++ made.statement ∷ [] }) ss

  -- the catches of a `try`, from left to right
  pub all_caught : Frame → Bool → State → source.Catches → Typing Caught
  all_caught frame in_loop state source.no_catch = Good (record { state = state; catches = program.no_catch })
  all_caught frame in_loop state (source.and_catch c x ss cs) =
      fault_of c >>= λ fault. and_caught frame state x >>= λ inner. all_typed frame in_loop (starts inner) ss >>= ends_block state >>= λ made.
      all_caught frame in_loop made.state cs >>= λ rest.
      Good (record { state = rest.state; catches = program.or_catch fault (length state.kinds) made.statement rest.catches })

-- The code's state of a method's body as the plain data of the rules, and what a function answers that changes it.
use Rattle.std.specs.Prelude.{◌≡◌, ℕ, ◌+◌, Bool, true, false, List, [], ◌∷◌, ◌++◌, length, map, take, Option, Result, Ok, Err}
use Rattle.std.specs.Borrow.{Bor}
use Rattle.jr_base.specs.declared.refusal.Fail.{Fail}
use Rattle.jr_ast.specs.Expressions as expressions
use Rattle.jr_ast.specs.Statements as source
use Rattle.jr_ast.specs.Statements.{Stmts}
use Rattle.jr_program.specs.Programs as program
use Rattle.jr_program.specs.StatementViews.{Catch, catches, view_catch, view_part, view_stmt}
use Rattle.jr_program.specs.declared.stmt.TypedStmt.{TypedStmt}
use Rattle.jr_program.specs.declared.stmt.TypedCatch.{TypedCatch}
use Rattle.jr_program.specs.declared.stmt.TypedPart.{TypedPart}
use Rattle.jr_typing_rules.specs.declared.words.ValueType.{ValueType}
use Rattle.jr_typing_rules.specs.Answers.{Typing, Good, ◌>>=◌, each}
use Rattle.jr_typing_rules.specs.Scopes.{Scope}
use Rattle.jr_typing_rules.specs.Statements.{Frame, State, Made, Mades, Caught, makes, scope_in, initial_value, and_local, and_caught, shown, prints, effect, condition, condition_or_true, reference, does_first, fault_of, chained, leaves, ends_block, starts, as_one, typed, all_typed, all_caught}
use Rattle.jr_names.specs.Answered.{Fails}
use Rattle.jr_typing.specs.Scoped.{asserts_of}
use Rattle.jr_typing.specs.Views.{view_variable}
use Rattle.jr_typing.specs.declared.state.Frame.{Frame as FrameTree}
use Rattle.jr_typing.specs.declared.state.State.{State as StateTree}

abbrev pub view_frame : FrameTree → Frame
view_frame f = record { names = f.names.now.names; own = f.own; is_static = f.is_static; result = f.result; clauses = f.clauses; texts = f.texts }

abbrev pub view_texts : List (Bor (List ℕ)) → List (List ℕ)
view_texts texts = map (λ text. text.now) texts

abbrev pub view_state : StateTree → State
view_state s = record {
  variables = map view_variable s.scopes.variables.items;
  kinds = s.kinds;
  has_commit = s.has_commit;
  asserts = asserts_of [] s.scopes.steps.items;
  texts = view_texts s.texts;
}

-- the statement that is answered, and the state that is left
abbrev pub Steps : Typing Made → Result TypedStmt Fail → StateTree → Type 0
Steps is (Ok s) new = is ≡ Good (record { state = view_state new; statement = view_stmt s })
Steps is (Err e) new = Fails e is

-- the same of statements, one after the other
abbrev pub AllSteps : Typing Mades → Result (List TypedStmt) Fail → StateTree → Type 0
AllSteps is (Ok ss) new = is ≡ Good (record { state = view_state new; statements = map view_stmt ss })
AllSteps is (Err e) new = Fails e is

-- ---- one of several

-- one variable of a declaration
abbrev pub declares_one : Frame → ValueType → State → source.Declarator → Typing Made
declares_one frame t state d =
    initial_value (scope_in frame state) t d.initial >>= λ e. and_local frame state d.name t >>= λ after. makes after (program.Declare (length state.kinds) e)

-- one part of what is printed, and the state behind it
pub record PartPrinted : Type 0 where
  pub state : State
  pub part : program.Part

abbrev pub part_printed : Frame → State → source.Part → Typing PartPrinted
part_printed frame state (source.Text bytes) =
    Good (record { state = record state { texts = state.texts ++ bytes ∷ [] }; part = program.Literal (record { 0 = frame.texts + length state.texts }) })
part_printed frame state (source.Value e) = shown (scope_in frame state) e >>= λ p. Good (record { state = state; part = p })

abbrev pub PrintsOne : Typing PartPrinted → Result TypedPart Fail → StateTree → Type 0
PrintsOne is (Ok p) new = is ≡ Good (record { state = view_state new; part = view_part p })
PrintsOne is (Err e) new = Fails e is

-- parts that were printed, and the state behind them
pub record PartsPrinted : Type 0 where
  pub state : State
  pub parts : List program.Part

abbrev pub parts_printed : Frame → PartsPrinted → List source.Part → Typing PartsPrinted
parts_printed frame before ps =
    prints frame (scope_in frame before.state) (record { texts = before.state.texts; parts = before.parts }) ps >>= λ p.
    Good (record { state = record before.state { texts = p.texts }; parts = p.parts })

abbrev pub PrintsAll : Typing PartsPrinted → Result (List TypedPart) Fail → StateTree → Type 0
PrintsAll is (Ok ps) new = is ≡ Good (record { state = view_state new; parts = map view_part ps })
PrintsAll is (Err e) new = Fails e is

-- ---- parts of statements

-- so many variables stay in scope
abbrev pub stays : ℕ → Made → Typing Made
stays count made = makes (record made.state { variables = take count made.state.variables }) made.statement

-- a statement, behind which so many variables stay in scope
abbrev pub within_typed : Frame → Bool → ℕ → State → source.Stmt → Typing Made
within_typed frame in_loop count state s = typed frame in_loop state s >>= stays count

-- the same of the statements of a block
abbrev pub all_within_typed : Frame → Bool → ℕ → State → Stmts → Typing Made
all_within_typed frame in_loop count state ss =
    all_typed frame in_loop (starts state) ss >>= λ made. stays count (record { state = made.state; statement = chained made.statements })

-- a statement that is part of another
abbrev pub part_typed : Frame → Bool → State → source.Stmt → Typing Made
part_typed frame in_loop state s = typed frame in_loop state s >>= leaves state

abbrev pub block_typed : Frame → Bool → State → Stmts → Typing Made
block_typed frame in_loop state ss = all_typed frame in_loop (starts state) ss >>= ends_block state

abbrev pub if_typed : Frame → Bool → State → expressions.Expr → source.Stmt → Typing Made
if_typed frame in_loop state e a =
    condition (scope_in frame state) e >>= λ c. part_typed frame in_loop state a >>= λ a. makes a.state (program.If c.node a.statement program.Skip)

-- the rest of an `if`, from its `else` on
abbrev pub else_typed : Frame → Bool → State → program.Expr → program.Statement → source.Stmt → Typing Made
else_typed frame in_loop state c a b = part_typed frame in_loop state b >>= λ b. makes b.state (program.If c a b.statement)

abbrev pub while_typed : Frame → State → expressions.Expr → source.Stmt → Typing Made
while_typed frame state e s =
    condition (scope_in frame state) e >>= λ c. part_typed frame true state s >>= λ s. makes s.state (program.Loop c.node [] s.statement)

abbrev pub do_typed : Frame → State → source.Stmt → expressions.Expr → Typing Made
do_typed frame state s e =
    part_typed frame true state s >>= λ s. condition (scope_in frame s.state) e >>= λ c. makes s.state (program.DoLoop s.statement c.node)

-- the rest of a `try`, from its catches on
abbrev pub try_typed : Frame → Bool → State → program.Statement → source.Catches → Typing Made
try_typed frame in_loop state body cs = all_caught frame in_loop state cs >>= λ caught. makes caught.state (program.Try body caught.catches)

abbrev pub synchronized_typed : Frame → Bool → State → expressions.Expr → Stmts → Typing Made
synchronized_typed frame in_loop state e ss =
    reference (scope_in frame state) e >>= λ v. block_typed frame in_loop state ss >>= λ made. makes made.state (program.Synchronized v.node made.statement)

-- a `for`, by its parts
abbrev pub for_typed : Frame → State → source.ForInit → Option expressions.Expr → List expressions.Expr → source.Stmt → Typing Made
for_typed frame state i c us s =
    does_first frame state i >>= λ i. condition_or_true (scope_in frame i.state) c >>= λ c. each (effect (scope_in frame i.state)) us >>= λ us.
    typed frame true i.state s >>= leaves state >>= λ s. makes s.state (chained (i.statements ++ program.Loop c us s.statement ∷ []))

-- the rest of a `for`, behind what it does first: so many variables stay in scope behind it
abbrev pub for_rest_typed : Frame → ℕ → State → List program.Statement → Option expressions.Expr → List expressions.Expr → source.Stmt → Typing Made
for_rest_typed frame count state first c us s =
    condition_or_true (scope_in frame state) c >>= λ c. each (effect (scope_in frame state)) us >>= λ us. within_typed frame true count state s >>= λ s.
    makes s.state (chained (first ++ program.Loop c us s.statement ∷ []))

-- a catch, and the state behind it
pub record CaughtOne : Type 0 where
  pub state : State
  pub catch : Catch

abbrev pub caught_one : Frame → Bool → State → source.Catch → Typing CaughtOne
caught_one frame in_loop state c =
    fault_of c.class >>= λ fault. and_caught frame state c.variable >>= λ inner. all_typed frame in_loop (starts inner) c.body >>= ends_block state >>= λ made.
    Good (record { state = made.state; catch = record { fault = fault; number = length state.kinds; handler = made.statement } })

abbrev pub CatchesOne : Typing CaughtOne → Result TypedCatch Fail → StateTree → Type 0
CatchesOne is (Ok c) new = is ≡ Good (record { state = view_state new; catch = view_catch c })
CatchesOne is (Err e) new = Fails e is

abbrev pub CatchesAll : Typing Caught → Result (List TypedCatch) Fail → StateTree → Type 0
CatchesAll is (Ok cs) new = is ≡ Good (record { state = view_state new; catches = catches (map view_catch cs) })
CatchesAll is (Err e) new = Fails e is

-- ---- a method's body

abbrev pub body_typed : Frame → State → Stmts → Typing Made
body_typed frame state ss = all_typed frame false (starts state) ss >>= as_one

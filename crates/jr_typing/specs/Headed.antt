-- A method whose heading is typed.
use Rattle.std.specs.Prelude.{ℕ, false, ◌++◌, ◌∷◌, [], List, Option, Some, None}
use Rattle.jr_base.specs.declared.number.ClassId.{ClassId}
use Rattle.jr_ast.specs.Units as unit
use Rattle.jr_typing_rules.specs.declared.words.ValueType.{ValueType}
use Rattle.jr_typing_rules.specs.declared.words.VariableKind.{VariableKind}
use Rattle.jr_typing_rules.specs.declared.words.VariableKind.TheVariants as variable
use Rattle.jr_typing_rules.specs.Answers.{Typing, Good, ◌>>=◌}
use Rattle.jr_typing_rules.specs.Names.{Names}
use Rattle.jr_typing_rules.specs.Statements.{all_typed, starts}
use Rattle.jr_typing_rules.specs.Declarations.{Counts, Coded, MadeMethod, Method, frame_of, first_state, made_method, with_method}

-- what the formal at a place is, where its type is known
abbrev pub formal_kind : ℕ → Option ValueType → VariableKind
formal_kind place (Some t) = variable.Local t place
formal_kind place None = variable.Arguments

-- a method that is typed, and the texts that it prints
pub record MethodTyped : Type 0 where
  pub method : MadeMethod
  pub texts : List (List ℕ)

-- a method, of which the types of the result and of the formals are known
abbrev pub typed_method : Names → ClassId → Counts → unit.Method → Option ValueType → List ValueType → Typing MethodTyped
typed_method names own counts m result formals =
    all_typed (frame_of names own counts m result) false (starts (first_state m formals)) m.body >>= λ made.
    Good (record { method = made_method own counts m result formals made; texts = made.state.texts })

-- the same, behind the members before it
abbrev pub and_headed : Names → ClassId → Coded → unit.Method → Option ValueType → List ValueType → Typing Coded
and_headed names own before m result formals =
    all_typed (frame_of names own before.counts m result) false (starts (first_state m formals)) m.body >>= λ made.
    Good (record {
      counts = with_method before.counts m made.state;
      members = before.members ++ Method (made_method own before.counts m result formals made) ∷ [];
    })

-- The rules of clauses and of JML's modifiers, class by class in source order.
use Rattle.std.specs.Prelude.{ℕ, ◌+◌, Bool, true, false, List, [], ◌∷◌, ◌++◌, None, map}
use Rattle.jr_base.specs.declared.number.Span.{Span}
use Rattle.jr_base.specs.declared.number.Position.{Position}
use Rattle.jr_base.specs.declared.number.ClassId.{ClassId}
use Rattle.jr_base.specs.declared.refusal.Refusal.TheVariants.{Unknown}
use Rattle.jr_program.specs.declared.words.ClauseKind.{ClauseKind}
use Rattle.jr_program.specs.declared.words.ClauseKind.TheVariants as kinds
use Rattle.jr_program.specs.declared.words.Mode.{Mode}
use Rattle.jr_program.specs.declared.words.Mode.TheVariants as modes
use Rattle.jr_program.specs.Clauses.{Spec, Clause, Owner, OfMethod, OfClass, OfField}
use Rattle.jr_ast.specs.declared.unit.Formal.{Formal}
use Rattle.jr_ast.specs.Expressions.{Expr}
use Rattle.jr_ast.specs.Clauses as source
use Rattle.jr_typing_rules.specs.declared.words.FieldEntry.{FieldEntry}
use Rattle.jr_typing_rules.specs.declared.words.VariableKind.{VariableKind}
use Rattle.jr_typing_rules.specs.declared.words.VariableKind.TheVariants as variable
use Rattle.jr_typing_rules.specs.Answers.{Typing, Good, ◌>>=◌, found, each, all_hold, gather}
use Rattle.jr_typing_rules.specs.Names.{Names, field_in}
use Rattle.jr_typing_rules.specs.Scopes.{Variable}
use Rattle.jr_typing_rules.specs.Modifiers.{places_of, is_atomic_kind, said_mode, mode_in, OnClass, OnMethod, OnOther, modifiers_stand}
use Rattle.jr_typing_rules.specs.Statements.{Asserted}
use Rattle.jr_typing_rules.specs.Declarations.{MadeMethod, MadeMember, Fields, Method, Clause as ClassClause, MadeClass}
use Rattle.jr_typing_rules.specs.Predicates.{Stand, states_boolean, states_reference}

-- the same for all clauses: where a span begins as people count it, and the names of the program
pub record Setting : Type 0 where
  pub position : Span → Position
  pub names : Names

abbrev pub clause_at : Setting → Owner → ClauseKind → Mode → Bool → Span → List Spec → Clause
clause_at setting owner kind mode static at states =
    record { kind = kind; owner = owner; mode = mode; is_static = static; place = setting.position at; states = states }

-- ---- where a clause stands

abbrev pub stand_in : Setting → ClassId → Bool → List Variable → Stand
stand_in setting own static variables = record {
  scope = record { names = setting.names; own = own; is_static = static; variables = variables };
  result = None;
  looks_back = false;
  is_in_old = false;
  quantified = [];
}

-- a method's clauses name its formals
abbrev pub stand_of_method : Setting → MadeMethod → Stand
stand_of_method setting m = stand_in setting m.class m.is_static m.formals

-- `ensures` looks back, and may name the result
abbrev pub stand_at_return : Setting → MadeMethod → Stand
stand_at_return setting m = record (stand_of_method setting m) { result = m.result; looks_back = true }

-- a variable that has a value gets that place in the environment of an `assert`
abbrev pub placed : ℕ → VariableKind → VariableKind
placed n (variable.Local t place) = variable.Local t n
placed n other = other

abbrev pub place_after : ℕ → VariableKind → ℕ
place_after n (variable.Local t place) = n + 1
place_after n _ = n

-- variables by their places in it, from a place on
abbrev pub in_environment : ℕ → List Variable → List Variable
in_environment n [] = []
in_environment n (v ∷ vs) = record v { kind = placed n v.kind } ∷ in_environment (place_after n v.kind) vs

-- ---- clauses of a method or constructor

abbrev pub one_condition : Setting → Owner → ClauseKind → Mode → Stand → Span → Expr → Typing Clause
one_condition setting owner kind mode stand at e =
    states_boolean stand e >>= λ s. Good (clause_at setting owner kind mode stand.scope.is_static at (s ∷ []))

abbrev pub references : Setting → Owner → ClauseKind → Mode → Stand → Span → List Expr → Typing Clause
references setting owner kind mode stand at es =
    each (states_reference stand) es >>= λ ss. Good (clause_at setting owner kind mode stand.scope.is_static at ss)

-- one that is not judged is a note
abbrev pub method_clause : Setting → Mode → MadeMethod → source.MethodClause → Typing (List Clause)
method_clause setting mode m (source.Requires at e) = one_condition setting (OfMethod m.number) kinds.Requires mode (stand_of_method setting m) at e >>= λ c. Good (c ∷ [])
method_clause setting mode m (source.Ensures at e) = one_condition setting (OfMethod m.number) kinds.Ensures mode (stand_at_return setting m) at e >>= λ c. Good (c ∷ [])
method_clause setting mode m (source.When at e) = one_condition setting (OfMethod m.number) kinds.When mode (stand_of_method setting m) at e >>= λ c. Good (c ∷ [])
method_clause setting mode m (source.Locks at es) = references setting (OfMethod m.number) kinds.Locks mode (stand_of_method setting m) at es >>= λ c. Good (c ∷ [])
method_clause setting mode m (source.Assignable at) = Good []
method_clause setting mode m (source.Modifies at) = Good []

-- each `atomic` is a clause
abbrev pub atomic : Setting → Mode → MadeMethod → Span → Clause
atomic setting mode m at = clause_at setting (OfMethod m.number) kinds.Atomic mode m.is_static at []

abbrev pub assert : Setting → Mode → MadeMethod → Asserted → Typing Clause
assert setting mode m a =
    one_condition setting (OfMethod m.number) kinds.Assert mode (stand_in setting m.class m.is_static (in_environment 0 a.variables)) a.place a.condition

abbrev pub formal_stands : Formal → Typing (Unit {0})
formal_stands f = modifiers_stand OnOther f.modifiers

abbrev pub method_clauses : Setting → Mode → MadeMethod → Typing (List Clause)
method_clauses setting mode m =
    gather (method_clause setting mode m) m.source.clauses >>= λ before.
    modifiers_stand OnMethod m.source.modifiers >>= λ u.
    all_hold formal_stands m.source.formals >>= λ us.
    each (assert setting mode m) m.asserts >>= λ asserts.
    Good (before ++ map (atomic setting mode m) (places_of is_atomic_kind m.source.modifiers) ++ asserts)

-- ---- clauses of a class

-- the one of a static field speaks of no object
abbrev pub monitors_for : Setting → Mode → ClassId → Span → List Expr → FieldEntry → Typing Clause
monitors_for setting mode own at es f = references setting (OfField f.number) kinds.MonitorsFor mode (stand_in setting own f.is_static []) at es

abbrev pub class_clause : Setting → Mode → ClassId → source.ClassClause → Typing Clause
class_clause setting mode own (source.Invariant at static e) = one_condition setting (OfClass own) kinds.Invariant mode (stand_in setting own static []) at e
class_clause setting mode own (source.Constraint at static e) =
    one_condition setting (OfClass own) kinds.Constraint mode (record (stand_in setting own static []) { looks_back = true }) at e
class_clause setting mode own (source.MonitorsFor at x es) =
    found (field_in setting.names own x.text) (Unknown x.place) >>= monitors_for setting mode own at es

-- ---- classes

abbrev pub member_clauses : Setting → Mode → ClassId → MadeMember → Typing (List Clause)
member_clauses setting mode own (Fields ms fs) = modifiers_stand OnOther ms >>= λ u. Good []
member_clauses setting mode own (Method m) = method_clauses setting (mode_in mode (said_mode m.source.modifiers)) m
member_clauses setting mode own (ClassClause c) = class_clause setting mode own c >>= λ c. Good (c ∷ [])

-- how clauses are meant where nothing is said
abbrev pub class_mode : MadeClass → Mode
class_mode k = mode_in modes.Java (said_mode k.source.modifiers)

abbrev pub class_clauses : Setting → MadeClass → Typing (List Clause)
class_clauses setting k =
    modifiers_stand OnClass k.source.modifiers >>= λ u.
    gather (member_clauses setting (class_mode k) k.number) k.members

-- all clauses of the program in source order: the n-th has the number n
unfoldable pub clauses : Setting → List MadeClass → Typing (List Clause)
clauses setting ks = gather (class_clauses setting) ks

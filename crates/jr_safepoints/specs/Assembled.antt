-- The classes, fields and methods of a program, put together member by member with what is due where.
use Rattle.std.specs.Prelude.{ℕ, List, [], ◌∷◌, ◌++◌, map}
use Rattle.std.specs.List.{count_by}
use Rattle.jr_base.specs.declared.number.ClauseId.{ClauseId}
use Rattle.jr_program.specs.Clauses.{Clause}
use Rattle.jr_program.specs.Programs.{Class, Field, Method as MethodOfProgram}
use Rattle.jr_program.specs.Slots.{is_of}
use Rattle.jr_program.specs.UnitViews.{view_class, view_field, view_method}
use Rattle.jr_program.specs.declared.parts.TypedField.{TypedField}
use Rattle.jr_program.specs.declared.parts.TypedMethod.{TypedMethod}
use Rattle.jr_typing_rules.specs.Answers.{Typing, Good, ◌>>=◌, one_by_one}
use Rattle.jr_typing_rules.specs.Names.{Names}
use Rattle.jr_typing_rules.specs.Declarations.{MadeField, MadeMethod, MadeMember, Fields, Method, Clause as OfClause, MadeClass}
use Rattle.jr_typing_rules.specs.Whole.{program_class, program_field, program_method}
use Rattle.jr_safepoints.specs.Few.{few}
use Rattle.jr_safepoints.specs.Due.{MethodDues, dues_of, due_at_field, few_in}
use Rattle.jr_safepoints.specs.declared.assembly.Assembly.{Assembly}

-- a field with its slot and what is due at it
pub record FieldDone : Type 0 where
  pub field : Field
  pub slot : ℕ
  pub due : List ClauseId

-- a method with what is due in it
pub record MethodDone : Type 0 where
  pub method : MethodOfProgram
  pub dues : MethodDues

pub record Assembled : Type 0 where
  pub classes : List Class
  pub fields : List FieldDone
  pub methods : List MethodDone

abbrev pub field_of : FieldDone → Field
field_of d = d.field

-- a field's slot is how many fields before it lie there too
abbrev pub and_field : List Clause → Assembled → MadeField → Typing Assembled
and_field clauses a f =
    few f.name.place (due_at_field clauses f.number) >>= λ due.
    Good (record {
      classes = a.classes;
      fields = a.fields ++ record { field = program_field f; slot = count_by (is_of f.class f.is_static) (map field_of a.fields); due = due } ∷ [];
      methods = a.methods;
    })

abbrev pub and_method : List Clause → Assembled → MadeMethod → Typing Assembled
and_method clauses a m =
    few_in m.source.name.place (dues_of clauses m.number (program_method m)) >>= λ dues.
    Good (record { classes = a.classes; fields = a.fields; methods = a.methods ++ record { method = program_method m; dues = dues } ∷ [] })

abbrev pub and_member : List Clause → Assembled → MadeMember → Typing Assembled
and_member clauses a (Fields ms fs) = one_by_one (and_field clauses) a fs
and_member clauses a (Method m) = and_method clauses a m
and_member clauses a (OfClause c) = Good a

abbrev pub and_class : Names → List Clause → Assembled → MadeClass → Typing Assembled
and_class names clauses a k =
    one_by_one (and_member clauses) (record { classes = a.classes ++ program_class names k ∷ []; fields = a.fields; methods = a.methods }) k.members

abbrev pub nothing : Assembled
nothing = record { classes = []; fields = []; methods = [] }

abbrev pub assembled : Names → List Clause → List MadeClass → Typing Assembled
assembled names clauses ks = one_by_one (and_class names clauses) nothing ks

-- ---- the code's parts

abbrev pub view_field_done : TypedField → FieldDone
view_field_done f = record { field = view_field f; slot = f.slot; due = f.due_at_access }

abbrev pub view_method_done : TypedMethod → MethodDone
view_method_done m = record {
  method = view_method m;
  dues = record { call = m.due_at_call; commit = m.due_at_commit; leave = m.due_at_leave; enter = m.due_at_enter };
}

abbrev pub view_assembly : Assembly → Assembled
view_assembly a = record { classes = map view_class a.classes; fields = map view_field_done a.fields; methods = map view_method_done a.methods }

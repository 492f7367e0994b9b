-- What is made of a source, as the plain data of the rules.
use Rattle.std.specs.Prelude.{[], map}
use Rattle.jr_base.specs.declared.value.Value.TheVariants as values
use Rattle.jr_program.specs.StatementViews.{view_stmt}
use Rattle.jr_ast.specs.Clauses.{view_class_clause}
use Rattle.jr_ast.specs.Units as unit
use Rattle.jr_typing_rules.specs.declared.words.ValueType.TheVariants as type
use Rattle.jr_typing_rules.specs.Types.{number, boolean}
use Rattle.jr_typing_rules.specs.Declarations.{MadeField, MadeMethod, MadeMember, Fields, Method, Clause, MadeClass, Counts, Coded, ConstantOf, number_value, FieldsMade, ClassesMade}
use Rattle.jr_typing.specs.declared.constant.Written.{Written}
use Rattle.jr_typing.specs.declared.constant.Written.TheVariants as written
use Rattle.jr_typing.specs.declared.counts.Counts.{Counts as CountsTree}
use Rattle.jr_typing.specs.declared.made.MadeField.{MadeField as FieldTree}
use Rattle.jr_typing.specs.declared.made.MadeMethod.{MadeMethod as MethodTree}
use Rattle.jr_typing.specs.declared.made.MadeMember.{MadeMember as MemberTree}
use Rattle.jr_typing.specs.declared.made.MadeMember.TheVariants as members
use Rattle.jr_typing.specs.declared.made.MadeClass.{MadeClass as ClassTree}
use Rattle.jr_typing.specs.declared.declaration.CodeMade.{CodeMade}
use Rattle.jr_typing.specs.declared.field.FieldsMade.{FieldsMade as FieldsTree}
use Rattle.jr_typing.specs.declared.coded.Coded.{Coded as CodedTree}
use Rattle.jr_typing.specs.declared.coded.MethodTyped.{MethodTyped as TypedTree}
use Rattle.jr_typing.specs.Headed.{MethodTyped}
use Rattle.jr_typing.specs.Scoped.{asserts_of}
use Rattle.jr_typing.specs.StatementViews.{view_texts}
use Rattle.jr_typing.specs.Views.{view_literal, view_variable}

-- a constant whose number is in range
abbrev pub view_written : Written → ConstantOf
view_written written.Null = record { of = type.Null; value = λ k. values.Null }
view_written (written.Boolean b) = record { of = boolean; value = λ k. values.Bool b }
view_written (written.Number n) = record { of = number (view_literal n).width; value = number_value (view_literal n).value }

abbrev pub view_counts : CountsTree → Counts
view_counts c = record { fields = c.fields; methods = c.methods; clauses = c.clauses; texts = view_texts c.texts }

abbrev pub view_field : FieldTree → MadeField
view_field f = record {
  name = f.name.now;
  number = f.number;
  class = f.class;
  is_static = f.is_static;
  is_volatile = f.is_volatile;
  of = f.of;
  constant = f.constant;
}

abbrev pub view_fields : FieldsTree → FieldsMade
view_fields f = record { counts = view_counts f.counts; made = map view_field f.made }

abbrev pub view_method : MethodTree → MadeMethod
view_method m = record {
  source = unit.view_method m.source.now;
  number = m.number;
  class = m.class;
  is_static = m.is_static;
  is_constructor = m.is_constructor;
  result = m.result;
  formals = map view_variable m.formals;
  formal_kinds = m.formal_kinds;
  kinds = m.kinds;
  has_commit = m.has_commit;
  body = view_stmt m.body;
  asserts = asserts_of [] m.scopes.steps.items;
}

abbrev pub view_typed : TypedTree → MethodTyped
view_typed t = record { method = view_method t.method; texts = view_texts t.texts }

abbrev pub view_member : MemberTree → MadeMember
view_member (members.Fields ms fs) = Fields ms.now (map view_field fs)
view_member (members.Method m) = Method (view_method m)
view_member (members.Clause c) = Clause (view_class_clause c.now)

abbrev pub view_coded : CodedTree → Coded
view_coded c = record { counts = view_counts c.counts; members = map view_member c.members.items }

abbrev pub view_class : ClassTree → MadeClass
view_class k = record { source = unit.view_class k.source.now; number = k.number; members = map view_member k.members.items }

abbrev pub view_code : CodeMade → ClassesMade
view_code c = record { counts = view_counts c.counts; made = map view_class c.classes.items }

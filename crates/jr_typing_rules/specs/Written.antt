-- What is written in a source, in source order: its methods with constructors, its fields, and the keywords of the
-- clauses that are judged.
use Rattle.std.specs.Prelude.{List, [], ◌∷◌, ◌++◌}
use Rattle.std.specs.List.{flat_map}
use Rattle.jr_base.specs.declared.number.Span.{Span}
use Rattle.jr_ast.specs.declared.unit.FieldDeclarator.{FieldDeclarator}
use Rattle.jr_ast.specs.Clauses.{MethodClause, Requires, Ensures, When, Locks, Assignable, Modifies, ClassClause, Invariant, Constraint, MonitorsFor}
use Rattle.jr_ast.specs.Statements.{Stmt, Stmts, Catches, Block, If, IfElse, While, Do, For, Try, Synchronized, Commit, Assert, no_stmt, and_stmt, no_catch, and_catch}
use Rattle.jr_ast.specs.Units.{Class, Member, Empty as Nothing, OfField, OfMethod, OfClause, Method}
use Rattle.jr_typing_rules.specs.Modifiers.{places_of, is_atomic_kind}

-- ---- methods and fields

abbrev pub methods_written : Member → List Method
methods_written (OfMethod m) = m ∷ []
methods_written _ = []

abbrev pub methods_written_in : Class → List Method
methods_written_in k = flat_map methods_written k.members

-- the fields of a declaration
abbrev pub declared : Member → List FieldDeclarator
declared (OfField f) = f.declarators
declared _ = []

abbrev pub declared_in : Class → List FieldDeclarator
declared_in k = flat_map declared k.members

-- ---- keywords of clauses

abbrev mutual
  pub asserts_in : Stmt → List Span
  asserts_in (Assert at e) = at ∷ []
  asserts_in (Block at ss) = all_asserts_in ss
  asserts_in (If at e a) = asserts_in a
  asserts_in (IfElse at e a b) = asserts_in a ++ asserts_in b
  asserts_in (While at e s) = asserts_in s
  asserts_in (Do at s e) = asserts_in s
  asserts_in (For at i e us s) = asserts_in s
  asserts_in (Try at ss cs) = all_asserts_in ss ++ asserts_in_catches cs
  asserts_in (Synchronized at e ss) = all_asserts_in ss
  asserts_in (Commit at s) = asserts_in s
  asserts_in _ = []

  pub all_asserts_in : Stmts → List Span
  all_asserts_in no_stmt = []
  all_asserts_in (and_stmt s ss) = asserts_in s ++ all_asserts_in ss

  pub asserts_in_catches : Catches → List Span
  asserts_in_catches no_catch = []
  asserts_in_catches (and_catch c x ss cs) = all_asserts_in ss ++ asserts_in_catches cs

-- `assignable` and `modifies` are not judged
abbrev pub keyword_of : MethodClause → List Span
keyword_of (Requires at e) = at ∷ []
keyword_of (Ensures at e) = at ∷ []
keyword_of (When at e) = at ∷ []
keyword_of (Locks at es) = at ∷ []
keyword_of (Assignable at) = []
keyword_of (Modifies at) = []

-- clauses stand before modifiers, of which each `atomic` is a clause, and these before the body
abbrev pub keywords_of_method : Method → List Span
keywords_of_method m = flat_map keyword_of m.clauses ++ places_of is_atomic_kind m.modifiers ++ all_asserts_in m.body

abbrev pub keyword_of_class : ClassClause → Span
keyword_of_class (Invariant at static e) = at
keyword_of_class (Constraint at static e) = at
keyword_of_class (MonitorsFor at x es) = at

abbrev pub keywords_of_member : Member → List Span
keywords_of_member Nothing = []
keywords_of_member (OfField f) = []
keywords_of_member (OfMethod m) = keywords_of_method m
keywords_of_member (OfClause c) = keyword_of_class c ∷ []

abbrev pub keywords_in : Class → List Span
keywords_in k = flat_map keywords_of_member k.members

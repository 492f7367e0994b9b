-- Sources that are refused for their clauses, each with the rule that it breaks and the place, computed.
use Rattle.std.proofs.Common.{ℕ, List, [], ◌∷◌, Some, None, true, false, codes, refl}
use Rattle.jr_base.specs.declared.refusal.Refusal.TheVariants as refusals
use Rattle.jr_ast.specs.declared.name.ElementType.TheVariants as element
use Rattle.jr_ast.specs.declared.name.TypeName.TheVariants as written
use Rattle.jr_ast.specs.declared.operator.Infix.TheVariants as infixes
use Rattle.jr_ast.specs.declared.unit.ModifierKind.TheVariants as modifiers
use Rattle.jr_ast.specs.declared.unit.MethodKind.TheVariants as method_kinds
use Rattle.jr_ast.specs.Expressions as source
use Rattle.jr_ast.specs.Statements as stmt
use Rattle.jr_ast.specs.Clauses as clause_source
use Rattle.jr_ast.specs.Units as units
use Rattle.jr_typing_rules.specs.Answers.{Bad}
use Rattle.jr_typing_rules.specs.Names.{named, class_at, field_in, method_in, is_thread, is_runnable, is_assignable}
use Rattle.jr_typing_rules.specs.Scopes.{variable_named}
use Rattle.jr_typing_rules.specs.Denotations.{value_of, variable_of, in_brackets, simple_name, field_access, callee_of, own_callee, constructor_formals, maker, fits}
use Rattle.jr_typing_rules.specs.Operators.{operation, single, wider, compound}
use Rattle.jr_typing_rules.specs.Expressions.{element_type}
use Rattle.jr_typing_rules.specs.Exceptions.{fault_named, is_reserved}
use Rattle.jr_typing_rules.specs.Statements.{has_variable, and_variable, local_variables, effect, expression_statement, condition, reference, returns, throws_variable}
use Rattle.jr_typing_rules.specs.Resolution.{and_entry, looks_like_main, is_library_method, resolve}
use Rattle.jr_typing_rules.specs.Modifiers.{modifiers_stand}
use Rattle.jr_typing_rules.specs.Declarations.{code}
use Rattle.jr_typing_rules.specs.Predicates.{stated, clause_name, states_boolean, states_reference}
use Rattle.jr_typing_rules.specs.Specifications as specifications
use Rattle.jr_typing_rules.specs.Sites.{sites_fit}
use Rattle.jr_typing_rules.specs.Whole.{typing}
use Rattle.jr_typing_rules.proofs.Tools.{Example, AreTyped, at, name, int}

--   class A {
--     //@ requires \result > 0;
--     static int f() { return 1; }
--     public static void main(String[] args) { }
--   }
abbrev pub result_in_requires_source : List ℕ
result_in_requires_source = codes "class A {\n  //@ requires \\result > 0;\n  static int f() { return 1; }\n  public static void main(String[] args) { }\n}\n"

abbrev pub result_in_requires : List units.Class
result_in_requires = record {
  place = at 0 5;
  modifiers = [];
  name = name (codes "A") 6 7;
  extends_thread = false;
  implements_runnable = false;
  members = units.OfMethod (record {
    place = at 16 24;
    clauses = clause_source.Requires
        (at 16 24) (source.Infixed (at 25 32) infixes.Greater (source.MethodResult (at 25 32)) (source.Integer (at 35 36)
        (int 0))) ∷ [];
    modifiers = record { place = at 40 46; kind = modifiers.Static } ∷ [];
    kind = method_kinds.Valued
        (written.Single element.Int);
    name = name (codes "f") 51 52;
    formals = [];
    body = stmt.and_stmt (stmt.Return (at
        57 63) (Some (source.Integer (at 64 65) (int 1)))) stmt.no_stmt;
  }) ∷ units.OfMethod (record {
    place = at 71 77;
    clauses = [];
    modifiers = record { place = at 71 77; kind = modifiers.Public } ∷ record {
      place = at 78 84;
      kind =
          modifiers.Static;
    } ∷ [];
    kind = method_kinds.Void;
    name = name (codes "main") 90 94;
    formals = record {
      modifiers
          = [];
      type_name = written.ArrayOf (element.Class (name (codes "String") 95 101));
      name = name (codes "args") 104
          108;
    } ∷ [];
    body = stmt.no_stmt;
  }) ∷ [];
} ∷ []

--   class A { /*@ spec_safe_math @*/ /*@ spec_java_math @*/ void f() { } }
--   class Main { public static void main(String[] args) { } }
abbrev pub both_modes_source : List ℕ
both_modes_source = codes "class A { /*@ spec_safe_math @*/ /*@ spec_java_math @*/ void f() { } }\nclass Main { public static void main(String[] args) { } }\n"

abbrev pub both_modes : List units.Class
both_modes = record {
  place = at 0 5;
  modifiers = [];
  name = name (codes "A") 6 7;
  extends_thread = false;
  implements_runnable = false;
  members = units.OfMethod (record {
    place = at 14 28;
    clauses = [];
    modifiers = record
        { place = at 14 28; kind = modifiers.SpecSafeMath } ∷ record { place = at 37 51; kind = modifiers.SpecJavaMath } ∷
        [];
    kind = method_kinds.Void;
    name = name (codes "f") 61 62;
    formals = [];
    body = stmt.no_stmt;
  }) ∷ [];
} ∷ record {
  place = at 71 76;
  modifiers = [];
  name = name (codes "Main") 77 81;
  extends_thread = false;
  implements_runnable
      = false;
  members = units.OfMethod (record {
    place = at 84 90;
    clauses = [];
    modifiers = record {
      place = at 84 90;
      kind = modifiers.Public;
    } ∷ record { place = at 91 97; kind = modifiers.Static } ∷ [];
    kind = method_kinds.Void;
    name = name (codes "main") 103 107;
    formals = record {
      modifiers = [];
      type_name = written.ArrayOf (element.Class
          (name (codes "String") 108 114));
      name = name (codes "args") 117 121;
    } ∷ [];
    body = stmt.no_stmt;
  }) ∷ [];
} ∷ []

--   class A { int x; static int y; //@ static invariant x > 0;
--    }
--   class Main { public static void main(String[] args) { } }
abbrev pub instance_field_in_a_static_clause_source : List ℕ
instance_field_in_a_static_clause_source = codes "class A { int x; static int y; //@ static invariant x > 0;\n }\nclass Main { public static void main(String[] args) { } }\n"

abbrev pub instance_field_in_a_static_clause : List units.Class
instance_field_in_a_static_clause = record {
  place = at 0 5;
  modifiers = [];
  name = name (codes "A") 6 7;
  extends_thread = false;
  implements_runnable = false;
  members = units.OfField (record {
    place = at 10 13;
    modifiers
        = [];
    type_name = written.Single element.Int;
    declarators = record {
      name = name (codes "x") 14 15;
      constant =
          None;
    } ∷ [];
  }) ∷ units.OfField (record {
    place = at 17 23;
    modifiers = record {
      place = at 17 23;
      kind =
          modifiers.Static;
    } ∷ [];
    type_name = written.Single element.Int;
    declarators = record {
      name = name (codes "y")
          28 29;
      constant = None;
    } ∷ [];
  }) ∷ units.OfClause (clause_source.Invariant (at 42 51) true (source.Infixed (at 52
      53) infixes.Greater (source.SimpleName (at 52 53) (name (codes "x") 52 53)) (source.Integer (at 56 57) (int 0))))
      ∷ [];
} ∷ record {
  place = at 62 67;
  modifiers = [];
  name = name (codes "Main") 68 72;
  extends_thread = false;
  implements_runnable = false;
  members = units.OfMethod (record {
    place = at 75 81;
    clauses = [];
    modifiers = record
        { place = at 75 81; kind = modifiers.Public } ∷ record { place = at 82 88; kind = modifiers.Static } ∷ [];
    kind =
        method_kinds.Void;
    name = name (codes "main") 94 98;
    formals = record {
      modifiers = [];
      type_name =
          written.ArrayOf (element.Class (name (codes "String") 99 105));
      name = name (codes "args") 108 112;
    } ∷ [];
    body
        = stmt.no_stmt;
  }) ∷ [];
} ∷ []

--   class A { //@ ensures \old(\result) == 1;
--    int f() { return 1; } }
--   class Main { public static void main(String[] args) { } }
abbrev pub result_in_old_source : List ℕ
result_in_old_source = codes "class A { //@ ensures \\old(\\result) == 1;\n int f() { return 1; } }\nclass Main { public static void main(String[] args) { } }\n"

abbrev pub result_in_old : List units.Class
result_in_old = record {
  place = at 0 5;
  modifiers = [];
  name = name (codes "A") 6 7;
  extends_thread = false;
  implements_runnable = false;
  members = units.OfMethod (record {
    place = at 14 21;
    clauses = clause_source.Ensures
        (at 14 21) (source.Infixed (at 22 26) infixes.Equal (source.Old (at 22 26) (source.MethodResult (at 27 34)))
        (source.Integer (at 39 40) (int 1))) ∷ [];
    modifiers = [];
    kind = method_kinds.Valued (written.Single
        element.Int);
    name = name (codes "f") 47 48;
    formals = [];
    body = stmt.and_stmt (stmt.Return (at 53 59) (Some
        (source.Integer (at 60 61) (int 1)))) stmt.no_stmt;
  }) ∷ [];
} ∷ record {
  place = at 67 72;
  modifiers = [];
  name =
      name (codes "Main") 73 77;
  extends_thread = false;
  implements_runnable = false;
  members = units.OfMethod (record {
    place = at 80 86;
    clauses = [];
    modifiers = record { place = at 80 86; kind = modifiers.Public } ∷ record {
      place = at 87 93;
      kind = modifiers.Static;
    } ∷ [];
    kind = method_kinds.Void;
    name = name (codes "main") 99 103;
    formals = record {
      modifiers = [];
      type_name = written.ArrayOf (element.Class (name (codes "String") 104 110));
      name = name (codes "args") 113 117;
    } ∷ [];
    body = stmt.no_stmt;
  }) ∷ [];
} ∷ []

--   class A {
--     //@ invariant true;
--     //@ invariant true;
--     //@ invariant true;
--     //@ invariant true;
--     //@ invariant true;
--     //@ invariant true;
--     //@ invariant true;
--     //@ invariant true;
--     //@ invariant true;
--     //@ invariant true;
--     //@ invariant true;
--     //@ invariant true;
--     //@ invariant true;
--     //@ invariant true;
--     //@ invariant true;
--     //@ invariant true;
--     //@ invariant true;
--     void f() { }
--     /*@ helper @*/ static void g() { }
--     public static void main(String[] args) { }
--   }
abbrev pub seventeen_invariants_source : List ℕ
seventeen_invariants_source = codes "class A {\n  //@ invariant true;\n  //@ invariant true;\n  //@ invariant true;\n  //@ invariant true;\n  //@ invariant true;\n  //@ invariant true;\n  //@ invariant true;\n  //@ invariant true;\n  //@ invariant true;\n  //@ invariant true;\n  //@ invariant true;\n  //@ invariant true;\n  //@ invariant true;\n  //@ invariant true;\n  //@ invariant true;\n  //@ invariant true;\n  //@ invariant true;\n  void f() { }\n  /*@ helper @*/ static void g() { }\n  public static void main(String[] args) { }\n}\n"

abbrev pub seventeen_invariants : List units.Class
seventeen_invariants = record {
  place = at 0 5;
  modifiers = [];
  name = name (codes "A") 6 7;
  extends_thread = false;
  implements_runnable = false;
  members = units.OfClause (clause_source.Invariant (at 16 25) false (source.Boolean
      (at 26 30) true)) ∷ units.OfClause (clause_source.Invariant (at 38 47) false (source.Boolean (at 48 52) true)) ∷
      units.OfClause (clause_source.Invariant (at 60 69) false (source.Boolean (at 70 74) true)) ∷ units.OfClause
      (clause_source.Invariant (at 82 91) false (source.Boolean (at 92 96) true)) ∷ units.OfClause
      (clause_source.Invariant (at 104 113) false (source.Boolean (at 114 118) true)) ∷ units.OfClause
      (clause_source.Invariant (at 126 135) false (source.Boolean (at 136 140) true)) ∷ units.OfClause
      (clause_source.Invariant (at 148 157) false (source.Boolean (at 158 162) true)) ∷ units.OfClause
      (clause_source.Invariant (at 170 179) false (source.Boolean (at 180 184) true)) ∷ units.OfClause
      (clause_source.Invariant (at 192 201) false (source.Boolean (at 202 206) true)) ∷ units.OfClause
      (clause_source.Invariant (at 214 223) false (source.Boolean (at 224 228) true)) ∷ units.OfClause
      (clause_source.Invariant (at 236 245) false (source.Boolean (at 246 250) true)) ∷ units.OfClause
      (clause_source.Invariant (at 258 267) false (source.Boolean (at 268 272) true)) ∷ units.OfClause
      (clause_source.Invariant (at 280 289) false (source.Boolean (at 290 294) true)) ∷ units.OfClause
      (clause_source.Invariant (at 302 311) false (source.Boolean (at 312 316) true)) ∷ units.OfClause
      (clause_source.Invariant (at 324 333) false (source.Boolean (at 334 338) true)) ∷ units.OfClause
      (clause_source.Invariant (at 346 355) false (source.Boolean (at 356 360) true)) ∷ units.OfClause
      (clause_source.Invariant (at 368 377) false (source.Boolean (at 378 382) true)) ∷ units.OfMethod (record {
        place =
            at 386 390;
        clauses = [];
        modifiers = [];
        kind = method_kinds.Void;
        name = name (codes "f") 391 392;
        formals =
            [];
        body = stmt.no_stmt;
      }) ∷ units.OfMethod (record {
        place = at 405 411;
        clauses = [];
        modifiers = record {
          place
              = at 405 411;
          kind = modifiers.Helper;
        } ∷ record { place = at 416 422; kind = modifiers.Static } ∷ [];
        kind =
            method_kinds.Void;
        name = name (codes "g") 428 429;
        formals = [];
        body = stmt.no_stmt;
      }) ∷ units.OfMethod (record {
        place = at 438 444;
        clauses = [];
        modifiers = record { place = at 438 444; kind = modifiers.Public } ∷ record {
          place = at 445 451;
          kind = modifiers.Static;
        } ∷ [];
        kind = method_kinds.Void;
        name = name (codes "main") 457 461;
        formals = record {
          modifiers = [];
          type_name = written.ArrayOf (element.Class (name (codes "String") 462 468));
          name = name (codes "args") 471 475;
        } ∷ [];
        body = stmt.no_stmt;
      }) ∷ [];
} ∷ []

abbrev pub examples : List Example
examples =
    record { source = result_in_requires_source; classes = result_in_requires; answer = Bad (refusals.NotHere (at 25 32)) }
    ∷ record { source = both_modes_source; classes = both_modes; answer = Bad (refusals.Duplicate (at 37 51)) }
    ∷ record { source = instance_field_in_a_static_clause_source; classes = instance_field_in_a_static_clause; answer = Bad (refusals.NotHere (at 52 53)) }
    ∷ record { source = result_in_old_source; classes = result_in_old; answer = Bad (refusals.NotHere (at 27 34)) }
    ∷ record { source = seventeen_invariants_source; classes = seventeen_invariants; answer = Bad (refusals.TooManyClauses (at 391 392)) }
    ∷ []

pub examples-typed : AreTyped examples
unfolding named class_at field_in method_in is_thread is_runnable is_assignable variable_named value_of variable_of
    in_brackets simple_name field_access callee_of own_callee constructor_formals maker fits operation single wider
    compound element_type fault_named is_reserved has_variable and_variable local_variables effect
    expression_statement condition reference returns throws_variable and_entry looks_like_main is_library_method
    resolve modifiers_stand code stated clause_name states_boolean states_reference specifications.clauses sites_fit
    typing
examples-typed = (refl, (refl, (refl, (refl, (refl, tt)))))

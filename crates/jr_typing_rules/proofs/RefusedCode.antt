-- Sources that are refused for their names or their code, each with the rule that it breaks and the place, computed.
use Rattle.std.proofs.Common.{ℕ, List, [], ◌∷◌, Some, None, true, false, codes, refl}
use Rattle.jr_base.specs.declared.refusal.Refusal.TheVariants as refusals
use Rattle.jr_ast.specs.declared.name.ElementType.TheVariants as element
use Rattle.jr_ast.specs.declared.name.TypeName.TheVariants as written
use Rattle.jr_ast.specs.declared.operator.Infix.TheVariants as infixes
use Rattle.jr_ast.specs.declared.unit.ModifierKind.TheVariants as modifiers
use Rattle.jr_ast.specs.declared.unit.ConstantValue.TheVariants as constants
use Rattle.jr_ast.specs.declared.unit.MethodKind.TheVariants as method_kinds
use Rattle.jr_ast.specs.Expressions as source
use Rattle.jr_ast.specs.Statements as stmt
use Rattle.jr_ast.specs.Clauses as clause_source
use Rattle.jr_ast.specs.Units as units
use Rattle.jr_typing_rules.specs.Answers.{Bad}
use Rattle.jr_typing_rules.specs.Names.{named, class_at, field_in, method_in, is_thread, is_runnable, is_assignable}
use Rattle.jr_typing_rules.specs.Scopes.{variable_named}
use Rattle.jr_typing_rules.specs.Denotations.{value_of, variable_of, in_brackets, simple_name, field_access, callee_of, own_callee, constructor_formals, maker, fits}
use Rattle.jr_typing_rules.specs.Operators.{operation, single, wider, compound}
use Rattle.jr_typing_rules.specs.Expressions.{element_type}
use Rattle.jr_typing_rules.specs.Exceptions.{fault_named, is_reserved}
use Rattle.jr_typing_rules.specs.Statements.{has_variable, and_variable, local_variables, effect, expression_statement, condition, reference, returns, throws_variable}
use Rattle.jr_typing_rules.specs.Resolution.{and_entry, looks_like_main, is_library_method, resolve}
use Rattle.jr_typing_rules.specs.Modifiers.{modifiers_stand}
use Rattle.jr_typing_rules.specs.Declarations.{code}
use Rattle.jr_typing_rules.specs.Predicates.{stated, clause_name, states_boolean, states_reference}
use Rattle.jr_typing_rules.specs.Specifications as specifications
use Rattle.jr_typing_rules.specs.Sites.{sites_fit}
use Rattle.jr_typing_rules.specs.Whole.{typing}
use Rattle.jr_typing_rules.proofs.Tools.{Example, AreTyped, at, name, int, long}

--   class A {
--     static int n = 2;
--     //@ requires x > 0;
--     static int twice(int x) { return x + x; }
--     public static void main(String[] args) {
--       System.out.println(twice(m));
--     }
--   }
abbrev pub name_that_is_not_there_source : List ℕ
name_that_is_not_there_source = codes "class A {\n  static int n = 2;\n  //@ requires x > 0;\n  static int twice(int x) { return x + x; }\n  public static void main(String[] args) {\n    System.out.println(twice(m));\n  }\n}\n"

abbrev pub name_that_is_not_there : List units.Class
name_that_is_not_there = record {
  place = at 0 5;
  modifiers = [];
  name = name (codes "A") 6 7;
  extends_thread =
      false;
  implements_runnable = false;
  members = units.OfField (record {
    place = at 12 18;
    modifiers = record {
      place
          = at 12 18;
      kind = modifiers.Static;
    } ∷ [];
    type_name = written.Single element.Int;
    declarators = record {
      name =
          name (codes "n") 23 24;
      constant = Some (record { place = at 27 28; value = constants.Integer (int 2) });
    } ∷ [];
  }) ∷ units.OfMethod (record {
    place = at 36 44;
    clauses = clause_source.Requires (at 36 44) (source.Infixed (at 45
        46) infixes.Greater (source.SimpleName (at 45 46) (name (codes "x") 45 46)) (source.Integer (at 49 50) (int 0)))
        ∷ [];
    modifiers = record { place = at 54 60; kind = modifiers.Static } ∷ [];
    kind = method_kinds.Valued
        (written.Single element.Int);
    name = name (codes "twice") 65 70;
    formals = record {
      modifiers = [];
      type_name =
          written.Single element.Int;
      name = name (codes "x") 75 76;
    } ∷ [];
    body = stmt.and_stmt (stmt.Return (at 80 86)
        (Some (source.Infixed (at 87 88) infixes.Add (source.SimpleName (at 87 88) (name (codes "x") 87 88))
        (source.SimpleName (at 91 92) (name (codes "x") 91 92))))) stmt.no_stmt;
  }) ∷ units.OfMethod (record {
    place = at
        98 104;
    clauses = [];
    modifiers = record { place = at 98 104; kind = modifiers.Public } ∷ record {
      place = at 105
          111;
      kind = modifiers.Static;
    } ∷ [];
    kind = method_kinds.Void;
    name = name (codes "main") 117 121;
    formals =
        record {
          modifiers = [];
          type_name = written.ArrayOf (element.Class (name (codes "String") 122 128));
          name = name
              (codes "args") 131 135;
        } ∷ [];
    body = stmt.and_stmt (stmt.Print (at 143 149) (stmt.Value (source.Call (at 162
        167) (name (codes "twice") 162 167) (source.and_expr (source.SimpleName (at 168 169) (name (codes "m") 168 169))
        source.no_expr)) ∷ [])) stmt.no_stmt;
  }) ∷ [];
} ∷ []

--   class A { static int f() { } public static void main(String[] a) { } }
abbrev pub body_that_does_not_end_source : List ℕ
body_that_does_not_end_source = codes "class A { static int f() { } public static void main(String[] a) { } }"

abbrev pub body_that_does_not_end : List units.Class
body_that_does_not_end = record {
  place = at 0 5;
  modifiers = [];
  name = name (codes "A") 6 7;
  extends_thread =
      false;
  implements_runnable = false;
  members = units.OfMethod (record {
    place = at 10 16;
    clauses = [];
    modifiers =
        record { place = at 10 16; kind = modifiers.Static } ∷ [];
    kind = method_kinds.Valued (written.Single
        element.Int);
    name = name (codes "f") 21 22;
    formals = [];
    body = stmt.no_stmt;
  }) ∷ units.OfMethod (record {
    place = at 29 35;
    clauses = [];
    modifiers = record { place = at 29 35; kind = modifiers.Public } ∷ record {
      place
          = at 36 42;
      kind = modifiers.Static;
    } ∷ [];
    kind = method_kinds.Void;
    name = name (codes "main") 48 52;
    formals =
        record {
          modifiers = [];
          type_name = written.ArrayOf (element.Class (name (codes "String") 53 59));
          name = name
              (codes "a") 62 63;
        } ∷ [];
    body = stmt.no_stmt;
  }) ∷ [];
} ∷ []

--   class A extends Thread {
--     int i; long l; boolean b; int[] ai; long[] al; Object o; A a; static int si; static long sl;
--     void f(int p, long q, boolean r) {
--       break;
--     }
--     public static void main(String[] args) { }
--   }
abbrev pub break_outside_a_loop_source : List ℕ
break_outside_a_loop_source = codes "class A extends Thread {\n  int i; long l; boolean b; int[] ai; long[] al; Object o; A a; static int si; static long sl;\n  \n  void f(int p, long q, boolean r) {\n    break;\n  }\n  \n  public static void main(String[] args) { }\n}\n"

abbrev pub break_outside_a_loop : List units.Class
break_outside_a_loop = record {
  place = at 0 5;
  modifiers = [];
  name = name (codes "A") 6 7;
  extends_thread = true;
  implements_runnable = false;
  members = units.OfField (record {
    place = at 27 30;
    modifiers = [];
    type_name =
        written.Single element.Int;
    declarators = record { name = name (codes "i") 31 32; constant = None } ∷ [];
  }) ∷
      units.OfField (record {
        place = at 34 38;
        modifiers = [];
        type_name = written.Single element.Long;
        declarators =
            record { name = name (codes "l") 39 40; constant = None } ∷ [];
      }) ∷ units.OfField (record {
        place = at 42 49;
        modifiers = [];
        type_name = written.Single element.Boolean;
        declarators = record {
          name = name (codes "b") 50 51;
          constant = None;
        } ∷ [];
      }) ∷ units.OfField (record {
        place = at 53 56;
        modifiers = [];
        type_name = written.ArrayOf
            element.Int;
        declarators = record { name = name (codes "ai") 59 61; constant = None } ∷ [];
      }) ∷ units.OfField
      (record {
        place = at 63 67;
        modifiers = [];
        type_name = written.ArrayOf element.Long;
        declarators = record {
          name
              = name (codes "al") 70 72;
          constant = None;
        } ∷ [];
      }) ∷ units.OfField (record {
        place = at 74 80;
        modifiers = [];
        type_name = written.Single (element.Class (name (codes "Object") 74 80));
        declarators = record {
          name = name
              (codes "o") 81 82;
          constant = None;
        } ∷ [];
      }) ∷ units.OfField (record {
        place = at 84 85;
        modifiers = [];
        type_name = written.Single (element.Class (name (codes "A") 84 85));
        declarators = record {
          name = name (codes
              "a") 86 87;
          constant = None;
        } ∷ [];
      }) ∷ units.OfField (record {
        place = at 89 95;
        modifiers = record {
          place = at
              89 95;
          kind = modifiers.Static;
        } ∷ [];
        type_name = written.Single element.Int;
        declarators = record {
          name = name
              (codes "si") 100 102;
          constant = None;
        } ∷ [];
      }) ∷ units.OfField (record {
        place = at 104 110;
        modifiers = record
            { place = at 104 110; kind = modifiers.Static } ∷ [];
        type_name = written.Single element.Long;
        declarators =
            record { name = name (codes "sl") 116 118; constant = None } ∷ [];
      }) ∷ units.OfMethod (record {
        place = at 125
            129;
        clauses = [];
        modifiers = [];
        kind = method_kinds.Void;
        name = name (codes "f") 130 131;
        formals = record {
          modifiers = [];
          type_name = written.Single element.Int;
          name = name (codes "p") 136 137;
        } ∷ record {
          modifiers =
              [];
          type_name = written.Single element.Long;
          name = name (codes "q") 144 145;
        } ∷ record {
          modifiers = [];
          type_name = written.Single element.Boolean;
          name = name (codes "r") 155 156;
        } ∷ [];
        body = stmt.and_stmt
            (stmt.Break (at 164 169)) stmt.no_stmt;
      }) ∷ units.OfMethod (record {
        place = at 180 186;
        clauses = [];
        modifiers =
            record { place = at 180 186; kind = modifiers.Public } ∷ record { place = at 187 193; kind = modifiers.Static } ∷
            [];
        kind = method_kinds.Void;
        name = name (codes "main") 199 203;
        formals = record {
          modifiers = [];
          type_name =
              written.ArrayOf (element.Class (name (codes "String") 204 210));
          name = name (codes "args") 213 217;
        } ∷ [];
        body
            = stmt.no_stmt;
      }) ∷ [];
} ∷ []

--   class A { int x = 5L; }
--   class Main { public static void main(String[] args) { } }
abbrev pub long_constant_of_an_int_source : List ℕ
long_constant_of_an_int_source = codes "class A { int x = 5L; }\nclass Main { public static void main(String[] args) { } }\n"

abbrev pub long_constant_of_an_int : List units.Class
long_constant_of_an_int = record {
  place = at 0 5;
  modifiers = [];
  name = name (codes "A") 6 7;
  extends_thread =
      false;
  implements_runnable = false;
  members = units.OfField (record {
    place = at 10 13;
    modifiers = [];
    type_name
        = written.Single element.Int;
    declarators = record {
      name = name (codes "x") 14 15;
      constant = Some (record {
        place = at 18 20;
        value = constants.Integer (long 5);
      });
    } ∷ [];
  }) ∷ [];
} ∷ record {
  place = at 24 29;
  modifiers =
      [];
  name = name (codes "Main") 30 34;
  extends_thread = false;
  implements_runnable = false;
  members =
      units.OfMethod (record {
        place = at 37 43;
        clauses = [];
        modifiers = record {
          place = at 37 43;
          kind =
              modifiers.Public;
        } ∷ record { place = at 44 50; kind = modifiers.Static } ∷ [];
        kind = method_kinds.Void;
        name =
            name (codes "main") 56 60;
        formals = record {
          modifiers = [];
          type_name = written.ArrayOf (element.Class (name
              (codes "String") 61 67));
          name = name (codes "args") 70 74;
        } ∷ [];
        body = stmt.no_stmt;
      }) ∷ [];
} ∷ []

--   class A { B() { } }
--   class Main { public static void main(String[] args) { } }
abbrev pub constructor_of_another_name_source : List ℕ
constructor_of_another_name_source = codes "class A { B() { } }\nclass Main { public static void main(String[] args) { } }\n"

abbrev pub constructor_of_another_name : List units.Class
constructor_of_another_name = record {
  place = at 0 5;
  modifiers = [];
  name = name (codes "A") 6 7;
  extends_thread =
      false;
  implements_runnable = false;
  members = units.OfMethod (record {
    place = at 10 11;
    clauses = [];
    modifiers =
        [];
    kind = method_kinds.Constructor;
    name = name (codes "B") 10 11;
    formals = [];
    body = stmt.no_stmt;
  }) ∷ [];
} ∷
    record {
      place = at 20 25;
      modifiers = [];
      name = name (codes "Main") 26 30;
      extends_thread = false;
      implements_runnable = false;
      members = units.OfMethod (record {
        place = at 33 39;
        clauses = [];
        modifiers = record
            { place = at 33 39; kind = modifiers.Public } ∷ record { place = at 40 46; kind = modifiers.Static } ∷ [];
        kind =
            method_kinds.Void;
        name = name (codes "main") 52 56;
        formals = record {
          modifiers = [];
          type_name =
              written.ArrayOf (element.Class (name (codes "String") 57 63));
          name = name (codes "args") 66 70;
        } ∷ [];
        body =
            stmt.no_stmt;
      }) ∷ [];
    } ∷ []

--   class A { int f() { while (true) { } } int g() { for (;;) { } } int h() { do { } while (true); } int k() { while (true) { break; } } }
--   class Main { public static void main(String[] args) { } }
abbrev pub loop_with_a_break_source : List ℕ
loop_with_a_break_source = codes "class A { int f() { while (true) { } } int g() { for (;;) { } } int h() { do { } while (true); } int k() { while (true) { break; } } }\nclass Main { public static void main(String[] args) { } }\n"

abbrev pub loop_with_a_break : List units.Class
loop_with_a_break = record {
  place = at 0 5;
  modifiers = [];
  name = name (codes "A") 6 7;
  extends_thread = false;
  implements_runnable = false;
  members = units.OfMethod (record {
    place = at 10 13;
    clauses = [];
    modifiers = [];
    kind = method_kinds.Valued (written.Single element.Int);
    name = name (codes "f") 14 15;
    formals = [];
    body =
        stmt.and_stmt (stmt.While (at 20 25) (source.Boolean (at 27 31) true) (stmt.Block (at 33 34) stmt.no_stmt))
        stmt.no_stmt;
  }) ∷ units.OfMethod (record {
    place = at 39 42;
    clauses = [];
    modifiers = [];
    kind =
        method_kinds.Valued (written.Single element.Int);
    name = name (codes "g") 43 44;
    formals = [];
    body =
        stmt.and_stmt (stmt.For (at 49 52) (stmt.Evaluates []) None [] (stmt.Block (at 58 59) stmt.no_stmt)) stmt.no_stmt;
  }) ∷ units.OfMethod (record {
    place = at 64 67;
    clauses = [];
    modifiers = [];
    kind = method_kinds.Valued
        (written.Single element.Int);
    name = name (codes "h") 68 69;
    formals = [];
    body = stmt.and_stmt (stmt.Do (at 74
        76) (stmt.Block (at 77 78) stmt.no_stmt) (source.Boolean (at 88 92) true)) stmt.no_stmt;
  }) ∷ units.OfMethod
      (record {
        place = at 97 100;
        clauses = [];
        modifiers = [];
        kind = method_kinds.Valued (written.Single
            element.Int);
        name = name (codes "k") 101 102;
        formals = [];
        body = stmt.and_stmt (stmt.While (at 107 112)
            (source.Boolean (at 114 118) true) (stmt.Block (at 120 121) (stmt.and_stmt (stmt.Break (at 122 127))
            stmt.no_stmt))) stmt.no_stmt;
      }) ∷ [];
} ∷ record {
  place = at 135 140;
  modifiers = [];
  name = name (codes "Main")
      141 145;
  extends_thread = false;
  implements_runnable = false;
  members = units.OfMethod (record {
    place = at 148
        154;
    clauses = [];
    modifiers = record { place = at 148 154; kind = modifiers.Public } ∷ record {
      place = at 155
          161;
      kind = modifiers.Static;
    } ∷ [];
    kind = method_kinds.Void;
    name = name (codes "main") 167 171;
    formals =
        record {
          modifiers = [];
          type_name = written.ArrayOf (element.Class (name (codes "String") 172 178));
          name = name
              (codes "args") 181 185;
        } ∷ [];
    body = stmt.no_stmt;
  }) ∷ [];
} ∷ []

--   class A { int x; long x; }
--   class Main { public static void main(String[] args) { } }
abbrev pub field_twice_source : List ℕ
field_twice_source = codes "class A { int x; long x; }\nclass Main { public static void main(String[] args) { } }\n"

abbrev pub field_twice : List units.Class
field_twice = record {
  place = at 0 5;
  modifiers = [];
  name = name (codes "A") 6 7;
  extends_thread = false;
  implements_runnable = false;
  members = units.OfField (record {
    place = at 10 13;
    modifiers = [];
    type_name =
        written.Single element.Int;
    declarators = record { name = name (codes "x") 14 15; constant = None } ∷ [];
  }) ∷
      units.OfField (record {
        place = at 17 21;
        modifiers = [];
        type_name = written.Single element.Long;
        declarators =
            record { name = name (codes "x") 22 23; constant = None } ∷ [];
      }) ∷ [];
} ∷ record {
  place = at 27 32;
  modifiers =
      [];
  name = name (codes "Main") 33 37;
  extends_thread = false;
  implements_runnable = false;
  members =
      units.OfMethod (record {
        place = at 40 46;
        clauses = [];
        modifiers = record {
          place = at 40 46;
          kind =
              modifiers.Public;
        } ∷ record { place = at 47 53; kind = modifiers.Static } ∷ [];
        kind = method_kinds.Void;
        name =
            name (codes "main") 59 63;
        formals = record {
          modifiers = [];
          type_name = written.ArrayOf (element.Class (name
              (codes "String") 64 70));
          name = name (codes "args") 73 77;
        } ∷ [];
        body = stmt.no_stmt;
      }) ∷ [];
} ∷ []

--   class A { } class A { }
--   class Main { public static void main(String[] args) { } }
abbrev pub class_twice_source : List ℕ
class_twice_source = codes "class A { } class A { }\nclass Main { public static void main(String[] args) { } }\n"

abbrev pub class_twice : List units.Class
class_twice = record {
  place = at 0 5;
  modifiers = [];
  name = name (codes "A") 6 7;
  extends_thread = false;
  implements_runnable = false;
  members = [];
} ∷ record {
  place = at 12 17;
  modifiers = [];
  name = name (codes "A")
      18 19;
  extends_thread = false;
  implements_runnable = false;
  members = [];
} ∷ record {
  place = at 24 29;
  modifiers
      = [];
  name = name (codes "Main") 30 34;
  extends_thread = false;
  implements_runnable = false;
  members =
      units.OfMethod (record {
        place = at 37 43;
        clauses = [];
        modifiers = record {
          place = at 37 43;
          kind =
              modifiers.Public;
        } ∷ record { place = at 44 50; kind = modifiers.Static } ∷ [];
        kind = method_kinds.Void;
        name =
            name (codes "main") 56 60;
        formals = record {
          modifiers = [];
          type_name = written.ArrayOf (element.Class (name
              (codes "String") 61 67));
          name = name (codes "args") 70 74;
        } ∷ [];
        body = stmt.no_stmt;
      }) ∷ [];
} ∷ []

--   class A { }
abbrev pub without_main_source : List ℕ
without_main_source = codes "class A { }"

abbrev pub without_main : List units.Class
without_main = record { place = at 0 5; modifiers = []; name = name (codes "A") 6 7; extends_thread = false; implements_runnable = false; members = [] } ∷ []

abbrev pub examples : List Example
examples =
    record { source = name_that_is_not_there_source; classes = name_that_is_not_there; answer = Bad (refusals.Unknown (at 168 169)) }
    ∷ record { source = body_that_does_not_end_source; classes = body_that_does_not_end; answer = Bad (refusals.MissingReturn (at 21 22)) }
    ∷ record { source = break_outside_a_loop_source; classes = break_outside_a_loop; answer = Bad (refusals.BadLabel (at 164 169)) }
    ∷ record { source = long_constant_of_an_int_source; classes = long_constant_of_an_int; answer = Bad (refusals.Mismatch (at 18 20)) }
    ∷ record { source = constructor_of_another_name_source; classes = constructor_of_another_name; answer = Bad (refusals.Mismatch (at 10 11)) }
    ∷ record { source = loop_with_a_break_source; classes = loop_with_a_break; answer = Bad (refusals.MissingReturn (at 101 102)) }
    ∷ record { source = field_twice_source; classes = field_twice; answer = Bad (refusals.Duplicate (at 22 23)) }
    ∷ record { source = class_twice_source; classes = class_twice; answer = Bad (refusals.Duplicate (at 18 19)) }
    ∷ record { source = without_main_source; classes = without_main; answer = Bad refusals.NoMain }
    ∷ []

pub examples-typed : AreTyped examples
unfolding named class_at field_in method_in is_thread is_runnable is_assignable variable_named value_of variable_of
    in_brackets simple_name field_access callee_of own_callee constructor_formals maker fits operation single wider
    compound element_type fault_named is_reserved has_variable and_variable local_variables effect
    expression_statement condition reference returns throws_variable and_entry looks_like_main is_library_method
    resolve modifiers_stand code stated clause_name states_boolean states_reference specifications.clauses sites_fit
    typing
examples-typed = (refl, (refl, (refl, (refl, (refl, (refl, (refl, (refl, (refl, tt)))))))))

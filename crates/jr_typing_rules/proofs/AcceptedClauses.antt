-- Sources with clauses that are accepted, each with its whole program, computed.
use Rattle.std.proofs.Common.{ℕ, pos, List, [], ◌∷◌, Some, None, true, false, codes, refl}
use Rattle.jr_base.specs.declared.value.Value.TheVariants as values
use Rattle.jr_base.specs.declared.kind.SlotKind.TheVariants as kind
use Rattle.jr_ast.specs.declared.name.ElementType.TheVariants as element
use Rattle.jr_ast.specs.declared.name.TypeName.TheVariants as written
use Rattle.jr_ast.specs.declared.operator.Infix.TheVariants as infixes
use Rattle.jr_ast.specs.declared.unit.ModifierKind.TheVariants as modifiers
use Rattle.jr_ast.specs.declared.unit.ConstantValue.TheVariants as constants
use Rattle.jr_ast.specs.declared.unit.MethodKind.TheVariants as method_kinds
use Rattle.jr_ast.specs.Expressions as source
use Rattle.jr_ast.specs.Statements as stmt
use Rattle.jr_ast.specs.Clauses as clause_source
use Rattle.jr_ast.specs.Units as units
use Rattle.jr_arith.specs.declared.operator.Width.TheVariants as width
use Rattle.jr_arith.specs.declared.operator.Arithmetic.TheVariants as arithmetic
use Rattle.jr_arith.specs.declared.operator.Comparison.TheVariants as compare
use Rattle.jr_arith.specs.declared.operator.Binary.TheVariants as binary
use Rattle.jr_program.specs.declared.words.ClauseKind.TheVariants as clauses
use Rattle.jr_program.specs.declared.words.Mode.TheVariants as modes
use Rattle.jr_program.specs.Clauses as spec
use Rattle.jr_program.specs.Clauses.{OfMethod, OfClass, OfField}
use Rattle.jr_program.specs.Programs.{Program, Read, Binary, ResultOf, Local, StaticField, CallStatic, no_more, and_then, Shown, Skip, ReturnValue, Commit, Println}
use Rattle.jr_typing_rules.specs.Answers.{Good}
use Rattle.jr_typing_rules.specs.Names.{named, class_at, field_in, method_in, is_thread, is_runnable, is_assignable}
use Rattle.jr_typing_rules.specs.Scopes.{variable_named}
use Rattle.jr_typing_rules.specs.Denotations.{value_of, variable_of, in_brackets, simple_name, field_access, callee_of, own_callee, constructor_formals, maker, fits}
use Rattle.jr_typing_rules.specs.Operators.{operation, single, wider, compound}
use Rattle.jr_typing_rules.specs.Expressions.{element_type}
use Rattle.jr_typing_rules.specs.Exceptions.{fault_named, is_reserved}
use Rattle.jr_typing_rules.specs.Statements.{has_variable, and_variable, local_variables, effect, expression_statement, condition, reference, returns, throws_variable}
use Rattle.jr_typing_rules.specs.Resolution.{and_entry, looks_like_main, is_library_method, resolve}
use Rattle.jr_typing_rules.specs.Modifiers.{modifiers_stand}
use Rattle.jr_typing_rules.specs.Declarations.{code}
use Rattle.jr_typing_rules.specs.Predicates.{stated, clause_name, states_boolean, states_reference}
use Rattle.jr_typing_rules.specs.Specifications as specifications
use Rattle.jr_typing_rules.specs.Sites.{sites_fit}
use Rattle.jr_typing_rules.specs.Whole.{typing}
use Rattle.jr_typing_rules.proofs.Tools.{Example, AreTyped, at, name, int, class, field, method}

--   class A {
--     static int n = 2;
--     //@ requires x > 0;
--     static int twice(int x) { return x + x; }
--     public static void main(String[] args) {
--       System.out.println(twice(n));
--     }
--   }
abbrev pub clause_of_a_method_source : List ℕ
clause_of_a_method_source = codes "class A {\n  static int n = 2;\n  //@ requires x > 0;\n  static int twice(int x) { return x + x; }\n  public static void main(String[] args) {\n    System.out.println(twice(n));\n  }\n}\n"

abbrev pub clause_of_a_method : List units.Class
clause_of_a_method = record {
  place = at 0 5;
  modifiers = [];
  name = name (codes "A") 6 7;
  extends_thread = false;
  implements_runnable = false;
  members = units.OfField (record {
    place = at 12 18;
    modifiers = record {
      place = at
          12 18;
      kind = modifiers.Static;
    } ∷ [];
    type_name = written.Single element.Int;
    declarators = record {
      name = name
          (codes "n") 23 24;
      constant = Some (record { place = at 27 28; value = constants.Integer (int 2) });
    } ∷ [];
  }) ∷
      units.OfMethod (record {
        place = at 36 44;
        clauses = clause_source.Requires (at 36 44) (source.Infixed (at 45 46)
            infixes.Greater (source.SimpleName (at 45 46) (name (codes "x") 45 46)) (source.Integer (at 49 50) (int 0))) ∷
            [];
        modifiers = record { place = at 54 60; kind = modifiers.Static } ∷ [];
        kind = method_kinds.Valued
            (written.Single element.Int);
        name = name (codes "twice") 65 70;
        formals = record {
          modifiers = [];
          type_name =
              written.Single element.Int;
          name = name (codes "x") 75 76;
        } ∷ [];
        body = stmt.and_stmt (stmt.Return (at 80 86)
            (Some (source.Infixed (at 87 88) infixes.Add (source.SimpleName (at 87 88) (name (codes "x") 87 88))
            (source.SimpleName (at 91 92) (name (codes "x") 91 92))))) stmt.no_stmt;
      }) ∷ units.OfMethod (record {
        place = at
            98 104;
        clauses = [];
        modifiers = record { place = at 98 104; kind = modifiers.Public } ∷ record {
          place = at 105
              111;
          kind = modifiers.Static;
        } ∷ [];
        kind = method_kinds.Void;
        name = name (codes "main") 117 121;
        formals =
            record {
              modifiers = [];
              type_name = written.ArrayOf (element.Class (name (codes "String") 122 128));
              name = name
                  (codes "args") 131 135;
            } ∷ [];
        body = stmt.and_stmt (stmt.Print (at 143 149) (stmt.Value (source.Call (at 162
            167) (name (codes "twice") 162 167) (source.and_expr (source.SimpleName (at 168 169) (name (codes "n") 168 169))
            source.no_expr)) ∷ [])) stmt.no_stmt;
      }) ∷ [];
} ∷ []

abbrev pub clause_of_a_method_program : Program
clause_of_a_method_program = record {
  classes = record {
    name = codes "A";
    extends_thread = false;
    implements_runnable = false;
    run = None;
    constructor = None;
  } ∷ [];
  fields = record {
    class = class 0;
    is_static =
        true;
    is_volatile = false;
    kind = kind.Int;
    constant = values.Int (pos 2);
  } ∷ [];
  methods = record {
    name = codes
        "twice";
    class = class 0;
    is_static = true;
    is_constructor = false;
    is_synchronized = false;
    is_helper = false;
    formals = kind.Int ∷ [];
    locals = [];
    result = Some kind.Int;
    body = ReturnValue (Binary (binary.Arithmetic
        arithmetic.Add width.Int) (Read (Local 0)) (Read (Local 0)));
  } ∷ record {
    name = codes "main";
    class = class 0;
    is_static = true;
    is_constructor = false;
    is_synchronized = false;
    is_helper = false;
    formals = [];
    locals = [];
    result = None;
    body = Println (Shown (ResultOf (CallStatic (method 0) (and_then (Read (StaticField (field 0)))
        no_more))) ∷ []);
  } ∷ [];
  clauses = record {
    kind = clauses.Requires;
    owner = OfMethod (method 0);
    mode =
        modes.Java;
    is_static = true;
    place = record { line = 3; column = 7 };
    states = spec.Binary (binary.Compare
        compare.Greater width.Int) (spec.Variable 0) (spec.Number width.Int (pos 0)) ∷ [];
  } ∷ [];
  notes = [];
  texts = [];
  main = method 1;
}

--   class A { int x; static int y; //@ monitors_for x = this, null;
--    //@ monitors_for y = A.class;
--    }
--   class Main { public static void main(String[] args) { } }
abbrev pub monitors_source : List ℕ
monitors_source = codes "class A { int x; static int y; //@ monitors_for x = this, null;\n //@ monitors_for y = A.class;\n }\nclass Main { public static void main(String[] args) { } }\n"

abbrev pub monitors : List units.Class
monitors = record {
  place = at 0 5;
  modifiers = [];
  name = name (codes "A") 6 7;
  extends_thread = false;
  implements_runnable = false;
  members = units.OfField (record {
    place = at 10 13;
    modifiers = [];
    type_name =
        written.Single element.Int;
    declarators = record { name = name (codes "x") 14 15; constant = None } ∷ [];
  }) ∷
      units.OfField (record {
        place = at 17 23;
        modifiers = record { place = at 17 23; kind = modifiers.Static } ∷ [];
        type_name = written.Single element.Int;
        declarators = record { name = name (codes "y") 28 29; constant = None } ∷
            [];
      }) ∷ units.OfClause (clause_source.MonitorsFor (at 35 47) (name (codes "x") 48 49) (source.This (at 52 56) ∷
      source.Null (at 58 62) ∷ [])) ∷ units.OfClause (clause_source.MonitorsFor (at 69 81) (name (codes "y") 82 83)
      (source.ClassLiteral (at 86 87) (name (codes "A") 86 87) ∷ [])) ∷ [];
} ∷ record {
  place = at 98 103;
  modifiers =
      [];
  name = name (codes "Main") 104 108;
  extends_thread = false;
  implements_runnable = false;
  members =
      units.OfMethod (record {
        place = at 111 117;
        clauses = [];
        modifiers = record {
          place = at 111 117;
          kind =
              modifiers.Public;
        } ∷ record { place = at 118 124; kind = modifiers.Static } ∷ [];
        kind = method_kinds.Void;
        name =
            name (codes "main") 130 134;
        formals = record {
          modifiers = [];
          type_name = written.ArrayOf (element.Class (name
              (codes "String") 135 141));
          name = name (codes "args") 144 148;
        } ∷ [];
        body = stmt.no_stmt;
      }) ∷ [];
} ∷ []

abbrev pub monitors_program : Program
monitors_program = record {
  classes = record {
    name = codes "A";
    extends_thread = false;
    implements_runnable = false;
    run = None;
    constructor = None;
  } ∷ record {
    name = codes "Main";
    extends_thread = false;
    implements_runnable =
        false;
    run = None;
    constructor = None;
  } ∷ [];
  fields = record {
    class = class 0;
    is_static = false;
    is_volatile =
        false;
    kind = kind.Int;
    constant = values.Int (pos 0);
  } ∷ record {
    class = class 0;
    is_static = true;
    is_volatile
        = false;
    kind = kind.Int;
    constant = values.Int (pos 0);
  } ∷ [];
  methods = record {
    name = codes "main";
    class =
        class 1;
    is_static = true;
    is_constructor = false;
    is_synchronized = false;
    is_helper = false;
    formals = [];
    locals = [];
    result = None;
    body = Skip;
  } ∷ [];
  clauses = record {
    kind = clauses.MonitorsFor;
    owner = OfField
        (field 0);
    mode = modes.Java;
    is_static = false;
    place = record { line = 1; column = 36 };
    states = spec.This ∷
        spec.Null ∷ [];
  } ∷ record {
    kind = clauses.MonitorsFor;
    owner = OfField (field 1);
    mode = modes.Java;
    is_static =
        true;
    place = record { line = 2; column = 6 };
    states = spec.ClassObject (class 0) ∷ [];
  } ∷ [];
  notes = [];
  texts
      = [];
  main = method 0;
}

--   class A { //@ requires \lockset[this] ==> true <==> false <=!=> true;
--    //@ when true <== false <== true;
--    //@ locks this, A.class, null;
--    //@ assignable x;
--    /*@ atomic atomic helper @*/ A(int x) { commit: ; } }
--   class Main { public static void main(String[] args) { } }
abbrev pub clauses_of_a_constructor_source : List ℕ
clauses_of_a_constructor_source = codes "class A { //@ requires \\lockset[this] ==> true <==> false <=!=> true;\n //@ when true <== false <== true;\n //@ locks this, A.class, null;\n //@ assignable x;\n /*@ atomic atomic helper @*/ A(int x) { commit: ; } }\nclass Main { public static void main(String[] args) { } }\n"

abbrev pub clauses_of_a_constructor : List units.Class
clauses_of_a_constructor = record {
  place = at 0 5;
  modifiers = [];
  name = name (codes "A") 6 7;
  extends_thread =
      false;
  implements_runnable = false;
  members = units.OfMethod (record {
    place = at 14 22;
    clauses =
        clause_source.Requires (at 14 22) (source.Infixed (at 23 31) infixes.NotEquivalent (source.Infixed (at 23 31)
        infixes.Equivalent (source.Infixed (at 23 31) infixes.Implies (source.InLockset (at 23 31) (source.This (at 32
        36))) (source.Boolean (at 42 46) true)) (source.Boolean (at 52 57) false)) (source.Boolean (at 64 68) true)) ∷
        clause_source.When (at 75 79) (source.Infixed (at 80 84) infixes.ImpliedBy (source.Infixed (at 80 84)
        infixes.ImpliedBy (source.Boolean (at 80 84) true) (source.Boolean (at 89 94) false)) (source.Boolean (at 99 103)
        true)) ∷ clause_source.Locks (at 110 115) (source.This (at 116 120) ∷ source.ClassLiteral (at 122 123) (name
        (codes "A") 122 123) ∷ source.Null (at 131 135) ∷ []) ∷ clause_source.Assignable (at 142 152) ∷ [];
    modifiers =
        record { place = at 161 167; kind = modifiers.Atomic } ∷ record { place = at 168 174; kind = modifiers.Atomic } ∷
        record { place = at 175 181; kind = modifiers.Helper } ∷ [];
    kind = method_kinds.Constructor;
    name = name (codes
        "A") 186 187;
    formals = record {
      modifiers = [];
      type_name = written.Single element.Int;
      name = name (codes "x")
          192 193;
    } ∷ [];
    body = stmt.and_stmt (stmt.Commit (at 197 203) (stmt.Empty (at 205 206))) stmt.no_stmt;
  }) ∷ [];
} ∷
    record {
      place = at 211 216;
      modifiers = [];
      name = name (codes "Main") 217 221;
      extends_thread = false;
      implements_runnable = false;
      members = units.OfMethod (record {
        place = at 224 230;
        clauses = [];
        modifiers =
            record { place = at 224 230; kind = modifiers.Public } ∷ record { place = at 231 237; kind = modifiers.Static } ∷
            [];
        kind = method_kinds.Void;
        name = name (codes "main") 243 247;
        formals = record {
          modifiers = [];
          type_name =
              written.ArrayOf (element.Class (name (codes "String") 248 254));
          name = name (codes "args") 257 261;
        } ∷ [];
        body
            = stmt.no_stmt;
      }) ∷ [];
    } ∷ []

abbrev pub clauses_of_a_constructor_program : Program
clauses_of_a_constructor_program = record {
  classes = record {
    name = codes "A";
    extends_thread = false;
    implements_runnable = false;
    run = None;
    constructor = Some (method 0);
  } ∷ record {
    name = codes "Main";
    extends_thread = false;
    implements_runnable = false;
    run = None;
    constructor = None;
  } ∷ [];
  fields = [];
  methods =
      record {
        name = codes "new";
        class = class 0;
        is_static = false;
        is_constructor = true;
        is_synchronized = false;
        is_helper = true;
        formals = kind.Int ∷ [];
        locals = [];
        result = None;
        body = Commit Skip;
      } ∷ record {
        name =
            codes "main";
        class = class 1;
        is_static = true;
        is_constructor = false;
        is_synchronized = false;
        is_helper =
            false;
        formals = [];
        locals = [];
        result = None;
        body = Skip;
      } ∷ [];
  clauses = record {
    kind = clauses.Requires;
    owner = OfMethod (method 0);
    mode = modes.Java;
    is_static = false;
    place = record { line = 1; column = 15 };
    states = spec.Binary binary.Differ (spec.Binary binary.Agree (spec.Implies (spec.InLockset spec.This) (spec.Truth
        true)) (spec.Truth false)) (spec.Truth true) ∷ [];
  } ∷ record {
    kind = clauses.When;
    owner = OfMethod (method 0);
    mode = modes.Java;
    is_static = false;
    place = record { line = 2; column = 6 };
    states = spec.ImpliedBy
        (spec.ImpliedBy (spec.Truth true) (spec.Truth false)) (spec.Truth true) ∷ [];
  } ∷ record {
    kind = clauses.Locks;
    owner = OfMethod (method 0);
    mode = modes.Java;
    is_static = false;
    place = record { line = 3; column = 6 };
    states
        = spec.This ∷ spec.ClassObject (class 0) ∷ spec.Null ∷ [];
  } ∷ record {
    kind = clauses.Atomic;
    owner = OfMethod
        (method 0);
    mode = modes.Java;
    is_static = false;
    place = record { line = 5; column = 6 };
    states = [];
  } ∷ record {
    kind = clauses.Atomic;
    owner = OfMethod (method 0);
    mode = modes.Java;
    is_static = false;
    place = record {
      line
          = 5;
      column = 13;
    };
    states = [];
  } ∷ [];
  notes = record {
    word = codes "assignable";
    place = record {
      line = 4;
      column = 6;
    };
  } ∷ [];
  texts = [];
  main = method 1;
}

abbrev pub examples : List Example
examples =
    record { source = clause_of_a_method_source; classes = clause_of_a_method; answer = Good clause_of_a_method_program }
    ∷ record { source = monitors_source; classes = monitors; answer = Good monitors_program }
    ∷ record { source = clauses_of_a_constructor_source; classes = clauses_of_a_constructor; answer = Good clauses_of_a_constructor_program }
    ∷ []

pub examples-typed : AreTyped examples
unfolding named class_at field_in method_in is_thread is_runnable is_assignable variable_named value_of variable_of
    in_brackets simple_name field_access callee_of own_callee constructor_formals maker fits operation single wider
    compound element_type fault_named is_reserved has_variable and_variable local_variables effect
    expression_statement condition reference returns throws_variable and_entry looks_like_main is_library_method
    resolve modifiers_stand code stated clause_name states_boolean states_reference specifications.clauses sites_fit
    typing
examples-typed = (refl, (refl, (refl, tt)))

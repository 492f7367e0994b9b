-- Sources that are accepted, each with its whole program, computed.
use Rattle.std.proofs.Common.{ℕ, pos, negsuc, List, [], ◌∷◌, Some, None, true, false, codes, refl}
use Rattle.jr_base.specs.declared.value.Value.TheVariants as values
use Rattle.jr_base.specs.declared.kind.SlotKind.TheVariants as kind
use Rattle.jr_ast.specs.declared.name.ElementType.TheVariants as element
use Rattle.jr_ast.specs.declared.name.TypeName.TheVariants as written
use Rattle.jr_ast.specs.declared.operator.Infix.TheVariants as infixes
use Rattle.jr_ast.specs.declared.operator.AssignOp.TheVariants as assign
use Rattle.jr_ast.specs.declared.unit.ModifierKind.TheVariants as modifiers
use Rattle.jr_ast.specs.declared.unit.ConstantValue.TheVariants as constants
use Rattle.jr_ast.specs.declared.unit.MethodKind.TheVariants as method_kinds
use Rattle.jr_ast.specs.Expressions as source
use Rattle.jr_ast.specs.Statements as stmt
use Rattle.jr_ast.specs.Units as units
use Rattle.jr_arith.specs.declared.operator.Width.TheVariants as width
use Rattle.jr_arith.specs.declared.operator.Comparison.TheVariants as compare
use Rattle.jr_arith.specs.declared.operator.Binary.TheVariants as binary
use Rattle.jr_program.specs.Programs.{Program, Number, Read, Convert, Binary, Choice, Assign, ResultOf, NewObject, Local, FieldOf, CallOn, no_more, and_then, Skip, Then, Declare, Do, Evaluate, ReturnValue}
use Rattle.jr_typing_rules.specs.Answers.{Good}
use Rattle.jr_typing_rules.specs.Names.{named, class_at, field_in, method_in, is_thread, is_runnable, is_assignable}
use Rattle.jr_typing_rules.specs.Scopes.{variable_named}
use Rattle.jr_typing_rules.specs.Denotations.{value_of, variable_of, in_brackets, simple_name, field_access, callee_of, own_callee, constructor_formals, maker, fits}
use Rattle.jr_typing_rules.specs.Operators.{operation, single, wider, compound}
use Rattle.jr_typing_rules.specs.Expressions.{element_type}
use Rattle.jr_typing_rules.specs.Exceptions.{fault_named, is_reserved}
use Rattle.jr_typing_rules.specs.Statements.{has_variable, and_variable, local_variables, effect, expression_statement, condition, reference, returns, throws_variable}
use Rattle.jr_typing_rules.specs.Resolution.{and_entry, looks_like_main, is_library_method, resolve}
use Rattle.jr_typing_rules.specs.Modifiers.{modifiers_stand}
use Rattle.jr_typing_rules.specs.Declarations.{code}
use Rattle.jr_typing_rules.specs.Predicates.{stated, clause_name, states_boolean, states_reference}
use Rattle.jr_typing_rules.specs.Specifications as specifications
use Rattle.jr_typing_rules.specs.Sites.{sites_fit}
use Rattle.jr_typing_rules.specs.Whole.{typing}
use Rattle.jr_typing_rules.proofs.Tools.{Example, AreTyped, at, name, int, long, class, field, method}

--   class A { long x = 5, y = -5, z = 5L, w = -9223372036854775808L; boolean b = true; Object o = null; int[] a = null; }
--   class Main { public static void main(String[] args) { } }
abbrev pub field_constants_source : List ℕ
field_constants_source = codes "class A { long x = 5, y = -5, z = 5L, w = -9223372036854775808L; boolean b = true; Object o = null; int[] a = null; }\nclass Main { public static void main(String[] args) { } }\n"

abbrev pub field_constants : List units.Class
field_constants = record {
  place = at 0 5;
  modifiers = [];
  name = name (codes "A") 6 7;
  extends_thread = false;
  implements_runnable = false;
  members = units.OfField (record {
    place = at 10 14;
    modifiers = [];
    type_name =
        written.Single element.Long;
    declarators = record {
      name = name (codes "x") 15 16;
      constant = Some (record {
        place = at 19 20;
        value = constants.Integer (int 5);
      });
    } ∷ record {
      name = name (codes "y") 22 23;
      constant =
          Some (record { place = at 26 27; value = constants.Negated (int 5) });
    } ∷ record {
      name = name (codes "z") 30 31;
      constant = Some (record { place = at 34 36; value = constants.Integer (long 5) });
    } ∷ record {
      name = name (codes
          "w") 38 39;
      constant = Some (record { place = at 42 43; value = constants.Negated (long 9223372036854775808) });
    }
        ∷ [];
  }) ∷ units.OfField (record {
    place = at 65 72;
    modifiers = [];
    type_name = written.Single element.Boolean;
    declarators = record {
      name = name (codes "b") 73 74;
      constant = Some (record {
        place = at 77 81;
        value =
            constants.Boolean true;
      });
    } ∷ [];
  }) ∷ units.OfField (record {
    place = at 83 89;
    modifiers = [];
    type_name =
        written.Single (element.Class (name (codes "Object") 83 89));
    declarators = record {
      name = name (codes "o") 90
          91;
      constant = Some (record { place = at 94 98; value = constants.Null });
    } ∷ [];
  }) ∷ units.OfField (record {
    place = at 100 103;
    modifiers = [];
    type_name = written.ArrayOf element.Int;
    declarators = record {
      name = name
          (codes "a") 106 107;
      constant = Some (record { place = at 110 114; value = constants.Null });
    } ∷ [];
  }) ∷ [];
} ∷
    record {
      place = at 118 123;
      modifiers = [];
      name = name (codes "Main") 124 128;
      extends_thread = false;
      implements_runnable = false;
      members = units.OfMethod (record {
        place = at 131 137;
        clauses = [];
        modifiers =
            record { place = at 131 137; kind = modifiers.Public } ∷ record { place = at 138 144; kind = modifiers.Static } ∷
            [];
        kind = method_kinds.Void;
        name = name (codes "main") 150 154;
        formals = record {
          modifiers = [];
          type_name =
              written.ArrayOf (element.Class (name (codes "String") 155 161));
          name = name (codes "args") 164 168;
        } ∷ [];
        body
            = stmt.no_stmt;
      }) ∷ [];
    } ∷ []

abbrev pub field_constants_program : Program
field_constants_program = record {
  classes = record {
    name = codes "A";
    extends_thread = false;
    implements_runnable =
        false;
    run = None;
    constructor = None;
  } ∷ record {
    name = codes "Main";
    extends_thread = false;
    implements_runnable = false;
    run = None;
    constructor = None;
  } ∷ [];
  fields = record {
    class = class 0;
    is_static =
        false;
    is_volatile = false;
    kind = kind.Long;
    constant = values.Long (pos 5);
  } ∷ record {
    class = class 0;
    is_static = false;
    is_volatile = false;
    kind = kind.Long;
    constant = values.Long (negsuc 4);
  } ∷ record {
    class =
        class 0;
    is_static = false;
    is_volatile = false;
    kind = kind.Long;
    constant = values.Long (pos 5);
  } ∷ record {
    class = class 0;
    is_static = false;
    is_volatile = false;
    kind = kind.Long;
    constant = values.Long (negsuc
        9223372036854775807);
  } ∷ record {
    class = class 0;
    is_static = false;
    is_volatile = false;
    kind = kind.Bool;
    constant = values.Bool true;
  } ∷ record {
    class = class 0;
    is_static = false;
    is_volatile = false;
    kind = kind.Ref;
    constant = values.Null;
  } ∷ record {
    class = class 0;
    is_static = false;
    is_volatile = false;
    kind = kind.Ref;
    constant = values.Null;
  } ∷ [];
  methods = record {
    name = codes "main";
    class = class 1;
    is_static = true;
    is_constructor = false;
    is_synchronized = false;
    is_helper = false;
    formals = [];
    locals = [];
    result = None;
    body
        = Skip;
  } ∷ [];
  clauses = [];
  notes = [];
  texts = [];
  main = method 0;
}

--   class A implements Runnable { public void run() { } }
--   class Main { public static void main(String[] args) { } }
abbrev pub runnable_source : List ℕ
runnable_source = codes "class A implements Runnable { public void run() { } }\nclass Main { public static void main(String[] args) { } }\n"

abbrev pub runnable : List units.Class
runnable = record {
  place = at 0 5;
  modifiers = [];
  name = name (codes "A") 6 7;
  extends_thread = false;
  implements_runnable = true;
  members = units.OfMethod (record {
    place = at 30 36;
    clauses = [];
    modifiers = record
        { place = at 30 36; kind = modifiers.Public } ∷ [];
    kind = method_kinds.Void;
    name = name (codes "run") 42 45;
    formals = [];
    body = stmt.no_stmt;
  }) ∷ [];
} ∷ record {
  place = at 54 59;
  modifiers = [];
  name = name (codes "Main"
      ) 60 64;
  extends_thread = false;
  implements_runnable = false;
  members = units.OfMethod (record {
    place = at 67 73;
    clauses = [];
    modifiers = record { place = at 67 73; kind = modifiers.Public } ∷ record {
      place = at 74 80;
      kind =
          modifiers.Static;
    } ∷ [];
    kind = method_kinds.Void;
    name = name (codes "main") 86 90;
    formals = record {
      modifiers
          = [];
      type_name = written.ArrayOf (element.Class (name (codes "String") 91 97));
      name = name (codes "args") 100
          104;
    } ∷ [];
    body = stmt.no_stmt;
  }) ∷ [];
} ∷ []

abbrev pub runnable_program : Program
runnable_program = record {
  classes = record {
    name = codes "A";
    extends_thread = false;
    implements_runnable = true;
    run = Some (method 0);
    constructor = None;
  } ∷ record {
    name = codes "Main";
    extends_thread = false;
    implements_runnable = false;
    run = None;
    constructor = None;
  } ∷ [];
  fields = [];
  methods = record {
    name = codes
        "run";
    class = class 0;
    is_static = false;
    is_constructor = false;
    is_synchronized = false;
    is_helper = false;
    formals = [];
    locals = [];
    result = None;
    body = Skip;
  } ∷ record {
    name = codes "main";
    class = class 1;
    is_static = true;
    is_constructor = false;
    is_synchronized = false;
    is_helper = false;
    formals = [];
    locals = [];
    result = None;
    body = Skip;
  } ∷ [];
  clauses = [];
  notes = [];
  texts = [];
  main = method 1;
}

--   class A { void f() { B b = new B(1); b.g = (1 > 2) ? b.h(2) : 3; } } class B { long g; B(long x) { } long h(int y) { return y; } }
--   class Main { public static void main(String[] args) { } }
abbrev pub widened_arguments_source : List ℕ
widened_arguments_source = codes "class A { void f() { B b = new B(1); b.g = (1 > 2) ? b.h(2) : 3; } } class B { long g; B(long x) { } long h(int y) { return y; } }\nclass Main { public static void main(String[] args) { } }\n"

abbrev pub widened_arguments : List units.Class
widened_arguments = record {
  place = at 0 5;
  modifiers = [];
  name = name (codes "A") 6 7;
  extends_thread = false;
  implements_runnable = false;
  members = units.OfMethod (record {
    place = at 10 14;
    clauses = [];
    modifiers = [];
    kind = method_kinds.Void;
    name = name (codes "f") 15 16;
    formals = [];
    body = stmt.and_stmt (stmt.Locals (at 21
        22) (written.Single (element.Class (name (codes "B") 21 22))) (record {
          name = name (codes "b") 23 24;
          initial =
              Some (source.NewObject (at 27 30) (name (codes "B") 31 32) (source.and_expr (source.Integer (at 33 34) (int 1))
              source.no_expr));
        } ∷ [])) (stmt.and_stmt (stmt.Expression (at 37 38) (source.Assignment (at 37 38) assign.Assign
        (source.FieldOf (at 37 38) (source.SimpleName (at 37 38) (name (codes "b") 37 38)) (name (codes "g") 39 40))
        (source.Conditional (at 43 44) (source.Brackets (at 43 44) (source.Infixed (at 44 45) infixes.Greater
        (source.Integer (at 44 45) (int 1)) (source.Integer (at 48 49) (int 2)))) (source.CallOf (at 53 54)
        (source.SimpleName (at 53 54) (name (codes "b") 53 54)) (name (codes "h") 55 56) (source.and_expr
        (source.Integer (at 57 58) (int 2)) source.no_expr)) (source.Integer (at 62 63) (int 3))))) stmt.no_stmt);
  }) ∷ [];
} ∷ record {
  place = at 69 74;
  modifiers = [];
  name = name (codes "B") 75 76;
  extends_thread = false;
  implements_runnable = false;
  members = units.OfField (record {
    place = at 79 83;
    modifiers = [];
    type_name =
        written.Single element.Long;
    declarators = record { name = name (codes "g") 84 85; constant = None } ∷ [];
  }) ∷
      units.OfMethod (record {
        place = at 87 88;
        clauses = [];
        modifiers = [];
        kind = method_kinds.Constructor;
        name =
            name (codes "B") 87 88;
        formals = record {
          modifiers = [];
          type_name = written.Single element.Long;
          name = name
              (codes "x") 94 95;
        } ∷ [];
        body = stmt.no_stmt;
      }) ∷ units.OfMethod (record {
        place = at 101 105;
        clauses = [];
        modifiers = [];
        kind = method_kinds.Valued (written.Single element.Long);
        name = name (codes "h") 106 107;
        formals = record { modifiers = []; type_name = written.Single element.Int; name = name (codes "y") 112 113 } ∷
            [];
        body = stmt.and_stmt (stmt.Return (at 117 123) (Some (source.SimpleName (at 124 125) (name (codes "y") 124
            125)))) stmt.no_stmt;
      }) ∷ [];
} ∷ record {
  place = at 131 136;
  modifiers = [];
  name = name (codes "Main") 137 141;
  extends_thread = false;
  implements_runnable = false;
  members = units.OfMethod (record {
    place = at 144 150;
    clauses = [];
    modifiers = record { place = at 144 150; kind = modifiers.Public } ∷ record {
      place = at 151 157;
      kind = modifiers.Static;
    } ∷ [];
    kind = method_kinds.Void;
    name = name (codes "main") 163 167;
    formals = record {
      modifiers = [];
      type_name = written.ArrayOf (element.Class (name (codes "String") 168 174));
      name = name (codes
          "args") 177 181;
    } ∷ [];
    body = stmt.no_stmt;
  }) ∷ [];
} ∷ []

abbrev pub widened_arguments_program : Program
widened_arguments_program = record {
  classes = record {
    name = codes "A";
    extends_thread = false;
    implements_runnable
        = false;
    run = None;
    constructor = None;
  } ∷ record {
    name = codes "B";
    extends_thread = false;
    implements_runnable = false;
    run = None;
    constructor = Some (method 1);
  } ∷ record {
    name = codes "Main";
    extends_thread = false;
    implements_runnable = false;
    run = None;
    constructor = None;
  } ∷ [];
  fields = record {
    class = class 1;
    is_static = false;
    is_volatile = false;
    kind = kind.Long;
    constant = values.Long (pos 0);
  } ∷ [];
  methods = record {
    name = codes "f";
    class = class 0;
    is_static = false;
    is_constructor = false;
    is_synchronized
        = false;
    is_helper = false;
    formals = [];
    locals = kind.Ref ∷ [];
    result = None;
    body = Then (Declare 0 (NewObject
        (class 1) (and_then (Convert width.Long (Number width.Int (pos 1))) no_more))) (Then (Do (Evaluate (Assign (FieldOf
        (Read (Local 0)) (field 0)) (Choice (Binary (binary.Compare compare.Greater width.Int) (Number width.Int (pos 1))
        (Number width.Int (pos 2))) (ResultOf (CallOn (Read (Local 0)) (method 2) (and_then (Number width.Int (pos 2))
        no_more))) (Convert width.Long (Number width.Int (pos 3))))))) Skip);
  } ∷ record {
    name = codes "new";
    class = class 1;
    is_static = false;
    is_constructor = true;
    is_synchronized = false;
    is_helper = false;
    formals = kind.Long ∷ [];
    locals = [];
    result = None;
    body = Skip;
  } ∷ record {
    name = codes "h";
    class = class 1;
    is_static = false;
    is_constructor = false;
    is_synchronized = false;
    is_helper = false;
    formals = kind.Int ∷ [];
    locals = [];
    result =
        Some kind.Long;
    body = ReturnValue (Convert width.Long (Read (Local 0)));
  } ∷ record {
    name = codes "main";
    class
        = class 2;
    is_static = true;
    is_constructor = false;
    is_synchronized = false;
    is_helper = false;
    formals = [];
    locals = [];
    result = None;
    body = Skip;
  } ∷ [];
  clauses = [];
  notes = [];
  texts = [];
  main = method 3;
}

abbrev pub examples : List Example
examples =
    record { source = field_constants_source; classes = field_constants; answer = Good field_constants_program }
    ∷ record { source = runnable_source; classes = runnable; answer = Good runnable_program }
    ∷ record { source = widened_arguments_source; classes = widened_arguments; answer = Good widened_arguments_program }
    ∷ []

pub examples-typed : AreTyped examples
unfolding named class_at field_in method_in is_thread is_runnable is_assignable variable_named value_of variable_of
    in_brackets simple_name field_access callee_of own_callee constructor_formals maker fits operation single wider
    compound element_type fault_named is_reserved has_variable and_variable local_variables effect
    expression_statement condition reference returns throws_variable and_entry looks_like_main is_library_method
    resolve modifiers_stand code stated clause_name states_boolean states_reference specifications.clauses sites_fit
    typing
examples-typed = (refl, (refl, (refl, tt)))

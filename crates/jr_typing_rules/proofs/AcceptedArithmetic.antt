-- Sources with numbers of both types and with both modes of clauses, each with its whole program, computed.
use Rattle.std.proofs.Common.{ℕ, pos, List, [], ◌∷◌, None, true, false, codes, refl}
use Rattle.jr_base.specs.declared.value.Value.TheVariants as values
use Rattle.jr_base.specs.declared.kind.SlotKind.TheVariants as kind
use Rattle.jr_ast.specs.declared.name.ElementType.TheVariants as element
use Rattle.jr_ast.specs.declared.name.TypeName.TheVariants as written
use Rattle.jr_ast.specs.declared.operator.Infix.TheVariants as infixes
use Rattle.jr_ast.specs.declared.operator.AssignOp.TheVariants as assign
use Rattle.jr_ast.specs.declared.unit.ModifierKind.TheVariants as modifiers
use Rattle.jr_ast.specs.declared.unit.MethodKind.TheVariants as method_kinds
use Rattle.jr_ast.specs.Expressions as source
use Rattle.jr_ast.specs.Statements as stmt
use Rattle.jr_ast.specs.Clauses as clause_source
use Rattle.jr_ast.specs.Units as units
use Rattle.jr_arith.specs.declared.operator.Width.TheVariants as width
use Rattle.jr_arith.specs.declared.operator.Arithmetic.TheVariants as arithmetic
use Rattle.jr_arith.specs.declared.operator.Comparison.TheVariants as compare
use Rattle.jr_arith.specs.declared.operator.Binary.TheVariants as binary
use Rattle.jr_program.specs.declared.words.ClauseKind.TheVariants as clauses
use Rattle.jr_program.specs.declared.words.Mode.TheVariants as modes
use Rattle.jr_program.specs.Clauses as spec
use Rattle.jr_program.specs.Clauses.{OfMethod, OfClass, OfField}
use Rattle.jr_program.specs.Programs.{Program, This, Read, Compound, FieldOf, Skip, Do, Evaluate, Assert}
use Rattle.jr_typing_rules.specs.Answers.{Good}
use Rattle.jr_typing_rules.specs.Names.{named, class_at, field_in, method_in, is_thread, is_runnable, is_assignable}
use Rattle.jr_typing_rules.specs.Scopes.{variable_named}
use Rattle.jr_typing_rules.specs.Denotations.{value_of, variable_of, in_brackets, simple_name, field_access, callee_of, own_callee, constructor_formals, maker, fits}
use Rattle.jr_typing_rules.specs.Operators.{operation, single, wider, compound}
use Rattle.jr_typing_rules.specs.Expressions.{element_type}
use Rattle.jr_typing_rules.specs.Exceptions.{fault_named, is_reserved}
use Rattle.jr_typing_rules.specs.Statements.{has_variable, and_variable, local_variables, effect, expression_statement, condition, reference, returns, throws_variable}
use Rattle.jr_typing_rules.specs.Resolution.{and_entry, looks_like_main, is_library_method, resolve}
use Rattle.jr_typing_rules.specs.Modifiers.{modifiers_stand}
use Rattle.jr_typing_rules.specs.Declarations.{code}
use Rattle.jr_typing_rules.specs.Predicates.{stated, clause_name, states_boolean, states_reference}
use Rattle.jr_typing_rules.specs.Specifications as specifications
use Rattle.jr_typing_rules.specs.Sites.{sites_fit}
use Rattle.jr_typing_rules.specs.Whole.{typing}
use Rattle.jr_typing_rules.proofs.Tools.{Example, AreTyped, at, name, int, class, field, method, clause}

--   class A extends Thread {
--     int i; long l; boolean b; int[] ai; long[] al; Object o; A a; static int si; static long sl;
--     void f(int p, long q, boolean r) {
--       i += l;
--     }
--     public static void main(String[] args) { }
--   }
abbrev pub compound_that_narrows_source : List ℕ
compound_that_narrows_source = codes "class A extends Thread {\n  int i; long l; boolean b; int[] ai; long[] al; Object o; A a; static int si; static long sl;\n  \n  void f(int p, long q, boolean r) {\n    i += l;\n  }\n  \n  public static void main(String[] args) { }\n}\n"

abbrev pub compound_that_narrows : List units.Class
compound_that_narrows = record {
  place = at 0 5;
  modifiers = [];
  name = name (codes "A") 6 7;
  extends_thread = true;
  implements_runnable = false;
  members = units.OfField (record {
    place = at 27 30;
    modifiers = [];
    type_name =
        written.Single element.Int;
    declarators = record { name = name (codes "i") 31 32; constant = None } ∷ [];
  }) ∷
      units.OfField (record {
        place = at 34 38;
        modifiers = [];
        type_name = written.Single element.Long;
        declarators =
            record { name = name (codes "l") 39 40; constant = None } ∷ [];
      }) ∷ units.OfField (record {
        place = at 42 49;
        modifiers = [];
        type_name = written.Single element.Boolean;
        declarators = record {
          name = name (codes "b") 50 51;
          constant = None;
        } ∷ [];
      }) ∷ units.OfField (record {
        place = at 53 56;
        modifiers = [];
        type_name = written.ArrayOf
            element.Int;
        declarators = record { name = name (codes "ai") 59 61; constant = None } ∷ [];
      }) ∷ units.OfField
      (record {
        place = at 63 67;
        modifiers = [];
        type_name = written.ArrayOf element.Long;
        declarators = record {
          name
              = name (codes "al") 70 72;
          constant = None;
        } ∷ [];
      }) ∷ units.OfField (record {
        place = at 74 80;
        modifiers = [];
        type_name = written.Single (element.Class (name (codes "Object") 74 80));
        declarators = record {
          name = name
              (codes "o") 81 82;
          constant = None;
        } ∷ [];
      }) ∷ units.OfField (record {
        place = at 84 85;
        modifiers = [];
        type_name = written.Single (element.Class (name (codes "A") 84 85));
        declarators = record {
          name = name (codes
              "a") 86 87;
          constant = None;
        } ∷ [];
      }) ∷ units.OfField (record {
        place = at 89 95;
        modifiers = record {
          place = at
              89 95;
          kind = modifiers.Static;
        } ∷ [];
        type_name = written.Single element.Int;
        declarators = record {
          name = name
              (codes "si") 100 102;
          constant = None;
        } ∷ [];
      }) ∷ units.OfField (record {
        place = at 104 110;
        modifiers = record
            { place = at 104 110; kind = modifiers.Static } ∷ [];
        type_name = written.Single element.Long;
        declarators =
            record { name = name (codes "sl") 116 118; constant = None } ∷ [];
      }) ∷ units.OfMethod (record {
        place = at 125
            129;
        clauses = [];
        modifiers = [];
        kind = method_kinds.Void;
        name = name (codes "f") 130 131;
        formals = record {
          modifiers = [];
          type_name = written.Single element.Int;
          name = name (codes "p") 136 137;
        } ∷ record {
          modifiers =
              [];
          type_name = written.Single element.Long;
          name = name (codes "q") 144 145;
        } ∷ record {
          modifiers = [];
          type_name = written.Single element.Boolean;
          name = name (codes "r") 155 156;
        } ∷ [];
        body = stmt.and_stmt
            (stmt.Expression (at 164 165) (source.Assignment (at 164 165) assign.Add (source.SimpleName (at 164 165) (name
            (codes "i") 164 165)) (source.SimpleName (at 169 170) (name (codes "l") 169 170)))) stmt.no_stmt;
      }) ∷
      units.OfMethod (record {
        place = at 181 187;
        clauses = [];
        modifiers = record {
          place = at 181 187;
          kind =
              modifiers.Public;
        } ∷ record { place = at 188 194; kind = modifiers.Static } ∷ [];
        kind = method_kinds.Void;
        name =
            name (codes "main") 200 204;
        formals = record {
          modifiers = [];
          type_name = written.ArrayOf (element.Class (name
              (codes "String") 205 211));
          name = name (codes "args") 214 218;
        } ∷ [];
        body = stmt.no_stmt;
      }) ∷ [];
} ∷ []

abbrev pub compound_that_narrows_program : Program
compound_that_narrows_program = record {
  classes = record {
    name = codes "A";
    extends_thread = true;
    implements_runnable = false;
    run = None;
    constructor = None;
  } ∷ [];
  fields = record {
    class = class 0;
    is_static =
        false;
    is_volatile = false;
    kind = kind.Int;
    constant = values.Int (pos 0);
  } ∷ record {
    class = class 0;
    is_static
        = false;
    is_volatile = false;
    kind = kind.Long;
    constant = values.Long (pos 0);
  } ∷ record {
    class = class 0;
    is_static = false;
    is_volatile = false;
    kind = kind.Bool;
    constant = values.Bool false;
  } ∷ record {
    class = class
        0;
    is_static = false;
    is_volatile = false;
    kind = kind.Ref;
    constant = values.Null;
  } ∷ record {
    class = class 0;
    is_static = false;
    is_volatile = false;
    kind = kind.Ref;
    constant = values.Null;
  } ∷ record {
    class = class 0;
    is_static = false;
    is_volatile = false;
    kind = kind.Ref;
    constant = values.Null;
  } ∷ record {
    class = class 0;
    is_static = false;
    is_volatile = false;
    kind = kind.Ref;
    constant = values.Null;
  } ∷ record {
    class = class 0;
    is_static = true;
    is_volatile = false;
    kind = kind.Int;
    constant = values.Int (pos 0);
  } ∷ record {
    class = class
        0;
    is_static = true;
    is_volatile = false;
    kind = kind.Long;
    constant = values.Long (pos 0);
  } ∷ [];
  methods =
      record {
        name = codes "f";
        class = class 0;
        is_static = false;
        is_constructor = false;
        is_synchronized = false;
        is_helper = false;
        formals = kind.Int ∷ kind.Long ∷ kind.Bool ∷ [];
        locals = [];
        result = None;
        body = Do
            (Evaluate (Compound (binary.Arithmetic arithmetic.Add width.Long) true (FieldOf This (field 0)) (Read (FieldOf
            This (field 1)))));
      } ∷ record {
        name = codes "main";
        class = class 0;
        is_static = true;
        is_constructor = false;
        is_synchronized = false;
        is_helper = false;
        formals = [];
        locals = [];
        result = None;
        body = Skip;
      } ∷ [];
  clauses
      = [];
  notes = [];
  texts = [];
  main = method 1;
}

--   /*@ spec_safe_math @*/ class A { int x; //@ invariant x + 1 > x;
--    //@ requires x > 0;
--    /*@ spec_java_math @*/ void f() { //@ assert x > 0;
--    } //@ requires x > 0;
--    void g() { } }
--   class Main { public static void main(String[] args) { } }
abbrev pub modes_of_clauses_source : List ℕ
modes_of_clauses_source = codes "/*@ spec_safe_math @*/ class A { int x; //@ invariant x + 1 > x;\n //@ requires x > 0;\n /*@ spec_java_math @*/ void f() { //@ assert x > 0;\n } //@ requires x > 0;\n void g() { } }\nclass Main { public static void main(String[] args) { } }\n"

abbrev pub modes_of_clauses : List units.Class
modes_of_clauses = record {
  place = at 4 18;
  modifiers = record { place = at 4 18; kind = modifiers.SpecSafeMath } ∷
      [];
  name = name (codes "A") 29 30;
  extends_thread = false;
  implements_runnable = false;
  members = units.OfField
      (record {
        place = at 33 36;
        modifiers = [];
        type_name = written.Single element.Int;
        declarators = record {
          name =
              name (codes "x") 37 38;
          constant = None;
        } ∷ [];
      }) ∷ units.OfClause (clause_source.Invariant (at 44 53) false
      (source.Infixed (at 54 55) infixes.Greater (source.Infixed (at 54 55) infixes.Add (source.SimpleName (at 54 55)
      (name (codes "x") 54 55)) (source.Integer (at 58 59) (int 1))) (source.SimpleName (at 62 63) (name (codes "x")
      62 63)))) ∷ units.OfMethod (record {
        place = at 70 78;
        clauses = clause_source.Requires (at 70 78) (source.Infixed
            (at 79 80) infixes.Greater (source.SimpleName (at 79 80) (name (codes "x") 79 80)) (source.Integer (at 83 84)
            (int 0))) ∷ [];
        modifiers = record { place = at 91 105; kind = modifiers.SpecJavaMath } ∷ [];
        kind =
            method_kinds.Void;
        name = name (codes "f") 115 116;
        formals = [];
        body = stmt.and_stmt (stmt.Assert (at 125 131)
            (source.Infixed (at 132 133) infixes.Greater (source.SimpleName (at 132 133) (name (codes "x") 132 133))
            (source.Integer (at 136 137) (int 0)))) stmt.no_stmt;
      }) ∷ units.OfMethod (record {
        place = at 146 154;
        clauses =
            clause_source.Requires (at 146 154) (source.Infixed (at 155 156) infixes.Greater (source.SimpleName (at 155 156)
            (name (codes "x") 155 156)) (source.Integer (at 159 160) (int 0))) ∷ [];
        modifiers = [];
        kind =
            method_kinds.Void;
        name = name (codes "g") 168 169;
        formals = [];
        body = stmt.no_stmt;
      }) ∷ [];
} ∷ record {
  place
      = at 178 183;
  modifiers = [];
  name = name (codes "Main") 184 188;
  extends_thread = false;
  implements_runnable =
      false;
  members = units.OfMethod (record {
    place = at 191 197;
    clauses = [];
    modifiers = record {
      place = at 191
          197;
      kind = modifiers.Public;
    } ∷ record { place = at 198 204; kind = modifiers.Static } ∷ [];
    kind =
        method_kinds.Void;
    name = name (codes "main") 210 214;
    formals = record {
      modifiers = [];
      type_name =
          written.ArrayOf (element.Class (name (codes "String") 215 221));
      name = name (codes "args") 224 228;
    } ∷ [];
    body
        = stmt.no_stmt;
  }) ∷ [];
} ∷ []

abbrev pub modes_of_clauses_program : Program
modes_of_clauses_program = record {
  classes = record {
    name = codes "A";
    extends_thread = false;
    implements_runnable
        = false;
    run = None;
    constructor = None;
  } ∷ record {
    name = codes "Main";
    extends_thread = false;
    implements_runnable = false;
    run = None;
    constructor = None;
  } ∷ [];
  fields = record {
    class = class 0;
    is_static =
        false;
    is_volatile = false;
    kind = kind.Int;
    constant = values.Int (pos 0);
  } ∷ [];
  methods = record {
    name = codes
        "f";
    class = class 0;
    is_static = false;
    is_constructor = false;
    is_synchronized = false;
    is_helper = false;
    formals = [];
    locals = [];
    result = None;
    body = Assert (clause 3) [];
  } ∷ record {
    name = codes "g";
    class =
        class 0;
    is_static = false;
    is_constructor = false;
    is_synchronized = false;
    is_helper = false;
    formals = [];
    locals = [];
    result = None;
    body = Skip;
  } ∷ record {
    name = codes "main";
    class = class 1;
    is_static = true;
    is_constructor = false;
    is_synchronized = false;
    is_helper = false;
    formals = [];
    locals = [];
    result = None;
    body
        = Skip;
  } ∷ [];
  clauses = record {
    kind = clauses.Invariant;
    owner = OfClass (class 0);
    mode = modes.Safe;
    is_static = false;
    place = record { line = 1; column = 45 };
    states = spec.Binary (binary.Compare compare.Greater
        width.Int) (spec.Binary (binary.Arithmetic arithmetic.Add width.Int) (spec.FieldOf spec.This (field 0) 0)
        (spec.Number width.Int (pos 1))) (spec.FieldOf spec.This (field 0) 0) ∷ [];
  } ∷ record {
    kind = clauses.Requires;
    owner = OfMethod (method 0);
    mode = modes.Java;
    is_static = false;
    place = record { line = 2; column = 6 };
    states
        = spec.Binary (binary.Compare compare.Greater width.Int) (spec.FieldOf spec.This (field 0) 0) (spec.Number
        width.Int (pos 0)) ∷ [];
  } ∷ record {
    kind = clauses.Assert;
    owner = OfMethod (method 0);
    mode = modes.Java;
    is_static = false;
    place = record { line = 3; column = 40 };
    states = spec.Binary (binary.Compare compare.Greater
        width.Int) (spec.FieldOf spec.This (field 0) 0) (spec.Number width.Int (pos 0)) ∷ [];
  } ∷ record {
    kind =
        clauses.Requires;
    owner = OfMethod (method 1);
    mode = modes.Safe;
    is_static = false;
    place = record {
      line = 4;
      column = 8;
    };
    states = spec.Binary (binary.Compare compare.Greater width.Int) (spec.FieldOf spec.This (field 0) 0)
        (spec.Number width.Int (pos 0)) ∷ [];
  } ∷ [];
  notes = [];
  texts = [];
  main = method 2;
}

abbrev pub examples : List Example
examples =
    record { source = compound_that_narrows_source; classes = compound_that_narrows; answer = Good compound_that_narrows_program }
    ∷ record { source = modes_of_clauses_source; classes = modes_of_clauses; answer = Good modes_of_clauses_program }
    ∷ []

pub examples-typed : AreTyped examples
unfolding named class_at field_in method_in is_thread is_runnable is_assignable variable_named value_of variable_of
    in_brackets simple_name field_access callee_of own_callee constructor_formals maker fits operation single wider
    compound element_type fault_named is_reserved has_variable and_variable local_variables effect
    expression_statement condition reference returns throws_variable and_entry looks_like_main is_library_method
    resolve modifiers_stand code stated clause_name states_boolean states_reference specifications.clauses sites_fit
    typing
examples-typed = (refl, (refl, tt))

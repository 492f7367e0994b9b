-- A source that is accepted, with its whole program, computed: everything is numbered in source order.
use Rattle.std.proofs.Common.{ℕ, pos, List, [], ◌∷◌, Some, None, true, false, codes, refl}
use Rattle.jr_base.specs.declared.value.Value.TheVariants as values
use Rattle.jr_base.specs.declared.finish.Fault.TheVariants as faults
use Rattle.jr_base.specs.declared.kind.SlotKind.TheVariants as kind
use Rattle.jr_ast.specs.declared.name.ElementType.TheVariants as element
use Rattle.jr_ast.specs.declared.name.TypeName.TheVariants as written
use Rattle.jr_ast.specs.declared.operator.Postfix.TheVariants as postfixes
use Rattle.jr_ast.specs.declared.operator.Infix.TheVariants as infixes
use Rattle.jr_ast.specs.declared.operator.AssignOp.TheVariants as assign
use Rattle.jr_ast.specs.declared.expr.Bound.TheVariants as bounds
use Rattle.jr_ast.specs.declared.expr.Quantifier.TheVariants as quantifiers
use Rattle.jr_ast.specs.declared.unit.ModifierKind.TheVariants as modifiers
use Rattle.jr_ast.specs.declared.unit.MethodKind.TheVariants as method_kinds
use Rattle.jr_ast.specs.Expressions as source
use Rattle.jr_ast.specs.Statements as stmt
use Rattle.jr_ast.specs.Clauses as clause_source
use Rattle.jr_ast.specs.Units as units
use Rattle.jr_arith.specs.declared.operator.Width.TheVariants as width
use Rattle.jr_arith.specs.declared.operator.Arithmetic.TheVariants as arithmetic
use Rattle.jr_arith.specs.declared.operator.Comparison.TheVariants as compare
use Rattle.jr_arith.specs.declared.operator.Binary.TheVariants as binary
use Rattle.jr_program.specs.declared.words.ClauseKind.TheVariants as clauses
use Rattle.jr_program.specs.declared.words.Mode.TheVariants as modes
use Rattle.jr_program.specs.declared.words.Bound.TheVariants as program_bounds
use Rattle.jr_program.specs.declared.words.Quantifier.TheVariants as program_quantifiers
use Rattle.jr_program.specs.Clauses as spec
use Rattle.jr_program.specs.Clauses.{OfMethod, OfClass, OfField}
use Rattle.jr_program.specs.Programs.{Program, Number, This, Read, Binary, Assign, PostfixIncrement, Local, FieldOf, Literal, Shown, no_catch, or_catch, Skip, Then, Declare, Do, Evaluate, Loop, Try, Commit, Println, Assert}
use Rattle.jr_typing_rules.specs.Answers.{Good}
use Rattle.jr_typing_rules.specs.Names.{named, class_at, field_in, method_in, is_thread, is_runnable, is_assignable}
use Rattle.jr_typing_rules.specs.Scopes.{variable_named}
use Rattle.jr_typing_rules.specs.Denotations.{value_of, variable_of, in_brackets, simple_name, field_access, callee_of, own_callee, constructor_formals, maker, fits}
use Rattle.jr_typing_rules.specs.Operators.{operation, single, wider, compound}
use Rattle.jr_typing_rules.specs.Expressions.{element_type}
use Rattle.jr_typing_rules.specs.Exceptions.{fault_named, is_reserved}
use Rattle.jr_typing_rules.specs.Statements.{has_variable, and_variable, local_variables, effect, expression_statement, condition, reference, returns, throws_variable}
use Rattle.jr_typing_rules.specs.Resolution.{and_entry, looks_like_main, is_library_method, resolve}
use Rattle.jr_typing_rules.specs.Modifiers.{modifiers_stand}
use Rattle.jr_typing_rules.specs.Declarations.{code}
use Rattle.jr_typing_rules.specs.Predicates.{stated, clause_name, states_boolean, states_reference}
use Rattle.jr_typing_rules.specs.Specifications as specifications
use Rattle.jr_typing_rules.specs.Sites.{sites_fit}
use Rattle.jr_typing_rules.specs.Whole.{typing}
use Rattle.jr_typing_rules.proofs.Tools.{Example, AreTyped, at, name, int, class, field, method, clause, text}

--   class A {
--     int x;
--     //@ invariant x >= 0;
--     //@ requires p > 0;
--     //@ ensures \old(x) <= x;
--     /*@ atomic @*/ void f(int p) {
--       System.out.println("a");
--       int q = p;
--       //@ assert q == p;
--       try { System.out.println("b" + q + "c"); } catch (Exception e) { int r = 1; System.out.println("d"); //@ assert r + q + p > x;
--       }
--       int s = 2;
--       //@ assert s > 0;
--     }
--     //@ requires p > 1;
--     //@ assignable x;
--     static void g(int p) {
--       System.out.println("e");
--       //@ assert p > 1;
--       for (int i = 0; i < 3; i++) { //@ assert i < 3;
--         System.out.println("f" + i + "g");
--       }
--     }
--     //@ constraint x >= \old(x);
--     A(int y) { //@ assert y == y && (\forall int k; 0 <= k && k < y; (\exists int j; k <= j && j < y; j + k >= 0));
--       x = y; System.out.println("h"); }
--   }
--   class Main {
--     //@ requires true;
--     public static void main(String[] args) {
--       int z = 1;
--       //@ assert z == 1;
--       System.out.println("i");
--     }
--     //@ when z > 0;
--     static void h(int z) { commit: ; }
--   }
abbrev pub numbers_in_source_order_source : List ℕ
numbers_in_source_order_source = codes "class A {\n  int x;\n  //@ invariant x >= 0;\n  //@ requires p > 0;\n  //@ ensures \\old(x) <= x;\n  /*@ atomic @*/ void f(int p) {\n    System.out.println(\"a\");\n    int q = p;\n    //@ assert q == p;\n    try { System.out.println(\"b\" + q + \"c\"); } catch (Exception e) { int r = 1; System.out.println(\"d\"); //@ assert r + q + p > x;\n    }\n    int s = 2;\n    //@ assert s > 0;\n  }\n  //@ requires p > 1;\n  //@ assignable x;\n  static void g(int p) {\n    System.out.println(\"e\");\n    //@ assert p > 1;\n    for (int i = 0; i < 3; i++) { //@ assert i < 3;\n      System.out.println(\"f\" + i + \"g\");\n    }\n  }\n  //@ constraint x >= \\old(x);\n  A(int y) { //@ assert y == y && (\\forall int k; 0 <= k && k < y; (\\exists int j; k <= j && j < y; j + k >= 0));\n    x = y; System.out.println(\"h\"); }\n}\nclass Main {\n  //@ requires true;\n  public static void main(String[] args) {\n    int z = 1;\n    //@ assert z == 1;\n    System.out.println(\"i\");\n  }\n  //@ when z > 0;\n  static void h(int z) { commit: ; }\n}\n"

abbrev pub numbers_in_source_order : List units.Class
numbers_in_source_order = record {
  place = at 0 5;
  modifiers = [];
  name = name (codes "A") 6 7;
  extends_thread =
      false;
  implements_runnable = false;
  members = units.OfField (record {
    place = at 12 15;
    modifiers = [];
    type_name
        = written.Single element.Int;
    declarators = record { name = name (codes "x") 16 17; constant = None } ∷ [];
  }) ∷
      units.OfClause (clause_source.Invariant (at 25 34) false (source.Infixed (at 35 36) infixes.GreaterEqual
      (source.SimpleName (at 35 36) (name (codes "x") 35 36)) (source.Integer (at 40 41) (int 0)))) ∷ units.OfMethod
      (record {
        place = at 49 57;
        clauses = clause_source.Requires (at 49 57) (source.Infixed (at 58 59) infixes.Greater
            (source.SimpleName (at 58 59) (name (codes "p") 58 59)) (source.Integer (at 62 63) (int 0))) ∷
            clause_source.Ensures (at 71 78) (source.Infixed (at 79 83) infixes.LessEqual (source.Old (at 79 83)
            (source.SimpleName (at 84 85) (name (codes "x") 84 85))) (source.SimpleName (at 90 91) (name (codes "x") 90
            91))) ∷ [];
        modifiers = record { place = at 99 105; kind = modifiers.Atomic } ∷ [];
        kind = method_kinds.Void;
        name
            = name (codes "f") 115 116;
        formals = record {
          modifiers = [];
          type_name = written.Single element.Int;
          name =
              name (codes "p") 121 122;
        } ∷ [];
        body = stmt.and_stmt (stmt.Print (at 130 136) (stmt.Text (codes "a") ∷ []))
            (stmt.and_stmt (stmt.Locals (at 159 162) (written.Single element.Int) (record {
              name = name (codes "q") 163 164;
              initial = Some (source.SimpleName (at 167 168) (name (codes "p") 167 168));
            } ∷ [])) (stmt.and_stmt (stmt.Assert
            (at 178 184) (source.Infixed (at 185 186) infixes.Equal (source.SimpleName (at 185 186) (name (codes "q") 185
            186)) (source.SimpleName (at 190 191) (name (codes "p") 190 191)))) (stmt.and_stmt (stmt.Try (at 197 200)
            (stmt.and_stmt (stmt.Print (at 203 209) (stmt.Text (codes "b") ∷ stmt.Value (source.SimpleName (at 228 229) (name
            (codes "q") 228 229)) ∷ stmt.Text (codes "c") ∷ [])) stmt.no_stmt) (stmt.and_catch (name (codes "Exception")
            247 256) (name (codes "e") 257 258) (stmt.and_stmt (stmt.Locals (at 262 265) (written.Single element.Int) (record
            { name = name (codes "r") 266 267; initial = Some (source.Integer (at 270 271) (int 1)) } ∷ [])) (stmt.and_stmt
            (stmt.Print (at 273 279) (stmt.Text (codes "d") ∷ [])) (stmt.and_stmt (stmt.Assert (at 302 308) (source.Infixed
            (at 309 310) infixes.Greater (source.Infixed (at 309 310) infixes.Add (source.Infixed (at 309 310) infixes.Add
            (source.SimpleName (at 309 310) (name (codes "r") 309 310)) (source.SimpleName (at 313 314) (name (codes "q")
            313 314))) (source.SimpleName (at 317 318) (name (codes "p") 317 318))) (source.SimpleName (at 321 322) (name
            (codes "x") 321 322)))) stmt.no_stmt))) stmt.no_catch)) (stmt.and_stmt (stmt.Locals (at 334 337) (written.Single
            element.Int) (record { name = name (codes "s") 338 339; initial = Some (source.Integer (at 342 343) (int 2)) } ∷
            [])) (stmt.and_stmt (stmt.Assert (at 353 359) (source.Infixed (at 360 361) infixes.Greater (source.SimpleName (at
            360 361) (name (codes "s") 360 361)) (source.Integer (at 364 365) (int 0)))) stmt.no_stmt)))));
      }) ∷
      units.OfMethod (record {
        place = at 377 385;
        clauses = clause_source.Requires (at 377 385) (source.Infixed (at 386
            387) infixes.Greater (source.SimpleName (at 386 387) (name (codes "p") 386 387)) (source.Integer (at 390 391)
            (int 1))) ∷ clause_source.Assignable (at 399 409) ∷ [];
        modifiers = record {
          place = at 415 421;
          kind =
              modifiers.Static;
        } ∷ [];
        kind = method_kinds.Void;
        name = name (codes "g") 427 428;
        formals = record {
          modifiers
              = [];
          type_name = written.Single element.Int;
          name = name (codes "p") 433 434;
        } ∷ [];
        body = stmt.and_stmt
            (stmt.Print (at 442 448) (stmt.Text (codes "e") ∷ [])) (stmt.and_stmt (stmt.Assert (at 475 481) (source.Infixed
            (at 482 483) infixes.Greater (source.SimpleName (at 482 483) (name (codes "p") 482 483)) (source.Integer (at 486
            487) (int 1)))) (stmt.and_stmt (stmt.For (at 493 496) (stmt.Declares (written.Single element.Int) (record {
              name =
                  name (codes "i") 502 503;
              initial = Some (source.Integer (at 506 507) (int 0));
            } ∷ [])) (Some (source.Infixed (at
            509 510) infixes.Less (source.SimpleName (at 509 510) (name (codes "i") 509 510)) (source.Integer (at 513 514)
            (int 3)))) (source.Postfixed (at 516 517) postfixes.Increment (source.SimpleName (at 516 517) (name (codes "i")
            516 517)) ∷ []) (stmt.Block (at 521 522) (stmt.and_stmt (stmt.Assert (at 527 533) (source.Infixed (at 534 535)
            infixes.Less (source.SimpleName (at 534 535) (name (codes "i") 534 535)) (source.Integer (at 538 539) (int 3))))
            (stmt.and_stmt (stmt.Print (at 547 553) (stmt.Text (codes "f") ∷ stmt.Value (source.SimpleName (at 572 573) (name
            (codes "i") 572 573)) ∷ stmt.Text (codes "g") ∷ [])) stmt.no_stmt)))) stmt.no_stmt));
      }) ∷ units.OfClause
      (clause_source.Constraint (at 598 608) false (source.Infixed (at 609 610) infixes.GreaterEqual (source.SimpleName
      (at 609 610) (name (codes "x") 609 610)) (source.Old (at 614 618) (source.SimpleName (at 619 620) (name (codes
      "x") 619 620))))) ∷ units.OfMethod (record {
        place = at 625 626;
        clauses = [];
        modifiers = [];
        kind =
            method_kinds.Constructor;
        name = name (codes "A") 625 626;
        formals = record {
          modifiers = [];
          type_name =
              written.Single element.Int;
          name = name (codes "y") 631 632;
        } ∷ [];
        body = stmt.and_stmt (stmt.Assert (at 640
            646) (source.Infixed (at 647 648) infixes.And (source.Infixed (at 647 648) infixes.Equal (source.SimpleName (at
            647 648) (name (codes "y") 647 648)) (source.SimpleName (at 652 653) (name (codes "y") 652 653)))
            (source.Quantified (at 657 658) quantifiers.ForAll (name (codes "k") 670 671) (source.Integer (at 673 674) (int
            0)) bounds.Inclusive (source.SimpleName (at 687 688) (name (codes "y") 687 688)) bounds.Exclusive source.no_expr
            (source.Quantified (at 690 691) quantifiers.Exists (name (codes "j") 703 704) (source.SimpleName (at 706 707)
            (name (codes "k") 706 707)) bounds.Inclusive (source.SimpleName (at 720 721) (name (codes "y") 720 721))
            bounds.Exclusive source.no_expr (source.Infixed (at 723 724) infixes.GreaterEqual (source.Infixed (at 723 724)
            infixes.Add (source.SimpleName (at 723 724) (name (codes "j") 723 724)) (source.SimpleName (at 727 728) (name
            (codes "k") 727 728))) (source.Integer (at 732 733) (int 0))))))) (stmt.and_stmt (stmt.Expression (at 741 742)
            (source.Assignment (at 741 742) assign.Assign (source.SimpleName (at 741 742) (name (codes "x") 741 742))
            (source.SimpleName (at 745 746) (name (codes "y") 745 746)))) (stmt.and_stmt (stmt.Print (at 748 754) (stmt.Text
            (codes "h") ∷ [])) stmt.no_stmt));
      }) ∷ [];
} ∷ record {
  place = at 777 782;
  modifiers = [];
  name = name (codes
      "Main") 783 787;
  extends_thread = false;
  implements_runnable = false;
  members = units.OfMethod (record {
    place =
        at 796 804;
    clauses = clause_source.Requires (at 796 804) (source.Boolean (at 805 809) true) ∷ [];
    modifiers =
        record { place = at 813 819; kind = modifiers.Public } ∷ record { place = at 820 826; kind = modifiers.Static } ∷
        [];
    kind = method_kinds.Void;
    name = name (codes "main") 832 836;
    formals = record {
      modifiers = [];
      type_name =
          written.ArrayOf (element.Class (name (codes "String") 837 843));
      name = name (codes "args") 846 850;
    } ∷ [];
    body
        = stmt.and_stmt (stmt.Locals (at 858 861) (written.Single element.Int) (record {
          name = name (codes "z") 862 863;
          initial = Some (source.Integer (at 866 867) (int 1));
        } ∷ [])) (stmt.and_stmt (stmt.Assert (at 877 883)
        (source.Infixed (at 884 885) infixes.Equal (source.SimpleName (at 884 885) (name (codes "z") 884 885))
        (source.Integer (at 889 890) (int 1)))) (stmt.and_stmt (stmt.Print (at 896 902) (stmt.Text (codes "i") ∷ []))
        stmt.no_stmt));
  }) ∷ units.OfMethod (record {
    place = at 931 935;
    clauses = clause_source.When (at 931 935)
        (source.Infixed (at 936 937) infixes.Greater (source.SimpleName (at 936 937) (name (codes "z") 936 937))
        (source.Integer (at 940 941) (int 0))) ∷ [];
    modifiers = record { place = at 945 951; kind = modifiers.Static } ∷
        [];
    kind = method_kinds.Void;
    name = name (codes "h") 957 958;
    formals = record {
      modifiers = [];
      type_name =
          written.Single element.Int;
      name = name (codes "z") 963 964;
    } ∷ [];
    body = stmt.and_stmt (stmt.Commit (at 968
        974) (stmt.Empty (at 976 977))) stmt.no_stmt;
  }) ∷ [];
} ∷ []

abbrev pub numbers_in_source_order_program : Program
numbers_in_source_order_program = record {
  classes = record {
    name = codes "A";
    extends_thread = false;
    implements_runnable = false;
    run = None;
    constructor = Some (method 2);
  } ∷ record {
    name = codes "Main";
    extends_thread = false;
    implements_runnable = false;
    run = None;
    constructor = None;
  } ∷ [];
  fields = record {
    class = class 0;
    is_static = false;
    is_volatile = false;
    kind = kind.Int;
    constant = values.Int (pos 0);
  } ∷ [];
  methods = record {
    name = codes "f";
    class = class 0;
    is_static = false;
    is_constructor = false;
    is_synchronized
        = false;
    is_helper = false;
    formals = kind.Int ∷ [];
    locals = kind.Int ∷ kind.Caught ∷ kind.Int ∷ kind.Int ∷ [];
    result = None;
    body = Then (Println (Literal (text 0) ∷ [])) (Then (Declare 1 (Read (Local 0))) (Then (Assert
        (clause 5) (0 ∷ 1 ∷ [])) (Then (Try (Println (Literal (text 1) ∷ Shown (Read (Local 1)) ∷ Literal (text 2) ∷ []))
        (or_catch faults.Exception 2 (Then (Declare 3 (Number width.Int (pos 1))) (Then (Println (Literal (text 3) ∷ []))
        (Then (Assert (clause 6) (0 ∷ 1 ∷ 3 ∷ [])) Skip))) no_catch)) (Then (Declare 4 (Number width.Int (pos 2))) (Then
        (Assert (clause 7) (0 ∷ 1 ∷ 4 ∷ [])) Skip)))));
  } ∷ record {
    name = codes "g";
    class = class 0;
    is_static = true;
    is_constructor = false;
    is_synchronized = false;
    is_helper = false;
    formals = kind.Int ∷ [];
    locals = kind.Int ∷ [];
    result = None;
    body =
        Then (Println (Literal (text 4) ∷ [])) (Then (Assert (clause 9) (0 ∷ [])) (Then (Then (Declare 1 (Number width.Int (pos
        0))) (Then (Loop (Binary (binary.Compare compare.Less width.Int) (Read (Local 1)) (Number width.Int (pos 3)))
        (Evaluate (PostfixIncrement width.Int (Local 1) (pos 1)) ∷ []) (Then (Assert (clause 10) (0 ∷ 1 ∷ [])) (Then
        (Println (Literal (text 5) ∷ Shown (Read (Local 1)) ∷ Literal (text 6) ∷ [])) Skip))) Skip)) Skip));
  } ∷ record {
    name = codes "new";
    class = class 0;
    is_static = false;
    is_constructor = true;
    is_synchronized = false;
    is_helper = false;
    formals = kind.Int ∷ [];
    locals = [];
    result = None;
    body = Then (Assert (clause 12) (0 ∷ [])) (Then (Do (Evaluate (Assign (FieldOf This
        (field 0)) (Read (Local 0))))) (Then (Println (Literal (text 7) ∷ [])) Skip));
  } ∷ record {
    name = codes "main";
    class = class
        1;
    is_static = true;
    is_constructor = false;
    is_synchronized = false;
    is_helper = false;
    formals = [];
    locals =
        kind.Int ∷ [];
    result = None;
    body = Then (Declare 0 (Number width.Int (pos 1))) (Then (Assert (clause 14) (0 ∷
        [])) (Then (Println (Literal (text 8) ∷ [])) Skip));
  } ∷ record {
    name = codes "h";
    class = class 1;
    is_static = true;
    is_constructor = false;
    is_synchronized = false;
    is_helper = false;
    formals = kind.Int ∷ [];
    locals = [];
    result =
        None;
    body = Commit Skip;
  } ∷ [];
  clauses = record {
    kind = clauses.Invariant;
    owner = OfClass (class 0);
    mode =
        modes.Java;
    is_static = false;
    place = record { line = 3; column = 7 };
    states = spec.Binary (binary.Compare
        compare.GreaterEqual width.Int) (spec.FieldOf spec.This (field 0) 0) (spec.Number width.Int (pos 0)) ∷ [];
  } ∷
      record {
        kind = clauses.Requires;
        owner = OfMethod (method 0);
        mode = modes.Java;
        is_static = false;
        place =
            record { line = 4; column = 7 };
        states = spec.Binary (binary.Compare compare.Greater width.Int) (spec.Variable 0)
            (spec.Number width.Int (pos 0)) ∷ [];
      } ∷ record {
        kind = clauses.Ensures;
        owner = OfMethod (method 0);
        mode =
            modes.Java;
        is_static = false;
        place = record { line = 5; column = 7 };
        states = spec.Binary (binary.Compare
            compare.LessEqual width.Int) (spec.Old (spec.FieldOf spec.This (field 0) 0)) (spec.FieldOf spec.This (field 0) 0)
            ∷ [];
      } ∷ record {
        kind = clauses.Atomic;
        owner = OfMethod (method 0);
        mode = modes.Java;
        is_static = false;
        place
            = record { line = 6; column = 7 };
        states = [];
      } ∷ record {
        kind = clauses.Assert;
        owner = OfMethod (method 0);
        mode = modes.Java;
        is_static = false;
        place = record { line = 9; column = 9 };
        states = spec.Binary
            (binary.Compare compare.Equal width.Int) (spec.Variable 1) (spec.Variable 0) ∷ [];
      } ∷ record {
        kind =
            clauses.Assert;
        owner = OfMethod (method 0);
        mode = modes.Java;
        is_static = false;
        place = record {
          line = 10;
          column = 110;
        };
        states = spec.Binary (binary.Compare compare.Greater width.Int) (spec.Binary (binary.Arithmetic
            arithmetic.Add width.Int) (spec.Binary (binary.Arithmetic arithmetic.Add width.Int) (spec.Variable 2)
            (spec.Variable 1)) (spec.Variable 0)) (spec.FieldOf spec.This (field 0) 0) ∷ [];
      } ∷ record {
        kind =
            clauses.Assert;
        owner = OfMethod (method 0);
        mode = modes.Java;
        is_static = false;
        place = record {
          line = 13;
          column = 9;
        };
        states = spec.Binary (binary.Compare compare.Greater width.Int) (spec.Variable 2) (spec.Number
            width.Int (pos 0)) ∷ [];
      } ∷ record {
        kind = clauses.Requires;
        owner = OfMethod (method 1);
        mode = modes.Java;
        is_static = true;
        place = record { line = 15; column = 7 };
        states = spec.Binary (binary.Compare compare.Greater
            width.Int) (spec.Variable 0) (spec.Number width.Int (pos 1)) ∷ [];
      } ∷ record {
        kind = clauses.Assert;
        owner =
            OfMethod (method 1);
        mode = modes.Java;
        is_static = true;
        place = record { line = 19; column = 9 };
        states =
            spec.Binary (binary.Compare compare.Greater width.Int) (spec.Variable 0) (spec.Number width.Int (pos 1)) ∷ [];
      } ∷
      record {
        kind = clauses.Assert;
        owner = OfMethod (method 1);
        mode = modes.Java;
        is_static = true;
        place = record {
          line = 20;
          column = 39;
        };
        states = spec.Binary (binary.Compare compare.Less width.Int) (spec.Variable 1)
            (spec.Number width.Int (pos 3)) ∷ [];
      } ∷ record {
        kind = clauses.Constraint;
        owner = OfClass (class 0);
        mode =
            modes.Java;
        is_static = false;
        place = record { line = 24; column = 7 };
        states = spec.Binary (binary.Compare
            compare.GreaterEqual width.Int) (spec.FieldOf spec.This (field 0) 0) (spec.Old (spec.FieldOf spec.This (field 0)
            0)) ∷ [];
      } ∷ record {
        kind = clauses.Assert;
        owner = OfMethod (method 2);
        mode = modes.Java;
        is_static = false;
        place = record { line = 25; column = 18 };
        states = spec.And (spec.Binary (binary.Compare compare.Equal width.Int)
            (spec.Variable 0) (spec.Variable 0)) (spec.Quantified program_quantifiers.ForAll (spec.Number width.Int (pos 0))
            program_bounds.Inclusive (spec.Variable 0) program_bounds.Exclusive (spec.Truth true) (spec.Quantified
            program_quantifiers.Exists (spec.Bound 0) program_bounds.Inclusive (spec.Variable 0) program_bounds.Exclusive
            (spec.Truth true) (spec.Binary (binary.Compare compare.GreaterEqual width.Int) (spec.Binary (binary.Arithmetic
            arithmetic.Add width.Int) (spec.Bound 0) (spec.Bound 1)) (spec.Number width.Int (pos 0))))) ∷ [];
      } ∷ record {
        kind
            = clauses.Requires;
        owner = OfMethod (method 3);
        mode = modes.Java;
        is_static = true;
        place = record {
          line = 29;
          column = 7;
        };
        states = spec.Truth true ∷ [];
      } ∷ record {
        kind = clauses.Assert;
        owner = OfMethod (method 3);
        mode
            = modes.Java;
        is_static = true;
        place = record { line = 32; column = 9 };
        states = spec.Binary (binary.Compare
            compare.Equal width.Int) (spec.Variable 0) (spec.Number width.Int (pos 1)) ∷ [];
      } ∷ record {
        kind = clauses.When;
        owner = OfMethod (method 4);
        mode = modes.Java;
        is_static = true;
        place = record { line = 35; column = 7 };
        states
            = spec.Binary (binary.Compare compare.Greater width.Int) (spec.Variable 0) (spec.Number width.Int (pos 0)) ∷ [];
      }
      ∷ [];
  notes = record { word = codes "assignable"; place = record { line = 16; column = 7 } } ∷ [];
  texts = codes
      "a" ∷ codes "b" ∷ codes "c" ∷ codes "d" ∷ codes "e" ∷ codes "f" ∷ codes "g" ∷ codes "h" ∷ codes "i" ∷ [];
  main =
      method 3;
}

abbrev pub examples : List Example
examples =
    record { source = numbers_in_source_order_source; classes = numbers_in_source_order; answer = Good numbers_in_source_order_program }
    ∷ []

pub examples-typed : AreTyped examples
unfolding named class_at field_in method_in is_thread is_runnable is_assignable variable_named value_of variable_of
    in_brackets simple_name field_access callee_of own_callee constructor_formals maker fits operation single wider
    compound element_type fault_named is_reserved has_variable and_variable local_variables effect
    expression_statement condition reference returns throws_variable and_entry looks_like_main is_library_method
    resolve modifiers_stand code stated clause_name states_boolean states_reference specifications.clauses sites_fit
    typing
examples-typed = (refl, tt)

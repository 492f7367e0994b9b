-- A small unit is well formed, and keeps what follows:
--   class A { static int g; /*@ requires true; @*/ static void f(int x) { } public static void main(String[] a) { } }
use Rattle.std.proofs.Common.{◌≡◌, ◌≤◌, ◌==◌, ◌&&◌, cond, Bool, ℕ, zero, suc, List, [], ◌∷◌, length, slice_get, refl, sym, subst, None, Some, pos, true, false, arith, lit<}
use Rattle.jr_base.specs.declared.number.ClauseId.{ClauseId}
use Rattle.jr_base.specs.declared.value.Value.TheVariants as values
use Rattle.jr_base.specs.declared.kind.SlotKind.{SlotKind}
use Rattle.jr_base.specs.declared.kind.SlotKind.TheVariants.{Int}
use Rattle.jr_program.specs.declared.words.ClauseKind.TheVariants.{Requires}
use Rattle.jr_program.specs.declared.words.Mode.TheVariants.{Java}
use Rattle.jr_program.specs.declared.words.Owner.TheVariants as owners
use Rattle.jr_program.specs.declared.words.Site.{Site}
use Rattle.jr_program.specs.declared.words.Site.TheVariants as sites
use Rattle.jr_program.specs.declared.stmt.TypedStmt.{TypedStmt}
use Rattle.jr_program.specs.declared.clause.ClauseExpr.{ClauseExpr}
use Rattle.jr_program.specs.declared.parts.TypedField.{TypedField}
use Rattle.jr_program.specs.declared.parts.TypedMethod.{TypedMethod}
use Rattle.jr_program.specs.declared.parts.UnitParts.{UnitParts}
use Rattle.jr_program.specs.Programs.{Program, Class, Field, Method, Statement, Skip, class_at, field_at, method_at, clause_at}
use Rattle.jr_program.specs.Clauses.{Clause, Truth, OfMethod}
use Rattle.jr_program.specs.StatementViews.{view_stmt}
use Rattle.jr_program.specs.ClauseViews.{view_expr}
use Rattle.jr_program.specs.UnitViews.{program_of, FieldKeeps, MethodKeeps, PartsKeep}
use Rattle.jr_program.specs.Sites.{due_at_site}
use Rattle.jr_program.specs.WellFormed.{WellFormed, ClassFits, FieldFits, MethodFits, FitsOwner}

abbrev field_tree : TypedField
field_tree = record { class = record { 0 = 0 }; is_static = true; is_volatile = false; kind = Int; constant = values.Int (pos 0); slot = 0; due_at_access = [] }

abbrev method_tree : List SlotKind → List ClauseId → TypedStmt → TypedMethod
method_tree formals due body = record {
  name = [];
  class = record { 0 = 0 };
  is_static = true;
  is_constructor = false;
  is_synchronized = false;
  is_helper = false;
  formals = formals;
  locals = [];
  result = None;
  body = body;
  due_at_call = due;
  due_at_commit = [];
  due_at_leave = [];
  due_at_enter = [];
}

abbrev method_trees : TypedStmt → TypedStmt → List TypedMethod
method_trees first second = method_tree (Int ∷ []) (record { 0 = 1 } ∷ []) first ∷ method_tree [] [] second ∷ []

-- its parts, of trees of the two bodies and the condition
abbrev pub small_parts : TypedStmt → TypedStmt → ClauseExpr → UnitParts
small_parts first second condition = record {
  classes = record { name = []; extends_thread = false; implements_runnable = false; run = None; constructor = None } ∷ [];
  fields = field_tree ∷ [];
  methods = method_trees first second;
  clauses = record { kind = Requires; owner = owners.Method (record { 0 = 0 }); mode = Java; is_static = true; place = record { line = 1; column = 30 }; states = condition ∷ [] } ∷ [];
  notes = [];
  texts = [];
  main = record { 0 = 1 };
}

abbrev pub method : List SlotKind → Statement → Method
method formals body = record {
  name = [];
  class = record { 0 = 0 };
  is_static = true;
  is_constructor = false;
  is_synchronized = false;
  is_helper = false;
  formals = formals;
  locals = [];
  result = None;
  body = body;
}

abbrev pub requires_true : Clause
requires_true = record { kind = Requires; owner = OfMethod (record { 0 = 0 }); mode = Java; is_static = true; place = record { line = 1; column = 30 }; states = Truth true ∷ [] }

abbrev pub program : Program
program = record {
  classes = record { name = []; extends_thread = false; implements_runnable = false; run = None; constructor = None } ∷ [];
  fields = record { class = record { 0 = 0 }; is_static = true; is_volatile = false; kind = Int; constant = values.Int (pos 0) } ∷ [];
  methods = method (Int ∷ []) Skip ∷ method [] Skip ∷ [];
  clauses = requires_true ∷ [];
  notes = [];
  texts = [];
  main = record { 0 = 1 };
}

same : {A : Type 0} (a b : A) → Some a ≡ Some b → a ≡ b
same a b e = cc

class_fits : (n : ℕ) (x : Class) → class_at program (record { 0 = n }) ≡ Some x → ClassFits program (record { 0 = n }) x
class_fits zero x e = subst (λ y. ClassFits program (record { 0 = 0 }) y) (same _ x e) (record { run = refl; constructor = tt })
class_fits (suc n) x e = absurd (cc)

field_fits : (n : ℕ) (x : Field) → field_at program (record { 0 = n }) ≡ Some x → FieldFits program x
field_fits zero x e = subst (λ y. FieldFits program y) (same _ x e) (record { class = omega arith; constant = (refl, refl) })
field_fits (suc n) x e = absurd (cc)

method_fits : (n : ℕ) (x : Method) → method_at program (record { 0 = n }) ≡ Some x → MethodFits program (record { 0 = n }) x
method_fits zero x e = subst (λ y. MethodFits program (record { 0 = 0 }) y) (same _ x e) (record {
  class = omega arith;
  formals = ((λ e. cc), tt);
  few_formals = omega arith;
  result = λ e. cc;
  constructs = tt;
  body = tt;
  ends = tt;
})
method_fits (suc zero) x e = subst (λ y. MethodFits program (record { 0 = 1 }) y) (same _ x e) (record {
  class = omega arith;
  formals = tt;
  few_formals = omega arith;
  result = λ e. cc;
  constructs = tt;
  body = tt;
  ends = tt;
})
method_fits (suc (suc n)) x e = absurd (cc)

clause_fits : (n : ℕ) (x : Clause) → clause_at program (record { 0 = n }) ≡ Some x → FitsOwner program x x.owner
clause_fits zero x e = absurd (cc)
clause_fits (suc zero) x e = subst (λ y. FitsOwner program y y.owner) (same _ x e) (_, refl, refl, refl, refl)
clause_fits (suc (suc n)) x e = absurd (cc)

few_at_entry : (n : ℕ) → length (due_at_site program (sites.Entry (record { 0 = n }))) ≤ 16
few_at_entry zero = omega arith
few_at_entry (suc zero) = omega arith
few_at_entry (suc (suc n)) = omega arith

none_chosen : (b : Bool) (c : ClauseId) → length (cond (b && false) (c ∷ []) []) ≤ 16
none_chosen true c = omega arith
none_chosen false c = omega arith

few_at_return : (n : ℕ) → length (due_at_site program (sites.Return (record { 0 = n }))) ≤ 16
few_at_return zero = omega arith
few_at_return (suc zero) = omega arith
few_at_return (suc (suc n)) = omega arith

few : (site : Site) → length (due_at_site program site) ≤ 16
few (sites.Entry m) = few_at_entry m.0
few (sites.Commit m) = none_chosen (0 == m.0) (record { 0 = 1 })
few (sites.Return m) = few_at_return m.0
few (sites.Access f) = omega arith
few (sites.Edge m) = none_chosen (0 == m.0) (record { 0 = 1 })
few (sites.Assert c) = omega arith

program_fits : WellFormed program
program_fits = record {
  numbers = record { classes = lit< tt; fields = lit< tt; methods = lit< tt; clauses = lit< tt; texts = lit< tt };
  main = (_, refl, refl, refl, refl, refl);
  classes = λ c x e. class_fits c.0 x e;
  fields = λ f x e. field_fits f.0 x e;
  methods = λ m x e. method_fits m.0 x e;
  clauses = λ c x e. clause_fits c.0 x e;
  few_due = few;
}

-- ---- what follows from the rest

field_keeps : (n : ℕ) (x : TypedField) → slice_get (field_tree ∷ []) n ≡ Some x → FieldKeeps program (record { 0 = n }) x
field_keeps zero x e = subst (λ y. FieldKeeps program (record { 0 = 0 }) y) (same _ x e) (record { slot = refl; access = refl })
field_keeps (suc n) x e = absurd (cc)

method_keeps : (first second : TypedStmt) (n : ℕ) (x : TypedMethod) → slice_get (method_trees first second) n ≡ Some x → MethodKeeps program (record { 0 = n }) x
method_keeps first second zero x e =
    subst (λ y. MethodKeeps program (record { 0 = 0 }) y) (same _ x e) (record { call = refl; commit = refl; leave = refl; enter = refl })
method_keeps first second (suc zero) x e =
    subst (λ y. MethodKeeps program (record { 0 = 1 }) y) (same _ x e) (record { call = refl; commit = refl; leave = refl; enter = refl })
method_keeps first second (suc (suc n)) x e = absurd (cc)

-- ---- its parts

program_is : (first second : TypedStmt) (condition : ClauseExpr) → view_stmt first ≡ Skip → view_stmt second ≡ Skip → view_expr condition ≡ Truth true → program_of (small_parts first second condition) ≡ program
program_is first second condition f s c = rw (f, s, c) refl

small_keeps : (first second : TypedStmt) (condition : ClauseExpr) → program_of (small_parts first second condition) ≡ program → PartsKeep (small_parts first second condition)
small_keeps first second condition is = record {
  fields = λ f x e. subst (λ p. FieldKeeps p f x) (sym is) (field_keeps f.0 x e);
  methods = λ m x e. subst (λ p. MethodKeeps p m x) (sym is) (method_keeps first second m.0 x e);
}

-- what is made of these trees is well formed, and keeps what follows from the rest
pub parts_hold : (parts : UnitParts) (first second : TypedStmt) (condition : ClauseExpr) → small_parts first second condition ≡ parts →
    view_stmt first ≡ Skip → view_stmt second ≡ Skip → view_expr condition ≡ Truth true → WellFormed (program_of parts) × PartsKeep parts
parts_hold parts first second condition are f s c =
    let is : program_of (small_parts first second condition) ≡ program = program_is first second condition f s c in
    subst (λ p. WellFormed (program_of p) × PartsKeep p) are (subst (λ p. WellFormed p) (sym is) program_fits, small_keeps first second condition is)

-- A small unit is well formed, and keeps what follows:
--   class A { public static void main(String[] a) { } }
-- where the class may extend Thread, and the method be `synchronized`.
use Rattle.std.proofs.Common.{◌≡◌, ◌≤◌, Bool, ℕ, zero, suc, [], ◌∷◌, length, slice_get, refl, sym, subst, None, Some, true, false, arith, lit<}
use Rattle.jr_program.specs.declared.words.Site.{Site}
use Rattle.jr_program.specs.declared.words.Site.TheVariants as sites
use Rattle.jr_program.specs.declared.stmt.TypedStmt.{TypedStmt}
use Rattle.jr_program.specs.declared.parts.TypedField.{TypedField}
use Rattle.jr_program.specs.declared.parts.TypedMethod.{TypedMethod}
use Rattle.jr_program.specs.declared.parts.UnitParts.{UnitParts}
use Rattle.jr_program.specs.Programs.{Program, Class, Field, Method, Skip, class_at, field_at, method_at, clause_at}
use Rattle.jr_program.specs.Clauses.{Clause}
use Rattle.jr_program.specs.StatementViews.{view_stmt}
use Rattle.jr_program.specs.UnitViews.{program_of, FieldKeeps, MethodKeeps, PartsKeep}
use Rattle.jr_program.specs.Sites.{due_at_site}
use Rattle.jr_program.specs.WellFormed.{WellFormed, ClassFits, FieldFits, MethodFits, FitsOwner}

abbrev method_tree : Bool → TypedStmt → TypedMethod
method_tree synchronized body = record {
  name = [];
  class = record { 0 = 0 };
  is_static = true;
  is_constructor = false;
  is_synchronized = synchronized;
  is_helper = false;
  formals = [];
  locals = [];
  result = None;
  body = body;
  due_at_call = [];
  due_at_commit = [];
  due_at_leave = [];
  due_at_enter = [];
}

-- its parts, of the tree of the body
abbrev pub small_parts : Bool → Bool → TypedStmt → UnitParts
small_parts extends synchronized body = record {
  classes = record { name = []; extends_thread = extends; implements_runnable = false; run = None; constructor = None } ∷ [];
  fields = [];
  methods = method_tree synchronized body ∷ [];
  clauses = [];
  notes = [];
  texts = [];
  main = record { 0 = 0 };
}

abbrev main_method : Bool → Method
main_method synchronized = record {
  name = [];
  class = record { 0 = 0 };
  is_static = true;
  is_constructor = false;
  is_synchronized = synchronized;
  is_helper = false;
  formals = [];
  locals = [];
  result = None;
  body = Skip;
}

abbrev pub small_program : Bool → Bool → Program
small_program extends synchronized = record {
  classes = record { name = []; extends_thread = extends; implements_runnable = false; run = None; constructor = None } ∷ [];
  fields = [];
  methods = main_method synchronized ∷ [];
  clauses = [];
  notes = [];
  texts = [];
  main = record { 0 = 0 };
}

same : {A : Type 0} (a b : A) → Some a ≡ Some b → a ≡ b
same a b e = cc

module _ (extends synchronized : Bool) where
  abbrev program : Program
  program = small_program extends synchronized

  class_fits : (n : ℕ) (x : Class) → class_at program (record { 0 = n }) ≡ Some x → ClassFits program (record { 0 = n }) x
  class_fits zero x e = subst (λ y. ClassFits program (record { 0 = 0 }) y) (same _ x e) (record { run = refl; constructor = tt })
  class_fits (suc n) x e = absurd (cc)

  field_fits : (n : ℕ) (x : Field) → field_at program (record { 0 = n }) ≡ Some x → FieldFits program x
  field_fits zero x e = absurd (cc)
  field_fits (suc n) x e = absurd (cc)

  method_fits : (n : ℕ) (x : Method) → method_at program (record { 0 = n }) ≡ Some x → MethodFits program (record { 0 = n }) x
  method_fits zero x e = subst (λ y. MethodFits program (record { 0 = 0 }) y) (same _ x e) (record {
    class = omega arith;
    formals = tt;
    few_formals = omega arith;
    result = λ e. cc;
    constructs = tt;
    body = tt;
    ends = tt;
  })
  method_fits (suc n) x e = absurd (cc)

  clause_fits : (n : ℕ) (x : Clause) → clause_at program (record { 0 = n }) ≡ Some x → FitsOwner program x x.owner
  clause_fits zero x e = absurd (cc)
  clause_fits (suc zero) x e = absurd (cc)
  clause_fits (suc (suc n)) x e = absurd (cc)

  few_at_entry : (n : ℕ) → length (due_at_site program (sites.Entry (record { 0 = n }))) ≤ 16
  few_at_entry zero = omega arith
  few_at_entry (suc n) = omega arith

  few_at_return : (n : ℕ) → length (due_at_site program (sites.Return (record { 0 = n }))) ≤ 16
  few_at_return zero = omega arith
  few_at_return (suc n) = omega arith

  few : (site : Site) → length (due_at_site program site) ≤ 16
  few (sites.Entry m) = few_at_entry m.0
  few (sites.Commit m) = omega arith
  few (sites.Return m) = few_at_return m.0
  few (sites.Access f) = omega arith
  few (sites.Edge m) = omega arith
  few (sites.Assert c) = omega arith

  program_fits : WellFormed program
  program_fits = record {
    numbers = record { classes = lit< tt; fields = lit< tt; methods = lit< tt; clauses = lit< tt; texts = lit< tt };
    main = (_, refl, refl, refl, refl, refl);
    classes = λ c x e. class_fits c.0 x e;
    fields = λ f x e. field_fits f.0 x e;
    methods = λ m x e. method_fits m.0 x e;
    clauses = λ c x e. clause_fits c.0 x e;
    few_due = few;
  }

  -- ---- what follows from the rest

  field_keeps : (n : ℕ) (x : TypedField) → slice_get [] n ≡ Some x → FieldKeeps program (record { 0 = n }) x
  field_keeps zero x e = absurd (cc)
  field_keeps (suc n) x e = absurd (cc)

  method_keeps : (body : TypedStmt) (n : ℕ) (x : TypedMethod) → slice_get (method_tree synchronized body ∷ []) n ≡ Some x → MethodKeeps program (record { 0 = n }) x
  method_keeps body zero x e =
      subst (λ y. MethodKeeps program (record { 0 = 0 }) y) (same _ x e) (record { call = refl; commit = refl; leave = refl; enter = refl })
  method_keeps body (suc n) x e = absurd (cc)

  -- ---- its parts

  program_is : (body : TypedStmt) → view_stmt body ≡ Skip → program_of (small_parts extends synchronized body) ≡ program
  program_is body is = rw is refl

  small_keeps : (body : TypedStmt) → program_of (small_parts extends synchronized body) ≡ program → PartsKeep (small_parts extends synchronized body)
  small_keeps body is = record {
    fields = λ f x e. subst (λ p. FieldKeeps p f x) (sym is) (field_keeps f.0 x e);
    methods = λ m x e. subst (λ p. MethodKeeps p m x) (sym is) (method_keeps body m.0 x e);
  }

  -- what is made of the tree is well formed, and keeps what follows from the rest
  pub parts_hold : (parts : UnitParts) (body : TypedStmt) → small_parts extends synchronized body ≡ parts → view_stmt body ≡ Skip → WellFormed (program_of parts) × PartsKeep parts
  parts_hold parts body are is =
      let whole : program_of (small_parts extends synchronized body) ≡ program = program_is body is in
      subst (λ p. WellFormed (program_of p) × PartsKeep p) are (subst WellFormed (sym whole) program_fits, small_keeps body whole)

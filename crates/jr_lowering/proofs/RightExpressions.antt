-- At each place of the code of a program that is well formed the operands have the right kinds.
use Rattle.std.proofs.Common.{◌≡◌, ◌≢◌, ℕ, ◌+◌, ◌<◌, ◌≤◌, Bool, true, false, List, [], ◌∷◌, Option, Some, None, refl, sym, ap, ◌∙◌, subst, arith, ⊎_elim}
use Rattle.std.specs.Prelude.{ℤ, slice_get}
use Rattle.std.specs.Option.{option_map_or}
use Rattle.std.proofs.lemmas.Bool.{cases_lt}
use Rattle.jr_base.specs.declared.number.FieldId.{FieldId}
use Rattle.jr_base.specs.declared.number.MethodId.{MethodId}
use Rattle.jr_base.specs.declared.action.NewKind.TheVariants as made
use Rattle.jr_base.specs.declared.value.Value.TheVariants as values
use Rattle.jr_base.specs.declared.kind.SlotKind.{SlotKind}
use Rattle.jr_base.specs.declared.kind.SlotKind.TheVariants.{Int, Bool as Boolean, Ref as Reference, Caught as CaughtKind}
use Rattle.jr_arith.specs.declared.operator.Width.{Width}
use Rattle.jr_arith.specs.declared.operator.Width.TheVariants as width
use Rattle.jr_arith.specs.declared.operator.Arithmetic.TheVariants.{Add}
use Rattle.jr_arith.specs.declared.operator.Binary.{Binary as BinaryOperator}
use Rattle.jr_arith.specs.declared.operator.Binary.TheVariants as binary
use Rattle.jr_arith.specs.Operators.{number}
use Rattle.jr_program.specs.Programs.{Field, Method, field_at, method_at, Expr, Number, Truth, Null, This, ClassObject, Read, LengthOf, Convert, Unary, Binary, And, Or, Choice, Assign, Compound, PrefixIncrement, PostfixIncrement, ResultOf, NewObject, NewPlain, NewThread, NewArray, Variable, Local, StaticField, FieldOf, ElementOf, Call, CallStatic, CallOn, Exprs, no_more, and_then, constructor_of}
use Rattle.jr_base.specs.Threads.{class_object}
use Rattle.jr_code.specs.Instructions.{Instruction, Push, Load, Store, Dup, Dup2, DupX1, DupX2, OneOperand, TwoOperands, ConvertTo, Jump, JumpNot, GetField, PutField, GetStatic, PutStatic, GetElement, PutElement, ArrayLength, Make, MakeArray, CallStaticMethod, CallMethodOn, MethodCode, Code}
use Rattle.jr_code.specs.Machine.{method_code_at}
use Rattle.jr_lowering.specs.ExprCode.{Setting, shift, hidden, Access, OfLocal, OfStatic, OfField, OfElement, kind_of_field, access_of, read_one, write_one, keep_one, copies, copies_size, conversion, conversion_size, constructor_size, constructor_code, this_one, expr_size, spot_size, call_size, exprs_size, expr_code, spot_code, call_code, exprs_code}
use Rattle.jr_lowering.specs.ProgramCode.{method_code}
use Rattle.jr_program.specs.WellFormed.{Scope, CompoundFits, HasKind, VariableHas, CallHas, ConstructorHas, ExprsHave}
use Rattle.jr_arith.specs.Kinds.{kind_of_element, kind_of_width, kind_converted, unary_kind, left_kind, right_kind, result_kind}
use Rattle.jr_code.specs.Checked.{kind_of_value, kinds_of_locals, kinds_pushed, kinds_with, Effect, GoesTo, RightAt}
use Rattle.jr_lowering.proofs.Places.{HasAt, has_front, has_back, expr_len, spot_len, exprs_len, copies_len, conversion_len}
use Rattle.jr_lowering.proofs.Expressions.{setting_in}
use Rattle.jr_lowering.proofs.Statements.{flags}
use Rattle.jr_lowering.proofs.Shapes.{Marks, ShapesAt, shapes_front, shapes_back, held_kinds, copies_shapes, conversion_shapes, made_shapes, expr_shapes, spot_shapes, call_shapes, exprs_shapes, expr_shapes_len, spot_shapes_len, exprs_shapes_len, copies_len as copies_shapes_len, conversion_len as conversion_shapes_len}

-- a number is of its width's kind
pub kind_of_number : (w : Width) (n : ℤ) → kind_of_value (number w n) ≡ kind_of_width w
kind_of_number width.Int n = refl
kind_of_number width.Long n = refl

-- what is known of a method's code and of the methods that it calls
pub record Known (base : Scope) (code : Code) (c : MethodCode) (room : ℕ) : Type 0 where
  pub variable : (p : ℕ) (k : SlotKind) → slice_get base.kinds p ≡ Some k → slice_get (kinds_of_locals c) (shift base.is_static + p) ≡ Some k
  pub this_is : base.is_static ≡ false → slice_get (kinds_of_locals c) 0 ≡ Some Reference
  pub hidden_is : (d : ℕ) → d < room → slice_get (kinds_of_locals c) (hidden (setting_in base) d) ≡ Some Reference
  pub callee : (m : MethodId) (method : Method) → method_at base.program m ≡ Some method → method_code_at code m ≡ Some (method_code base.program method)
  pub result_is : c.result ≡ base.result

module _ (base : Scope) (code : Code) (c : MethodCode) (room : ℕ) (known : Known base code c room) (shapes : Marks) where
  abbrev is : List Instruction
  is = c.instructions

  abbrev st : Setting
  st = setting_in base

  -- each place of a piece is right, and it begins with these kinds
  pub record Good (lo hi : ℕ) (ks : List SlotKind) : Type 0 where
    pub first : slice_get shapes lo ≡ Some (Some ks)
    pub all : (p : ℕ) → lo ≤ p → p < hi → RightAt code c shapes p

  pub join : {a b d : ℕ} {ks js : List SlotKind} → Good a b ks → Good b d js → Good a d ks
  join {b = b} x y = record { first = x.first; all = λ p low high. ⊎_elim (λ lt. x.all p low (omega arith)) (λ le. y.all p (omega arith) high) (cases_lt p b) }

  pub nothing : (at to : ℕ) (ks : List SlotKind) → at ≡ to → slice_get shapes to ≡ Some (Some ks) → Good at to ks
  nothing at to ks e h = record { first = ap (λ p. slice_get shapes p) e ∙ h; all = λ p low high. absurd (omega arith) }

  -- one instruction
  pub single : (i : Instruction) (at to : ℕ) (before after : List SlotKind) → at + 1 ≡ to → slice_get is at ≡ Some i → slice_get shapes at ≡ Some (Some before) → Effect code c i before after → GoesTo shapes at i after → Good at to before
  single i at to before after e stands shape effect goes = record {
    first = shape;
    all = λ p low high. let same : at ≡ p = omega arith in
        subst (λ p. RightAt code c shapes p) same (record { instruction = i; before = before; after = after; stands = stands; shape = shape; effect = effect; goes = goes });
  }

  pub next : (at to : ℕ) (ks : List SlotKind) → at + 1 ≡ to → slice_get shapes to ≡ Some (Some ks) → slice_get shapes (at + 1) ≡ Some (Some ks)
  next at to ks e h = ap (λ p. slice_get shapes p) e ∙ h

  -- ---- variables

  abbrev AccessHas : Access → SlotKind → Type 0
  AccessHas (OfLocal number) k = slice_get (kinds_of_locals c) (shift base.is_static + number) ≡ Some k
  AccessHas (OfStatic at kind) k = (kind ≡ k) × (kind ≢ CaughtKind)
  AccessHas (OfField slot kind) k = (kind ≡ k) × (kind ≢ CaughtKind)
  AccessHas (OfElement element) k = kind_of_element element ≡ k

  a_value : (j k : SlotKind) → j ≡ k → k ≢ CaughtKind → j ≢ CaughtKind
  a_value j k e n f = n (sym e ∙ f)

  field_kind : (f : FieldId) (field : Field) (k : SlotKind) → field_at base.program f ≡ Some field → field.kind ≡ k → kind_of_field base.program f ≡ k
  field_kind f field k e h = ap (λ o. option_map_or (λ (field : Field). field.kind) o Int) e ∙ h

  access_has : (l : Bool) (v : Variable) (k : SlotKind) → VariableHas (flags base l) v k → AccessHas (access_of st.program v) k
  access_has l (Local number) k has = known.variable number k has.0
  access_has l (StaticField f) k has = (field_kind f has.0 k has.1 has.3, a_value _ k (field_kind f has.0 k has.1 has.3) has.4)
  access_has l (FieldOf e f) k has = (field_kind f has.1.0 k has.1.1 has.1.3, a_value _ k (field_kind f has.1.0 k has.1.1 has.1.3) has.1.4)
  access_has l (ElementOf element a i) k has = sym has.2

  read_right : (a : Access) (k : SlotKind) → AccessHas a k → (at to : ℕ) → at + 1 ≡ to → (ks : List SlotKind) → slice_get is at ≡ Some (read_one st a) → slice_get shapes at ≡ Some (Some (held_kinds a ks)) → slice_get shapes to ≡ Some (Some (k ∷ ks)) → Good at to (held_kinds a ks)
  read_right (OfLocal number) k has at to e ks i h out = single (Load (shift base.is_static + number)) at to ks (k ∷ ks) e i h (k, has, refl) (next at to _ e out)
  read_right (OfStatic place kind) k has at to e ks i h out = single (GetStatic place kind) at to ks (k ∷ ks) e i h (ap (λ x. x ∷ ks) (sym has.0), has.1) (next at to _ e out)
  read_right (OfField slot kind) k has at to e ks i h out = single (GetField slot kind) at to (Reference ∷ ks) (k ∷ ks) e i h (ks, refl, ap (λ x. x ∷ ks) (sym has.0), has.1) (next at to _ e out)
  read_right (OfElement element) k has at to e ks i h out = single (GetElement element) at to (Int ∷ (Reference ∷ ks)) (k ∷ ks) e i h (ks, refl, ap (λ x. x ∷ ks) (sym has)) (next at to _ e out)

  write_right : (a : Access) (k : SlotKind) → AccessHas a k → (at to : ℕ) → at + 1 ≡ to → (ks : List SlotKind) → slice_get is at ≡ Some (write_one st a) → slice_get shapes at ≡ Some (Some (k ∷ held_kinds a ks)) → slice_get shapes to ≡ Some (Some ks) → Good at to (k ∷ held_kinds a ks)
  write_right (OfLocal number) k has at to e ks i h out = single (Store (shift base.is_static + number)) at to (k ∷ ks) ks e i h (k, has, refl) (next at to _ e out)
  write_right (OfStatic place kind) k has at to e ks i h out = single (PutStatic place kind) at to (k ∷ ks) ks e i h (ap (λ x. x ∷ ks) (sym has.0), has.1) (next at to _ e out)
  write_right (OfField slot kind) k has at to e ks i h out = single (PutField slot kind) at to (k ∷ (Reference ∷ ks)) ks e i h (ap (λ x. x ∷ (Reference ∷ ks)) (sym has.0), has.1) (next at to _ e out)
  write_right (OfElement element) k has at to e ks i h out = single (PutElement element) at to (k ∷ (Int ∷ (Reference ∷ ks))) ks e i h (ap (λ x. x ∷ (Int ∷ (Reference ∷ ks))) (sym has)) (next at to _ e out)

  keep_right : (a : Access) (k : SlotKind) (at to : ℕ) → at + 1 ≡ to → (ks : List SlotKind) → slice_get is at ≡ Some (keep_one a) → slice_get shapes at ≡ Some (Some (k ∷ held_kinds a ks)) → slice_get shapes to ≡ Some (Some (k ∷ held_kinds a (k ∷ ks))) → Good at to (k ∷ held_kinds a ks)
  keep_right (OfLocal number) k at to e ks i h out = single Dup at to (k ∷ ks) (k ∷ (k ∷ ks)) e i h (k, ks, refl, refl) (next at to _ e out)
  keep_right (OfStatic place kind) k at to e ks i h out = single Dup at to (k ∷ ks) (k ∷ (k ∷ ks)) e i h (k, ks, refl, refl) (next at to _ e out)
  keep_right (OfField slot kind) k at to e ks i h out = single DupX1 at to (k ∷ (Reference ∷ ks)) (k ∷ (Reference ∷ (k ∷ ks))) e i h (k, Reference, ks, refl, refl) (next at to _ e out)
  keep_right (OfElement element) k at to e ks i h out = single DupX2 at to (k ∷ (Int ∷ (Reference ∷ ks))) (k ∷ (Int ∷ (Reference ∷ (k ∷ ks)))) e i h (k, Int, Reference, ks, refl, refl) (next at to _ e out)

  copies_right : (a : Access) (at to : ℕ) → at + copies_size a ≡ to → (ks : List SlotKind) → HasAt is at (copies a) → ShapesAt shapes at (copies_shapes a ks) → slice_get shapes to ≡ Some (Some (held_kinds a (held_kinds a ks))) → Good at to (held_kinds a ks)
  copies_right (OfLocal number) at to e ks i h out = nothing at to ks (omega arith) out
  copies_right (OfStatic place kind) at to e ks i h out = nothing at to ks (omega arith) out
  copies_right (OfField slot kind) at to e ks i h out = single Dup at to (Reference ∷ ks) (Reference ∷ (Reference ∷ ks)) e i.0 h.0 (Reference, ks, refl, refl) (next at to _ e out)
  copies_right (OfElement element) at to e ks i h out = single Dup2 at to (Int ∷ (Reference ∷ ks)) (Int ∷ (Reference ∷ (Int ∷ (Reference ∷ ks)))) e i.0 h.0 (Int, Reference, ks, refl, refl) (next at to _ e out)

  -- ---- one of two pieces, behind the test
  pub choice_right : (at1 nl nr to : ℕ) → at1 + 1 + nl + 1 + nr ≡ to → (ks xs : List SlotKind) → slice_get is at1 ≡ Some (JumpNot (at1 + 1 + nl + 1)) → slice_get shapes at1 ≡ Some (Some (Boolean ∷ ks)) → Good (at1 + 1) (at1 + 1 + nl) ks → slice_get is (at1 + 1 + nl) ≡ Some (Jump (at1 + 1 + nl + 1 + nr)) → slice_get shapes (at1 + 1 + nl) ≡ Some (Some xs) → Good (at1 + 1 + nl + 1) to ks → slice_get shapes to ≡ Some (Some xs) → Good at1 to (Boolean ∷ ks)
  choice_right at1 nl nr to e ks xs i h left j hj right out =
      let to_is : at1 + 1 + nl + 1 + nr ≡ to = e in
      join (single (JumpNot (at1 + 1 + nl + 1)) at1 (at1 + 1) (Boolean ∷ ks) ks refl i h refl (omega arith, right.first, left.first))
      (join left (join (single (Jump (at1 + 1 + nl + 1 + nr)) (at1 + 1 + nl) (at1 + 1 + nl + 1) xs xs refl j hj refl (omega arith, ap (λ p. slice_get shapes p) to_is ∙ out)) right))

  -- ---- calls

  this_right : (b : Bool) → base.is_static ≡ b → b ≡ false → (at to : ℕ) → at + 1 ≡ to → (ks : List SlotKind) → slice_get is at ≡ Some (this_one b) → slice_get shapes at ≡ Some (Some ks) → slice_get shapes to ≡ Some (Some (Reference ∷ ks)) → Good at to ks
  this_right true same e at to to_is ks i h out = absurd (cc)
  this_right false same e at to to_is ks i h out = single (Load 0) at to ks (Reference ∷ ks) to_is i h (Reference, known.this_is same, refl) (next at to _ to_is out)

  static_right : (m : MethodId) (method : Method) → method_at base.program m ≡ Some method → method.is_static ≡ true → (r : Option SlotKind) → method.result ≡ r → (at to : ℕ) → at + 1 ≡ to → (ks : List SlotKind) → slice_get is at ≡ Some (CallStaticMethod m) → slice_get shapes at ≡ Some (Some (kinds_pushed method.formals ks)) → slice_get shapes to ≡ Some (Some (kinds_with r ks)) → Good at to (kinds_pushed method.formals ks)
  static_right m method is_method static r result at to e ks i h out =
      single (CallStaticMethod m) at to (kinds_pushed method.formals ks) (kinds_with r ks) e i h
      (method_code base.program method, ks, known.callee m method is_method, static, refl, ap (λ r. kinds_with r ks) (sym result)) (next at to _ e out)

  on_right : (m : MethodId) (method : Method) → method_at base.program m ≡ Some method → method.is_static ≡ false → (r : Option SlotKind) → method.result ≡ r → (at to : ℕ) → at + 1 ≡ to → (ks : List SlotKind) → slice_get is at ≡ Some (CallMethodOn m) → slice_get shapes at ≡ Some (Some (kinds_pushed method.formals (Reference ∷ ks))) → slice_get shapes to ≡ Some (Some (kinds_with r ks)) → Good at to (kinds_pushed method.formals (Reference ∷ ks))
  on_right m method is_method static r result at to e ks i h out =
      single (CallMethodOn m) at to (kinds_pushed method.formals (Reference ∷ ks)) (kinds_with r ks) e i h
      (method_code base.program method, ks, known.callee m method is_method, static, refl, ap (λ r. kinds_with r ks) (sym result)) (next at to _ e out)

  abbrev ArgumentsRight : Bool → Exprs → Type 0
  ArgumentsRight l es = (js : List SlotKind) (has : ExprsHave (flags base l) es js) (at to : ℕ) → at + exprs_size st.program es ≡ to → (ks : List SlotKind) → HasAt is at (exprs_code st es at) → ShapesAt shapes at (exprs_shapes (flags base l) es js has ks) → slice_get shapes to ≡ Some (Some (kinds_pushed js ks)) → Good at to ks

  made_right : (l : Bool) (o : Option MethodId) (es : Exprs) → ArgumentsRight l es → (has : ConstructorHas base.program o (λ js. ExprsHave (flags base l) es js)) (at to : ℕ) → at + constructor_size o (exprs_size st.program es) ≡ to → (ks : List SlotKind) → HasAt is at (constructor_code o (exprs_code st es (at + 1))) → ShapesAt shapes at (made_shapes base.program o (λ js. ExprsHave (flags base l) es js) has (λ js h ks. exprs_shapes (flags base l) es js h ks) ks) → slice_get shapes to ≡ Some (Some (Reference ∷ ks)) → Good at to (Reference ∷ ks)
  made_right l None es ih has at to e ks i h out = nothing at to (Reference ∷ ks) (omega arith) out
  made_right l (Some m) es ih has at to e ks i h out =
      let n = exprs_size st.program es in
      let kk : List SlotKind = Reference ∷ (Reference ∷ ks) in
      let i2 = has_back is (at + 1) (exprs_code st es (at + 1)) _ n (exprs_len st es (at + 1)) i.1 in
      let h2 = shapes_back shapes (at + 1) (exprs_shapes (flags base l) es has.0.formals has.4 kk) _ n (exprs_shapes_len (flags base l) es has.0.formals has.4 kk) h.1 in
      let arguments = ih has.0.formals has.4 (at + 1) (at + 1 + n) refl kk (has_front is (at + 1) (exprs_code st es (at + 1)) _ i.1) (shapes_front shapes (at + 1) (exprs_shapes (flags base l) es has.0.formals has.4 kk) _ h.1) h2.0 in
      join (single Dup at (at + 1) (Reference ∷ ks) kk refl i.0 h.0 (Reference, ks, refl, refl) arguments.first)
      (join arguments (on_right m has.0 has.1 has.2 None has.3 (at + 1 + n) to (omega arith) (Reference ∷ ks) i2.0 h2.0 out))

  -- keeps a copy, and writes
  kept_right : (a : Access) (k : SlotKind) → AccessHas a k → (at to : ℕ) → at + 1 + 1 ≡ to → (ks : List SlotKind) → HasAt is at (keep_one a ∷ (write_one st a ∷ [])) → ShapesAt shapes at ((k ∷ held_kinds a ks) ∷ ((k ∷ held_kinds a (k ∷ ks)) ∷ [])) → slice_get shapes to ≡ Some (Some (k ∷ ks)) → Good at to (k ∷ held_kinds a ks)
  kept_right a k has at to e ks i h out =
      join (keep_right a k at (at + 1) refl ks i.0 h.0 h.1.0) (write_right a k has (at + 1) to e (k ∷ ks) i.1.0 h.1.0 out)

  -- the conversions of a compound assignment
  widens_right : (narrows : Bool) (operator : BinaryOperator) (k : SlotKind) → CompoundFits narrows operator k → (at to : ℕ) → at + conversion_size narrows ≡ to → (ks : List SlotKind) → HasAt is at (conversion narrows width.Long) → ShapesAt shapes at (conversion_shapes narrows (k ∷ ks)) → slice_get shapes to ≡ Some (Some (left_kind operator ∷ ks)) → Good at to (k ∷ ks)
  widens_right true operator k fits at to e ks i h out = single (ConvertTo width.Long) at to (k ∷ ks) (left_kind operator ∷ ks) e i.0 h.0 (ks, ap (λ x. x ∷ ks) fits.0, ap (λ x. x ∷ ks) fits.1) (next at to _ e out)
  widens_right false operator k fits at to e ks i h out = nothing at to (k ∷ ks) (omega arith) (out ∙ ap (λ x. Some (Some (x ∷ ks))) fits.0)

  narrows_right : (narrows : Bool) (operator : BinaryOperator) (k : SlotKind) → CompoundFits narrows operator k → (at to : ℕ) → at + conversion_size narrows ≡ to → (ks : List SlotKind) → HasAt is at (conversion narrows width.Int) → ShapesAt shapes at (conversion_shapes narrows (result_kind operator ∷ ks)) → slice_get shapes to ≡ Some (Some (k ∷ ks)) → Good at to (result_kind operator ∷ ks)
  narrows_right true operator k fits at to e ks i h out = single (ConvertTo width.Int) at to (result_kind operator ∷ ks) (k ∷ ks) e i.0 h.0 (ks, ap (λ x. x ∷ ks) fits.2, ap (λ x. x ∷ ks) fits.0) (next at to _ e out)
  narrows_right false operator k fits at to e ks i h out = nothing at to (result_kind operator ∷ ks) (omega arith) (out ∙ ap (λ x. Some (Some (x ∷ ks))) (sym fits.1))

  mutual
    pub expr_right : (l : Bool) (e : Expr) (k : SlotKind) (has : HasKind (flags base l) e k) (at to : ℕ) → at + expr_size st.program e ≡ to → (ks : List SlotKind) → HasAt is at (expr_code st e at) → ShapesAt shapes at (expr_shapes (flags base l) e k has ks) → slice_get shapes to ≡ Some (Some (k ∷ ks)) → Good at to ks
    expr_right l (Number w n) k has at to e ks i h out = single (Push (number w n)) at to ks (k ∷ ks) e i.0 h.0 (ap (λ x. x ∷ ks) (has.0 ∙ sym (kind_of_number w n))) (next at to _ e out)
    expr_right l (Truth b) k has at to e ks i h out = single (Push (values.Bool b)) at to ks (k ∷ ks) e i.0 h.0 (ap (λ x. x ∷ ks) has) (next at to _ e out)
    expr_right l Null k has at to e ks i h out = single (Push values.Null) at to ks (k ∷ ks) e i.0 h.0 (ap (λ x. x ∷ ks) has) (next at to _ e out)
    expr_right l This k has at to e ks i h out = this_right base.is_static refl has.0 at to e ks i.0 h.0 (out ∙ ap (λ x. Some (Some (x ∷ ks))) has.1)
    expr_right l (ClassObject class) k has at to e ks i h out = single (Push (values.Ref (class_object class))) at to ks (k ∷ ks) e i.0 h.0 (ap (λ x. x ∷ ks) has.1) (next at to _ e out)
    expr_right l (Read v) k has at to e ks i h out =
        let n = spot_size st.program v in
        let i2 = has_back is at (spot_code st v at) _ n (spot_len st v at) i in
        let h2 = shapes_back shapes at (spot_shapes (flags base l) v k has ks) _ n (spot_shapes_len (flags base l) v k has ks) h in
        join (spot_right l v k has at (at + n) refl ks (has_front is at (spot_code st v at) _ i) (shapes_front shapes at (spot_shapes (flags base l) v k has ks) _ h) h2.0)
        (read_right (access_of st.program v) k (access_has l v k has) (at + n) to (omega arith) ks i2.0 h2.0 out)
    expr_right l (LengthOf e) k has at to len ks i h out =
        let n = expr_size st.program e in
        let i2 = has_back is at (expr_code st e at) _ n (expr_len st e at) i in
        let h2 = shapes_back shapes at (expr_shapes (flags base l) e Reference has.0 ks) _ n (expr_shapes_len (flags base l) e Reference has.0 ks) h in
        join (expr_right l e Reference has.0 at (at + n) refl ks (has_front is at (expr_code st e at) _ i) (shapes_front shapes at (expr_shapes (flags base l) e Reference has.0 ks) _ h) h2.0)
        (single ArrayLength (at + n) to (Reference ∷ ks) (k ∷ ks) (omega arith) i2.0 h2.0 (ks, refl, ap (λ x. x ∷ ks) has.1) (next (at + n) to _ (omega arith) out))
    expr_right l (Convert w e) k has at to len ks i h out =
        let n = expr_size st.program e in
        let u = kind_converted w in
        let i2 = has_back is at (expr_code st e at) _ n (expr_len st e at) i in
        let h2 = shapes_back shapes at (expr_shapes (flags base l) e u has.0 ks) _ n (expr_shapes_len (flags base l) e u has.0 ks) h in
        join (expr_right l e u has.0 at (at + n) refl ks (has_front is at (expr_code st e at) _ i) (shapes_front shapes at (expr_shapes (flags base l) e u has.0 ks) _ h) h2.0)
        (single (ConvertTo w) (at + n) to (u ∷ ks) (k ∷ ks) (omega arith) i2.0 h2.0 (ks, refl, ap (λ x. x ∷ ks) has.1) (next (at + n) to _ (omega arith) out))
    expr_right l (Unary operator e) k has at to len ks i h out =
        let n = expr_size st.program e in
        let u = unary_kind operator in
        let i2 = has_back is at (expr_code st e at) _ n (expr_len st e at) i in
        let h2 = shapes_back shapes at (expr_shapes (flags base l) e u has.0 ks) _ n (expr_shapes_len (flags base l) e u has.0 ks) h in
        join (expr_right l e u has.0 at (at + n) refl ks (has_front is at (expr_code st e at) _ i) (shapes_front shapes at (expr_shapes (flags base l) e u has.0 ks) _ h) h2.0)
        (single (OneOperand operator) (at + n) to (u ∷ ks) (k ∷ ks) (omega arith) i2.0 h2.0 (ks, refl, ap (λ x. x ∷ ks) has.1) (next (at + n) to _ (omega arith) out))
    expr_right l (Binary operator a b) k has at to len ks i h out =
        let na = expr_size st.program a in let nb = expr_size st.program b in
        let x = left_kind operator in let y = right_kind operator in
        let s = flags base l in
        let i2 = has_back is at (expr_code st a at) _ na (expr_len st a at) i in
        let i3 = has_back is (at + na) (expr_code st b (at + na)) _ nb (expr_len st b (at + na)) i2 in
        let h2 = shapes_back shapes at (expr_shapes s a x has.0 ks) _ na (expr_shapes_len s a x has.0 ks) h in
        let h3 = shapes_back shapes (at + na) (expr_shapes s b y has.1 (x ∷ ks)) _ nb (expr_shapes_len s b y has.1 (x ∷ ks)) h2 in
        let b_right = expr_right l b y has.1 (at + na) (at + na + nb) refl (x ∷ ks) (has_front is (at + na) (expr_code st b (at + na)) _ i2) (shapes_front shapes (at + na) (expr_shapes s b y has.1 (x ∷ ks)) _ h2) h3.0 in
        let a_right = expr_right l a x has.0 at (at + na) refl ks (has_front is at (expr_code st a at) _ i) (shapes_front shapes at (expr_shapes s a x has.0 ks) _ h) b_right.first in
        join a_right (join b_right (single (TwoOperands operator) (at + na + nb) to (y ∷ (x ∷ ks)) (k ∷ ks) (omega arith) i3.0 h3.0 (ks, refl, ap (λ z. z ∷ ks) has.2) (next (at + na + nb) to _ (omega arith) out)))
    expr_right l (And a b) k has at to len ks i h out =
        let na = expr_size st.program a in let nb = expr_size st.program b in
        let s = flags base l in
        let out' : slice_get shapes to ≡ Some (Some (Boolean ∷ ks)) = out ∙ ap (λ x. Some (Some (x ∷ ks))) has.2 in
        let i2 = has_back is at (expr_code st a at) _ na (expr_len st a at) i in
        let i3 = has_back is (at + na + 1) (expr_code st b (at + na + 1)) _ nb (expr_len st b (at + na + 1)) i2.1 in
        let h2 = shapes_back shapes at (expr_shapes s a Boolean has.0 ks) _ na (expr_shapes_len s a Boolean has.0 ks) h in
        let h3 = shapes_back shapes (at + na + 1) (expr_shapes s b Boolean has.1 ks) _ nb (expr_shapes_len s b Boolean has.1 ks) h2.1 in
        join (expr_right l a Boolean has.0 at (at + na) refl ks (has_front is at (expr_code st a at) _ i) (shapes_front shapes at (expr_shapes s a Boolean has.0 ks) _ h) h2.0)
        (choice_right (at + na) nb 1 to (omega arith) ks (Boolean ∷ ks) i2.0 h2.0
        (expr_right l b Boolean has.1 (at + na + 1) (at + na + 1 + nb) refl ks (has_front is (at + na + 1) (expr_code st b (at + na + 1)) _ i2.1) (shapes_front shapes (at + na + 1) (expr_shapes s b Boolean has.1 ks) _ h2.1) h3.0)
        i3.0 h3.0
        (single (Push (values.Bool false)) (at + na + 1 + nb + 1) to ks (Boolean ∷ ks) (omega arith) i3.1.0 h3.1.0 refl (next (at + na + 1 + nb + 1) to _ (omega arith) out')) out')
    expr_right l (Or a b) k has at to len ks i h out =
        let na = expr_size st.program a in let nb = expr_size st.program b in
        let s = flags base l in
        let out' : slice_get shapes to ≡ Some (Some (Boolean ∷ ks)) = out ∙ ap (λ x. Some (Some (x ∷ ks))) has.2 in
        let i2 = has_back is at (expr_code st a at) _ na (expr_len st a at) i in
        let h2 = shapes_back shapes at (expr_shapes s a Boolean has.0 ks) _ na (expr_shapes_len s a Boolean has.0 ks) h in
        join (expr_right l a Boolean has.0 at (at + na) refl ks (has_front is at (expr_code st a at) _ i) (shapes_front shapes at (expr_shapes s a Boolean has.0 ks) _ h) h2.0)
        (choice_right (at + na) 1 nb to (omega arith) ks (Boolean ∷ ks) i2.0 h2.0
        (single (Push (values.Bool true)) (at + na + 1) (at + na + 1 + 1) ks (Boolean ∷ ks) refl i2.1.0 h2.1.0 refl h2.1.1.0)
        i2.1.1.0 h2.1.1.0
        (expr_right l b Boolean has.1 (at + na + 1 + 1 + 1) to (omega arith) ks i2.1.1.1 h2.1.1.1 out') out')
    expr_right l (Choice x a b) k has at to len ks i h out =
        let nx = expr_size st.program x in let na = expr_size st.program a in let nb = expr_size st.program b in
        let s = flags base l in
        let i2 = has_back is at (expr_code st x at) _ nx (expr_len st x at) i in
        let i3 = has_back is (at + nx + 1) (expr_code st a (at + nx + 1)) _ na (expr_len st a (at + nx + 1)) i2.1 in
        let h2 = shapes_back shapes at (expr_shapes s x Boolean has.0 ks) _ nx (expr_shapes_len s x Boolean has.0 ks) h in
        let h3 = shapes_back shapes (at + nx + 1) (expr_shapes s a k has.1 ks) _ na (expr_shapes_len s a k has.1 ks) h2.1 in
        join (expr_right l x Boolean has.0 at (at + nx) refl ks (has_front is at (expr_code st x at) _ i) (shapes_front shapes at (expr_shapes s x Boolean has.0 ks) _ h) h2.0)
        (choice_right (at + nx) na nb to (omega arith) ks (k ∷ ks) i2.0 h2.0
        (expr_right l a k has.1 (at + nx + 1) (at + nx + 1 + na) refl ks (has_front is (at + nx + 1) (expr_code st a (at + nx + 1)) _ i2.1) (shapes_front shapes (at + nx + 1) (expr_shapes s a k has.1 ks) _ h2.1) h3.0)
        i3.0 h3.0
        (expr_right l b k has.2 (at + nx + 1 + na + 1) to (omega arith) ks i3.1 h3.1 out) out)
    expr_right l (Assign v e) k has at to len ks i h out =
        let n = spot_size st.program v in let ne = expr_size st.program e in
        let s = flags base l in
        let a = access_of st.program v in
        let hs = held_kinds a ks in
        let i2 = has_back is at (spot_code st v at) _ n (spot_len st v at) i in
        let i3 = has_back is (at + n) (expr_code st e (at + n)) _ ne (expr_len st e (at + n)) i2 in
        let h2 = shapes_back shapes at (spot_shapes s v k has.0 ks) _ n (spot_shapes_len s v k has.0 ks) h in
        let h3 = shapes_back shapes (at + n) (expr_shapes s e k has.1 hs) _ ne (expr_shapes_len s e k has.1 hs) h2 in
        let value = expr_right l e k has.1 (at + n) (at + n + ne) refl hs (has_front is (at + n) (expr_code st e (at + n)) _ i2) (shapes_front shapes (at + n) (expr_shapes s e k has.1 hs) _ h2) h3.0 in
        join (spot_right l v k has.0 at (at + n) refl ks (has_front is at (spot_code st v at) _ i) (shapes_front shapes at (spot_shapes s v k has.0 ks) _ h) value.first)
        (join value (kept_right a k (access_has l v k has.0) (at + n + ne) to (omega arith) ks i3 h3 out))
    expr_right l (Compound operator narrows v e) k has at to len ks i h out =
        let n = spot_size st.program v in let nc = copies_size (access_of st.program v) in let nw = conversion_size narrows in let ne = expr_size st.program e in
        let s = flags base l in
        let a = access_of st.program v in
        let hs = held_kinds a ks in
        let x = left_kind operator in let y = right_kind operator in let z = result_kind operator in
        let at2 = at + n + nc + 1 in
        let at3 = at2 + nw in
        let at4 = at3 + ne + 1 in
        let i2 = has_back is at (spot_code st v at) _ n (spot_len st v at) i in
        let i3 = has_back is (at + n) (copies a) _ nc (copies_len a) i2 in
        let i4 = has_back is at2 (conversion narrows width.Long) _ nw (conversion_len narrows width.Long) i3.1 in
        let i5 = has_back is at3 (expr_code st e at3) _ ne (expr_len st e at3) i4 in
        let i6 = has_back is at4 (conversion narrows width.Int) _ nw (conversion_len narrows width.Int) i5.1 in
        let h2 = shapes_back shapes at (spot_shapes s v k has.0 ks) _ n (spot_shapes_len s v k has.0 ks) h in
        let h3 = shapes_back shapes (at + n) (copies_shapes a ks) _ nc (copies_shapes_len a ks) h2 in
        let h4 = shapes_back shapes at2 (conversion_shapes narrows (k ∷ hs)) _ nw (conversion_shapes_len narrows (k ∷ hs)) h3.1 in
        let h5 = shapes_back shapes at3 (expr_shapes s e y has.1 (x ∷ hs)) _ ne (expr_shapes_len s e y has.1 (x ∷ hs)) h4 in
        let h6 = shapes_back shapes at4 (conversion_shapes narrows (z ∷ hs)) _ nw (conversion_shapes_len narrows (z ∷ hs)) h5.1 in
        let written = kept_right a k (access_has l v k has.0) (at4 + nw) to (omega arith) ks i6 h6 out in
        let low = narrows_right narrows operator k has.2 at4 (at4 + nw) refl hs (has_front is at4 (conversion narrows width.Int) _ i5.1) (shapes_front shapes at4 (conversion_shapes narrows (z ∷ hs)) _ h5.1) written.first in
        let value = expr_right l e y has.1 at3 (at3 + ne) refl (x ∷ hs) (has_front is at3 (expr_code st e at3) _ i4) (shapes_front shapes at3 (expr_shapes s e y has.1 (x ∷ hs)) _ h4) h5.0 in
        let wide = widens_right narrows operator k has.2 at2 at3 refl hs (has_front is at2 (conversion narrows width.Long) _ i3.1) (shapes_front shapes at2 (conversion_shapes narrows (k ∷ hs)) _ h3.1) value.first in
        let copied = copies_right a (at + n) (at + n + nc) refl ks (has_front is (at + n) (copies a) _ i2) (shapes_front shapes (at + n) (copies_shapes a ks) _ h2) h3.0 in
        join (spot_right l v k has.0 at (at + n) refl ks (has_front is at (spot_code st v at) _ i) (shapes_front shapes at (spot_shapes s v k has.0 ks) _ h) copied.first)
        (join copied (join (read_right a k (access_has l v k has.0) (at + n + nc) at2 refl hs i3.0 h3.0 wide.first)
        (join wide (join value (join (single (TwoOperands operator) (at3 + ne) at4 (y ∷ (x ∷ hs)) (z ∷ hs) refl i5.0 h5.0 (hs, refl, refl) low.first)
        (join low written))))))
    expr_right l (PrefixIncrement w v by) k has at to len ks i h out =
        let n = spot_size st.program v in let nc = copies_size (access_of st.program v) in
        let s = flags base l in
        let a = access_of st.program v in
        let hs = held_kinds a ks in
        let at2 = at + n + nc + 1 in
        let i2 = has_back is at (spot_code st v at) _ n (spot_len st v at) i in
        let i3 = has_back is (at + n) (copies a) _ nc (copies_len a) i2 in
        let h2 = shapes_back shapes at (spot_shapes s v k has.0 ks) _ n (spot_shapes_len s v k has.0 ks) h in
        let h3 = shapes_back shapes (at + n) (copies_shapes a ks) _ nc (copies_shapes_len a ks) h2 in
        let copied = copies_right a (at + n) (at + n + nc) refl ks (has_front is (at + n) (copies a) _ i2) (shapes_front shapes (at + n) (copies_shapes a ks) _ h2) h3.0 in
        join (spot_right l v k has.0 at (at + n) refl ks (has_front is at (spot_code st v at) _ i) (shapes_front shapes at (spot_shapes s v k has.0 ks) _ h) copied.first)
        (join copied (join (read_right a k (access_has l v k has.0) (at + n + nc) at2 refl hs i3.0 h3.0 h3.1.0)
        (join (single (Push (number w by)) at2 (at2 + 1) (k ∷ hs) (kind_of_width w ∷ (k ∷ hs)) refl i3.1.0 h3.1.0 (ap (λ x. x ∷ (k ∷ hs)) (sym (kind_of_number w by))) h3.1.1.0)
        (join (single (TwoOperands (binary.Arithmetic Add w)) (at2 + 1) (at2 + 1 + 1) (kind_of_width w ∷ (k ∷ hs)) (k ∷ hs) refl i3.1.1.0 h3.1.1.0 (hs, ap (λ x. kind_of_width w ∷ (x ∷ hs)) has.1, ap (λ x. x ∷ hs) has.1) h3.1.1.1.0)
        (kept_right a k (access_has l v k has.0) (at2 + 1 + 1) to (omega arith) ks i3.1.1.1 h3.1.1.1 out)))))
    expr_right l (PostfixIncrement w v by) k has at to len ks i h out =
        let n = spot_size st.program v in let nc = copies_size (access_of st.program v) in
        let s = flags base l in
        let a = access_of st.program v in
        let hs = held_kinds a ks in
        let hk = held_kinds a (k ∷ ks) in
        let at2 = at + n + nc + 1 in
        let i2 = has_back is at (spot_code st v at) _ n (spot_len st v at) i in
        let i3 = has_back is (at + n) (copies a) _ nc (copies_len a) i2 in
        let h2 = shapes_back shapes at (spot_shapes s v k has.0 ks) _ n (spot_shapes_len s v k has.0 ks) h in
        let h3 = shapes_back shapes (at + n) (copies_shapes a ks) _ nc (copies_shapes_len a ks) h2 in
        let copied = copies_right a (at + n) (at + n + nc) refl ks (has_front is (at + n) (copies a) _ i2) (shapes_front shapes (at + n) (copies_shapes a ks) _ h2) h3.0 in
        join (spot_right l v k has.0 at (at + n) refl ks (has_front is at (spot_code st v at) _ i) (shapes_front shapes at (spot_shapes s v k has.0 ks) _ h) copied.first)
        (join copied (join (read_right a k (access_has l v k has.0) (at + n + nc) at2 refl hs i3.0 h3.0 h3.1.0)
        (join (keep_right a k at2 (at2 + 1) refl ks i3.1.0 h3.1.0 h3.1.1.0)
        (join (single (Push (number w by)) (at2 + 1) (at2 + 1 + 1) (k ∷ hk) (kind_of_width w ∷ (k ∷ hk)) refl i3.1.1.0 h3.1.1.0 (ap (λ x. x ∷ (k ∷ hk)) (sym (kind_of_number w by))) h3.1.1.1.0)
        (join (single (TwoOperands (binary.Arithmetic Add w)) (at2 + 1 + 1) (at2 + 1 + 1 + 1) (kind_of_width w ∷ (k ∷ hk)) (k ∷ hk) refl i3.1.1.1.0 h3.1.1.1.0 (hk, ap (λ x. kind_of_width w ∷ (x ∷ hk)) has.1, ap (λ x. x ∷ hk) has.1) h3.1.1.1.1.0)
        (write_right a k (access_has l v k has.0) (at2 + 1 + 1 + 1) to (omega arith) (k ∷ ks) i3.1.1.1.1.0 h3.1.1.1.1.0 out))))))
    expr_right l (ResultOf x) k has at to e ks i h out = call_right l x (Some k) has at to e ks i h out
    expr_right l (NewObject class es) k has at to e ks i h out =
        let out' : slice_get shapes to ≡ Some (Some (Reference ∷ ks)) = out ∙ ap (λ x. Some (Some (x ∷ ks))) has.1 in
        let rest = made_right l (constructor_of base.program class) es (λ js h. exprs_right l es js h) has.0 (at + 1) to (omega arith) ks i.1 h.1 out' in
        join (single (Make (made.Object class)) at (at + 1) ks (Reference ∷ ks) refl i.0 h.0 refl rest.first) rest
    expr_right l NewPlain k has at to e ks i h out = single (Make made.Plain) at to ks (k ∷ ks) e i.0 h.0 (ap (λ x. x ∷ ks) has) (next at to _ e out)
    expr_right l (NewThread e) k has at to len ks i h out =
        let n = expr_size st.program e in
        let s = flags base l in
        let kk : List SlotKind = Reference ∷ (Reference ∷ ks) in
        let out' : slice_get shapes to ≡ Some (Some (Reference ∷ ks)) = out ∙ ap (λ x. Some (Some (x ∷ ks))) has.1 in
        let i2 = has_back is (at + 1 + 1) (expr_code st e (at + 1 + 1)) _ n (expr_len st e (at + 1 + 1)) i.1.1 in
        let h2 = shapes_back shapes (at + 1 + 1) (expr_shapes s e Reference has.0 kk) _ n (expr_shapes_len s e Reference has.0 kk) h.1.1 in
        let value = expr_right l e Reference has.0 (at + 1 + 1) (at + 1 + 1 + n) refl kk (has_front is (at + 1 + 1) (expr_code st e (at + 1 + 1)) _ i.1.1) (shapes_front shapes (at + 1 + 1) (expr_shapes s e Reference has.0 kk) _ h.1.1) h2.0 in
        join (single (Make made.Thread) at (at + 1) ks (Reference ∷ ks) refl i.0 h.0 refl h.1.0)
        (join (single Dup (at + 1) (at + 1 + 1) (Reference ∷ ks) kk refl i.1.0 h.1.0 (Reference, ks, refl, refl) value.first)
        (join value (single (PutField 0 Reference) (at + 1 + 1 + n) to (Reference ∷ kk) (Reference ∷ ks) (omega arith) i2.0 h2.0 (refl, (λ e. cc)) (next (at + 1 + 1 + n) to _ (omega arith) out'))))
    expr_right l (NewArray element e) k has at to len ks i h out =
        let n = expr_size st.program e in
        let s = flags base l in
        let i2 = has_back is at (expr_code st e at) _ n (expr_len st e at) i in
        let h2 = shapes_back shapes at (expr_shapes s e Int has.0 ks) _ n (expr_shapes_len s e Int has.0 ks) h in
        join (expr_right l e Int has.0 at (at + n) refl ks (has_front is at (expr_code st e at) _ i) (shapes_front shapes at (expr_shapes s e Int has.0 ks) _ h) h2.0)
        (single (MakeArray element) (at + n) to (Int ∷ ks) (k ∷ ks) (omega arith) i2.0 h2.0 (ks, refl, ap (λ x. x ∷ ks) has.1) (next (at + n) to _ (omega arith) out))

    spot_right : (l : Bool) (v : Variable) (k : SlotKind) (has : VariableHas (flags base l) v k) (at to : ℕ) → at + spot_size st.program v ≡ to → (ks : List SlotKind) → HasAt is at (spot_code st v at) → ShapesAt shapes at (spot_shapes (flags base l) v k has ks) → slice_get shapes to ≡ Some (Some (held_kinds (access_of st.program v) ks)) → Good at to ks
    spot_right l (Local number) k has at to e ks i h out = nothing at to ks (omega arith) out
    spot_right l (StaticField f) k has at to e ks i h out = nothing at to ks (omega arith) out
    spot_right l (FieldOf e f) k has at to len ks i h out = expr_right l e Reference has.0 at to len ks i h out
    spot_right l (ElementOf element a x) k has at to len ks i h out =
        let na = expr_size st.program a in
        let s = flags base l in
        let i2 = has_back is at (expr_code st a at) _ na (expr_len st a at) i in
        let h2 = shapes_back shapes at (expr_shapes s a Reference has.0 ks) _ na (expr_shapes_len s a Reference has.0 ks) h in
        let index = expr_right l x Int has.1 (at + na) to (omega arith) (Reference ∷ ks) i2 h2 out in
        join (expr_right l a Reference has.0 at (at + na) refl ks (has_front is at (expr_code st a at) _ i) (shapes_front shapes at (expr_shapes s a Reference has.0 ks) _ h) index.first) index

    pub call_right : (l : Bool) (x : Call) (res : Option SlotKind) (has : CallHas (flags base l) x res) (at to : ℕ) → at + call_size st.program x ≡ to → (ks : List SlotKind) → HasAt is at (call_code st x at) → ShapesAt shapes at (call_shapes (flags base l) x res has ks) → slice_get shapes to ≡ Some (Some (kinds_with res ks)) → Good at to ks
    call_right l (CallStatic m es) res has at to len ks i h out =
        let n = exprs_size st.program es in
        let s = flags base l in
        let i2 = has_back is at (exprs_code st es at) _ n (exprs_len st es at) i in
        let h2 = shapes_back shapes at (exprs_shapes s es has.0.formals has.4 ks) _ n (exprs_shapes_len s es has.0.formals has.4 ks) h in
        join (exprs_right l es has.0.formals has.4 at (at + n) refl ks (has_front is at (exprs_code st es at) _ i) (shapes_front shapes at (exprs_shapes s es has.0.formals has.4 ks) _ h) h2.0)
        (static_right m has.0 has.1 has.2 res has.3 (at + n) to (omega arith) ks i2.0 h2.0 out)
    call_right l (CallOn e m es) res has at to len ks i h out =
        let ne = expr_size st.program e in let n = exprs_size st.program es in
        let s = flags base l in
        let kk : List SlotKind = Reference ∷ ks in
        let i2 = has_back is at (expr_code st e at) _ ne (expr_len st e at) i in
        let i3 = has_back is (at + ne) (exprs_code st es (at + ne)) _ n (exprs_len st es (at + ne)) i2 in
        let h2 = shapes_back shapes at (expr_shapes s e Reference has.5 ks) _ ne (expr_shapes_len s e Reference has.5 ks) h in
        let h3 = shapes_back shapes (at + ne) (exprs_shapes s es has.0.formals has.4 kk) _ n (exprs_shapes_len s es has.0.formals has.4 kk) h2 in
        let arguments = exprs_right l es has.0.formals has.4 (at + ne) (at + ne + n) refl kk (has_front is (at + ne) (exprs_code st es (at + ne)) _ i2) (shapes_front shapes (at + ne) (exprs_shapes s es has.0.formals has.4 kk) _ h2) h3.0 in
        join (expr_right l e Reference has.5 at (at + ne) refl ks (has_front is at (expr_code st e at) _ i) (shapes_front shapes at (expr_shapes s e Reference has.5 ks) _ h) arguments.first)
        (join arguments (on_right m has.0 has.1 has.2 res has.3 (at + ne + n) to (omega arith) ks i3.0 h3.0 out))

    pub exprs_right : (l : Bool) (es : Exprs) → ArgumentsRight l es
    exprs_right l no_more js has at to e ks i h out = nothing at to ks (omega arith) (out ∙ ap (λ js. Some (Some (kinds_pushed js ks))) has)
    exprs_right l (and_then first rest) [] has at to e ks i h out = absurd has
    exprs_right l (and_then first rest) (j ∷ js) has at to e ks i h out =
        let n = expr_size st.program first in
        let s = flags base l in
        let i2 = has_back is at (expr_code st first at) _ n (expr_len st first at) i in
        let h2 = shapes_back shapes at (expr_shapes s first j has.0 ks) _ n (expr_shapes_len s first j has.0 ks) h in
        let others = exprs_right l rest js has.1 (at + n) to (omega arith) (j ∷ ks) i2 h2 out in
        join (expr_right l first j has.0 at (at + n) refl ks (has_front is at (expr_code st first at) _ i) (shapes_front shapes at (expr_shapes s first j has.0 ks) _ h) others.first) others

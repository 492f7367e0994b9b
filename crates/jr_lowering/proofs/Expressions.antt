-- The code of an expression does what the expression does.
use Rattle.std.proofs.Common.{◌≡◌, ℕ, suc, ◌+◌, ◌<◌, ◌≤◌, Bool, true, false, List, [], ◌∷◌, length, drop, Option, Some, None, refl, sym, ap, ◌∙◌, subst, arith}
use Rattle.std.specs.Prelude.{ℤ, pos, negsuc, slice_get, slice_set}
use Rattle.std.specs.Option.{option_map_or}
use Rattle.jr_base.specs.Deed.{Deed}
use Rattle.jr_base.specs.declared.number.ClassId.{ClassId}
use Rattle.jr_base.specs.declared.number.MethodId.{MethodId}
use Rattle.jr_base.specs.declared.number.ObjId.{ObjId}
use Rattle.jr_base.specs.declared.action.Reply.{Reply}
use Rattle.jr_base.specs.declared.action.Reply.TheVariants as replies
use Rattle.jr_base.specs.declared.action.Elem.{Elem}
use Rattle.jr_base.specs.declared.action.NewKind.TheVariants as made
use Rattle.jr_base.specs.declared.value.Value.{Value}
use Rattle.jr_base.specs.declared.value.Value.TheVariants as values
use Rattle.jr_base.specs.declared.value.Cell.{Cell}
use Rattle.jr_base.specs.declared.finish.Fault.{Fault}
use Rattle.jr_base.specs.declared.finish.Fault.TheVariants as faults
use Rattle.jr_base.specs.declared.kind.SlotKind.{SlotKind}
use Rattle.jr_base.specs.declared.kind.SlotKind.TheVariants.{Int, Ref as Reference}
use Rattle.jr_arith.specs.declared.operator.Width.{Width}
use Rattle.jr_arith.specs.declared.operator.Width.TheVariants as width
use Rattle.jr_arith.specs.declared.operator.Arithmetic.TheVariants.{Add}
use Rattle.jr_arith.specs.declared.operator.Binary.{Binary as BinaryOperator}
use Rattle.jr_arith.specs.declared.operator.Binary.TheVariants as binary
use Rattle.jr_arith.specs.Operators.{number_of, number, truth_of, binary_value}
use Rattle.jr_program.specs.Programs.{Method, method_at, Expr, Number, Truth, Null, This, ClassObject, Read, LengthOf, Convert, Unary, Binary, And, Or, Choice, Assign, Compound, PrefixIncrement, PostfixIncrement, ResultOf, NewObject, NewPlain, NewThread, NewArray, Variable, Local, StaticField, FieldOf, ElementOf, Call, CallStatic, CallOn, Exprs, no_more, and_then, constructor_of}
use Rattle.jr_base.specs.Threads.{Tape, value_at, class_object, reference, object_made, cell}
use Rattle.jr_base.specs.Content.{Content, Holds, value_in}
use Rattle.jr_meaning.specs.Next.{Variables, Got, Going, then_do, ask, throws, if_so, on_object, or_zero_divisor, read_by, written_by, put, Spot, LocalSpot, StaticSpot, FieldSpot, ElementSpot, read_spot, write_spot, Calls, Context, context_of, promoted, narrowed, incremented, used, new_array, construct, eval, locate, invoke, eval_all}
use Rattle.jr_program.specs.Slots.{slot_of}
use Rattle.jr_meaning.specs.Objects.{home_of}
use Rattle.jr_code.specs.Instructions.{Instruction, Push, Load, Store, Dup, Dup2, DupX1, DupX2, OneOperand, TwoOperands, ConvertTo, Jump, JumpNot, GetField, PutField, GetStatic, PutStatic, GetElement, PutElement, ArrayLength, Make, MakeArray, CallStaticMethod, CallMethodOn, Region, Code}
use Rattle.jr_code.specs.Machine.{instructions_of, regions_of, arity_of, StackFrame, stack_frame, State, Throws, Move, Goes, Asks, on, top, under, taken, content_in, calling, handed, handed_fault, with_object, or_throw, after_read, after_write, make_array, act}
use Rattle.jr_lowering.specs.ExprCode.{Setting, shift, Access, OfLocal, OfStatic, OfField, OfElement, kind_of_field, access_of, read_one, write_one, keep_one, copies, copies_size, conversion, conversion_size, choice_code, constructor_size, constructor_code, this_one, expr_size, spot_size, call_size, exprs_size, expr_code, spot_code, call_code, exprs_code}
use Rattle.jr_program.specs.WellFormed.{Scope, HasKind, VariableHas, CallHas, ConstructorHas, ExprsHave}
use Rattle.jr_program.specs.ClauseKinds.{IsVariable}
use Rattle.jr_lowering.proofs.Follow.{Go, Hidden, Inv, from, Leads, Follows, Any, stay, leads_on, arrives, falls_to, follows_on, follows_then, ends_with, ends, widen, goes, asks, chooses}
use Rattle.jr_lowering.proofs.Locals.{Shape, has_value, shape_set, whole, get_variable, set_variable}
use Rattle.jr_lowering.proofs.Operands.{pushed, taken_is, left_is, Returned, with_result, CallsRun, ArityRight}
use Rattle.jr_lowering.proofs.Places.{HasAt, has_front, has_back, expr_len, spot_len, exprs_len, copies_len, conversion_len}

abbrev pub setting_in : Scope → Setting
setting_in s = record { program = s.program; is_static = s.is_static; variables = length s.kinds }

-- the spot of a variable of that kind is where its access reads and writes
pub data IsHeld (kinds : List SlotKind) (k : SlotKind) : Access → Spot → Type 0 where
  AtLocal : (number : ℕ) → IsVariable kinds number k → IsHeld kinds k (OfLocal number) (LocalSpot number)
  AtStatic : (place : Cell) (kind : SlotKind) → IsHeld kinds k (OfStatic place kind) (StaticSpot place)
  AtField : (object : Value) (slot : ℕ) (kind : SlotKind) → IsHeld kinds k (OfField slot kind) (FieldSpot object slot)
  AtElement : (array index : Value) (element : Elem) → IsHeld kinds k (OfElement element) (ElementSpot array index)

-- a variable's operands on the stack
abbrev pub with_operands : Spot → List Content → List Content
with_operands (LocalSpot number) stack = stack
with_operands (StaticSpot place) stack = stack
with_operands (FieldSpot object slot) stack = Holds object ∷ stack
with_operands (ElementSpot array index) stack = Holds index ∷ (Holds array ∷ stack)

abbrev no_result : Going (Option Value)
no_result = Got None

-- what holds of the locals: their kinds, and something of the hidden ones
abbrev pub keeping : Scope → (Hidden → Type 0) → Inv
keeping s J vs h = Shape s.kinds vs × J h

module _ (code : Code) (below : List StackFrame) (m : MethodId) (this : Option ObjId) where
  -- an instruction that goes on behind itself
  pub one : (i : Instruction) (at to : ℕ) (stack stack' locals locals' : List Content) → slice_get (instructions_of code m) at ≡ Some i → act code (Some i) below m this at stack locals ≡ Goes (on below m this (at + 1) stack' locals') → at + 1 ≡ to → (t : Tape) → Leads (from code (on below m this at stack locals)) t (from code (on below m this to stack' locals')) t
  one i at to stack stack' locals locals' h e to_is t =
      goes code (on below m this at stack locals) (ap (λ o. act code o below m this at stack locals) h ∙ e ∙ ap (λ p. Goes (on below m this p stack' locals')) to_is) t

  -- an instruction that goes anywhere
  pub jumps : (i : Instruction) (at : ℕ) (stack locals : List Content) (s : State) → slice_get (instructions_of code m) at ≡ Some i → act code (Some i) below m this at stack locals ≡ Goes s → (t : Tape) → Leads (from code (on below m this at stack locals)) t (from code s) t
  jumps i at stack locals s h e t = goes code (on below m this at stack locals) (ap (λ o. act code o below m this at stack locals) h ∙ e) t

  -- an instruction that makes an action
  pub acts : {B : Type 0} {I : Inv} {P : B → Type 0} {lo hi : ℕ} {k : B → Variables → Hidden → Go} {th : Fault → Variables → Hidden → ℕ → Go} (i : Instruction) (at : ℕ) (stack locals : List Content) (deed : Deed) (go : Reply → State) (vs : Variables) (t : Tape) (f : Reply → Going B) → slice_get (instructions_of code m) at ≡ Some i → act code (Some i) below m this at stack locals ≡ Asks deed go → ((r : Reply) (t1 : Tape) → Follows I P lo hi (from code (go r)) t1 k th (f r vs t1)) → Follows I P lo hi (from code (on below m this at stack locals)) t k th (ask deed f vs t)
  acts i at stack locals deed go vs t f h e rest = asks code (on below m this at stack locals) vs t f (ap (λ o. act code o below m this at stack locals) h ∙ e) rest

-- goes on with an exception, with these regions left to look at
abbrev pub with_fault : Code → List StackFrame → MethodId → Bool → Option ObjId → List Region → Fault → Variables → Hidden → ℕ → Go
with_fault code below m static this rest fault vs h p = from code (Throws fault rest (stack_frame m this p [] (whole static this vs h)) below)

module _ (s : Scope) (code : Code) (calls : Calls) (turns : ℕ) (calls_run : CallsRun code s.program calls) (arity : ArityRight code s.program) (below : List StackFrame) (m : MethodId) (this : Option ObjId) (J : Hidden → Type 0) where
  abbrev pub standing : ℕ → List Content → Variables → Hidden → State
  standing at stack vs h = on below m this at stack (whole s.is_static this vs h)

  abbrev pub with_value : ℕ → List Content → Value → Variables → Hidden → Go
  with_value to stack v vs h = from code (standing to (Holds v ∷ stack) vs h)

  abbrev pub throwing : Fault → Variables → Hidden → ℕ → Go
  throwing = with_fault code below m s.is_static this (regions_of code m)

  abbrev I : Inv
  I = keeping s J

  abbrev context : Context
  context = context_of s.program m this calls turns

  abbrev is : List Instruction
  is = instructions_of code m

  -- the same state at an equal place
  moved : (at to : ℕ) (stack : List Content) (vs : Variables) (h : Hidden) (t : Tape) → at ≡ to → Leads (from code (standing at stack vs h)) t (from code (standing to stack vs h)) t
  moved at to stack vs h t e = subst (λ p. Leads (from code (standing at stack vs h)) t (from code (standing p stack vs h)) t) e (stay _ t)

  -- an instruction that needs an object
  pub needs_object : {B : Type 0} {P : B → Type 0} {lo hi : ℕ} {k : B → Variables → Hidden → Go} (i : Instruction) (at : ℕ) (stack : List Content) (vs : Variables) (h : Hidden) (v : Value) (go : ObjId → Move) (f : ObjId → Going B) (t : Tape) → slice_get is at ≡ Some i → act code (Some i) below m this at stack (whole s.is_static this vs h) ≡ with_object code below m this at (whole s.is_static this vs h) v go → I vs h → lo ≤ at → at < hi → ((o : ObjId) → act code (Some i) below m this at stack (whole s.is_static this vs h) ≡ go o → Follows I P lo hi (from code (standing at stack vs h)) t k throwing (f o vs t)) → Follows I P lo hi (from code (standing at stack vs h)) t k throwing (on_object v f vs t)
  needs_object i at stack vs h (values.Ref o) go f t has e inv low high rest = rest o e
  needs_object i at stack vs h values.Null go f t has e inv low high rest = falls_to faults.NullPointerException vs h t at inv low high (jumps code below m this i at stack _ _ has e t)
  needs_object i at stack vs h (values.Int n) go f t has e inv low high rest = falls_to faults.NullPointerException vs h t at inv low high (jumps code below m this i at stack _ _ has e t)
  needs_object i at stack vs h (values.Long n) go f t has e inv low high rest = falls_to faults.NullPointerException vs h t at inv low high (jumps code below m this i at stack _ _ has e t)
  needs_object i at stack vs h (values.Bool b) go f t has e inv low high rest = falls_to faults.NullPointerException vs h t at inv low high (jumps code below m this i at stack _ _ has e t)

  -- the reply to a read
  replied : (at to lo : ℕ) (stack : List Content) (vs : Variables) (h : Hidden) (t : Tape) → at + 1 ≡ to → lo ≤ at → I vs h → (r : Reply) → Follows I Any lo to (from code (after_read code below m this at stack (whole s.is_static this vs h) r)) t (with_value to stack) throwing (read_by r vs t)
  replied at to lo stack vs h t e le inv (replies.Value v) = arrives v vs h t inv tt (moved (at + 1) to (Holds v ∷ stack) vs h t e)
  replied at to lo stack vs h t e le inv replies.Range = falls_to faults.ArrayIndexOutOfBoundsException vs h t at inv le (omega arith) (stay _ t)
  replied at to lo stack vs h t e le inv replies.Unit = arrives _ vs h t inv tt (moved (at + 1) to _ vs h t e)
  replied at to lo stack vs h t e le inv (replies.Made o) = arrives _ vs h t inv tt (moved (at + 1) to _ vs h t e)
  replied at to lo stack vs h t e le inv replies.Illegal = arrives _ vs h t inv tt (moved (at + 1) to _ vs h t e)
  replied at to lo stack vs h t e le inv replies.Nobody = arrives _ vs h t inv tt (moved (at + 1) to _ vs h t e)
  replied at to lo stack vs h t e le inv (replies.Woke g) = arrives _ vs h t inv tt (moved (at + 1) to _ vs h t e)
  replied at to lo stack vs h t e le inv (replies.Started g b) = arrives _ vs h t inv tt (moved (at + 1) to _ vs h t e)

  -- goes on behind a write
  abbrev written : ℕ → List Content → Value → Variables → Hidden → Go
  written to stack v vs h = from code (standing to stack vs h)

  -- the reply to a write
  stored : (at to lo : ℕ) (stack : List Content) (vs : Variables) (h : Hidden) (t : Tape) (v : Value) → at + 1 ≡ to → lo ≤ at → I vs h → (r : Reply) → Follows I (λ w. v ≡ w) lo to (from code (after_write code below m this at stack (whole s.is_static this vs h) r)) t (written to stack) throwing (written_by r v vs t)
  stored at to lo stack vs h t v e le inv replies.Range = falls_to faults.ArrayIndexOutOfBoundsException vs h t at inv le (omega arith) (stay _ t)
  stored at to lo stack vs h t v e le inv (replies.Value w) = arrives v vs h t inv refl (moved (at + 1) to stack vs h t e)
  stored at to lo stack vs h t v e le inv replies.Unit = arrives v vs h t inv refl (moved (at + 1) to stack vs h t e)
  stored at to lo stack vs h t v e le inv (replies.Made o) = arrives v vs h t inv refl (moved (at + 1) to stack vs h t e)
  stored at to lo stack vs h t v e le inv replies.Illegal = arrives v vs h t inv refl (moved (at + 1) to stack vs h t e)
  stored at to lo stack vs h t v e le inv replies.Nobody = arrives v vs h t inv refl (moved (at + 1) to stack vs h t e)
  stored at to lo stack vs h t v e le inv (replies.Woke g) = arrives v vs h t inv refl (moved (at + 1) to stack vs h t e)
  stored at to lo stack vs h t v e le inv (replies.Started g b) = arrives v vs h t inv refl (moved (at + 1) to stack vs h t e)

  -- a variable's local
  local_is : (vs : Variables) (h : Hidden) (number : ℕ) (k : SlotKind) → I vs h → IsVariable s.kinds number k → content_in (slice_get (whole s.is_static this vs h) (shift s.is_static + number)) ≡ Holds (value_at vs number)
  local_is vs h number k inv is_k =
      let v = has_value s.kinds vs number k inv.0 is_k.0 is_k.1 in
      ap content_in (get_variable s.is_static this vs h number (Holds v.0) v.1) ∙ ap (λ o. Holds (value_in o)) (sym v.1)

  abbrev st : Setting
  st = setting_in s

  reads : {a : Access} {spot : Spot} (k : SlotKind) → IsHeld s.kinds k a spot → (at to lo : ℕ) → at + 1 ≡ to → lo ≤ at → (stack : List Content) (vs : Variables) (h : Hidden) (t : Tape) → I vs h → slice_get is at ≡ Some (read_one st a) → Follows I Any lo to (from code (standing at (with_operands spot stack) vs h)) t (with_value to stack) throwing (read_spot spot vs t)
  reads k (AtLocal number has) at to lo e le stack vs h t inv i =
      arrives (value_at vs number) vs h t inv tt
      (one code below m this (Load (shift s.is_static + number)) at to stack (Holds (value_at vs number) ∷ stack) _ _ i
      (ap (λ c. Goes (on below m this (at + 1) (c ∷ stack) (whole s.is_static this vs h))) (local_is vs h number k inv has)) e t)
  reads k (AtStatic place kind) at to lo e le stack vs h t inv i =
      acts code below m this (GetStatic place kind) at stack _ _ _ vs t read_by i refl (λ r t1. replied at to lo stack vs h t1 e le inv r)
  reads k (AtField object slot kind) at to lo e le stack vs h t inv i =
      needs_object (GetField slot kind) at (Holds object ∷ stack) vs h object _ _ t i refl inv le (omega arith)
      (λ o e1. acts code below m this (GetField slot kind) at (Holds object ∷ stack) _ _ _ vs t read_by i e1 (λ r t1. replied at to lo stack vs h t1 e le inv r))
  reads k (AtElement array index element) at to lo e le stack vs h t inv i =
      needs_object (GetElement element) at (Holds index ∷ (Holds array ∷ stack)) vs h array _ _ t i refl inv le (omega arith)
      (λ o e1. acts code below m this (GetElement element) at (Holds index ∷ (Holds array ∷ stack)) _ _ _ vs t read_by i e1 (λ r t1. replied at to lo stack vs h t1 e le inv r))

  writes : {a : Access} {spot : Spot} (k : SlotKind) → IsHeld s.kinds k a spot → (at to lo : ℕ) → at + 1 ≡ to → lo ≤ at → (v : Value) (stack : List Content) (vs : Variables) (h : Hidden) (t : Tape) → I vs h → slice_get is at ≡ Some (write_one st a) → Follows I (λ w. v ≡ w) lo to (from code (standing at (Holds v ∷ with_operands spot stack) vs h)) t (written to stack) throwing (write_spot spot v vs t)
  writes k (AtLocal number has) at to lo e le v stack vs h t inv i =
      let old = has_value s.kinds vs number k inv.0 has.0 has.1 in
      arrives v (slice_set vs number (Holds v)) h t (shape_set s.kinds vs number k (Holds v) inv.0 has.0 has.1, inv.1) refl
      (one code below m this (Store (shift s.is_static + number)) at to (Holds v ∷ stack) stack _ _ i
      (ap (λ l. Goes (on below m this (at + 1) stack l)) (set_variable s.is_static this vs h number (Holds old.0) (Holds v) old.1)) e t)
  writes k (AtStatic place kind) at to lo e le v stack vs h t inv i =
      acts code below m this (PutStatic place kind) at (Holds v ∷ stack) _ _ _ vs t (λ reply. written_by reply v) i refl (λ r t1. stored at to lo stack vs h t1 v e le inv r)
  writes k (AtField object slot kind) at to lo e le v stack vs h t inv i =
      needs_object (PutField slot kind) at (Holds v ∷ (Holds object ∷ stack)) vs h object _ _ t i refl inv le (omega arith)
      (λ o e1. acts code below m this (PutField slot kind) at (Holds v ∷ (Holds object ∷ stack)) _ _ _ vs t (λ reply. written_by reply v) i e1 (λ r t1. stored at to lo stack vs h t1 v e le inv r))
  writes k (AtElement array index element) at to lo e le v stack vs h t inv i =
      needs_object (PutElement element) at (Holds v ∷ (Holds index ∷ (Holds array ∷ stack))) vs h array _ _ t i refl inv le (omega arith)
      (λ o e1. acts code below m this (PutElement element) at (Holds v ∷ (Holds index ∷ (Holds array ∷ stack))) _ _ _ vs t (λ reply. written_by reply v) i e1 (λ r t1. stored at to lo stack vs h t1 v e le inv r))

  kept : {a : Access} {spot : Spot} (k : SlotKind) → IsHeld s.kinds k a spot → (at to : ℕ) → at + 1 ≡ to → (v : Value) (stack : List Content) (vs : Variables) (h : Hidden) (t : Tape) → slice_get is at ≡ Some (keep_one a) → Leads (from code (standing at (Holds v ∷ with_operands spot stack) vs h)) t (from code (standing to (Holds v ∷ with_operands spot (Holds v ∷ stack)) vs h)) t
  kept k (AtLocal number variable) at to e v stack vs h t i = one code below m this Dup at to _ _ _ _ i refl e t
  kept k (AtStatic place kind) at to e v stack vs h t i = one code below m this Dup at to _ _ _ _ i refl e t
  kept k (AtField object slot kind) at to e v stack vs h t i = one code below m this DupX1 at to _ _ _ _ i refl e t
  kept k (AtElement array index element) at to e v stack vs h t i = one code below m this DupX2 at to _ _ _ _ i refl e t

  copied : {a : Access} {spot : Spot} (k : SlotKind) → IsHeld s.kinds k a spot → (at to : ℕ) → at + copies_size a ≡ to → (stack : List Content) (vs : Variables) (h : Hidden) (t : Tape) → HasAt is at (copies a) → Leads (from code (standing at (with_operands spot stack) vs h)) t (from code (standing to (with_operands spot (with_operands spot stack)) vs h)) t
  copied k (AtLocal number variable) at to e stack vs h t has = moved at to stack vs h t (omega arith)
  copied k (AtStatic place kind) at to e stack vs h t has = moved at to stack vs h t (omega arith)
  copied k (AtField object slot kind) at to e stack vs h t has = one code below m this Dup at to _ _ _ _ has.0 refl e t
  copied k (AtElement array index element) at to e stack vs h t has = one code below m this Dup2 at to _ _ _ _ has.0 refl e t

  -- an operator between two operands
  operates : (operator : BinaryOperator) (at to lo : ℕ) (x y : Value) (stack : List Content) (vs : Variables) (h : Hidden) (t : Tape) → at + 1 ≡ to → lo ≤ at → I vs h → slice_get is at ≡ Some (TwoOperands operator) → Follows I Any lo to (from code (standing at (Holds y ∷ (Holds x ∷ stack)) vs h)) t (with_value to stack) throwing (or_zero_divisor (binary_value operator x y) vs t)
  operates operator at to lo x y stack vs h t e le inv i = ends_here (binary_value operator x y) (jumps code below m this (TwoOperands operator) at (Holds y ∷ (Holds x ∷ stack)) _ _ i refl t)
    where
      ends_here : (o : Option Value) → Leads (from code (standing at (Holds y ∷ (Holds x ∷ stack)) vs h)) t (from code (or_throw code below m this at stack (whole s.is_static this vs h) o)) t → Follows I Any lo to (from code (standing at (Holds y ∷ (Holds x ∷ stack)) vs h)) t (with_value to stack) throwing (or_zero_divisor o vs t)
      ends_here (Some v) l = arrives v vs h t inv tt (leads_on l (moved (at + 1) to (Holds v ∷ stack) vs h t e))
      ends_here None l = falls_to faults.ArithmeticException vs h t at inv le (omega arith) l

  -- what `++` and `--` write
  increments : (w : Width) (by : ℤ) (at to lo : ℕ) (x : Value) (stack : List Content) (vs : Variables) (h : Hidden) (t : Tape) → at + 1 ≡ to → lo ≤ at → I vs h → slice_get is at ≡ Some (TwoOperands (binary.Arithmetic Add w)) → Follows I Any lo to (from code (standing at (Holds (number w by) ∷ (Holds x ∷ stack)) vs h)) t (with_value to stack) throwing (Got (incremented w x by) vs t)
  increments width.Int by at to lo x stack vs h t e le inv i = operates (binary.Arithmetic Add width.Int) at to lo x (values.Int by) stack vs h t e le inv i
  increments width.Long by at to lo x stack vs h t e le inv i = operates (binary.Arithmetic Add width.Long) at to lo x (values.Long by) stack vs h t e le inv i

  -- the conversions of a compound assignment
  promotes : (narrows : Bool) (at to : ℕ) → at + conversion_size narrows ≡ to → (v : Value) (stack : List Content) (vs : Variables) (h : Hidden) (t : Tape) → HasAt is at (conversion narrows width.Long) → Leads (from code (standing at (Holds v ∷ stack) vs h)) t (from code (standing to (Holds (promoted narrows v) ∷ stack) vs h)) t
  promotes true at to e v stack vs h t has = one code below m this (ConvertTo width.Long) at to _ _ _ _ has.0 refl e t
  promotes false at to e v stack vs h t has = moved at to (Holds v ∷ stack) vs h t (omega arith)

  narrows_to : (narrows : Bool) (at to : ℕ) → at + conversion_size narrows ≡ to → (v : Value) (stack : List Content) (vs : Variables) (h : Hidden) (t : Tape) → HasAt is at (conversion narrows width.Int) → Leads (from code (standing at (Holds v ∷ stack) vs h)) t (from code (standing to (Holds (narrowed narrows v) ∷ stack) vs h)) t
  narrows_to true at to e v stack vs h t has = one code below m this (ConvertTo width.Int) at to _ _ _ _ has.0 refl e t
  narrows_to false at to e v stack vs h t has = moved at to (Holds v ∷ stack) vs h t (omega arith)

  -- one of two expressions
  chosen : (at at1 nl nr to : ℕ) (test left right : Going Value) (test_code left_code right_code : List Instruction) → length test_code ≡ at1 → at + at1 + 1 + nl + 1 + nr ≡ to → length left_code ≡ nl → (stack : List Content) (vs : Variables) (h : Hidden) (t : Tape) → HasAt is at (choice_code (at + at1) nl nr test_code left_code right_code) →
      Follows I Any at (at + at1) (from code (standing at stack vs h)) t (with_value (at + at1) stack) throwing (test vs t) →
      (HasAt is (at + at1 + 1) left_code → (vs : Variables) (h : Hidden) (t : Tape) → I vs h → Follows I Any (at + at1 + 1) (at + at1 + 1 + nl) (from code (standing (at + at1 + 1) stack vs h)) t (with_value (at + at1 + 1 + nl) stack) throwing (left vs t)) →
      (HasAt is (at + at1 + 1 + nl + 1) right_code → (vs : Variables) (h : Hidden) (t : Tape) → I vs h → Follows I Any (at + at1 + 1 + nl + 1) to (from code (standing (at + at1 + 1 + nl + 1) stack vs h)) t (with_value to stack) throwing (right vs t)) →
      Follows I Any at to (from code (standing at stack vs h)) t (with_value to stack) throwing (then_do (test vs t) (λ x. if_so (truth_of x) left right))
  chosen at at1 nl nr to test left right test_code left_code right_code len e len_left stack vs h t has test_runs left_runs right_runs =
      let h2 = has_back is at test_code _ at1 len has in
      let h3 = has_back is (at + at1 + 1) left_code _ nl len_left h2.1 in
      follows_then (test vs t) _ (omega arith) (omega arith) test_runs
      (λ x vs1 h1 t1 i1 u. chooses code (truth_of x) vs1 left right
      (jumps code below m this (JumpNot (at + at1 + 1 + nl + 1)) (at + at1) (Holds x ∷ stack) _ _ h2.0 refl t1)
      (ends (left vs1 t1) (omega arith) (omega arith)
      (λ v vs2 h2 t2 i2 u. arrives v vs2 h2 t2 i2 tt (jumps code below m this (Jump (at + at1 + 1 + nl + 1 + nr)) (at + at1 + 1 + nl) (Holds v ∷ stack) _ _ h3.0 (ap (λ p. Goes (standing p (Holds v ∷ stack) vs2 h2)) e) t2))
      (left_runs (has_front is (at + at1 + 1) left_code _ h2.1) vs1 h1 t1 i1))
      (widen (right vs1 t1) (omega arith) (omega arith) (right_runs h3.1 vs1 h1 t1 i1)))

  -- the local of `this`
  this_act : (b : Bool) → b ≡ false → (at : ℕ) (stack : List Content) (vs : Variables) (h : Hidden) → act code (Some (this_one b)) below m this at stack (whole b this vs h) ≡ Goes (on below m this (at + 1) (Holds (reference this) ∷ stack) (whole b this vs h))
  this_act true e at stack vs h = absurd (cc)
  this_act false e at stack vs h = refl

  -- a new array
  array_made : (element : Elem) (n : ℤ) (at to lo : ℕ) (stack stack1 : List Content) (vs : Variables) (h : Hidden) (t : Tape) → at + 1 ≡ to → lo ≤ at → I vs h → slice_get is at ≡ Some (MakeArray element) → act code (Some (MakeArray element)) below m this at stack1 (whole s.is_static this vs h) ≡ make_array code below m this at stack (whole s.is_static this vs h) element n → Follows I Any lo to (from code (standing at stack1 vs h)) t (with_value to stack) throwing (new_array element n vs t)
  array_made element (pos size) at to lo stack stack1 vs h t e le inv i x =
      acts code below m this (MakeArray element) at stack1 _ _ _ vs t (λ reply. Got (values.Ref (object_made reply))) i x (λ r t1. arrives _ vs h t1 inv tt (moved (at + 1) to _ vs h t1 e))
  array_made element (negsuc n) at to lo stack stack1 vs h t e le inv i x =
      falls_to faults.NegativeArraySizeException vs h t at inv le (omega arith) (jumps code below m this (MakeArray element) at stack1 _ _ i x t)

  -- the call of a method, whose context stands below
  handed_on : (at to : ℕ) (stack : List Content) (vs : Variables) (h : Hidden) (t : Tape) → at + 1 ≡ to → (result : Option Value) → Leads (from code (handed result (stack_frame m this at stack (whole s.is_static this vs h) ∷ below))) t (from code (standing to (with_result result stack) vs h)) t
  handed_on at to stack vs h t e None = moved (at + 1) to stack vs h t e
  handed_on at to stack vs h t e (Some v) = moved (at + 1) to (Holds v ∷ stack) vs h t e

  called : (callee : MethodId) (method : Method) → method_at s.program callee ≡ Some method → (o : Option ObjId) (arguments : List Value) → length arguments ≡ length method.formals → (at to lo : ℕ) → at + 1 ≡ to → lo ≤ at → (stack : List Content) (vs : Variables) (h : Hidden) (t : Tape) → I vs h → {s1 : Go} → Leads s1 t (from code (calling code callee o arguments (stack_frame m this at stack (whole s.is_static this vs h) ∷ below))) t → Follows I (Returned method.result) lo to s1 t (λ result vs h. from code (standing to (with_result result stack) vs h)) throwing (calls callee o arguments vs t)
  called callee method is_method o arguments len at to lo e le stack vs h t inv l =
      follows_on (calls callee o arguments vs t) l
      (ends_with (calls callee o arguments vs t)
      (λ result ws h1 t1 same fits. subst (λ ws. Follows I (Returned method.result) lo to (from code (handed result (stack_frame m this at stack (whole s.is_static this vs h) ∷ below))) t1 (λ result vs h. from code (standing to (with_result result stack) vs h)) throwing (Got result ws t1)) same
      (arrives result vs h t1 inv fits (handed_on at to stack vs h t1 e result)))
      (λ fault ws h1 t1 p same low high. subst (λ ws. Follows I (Returned method.result) lo to (from code (handed_fault code fault (stack_frame m this at stack (whole s.is_static this vs h) ∷ below))) t1 (λ result vs h. from code (standing to (with_result result stack) vs h)) throwing (throws {A = Option Value} fault ws t1)) same
      (falls_to fault vs h t1 at inv le (omega arith) (stay _ t1)))
      (calls_run callee method is_method o arguments len (stack_frame m this at stack (whole s.is_static this vs h) ∷ below) vs t))

  -- a call on an object, with its receiver and its arguments on the stack
  called_on : (callee : MethodId) (method : Method) → method_at s.program callee ≡ Some method → (o : ObjId) (arguments : List Value) → length arguments ≡ length method.formals → (at to lo : ℕ) → at + 1 ≡ to → lo ≤ at → (stack : List Content) (vs : Variables) (h : Hidden) (t : Tape) → I vs h → slice_get is at ≡ Some (CallMethodOn callee) → Follows I (Returned method.result) lo to (from code (standing at (pushed arguments (Holds (values.Ref o) ∷ stack)) vs h)) t (λ result vs h. from code (standing to (with_result result stack) vs h)) throwing (calls callee (Some o) arguments vs t)
  called_on callee method is_method o arguments len at to lo e le stack vs h t inv i =
      let n : arity_of code callee ≡ length arguments = arity callee method is_method ∙ sym len in
      let full = pushed arguments (Holds (values.Ref o) ∷ stack) in
      called callee method is_method (Some o) arguments len at to lo e le stack vs h t inv
      (jumps code below m this (CallMethodOn callee) at full _ _ i
      (ap (λ n. with_object code below m this at (whole s.is_static this vs h) (top (drop n full)) (λ o. Goes (calling code callee (Some o) (taken n full) (stack_frame m this at (under (drop n full)) (whole s.is_static this vs h) ∷ below)))) n
      ∙ ap (λ l. with_object code below m this at (whole s.is_static this vs h) (top l) (λ o. Goes (calling code callee (Some o) (taken (length arguments) full) (stack_frame m this at (under l) (whole s.is_static this vs h) ∷ below)))) (left_is arguments (Holds (values.Ref o) ∷ stack))
      ∙ ap (λ l. Goes (calling code callee (Some o) l (stack_frame m this at stack (whole s.is_static this vs h) ∷ below))) (taken_is arguments (Holds (values.Ref o) ∷ stack))) t)

  -- the same, where the receiver may be null
  called_on_value : (callee : MethodId) (method : Method) → method_at s.program callee ≡ Some method → (receiver : Value) (arguments : List Value) → length arguments ≡ length method.formals → (at to lo : ℕ) → at + 1 ≡ to → lo ≤ at → (stack : List Content) (vs : Variables) (h : Hidden) (t : Tape) → I vs h → slice_get is at ≡ Some (CallMethodOn callee) → Follows I (Returned method.result) lo to (from code (standing at (pushed arguments (Holds receiver ∷ stack)) vs h)) t (λ result vs h. from code (standing to (with_result result stack) vs h)) throwing (on_object receiver (λ o. calls callee (Some o) arguments) vs t)
  called_on_value callee method is_method receiver arguments len at to lo e le stack vs h t inv i =
      let n : arity_of code callee ≡ length arguments = arity callee method is_method ∙ sym len in
      let full = pushed arguments (Holds receiver ∷ stack) in
      by_object receiver (ap (λ n. with_object code below m this at (whole s.is_static this vs h) (top (drop n full)) (λ o. Goes (calling code callee (Some o) (taken n full) (stack_frame m this at (under (drop n full)) (whole s.is_static this vs h) ∷ below)))) n
      ∙ ap (λ l. with_object code below m this at (whole s.is_static this vs h) (top l) (λ o. Goes (calling code callee (Some o) (taken (length arguments) full) (stack_frame m this at (under l) (whole s.is_static this vs h) ∷ below)))) (left_is arguments (Holds receiver ∷ stack)))
      refl
    where
      by_object : (v : Value) → act code (Some (CallMethodOn callee)) below m this at (pushed arguments (Holds receiver ∷ stack)) (whole s.is_static this vs h) ≡ with_object code below m this at (whole s.is_static this vs h) v (λ o. Goes (calling code callee (Some o) (taken (length arguments) (pushed arguments (Holds receiver ∷ stack))) (stack_frame m this at stack (whole s.is_static this vs h) ∷ below))) → receiver ≡ v → Follows I (Returned method.result) lo to (from code (standing at (pushed arguments (Holds receiver ∷ stack)) vs h)) t (λ result vs h. from code (standing to (with_result result stack) vs h)) throwing (on_object v (λ o. calls callee (Some o) arguments) vs t)
      by_object (values.Ref o) x same =
          subst (λ v. Follows I (Returned method.result) lo to (from code (standing at (pushed arguments (Holds v ∷ stack)) vs h)) t (λ result vs h. from code (standing to (with_result result stack) vs h)) throwing (calls callee (Some o) arguments vs t)) (sym same)
          (called_on callee method is_method o arguments len at to lo e le stack vs h t inv i)
      by_object values.Null x same = falls_to faults.NullPointerException vs h t at inv le (omega arith) (jumps code below m this (CallMethodOn callee) at (pushed arguments (Holds receiver ∷ stack)) _ _ i x t)
      by_object (values.Int n) x same = falls_to faults.NullPointerException vs h t at inv le (omega arith) (jumps code below m this (CallMethodOn callee) at (pushed arguments (Holds receiver ∷ stack)) _ _ i x t)
      by_object (values.Long n) x same = falls_to faults.NullPointerException vs h t at inv le (omega arith) (jumps code below m this (CallMethodOn callee) at (pushed arguments (Holds receiver ∷ stack)) _ _ i x t)
      by_object (values.Bool b) x same = falls_to faults.NullPointerException vs h t at inv le (omega arith) (jumps code below m this (CallMethodOn callee) at (pushed arguments (Holds receiver ∷ stack)) _ _ i x t)

  called_static : (callee : MethodId) (method : Method) → method_at s.program callee ≡ Some method → (arguments : List Value) → length arguments ≡ length method.formals → (at to lo : ℕ) → at + 1 ≡ to → lo ≤ at → (stack : List Content) (vs : Variables) (h : Hidden) (t : Tape) → I vs h → slice_get is at ≡ Some (CallStaticMethod callee) → Follows I (Returned method.result) lo to (from code (standing at (pushed arguments stack) vs h)) t (λ result vs h. from code (standing to (with_result result stack) vs h)) throwing (calls callee None arguments vs t)
  called_static callee method is_method arguments len at to lo e le stack vs h t inv i =
      let n : arity_of code callee ≡ length arguments = arity callee method is_method ∙ sym len in
      let full = pushed arguments stack in
      called callee method is_method None arguments len at to lo e le stack vs h t inv
      (jumps code below m this (CallStaticMethod callee) at full _ _ i
      (ap (λ n. Goes (calling code callee None (taken n full) (stack_frame m this at (drop n full) (whole s.is_static this vs h) ∷ below))) n
      ∙ ap (λ l. Goes (calling code callee None (taken (length arguments) full) (stack_frame m this at l (whole s.is_static this vs h) ∷ below))) (left_is arguments stack)
      ∙ ap (λ l. Goes (calling code callee None l (stack_frame m this at stack (whole s.is_static this vs h) ∷ below))) (taken_is arguments stack)) t)

  -- what the code of arguments does
  abbrev ArgumentsRun : Exprs → Type 0
  ArgumentsRun es =
      (ks : List SlotKind) → ExprsHave s es ks → (at to : ℕ) → at + exprs_size st.program es ≡ to → (stack : List Content) (vs : Variables) (h : Hidden) (t : Tape) → I vs h → HasAt is at (exprs_code st es at) →
      Follows I (λ arguments. length arguments ≡ length ks) at to (from code (standing at stack vs h)) t (λ arguments vs h. from code (standing to (pushed arguments stack) vs h)) throwing (eval_all context es vs t)

  -- a class without a constructor
  made_plainly : (es : Exprs) → ExprsHave s es [] → (o : ObjId) (at to lo : ℕ) → at ≡ to → (stack : List Content) (vs : Variables) (h : Hidden) (t : Tape) → I vs h → Follows I Any lo to (from code (standing at (Holds (values.Ref o) ∷ stack) vs h)) t (with_value to stack) throwing (then_do (eval_all context es vs t) (λ arguments vs t. then_do (no_result vs t) (λ result. Got (values.Ref o))))
  made_plainly no_more has o at to lo e stack vs h t inv = arrives (values.Ref o) vs h t inv tt (moved at to _ vs h t e)
  made_plainly (and_then first rest) has o at to lo e stack vs h t inv = absurd has

  constructed : (c : Option MethodId) (es : Exprs) → ArgumentsRun es → ConstructorHas s.program c (λ ks. ExprsHave s es ks) → (o : ObjId) (at to lo : ℕ) → at + constructor_size c (exprs_size st.program es) ≡ to → lo ≤ at → (stack : List Content) (vs : Variables) (h : Hidden) (t : Tape) → I vs h → HasAt is at (constructor_code c (exprs_code st es (at + 1))) → Follows I Any lo to (from code (standing at (Holds (values.Ref o) ∷ stack) vs h)) t (with_value to stack) throwing (then_do (eval_all context es vs t) (λ arguments vs t. then_do (option_map_or (λ constructor. calls constructor (Some o) arguments) c (Got None) vs t) (λ result. Got (values.Ref o))))
  constructed None es es_run has o at to lo e le stack vs h t inv code_at = made_plainly es has o at to lo (omega arith) stack vs h t inv
  constructed (Some callee) es es_run has o at to lo e le stack vs h t inv code_at =
      let method = has.0 in
      let n = exprs_size st.program es in
      let h2 = has_back is (at + 1) (exprs_code st es (at + 1)) _ n (exprs_len st es (at + 1)) code_at.1 in
      follows_on _ (one code below m this Dup at (at + 1) (Holds (values.Ref o) ∷ stack) (Holds (values.Ref o) ∷ (Holds (values.Ref o) ∷ stack)) _ _ code_at.0 refl refl t)
      (follows_then (eval_all context es vs t) _ (omega arith) (omega arith)
      (es_run method.formals has.4 (at + 1) (at + 1 + n) refl (Holds (values.Ref o) ∷ (Holds (values.Ref o) ∷ stack)) vs h t inv (has_front is (at + 1) (exprs_code st es (at + 1)) _ code_at.1))
      (λ arguments vs1 h1 t1 i1 len. follows_then (calls callee (Some o) arguments vs1 t1) _ (omega arith) (omega arith)
      (called_on callee method has.1 o arguments len (at + 1 + n) to lo (omega arith) (omega arith) (Holds (values.Ref o) ∷ stack) vs1 h1 t1 i1 h2.0)
      (λ result vs2 h2 t2 i2 fits. arrives (values.Ref o) vs2 h2 t2 i2 tt (nothing result (subst (λ r. Returned r result) has.3 fits) vs2 h2 t2))))
    where
      nothing : (result : Option Value) → Returned None result → (vs : Variables) (h : Hidden) (t : Tape) → Leads (from code (standing to (with_result result (Holds (values.Ref o) ∷ stack)) vs h)) t (from code (standing to (Holds (values.Ref o) ∷ stack) vs h)) t
      nothing None fits vs h t = stay _ t
      nothing (Some v) fits vs h t = absurd fits

  -- the value of a call that has one
  value_used : (k : SlotKind) (to lo : ℕ) (stack : List Content) (vs : Variables) (h : Hidden) (t : Tape) → I vs h → (result : Option Value) → Returned (Some k) result → Follows I Any lo to (from code (standing to (with_result result stack) vs h)) t (with_value to stack) throwing (Got (used result) vs t)
  value_used k to lo stack vs h t inv (Some v) fits = arrives v vs h t inv tt (stay _ t)
  value_used k to lo stack vs h t inv None fits = absurd fits

  -- a value that was written
  value_written : (to lo : ℕ) (v w : Value) (stack : List Content) (vs : Variables) (h : Hidden) (t : Tape) → I vs h → v ≡ w → Follows I Any lo to (from code (standing to (Holds v ∷ stack) vs h)) t (with_value to stack) throwing (Got w vs t)
  value_written to lo v w stack vs h t inv same = arrives w vs h t inv tt (subst (λ x. Leads (from code (standing to (Holds v ∷ stack) vs h)) t (from code (standing to (Holds x ∷ stack) vs h)) t) same (stay _ t))

  -- keeps a copy of the value, and writes it
  keeps_and_writes : {a : Access} {spot : Spot} (k : SlotKind) → IsHeld s.kinds k a spot → (at to lo : ℕ) → at + 1 + 1 ≡ to → lo ≤ at → (v : Value) (stack : List Content) (vs : Variables) (h : Hidden) (t : Tape) → I vs h → HasAt is at (keep_one a ∷ (write_one st (a) ∷ [])) → Follows I Any lo to (from code (standing at (Holds v ∷ with_operands spot stack) vs h)) t (with_value to stack) throwing (write_spot spot v vs t)
  keeps_and_writes {spot = spot} k held at to lo e le v stack vs h t inv code_at =
      follows_on _ (kept k held at (at + 1) refl v stack vs h t code_at.0)
      (ends (write_spot spot v vs t) (omega arith) (omega arith)
      (λ w vs1 h1 t1 i1 same. value_written to lo v w stack vs1 h1 t1 i1 same)
      (writes k held (at + 1) to lo e (omega arith) v (Holds v ∷ stack) vs h t inv code_at.1.0))

  -- what comes after each kind of New
  abbrev after_object : ClassId → Exprs → Reply → Going Value
  after_object class es reply vs t =
      then_do (eval_all context es vs t) (λ arguments vs t. then_do (construct context class (object_made reply) arguments vs t) (λ result. Got (values.Ref (object_made reply))))

  abbrev after_plain : Reply → Going Value
  after_plain reply = Got (values.Ref (object_made reply))

  abbrev after_thread : Expr → Reply → Going Value
  after_thread e reply vs t =
      then_do (eval context e vs t) (λ runnable vs t. then_do (put (cell (object_made reply) 0) runnable vs t) (λ value. Got (values.Ref (object_made reply))))

  mutual
    pub expr_runs : (e : Expr) (k : SlotKind) → HasKind s e k → (at to : ℕ) → at + expr_size st.program e ≡ to → (stack : List Content) (vs : Variables) (h : Hidden) (t : Tape) → I vs h → HasAt is at (expr_code st e at) → Follows I Any at to (from code (standing at stack vs h)) t (with_value to stack) throwing (eval context e vs t)
    expr_runs (Number w n) k has at to e stack vs h t inv code_at = arrives _ vs h t inv tt (one code below m this (Push (number w n)) at to stack _ _ _ code_at.0 refl e t)
    expr_runs (Truth b) k has at to e stack vs h t inv code_at = arrives _ vs h t inv tt (one code below m this (Push (values.Bool b)) at to stack _ _ _ code_at.0 refl e t)
    expr_runs Null k has at to e stack vs h t inv code_at = arrives _ vs h t inv tt (one code below m this (Push values.Null) at to stack _ _ _ code_at.0 refl e t)
    expr_runs This k has at to e stack vs h t inv code_at = arrives _ vs h t inv tt (one code below m this (this_one s.is_static) at to stack _ _ _ code_at.0 (this_act s.is_static has.0 at stack vs h) e t)
    expr_runs (ClassObject class) k has at to e stack vs h t inv code_at = arrives _ vs h t inv tt (one code below m this (Push (values.Ref (class_object class))) at to stack _ _ _ code_at.0 refl e t)
    expr_runs (Read v) k has at to e stack vs h t inv code_at =
        let n = spot_size st.program v in
        let h2 = has_back is at (spot_code st v at) _ n (spot_len st v at) code_at in
        follows_then (locate context v vs t) _ (omega arith) (omega arith)
        (located v k has at (at + n) refl stack vs h t inv (has_front is at (spot_code st v at) _ code_at))
        (λ spot vs1 h1 t1 i1 held. reads k held (at + n) to at (omega arith) (omega arith) stack vs1 h1 t1 i1 h2.0)
    expr_runs (LengthOf e) k has at to len stack vs h t inv code_at =
        let n = expr_size st.program e in
        let h2 = has_back is at (expr_code st e at) _ n (expr_len st e at) code_at in
        follows_then (eval context e vs t) _ (omega arith) (omega arith)
        (expr_runs e Reference has.0 at (at + n) refl stack vs h t inv (has_front is at (expr_code st e at) _ code_at))
        (λ array vs1 h1 t1 i1 u. needs_object ArrayLength (at + n) (Holds array ∷ stack) vs1 h1 array _ _ t1 h2.0 refl i1 (omega arith) (omega arith)
        (λ o e1. acts code below m this ArrayLength (at + n) (Holds array ∷ stack) _ _ _ vs1 t1 read_by h2.0 e1 (λ r t2. replied (at + n) to at stack vs1 h1 t2 (omega arith) (omega arith) i1 r)))
    expr_runs (Convert w e) k has at to len stack vs h t inv code_at =
        let n = expr_size st.program e in
        let h2 = has_back is at (expr_code st e at) _ n (expr_len st e at) code_at in
        follows_then (eval context e vs t) _ (omega arith) (omega arith)
        (expr_runs e _ has.0 at (at + n) refl stack vs h t inv (has_front is at (expr_code st e at) _ code_at))
        (λ x vs1 h1 t1 i1 u. arrives _ vs1 h1 t1 i1 tt (one code below m this (ConvertTo w) (at + n) to (Holds x ∷ stack) _ _ _ h2.0 refl (omega arith) t1))
    expr_runs (Unary operator e) k has at to len stack vs h t inv code_at =
        let n = expr_size st.program e in
        let h2 = has_back is at (expr_code st e at) _ n (expr_len st e at) code_at in
        follows_then (eval context e vs t) _ (omega arith) (omega arith)
        (expr_runs e _ has.0 at (at + n) refl stack vs h t inv (has_front is at (expr_code st e at) _ code_at))
        (λ x vs1 h1 t1 i1 u. arrives _ vs1 h1 t1 i1 tt (one code below m this (OneOperand operator) (at + n) to (Holds x ∷ stack) _ _ _ h2.0 refl (omega arith) t1))
    expr_runs (Binary operator a b) k has at to e stack vs h t inv code_at =
        let na = expr_size st.program a in let nb = expr_size st.program b in
        let h2 = has_back is at (expr_code st a at) _ na (expr_len st a at) code_at in
        let h3 = has_back is (at + na) (expr_code st b (at + na)) _ nb (expr_len st b (at + na)) h2 in
        follows_then (eval context a vs t) _ (omega arith) (omega arith)
        (expr_runs a _ has.0 at (at + na) refl stack vs h t inv (has_front is at (expr_code st a at) _ code_at))
        (λ x vs1 h1 t1 i1 u. follows_then (eval context b vs1 t1) _ (omega arith) (omega arith)
        (expr_runs b _ has.1 (at + na) (at + na + nb) refl (Holds x ∷ stack) vs1 h1 t1 i1 (has_front is (at + na) (expr_code st b (at + na)) _ h2))
        (λ y vs2 h2 t2 i2 u. operates operator (at + na + nb) to at x y stack vs2 h2 t2 (omega arith) (omega arith) i2 h3.0))
    expr_runs (And a b) k has at to e stack vs h t inv code_at =
        let na = expr_size st.program a in let nb = expr_size st.program b in
        chosen at na nb 1 to (eval context a) (eval context b) (Got (values.Bool false)) (expr_code st a at) (expr_code st b (at + na + 1)) _ (expr_len st a at) (omega arith) (expr_len st b (at + na + 1)) stack vs h t code_at
        (expr_runs a _ has.0 at (at + na) refl stack vs h t inv (has_front is at (expr_code st a at) _ code_at))
        (λ left_at vs h t inv. expr_runs b _ has.1 (at + na + 1) (at + na + 1 + nb) refl stack vs h t inv left_at)
        (λ right_at vs h t inv. arrives _ vs h t inv tt (one code below m this (Push (values.Bool false)) (at + na + 1 + nb + 1) to stack _ _ _ right_at.0 refl (omega arith) t))
    expr_runs (Or a b) k has at to e stack vs h t inv code_at =
        let na = expr_size st.program a in let nb = expr_size st.program b in
        chosen at na 1 nb to (eval context a) (Got (values.Bool true)) (eval context b) (expr_code st a at) (Push (values.Bool true) ∷ []) (expr_code st b (at + na + 1 + 1 + 1)) (expr_len st a at) (omega arith) refl stack vs h t code_at
        (expr_runs a _ has.0 at (at + na) refl stack vs h t inv (has_front is at (expr_code st a at) _ code_at))
        (λ left_at vs h t inv. arrives _ vs h t inv tt (one code below m this (Push (values.Bool true)) (at + na + 1) (at + na + 1 + 1) stack _ _ _ left_at.0 refl refl t))
        (λ right_at vs h t inv. expr_runs b _ has.1 (at + na + 1 + 1 + 1) to (omega arith) stack vs h t inv right_at)
    expr_runs (Choice c a b) k has at to e stack vs h t inv code_at =
        let nc = expr_size st.program c in let na = expr_size st.program a in let nb = expr_size st.program b in
        chosen at nc na nb to (eval context c) (eval context a) (eval context b) (expr_code st c at) (expr_code st a (at + nc + 1)) (expr_code st b (at + nc + 1 + na + 1)) (expr_len st c at) (omega arith) (expr_len st a (at + nc + 1)) stack vs h t code_at
        (expr_runs c _ has.0 at (at + nc) refl stack vs h t inv (has_front is at (expr_code st c at) _ code_at))
        (λ left_at vs h t inv. expr_runs a k has.1 (at + nc + 1) (at + nc + 1 + na) refl stack vs h t inv left_at)
        (λ right_at vs h t inv. expr_runs b k has.2 (at + nc + 1 + na + 1) to (omega arith) stack vs h t inv right_at)
    expr_runs (Assign v e) k has at to len stack vs h t inv code_at =
        let n = spot_size st.program v in let ne = expr_size st.program e in
        let h2 = has_back is at (spot_code st v at) _ n (spot_len st v at) code_at in
        let h3 = has_back is (at + n) (expr_code st e (at + n)) _ ne (expr_len st e (at + n)) h2 in
        follows_then (locate context v vs t) _ (omega arith) (omega arith)
        (located v k has.0 at (at + n) refl stack vs h t inv (has_front is at (spot_code st v at) _ code_at))
        (λ spot vs1 h1 t1 i1 held. follows_then (eval context e vs1 t1) _ (omega arith) (omega arith)
        (expr_runs e k has.1 (at + n) (at + n + ne) refl (with_operands spot stack) vs1 h1 t1 i1 (has_front is (at + n) (expr_code st e (at + n)) _ h2))
        (λ x vs2 h2 t2 i2 u. keeps_and_writes k held (at + n + ne) to at (omega arith) (omega arith) x stack vs2 h2 t2 i2 h3))
    expr_runs (Compound operator narrows v e) k has at to len stack vs h t inv code_at =
        let n = spot_size st.program v in let nc = copies_size (access_of st.program v) in let nw = conversion_size narrows in let ne = expr_size st.program e in
        let at2 = at + n + nc + 1 in
        let at3 = at2 + nw in
        let at4 = at3 + ne + 1 in
        let c2 = has_back is at (spot_code st v at) _ n (spot_len st v at) code_at in
        let c3 = has_back is (at + n) (copies (access_of st.program v)) _ nc (copies_len (access_of st.program v)) c2 in
        let c4 = has_back is at2 (conversion narrows width.Long) _ nw (conversion_len narrows width.Long) c3.1 in
        let c5 = has_back is at3 (expr_code st e at3) _ ne (expr_len st e at3) c4 in
        let c6 = has_back is at4 (conversion narrows width.Int) _ nw (conversion_len narrows width.Int) c5.1 in
        follows_then (locate context v vs t) _ (omega arith) (omega arith)
        (located v k has.0 at (at + n) refl stack vs h t inv (has_front is at (spot_code st v at) _ code_at))
        (λ spot vs1 h1 t1 i1 held. follows_on _ (copied k held (at + n) (at + n + nc) refl stack vs1 h1 t1 (has_front is (at + n) (copies (access_of st.program v)) _ c2))
        (follows_then (read_spot spot vs1 t1) _ (omega arith) (omega arith)
        (reads k held (at + n + nc) at2 at refl (omega arith) (with_operands spot stack) vs1 h1 t1 i1 c3.0)
        (λ old vs2 h2 t2 i2 u. follows_on _ (promotes narrows at2 at3 refl old (with_operands spot stack) vs2 h2 t2 (has_front is at2 (conversion narrows width.Long) _ c3.1))
        (follows_then (eval context e vs2 t2) _ (omega arith) (omega arith)
        (expr_runs e _ has.1 at3 (at3 + ne) refl (Holds (promoted narrows old) ∷ with_operands spot stack) vs2 h2 t2 i2 (has_front is at3 (expr_code st e at3) _ c4))
        (λ x vs3 h3 t3 i3 u. follows_then (or_zero_divisor (binary_value operator (promoted narrows old) x) vs3 t3) _ (omega arith) (omega arith)
        (operates operator (at3 + ne) at4 at (promoted narrows old) x (with_operands spot stack) vs3 h3 t3 refl (omega arith) i3 c5.0)
        (λ new vs4 h4 t4 i4 u. follows_on _ (narrows_to narrows at4 (at4 + nw) refl new (with_operands spot stack) vs4 h4 t4 (has_front is at4 (conversion narrows width.Int) _ c5.1))
        (keeps_and_writes k held (at4 + nw) to at (omega arith) (omega arith) (narrowed narrows new) stack vs4 h4 t4 i4 c6)))))))
    expr_runs (PrefixIncrement w v by) k has at to len stack vs h t inv code_at =
        let n = spot_size st.program v in let nc = copies_size (access_of st.program v) in
        let at2 = at + n + nc + 1 in
        let h2 = has_back is at (spot_code st v at) _ n (spot_len st v at) code_at in
        let h3 = has_back is (at + n) (copies (access_of st.program v)) _ nc (copies_len (access_of st.program v)) h2 in
        follows_then (locate context v vs t) _ (omega arith) (omega arith)
        (located v k has.0 at (at + n) refl stack vs h t inv (has_front is at (spot_code st v at) _ code_at))
        (λ spot vs1 h1 t1 i1 held. follows_on _ (copied k held (at + n) (at + n + nc) refl stack vs1 h1 t1 (has_front is (at + n) (copies (access_of st.program v)) _ h2))
        (follows_then (read_spot spot vs1 t1) _ (omega arith) (omega arith)
        (reads k held (at + n + nc) at2 at refl (omega arith) (with_operands spot stack) vs1 h1 t1 i1 h3.0)
        (λ old vs2 h2 t2 i2 u. follows_on _ (one code below m this (Push (number w by)) at2 (at2 + 1) (Holds old ∷ with_operands spot stack) _ _ _ h3.1.0 refl refl t2)
        (follows_then (Got (incremented w old by) vs2 t2) (λ new. write_spot spot new) (omega arith) (omega arith)
        (increments w by (at2 + 1) (at2 + 1 + 1) at old (with_operands spot stack) vs2 h2 t2 refl (omega arith) i2 h3.1.1.0)
        (λ new vs4 h4 t4 i4 u. keeps_and_writes k held (at2 + 1 + 1) to at (omega arith) (omega arith) new stack vs4 h4 t4 i4 h3.1.1.1)))))
    expr_runs (PostfixIncrement w v by) k has at to len stack vs h t inv code_at =
        let n = spot_size st.program v in let nc = copies_size (access_of st.program v) in
        let at2 = at + n + nc + 1 in
        let h2 = has_back is at (spot_code st v at) _ n (spot_len st v at) code_at in
        let h3 = has_back is (at + n) (copies (access_of st.program v)) _ nc (copies_len (access_of st.program v)) h2 in
        follows_then (locate context v vs t) _ (omega arith) (omega arith)
        (located v k has.0 at (at + n) refl stack vs h t inv (has_front is at (spot_code st v at) _ code_at))
        (λ spot vs1 h1 t1 i1 held. follows_on _ (copied k held (at + n) (at + n + nc) refl stack vs1 h1 t1 (has_front is (at + n) (copies (access_of st.program v)) _ h2))
        (follows_then (read_spot spot vs1 t1) _ (omega arith) (omega arith)
        (reads k held (at + n + nc) at2 at refl (omega arith) (with_operands spot stack) vs1 h1 t1 i1 h3.0)
        (λ old vs2 h2 t2 i2 u. follows_on _ (leads_on (kept k held at2 (at2 + 1) refl old stack vs2 h2 t2 h3.1.0)
        (one code below m this (Push (number w by)) (at2 + 1) (at2 + 1 + 1) (Holds old ∷ with_operands spot (Holds old ∷ stack)) _ _ _ h3.1.1.0 refl refl t2))
        (follows_then (Got (incremented w old by) vs2 t2) (λ new vs t. then_do (write_spot spot new vs t) (λ written. Got old)) (omega arith) (omega arith)
        (increments w by (at2 + 1 + 1) (at2 + 1 + 1 + 1) at old (with_operands spot (Holds old ∷ stack)) vs2 h2 t2 refl (omega arith) i2 h3.1.1.1.0)
        (λ new vs4 h4 t4 i4 u. follows_then (write_spot spot new vs4 t4) _ (omega arith) (omega arith)
        (writes k held (at2 + 1 + 1 + 1) to at (omega arith) (omega arith) new (Holds old ∷ stack) vs4 h4 t4 i4 h3.1.1.1.1.0)
        (λ w vs5 h5 t5 i5 u. arrives old vs5 h5 t5 i5 tt (stay _ t5)))))))
    expr_runs (ResultOf c) k has at to e stack vs h t inv code_at =
        follows_then (invoke context c vs t) _ (omega arith) (omega arith)
        (invoke_runs c (Some k) has at to e stack vs h t inv code_at)
        (λ result vs1 h1 t1 i1 fits. value_used k to at stack vs1 h1 t1 i1 result fits)
    expr_runs (NewObject class es) k has at to e stack vs h t inv code_at =
        acts code below m this (Make (made.Object class)) at stack _ _ _ vs t (after_object class es) code_at.0 refl
        (λ r t1. constructed (constructor_of s.program class) es (λ ks. exprs_run es ks) has.0 (object_made r) (at + 1) to at (omega arith) (omega arith) stack vs h t1 inv code_at.1)
    expr_runs NewPlain k has at to e stack vs h t inv code_at =
        acts code below m this (Make made.Plain) at stack _ _ _ vs t after_plain code_at.0 refl (λ r t1. arrives _ vs h t1 inv tt (moved (at + 1) to _ vs h t1 e))
    expr_runs (NewThread e) k has at to len stack vs h t inv code_at =
        let n = expr_size st.program e in
        let h2 = has_back is (at + 1 + 1) (expr_code st e (at + 1 + 1)) _ n (expr_len st e (at + 1 + 1)) code_at.1.1 in
        acts code below m this (Make made.Thread) at stack _ _ _ vs t (after_thread e) code_at.0 refl
        (λ r t1. let o = object_made r in
        follows_on _ (one code below m this Dup (at + 1) (at + 1 + 1) (Holds (values.Ref o) ∷ stack) (Holds (values.Ref o) ∷ (Holds (values.Ref o) ∷ stack)) _ _ code_at.1.0 refl refl t1)
        (follows_then (eval context e vs t1) _ (omega arith) (omega arith)
        (expr_runs e Reference has.0 (at + 1 + 1) (at + 1 + 1 + n) refl (Holds (values.Ref o) ∷ (Holds (values.Ref o) ∷ stack)) vs h t1 inv (has_front is (at + 1 + 1) (expr_code st e (at + 1 + 1)) _ code_at.1.1))
        (λ x vs2 h2' t2 i2 u. follows_then (put (cell o 0) x vs2 t2) _ (omega arith) (omega arith)
        (writes Reference (AtField (values.Ref o) 0 Reference) (at + 1 + 1 + n) to at (omega arith) (omega arith) x (Holds (values.Ref o) ∷ stack) vs2 h2' t2 i2 h2.0)
        (λ w vs3 h3 t3 i3 u. arrives (values.Ref o) vs3 h3 t3 i3 tt (stay _ t3)))))
    expr_runs (NewArray element e) k has at to len stack vs h t inv code_at =
        let n = expr_size st.program e in
        let h2 = has_back is at (expr_code st e at) _ n (expr_len st e at) code_at in
        follows_then (eval context e vs t) _ (omega arith) (omega arith)
        (expr_runs e Int has.0 at (at + n) refl stack vs h t inv (has_front is at (expr_code st e at) _ code_at))
        (λ size vs1 h1 t1 i1 u. array_made element (number_of size) (at + n) to at stack (Holds size ∷ stack) vs1 h1 t1 (omega arith) (omega arith) i1 h2.0 refl)

    -- the operands of a variable
    located : (v : Variable) (k : SlotKind) → VariableHas s v k → (at to : ℕ) → at + spot_size st.program v ≡ to → (stack : List Content) (vs : Variables) (h : Hidden) (t : Tape) → I vs h → HasAt is at (spot_code st v at) → Follows I (IsHeld s.kinds k (access_of st.program v)) at to (from code (standing at stack vs h)) t (λ spot vs h. from code (standing to (with_operands spot stack) vs h)) throwing (locate context v vs t)
    located (Local number) k has at to e stack vs h t inv code_at =
        arrives (LocalSpot number) vs h t inv (AtLocal number has) (moved at to stack vs h t (omega arith))
    located (StaticField f) k has at to e stack vs h t inv code_at =
        let place = cell (home_of s.program f) (slot_of s.program f) in
        arrives (StaticSpot place) vs h t inv (AtStatic place (kind_of_field s.program f)) (moved at to stack vs h t (omega arith))
    located (FieldOf e f) k has at to len stack vs h t inv code_at =
        follows_then (eval context e vs t) _ (omega arith) (omega arith)
        (expr_runs e Reference has.0 at to len stack vs h t inv code_at)
        (λ object vs1 h1 t1 i1 u. arrives (FieldSpot object (slot_of s.program f)) vs1 h1 t1 i1 (AtField object (slot_of s.program f) (kind_of_field s.program f)) (stay _ t1))
    located (ElementOf element a i) k has at to len stack vs h t inv code_at =
        let na = expr_size st.program a in
        let h2 = has_back is at (expr_code st a at) _ na (expr_len st a at) code_at in
        follows_then (eval context a vs t) _ (omega arith) (omega arith)
        (expr_runs a Reference has.0 at (at + na) refl stack vs h t inv (has_front is at (expr_code st a at) _ code_at))
        (λ array vs1 h1 t1 i1 u. follows_then (eval context i vs1 t1) _ (omega arith) (omega arith)
        (expr_runs i Int has.1 (at + na) to (omega arith) (Holds array ∷ stack) vs1 h1 t1 i1 h2)
        (λ index vs2 h2 t2 i2 u. arrives (ElementSpot array index) vs2 h2 t2 i2 (AtElement array index element) (stay _ t2)))

    pub invoke_runs : (c : Call) (r : Option SlotKind) → CallHas s c r → (at to : ℕ) → at + call_size st.program c ≡ to → (stack : List Content) (vs : Variables) (h : Hidden) (t : Tape) → I vs h → HasAt is at (call_code st c at) → Follows I (Returned r) at to (from code (standing at stack vs h)) t (λ result vs h. from code (standing to (with_result result stack) vs h)) throwing (invoke context c vs t)
    invoke_runs (CallStatic callee es) r has at to e stack vs h t inv code_at =
        let n = exprs_size st.program es in
        let h2 = has_back is at (exprs_code st es at) _ n (exprs_len st es at) code_at in
        follows_then (eval_all context es vs t) _ (omega arith) (omega arith)
        (exprs_run es has.0.formals has.4 at (at + n) refl stack vs h t inv (has_front is at (exprs_code st es at) _ code_at))
        (λ arguments vs1 h1 t1 i1 len. subst (λ r. Follows I (Returned r) at to (from code (standing (at + n) (pushed arguments stack) vs1 h1)) t1 (λ result vs h. from code (standing to (with_result result stack) vs h)) throwing (calls callee None arguments vs1 t1)) has.3
        (called_static callee has.0 has.1 arguments len (at + n) to at (omega arith) (omega arith) stack vs1 h1 t1 i1 h2.0))
    invoke_runs (CallOn e callee es) r has at to len stack vs h t inv code_at =
        let ne = expr_size st.program e in let n = exprs_size st.program es in
        let h2 = has_back is at (expr_code st e at) _ ne (expr_len st e at) code_at in
        let h3 = has_back is (at + ne) (exprs_code st es (at + ne)) _ n (exprs_len st es (at + ne)) h2 in
        follows_then (eval context e vs t) _ (omega arith) (omega arith)
        (expr_runs e Reference has.5 at (at + ne) refl stack vs h t inv (has_front is at (expr_code st e at) _ code_at))
        (λ receiver vs1 h1 t1 i1 u. follows_then (eval_all context es vs1 t1) _ (omega arith) (omega arith)
        (exprs_run es has.0.formals has.4 (at + ne) (at + ne + n) refl (Holds receiver ∷ stack) vs1 h1 t1 i1 (has_front is (at + ne) (exprs_code st es (at + ne)) _ h2))
        (λ arguments vs2 h2 t2 i2 count. subst (λ r. Follows I (Returned r) at to (from code (standing (at + ne + n) (pushed arguments (Holds receiver ∷ stack)) vs2 h2)) t2 (λ result vs h. from code (standing to (with_result result stack) vs h)) throwing (on_object receiver (λ o. calls callee (Some o) arguments) vs2 t2)) has.3
        (called_on_value callee has.0 has.1 receiver arguments count (at + ne + n) to at (omega arith) (omega arith) stack vs2 h2 t2 i2 h3.0)))

    pub exprs_run : (es : Exprs) → ArgumentsRun es
    exprs_run no_more ks has at to e stack vs h t inv code_at = arrives [] vs h t inv (sym (ap length has)) (moved at to stack vs h t (omega arith))
    exprs_run (and_then first rest) [] has at to e stack vs h t inv code_at = absurd has
    exprs_run (and_then first rest) (k ∷ ks) has at to e stack vs h t inv code_at =
        let n = expr_size st.program first in
        let h2 = has_back is at (expr_code st first at) _ n (expr_len st first at) code_at in
        follows_then (eval context first vs t) _ (omega arith) (omega arith)
        (expr_runs first k has.0 at (at + n) refl stack vs h t inv (has_front is at (expr_code st first at) _ code_at))
        (λ x vs1 h1 t1 i1 u. follows_then (eval_all context rest vs1 t1) _ (omega arith) (omega arith)
        (exprs_run rest ks has.1 (at + n) to (omega arith) (Holds x ∷ stack) vs1 h1 t1 i1 h2)
        (λ xs vs2 h2 t2 i2 len. arrives (x ∷ xs) vs2 h2 t2 i2 (ap (λ n. suc n) len) (stay _ t2)))

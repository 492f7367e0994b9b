-- Checked code never meets a missing operand, nor one of a wrong kind, and never leaves its code.
use Rattle.std.proofs.Common.{◌≤◌, ◌≡◌, ◌≢◌, ℕ, zero, suc, ◌+◌, ◌<◌, Bool, true, false, List, [], ◌∷◌, ◌++◌, map, length, take, drop, reverse, Option, Some, None, refl, sym, ap, ◌∙◌, subst, arith, append_assoc, inl, inr}
use Rattle.std.specs.Prelude.{ℤ, pos, negsuc, slice_get, slice_set, ◌&&◌, nat_le, nat_lt}
use Rattle.std.specs.Option.{option_map, option_map_or}
use Rattle.std.specs.Int.{is_negative}
use Rattle.std.proofs.lemmas.List.{reverse-reverse, length-reverse}
use Rattle.std.proofs.lemmas.Grind.{reverse_onto}
use Rattle.std.proofs.lemmas.Bool.Decides.{nat_tests}
use Rattle.jr_base.specs.Deed.{Deed}
use Rattle.jr_base.specs.Deed as deeds
use Rattle.jr_base.specs.declared.number.MethodId.{MethodId}
use Rattle.jr_base.specs.declared.number.ObjId.{ObjId}
use Rattle.jr_base.specs.declared.action.Body.{Body}
use Rattle.jr_base.specs.declared.action.Reply.{Reply}
use Rattle.jr_base.specs.declared.action.Reply.TheVariants as replies
use Rattle.jr_base.specs.declared.action.Elem.{Elem}
use Rattle.jr_base.specs.declared.value.Value.{Value}
use Rattle.jr_base.specs.declared.value.Value.TheVariants as values
use Rattle.jr_base.specs.declared.finish.Fault.{Fault}
use Rattle.jr_base.specs.declared.finish.Fault.TheVariants as faults
use Rattle.jr_base.specs.declared.kind.SlotKind.{SlotKind}
use Rattle.jr_base.specs.declared.kind.SlotKind.TheVariants.{Int, Long, Bool as Boolean, Ref as Reference, Caught as CaughtKind}
use Rattle.jr_arith.specs.declared.operator.Width.{Width}
use Rattle.jr_arith.specs.declared.operator.Width.TheVariants as width
use Rattle.jr_arith.specs.declared.operator.Unary.{Unary as UnaryOperator}
use Rattle.jr_arith.specs.declared.operator.Unary.TheVariants as unary
use Rattle.jr_arith.specs.declared.operator.Binary.{Binary as BinaryOperator}
use Rattle.jr_arith.specs.declared.operator.Binary.TheVariants as binary
use Rattle.jr_base.specs.declared.kind.ObjectCall.{ObjectCall}
use Rattle.jr_base.specs.declared.kind.ObjectCall.TheVariants.{Wait, Notify, NotifyAll, Start, Join}
use Rattle.jr_arith.specs.Operators.{number_of, number_in, number, truth_of, unary_value, binary_value}
use Rattle.jr_arith.specs.Arithmetic.{wrapped, exact}
use Rattle.jr_base.specs.Faults.{catches}
use Rattle.jr_base.specs.Content.{Content, Holds, Caught, unset}
use Rattle.jr_base.specs.Threads.{value_at, fault_at}
use Rattle.jr_code.specs.Instructions.{Instruction, Push, Load, Store, Pop, Dup, Dup2, DupX1, DupX2, OneOperand, TwoOperands, ConvertTo, Jump, JumpIf, JumpNot, BackTo, GetField, PutField, GetStatic, PutStatic, GetElement, PutElement, ArrayLength, Make, MakeArray, EnterMonitor, ExitMonitor, OnObject, WaitForTime, SleepFor, YieldNow, CallStaticMethod, CallMethodOn, ReturnNothing, ReturnTop, CommitNow, AssertThat, PrintAll, ThrowNew, ThrowLocal, Unknown, RegionKind, CatchAt, ExitLocal, Region, MethodCode, Code}
use Rattle.jr_code.specs.Machine.{method_code_at, instructions_of, regions_of, arity_of, monitor_in, this_local, start_locals, StackFrame, State, Runs, Throws, Makes, Over, Move, Goes, Asks, on, throw_at, top, top_content, under, taken, content_in, value_of_content, values_printed, exit_then, enter_then, calling, handed, handed_fault, returning, choose, with_object, or_throw, after_read, after_write, unless_illegal, wait_on, wait_for_on, make_array, call_on_object, act, holds, exit_local, handles, step, start_state}
use Rattle.jr_arith.specs.Kinds.{kind_of_element, kind_of_width, kind_converted, unary_kind, left_kind, right_kind, result_kind}
use Rattle.jr_code.specs.Checked.{NoneCaught}
use Rattle.jr_code.specs.Checked.{kind_of_value, this_kind, kinds_of_locals, kinds_pushed, Effect, GoesTo, RightKind, RightRegions, MethodRight, CodeRight}
use Rattle.jr_code.specs.Paths.{IsNext, Reaches, Begins, Follows, Catches}
use Rattle.jr_code.specs.Sound.{IsOf, AreOf, ThrowsAt, Waiting, Sound, ValueOf, ElementOf, MayReply, ReplyFits, SoundMove, GoesOn, StartRight}

-- ---- lists of contents

pop : (k : SlotKind) (ks : List SlotKind) (stack : List Content) → AreOf (k ∷ ks) stack → IsOf k (top_content stack) × AreOf ks (under stack)
pop k ks [] h = absurd h
pop k ks (c ∷ stack) h = h

value_top : (k : SlotKind) (stack : List Content) → IsOf k (top_content stack) → k ≢ CaughtKind → kind_of_value (top stack) ≡ k
value_top k [] h n = h
value_top k (Holds v ∷ stack) h n = h
value_top k (Caught f ∷ stack) h n = absurd (n h)

local_of : (ks : List SlotKind) (cs : List Content) (x : ℕ) (k : SlotKind) → AreOf ks cs → slice_get ks x ≡ Some k → IsOf k (content_in (slice_get cs x))
local_of [] [] x k h e = absurd (cc)
local_of [] (c ∷ cs) x k h e = absurd h
local_of (j ∷ ks) [] x k h e = absurd h
local_of (j ∷ ks) (c ∷ cs) zero k h e = let same : j ≡ k = cc in subst (λ k. IsOf k c) same h.0
local_of (j ∷ ks) (c ∷ cs) (suc x) k h e = local_of ks cs x k h.1 e

set_of : (ks : List SlotKind) (cs : List Content) (x : ℕ) (k : SlotKind) (d : Content) → AreOf ks cs → slice_get ks x ≡ Some k → IsOf k d → AreOf ks (slice_set cs x d)
set_of [] [] x k d h e o = absurd (cc)
set_of [] (c ∷ cs) x k d h e o = absurd h
set_of (j ∷ ks) [] x k d h e o = absurd h
set_of (j ∷ ks) (c ∷ cs) zero k d h e o = (let same : k ≡ j = cc in subst (λ k. IsOf k d) same o, h.1)
set_of (j ∷ ks) (c ∷ cs) (suc x) k d h e o = (h.0, set_of ks cs x k d h.1 e o)

both_of : (a b : List SlotKind) (l m : List Content) → AreOf a l → AreOf b m → AreOf (a ++ b) (l ++ m)
both_of [] b [] m x y = y
both_of [] b (c ∷ l) m x y = absurd x
both_of (k ∷ a) b [] m x y = absurd x
both_of (k ∷ a) b (c ∷ l) m x y = (x.0, both_of a b l m x.1 y)

front_of : (a b : List SlotKind) (l : List Content) → AreOf (a ++ b) l → AreOf a (take (length a) l)
front_of [] b l h = tt
front_of (k ∷ a) b [] h = absurd h
front_of (k ∷ a) b (c ∷ l) h = (h.0, front_of a b l h.1)

back_of : (a b : List SlotKind) (l : List Content) → AreOf (a ++ b) l → AreOf b (drop (length a) l)
back_of [] b l h = h
back_of (k ∷ a) b [] h = absurd h
back_of (k ∷ a) b (c ∷ l) h = back_of a b l h.1

reverse_of : (a : List SlotKind) (l : List Content) → AreOf a l → AreOf (reverse a) (reverse l)
reverse_of [] [] h = tt
reverse_of [] (c ∷ l) h = absurd h
reverse_of (k ∷ a) [] h = absurd h
reverse_of (k ∷ a) (c ∷ l) h =
    subst (λ ks. AreOf ks (reverse (c ∷ l))) (sym (reverse_onto a k [])) (subst (λ cs. AreOf (reverse a ++ k ∷ []) cs) (sym (reverse_onto l c []))
    (both_of (reverse a) (k ∷ []) (reverse l) (c ∷ []) (reverse_of a l h.1) (h.0, tt)))

pushed_kinds_are : (js ks : List SlotKind) → kinds_pushed js ks ≡ reverse js ++ ks
pushed_kinds_are [] ks = refl
pushed_kinds_are (j ∷ js) ks = pushed_kinds_are js (j ∷ ks) ∙ sym (ap (λ l. l ++ ks) (reverse_onto js j []) ∙ append_assoc (reverse js) (j ∷ []) ks)

rest_of : (js ks : List SlotKind) (stack : List Content) (n : ℕ) → n ≡ length js → AreOf (kinds_pushed js ks) stack → AreOf ks (drop n stack)
rest_of js ks stack n e h =
    let h2 = subst (λ l. AreOf l stack) (pushed_kinds_are js ks) h in
    subst (λ i. AreOf ks (drop i stack)) (length-reverse js ∙ sym e) (back_of (reverse js) ks stack h2)

values_of : (js : List SlotKind) (l : List Content) → NoneCaught js → AreOf js l → AreOf js (map Holds (map value_of_content l))
values_of [] [] n h = tt
values_of [] (c ∷ l) n h = absurd h
values_of (j ∷ js) [] n h = absurd h
values_of (j ∷ js) (Holds v ∷ l) n h = (h.0, values_of js l n.1 h.1)
values_of (j ∷ js) (Caught f ∷ l) n h = absurd (n.0 h.0)

arguments_of : (js ks : List SlotKind) (stack : List Content) (n : ℕ) → n ≡ length js → NoneCaught js → AreOf (kinds_pushed js ks) stack → AreOf js (map Holds (taken n stack))
arguments_of js ks stack n e none h =
    let h2 = subst (λ l. AreOf l stack) (pushed_kinds_are js ks) h in
    let h3 = subst (λ i. AreOf (reverse js) (take i stack)) (length-reverse js ∙ sym e) (front_of (reverse js) ks stack h2) in
    let h4 = subst (λ a. AreOf a (reverse (take n stack))) (reverse-reverse js) (reverse_of (reverse js) (take n stack) h3) in
    values_of js (reverse (take n stack)) none h4

unset_of : (ks : List SlotKind) → AreOf ks (map unset ks)
unset_of [] = tt
unset_of (Int ∷ ks) = (refl, unset_of ks)
unset_of (Long ∷ ks) = (refl, unset_of ks)
unset_of (Boolean ∷ ks) = (refl, unset_of ks)
unset_of (Reference ∷ ks) = (refl, unset_of ks)
unset_of (CaughtKind ∷ ks) = (refl, unset_of ks)

this_of : (static : Bool) (this : Option ObjId) → AreOf (this_kind static) (this_local static this)
this_of true this = tt
this_of false None = (refl, tt)
this_of false (Some o) = (refl, tt)

-- ---- operators

number_of_kind : (w : Width) (n : ℤ) → kind_of_value (number w n) ≡ kind_of_width w
number_of_kind width.Int n = refl
number_of_kind width.Long n = refl

unary_of : (o : UnaryOperator) (x : Value) → kind_of_value (unary_value o x) ≡ unary_kind o
unary_of (unary.Negate w) x = number_of_kind w _
unary_of (unary.Complement w) x = number_of_kind w _
unary_of unary.Not x = refl

abbrev MaybeOf : SlotKind → Option Value → Type 0
MaybeOf k None = Unit {0}
MaybeOf k (Some v) = kind_of_value v ≡ k

maybe_number : (w : Width) (o : Option ℤ) → MaybeOf (kind_of_width w) (option_map (λ n. number w (wrapped w n)) o)
maybe_number w None = tt
maybe_number w (Some n) = number_of_kind w (wrapped w n)

binary_of : (o : BinaryOperator) (x y : Value) → MaybeOf (result_kind o) (binary_value o x y)
binary_of (binary.Arithmetic o w) x y = maybe_number w (exact o (number_in w x) (number_in w y))
binary_of (binary.Bitwise o w) x y = number_of_kind w _
binary_of (binary.Shift o w) x y = number_of_kind w _
binary_of (binary.Compare o w) x y = refl
binary_of binary.BothTrue x y = refl
binary_of binary.EitherTrue x y = refl
binary_of binary.Differ x y = refl
binary_of binary.Agree x y = refl
binary_of binary.SameReference x y = refl
binary_of binary.OtherReference x y = refl

value_element : (k : SlotKind) (r : Reply) → ValueOf k r → ElementOf k r
value_element k (replies.Value v) h = h
value_element k replies.Range h = tt
value_element k replies.Unit h = h
value_element k (replies.Made o) h = h
value_element k replies.Illegal h = h
value_element k replies.Nobody h = h
value_element k (replies.Woke g) h = h
value_element k (replies.Started g b) h = h

-- ---- calls and their ends

abbrev ResultIs : Option SlotKind → Option Value → Type 0
ResultIs None None = Unit {0}
ResultIs None (Some v) = ⊥
ResultIs (Some k) None = ⊥
ResultIs (Some k) (Some v) = kind_of_value v ≡ k

exit_sound : (code : Code) (o : Option ObjId) (s : State) → Sound code s → Sound code (exit_then o s)
exit_sound code None s h = h
exit_sound code (Some o) s h = h

enter_sound : (code : Code) (o : Option ObjId) (s : State) → Sound code s → Sound code (enter_then o s)
enter_sound code None s h = h
enter_sound code (Some o) s h = h

choose_sound : (code : Code) (b : Bool) (x y : State) → Sound code x → Sound code y → Sound code (choose b x y)
choose_sound code true x y g h = g
choose_sound code false x y g h = h

handed_sound : (code : Code) (r : Option SlotKind) (result : Option Value) (below : List StackFrame) → ResultIs r result → Waiting code r below → Sound code (handed result below)
handed_sound code r result [] fits w = tt
handed_sound code None None (f ∷ below) fits w = (record { c = w.0.c; is_method = w.0.is_method; right = w.0.right; locals = w.0.locals; kinds = w.0.kinds; shape = w.0.goes; path = w.0.onward; stack = w.0.stack }, w.1)
handed_sound code None (Some v) (f ∷ below) fits w = absurd fits
handed_sound code (Some k) None (f ∷ below) fits w = absurd fits
handed_sound code (Some k) (Some v) (f ∷ below) fits w = (record { c = w.0.c; is_method = w.0.is_method; right = w.0.right; locals = w.0.locals; kinds = k ∷ w.0.kinds; shape = w.0.goes; path = w.0.onward; stack = (fits, w.0.stack) }, w.1)

regions_are : (code : Code) (m : MethodId) (c : MethodCode) → method_code_at code m ≡ Some c → regions_of code m ≡ c.regions
regions_are code m c e = ap (λ o. option_map_or (λ (c : MethodCode). c.regions) o []) e

fault_sound : (code : Code) (r : Option SlotKind) (fault : Fault) (below : List StackFrame) → Waiting code r below → Sound code (handed_fault code fault below)
fault_sound code r fault [] w = tt
fault_sound code r fault (f ∷ below) w =
    (record { c = w.0.c; is_method = w.0.is_method; right = w.0.right; locals = w.0.locals; kinds = w.0.here; shape = w.0.shape; path = w.0.path; passed = []; split = sym (regions_are code f.method w.0.c w.0.is_method); regions = subst (λ rs. RightRegions w.0.c w.0.right.shapes rs) (sym (regions_are code f.method w.0.c w.0.is_method)) w.0.right.regions }, w.1)

locals_of : (c : MethodCode) (this : Option ObjId) (arguments : List Value) → AreOf c.formals (map Holds arguments) → AreOf (kinds_of_locals c) (start_locals (Some c) this arguments)
locals_of c this arguments h = both_of (this_kind c.is_static) (c.formals ++ c.locals) (this_local c.is_static this) _ (this_of c.is_static this) (both_of c.formals c.locals (map Holds arguments) (map unset c.locals) h (unset_of c.locals))

called_sound : (code : Code) → CodeRight code → (m : MethodId) (c : MethodCode) → method_code_at code m ≡ Some c → (this : Option ObjId) (arguments : List Value) (below : List StackFrame) → AreOf c.formals (map Holds arguments) → Waiting code c.result below → Sound code (calling code m this arguments below)
called_sound code rights m c is_method this arguments below h w =
    let right = rights.methods m c is_method in
    let now : Sound code (on below m this 0 [] (start_locals (Some c) this arguments)) = (record { c = c; is_method = is_method; right = right; locals = locals_of c this arguments h; kinds = []; shape = right.begins; path = Begins; stack = tt }, w) in
    enter_sound code (monitor_in (method_code_at code m) this) _ (subst (λ o. Sound code (on below m this 0 [] (start_locals o this arguments))) (sym is_method) now)

-- ---- one instruction

module _ (code : Code) (rights : CodeRight code) (below : List StackFrame) (m : MethodId) (this : Option ObjId) (c : MethodCode) (is_method : method_code_at code m ≡ Some c) (right : MethodRight code c) (w : Waiting code c.result below) (at : ℕ) (locals : List Content) (l : AreOf (kinds_of_locals c) locals) (here : List SlotKind) (marked : slice_get right.shapes at ≡ Some (Some here)) (way : Reaches code c at here) where
  abbrev at_place : ℕ → List Content → List Content → State
  at_place to stack locals = on below m this to stack locals

  -- kinds that stand at a place, and that a path brings there
  abbrev Shaped : ℕ → List SlotKind → Type 0
  Shaped to ks = (slice_get right.shapes to ≡ Some (Some ks)) × Reaches code c to ks

  goes_on : (to : ℕ) (ks : List SlotKind) (stack locals' : List Content) → Shaped to ks → AreOf ks stack → AreOf (kinds_of_locals c) locals' → Sound code (at_place to stack locals')
  goes_on to ks stack locals' e h l' = (record { c = c; is_method = is_method; right = right; locals = l'; kinds = ks; shape = e.0; path = e.1; stack = h }, w)

  throws : (fault : Fault) → Sound code (throw_at code fault below m this at locals)
  throws fault = (record { c = c; is_method = is_method; right = right; locals = l; kinds = here; shape = marked; path = way; passed = []; split = sym (regions_are code m c is_method); regions = subst (λ rs. RightRegions c right.shapes rs) (sym (regions_are code m c is_method)) right.regions }, w)

  needs_object : (R : Reply → Type 0) (v : Value) (go : ObjId → Move) → ((o : ObjId) → SoundMove code R (go o)) → SoundMove code R (with_object code below m this at locals v go)
  needs_object R (values.Ref o) go h = h o
  needs_object R values.Null go h = throws faults.NullPointerException
  needs_object R (values.Int n) go h = throws faults.NullPointerException
  needs_object R (values.Long n) go h = throws faults.NullPointerException
  needs_object R (values.Bool b) go h = throws faults.NullPointerException

  or_throws : (k : SlotKind) (ks : List SlotKind) (stack : List Content) → Shaped (at + 1) (k ∷ ks) → AreOf ks stack → (o : Option Value) → MaybeOf k o → Sound code (or_throw code below m this at stack locals o)
  or_throws k ks stack e h (Some v) x = goes_on (at + 1) (k ∷ ks) (Holds v ∷ stack) locals e (x, h) l
  or_throws k ks stack e h None x = throws faults.ArithmeticException

  reads : (k : SlotKind) (ks : List SlotKind) (stack : List Content) → Shaped (at + 1) (k ∷ ks) → AreOf ks stack → (r : Reply) → ElementOf k r → Sound code (after_read code below m this at stack locals r)
  reads k ks stack e h (replies.Value v) x = goes_on (at + 1) (k ∷ ks) (Holds v ∷ stack) locals e (x, h) l
  reads k ks stack e h replies.Range x = throws faults.ArrayIndexOutOfBoundsException
  reads k ks stack e h replies.Unit x = absurd x
  reads k ks stack e h (replies.Made o) x = absurd x
  reads k ks stack e h replies.Illegal x = absurd x
  reads k ks stack e h replies.Nobody x = absurd x
  reads k ks stack e h (replies.Woke g) x = absurd x
  reads k ks stack e h (replies.Started g b) x = absurd x

  writes : (ks : List SlotKind) (stack : List Content) → Shaped (at + 1) ks → AreOf ks stack → (r : Reply) → Sound code (after_write code below m this at stack locals r)
  writes ks stack e h replies.Range = throws faults.ArrayIndexOutOfBoundsException
  writes ks stack e h (replies.Value v) = goes_on (at + 1) ks stack locals e h l
  writes ks stack e h replies.Unit = goes_on (at + 1) ks stack locals e h l
  writes ks stack e h (replies.Made o) = goes_on (at + 1) ks stack locals e h l
  writes ks stack e h replies.Illegal = goes_on (at + 1) ks stack locals e h l
  writes ks stack e h replies.Nobody = goes_on (at + 1) ks stack locals e h l
  writes ks stack e h (replies.Woke g) = goes_on (at + 1) ks stack locals e h l
  writes ks stack e h (replies.Started g b) = goes_on (at + 1) ks stack locals e h l

  legal : (fault : Fault) (after : State) → Sound code after → (r : Reply) → Sound code (unless_illegal code below m this at locals fault r after)
  legal fault after h replies.Illegal = throws fault
  legal fault after h replies.Range = h
  legal fault after h (replies.Value v) = h
  legal fault after h replies.Unit = h
  legal fault after h (replies.Made o) = h
  legal fault after h replies.Nobody = h
  legal fault after h (replies.Woke g) = h
  legal fault after h (replies.Started g b) = h

  waits_on : (R : Reply → Type 0) (deed : Deed) (o : ObjId) (ks : List SlotKind) (stack : List Content) → Shaped (at + 1) ks → AreOf ks stack → SoundMove code R (wait_on code below m this at stack locals deed o)
  waits_on R deed o ks stack e h = λ r x. legal faults.IllegalMonitorStateException (Makes (deeds.Resume o) (at_place (at + 1) stack locals)) (goes_on (at + 1) ks stack locals e h l) r

  waits_for : (R : Reply → Type 0) (time : ℤ) (o : ObjId) (ks : List SlotKind) (stack : List Content) → Shaped (at + 1) ks → AreOf ks stack → SoundMove code R (wait_for_on code below m this at stack locals time o)
  waits_for R (pos zero) o ks stack e h = waits_on R (deeds.Wait o) o ks stack e h
  waits_for R (pos (suc n)) o ks stack e h = waits_on R (deeds.TimedWait o) o ks stack e h
  waits_for R (negsuc n) o ks stack e h = throws faults.IllegalArgumentException

  object_calls : (R : Reply → Type 0) (called : ObjectCall) (o : ObjId) (ks : List SlotKind) (stack : List Content) → Shaped (at + 1) ks → AreOf ks stack → SoundMove code R (call_on_object code below m this at stack locals called o)
  object_calls R Wait o ks stack e h = waits_on R (deeds.Wait o) o ks stack e h
  object_calls R Notify o ks stack e h = λ r x. legal faults.IllegalMonitorStateException (at_place (at + 1) stack locals) (goes_on (at + 1) ks stack locals e h l) r
  object_calls R NotifyAll o ks stack e h = λ r x. legal faults.IllegalMonitorStateException (at_place (at + 1) stack locals) (goes_on (at + 1) ks stack locals e h l) r
  object_calls R Start o ks stack e h = λ r x. legal faults.IllegalThreadStateException (at_place (at + 1) stack locals) (goes_on (at + 1) ks stack locals e h l) r
  object_calls R Join o ks stack e h = λ r x. goes_on (at + 1) ks stack locals e h l

  makes_array : (R : Reply → Type 0) (element : Elem) (n : ℤ) (ks : List SlotKind) (stack : List Content) → Shaped (at + 1) (Reference ∷ ks) → AreOf ks stack → SoundMove code R (make_array code below m this at stack locals element n)
  makes_array R element (pos size) ks stack e h = λ r x. goes_on (at + 1) (Reference ∷ ks) _ locals e (refl, h) l
  makes_array R element (negsuc n) ks stack e h = throws faults.NegativeArraySizeException

  sleeps : (R : Reply → Type 0) (b : Bool) (after : State) → Sound code after → SoundMove code R (choose b (Goes (throw_at code faults.IllegalArgumentException below m this at locals)) (Asks deeds.Back (λ r. after)))
  sleeps R true after h = throws faults.IllegalArgumentException
  sleeps R false after h = λ r x. h

  arity_is : (callee : MethodId) (d : MethodCode) → method_code_at code callee ≡ Some d → arity_of code callee ≡ length d.formals
  arity_is callee d e = ap (λ o. option_map_or (λ (d : MethodCode). length d.formals) o 0) e

  leaves : (result : Option Value) → ResultIs c.result result → Sound code (returning code result below m this)
  leaves result fits = exit_sound code (monitor_in (method_code_at code m) this) (handed result below) (handed_sound code c.result result below fits w)

  -- wherever the instruction goes, a path brings the kinds after it
  abbrev Onward : Instruction → List SlotKind → Type 0
  Onward (Jump to) after = (at < to) × Shaped to after
  Onward (JumpIf to) after = (at < to) × Shaped to after × Shaped (at + 1) after
  Onward (JumpNot to) after = (at < to) × Shaped to after × Shaped (at + 1) after
  Onward (BackTo to) after = (to ≤ at) × Shaped to after
  Onward ReturnNothing after = Unit {0}
  Onward ReturnTop after = Unit {0}
  Onward (ThrowNew fault) after = Unit {0}
  Onward (ThrowLocal x) after = Unit {0}
  Onward _ after = Shaped (at + 1) after

  onward : (i : Instruction) (after : List SlotKind) → GoesTo right.shapes at i after → ((to : ℕ) → IsNext at i to → Reaches code c to after) → Onward i after
  onward (Jump to) after g n = (g.0, (g.1, n to refl))
  onward (JumpIf to) after g n = (g.0, (g.1, n to (inl refl)), (g.2, n (at + 1) (inr refl)))
  onward (JumpNot to) after g n = (g.0, (g.1, n to (inl refl)), (g.2, n (at + 1) (inr refl)))
  onward (BackTo to) after g n = (g.0, (g.1, n to refl))
  onward ReturnNothing after g n = tt
  onward ReturnTop after g n = tt
  onward (ThrowNew fault) after g n = tt
  onward (ThrowLocal x) after g n = tt
  onward _ after g n = (g, n (at + 1) refl)

  abbrev Goal : Instruction → List Content → Type 0
  Goal i stack = SoundMove code (MayReply (Some i)) (act code (Some i) below m this at stack locals)

  act_sound : (i : Instruction) (before after : List SlotKind) (stack : List Content) → AreOf before stack → Effect code c i before after → Onward i after → Goal i stack
  act_sound (Push v) before after stack h e g = goes_on (at + 1) (kind_of_value v ∷ before) (Holds v ∷ stack) locals (subst (Shaped (at + 1)) e g) (refl, h) l
  act_sound (Load x) before after stack h e g = goes_on (at + 1) (e.0 ∷ before) _ locals (subst (Shaped (at + 1)) e.2 g) (local_of (kinds_of_locals c) locals x e.0 l e.1, h) l
  act_sound (Store x) before after stack h e g =
      let p = pop e.0 after stack (subst (λ ks. AreOf ks stack) e.2 h) in
      goes_on (at + 1) after (under stack) (slice_set locals x (top_content stack)) g p.1 (set_of (kinds_of_locals c) locals x e.0 (top_content stack) l e.1 p.0)
  act_sound Pop before after stack h e g = goes_on (at + 1) after (under stack) locals g (pop e.0 after stack (subst (λ ks. AreOf ks stack) e.1 h)).1 l
  act_sound Dup before after stack h e g =
      let h1 = subst (λ ks. AreOf ks stack) e.2 h in
      let p = pop e.0 e.1 stack h1 in
      goes_on (at + 1) _ _ locals (subst (Shaped (at + 1)) e.3 g) (p.0, h1) l
  act_sound Dup2 before after stack h e g =
      let h1 = subst (λ ks. AreOf ks stack) e.3 h in
      let p = pop e.0 (e.1 ∷ e.2) stack h1 in
      let q = pop e.1 e.2 (under stack) p.1 in
      goes_on (at + 1) _ _ locals (subst (Shaped (at + 1)) e.4 g) (p.0, (q.0, h1)) l
  act_sound DupX1 before after stack h e g =
      let p = pop e.0 (e.1 ∷ e.2) stack (subst (λ ks. AreOf ks stack) e.3 h) in
      let q = pop e.1 e.2 (under stack) p.1 in
      goes_on (at + 1) _ _ locals (subst (Shaped (at + 1)) e.4 g) (p.0, (q.0, (p.0, q.1))) l
  act_sound DupX2 before after stack h e g =
      let p = pop e.0 (e.1 ∷ (e.2 ∷ e.3)) stack (subst (λ ks. AreOf ks stack) e.4 h) in
      let q = pop e.1 (e.2 ∷ e.3) (under stack) p.1 in
      let r = pop e.2 e.3 (under (under stack)) q.1 in
      goes_on (at + 1) _ _ locals (subst (Shaped (at + 1)) e.5 g) (p.0, (q.0, (r.0, (p.0, r.1)))) l
  act_sound (OneOperand operator) before after stack h e g =
      let p = pop (unary_kind operator) e.0 stack (subst (λ ks. AreOf ks stack) e.1 h) in
      goes_on (at + 1) _ _ locals (subst (Shaped (at + 1)) e.2 g) (unary_of operator (top stack), p.1) l
  act_sound (TwoOperands operator) before after stack h e g =
      let p = pop (right_kind operator) (left_kind operator ∷ e.0) stack (subst (λ ks. AreOf ks stack) e.1 h) in
      let q = pop (left_kind operator) e.0 (under stack) p.1 in
      or_throws (result_kind operator) e.0 (under (under stack)) (subst (Shaped (at + 1)) e.2 g) q.1 (binary_value operator (top (under stack)) (top stack)) (binary_of operator (top (under stack)) (top stack))
  act_sound (ConvertTo w) before after stack h e g =
      let p = pop (kind_converted w) e.0 stack (subst (λ ks. AreOf ks stack) e.1 h) in
      goes_on (at + 1) _ _ locals (subst (Shaped (at + 1)) e.2 g) (number_of_kind w _, p.1) l
  act_sound (Jump to) before after stack h e g = goes_on to after stack locals g.1 (subst (λ ks. AreOf ks stack) e h) l
  act_sound (JumpIf to) before after stack h e g =
      let p = pop Boolean after stack (subst (λ ks. AreOf ks stack) e h) in
      choose_sound code (truth_of (top stack)) _ _ (goes_on to after (under stack) locals g.1 p.1 l) (goes_on (at + 1) after (under stack) locals g.2 p.1 l)
  act_sound (JumpNot to) before after stack h e g =
      let p = pop Boolean after stack (subst (λ ks. AreOf ks stack) e h) in
      choose_sound code (truth_of (top stack)) _ _ (goes_on (at + 1) after (under stack) locals g.2 p.1 l) (goes_on to after (under stack) locals g.1 p.1 l)
  act_sound (BackTo to) before after stack h e g = λ r x. goes_on to after stack locals g.1 (subst (λ ks. AreOf ks stack) e h) l
  act_sound (GetField slot kind) before after stack h e g =
      let p = pop Reference e.0 stack (subst (λ ks. AreOf ks stack) e.1 h) in
      needs_object (ValueOf kind) (top stack) _ (λ o r x. reads kind e.0 (under stack) (subst (Shaped (at + 1)) e.2 g) p.1 r (value_element kind r x))
  act_sound (PutField slot kind) before after stack h e g =
      let p = pop kind (Reference ∷ after) stack (subst (λ ks. AreOf ks stack) e.0 h) in
      let q = pop Reference after (under stack) p.1 in
      needs_object (λ r. Unit {0}) (top (under stack)) _ (λ o r x. writes after (under (under stack)) g q.1 r)
  act_sound (GetStatic place kind) before after stack h e g = λ r x. reads kind before stack (subst (Shaped (at + 1)) e.0 g) h r (value_element kind r x)
  act_sound (PutStatic place kind) before after stack h e g =
      let p = pop kind after stack (subst (λ ks. AreOf ks stack) e.0 h) in
      λ r x. writes after (under stack) g p.1 r
  act_sound (GetElement element) before after stack h e g =
      let p = pop Int (Reference ∷ e.0) stack (subst (λ ks. AreOf ks stack) e.1 h) in
      let q = pop Reference e.0 (under stack) p.1 in
      needs_object (ElementOf (kind_of_element element)) (top (under stack)) _ (λ o r x. reads (kind_of_element element) e.0 (under (under stack)) (subst (Shaped (at + 1)) e.2 g) q.1 r x)
  act_sound (PutElement element) before after stack h e g =
      let p = pop (kind_of_element element) (Int ∷ (Reference ∷ after)) stack (subst (λ ks. AreOf ks stack) e h) in
      let q = pop Int (Reference ∷ after) (under stack) p.1 in
      let s = pop Reference after (under (under stack)) q.1 in
      needs_object (λ r. Unit {0}) (top (under (under stack))) _ (λ o r x. writes after (under (under (under stack))) g s.1 r)
  act_sound ArrayLength before after stack h e g =
      let p = pop Reference e.0 stack (subst (λ ks. AreOf ks stack) e.1 h) in
      needs_object (ValueOf Int) (top stack) _ (λ o r x. reads Int e.0 (under stack) (subst (Shaped (at + 1)) e.2 g) p.1 r (value_element Int r x))
  act_sound (Make kind) before after stack h e g = λ r x. goes_on (at + 1) (Reference ∷ before) _ locals (subst (Shaped (at + 1)) e g) (refl, h) l
  act_sound (MakeArray element) before after stack h e g =
      let p = pop Int e.0 stack (subst (λ ks. AreOf ks stack) e.1 h) in
      makes_array (λ r. Unit {0}) element (number_of (top stack)) e.0 (under stack) (subst (Shaped (at + 1)) e.2 g) p.1
  act_sound EnterMonitor before after stack h e g =
      let p = pop Reference after stack (subst (λ ks. AreOf ks stack) e h) in
      needs_object (λ r. Unit {0}) (top stack) _ (λ o r x. goes_on (at + 1) after (under stack) locals g p.1 l)
  act_sound ExitMonitor before after stack h e g =
      let p = pop Reference after stack (subst (λ ks. AreOf ks stack) e h) in
      needs_object (λ r. Unit {0}) (top stack) _ (λ o r x. goes_on (at + 1) after (under stack) locals g p.1 l)
  act_sound (OnObject called) before after stack h e g =
      let p = pop Reference after stack (subst (λ ks. AreOf ks stack) e h) in
      needs_object (λ r. Unit {0}) (top stack) _ (λ o. object_calls (λ r. Unit {0}) called o after (under stack) g p.1)
  act_sound WaitForTime before after stack h e g =
      let p = pop Long (Reference ∷ after) stack (subst (λ ks. AreOf ks stack) e h) in
      let q = pop Reference after (under stack) p.1 in
      needs_object (λ r. Unit {0}) (top (under stack)) _ (λ o. waits_for (λ r. Unit {0}) (number_of (top stack)) o after (under (under stack)) g q.1)
  act_sound SleepFor before after stack h e g =
      let p = pop Int after stack (subst (λ ks. AreOf ks stack) e h) in
      sleeps (λ r. Unit {0}) (is_negative (number_of (top stack))) _ (goes_on (at + 1) after (under stack) locals g p.1 l)
  act_sound YieldNow before after stack h e g = λ r x. goes_on (at + 1) after stack locals g (subst (λ ks. AreOf ks stack) e h) l
  act_sound (CallStaticMethod callee) before after stack h e g =
      let n = arity_is callee e.0 e.2 in
      let h1 = subst (λ ks. AreOf ks stack) e.4 h in
      called_sound code rights callee e.0 e.2 None _ _ (arguments_of e.0.formals e.1 stack (arity_of code callee) n (rights.methods callee e.0 e.2).formals h1)
      (record { c = c; is_method = is_method; right = right; locals = l; here = here; shape = marked; path = way; kinds = e.1; goes = (subst (Shaped (at + 1)) e.5 g).0; onward = (subst (Shaped (at + 1)) e.5 g).1; stack = rest_of e.0.formals e.1 stack (arity_of code callee) n h1 }, w)
  act_sound (CallMethodOn callee) before after stack h e g =
      let n = arity_is callee e.0 e.2 in
      let h1 = subst (λ ks. AreOf ks stack) e.4 h in
      let p = pop Reference e.1 (drop (arity_of code callee) stack) (rest_of e.0.formals (Reference ∷ e.1) stack (arity_of code callee) n h1) in
      needs_object (λ r. Unit {0}) (top (drop (arity_of code callee) stack)) _
      (λ o. called_sound code rights callee e.0 e.2 (Some o) _ _ (arguments_of e.0.formals (Reference ∷ e.1) stack (arity_of code callee) n (rights.methods callee e.0 e.2).formals h1)
      (record { c = c; is_method = is_method; right = right; locals = l; here = here; shape = marked; path = way; kinds = e.1; goes = (subst (Shaped (at + 1)) e.5 g).0; onward = (subst (Shaped (at + 1)) e.5 g).1; stack = p.1 }, w))
  act_sound ReturnNothing before after stack h e g = leaves None (subst (λ r. ResultIs r None) (sym e.0) tt)
  act_sound ReturnTop before after stack h e g =
      let p = pop e.0 after stack (subst (λ ks. AreOf ks stack) e.2 h) in
      leaves (Some (top stack)) (subst (λ r. ResultIs r (Some (top stack))) (sym e.1) (value_top e.0 stack p.0 (right.result e.0 e.1)))
  act_sound CommitNow before after stack h e g = λ r x. goes_on (at + 1) after stack locals g (subst (λ ks. AreOf ks stack) e h) l
  act_sound (AssertThat clause scope) before after stack h e g = λ r x. goes_on (at + 1) after stack locals g (subst (λ ks. AreOf ks stack) e.1 h) l
  act_sound (PrintAll parts) before after stack h e g =
      λ r x. goes_on (at + 1) after (drop (values_printed parts) stack) locals g (rest_of e.0 after stack (values_printed parts) (sym e.1) (subst (λ ks. AreOf ks stack) e.3 h)) l
  act_sound (ThrowNew fault) before after stack h e g = throws fault
  act_sound (ThrowLocal x) before after stack h e g = throws (fault_at locals x)
  act_sound Unknown before after stack h e g = absurd e

-- ---- one step

both_true : (a b : Bool) → (a && b) ≡ true → (a ≡ true) × (b ≡ true)
both_true true b e = (refl, e)
both_true false b e = absurd (cc)

le_of : (a b : ℕ) → nat_le a b ≡ true → a ≤ b
le_of a b e = grind (arith, nat_tests)

lt_of : (a b : ℕ) → nat_lt a b ≡ true → a < b
lt_of a b e = grind (arith, nat_tests)

-- a region behind others, and the others with it
behind_passed : (passed : List Region) (r : Region) (rest : List Region) → slice_get (passed ++ r ∷ rest) (length passed) ≡ Some r
behind_passed [] r rest = refl
behind_passed (p ∷ passed) r rest = behind_passed passed r rest

one_passed : (passed : List Region) (r : Region) (rest all : List Region) → all ≡ passed ++ r ∷ rest → all ≡ (passed ++ r ∷ []) ++ rest
one_passed passed r rest all e = e ∙ sym (append_assoc passed (r ∷ []) rest)

handled_sound : (code : Code) (fault : Fault) (r : Region) (rest : List Region) (f : StackFrame) (below : List StackFrame) (x : ThrowsAt code (r ∷ rest) f) → Waiting code x.c.result below → (k : RegionKind) → r.kind ≡ k → (R : Reply → Type 0) → holds r f.at ≡ true → SoundMove code R (handles k fault rest f below)
handled_sound code fault r rest f below x w (CatchAt caught_fault target) e R inside =
    let right_here : RightKind x.c x.right.shapes r.first r.past (CatchAt caught_fault target) = subst (λ k. RightKind x.c x.right.shapes r.first r.past k) e x.regions.0 in
    let bounds = both_true (nat_le r.first f.at) (nat_lt f.at r.past) inside in
    let first = le_of r.first f.at bounds.0 in
    let past = lt_of f.at r.past bounds.1 in
    let begun = right_here f.at x.kinds first past x.shape in
    let number = length x.passed in
    let stands : slice_get x.c.regions number ≡ Some r = ap (λ rs. slice_get rs number) x.split ∙ behind_passed x.passed r rest in
    let caught : Reaches code x.c target (CaughtKind ∷ []) =
    Catches f.at target x.kinds x.path (record { number = number; region = r; fault = caught_fault; stands = stands; catches = e; first = first; past = past }) in
    choose_sound code (catches caught_fault fault) _ _
    (record { c = x.c; is_method = x.is_method; right = x.right; locals = x.locals; kinds = CaughtKind ∷ []; shape = begun.1; path = caught; stack = (refl, tt) }, w)
    (record { c = x.c; is_method = x.is_method; right = x.right; locals = x.locals; kinds = x.kinds; shape = x.shape; path = x.path; passed = x.passed ++ r ∷ []; split = one_passed x.passed r rest x.c.regions x.split; regions = x.regions.1 }, w)
handled_sound code fault r rest f below x w (ExitLocal y) e R inside = leaves_it (value_at f.locals y)
  where
    after : Sound code (Throws fault rest f below)
    after = (record { c = x.c; is_method = x.is_method; right = x.right; locals = x.locals; kinds = x.kinds; shape = x.shape; path = x.path; passed = x.passed ++ r ∷ []; split = one_passed x.passed r rest x.c.regions x.split; regions = x.regions.1 }, w)

    leaves_it : (v : Value) → SoundMove code R (exit_local v (Throws fault rest f below))
    leaves_it (values.Ref o) = λ r y. after
    leaves_it values.Null = after
    leaves_it (values.Int n) = after
    leaves_it (values.Long n) = after
    leaves_it (values.Bool b) = after

region_sound : (code : Code) (b : Bool) (R : Reply → Type 0) (x y : Move) → (b ≡ true → SoundMove code R x) → SoundMove code R y → SoundMove code R (choose b x y)
region_sound code true R x y g h = g refl
region_sound code false R x y g h = h

-- checked code goes on, with operands and locals of the right kinds
pub step_sound : (code : Code) → CodeRight code → (s : State) → Sound code s → GoesOn s → SoundMove code (ReplyFits code s) (step code s)
step_sound code rights (Runs f below) h go =
    let x = h.0 in
    let here = x.right.each f.at x.kinds x.shape in
    let instructions_are : instructions_of code f.method ≡ x.c.instructions = ap (λ o. option_map_or (λ (c : MethodCode). c.instructions) o []) x.is_method in
    let stands : slice_get (instructions_of code f.method) f.at ≡ Some here.instruction = ap (λ l. slice_get l f.at) instructions_are ∙ here.stands in
    let same : x.kinds ≡ here.before = same_shape x.kinds here.before (sym x.shape ∙ here.shape) in
    subst (λ o. SoundMove code (MayReply o) (act code o below f.method f.this f.at f.stack f.locals)) (sym stands)
    (act_sound code rights below f.method f.this x.c x.is_method x.right h.1 f.at f.locals x.locals x.kinds x.shape x.path here.instruction here.before here.after f.stack (subst (λ ks. AreOf ks f.stack) same x.stack) here.effect
    (onward code rights below f.method f.this x.c x.is_method x.right h.1 f.at f.locals x.locals x.kinds x.shape x.path here.instruction here.after here.goes
    (λ to n. Follows f.at to here.before here.after here.instruction (subst (Reaches code x.c f.at) same x.path) here.stands here.effect n)))
  where
    same_shape : (a b : List SlotKind) → Some (Some a) ≡ Some (Some b) → a ≡ b
    same_shape a b e = cc
step_sound code rights (Throws fault [] f below) h go =
    exit_sound code (monitor_in (method_code_at code f.method) f.this) (handed_fault code fault below) (fault_sound code h.0.c.result fault below h.1)
step_sound code rights (Throws fault (r ∷ rest) f below) h go =
    region_sound code (holds r f.at) _ _ _ (λ inside. handled_sound code fault r rest f below h.0 h.1 r.kind refl _ inside)
    (record { c = h.0.c; is_method = h.0.is_method; right = h.0.right; locals = h.0.locals; kinds = h.0.kinds; shape = h.0.shape; path = h.0.path; passed = h.0.passed ++ r ∷ []; split = one_passed h.0.passed r rest h.0.c.regions h.0.split; regions = h.0.regions.1 }, h.1)
step_sound code rights (Makes deed after) h go = λ r x. h
step_sound code rights Over h go = absurd go

pub start_sound : (code : Code) → CodeRight code → (start : Option Body) → StartRight code start → Sound code (start_state code start)
start_sound code rights None h = tt
start_sound code rights (Some start) h =
    called_sound code rights start.method h.0 h.1 start.this [] [] (subst (λ ks. AreOf ks []) (sym h.2) tt) tt

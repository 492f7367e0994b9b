-- Where an instruction leads from a place that a path reaches.
use Rattle.std.proofs.Common.{◌≡◌, ℕ, ◌+◌, ◌<◌, List, [], ◌∷◌, Option, Some, sym, ap, ◌∙◌, subst, arith, ⊎_elim}
use Rattle.std.specs.Prelude.{slice_get}
use Rattle.std.specs.Option.{option_map_or}
use Rattle.jr_base.specs.declared.number.MethodId.{MethodId}
use Rattle.jr_base.specs.declared.kind.SlotKind.{SlotKind}
use Rattle.jr_base.specs.declared.kind.SlotKind.TheVariants.{Caught as CaughtKind}
use Rattle.jr_code.specs.Instructions.{Instruction, Jump, JumpIf, JumpNot, BackTo, ReturnNothing, ReturnTop, ThrowNew, ThrowLocal, CallStaticMethod, CallMethodOn, CatchAt, MethodCode, Code}
use Rattle.jr_code.specs.Machine.{StackFrame, Runs, Goes, method_code_at, instructions_of, regions_of}
use Rattle.jr_code.specs.Checked.{Effect, GoesTo, RightKind, MethodRight, CodeRight}
use Rattle.jr_code.specs.Paths.{IsNext, Reaches, Follows, Catches}
use Rattle.jr_code.proofs.Paths.{stands_on_path, right_on_path, region_right, some_one}
use Rattle.jr_thread_machine.specs.Moves.{acted, Calls}
use Rattle.jr_thread_machine.specs.Places.{IsReached, IsMethod}
use Rattle.jr_thread_machine.specs.Handlers.{CatchIn}

-- an instruction with its operands, at a place that a path reaches
record Here (code : Code) (m : MethodId) (at : ℕ) (i : Instruction) : Type 0 where
  c : MethodCode
  is_method : method_code_at code m ≡ Some c
  right : MethodRight code c
  kinds : List SlotKind
  path : Reaches code c at kinds
  stands : slice_get c.instructions at ≡ Some i
  after : List SlotKind
  effect : Effect code c i kinds after
  goes : GoesTo right.shapes at i after

here_of : (code : Code) → CodeRight code → (m : MethodId) (at : ℕ) (i : Instruction) → IsReached code m at →
    slice_get (instructions_of code m) at ≡ Some i → Here code m at i
here_of code rights m at i x stands =
    let right = rights.methods m x.c x.is_method in
    let here = right_on_path code x.c right at x.kinds x.path in
    let own : slice_get x.c.instructions at ≡ Some i =
    ap (λ (o : Option MethodCode). slice_get (option_map_or (λ (c : MethodCode). c.instructions) o []) at) (sym x.is_method) ∙ stands in
    let same : here.instruction ≡ i = some_one here.instruction i (sym here.stands ∙ own) in
    let kinds : here.before ≡ x.kinds =
    some_one here.before x.kinds (some_one (Some here.before) (Some x.kinds) (sym here.shape ∙ stands_on_path code x.c right at x.kinds x.path)) in
    record {
      c = x.c;
      is_method = x.is_method;
      right = right;
      kinds = x.kinds;
      path = x.path;
      stands = own;
      after = here.after;
      effect = subst (λ i. Effect code x.c i x.kinds here.after) same (subst (λ ks. Effect code x.c here.instruction ks here.after) kinds here.effect);
      goes = subst (λ i. GoesTo right.shapes at i here.after) same here.goes;
    }

pub leads : (code : Code) → CodeRight code → (m : MethodId) (at next : ℕ) (i : Instruction) → IsReached code m at →
    slice_get (instructions_of code m) at ≡ Some i → IsNext at i next → IsReached code m next
leads code rights m at next i x stands n =
    let h = here_of code rights m at i x stands in
    record { c = h.c; is_method = h.is_method; kinds = h.after; path = Follows at next h.kinds h.after i h.path h.stands h.effect n }

further_by : (shapes : List (Option (List SlotKind))) (at next : ℕ) (i : Instruction) (after : List SlotKind) (code : Code) (below : List StackFrame) (f g : StackFrame) →
    GoesTo shapes at i after → IsNext at i next → acted code i below f ≡ Goes (Runs g below) → at < next
further_by shapes at next (Jump to) after code below f g w n e = rw n w.0
further_by shapes at next (JumpIf to) after code below f g w n e = ⊎_elim (λ (e : next ≡ to). rw e w.0) (λ (e : next ≡ at + 1). let r : at < next = omega arith in r) n
further_by shapes at next (JumpNot to) after code below f g w n e = ⊎_elim (λ (e : next ≡ to). rw e w.0) (λ (e : next ≡ at + 1). let r : at < next = omega arith in r) n
further_by shapes at next (BackTo to) after code below f g w n e = absurd (cc)
further_by shapes at next ReturnNothing after code below f g w n e = absurd n
further_by shapes at next ReturnTop after code below f g w n e = absurd n
further_by shapes at next (ThrowNew fault) after code below f g w n e = absurd n
further_by shapes at next (ThrowLocal x) after code below f g w n e = absurd n
further_by shapes at next _ after code below f g w n e = rw n (omega arith)

-- an instruction that asks for nothing leads further on
pub further : (code : Code) → CodeRight code → (m : MethodId) (at next : ℕ) (i : Instruction) → IsReached code m at →
    slice_get (instructions_of code m) at ≡ Some i → IsNext at i next → (below : List StackFrame) (f g : StackFrame) →
    acted code i below f ≡ Goes (Runs g below) → at < next
further code rights m at next i x stands n below f g e =
    let h = here_of code rights m at i x stands in
    further_by h.right.shapes at next i h.after code below f g h.goes n e

called_by : (code : Code) (c : MethodCode) (callee : MethodId) (i : Instruction) (before after : List SlotKind) → Effect code c i before after → Calls callee i → IsMethod code callee
called_by code c callee (CallStaticMethod m) before after e n = record { c = e.0; is_method = rw (← n) e.2 }
called_by code c callee (CallMethodOn m) before after e n = record { c = e.0; is_method = rw (← n) e.2 }
called_by code c callee _ before after e n = absurd n

-- what a call names is there
pub called : (code : Code) → CodeRight code → (m callee : MethodId) (at : ℕ) (i : Instruction) → IsReached code m at →
    slice_get (instructions_of code m) at ≡ Some i → Calls callee i → IsMethod code callee
called code rights m callee at i x stands n =
    let h = here_of code rights m at i x stands in called_by code h.c callee i h.kinds h.after h.effect n

-- a handler that takes an exception stands further on, and a path comes to it
pub caught : (code : Code) → CodeRight code → (m : MethodId) (at target : ℕ) → IsReached code m at →
    CatchIn (regions_of code m) at target → (at < target) × IsReached code m target
caught code rights m at target x h =
    let right = rights.methods m x.c x.is_method in
    let own : slice_get x.c.regions h.number ≡ Some h.region =
    ap (λ (o : Option MethodCode). slice_get (option_map_or (λ (c : MethodCode). c.regions) o []) h.number) (sym x.is_method) ∙ h.stands in
    let region = region_right x.c right.shapes x.c.regions h.number h.region right.regions own in
    let kind : RightKind x.c right.shapes h.region.first h.region.past (CatchAt h.fault target) =
    subst (RightKind x.c right.shapes h.region.first h.region.past) h.catches region in
    let ahead = kind at x.kinds h.first h.past (stands_on_path code x.c right at x.kinds x.path) in
    let path = Catches at target x.kinds x.path (record {
      number = h.number;
      region = h.region;
      fault = h.fault;
      stands = own;
      catches = h.catches;
      first = h.first;
      past = h.past;
    }) in
    (ahead.0, record { c = x.c; is_method = x.is_method; kinds = CaughtKind ∷ []; path = path })

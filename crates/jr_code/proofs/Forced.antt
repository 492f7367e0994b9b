-- The kinds behind an instruction are fixed by those before it: what is found along a path stands in every right list.
use Rattle.std.proofs.Common.{◌≡◌, ℕ, List, [], ◌∷◌, length, Some, sym, ap, ◌∙◌, subst, arith}
use Rattle.std.specs.Prelude.{slice_get}
use Rattle.jr_base.specs.declared.kind.SlotKind.{SlotKind}
use Rattle.jr_base.specs.declared.kind.SlotKind.TheVariants.{Int, Ref as Reference}
use Rattle.jr_code.specs.Instructions.{Instruction, Push, Load, Store, Pop, Dup, Dup2, DupX1, DupX2, OneOperand, TwoOperands, ConvertTo, Jump, JumpIf, JumpNot, BackTo, GetField, PutField, GetStatic, PutStatic, GetElement, PutElement, ArrayLength, Make, MakeArray, EnterMonitor, ExitMonitor, OnObject, WaitForTime, SleepFor, YieldNow, CallStaticMethod, CallMethodOn, ReturnNothing, ReturnTop, CommitNow, AssertThat, PrintAll, ThrowNew, ThrowLocal, Unknown, MethodCode, Code}
use Rattle.jr_arith.specs.Kinds.{kind_of_element, kind_of_width, unary_kind, result_kind}
use Rattle.jr_code.specs.Checked.{kinds_pushed, kinds_with, Effect, GoesTo, MethodRight}

rest_same : (k j : SlotKind) (a b : List SlotKind) → (k ∷ a) ≡ (j ∷ b) → a ≡ b
rest_same k j a b e = cc

head_same : (k j : SlotKind) (a b : List SlotKind) → (k ∷ a) ≡ (j ∷ b) → k ≡ j
head_same k j a b e = cc

some_same : {A : Type 0} (a b : A) → Some a ≡ Some b → a ≡ b
some_same a b e = cc

pub pushed_same : (js is a b : List SlotKind) → length js ≡ length is → kinds_pushed js a ≡ kinds_pushed is b → a ≡ b
pushed_same [] [] a b n e = e
pushed_same [] (i ∷ is) a b n e = absurd (omega arith)
pushed_same (j ∷ js) [] a b n e = absurd (omega arith)
pushed_same (j ∷ js) (i ∷ is) a b n e = rest_same j i a b (pushed_same js is (j ∷ a) (i ∷ b) (omega arith) e)

effect_one : (code : Code) (c : MethodCode) (i : Instruction) (before a b : List SlotKind) → Effect code c i before a → Effect code c i before b → a ≡ b
effect_one code c (Push v) before a b e f = e ∙ sym f
effect_one code c (Load x) before a b e f = e.2 ∙ ap (λ k. k ∷ before) (some_same e.0 f.0 (sym e.1 ∙ f.1)) ∙ sym f.2
effect_one code c (Store x) before a b e f = rest_same e.0 f.0 a b (sym e.2 ∙ f.2)
effect_one code c Pop before a b e f = rest_same e.0 f.0 a b (sym e.1 ∙ f.1)
effect_one code c Dup before a b e f =
    let same = sym e.2 ∙ f.2 in
    e.3 ∙ ap (λ k. k ∷ (k ∷ e.1)) (head_same e.0 f.0 e.1 f.1 same) ∙ ap (λ l. f.0 ∷ (f.0 ∷ l)) (rest_same e.0 f.0 e.1 f.1 same) ∙ sym f.3
effect_one code c Dup2 before a b e f =
    let same = sym e.3 ∙ f.3 in
    let k = head_same _ _ _ _ same in
    let tail = rest_same _ _ _ _ same in
    let j = head_same _ _ _ _ tail in
    let rest = rest_same _ _ _ _ tail in
    e.4 ∙ ap (λ k. k ∷ (e.1 ∷ (k ∷ (e.1 ∷ e.2)))) k ∙ ap (λ j. f.0 ∷ (j ∷ (f.0 ∷ (j ∷ e.2)))) j ∙ ap (λ l. f.0 ∷ (f.1 ∷ (f.0 ∷ (f.1 ∷ l)))) rest ∙ sym f.4
effect_one code c DupX1 before a b e f =
    let same = sym e.3 ∙ f.3 in
    let k = head_same _ _ _ _ same in
    let tail = rest_same _ _ _ _ same in
    let j = head_same _ _ _ _ tail in
    let rest = rest_same _ _ _ _ tail in
    e.4 ∙ ap (λ k. k ∷ (e.1 ∷ (k ∷ e.2))) k ∙ ap (λ j. f.0 ∷ (j ∷ (f.0 ∷ e.2))) j ∙ ap (λ l. f.0 ∷ (f.1 ∷ (f.0 ∷ l))) rest ∙ sym f.4
effect_one code c DupX2 before a b e f =
    let same = sym e.4 ∙ f.4 in
    let k = head_same _ _ _ _ same in
    let tail = rest_same _ _ _ _ same in
    let j = head_same _ _ _ _ tail in
    let tail2 = rest_same _ _ _ _ tail in
    let l = head_same _ _ _ _ tail2 in
    let rest = rest_same _ _ _ _ tail2 in
    e.5 ∙ ap (λ k. k ∷ (e.1 ∷ (e.2 ∷ (k ∷ e.3)))) k ∙ ap (λ j. f.0 ∷ (j ∷ (e.2 ∷ (f.0 ∷ e.3)))) j ∙ ap (λ l. f.0 ∷ (f.1 ∷ (l ∷ (f.0 ∷ e.3)))) l ∙ ap (λ r. f.0 ∷ (f.1 ∷ (f.2 ∷ (f.0 ∷ r)))) rest ∙ sym f.5
effect_one code c (OneOperand operator) before a b e f = e.2 ∙ ap (λ l. unary_kind operator ∷ l) (rest_same _ _ _ _ (sym e.1 ∙ f.1)) ∙ sym f.2
effect_one code c (TwoOperands operator) before a b e f = e.2 ∙ ap (λ l. result_kind operator ∷ l) (rest_same _ _ _ _ (rest_same _ _ _ _ (sym e.1 ∙ f.1))) ∙ sym f.2
effect_one code c (ConvertTo w) before a b e f = e.2 ∙ ap (λ l. kind_of_width w ∷ l) (rest_same _ _ _ _ (sym e.1 ∙ f.1)) ∙ sym f.2
effect_one code c (Jump to) before a b e f = sym e ∙ f
effect_one code c (JumpIf to) before a b e f = rest_same _ _ _ _ (sym e ∙ f)
effect_one code c (JumpNot to) before a b e f = rest_same _ _ _ _ (sym e ∙ f)
effect_one code c (BackTo to) before a b e f = sym e ∙ f
effect_one code c (GetField slot kind) before a b e f = e.2 ∙ ap (λ l. kind ∷ l) (rest_same _ _ _ _ (sym e.1 ∙ f.1)) ∙ sym f.2
effect_one code c (PutField slot kind) before a b e f = rest_same _ _ _ _ (rest_same _ _ _ _ (sym e.0 ∙ f.0))
effect_one code c (GetStatic place kind) before a b e f = e.0 ∙ sym f.0
effect_one code c (PutStatic place kind) before a b e f = rest_same _ _ _ _ (sym e.0 ∙ f.0)
effect_one code c (GetElement element) before a b e f = e.2 ∙ ap (λ l. kind_of_element element ∷ l) (rest_same _ _ _ _ (rest_same _ _ _ _ (sym e.1 ∙ f.1))) ∙ sym f.2
effect_one code c (PutElement element) before a b e f = rest_same _ _ _ _ (rest_same _ _ _ _ (rest_same _ _ _ _ (sym e ∙ f)))
effect_one code c ArrayLength before a b e f = e.2 ∙ ap (λ l. Int ∷ l) (rest_same _ _ _ _ (sym e.1 ∙ f.1)) ∙ sym f.2
effect_one code c (Make kind) before a b e f = e ∙ sym f
effect_one code c (MakeArray element) before a b e f = e.2 ∙ ap (λ l. Reference ∷ l) (rest_same _ _ _ _ (sym e.1 ∙ f.1)) ∙ sym f.2
effect_one code c EnterMonitor before a b e f = rest_same _ _ _ _ (sym e ∙ f)
effect_one code c ExitMonitor before a b e f = rest_same _ _ _ _ (sym e ∙ f)
effect_one code c (OnObject called) before a b e f = rest_same _ _ _ _ (sym e ∙ f)
effect_one code c WaitForTime before a b e f = rest_same _ _ _ _ (rest_same _ _ _ _ (sym e ∙ f))
effect_one code c SleepFor before a b e f = rest_same _ _ _ _ (sym e ∙ f)
effect_one code c YieldNow before a b e f = sym e ∙ f
effect_one code c (CallStaticMethod m) before a b e f =
    let d = some_same e.0 f.0 (sym e.2 ∙ f.2) in
    let rest = pushed_same e.0.formals f.0.formals e.1 f.1 (ap (λ (d : MethodCode). length d.formals) d) (sym e.4 ∙ f.4) in
    e.5 ∙ ap (λ (d : MethodCode). kinds_with d.result e.1) d ∙ ap (λ l. kinds_with f.0.result l) rest ∙ sym f.5
effect_one code c (CallMethodOn m) before a b e f =
    let d = some_same e.0 f.0 (sym e.2 ∙ f.2) in
    let rest = rest_same _ _ _ _ (pushed_same e.0.formals f.0.formals (Reference ∷ e.1) (Reference ∷ f.1) (ap (λ (d : MethodCode). length d.formals) d) (sym e.4 ∙ f.4)) in
    e.5 ∙ ap (λ (d : MethodCode). kinds_with d.result e.1) d ∙ ap (λ l. kinds_with f.0.result l) rest ∙ sym f.5
effect_one code c ReturnNothing before a b e f = sym e.1 ∙ f.1
effect_one code c ReturnTop before a b e f = rest_same _ _ _ _ (sym e.2 ∙ f.2)
effect_one code c CommitNow before a b e f = sym e ∙ f
effect_one code c (AssertThat clause scope) before a b e f = sym e.1 ∙ f.1
effect_one code c (PrintAll parts) before a b e f = pushed_same e.0 f.0 a b (e.1 ∙ sym f.1) (sym e.3 ∙ f.3)
effect_one code c (ThrowNew fault) before a b e f = sym e ∙ f
effect_one code c (ThrowLocal x) before a b e f = sym e.1 ∙ f.1
effect_one code c Unknown before a b e f = absurd e

-- where a right list has kinds at a place, it has those that follow from them wherever the instruction goes
pub forced : (code : Code) (c : MethodCode) (right : MethodRight code c) (at : ℕ) (ks after : List SlotKind) (i : Instruction) → slice_get right.shapes at ≡ Some (Some ks) → slice_get c.instructions at ≡ Some i → Effect code c i ks after → GoesTo right.shapes at i after
forced code c right at ks after i marked stands effect =
    let here = right.each at ks marked in
    let i_same : here.instruction ≡ i = some_same here.instruction i (sym here.stands ∙ stands) in
    let ks_same : here.before ≡ ks = some_same here.before ks (some_same (Some here.before) (Some ks) (sym here.shape ∙ marked)) in
    let effect2 = subst (λ i. Effect code c i ks here.after) i_same (subst (λ ks. Effect code c here.instruction ks here.after) ks_same here.effect) in
    subst (λ l. GoesTo right.shapes at i l) (effect_one code c i ks here.after after effect2 effect) (subst (λ i. GoesTo right.shapes at i here.after) i_same here.goes)

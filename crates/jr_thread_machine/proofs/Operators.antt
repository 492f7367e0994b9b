-- What an operator gives between the topmost operands.
use Rattle.std.proofs.Common.{◌≡◌, ◌+◌, ◌∷◌, Option, Some, None, refl, sym, ap, ◌∙◌, subst}
use Rattle.jr_base.specs.declared.value.Value.{Value}
use Rattle.jr_base.specs.Content.{Holds}
use Rattle.jr_arith.specs.declared.operator.Binary.{Binary}
use Rattle.jr_arith.specs.Operators.{binary_value}
use Rattle.jr_code.specs.Instructions.{Code, Push, TwoOperands}
use Rattle.jr_code.specs.Machine.{StackFrame, stack_frame, Goes, or_throw, top, top_content, under, value_of_content}
use Rattle.jr_thread_machine.specs.declared.flow.Flow.{Flow}
use Rattle.jr_thread_machine.specs.declared.flow.Flow.TheVariants as flows
use Rattle.jr_thread_machine.specs.Moves.{Steps}
use Rattle.jr_thread_machine.specs.Stopping.{HasNoValue}
use Rattle.jr_thread_machine.proofs.Stacks.{top_is}

given : (operator : Binary) (old : StackFrame) (a b : Value) (found : Option Value) → b ≡ value_of_content (top_content old.stack) →
    a ≡ value_of_content (top_content (under old.stack)) → found ≡ binary_value operator a b → binary_value operator (top (under old.stack)) (top old.stack) ≡ found
given operator old a b found y x v =
    ap (λ l. binary_value operator l (top old.stack)) (top_is (under old.stack) ∙ sym x) ∙ ap (binary_value operator a) (top_is old.stack ∙ sym y) ∙ sym v

pub two_give_nothing : (operator : Binary) (old : StackFrame) (a b : Value) → b ≡ value_of_content (top_content old.stack) →
    a ≡ value_of_content (top_content (under old.stack)) → None ≡ binary_value operator a b → HasNoValue operator old
two_give_nothing operator old a b y x v = given operator old a b None y x v

pub two_give : (code : Code) (operator : Binary) (old new : StackFrame) (a b value : Value) → b ≡ value_of_content (top_content old.stack) →
    a ≡ value_of_content (top_content (under old.stack)) → Some value ≡ binary_value operator a b →
    new ≡ stack_frame old.method old.this (old.at + 1) (Holds value ∷ under (under old.stack)) old.locals → Steps code (TwoOperands operator) flows.Goes old new
two_give code operator old new a b value y x v e =
    let P : StackFrame → Type 0 = λ n. Steps code (TwoOperands operator) flows.Goes old n in
    subst P (sym e) (record {
      did = λ below. ap (λ o. Goes (or_throw code below old.method old.this old.at (under (under old.stack)) old.locals o)) (given operator old a b (Some value) y x v);
      onward = refl;
      method = refl;
    })

pub pushed : (code : Code) (value : Value) (old new : StackFrame) (flow : Flow) → flow ≡ flows.Goes →
    new ≡ stack_frame old.method old.this (old.at + 1) (Holds value ∷ old.stack) old.locals → Steps code (Push value) flow old new
pushed code value old new flow g e =
    let P : StackFrame → Type 0 = λ n. Steps code (Push value) flow old n in
    let Q : Flow → Type 0 = λ f. Steps code (Push value) f old (stack_frame old.method old.this (old.at + 1) (Holds value ∷ old.stack) old.locals) in
    subst P (sym e) (subst Q (sym g) (record { did = λ below. refl; onward = refl; method = refl }))

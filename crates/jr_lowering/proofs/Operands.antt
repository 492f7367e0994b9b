-- Operands: arguments and results on the stack, and what is known of calls.
use Rattle.std.proofs.Common.{◌≡◌, suc, List, [], ◌∷◌, ◌++◌, map, length, take, drop, reverse, Option, Some, None, refl, sym, ap, ◌∙◌, append_assoc}
use Rattle.std.proofs.Math.Seq.{take-append_seam, drop-append_seam}
use Rattle.std.proofs.lemmas.List.{reverse-reverse, length-reverse}
use Rattle.std.proofs.lemmas.Grind.{reverse_onto}
use Rattle.jr_base.specs.declared.number.MethodId.{MethodId}
use Rattle.jr_base.specs.declared.number.ObjId.{ObjId}
use Rattle.jr_base.specs.declared.value.Value.{Value}
use Rattle.jr_base.specs.declared.kind.SlotKind.{SlotKind}
use Rattle.jr_base.specs.Threads.{Tape}
use Rattle.jr_base.specs.Content.{Content, Holds}
use Rattle.jr_program.specs.Programs.{Program, Method, method_at}
use Rattle.jr_meaning.specs.Next.{Variables, Calls}
use Rattle.jr_code.specs.Instructions.{Code}
use Rattle.jr_code.specs.Machine.{arity_of, StackFrame, taken, value_of_content, calling, handed, handed_fault}
use Rattle.jr_lowering.proofs.Follow.{from, Follows}

-- arguments on the stack, the last one topmost
abbrev pub pushed : List Value → List Content → List Content
pushed [] stack = stack
pushed (v ∷ vs) stack = pushed vs (Holds v ∷ stack)

pushed_is : (vs : List Value) (stack : List Content) → pushed vs stack ≡ reverse (map Holds vs) ++ stack
pushed_is [] stack = refl
pushed_is (v ∷ vs) stack = pushed_is vs (Holds v ∷ stack) ∙ sym (ap (λ l. l ++ stack) (reverse_onto (map Holds vs) (Holds v) []) ∙ append_assoc (reverse (map Holds vs)) (Holds v ∷ []) stack)

values_back : (vs : List Value) → map value_of_content (map Holds vs) ≡ vs
values_back [] = refl
values_back (v ∷ vs) = ap (λ l. v ∷ l) (values_back vs)

len_map : (vs : List Value) → length (map Holds vs) ≡ length vs
len_map [] = refl
len_map (v ∷ vs) = ap (λ n. suc n) (len_map vs)

len_back : (vs : List Value) → length vs ≡ length (reverse (map Holds vs))
len_back vs = sym (len_map vs) ∙ sym (length-reverse (map Holds vs))

pub taken_is : (vs : List Value) (stack : List Content) → taken (length vs) (pushed vs stack) ≡ vs
taken_is vs stack =
    ap (λ l. map value_of_content (reverse (take (length vs) l))) (pushed_is vs stack)
    ∙ ap (λ n. map value_of_content (reverse (take n (reverse (map Holds vs) ++ stack)))) (len_back vs)
    ∙ ap (λ l. map value_of_content (reverse l)) (take-append_seam (reverse (map Holds vs)) stack)
    ∙ ap (λ l. map value_of_content l) (reverse-reverse (map Holds vs))
    ∙ values_back vs

pub left_is : (vs : List Value) (stack : List Content) → drop (length vs) (pushed vs stack) ≡ stack
left_is vs stack =
    ap (λ l. drop (length vs) l) (pushed_is vs stack) ∙ ap (λ n. drop n (reverse (map Holds vs) ++ stack)) (len_back vs) ∙ drop-append_seam (reverse (map Holds vs)) stack

-- a call has a result where its method has one
abbrev pub Returned : Option SlotKind → Option Value → Type 0
Returned None None = Unit {0}
Returned None (Some v) = ⊥
Returned (Some k) None = ⊥
Returned (Some k) (Some v) = Unit {0}

-- a result on the stack, if there is one
abbrev pub with_result : Option Value → List Content → List Content
with_result None stack = stack
with_result (Some v) stack = Holds v ∷ stack

-- what calls do, and the code of the methods
abbrev pub CallsRun : Code → Program → Calls → Type 0
CallsRun code program calls =
    (callee : MethodId) (method : Method) → method_at program callee ≡ Some method →
    (this : Option ObjId) (arguments : List Value) → length arguments ≡ length method.formals →
    (frames : List StackFrame) (vs : Variables) (t : Tape) →
    Follows (λ ws h. vs ≡ ws) (Returned method.result) 0 1 (from code (calling code callee this arguments frames)) t
    (λ result ws h. from code (handed result frames)) (λ fault ws h p. from code (handed_fault code fault frames)) (calls callee this arguments vs t)

-- the code takes as many arguments as the program's methods have formals
abbrev pub ArityRight : Code → Program → Type 0
ArityRight code program = (callee : MethodId) (method : Method) → method_at program callee ≡ Some method → arity_of code callee ≡ length method.formals

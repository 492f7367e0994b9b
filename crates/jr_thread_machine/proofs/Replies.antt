-- Replies that are none of those that an instruction minds.
use Rattle.std.proofs.Common.{◌≡◌, ℕ, ◌+◌, pos, List, ◌∷◌, Option, refl}
use Rattle.jr_base.specs.declared.number.MethodId.{MethodId}
use Rattle.jr_base.specs.declared.number.ObjId.{ObjId}
use Rattle.jr_base.specs.declared.action.Reply.{Reply}
use Rattle.jr_base.specs.declared.action.Reply.TheVariants as replies
use Rattle.jr_base.specs.declared.value.Value.{Value}
use Rattle.jr_base.specs.declared.value.Value.TheVariants as values
use Rattle.jr_base.specs.declared.finish.Fault.{Fault}
use Rattle.jr_base.specs.Content.{Content, Holds}
use Rattle.jr_code.specs.Instructions.{Code}
use Rattle.jr_code.specs.Machine.{StackFrame, State, on, after_read, after_write, unless_illegal}

pub legal : (code : Code) (below : List StackFrame) (m : MethodId) (this : Option ObjId) (at : ℕ) (locals : List Content) (fault : Fault) (r : Reply) (after : State) →
    (r ≡ replies.Illegal → ⊥) → unless_illegal code below m this at locals fault r after ≡ after
legal code below m this at locals fault replies.Illegal after n = absurd (n refl)
legal code below m this at locals fault replies.Unit after n = refl
legal code below m this at locals fault (replies.Value v) after n = refl
legal code below m this at locals fault (replies.Made o) after n = refl
legal code below m this at locals fault replies.Range after n = refl
legal code below m this at locals fault replies.Nobody after n = refl
legal code below m this at locals fault (replies.Woke g) after n = refl
legal code below m this at locals fault (replies.Started g b) after n = refl

pub written : (code : Code) (below : List StackFrame) (m : MethodId) (this : Option ObjId) (at : ℕ) (stack locals : List Content) (r : Reply) →
    (r ≡ replies.Range → ⊥) → after_write code below m this at stack locals r ≡ on below m this (at + 1) stack locals
written code below m this at stack locals replies.Range n = absurd (n refl)
written code below m this at stack locals replies.Unit n = refl
written code below m this at stack locals (replies.Value v) n = refl
written code below m this at stack locals (replies.Made o) n = refl
written code below m this at stack locals replies.Illegal n = refl
written code below m this at stack locals replies.Nobody n = refl
written code below m this at stack locals (replies.Woke g) n = refl
written code below m this at stack locals (replies.Started g b) n = refl

pub nothing_read : (code : Code) (below : List StackFrame) (m : MethodId) (this : Option ObjId) (at : ℕ) (stack locals : List Content) (r : Reply) →
    ((v : Value) → r ≡ replies.Value v → ⊥) → (r ≡ replies.Range → ⊥) →
    after_read code below m this at stack locals r ≡ on below m this (at + 1) (Holds (values.Int (pos 0)) ∷ stack) locals
nothing_read code below m this at stack locals replies.Range k n = absurd (n refl)
nothing_read code below m this at stack locals (replies.Value v) k n = absurd (k v refl)
nothing_read code below m this at stack locals replies.Unit k n = refl
nothing_read code below m this at stack locals (replies.Made o) k n = refl
nothing_read code below m this at stack locals replies.Illegal k n = refl
nothing_read code below m this at stack locals replies.Nobody k n = refl
nothing_read code below m this at stack locals (replies.Woke g) k n = refl
nothing_read code below m this at stack locals (replies.Started g b) k n = refl

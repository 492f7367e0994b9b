-- From what a call found of the kinds to what an instruction does to them.
use Rattle.std.proofs.Common.{◌≡◌, ℕ, zero, suc, ◌<◌, length, refl, arith, Bool, true, false, List, [], ◌∷◌, Option, Some, None, sym, subst}
use Rattle.std.specs.Prelude.{Result, IfOk, slice_get, option_map}
use Rattle.std.specs.Option.{option_map_or}
use Rattle.jr_base.specs.declared.kind.SlotKind.{SlotKind}
use Rattle.jr_base.specs.declared.kind.SlotKind.TheVariants.{Int, Ref as Reference}
use Rattle.jr_base.specs.declared.action.Elem.{Elem}
use Rattle.jr_arith.specs.Kinds.{kind_of_element}
use Rattle.jr_code.specs.declared.instruction.Instruction.{Instruction as Row}
use Rattle.jr_code.specs.Instructions.{Instruction, GetElement, MakeArray, Unknown, MethodCode, Code}
use Rattle.jr_code.specs.Coded.{Tables}
use Rattle.jr_code.specs.Decoded.{meaning}
use Rattle.jr_code.specs.Checked.{Effect}
use Rattle.jr_code.specs.Verifier.{Changes, HasChanged, HasEffect}
use Rattle.jr_code.proofs.Fields.{ok_map}

pub of_row : {E : Type 0} (t : Tables) (code : Code) (c : MethodCode) (before after : List SlotKind) (r : Result Bool E) (i j : Row) → i ≡ j →
    IfOk r (HasEffect code c (meaning t j) before after) → IfOk r (HasEffect code c (meaning t i) before after)
of_row t code c before after r i j e h = subst (λ i. IfOk r (HasEffect code c (meaning t i) before after)) (sym e) h

pub there : {A : Type 0} (xs : List A) (n : ℕ) → n < length xs → (x : A) × (slice_get xs n ≡ Some x)
there [] n h = absurd (omega arith)
there (x ∷ xs) zero h = (x, refl)
there (x ∷ xs) (suc n) h = there xs n (omega arith)

-- a row that takes and gives these kinds
changes_as : (code : Code) (c : MethodCode) (i : Instruction) (takes : List SlotKind) (gives : Option SlotKind) (before after : List SlotKind) →
    ((a : List SlotKind) → Changes takes gives before a → Effect code c i before a) →
    ((a : List SlotKind) → Effect code c i before a → Changes takes gives before a) →
    (r : Bool) → HasChanged takes gives before after r → HasEffect code c i before after r
changes_as code c i takes gives before after there back true h = there after h
changes_as code c i takes gives before after there back false h = λ other e. h other (back other e)

pub changed : {E : Type 0} (code : Code) (c : MethodCode) (i : Instruction) (takes : List SlotKind) (gives : Option SlotKind) (before after : List SlotKind) →
    ((a : List SlotKind) → Changes takes gives before a → Effect code c i before a) →
    ((a : List SlotKind) → Effect code c i before a → Changes takes gives before a) →
    (r : Result Bool E) → IfOk r (HasChanged takes gives before after) → IfOk r (HasEffect code c i before after)
changed code c i takes gives before after there back r h =
    ok_map (HasChanged takes gives before after) (HasEffect code c i before after) r (changes_as code c i takes gives before after there back) h

pub reads_element : {E : Type 0} (code : Code) (c : MethodCode) (o : Option Elem) (kind : SlotKind) (before after : List SlotKind) (r : Result Bool E) →
    Some kind ≡ option_map kind_of_element o → IfOk r (HasChanged (Reference ∷ Int ∷ []) (Some kind) before after) →
    IfOk r (HasEffect code c (option_map_or GetElement o Unknown) before after)
reads_element code c None kind before after r e h = absurd (cc)
reads_element code c (Some element) kind before after r e h =
    let same : kind ≡ kind_of_element element = cc in
    changed code c (GetElement element) (Reference ∷ Int ∷ []) (Some (kind_of_element element)) before after (λ a x. x) (λ a x. x) r
    (subst (λ k. IfOk r (HasChanged (Reference ∷ Int ∷ []) (Some k) before after)) same h)

pub makes_array : {E : Type 0} (code : Code) (c : MethodCode) (o : Option Elem) (element : Elem) (before after : List SlotKind) (r : Result Bool E) →
    o ≡ Some element → IfOk r (HasChanged (Int ∷ []) (Some Reference) before after) →
    IfOk r (HasEffect code c (option_map_or MakeArray o Unknown) before after)
makes_array code c o element before after r e h =
    subst (λ o. IfOk r (HasEffect code c (option_map_or MakeArray o Unknown) before after)) (sym e)
    (changed code c (MakeArray element) (Int ∷ []) (Some Reference) before after (λ a x. x) (λ a x. x) r h)

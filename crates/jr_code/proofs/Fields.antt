-- What reading an instance field takes and gives.
use Rattle.std.proofs.Common.{◌≡◌, ◌≢◌, ℕ, Bool, true, false, List, [], ◌∷◌, Option, Some, None, Ok, Err, sym, ap, ◌∙◌}
use Rattle.std.specs.Prelude.{Result, IfOk}
use Rattle.std.specs.Option.{option_map_or}
use Rattle.jr_base.specs.declared.number.ObjId.{ObjId}
use Rattle.jr_base.specs.declared.kind.SlotKind.{SlotKind}
use Rattle.jr_base.specs.declared.kind.SlotKind.TheVariants.{Int, Long, Bool as Boolean, Ref as Reference, Caught as CaughtKind}
use Rattle.jr_code.specs.Instructions.{GetField, Unknown, MethodCode, Code}
use Rattle.jr_code.specs.Coded.{FieldCode, instance_field}
use Rattle.jr_code.specs.Verifier.{HasChanged, HasEffect, value_kind, instance_kind}

pub value_of : (k kind : SlotKind) → value_kind k ≡ Some kind → (k ≡ kind) × (k ≢ CaughtKind)
value_of Int kind e = (cc, λ h. cc)
value_of Long kind e = (cc, λ h. cc)
value_of Boolean kind e = (cc, λ h. cc)
value_of Reference kind e = (cc, λ h. cc)
value_of CaughtKind kind e = absurd (cc)

read_one : (code : Code) (c : MethodCode) (slot : ℕ) (k kind : SlotKind) (before after : List SlotKind) (r : Bool) →
    (k ≡ kind) × (k ≢ CaughtKind) → HasChanged (Reference ∷ []) (Some kind) before after r → HasEffect code c (GetField slot k) before after r
read_one code c slot k kind before after true v h = (h.0, h.1, h.2 ∙ ap (λ k. k ∷ h.0) (sym v.0), v.1)
read_one code c slot k kind before after false v h = λ other e. h other (e.0, e.1, e.2 ∙ ap (λ k. k ∷ e.0) v.0)

read_home : (code : Code) (c : MethodCode) (home : Option ObjId) (slot : ℕ) (k kind : SlotKind) (before after : List SlotKind) (r : Bool) →
    option_map_or (λ (home : ObjId). None) home (value_kind k) ≡ Some kind → HasChanged (Reference ∷ []) (Some kind) before after r →
    HasEffect code c (option_map_or (λ (home : ObjId). Unknown) home (GetField slot k)) before after r
read_home code c (Some home) slot k kind before after r e h = absurd (cc)
read_home code c None slot k kind before after r e h = read_one code c slot k kind before after r (value_of k kind e) h

pub read_instance : (code : Code) (c : MethodCode) (o : Option FieldCode) (kind : SlotKind) (before after : List SlotKind) (r : Bool) →
    instance_kind o ≡ Some kind → HasChanged (Reference ∷ []) (Some kind) before after r →
    HasEffect code c (option_map_or (instance_field GetField) o Unknown) before after r
read_instance code c None kind before after r e h = absurd (cc)
read_instance code c (Some f) kind before after r e h = read_home code c f.home f.slot f.kind kind before after r e h

pub ok_map : {E : Type 0} (P Q : Bool → Type 0) (r : Result Bool E) → ((b : Bool) → P b → Q b) → IfOk r P → IfOk r Q
ok_map P Q (Ok b) f h = f b h
ok_map P Q (Err e) f h = tt

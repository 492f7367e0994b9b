-- What calls and prints take and give.
use Rattle.std.proofs.Common.{◌≡◌, ℕ, Bool, true, false, List, ◌∷◌, ◌++◌, Option, Some, None, sym, ap, ◌∙◌}
use Rattle.std.specs.Prelude.{slice_get, option_map}
use Rattle.std.specs.Option.{option_map_or}
use Rattle.std.proofs.lemmas.Option.{slice_get-map}
use Rattle.jr_base.specs.declared.number.MethodId.{MethodId}
use Rattle.jr_base.specs.declared.number.TextId.{TextId}
use Rattle.jr_base.specs.declared.kind.SlotKind.{SlotKind}
use Rattle.jr_base.specs.declared.kind.SlotKind.TheVariants.{Ref as Reference}
use Rattle.jr_code.specs.declared.code.Code.{Code as CodeOfLists}
use Rattle.jr_code.specs.declared.code.MethodCode.{MethodCode as MethodOfLists}
use Rattle.jr_code.specs.Instructions.{CallStaticMethod, CallMethodOn, PrintAll, Unknown, MethodCode, Code}
use Rattle.jr_code.specs.Machine.{method_code_at, values_printed}
use Rattle.jr_code.specs.Checked.{this_kind, kinds_pushed, kinds_with, Effect}
use Rattle.jr_code.specs.Views.{tables_of, method_of, plain_of}
use Rattle.jr_code.specs.WellFormed.{plain_method}
use Rattle.jr_code.specs.Verifier.{HasCalled, HasTakenValues, HasEffect}

plain_there : (code : CodeOfLists) (m : MethodId) (o : Option MethodOfLists) → slice_get code.methods.items m.0 ≡ o →
    method_code_at (plain_of code) m ≡ option_map (plain_method code) o
plain_there code m o e = slice_get-map (method_of (tables_of code)) code.methods.items m.0 ∙ ap (option_map (plain_method code)) e

same_some : {A : Type 0} (a b : A) → Some a ≡ Some b → a ≡ b
same_some a b e = cc

pub nowhere : (code : CodeOfLists) (m : MethodId) → slice_get code.methods.items m.0 ≡ None → (d : MethodCode) → method_code_at (plain_of code) m ≡ Some d → ⊥
nowhere code m e d h = let n = plain_there code m None e in cc

same_method : (code : CodeOfLists) (m : MethodId) (l : MethodOfLists) (d : MethodCode) → slice_get code.methods.items m.0 ≡ Some l →
    method_code_at (plain_of code) m ≡ Some d → plain_method code l ≡ d
same_method code m l d e h = same_some (plain_method code l) d (sym (plain_there code m (Some l) e) ∙ h)

pub static_of : (code : CodeOfLists) (m : MethodId) (l : MethodOfLists) (d : MethodCode) → slice_get code.methods.items m.0 ≡ Some l →
    method_code_at (plain_of code) m ≡ Some d → l.is_static ≡ d.is_static
static_of code m l d e h = ap (λ (d : MethodCode). d.is_static) (same_method code m l d e h)

pub calls_static : (code : CodeOfLists) (c : MethodCode) (m : MethodId) (l : MethodOfLists) (before after : List SlotKind) (r : Bool) →
    slice_get code.methods.items m.0 ≡ Some l → l.is_static ≡ true → HasCalled (this_kind l.is_static ++ l.formals.items) l.result before after r →
    HasEffect (plain_of code) c (CallStaticMethod m) before after r
calls_static code c m l before after true e s h = (
  plain_method code l,
  h.0,
  plain_there code m (Some l) e,
  s,
  h.1 ∙ ap (λ s. kinds_pushed (this_kind s ++ l.formals.items) h.0) s,
  h.2,
)
calls_static code c m l before after false e s h = λ other w.
    let same = same_method code m l w.0 e w.2 in
    h other (
      w.1,
      w.4 ∙ ap (λ (d : MethodCode). kinds_pushed d.formals w.1) (sym same) ∙ ap (λ s. kinds_pushed (this_kind s ++ l.formals.items) w.1) (sym s),
      w.5 ∙ ap (λ (d : MethodCode). kinds_with d.result w.1) (sym same),
    )

pub calls_on : (code : CodeOfLists) (c : MethodCode) (m : MethodId) (l : MethodOfLists) (before after : List SlotKind) (r : Bool) →
    slice_get code.methods.items m.0 ≡ Some l → l.is_static ≡ false → HasCalled (this_kind l.is_static ++ l.formals.items) l.result before after r →
    HasEffect (plain_of code) c (CallMethodOn m) before after r
calls_on code c m l before after true e s h = (
  plain_method code l,
  h.0,
  plain_there code m (Some l) e,
  s,
  h.1 ∙ ap (λ s. kinds_pushed (this_kind s ++ l.formals.items) h.0) s,
  h.2,
)
calls_on code c m l before after false e s h = λ other w.
    let same = same_method code m l w.0 e w.2 in
    h other (
      w.1,
      w.4 ∙ ap (λ (d : MethodCode). kinds_pushed d.formals (Reference ∷ w.1)) (sym same) ∙ ap (λ s. kinds_pushed (this_kind s ++ l.formals.items) w.1) (sym s),
      w.5 ∙ ap (λ (d : MethodCode). kinds_with d.result w.1) (sym same),
    )

pub prints_values : (code : Code) (c : MethodCode) (o : Option (List (Option TextId))) (n : ℕ) (before after : List SlotKind) (r : Bool) →
    Some n ≡ option_map values_printed o → HasTakenValues n before after r → HasEffect code c (option_map_or PrintAll o Unknown) before after r
prints_values code c None n before after r e h = absurd (cc)
prints_values code c (Some parts) n before after true e h =
    let same : n ≡ values_printed parts = cc in (h.0, h.1 ∙ same, h.2, h.3)
prints_values code c (Some parts) n before after false e h =
    let same : n ≡ values_printed parts = cc in λ other w. h other (w.0, w.1 ∙ sym same, w.2, w.3)

pub prints_nothing : (code : Code) (c : MethodCode) (o : Option (List (Option TextId))) (before after : List SlotKind) →
    None ≡ option_map values_printed o → Effect code c (option_map_or PrintAll o Unknown) before after → ⊥
prints_nothing code c None before after e h = h
prints_nothing code c (Some parts) before after e h = absurd (cc)

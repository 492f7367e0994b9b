-- Clauses judged one after the other.
use Rattle.std.proofs.Common.{◌≡◌, ◌+◌, ◌++◌, ℕ, zero, suc, List, [], ◌∷◌, Option, Some, None, Result, Ok, Err, OnOk, map, take, slice_get, refl, sym, ap, ◌∙◌, append_assoc, add-one}
use Rattle.std.proofs.lemmas.List.{map-append}
use Rattle.std.specs.Option.{option_map_or}
use Rattle.jr_base.specs.declared.number.ClauseId.{ClauseId}
use Rattle.jr_base.specs.declared.number.ObjId.{ObjId}
use Rattle.jr_base.specs.declared.finish.Verdict.{Verdict}
use Rattle.jr_base.specs.declared.finish.Verdict.TheVariants.{Undefined}
use Rattle.jr_program.specs.Clauses.{Clause}
use Rattle.jr_program.specs.Programs.{Program, clause_at}
use Rattle.jr_meaning.specs.Heap.{Heap}
use Rattle.jr_meaning.specs.Worth.{Environment, Setting}
use Rattle.jr_meaning.specs.Judge.{clause_value}
use Rattle.jr_clause_eval.specs.Scenes.{owned_in}
use Rattle.jr_drive.specs.Moment.{moment_setting, moment_value}

same : {A : Type 0} (x y : A) → Some x ≡ Some y → x ≡ y
same x y e = cc

take-next : {A : Type 0} (xs : List A) (k : ℕ) (x : A) → slice_get xs k ≡ Some x → take (suc k) xs ≡ take k xs ++ x ∷ []
take-next [] zero x at = cc
take-next [] (suc k) x at = cc
take-next (y ∷ xs) zero x at = ap (λ z. z ∷ []) (same y x at)
take-next (y ∷ xs) (suc k) x at = ap (λ zs. y ∷ zs) (take-next xs k x at)

-- one item more
pub each_more : {A B : Type 0} (f : A → B) (xs : List A) (k : ℕ) (x : A) (before now new : List B) →
    slice_get xs k ≡ Some x → now ≡ before ++ map f (take k xs) → new ≡ now ++ f x ∷ [] → new ≡ before ++ map f (take (k + 1) xs)
each_more f xs k x before now new at so added =
    added ∙ ap (λ vs. vs ++ f x ∷ []) so ∙ append_assoc before (map f (take k xs)) (f x ∷ [])
    ∙ ap (λ vs. before ++ vs) (sym (map-append f (take k xs) (x ∷ [])) ∙ ap (map f) (sym (take-next xs k x at) ∙ ap (λ n. take n xs) (sym (add-one k))))

-- where no monitor is owned
pub worth_here : (program : Program) (heap : Heap) (environment : Environment) (number : ClauseId) (clause : Clause) (locks : List ObjId) (value : Verdict) →
    clause_at program number ≡ Some clause → locks ≡ [] →
    value ≡ clause_value (record { environment = environment; heap = heap; old = heap; owned = owned_in locks; bound = [] }) clause →
    value ≡ moment_value program heap environment number
worth_here program heap environment number clause locks value at none e =
    e ∙ ap (λ ls. clause_value (record (moment_setting heap environment) { owned = owned_in ls }) clause) none
    ∙ ap (λ found. option_map_or (clause_value (moment_setting heap environment)) found Undefined) (sym at)

pub on_ok : {A E : Type 0} (r : Result A E) (P Q : Type 0) → (P → Q) → OnOk r P → OnOk r Q
on_ok (Ok a) P Q go p = go p
on_ok (Err e) P Q go p = tt

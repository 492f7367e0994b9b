-- What is due at the call and at the return of a method, from its pieces.
use Rattle.std.proofs.Common.{◌≡◌, Bool, true, false, cond, List, [], ◌∷◌, ◌++◌, refl, sym, ap, ◌∙◌, append_assoc, append-nil}
use Rattle.jr_base.specs.declared.number.ClauseId.{ClauseId}

pub call_joined : (a b : List ClauseId) → a ++ (b ++ []) ≡ a ++ b
call_joined a b = ap (λ l. a ++ l) (append-nil b)

pub leave_joined : (helper : Bool) (w e i c a : List ClauseId) → w ++ (e ++ (cond helper [] i ++ (cond helper [] c ++ (a ++ [])))) ≡ w ++ e ++ cond helper [] (i ++ c) ++ a
leave_joined true w e i c a = ap (λ l. w ++ (e ++ l)) (append-nil a) ∙ sym (append_assoc w e a) ∙ ap (λ l. l ++ a) (sym (append-nil (w ++ e)))
leave_joined false w e i c a =
    ap (λ l. w ++ (e ++ (i ++ (c ++ l)))) (append-nil a)
    ∙ ap (λ l. w ++ (e ++ l)) (sym (append_assoc i c a)) ∙ sym (append_assoc w e ((i ++ c) ++ a)) ∙ sym (append_assoc (w ++ e) (i ++ c) a)

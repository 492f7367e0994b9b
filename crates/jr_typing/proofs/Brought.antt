-- Arguments that are brought to the types of their formals, from left to right.
use Rattle.std.proofs.Common.{◌≡◌, suc, List, [], ◌∷◌, ◌++◌, Option, Some, None, length, map, slice_get, refl, sym, ap, ◌∙◌}
use Rattle.jr_program.specs.Programs.{Expr}
use Rattle.jr_program.specs.ExprViews.{view_expr}
use Rattle.jr_program.specs.declared.expr.TypedExpr.{TypedExpr}
use Rattle.jr_typing_rules.specs.declared.words.ValueType.{ValueType}
use Rattle.jr_typing_rules.specs.declared.words.Head.{Head}
use Rattle.jr_typing_rules.specs.Denotations.{brought, all_brought}
use Rattle.std.proofs.lemmas.List.{length-map}
use Rattle.jr_typing.specs.Paired.{paired}
use Rattle.jr_typing.proofs.Lists.{map_append}

pub none_brought : (ts : List ValueType) (hs : List Head) → all_brought ts hs [] ≡ []
none_brought [] hs = refl
none_brought (t ∷ ts) [] = refl
none_brought (t ∷ ts) (h ∷ hs) = refl

one_more : (ts : List ValueType) (hs : List Head) (es : List Expr) (e : Expr) (t : ValueType) (h : Head)
    → slice_get ts (length (all_brought ts hs es)) ≡ Some t → slice_get hs (length (all_brought ts hs es)) ≡ Some h
    → all_brought ts hs (es ++ e ∷ []) ≡ all_brought ts hs es ++ brought h.of t e ∷ []
one_more [] hs es e t h ist ish = absurd (cc)
one_more (u ∷ ts) [] es e t h ist ish = absurd (cc)
one_more (u ∷ ts) (g ∷ hs) [] e t h ist ish = ap (λ xs. brought g.of u e ∷ xs) (none_brought ts hs) ∙ (cc)
one_more (u ∷ ts) (g ∷ hs) (x ∷ es) e t h ist ish = ap (λ xs. brought g.of u x ∷ xs) (one_more ts hs es e t h ist ish)

no_formal : (ts : List ValueType) (hs : List Head) (es : List Expr) (e : Expr) → slice_get ts (length (all_brought ts hs es)) ≡ None
    → all_brought ts hs (es ++ e ∷ []) ≡ all_brought ts hs es
no_formal [] hs es e ist = refl
no_formal (u ∷ ts) [] es e ist = refl
no_formal (u ∷ ts) (g ∷ hs) [] e ist = absurd (cc)
no_formal (u ∷ ts) (g ∷ hs) (x ∷ es) e ist = ap (λ xs. brought g.of u x ∷ xs) (no_formal ts hs es e ist)

no_head : (ts : List ValueType) (hs : List Head) (es : List Expr) (e : Expr) → slice_get hs (length (all_brought ts hs es)) ≡ None
    → all_brought ts hs (es ++ e ∷ []) ≡ all_brought ts hs es
no_head [] hs es e ish = refl
no_head (u ∷ ts) [] es e ish = refl
no_head (u ∷ ts) (g ∷ hs) [] e ish = absurd (cc)
no_head (u ∷ ts) (g ∷ hs) (x ∷ es) e ish = ap (λ xs. brought g.of u x ∷ xs) (no_head ts hs es e ish)

-- ---- the turns of the loop: what is made so far, of the arguments so far

as_long : (ts : List ValueType) (hs : List Head) (made given : List TypedExpr) → map view_expr made ≡ all_brought ts hs (map view_expr given)
    → length made ≡ length (all_brought ts hs (map view_expr given))
as_long ts hs made given so_far = sym (length-map made view_expr) ∙ ap (λ es. length es) so_far

-- with an argument more, of which it is known whether it has a formal
more : (ts : List ValueType) (hs : List Head) (es : List Expr) (e y : Expr) (t : Option ValueType) (h : Option Head)
    → slice_get ts (length (all_brought ts hs es)) ≡ t → slice_get hs (length (all_brought ts hs es)) ≡ h
    → Some y ≡ paired t h e → all_brought ts hs es ++ y ∷ [] ≡ all_brought ts hs (es ++ e ∷ [])
more ts hs es e y (Some t) (Some h) ist ish is = ap (λ z. all_brought ts hs es ++ z ∷ []) (cc) ∙ sym (one_more ts hs es e t h ist ish)
more ts hs es e y (Some t) None ist ish is = absurd (cc)
more ts hs es e y None h ist ish is = absurd (cc)

none_more : (ts : List ValueType) (hs : List Head) (es : List Expr) (e : Expr) (t : Option ValueType) (h : Option Head)
    → slice_get ts (length (all_brought ts hs es)) ≡ t → slice_get hs (length (all_brought ts hs es)) ≡ h
    → None ≡ paired t h e → all_brought ts hs es ≡ all_brought ts hs (es ++ e ∷ [])
none_more ts hs es e (Some t) (Some h) ist ish is = absurd (cc)
none_more ts hs es e (Some t) None ist ish is = sym (no_head ts hs es e ish)
none_more ts hs es e None h ist ish is = sym (no_formal ts hs es e ist)

pub argument_brought : (ts : List ValueType) (hs : List Head) (made given : List TypedExpr) (e x : TypedExpr)
    → map view_expr made ≡ all_brought ts hs (map view_expr given)
    → Some (view_expr x) ≡ paired (slice_get ts (length made)) (slice_get hs (length made)) (view_expr e)
    → map view_expr (made ++ x ∷ []) ≡ all_brought ts hs (map view_expr (given ++ e ∷ []))
argument_brought ts hs made given e x so_far is =
    let n = as_long ts hs made given so_far in
    map_append view_expr made x
    ∙ ap (λ es. es ++ view_expr x ∷ []) so_far
    ∙ more ts hs (map view_expr given) (view_expr e) (view_expr x) (slice_get ts (length made)) (slice_get hs (length made))
    (ap (λ k. slice_get ts k) (sym n)) (ap (λ k. slice_get hs k) (sym n)) is
    ∙ ap (λ es. all_brought ts hs es) (sym (map_append view_expr given e))

pub argument_missing : (ts : List ValueType) (hs : List Head) (made given : List TypedExpr) (e : TypedExpr)
    → map view_expr made ≡ all_brought ts hs (map view_expr given)
    → None ≡ paired (slice_get ts (length made)) (slice_get hs (length made)) (view_expr e)
    → map view_expr made ≡ all_brought ts hs (map view_expr (given ++ e ∷ []))
argument_missing ts hs made given e so_far is =
    let n = as_long ts hs made given so_far in
    so_far
    ∙ none_more ts hs (map view_expr given) (view_expr e) (slice_get ts (length made)) (slice_get hs (length made))
    (ap (λ k. slice_get ts k) (sym n)) (ap (λ k. slice_get hs k) (sym n)) is
    ∙ ap (λ es. all_brought ts hs es) (sym (map_append view_expr given e))

-- The last of what follows a primary tells whether there is an effect.
use Rattle.std.proofs.Common.{◌≡◌, ℕ, zero, suc, ◌+◌, ◌-◌, ◌≤◌, Bool, List, [], ◌∷◌, ◌++◌, length, get_or, map, refl, sym, ap, ◌∙◌, arith}
use Rattle.jr_base.specs.declared.number.Span.{Span}
use Rattle.jr_ast.specs.declared.expr.Shape.{Shape}
use Rattle.jr_ast.specs.declared.expr.Shape.TheVariants as shape
use Rattle.jr_ast.specs.declared.expr.Suffix.{Suffix}
use Rattle.jr_ast.specs.Expressions.{Expr, applied, onto, view_shape, view_suffix}
use Rattle.jr_ast.proofs.Views.{view_suffixed, onto_append}
use Rattle.jr_stmt_parser.specs.Grammar.{has_effect}

last_of : (n : ℕ) (ss : List Suffix) (s : Suffix) → n + 1 ≡ length ss → s ≡ get_or ss n s → (front : List Suffix) × (ss ≡ front ++ s ∷ [])
last_of zero [] s e h = absurd (omega arith)
last_of zero (x ∷ []) s e h = ([], ap (λ x. x ∷ []) (sym h))
last_of zero (x ∷ y ∷ ss) s e h = absurd (omega arith)
last_of (suc n) [] s e h = absurd (omega arith)
last_of (suc n) (x ∷ ss) s e h = let r = last_of n ss s (omega arith) h in (x ∷ r.0, ap (λ ss. x ∷ ss) r.1)

map_last : (ss : List Suffix) (s : Suffix) → map view_suffix (ss ++ s ∷ []) ≡ map view_suffix ss ++ view_suffix s ∷ []
map_last [] s = refl
map_last (x ∷ ss) s = ap (λ ss. view_suffix x ∷ ss) (map_last ss s)

pub by_last : (r : Bool) (p : Shape) (ss xs : List Suffix) (s : Suffix) (whole : Shape) → whole ≡ shape.Suffixed p ss → xs ≡ ss → s ≡ get_or xs (length xs - 1) s → 1 ≤ length xs → ((at : Span) (e : Expr) → r ≡ has_effect (applied at e (view_suffix s))) → (at : Span) → r ≡ has_effect (view_shape whole at)
by_last r p ss xs s whole is same last some told at =
    let f = last_of (length xs - 1) xs s (omega arith) last in
    let split : ss ≡ f.0 ++ s ∷ [] = sym same ∙ f.1 in
    let seen : view_shape whole at ≡ applied at (onto at (view_shape p at) (map view_suffix f.0)) (view_suffix s) =
    ap (λ w. view_shape w at) is ∙ (view_suffixed p ss at ∙ (ap (λ ss. onto at (view_shape p at) (map view_suffix ss)) split ∙ (ap (onto at (view_shape p at)) (map_last f.0 s) ∙ onto_append at (view_shape p at) (map view_suffix f.0) (view_suffix s)))) in
    told at (onto at (view_shape p at) (map view_suffix f.0)) ∙ sym (ap has_effect seen)

-- A `wait`, with or without its time.
use Rattle.std.proofs.Common.{◌≡◌, List, [], ◌∷◌, Some, length, map, slice_get, refl, ap, arith}
use Rattle.jr_base.specs.declared.kind.ObjectCall.{ObjectCall}
use Rattle.jr_program.specs.Programs.{Expr, CallObject, WaitFor}
use Rattle.jr_program.specs.ExprViews.{view_expr}
use Rattle.jr_program.specs.declared.expr.TypedExpr.{TypedExpr}
use Rattle.jr_typing_rules.specs.Denotations.{monitor_invoked}

pub no_time : (call : ObjectCall) (o : Expr) (es : List TypedExpr) → length es ≡ 0 → monitor_invoked call o (map view_expr es) ≡ CallObject call o
no_time call o [] none = refl
no_time call o (e ∷ es) none = absurd (omega arith)

pub some_time : (call : ObjectCall) (o : Expr) (es : List TypedExpr) (e : TypedExpr) → slice_get es 0 ≡ Some e → monitor_invoked call o (map view_expr es) ≡ WaitFor o (view_expr e)
some_time call o [] e is = absurd (cc)
some_time call o (d ∷ es) e is = ap (λ (x : TypedExpr). WaitFor o (view_expr x)) (cc)

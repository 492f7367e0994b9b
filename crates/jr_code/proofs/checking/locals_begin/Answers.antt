use Rattle.std.proofs.Common.{◌-◌, refl, length, drop, take}
use Rattle.std.proofs.lemmas.Slice.Eq.{starts_is}
use Rattle.jr_code.proofs.Stacks.{kinds_decide}
use Rattle.jr_code.proofs.Methods.{begins_static, begins_on, first_of, whole}
use Rattle.jr_code.proofs.checking.locals_begin.Goals as goal

pub returns-then-method : goal.returns-then-method
returns-then-method c =
    begins_static c.args.method.now c.starts_with.result c.if-method.true
    (rw (c.as_slice-formals.ensures, c.as_slice-locals.ensures) at (starts_is kinds_decide c.as_slice-locals.result.now c.as_slice-formals.result.now c.starts_with.result c.starts_with.ensures.value))

pub returns : goal.returns
returns c =
    begins_on c.args.method.now c.starts_with-2.result (drop 1 c.args.method.now.locals.items) c.if-method.false
    (first_of c.args.method.now.locals.items (c.if-not-is_reference.ensures.0 refl))
    (rw (c.as_slice-formals.ensures, c.as_slice-locals.ensures, whole c.args.method.now.locals.items) at
    (starts_is kinds_decide (take (length c.as_slice-locals.result.now - 1) (drop 1 c.as_slice-locals.result.now)) c.as_slice-formals.result.now c.starts_with-2.result c.starts_with-2.ensures.value))

-- Each type of a typed program may be sent to another thread, and be shared by several.
use denote.Param.Send.{IsSend, IsSync, struct_send, struct_sync, sendable}
use denote.Struct.Declared.{shape}
use Rattle.std.proofs.option.Option.TheSendSync as option
use Rattle.sqlite_items.proofs.items.Items.TheSendSync as items
use Rattle.sqlite_items.proofs.boxed.Boxed.TheSendSync as boxed
use Rattle.jr_base.proofs.action.Elem.TheSendSync as elem
use Rattle.jr_base.proofs.finish.Fault.TheSendSync as fault
use Rattle.jr_base.proofs.kind.ObjectCall.TheSendSync as object_call
use Rattle.jr_base.proofs.kind.SlotKind.TheSendSync as slot_kind
use Rattle.jr_base.proofs.value.Cell.TheSendSync as cell
use Rattle.jr_arith.proofs.operator.Width.TheSendSync as width
use Rattle.jr_arith.proofs.operator.Unary.TheSendSync as unary
use Rattle.jr_arith.proofs.operator.Binary.TheSendSync as binary
use Rattle.jr_program.specs.contracts.expr.TypedExpr as TypedExpr
use Rattle.jr_program.specs.contracts.expr.TypedCall as TypedCall
use Rattle.jr_program.specs.contracts.expr.Effect as Effect
use Rattle.jr_program.specs.contracts.stmt.TypedPart as TypedPart
use Rattle.jr_program.specs.contracts.stmt.TypedStmt as TypedStmt
use Rattle.jr_program.specs.contracts.clause.ClauseExpr as ClauseExpr
use Rattle.jr_program.specs.contracts.clause.TypedSpec as TypedSpec
use Rattle.jr_program.specs.contracts.parts.TypedMethod as TypedMethod
use Rattle.jr_program.specs.contracts.parts.UnitParts as UnitParts
use Rattle.jr_program.specs.contracts.unit.TypedUnit as TypedUnit
use Rattle.jr_program.proofs.expr.TypedShape.TheLaws.TheKnot as expr
use Rattle.jr_program.proofs.stmt.TypedForm.TheLaws.TheKnot as stmt
use Rattle.jr_program.proofs.clause.ClauseShape.TheLaws.TheKnot as clause
use Rattle.jr_program.proofs.words.ClauseKind.TheSendSync as kind
use Rattle.jr_program.proofs.words.Owner.TheSendSync as owner
use Rattle.jr_program.proofs.words.Mode.TheSendSync as mode
use Rattle.jr_program.proofs.words.Bound.TheSendSync as bound
use Rattle.jr_program.proofs.words.Quantifier.TheSendSync as quantifier
use Rattle.jr_program.proofs.due.DueList.TheSendSync as due
use Rattle.jr_program.proofs.parts.TypedClass.TheSendSync as class
use Rattle.jr_program.proofs.parts.TypedField.TheSendSync as field
use Rattle.jr_program.proofs.parts.TypedNote.TheSendSync as note

ruleset send = (
  sendable,
  option.the_field_send,
  items.the_send,
  boxed.the_send,
  elem.the_field_send,
  fault.the_field_send,
  object_call.the_field_send,
  slot_kind.the_field_send,
  cell.the_field_send,
  width.the_field_send,
  unary.the_field_send,
  binary.the_field_send,
  kind.the_field_send,
  owner.the_field_send,
  mode.the_field_send,
  bound.the_field_send,
  quantifier.the_field_send,
  due.the_send,
)

ruleset sync = (
  sendable,
  option.the_field_sync,
  items.the_sync,
  boxed.the_sync,
  elem.the_field_sync,
  fault.the_field_sync,
  object_call.the_field_sync,
  slot_kind.the_field_sync,
  cell.the_field_sync,
  width.the_field_sync,
  unary.the_field_sync,
  binary.the_field_sync,
  kind.the_field_sync,
  owner.the_field_sync,
  mode.the_field_sync,
  bound.the_field_sync,
  quantifier.the_field_sync,
  due.the_sync,
)

expr_send : IsSend (TypedExpr.the_field).row
expr_send = search (send, expr.crosses) depth 20

expr_sync : IsSync (TypedExpr.the_field).row
expr_sync = search (sync, expr.crosses) depth 20

call_send : IsSend (TypedCall.the_field).row
call_send = search (send, expr_send) depth 20

call_sync : IsSync (TypedCall.the_field).row
call_sync = search (sync, expr_sync) depth 20

effect_send : IsSend (Effect.the_field).row
effect_send = search (send, expr_send, call_send) depth 20

effect_sync : IsSync (Effect.the_field).row
effect_sync = search (sync, expr_sync, call_sync) depth 20

part_send : IsSend (TypedPart.the_field).row
part_send = search (send, expr_send) depth 20

part_sync : IsSync (TypedPart.the_field).row
part_sync = search (sync, expr_sync) depth 20

stmt_send : IsSend (TypedStmt.the_field).row
stmt_send = search (send, expr_send, effect_send, part_send, stmt.crosses) depth 20

stmt_sync : IsSync (TypedStmt.the_field).row
stmt_sync = search (sync, expr_sync, effect_sync, part_sync, stmt.crosses) depth 20

clause_send : IsSend (ClauseExpr.the_field).row
clause_send = search (send, clause.crosses) depth 20

clause_sync : IsSync (ClauseExpr.the_field).row
clause_sync = search (sync, clause.crosses) depth 20

spec_send : IsSend (TypedSpec.the_field).row
spec_send = search (send, clause_send) depth 20

spec_sync : IsSync (TypedSpec.the_field).row
spec_sync = search (sync, clause_sync) depth 20

method_send : IsSend (TypedMethod.the_field).row
method_send = struct_send (shape TypedMethod.the_type)
    (search send, (search send, (search send, (search send, (search send, (search send, (search send, (search send, (search send, (stmt_send, (due.the_send, (due.the_send, (due.the_send, (due.the_send, tt))))))))))))))

method_sync : IsSync (TypedMethod.the_field).row
method_sync = struct_sync (shape TypedMethod.the_type)
    (search sync, (search sync, (search sync, (search sync, (search sync, (search sync, (search sync, (search sync, (search sync, (stmt_sync, (due.the_sync, (due.the_sync, (due.the_sync, (due.the_sync, tt))))))))))))))

parts_send : IsSend (UnitParts.the_field).row
parts_send = struct_send (shape UnitParts.the_type)
    (items.the_send _ class.the_send, (items.the_send _ field.the_send, (search (send, method_send), (search (send, spec_send), (items.the_send _ note.the_send, (search send, (search send, tt)))))))

parts_sync : IsSync (UnitParts.the_field).row
parts_sync = struct_sync (shape UnitParts.the_type)
    (items.the_sync _ class.the_sync, (items.the_sync _ field.the_sync, (search (sync, method_sync), (search (sync, spec_sync), (items.the_sync _ note.the_sync, (search sync, (search sync, tt)))))))

pub unit_send : IsSend TypedUnit.the_row
unit_send = search (send, parts_send) depth 20

pub unit_sync : IsSync TypedUnit.the_row
unit_sync = search (sync, parts_sync) depth 20

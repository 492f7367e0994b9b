use Rattle.std.proofs.Common.{◌++◌, ◌∷◌, [], cond, ◌∙◌, ap, sym, subst, take, arith}
use Rattle.std.proofs.lemmas.List.{append-nil, take_all, length-map}
use Rattle.jr_program.specs.UnitViews.{program_of, view_field}
use Rattle.jr_drive.specs.Blanks.{IsBlank}
use Rattle.jr_drive.proofs.Constants.{constants, are-blank, constants-more}
use Rattle.jr_drive.proofs.blanks.blank.Goals as goal
use Rattle.jr_drive.proofs.blanks.blank.Goals.{then-is_of+in_ok-push, else-is_of}

pub loop-number-preserved : goal.loop-number-preserved
loop-number-preserved c =
    let field = view_field c.field-field.result.now in
    let before = constants c.args.class c.args.is_static (take c.loop-number.number (program_of c.args.unit.now).fields) in
    let more = constants-more c.args.class c.args.is_static (program_of c.args.unit.now).fields c.loop-number.number field c.field-field.ensures.named in
    elim c.if-is_of.branch [
      | then-is_of+in_ok-push w ↦
          w.values-is ∙ (w.in_ok-push.ensures.ok ∙ (ap (λ vs. vs ++ field.constant ∷ []) c.loop-number.invariant
          ∙ (ap (λ b. before ++ cond b (field.constant ∷ []) []) (sym w.if-is_of.true ∙ c.is_of.ensures) ∙ sym more)))
      | else-is_of w ↦
          w.values-is ∙ (c.loop-number.invariant ∙ (sym (append-nil before)
          ∙ (ap (λ b. before ++ cond b (field.constant ∷ []) []) (sym w.if-is_of.false ∙ c.is_of.ensures) ∙ sym more)))
    ]

pub returns : goal.returns
returns c =
    let program = program_of c.args.unit.now in
    let fields = length-map c.args.unit.now.fields view_field in
    let end = c.field_count-number-end.ensures in
    let all = take_all c.loop-number.number program.fields (omega arith) in
    subst (IsBlank program c.args.class c.args.is_static) (sym (c.loop-number.invariant ∙ ap (constants c.args.class c.args.is_static) all)) (are-blank program c.args.class c.args.is_static)

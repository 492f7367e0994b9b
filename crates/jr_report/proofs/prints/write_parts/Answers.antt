use Rattle.std.proofs.Common.{◌∷◌, [], ◌∙◌}
use Rattle.std.proofs.lemmas.Option.{slice_get-get_or}
use Rattle.jr_program.specs.UnitViews.{program_of}
use Rattle.jr_report.proofs.Pieces.{parts-more, parts-fault}
use Rattle.jr_report.proofs.prints.write_parts.Goals as goal

pub returns-in-WriteFault-clause-bytes : goal.returns-in-WriteFault-clause-bytes
returns-in-WriteFault-clause-bytes g c =
    parts-fault (program_of c.args.unit.now) c.args.parts.now c.loop-part.part-index _ (slice_get-get_or c.args.parts.now c.loop-part.part-index _ c.loop-part-test.true)
    _ _ _ _ c.add_part.new.line (10 ∷ []) _ c.loop-part.invariant.leads c.in-WriteFault.ensures.bytes

pub loop-part-preserved : goal.loop-part-preserved
loop-part-preserved g c = record {
  leads = parts-more (program_of c.args.unit.now) c.args.parts.now c.loop-part.part-index _ (slice_get-get_or c.args.parts.now c.loop-part.part-index _ c.loop-part-test.true)
      _ _ _ _ _ (10 ∷ []) _ c.loop-part.invariant.leads c.in-Whole.ensures.bytes;
  faults = c.in-Whole.ensures.faults ∙ c.loop-part.invariant.faults;
}

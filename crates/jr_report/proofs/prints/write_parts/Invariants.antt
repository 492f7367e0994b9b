use Rattle.std.proofs.Common.{◌≡◌, [], ◌∷◌, ◌++◌, drop, flat_map}
use Rattle.jr_program.specs.UnitViews.{program_of}
use Rattle.jr_report.specs.Report.{part_text}
use Rattle.jr_report.proofs.Pieces.{Leads}
use Rattle.jr_report.proofs.prints.write_parts.Given as goal

-- the line, and behind it the parts to come, are left to write
abbrev pub invariant-loop-part : goal.invariant-loop-part
invariant-loop-part g l = record {
  leads : Leads (g.K.Sink.written l.initial.sink) (g.K.Sink.written l.sink)
      (l.line ++ (flat_map (part_text (program_of l.unit)) (drop l.part-index l.parts) ++ 10 ∷ []))
      ((l.initial.line ++ flat_map (part_text (program_of l.unit)) l.parts) ++ 10 ∷ []);
  faults : g.K.Sink.faults l.sink ≡ g.K.Sink.faults l.initial.sink;
}

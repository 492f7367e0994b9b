use Rattle.std.proofs.Common.{◌≡◌, ◌+◌, ◌∙◌, Some, subst, arith, drop, length}
use Rattle.jr_program.specs.UnitViews.{program_of}
use Rattle.jr_report.specs.Report.{violation_in, violations_from, numbered_lines, bytes_of_lines}
use Rattle.jr_report.specs.Sites.{due_where}
use Rattle.jr_report.proofs.Passed.{given-at, given-none}
use Rattle.jr_report.proofs.Pieces.{Leads, leads-more, leads-fault, leads-done}
use Rattle.jr_report.proofs.violations.write_passage.Goals as goal

pub returns-in_default-clause-bytes : goal.returns-in_default-clause-bytes
returns-in_default-clause-bytes g c =
    leads-done _ _ _ _ c.loop-place.invariant.leads
    (given-none (program_of c.args.unit.now) c.args.journal.now.entries c.args.passage.guest c.args.passage.step.0 (due_where (program_of c.args.unit.now) c.args.passage.site)
    c.requires.judged c.loop-place.place (c.args.number + c.loop-place.written) c.in_default.ensures)

pub returns-in-WriteFault-clause-bytes : goal.returns-in-WriteFault-clause-bytes
returns-in-WriteFault-clause-bytes g c =
    leads-fault _ _ _ _ _ _ _ c.loop-place.invariant.leads
    (given-at (program_of c.args.unit.now) c.args.journal.now.entries c.args.passage (due_where (program_of c.args.unit.now) c.args.passage.site)
    c.requires.judged c.loop-place.place (c.args.number + c.loop-place.written) c.in-Some.given c.in-Some.ensures)
    c.in-WriteFault.ensures.bytes

pub loop-place-preserved : goal.loop-place-preserved
loop-place-preserved g c =
    let program = program_of c.args.unit.now in
    let cs = due_where program c.args.passage.site in
    let next = leads-more _ _ _ _ _ _ _ c.loop-place.invariant.leads
    (given-at program c.args.journal.now.entries c.args.passage cs c.requires.judged c.loop-place.place (c.args.number + c.loop-place.written) c.in-Some.given c.in-Some.ensures)
    c.in-Whole.ensures.bytes in
    let given = c.in-Some.given in
    let number : (c.args.number + c.loop-place.written) + length (violation_in given.clause given.guest given.step.0 (Some given.value)) ≡ c.args.number + (c.loop-place.written + c.failing-written.result) =
    omega (arith, c.failing-written.ensures.count given.clause given.guest given.step.0) in
    record {
      leads = subst (λ n. Leads (g.K.Sink.written c.args.sink.now) (g.K.Sink.written c.write_given.new.sink)
          (bytes_of_lines (numbered_lines program n (violations_from c.args.journal.now.entries c.args.passage.guest c.args.passage.step.0 (c.loop-place.place + 1) (drop (c.loop-place.place + 1) cs))))
          (bytes_of_lines (numbered_lines program c.args.number (violations_from c.args.journal.now.entries c.args.passage.guest c.args.passage.step.0 0 cs)))) number next;
      faults = c.in-Whole.ensures.faults ∙ c.loop-place.invariant.faults;
      few = omega (arith, c.loop-place.invariant.few, c.failing-written.ensures.few);
    }

pub returns-clause-bytes : goal.returns-clause-bytes
returns-clause-bytes g c =
    leads-done _ _ _ _ c.loop-place.invariant.leads
    (given-none (program_of c.args.unit.now) c.args.journal.now.entries c.args.passage.guest c.args.passage.step.0 (due_where (program_of c.args.unit.now) c.args.passage.site)
    c.requires.judged c.loop-place.place (c.args.number + c.loop-place.written) (let few = c.requires.judged.few in omega (arith, few, c.loop-place-test.false)))

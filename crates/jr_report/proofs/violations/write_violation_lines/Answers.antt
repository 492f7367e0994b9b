use Rattle.std.proofs.Common.{◌≡◌, ◌+◌, ◌<◌, ◌∙◌, ap, arith, length, slice_get}
use Rattle.std.proofs.lemmas.List.{take_all}
use Rattle.jr_program.specs.UnitViews.{program_of}
use Rattle.jr_journal.specs.Entries.{event_of}
use Rattle.jr_meaning.specs.History.{step_count}
use Rattle.jr_report.specs.Report.{numbered_lines, bytes_of_lines}
use Rattle.jr_report.proofs.Moments.{to-come-none}
use Rattle.jr_report.proofs.Passed.{there-is, to-write, moves-on, counted}
use Rattle.jr_report.proofs.Pieces.{leads-more, leads-fault, leads-done}
use Rattle.jr_report.proofs.violations.write_violation_lines.Goals as goal

pub returns-in-WriteFault-clause-bytes : goal.returns-in-WriteFault-clause-bytes
returns-in-WriteFault-clause-bytes g c =
    let h = c.args.journal.now.entries in
    let next : c.loop-at.pass.at < length h = omega (arith, c.loop-at.invariant.at, c.loop-at-test.true, c.len-at-end.ensures) in
    let e = there-is h c.loop-at.pass.at next in
    leads-fault _ _ _ _ _ _ _ c.loop-at.invariant.leads
    (to-write (program_of c.args.unit.now) h c.loop-at.pass c.loop-at.invariant.stands e.0 e.1 (c.loop-at.written + 1))
    (c.in-WriteFault.ensures.bytes e.0 e.1)

pub loop-at-preserved : goal.loop-at-preserved
loop-at-preserved g c =
    let h = c.args.journal.now.entries in
    let program = program_of c.args.unit.now in
    let pass = c.loop-at.pass in
    let e = event_of c.entry.result.now in
    let there = ap (λ n. slice_get h n) c.loop-at.invariant.at ∙ c.entry.ensures in
    let stands = c.loop-at.invariant.stands in
    let stands2 = c.go_on.ensures.stands program h c.requires.legal stands there in
    let count = counted program c.well_formed-2.ensures h c.requires.right c.requires.nothing_owed pass stands e there c.count_violations-written.result c.count_violations-written.ensures.count in
    record {
      leads = moves-on program h _ _ _ pass c.go_on.new.self e c.loop-at.written c.count_violations-written.result stands stands2 c.go_on.ensures.at there count
          (leads-more _ _ _ _ _ _ _ c.loop-at.invariant.leads (to-write program h pass stands e there (c.loop-at.written + 1)) (c.in-Whole.ensures.bytes e there));
      faults = c.in-Whole.ensures.faults ∙ c.loop-at.invariant.faults;
      stands = stands2;
      at = omega (arith, c.go_on.ensures.at, c.loop-at.invariant.at);
      steps = c.go_on.ensures.steps;
      few = omega (arith, c.count_violations-written.ensures.few, c.loop-at.invariant.few);
    }

pub returns-clause-bytes : goal.returns-clause-bytes
returns-clause-bytes g c =
    let h = c.args.journal.now.entries in
    let all : c.loop-at.pass.step ≡ step_count h =
    c.loop-at.invariant.stands.steps ∙ ap step_count (take_all c.loop-at.pass.at h (omega (arith, c.loop-at.invariant.at, c.loop-at-test.false, c.len-at-end.ensures))) in
    leads-done _ _ _ _ c.loop-at.invariant.leads
    (ap (λ vs. bytes_of_lines (numbered_lines (program_of c.args.unit.now) (c.loop-at.written + 1) vs)) (to-come-none (program_of c.args.unit.now) h c.loop-at.pass.step all))

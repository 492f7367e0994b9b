use Rattle.std.proofs.Common.{◌≡◌, ◌≤◌, ◌+◌, ◌∙◌, Some, ap, sym, subst, suc, length, map, slice_get, arith}
use Rattle.std.proofs.lemmas.List.{take-map, drop-map, length-map}
use Rattle.jr_io.specs.Writes.{WritesPiece}
use Rattle.jr_program.specs.Programs.{numbered}
use Rattle.jr_program.specs.UnitViews.{program_of, view_note}
use Rattle.jr_program.specs.ClauseViews.{view_clause}
use Rattle.jr_report.proofs.Notes.{order-at, order-end}
use Rattle.jr_report.proofs.Pieces.{leads-more, leads-fault}
use Rattle.jr_report.proofs.listing.write_in_order.Goals as goal

pub returns-in-WriteFault-clause-bytes : goal.returns-in-WriteFault-clause-bytes
returns-in-WriteFault-clause-bytes g c =
    let clauses = (program_of c.args.unit.now).clauses in
    let number : c.loop-at.at + 1 ≡ suc c.loop-at.at = omega arith in
    let there : slice_get clauses c.loop-at.at ≡ Some (view_clause c.clause-clause.result.now) = sym (ap (numbered clauses) number) ∙ c.clause-clause.ensures in
    leads-fault _ _ _ _ _ _ _ c.loop-at.invariant.leads
    (order-at (c.loop-at.at + 1) clauses c.loop-at.at (view_clause c.clause-clause.result.now) (map view_note c.loop-at.notes.now) (map view_note c.split_at.result.0.now) (map view_note c.split_at.result.1.now) there
    (ap (map view_note) c.split_at.ensures.front ∙ sym (take-map view_note c.count_before.result c.loop-at.notes.now) ∙ c.count_before.ensures.before)
    (ap (map view_note) c.split_at.ensures.back ∙ sym (drop-map view_note c.count_before.result c.loop-at.notes.now) ∙ c.count_before.ensures.behind))
    c.in-WriteFault.ensures.bytes

pub loop-at-preserved : goal.loop-at-preserved
loop-at-preserved g c =
    let clauses = (program_of c.args.unit.now).clauses in
    let number : c.loop-at.at + 1 ≡ suc c.loop-at.at = omega arith in
    let there : slice_get clauses c.loop-at.at ≡ Some (view_clause c.clause-clause.result.now) = sym (ap (numbered clauses) number) ∙ c.clause-clause.ensures in
    record {
      leads = leads-more _ _ _ _ _ _ _ c.loop-at.invariant.leads
          (order-at (c.loop-at.at + 1) clauses c.loop-at.at (view_clause c.clause-clause.result.now) (map view_note c.loop-at.notes.now) (map view_note c.split_at.result.0.now) (map view_note c.split_at.result.1.now) there
          (ap (map view_note) c.split_at.ensures.front ∙ sym (take-map view_note c.count_before.result c.loop-at.notes.now) ∙ c.count_before.ensures.before)
          (ap (map view_note) c.split_at.ensures.back ∙ sym (drop-map view_note c.count_before.result c.loop-at.notes.now) ∙ c.count_before.ensures.behind))
          c.in-Whole.ensures.bytes;
      faults = c.in-Whole.ensures.faults ∙ c.loop-at.invariant.faults;
    }

pub returns-clause-bytes : goal.returns-clause-bytes
returns-clause-bytes g c =
    let clauses = (program_of c.args.unit.now).clauses in
    let past : length clauses ≤ c.loop-at.at = omega (arith, c.loop-at-test.false, c.clause_count-at-end.ensures, length-map c.args.unit.now.clauses view_clause) in
    c.loop-at.invariant.leads _ _
    (subst (WritesPiece (g.K.Sink.written c.loop-at.sink) (g.K.Sink.written c.write_notes.new.sink) c.write_notes.result)
    (sym (order-end (c.loop-at.at + 1) clauses c.loop-at.at (map view_note c.loop-at.notes.now) past)) c.write_notes.ensures.bytes)

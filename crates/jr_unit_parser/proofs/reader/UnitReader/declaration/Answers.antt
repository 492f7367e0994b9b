use Rattle.std.proofs.Common.{map, refl}
use Rattle.jr_ast.specs.Clauses.{view_method_clause}
use Rattle.jr_ast.specs.Units.{view_member, view_method}
use Rattle.jr_unit_parser.specs.Grammar.{MemberAt}
use Rattle.jr_unit_parser.specs.Nesting.{ShallowMember}
use Rattle.jr_unit_parser.proofs.Ends.{hands_on, read_as, none_of, none_in, not_true}
use Rattle.jr_unit_parser.proofs.OfUnits.{clauses_fail, declared_fails, no_field, field_found, method_fails, method_found}
use Rattle.jr_unit_parser.proofs.OfBodies.{body_begins}
use Rattle.jr_unit_parser.proofs.reader.UnitReader.declaration.Goals as goal

pub returns-in_err-clauses : goal.returns-in_err-clauses
returns-in_err-clauses c =
    let ts = c.args.self.now.tokens.now in
    hands_on ts view_member (MemberAt ts) ShallowMember c.args.first c.from_residual.result c.in_err-clauses.field-0.0 c.from_residual.ensures.1
    (clauses_fail ts c.args.first c.requires.plain _ c.in_err-clauses.ensures)

pub returns-in_err-declared : goal.returns-in_err-declared
returns-in_err-declared c =
    let ts = c.args.self.now.tokens.now in
    hands_on ts view_member (MemberAt ts) ShallowMember c.args.first c.from_residual-in_err-declared.result c.in_err-declared.field-0.0 c.from_residual-in_err-declared.ensures.1
    (declared_fails ts c.args.first c.in_ok-clauses.at (map view_method_clause c.in_ok-clauses.clauses) c.requires.plain c.in_ok-clauses.ensures.stands _ c.in_err-declared.ensures)

pub returns-then-not-is_empty : goal.returns-then-not-is_empty
returns-then-not-is_empty c =
    let ts = c.args.self.now.tokens.now in
    no_field ts c.args.first c.in_ok-clauses.at c.in_ok-declared.at (map view_method_clause c.in_ok-clauses.clauses) c.in-Field.field c.refusal.result c.requires.plain c.in_ok-clauses.ensures.stands
    (read_as ts _ _ _ _ c.in_ok-declared.ensures c.in-Field.is) (λ none. not_true (c.if-not-is_empty.ensures.1 (none_in view_method_clause c.in_ok-clauses.clauses none))) c.refusal.ensures

pub returns-in_err-method-in-Routine : goal.returns-in_err-method-in-Routine
returns-in_err-method-in-Routine c =
    let ts = c.args.self.now.tokens.now in
    hands_on ts view_member (MemberAt ts) ShallowMember c.args.first c.from_residual-in_err-method-in-Routine.result c.in_err-method-in-Routine.field-0.0 c.from_residual-in_err-method-in-Routine.ensures.1
    (method_fails ts c.args.first c.in_ok-clauses.at c.in_ok-declared.at (map view_method_clause c.in_ok-clauses.clauses) c.in-Routine.signature c.requires.plain c.in_ok-clauses.ensures.stands
    (read_as ts _ _ _ _ c.in_ok-declared.ensures c.in-Routine.is) _ c.in_err-method-in-Routine.ensures)

pub returns-else-not-is_empty : goal.returns-else-not-is_empty
returns-else-not-is_empty c =
    let ts = c.args.self.now.tokens.now in
    field_found ts c.args.first c.in_ok-clauses.at c.in_ok-declared.at (map view_method_clause c.in_ok-clauses.clauses) c.in-Field.field c.in_ok-clauses.ensures.stands
    (read_as ts _ _ _ _ c.in_ok-declared.ensures c.in-Field.is) (none_of view_method_clause c.in_ok-clauses.clauses (c.if-not-is_empty.ensures.0 refl))

pub returns-in_ok-method-in-Routine : goal.returns-in_ok-method-in-Routine
returns-in_ok-method-in-Routine c =
    let ts = c.args.self.now.tokens.now in
    method_found ts c.args.first c.in_ok-clauses.at c.in_ok-declared.at c.in_ok-method-in-Routine.end (map view_method_clause c.in_ok-clauses.clauses) c.in-Routine.signature (view_method c.in_ok-method-in-Routine.method) c.in_ok-clauses.ensures
    (read_as ts _ _ _ _ c.in_ok-declared.ensures c.in-Routine.is) c.in_ok-method-in-Routine.ensures

pub method-requires : goal.method-requires
method-requires c =
    let ts = c.args.self.now.tokens.now in
    body_begins ts c.args.first c.in_ok-clauses.at c.in_ok-declared.at (map view_method_clause c.in_ok-clauses.clauses) c.in-Routine.signature c.requires.begins c.in_ok-clauses.ensures.stands.many
    (read_as ts _ _ _ _ c.in_ok-declared.ensures c.in-Routine.is)

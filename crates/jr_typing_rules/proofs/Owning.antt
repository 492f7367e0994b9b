-- What each clause of an accepted source belongs to may own it.
use Rattle.std.proofs.Common.{◌≡◌, List, Some}
use Rattle.jr_base.specs.declared.number.Span.{Span}
use Rattle.jr_base.specs.declared.number.Position.{Position}
use Rattle.jr_base.specs.declared.number.ClauseId.{ClauseId}
use Rattle.jr_program.specs.Clauses.{Clause, Owner, OfMethod, OfClass, OfField}
use Rattle.jr_program.specs.Programs.{Program, clause_at}
use Rattle.jr_program.specs.WellFormed.{FitsOwner}
use Rattle.jr_ast.specs.Units as unit
use Rattle.jr_typing_rules.specs.Answers.{Good}
use Rattle.jr_typing_rules.specs.Whole.{typing}
use Rattle.jr_typing_rules.specs.Owners.{MayOwn}
use Rattle.jr_typing_rules.proofs.WellTyped.{clauses-fit}

may-own : (program : Program) (clause : Clause) (owner : Owner) → FitsOwner program clause owner → MayOwn program clause.kind clause.is_static owner
may-own program clause (OfMethod m) fits = (fits.0, fits.1, fits.2, fits.3)
may-own program clause (OfClass c) fits = (fits.0, fits.1)
may-own program clause (OfField f) fits = (fits.0, fits.1, fits.2, fits.3)

pub clauses-owned : (position : Span → Position) (ks : List unit.Class) (program : Program) → typing position ks ≡ Good program →
    (c : ClauseId) (clause : Clause) → clause_at program c ≡ Some clause → MayOwn program clause.kind clause.is_static clause.owner
clauses-owned position ks program e c clause found = may-own program clause clause.owner (clauses-fit position ks program e c clause found)

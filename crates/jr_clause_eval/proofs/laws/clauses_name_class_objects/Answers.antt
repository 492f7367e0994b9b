use Rattle.jr_clause_eval.proofs.ClassesNamed.{clauses-name-class-objects}
use Rattle.jr_clause_eval.proofs.laws.clauses_name_class_objects.Goals as goal

pub returns : goal.returns
returns c = clauses-name-class-objects

-- Which units nest within the limit: nothing stands above a clause or above the statements of a body, and
-- neither nests more than 128 deep.
use Rattle.std.specs.Prelude.{◌≤◌, List, All}
use Rattle.jr_ast.specs.Clauses.{MethodClause}
use Rattle.jr_ast.specs.Units.{Method, Member, Empty, OfField, OfMethod, OfClause, Class}
use Rattle.jr_reading.specs.Limits.{nesting_limit}
use Rattle.jr_jml_parser.specs.Nesting.{method_nesting, class_nesting}
use Rattle.jr_stmt_parser.specs.Nesting.{Shallow}

abbrev pub ShallowClause : MethodClause → Type 0
ShallowClause c = method_nesting c ≤ nesting_limit

abbrev pub ShallowMethod : Method → Type 0
ShallowMethod m = All ShallowClause m.clauses × Shallow 0 m.body

abbrev pub ShallowMember : Member → Type 0
ShallowMember Empty = Unit {0}
ShallowMember (OfField f) = Unit {0}
ShallowMember (OfMethod m) = ShallowMethod m
ShallowMember (OfClause c) = class_nesting c ≤ nesting_limit

abbrev pub ShallowClass : Class → Type 0
ShallowClass c = All ShallowMember c.members

abbrev pub ShallowUnit : List Class → Type 0
ShallowUnit cs = All ShallowClass cs

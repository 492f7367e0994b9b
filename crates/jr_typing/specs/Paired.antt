-- An argument with its formal, where both are there.
use Rattle.std.specs.Prelude.{Option, Some, None}
use Rattle.jr_program.specs.Programs.{Expr}
use Rattle.jr_typing_rules.specs.declared.words.ValueType.{ValueType}
use Rattle.jr_typing_rules.specs.declared.words.Head.{Head}
use Rattle.jr_typing_rules.specs.Denotations.{brought}

abbrev pub paired : Option ValueType → Option Head → Expr → Option Expr
paired (Some t) (Some h) e = Some (brought h.of t e)
paired (Some t) None e = None
paired None h e = None

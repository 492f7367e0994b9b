-- An operator whose operation is known, on its operands.
use Rattle.jr_base.specs.declared.number.Span.{Span}
use Rattle.jr_base.specs.declared.refusal.Refusal.TheVariants.{NotHere}
use Rattle.jr_program.specs.Programs.{Expr}
use Rattle.jr_typing_rules.specs.declared.words.Operation.{Operation}
use Rattle.jr_typing_rules.specs.Answers.{Typing, Good, ◌>>=◌, found}
use Rattle.jr_typing_rules.specs.Denotations.{Denotation, AValue, Value, brought}
use Rattle.jr_typing_rules.specs.Operators.{joined}

abbrev pub operated_on : Span → Operation → Value → Value → Typing Denotation
operated_on at o a b = found (joined o.joint (brought a.of o.left a.node) (brought b.of o.right b.node)) (NotHere at) >>= λ (e : Expr). Good (AValue o.of e)

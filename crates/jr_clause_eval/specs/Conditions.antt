-- The value of a clause that states one condition.
use Rattle.std.specs.Prelude.{List, slice_get}
use Rattle.std.specs.Option.{option_map_or}
use Rattle.jr_base.specs.declared.finish.Verdict.{Verdict}
use Rattle.jr_base.specs.declared.finish.Verdict.TheVariants as verdicts
use Rattle.jr_program.specs.declared.words.Mode.{Mode}
use Rattle.jr_program.specs.Clauses.{Spec}
use Rattle.jr_meaning.specs.Worth.{Setting, worth}
use Rattle.jr_meaning.specs.Judge.{verdict_on}

-- the first of those that are stated, and there is no other
abbrev pub condition_value : Mode → Setting → List Spec → Verdict
condition_value mode s conditions = option_map_or (λ condition. verdict_on (worth mode s condition)) (slice_get conditions 0) verdicts.Undefined

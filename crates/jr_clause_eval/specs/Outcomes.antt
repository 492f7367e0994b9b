-- Outcomes, as the definitions have them.
use Rattle.std.specs.Prelude.{Bool, true, false, Result, Ok, Err}
use Rattle.jr_base.specs.declared.value.Value.{Value}
use Rattle.jr_base.specs.declared.value.Value.TheVariants as values
use Rattle.jr_arith.specs.declared.operator.Binary.{Binary}
use Rattle.jr_program.specs.declared.words.Mode.{Mode}
use Rattle.jr_program.specs.Clauses.{Spec}
use Rattle.jr_meaning.specs.Worth.{Worth, Has, Undefined, Wide, Setting, with_value, choose, truth, worth, binary_worth}
use Rattle.jr_clause_eval.specs.declared.outcome.Stuck.{Stuck}
use Rattle.jr_clause_eval.specs.declared.outcome.Stuck.TheVariants as stuck

abbrev pub stuck_worth : Stuck → Worth
stuck_worth stuck.Undefined = Undefined
stuck_worth stuck.Wide = Wide

abbrev pub worth_of : Result Value Stuck → Worth
worth_of (Ok value) = Has value
worth_of (Err why) = stuck_worth why

-- the truth that an outcome is; no other value stands where one is asked for
abbrev pub truth_of : Result Value Stuck → Result Bool Stuck
truth_of (Ok (values.Bool b)) = Ok b
truth_of (Ok _) = Err stuck.Undefined
truth_of (Err why) = Err why

-- what an operator gives, where the operand that stands first came out so
abbrev pub with_right : Mode → Setting → Binary → Worth → Spec → Worth
with_right mode s operator left right = with_value left (λ a. with_value (worth mode s right) (λ b. binary_worth mode operator a b))

abbrev pub and_right : Mode → Setting → Worth → Spec → Worth
and_right mode s left right = with_value left (λ a. choose a (worth mode s right) (truth false))

abbrev pub or_right : Mode → Setting → Worth → Spec → Worth
or_right mode s left right = with_value left (λ a. choose a (truth true) (worth mode s right))

abbrev pub implies_right : Mode → Setting → Worth → Spec → Worth
implies_right mode s premise conclusion = with_value premise (λ a. choose a (worth mode s conclusion) (truth true))

abbrev pub implied_by_right : Mode → Setting → Worth → Spec → Worth
implied_by_right mode s conclusion premise =
    with_value conclusion (λ a. choose a (truth true) (with_value (worth mode s premise) (λ b. choose b (truth false) (truth true))))

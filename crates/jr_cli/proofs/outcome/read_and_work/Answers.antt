use Rattle.std.proofs.Common.{rules, subst}
use Rattle.jr_cli.specs.Causes.{IsRefusedBy}
use Rattle.jr_cli.proofs.Refusing.{of_length, of_bytes}
use Rattle.jr_cli.proofs.outcome.read_and_work.Goals as goal

pub returns-in-Err-TooLong-clause-cause : goal.returns-in-Err-TooLong-clause-cause
returns-in-Err-TooLong-clause-cause g c =
    of_length c.args.command _ _ c.new.ensures.items (search rules) (search rules) (search rules)

pub returns-in-Err-Refused-clause-cause : goal.returns-in-Err-Refused-clause-cause
returns-in-Err-Refused-clause-cause g c =
    rw c.in-Err-Refused.refusal-is
    (of_bytes c.args.command _ _ c.in-Err-Refused.refusal (search rules) (search rules)
    (subst (λ bytes. IsRefusedBy c.args.command bytes c.in-Err-Refused.refusal) c.as_slice.ensures.value (search rules)))

use Rattle.std.proofs.Common.{◌≡◌, ◌<◌, ◌^◌, drop}
use Rattle.jr_command.specs.Command.{number_from}
use Rattle.jr_command.proofs.number.number_of.Given as goal

-- the digits to come go on from those that were read
abbrev pub invariant-loop-digit : goal.invariant-loop-digit
invariant-loop-digit l = record {
  same : number_from l.value (drop l.digit-index l.text) ≡ number_from 0 l.text;
  small : l.value < 10 ^ l.digit-index;
}

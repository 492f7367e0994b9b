use Rattle.std.proofs.Common.{false, sym}
use Rattle.jr_lexer.specs.declared.kind.Kind.TheVariants as k
use Rattle.jr_unit_parser.specs.Grammar as g
use Rattle.jr_reading.proofs.Tokens.{seen_is}
use Rattle.jr_unit_parser.proofs.reader.UnitReader.member.Goals as goal

pub returns-then-sees : goal.returns-then-sees
returns-then-sees c = record { stands = g.empty (seen_is false c.args.self.now.tokens.now c.args.at k.Semicolon (sym c.if-sees.ensures.value)); shallow = tt }

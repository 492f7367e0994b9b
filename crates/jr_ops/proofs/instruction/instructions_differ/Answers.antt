use Rattle.std.proofs.Common.{map, refl}
use Rattle.std.specs.Str.{bytes_eq}
use Rattle.std.proofs.lemmas.Slice.Eq.{bytes_eq-Decides}
use Rattle.std.proofs.lemmas.Cmp.{nat_list_eq_equiv}
use Rattle.std.proofs.lemmas.Map.Made.{AllPairs-from_IsDistinct, IsDistinct-from_count}
use Rattle.jr_ops.specs.Instructions.{instruction_rows, name_of}
use Rattle.jr_ops.proofs.instruction.instructions_differ.Goals as goal

pub returns-clause-count : goal.returns-clause-count
unfolding instruction_rows
returns-clause-count c = refl

pub returns-clause-names : goal.returns-clause-names
unfolding instruction_rows
returns-clause-names c = AllPairs-from_IsDistinct bytes_eq-Decides (map name_of instruction_rows) (IsDistinct-from_count nat_list_eq_equiv (map name_of instruction_rows) refl)

use Rattle.jr_stmt_parser.proofs.Begins.{front_of}
use Rattle.jr_stmt_parser.proofs.Gives.{leaf_gives}
use Rattle.jr_stmt_parser.proofs.EachForm.{gives_by, default_by}
use Rattle.jr_stmt_parser.proofs.reader.Reader.form.Goals as goal

pub evaluation-requires : goal.evaluation-requires
evaluation-requires g c = front_of _ _ c.requires.begins

pub returns-in_default : goal.returns-in_default
returns-in_default g c = default_by _ _ _ _ _ _ c.seen.ensures c.in_default.not-Semicolon c.in_default.not-OpenBrace c.in_default.not-Int c.in_default.not-Long c.in_default.not-Boolean c.in_default.not-Final c.in_default.not-If c.in_default.not-While c.in_default.not-Do c.in_default.not-For c.in_default.not-Return c.in_default.not-Break c.in_default.not-Continue c.in_default.not-Throw c.in_default.not-Try c.in_default.not-Synchronized c.in_default.not-Name c.in_default.not-End (leaf_gives _ _ _ _ _ _ _ c.evaluation.ensures)

pub returns-in-Semicolon : goal.returns-in-Semicolon
returns-in-Semicolon g c = gives_by _ _ _ _ _ _ _ c.seen.ensures c.in-Semicolon.is (leaf_gives _ _ _ _ _ _ _ c.empty.ensures)

pub returns-in-OpenBrace : goal.returns-in-OpenBrace
returns-in-OpenBrace g c = gives_by _ _ _ _ _ _ _ c.seen.ensures c.in-OpenBrace.is c.blocks-in-OpenBrace.ensures

pub returns-in-Final : goal.returns-in-Final
returns-in-Final g c = gives_by _ _ _ _ _ _ _ c.seen.ensures c.in-Final.is (leaf_gives _ _ _ _ _ _ _ c.final_declaration.ensures)

pub returns-in-If : goal.returns-in-If
returns-in-If g c = gives_by _ _ _ _ _ _ _ c.seen.ensures c.in-If.is c.ifs.ensures

pub returns-in-While : goal.returns-in-While
returns-in-While g c = gives_by _ _ _ _ _ _ _ c.seen.ensures c.in-While.is c.whiles.ensures

pub returns-in-Do : goal.returns-in-Do
returns-in-Do g c = gives_by _ _ _ _ _ _ _ c.seen.ensures c.in-Do.is c.dos.ensures

pub returns-in-For : goal.returns-in-For
returns-in-For g c = gives_by _ _ _ _ _ _ _ c.seen.ensures c.in-For.is c.fors.ensures

pub returns-in-Return : goal.returns-in-Return
returns-in-Return g c = gives_by _ _ _ _ _ _ _ c.seen.ensures c.in-Return.is (leaf_gives _ _ _ _ _ _ _ c.returns.ensures)

pub returns-in-Break : goal.returns-in-Break
returns-in-Break g c = gives_by _ _ _ _ _ _ _ c.seen.ensures c.in-Break.is (leaf_gives _ _ _ _ _ _ _ c.breaks.ensures)

pub returns-in-Continue : goal.returns-in-Continue
returns-in-Continue g c = gives_by _ _ _ _ _ _ _ c.seen.ensures c.in-Continue.is (leaf_gives _ _ _ _ _ _ _ c.continues.ensures)

pub returns-in-Throw : goal.returns-in-Throw
returns-in-Throw g c = gives_by _ _ _ _ _ _ _ c.seen.ensures c.in-Throw.is (leaf_gives _ _ _ _ _ _ _ c.throws.ensures)

pub returns-in-Try : goal.returns-in-Try
returns-in-Try g c = gives_by _ _ _ _ _ _ _ c.seen.ensures c.in-Try.is c.tries.ensures

pub returns-in-Synchronized : goal.returns-in-Synchronized
returns-in-Synchronized g c = gives_by _ _ _ _ _ _ _ c.seen.ensures c.in-Synchronized.is c.synchronizeds.ensures

pub returns-in-Name : goal.returns-in-Name
returns-in-Name g c = gives_by _ _ _ _ _ _ _ c.seen.ensures c.in-Name.is c.names.ensures

pub returns-in-Int : goal.returns-in-Int
returns-in-Int g c = gives_by _ _ _ _ _ _ _ c.seen.ensures c.in-Int.is (leaf_gives _ _ _ _ _ _ _ c.declaration.ensures)

pub returns-in-Long : goal.returns-in-Long
returns-in-Long g c = gives_by _ _ _ _ _ _ _ c.seen.ensures c.in-Long.is (leaf_gives _ _ _ _ _ _ _ c.declaration-in-Long.ensures)

pub returns-in-Boolean : goal.returns-in-Boolean
returns-in-Boolean g c = gives_by _ _ _ _ _ _ _ c.seen.ensures c.in-Boolean.is (leaf_gives _ _ _ _ _ _ _ c.declaration-in-Boolean.ensures)

pub returns-in-End : goal.returns-in-End
returns-in-End g c = gives_by _ _ _ _ _ _ _ c.seen.ensures c.in-End.is (leaf_gives _ _ _ _ _ _ _ c.asserts.ensures)

use Rattle.jr_cli.proofs.ended.write_outcome.Goals as goal

pub returns-in-Usage-clause-bytes : goal.returns-in-Usage-clause-bytes
returns-in-Usage-clause-bytes g c = rw c.in-Usage.is (rw c.as_bytes.ensures.value at c.write_piece.ensures.bytes)

pub returns-in-ReadFault-clause-bytes : goal.returns-in-ReadFault-clause-bytes
returns-in-ReadFault-clause-bytes g c = rw c.in-ReadFault.is c.write_piece-in-ReadFault.ensures.bytes

pub returns-in-OutOfMemory-clause-bytes : goal.returns-in-OutOfMemory-clause-bytes
returns-in-OutOfMemory-clause-bytes g c = rw c.in-OutOfMemory.is c.write_piece-in-OutOfMemory.ensures.bytes

-- What clauses read of a sink over a writer of std.
use Rattle.std.specs.Prelude.{ℕ, List}
use Rattle.std.specs.Io.Buffered.{writer_buffer}
use Rattle.jr_io.specs.declared.standard.StdSink.{StdSink}

-- what was written to the sink and not yet to its writer
abbrev pub held_back : {W : Type 0} → StdSink W → List ℕ
held_back s = writer_buffer s.writer

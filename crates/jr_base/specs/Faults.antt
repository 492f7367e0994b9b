-- Which exceptions a catch takes (JLS 11.1.1, 11.3): those of its own class and of the classes below it.
use Rattle.std.specs.Prelude.{Bool, true, false, List, [], ◌∷◌}
use Rattle.std.specs.List.{list_any}
use Rattle.jr_base.specs.declared.finish.Fault.{Fault}
use Rattle.jr_base.specs.declared.finish.Fault.TheVariants.{Exception, RuntimeException, InterruptedException, ArithmeticException, NullPointerException, NegativeArraySizeException, IllegalMonitorStateException, IndexOutOfBoundsException, IllegalArgumentException, ArrayIndexOutOfBoundsException, IllegalThreadStateException}

abbrev pub same_fault : Fault → Fault → Bool
same_fault Exception Exception = true
same_fault RuntimeException RuntimeException = true
same_fault InterruptedException InterruptedException = true
same_fault ArithmeticException ArithmeticException = true
same_fault NullPointerException NullPointerException = true
same_fault NegativeArraySizeException NegativeArraySizeException = true
same_fault IllegalMonitorStateException IllegalMonitorStateException = true
same_fault IndexOutOfBoundsException IndexOutOfBoundsException = true
same_fault IllegalArgumentException IllegalArgumentException = true
same_fault ArrayIndexOutOfBoundsException ArrayIndexOutOfBoundsException = true
same_fault IllegalThreadStateException IllegalThreadStateException = true
same_fault _ _ = false

-- the classes that have classes below them, each with those above it
abbrev pub exceptions : List Fault
exceptions = Exception ∷ []

abbrev pub runtime_exceptions : List Fault
runtime_exceptions = RuntimeException ∷ exceptions

abbrev pub index_exceptions : List Fault
index_exceptions = IndexOutOfBoundsException ∷ runtime_exceptions

abbrev pub argument_exceptions : List Fault
argument_exceptions = IllegalArgumentException ∷ runtime_exceptions

-- an exception's class, and the classes above it
abbrev pub classes_of : Fault → List Fault
classes_of Exception = exceptions
classes_of RuntimeException = runtime_exceptions
classes_of InterruptedException = InterruptedException ∷ exceptions
classes_of ArithmeticException = ArithmeticException ∷ runtime_exceptions
classes_of NullPointerException = NullPointerException ∷ runtime_exceptions
classes_of NegativeArraySizeException = NegativeArraySizeException ∷ runtime_exceptions
classes_of IllegalMonitorStateException = IllegalMonitorStateException ∷ runtime_exceptions
classes_of IndexOutOfBoundsException = index_exceptions
classes_of IllegalArgumentException = argument_exceptions
classes_of ArrayIndexOutOfBoundsException = ArrayIndexOutOfBoundsException ∷ index_exceptions
classes_of IllegalThreadStateException = IllegalThreadStateException ∷ argument_exceptions

-- a catch of the first takes the second
abbrev pub catches : Fault → Fault → Bool
catches caught fault = list_any (same_fault caught) (classes_of fault)

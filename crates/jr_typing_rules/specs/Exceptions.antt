-- The exceptions that are caught and thrown, by name.
use Rattle.std.specs.Prelude.{Bool, cond, Option, Some, None, codes, is_some, ◌||◌}
use Rattle.std.specs.Str.{bytes_eq}
use Rattle.jr_base.specs.declared.finish.Fault.{Fault}
use Rattle.jr_base.specs.declared.finish.Fault.TheVariants as faults
use Rattle.jr_typing_rules.specs.Names.{Text}

unfoldable pub fault_named : Text → Option Fault
fault_named x =
    cond (bytes_eq x (codes "Exception")) (Some faults.Exception)
    (cond (bytes_eq x (codes "RuntimeException")) (Some faults.RuntimeException)
    (cond (bytes_eq x (codes "InterruptedException")) (Some faults.InterruptedException)
    (cond (bytes_eq x (codes "ArithmeticException")) (Some faults.ArithmeticException)
    (cond (bytes_eq x (codes "NullPointerException")) (Some faults.NullPointerException)
    (cond (bytes_eq x (codes "NegativeArraySizeException")) (Some faults.NegativeArraySizeException)
    (cond (bytes_eq x (codes "IllegalMonitorStateException")) (Some faults.IllegalMonitorStateException)
    (cond (bytes_eq x (codes "IndexOutOfBoundsException")) (Some faults.IndexOutOfBoundsException)
    (cond (bytes_eq x (codes "IllegalArgumentException")) (Some faults.IllegalArgumentException)
    (cond (bytes_eq x (codes "ArrayIndexOutOfBoundsException")) (Some faults.ArrayIndexOutOfBoundsException)
    (cond (bytes_eq x (codes "IllegalThreadStateException")) (Some faults.IllegalThreadStateException)
    None))))))))))

-- names that no class of the program has
unfoldable pub is_reserved : Text → Bool
is_reserved x =
    (bytes_eq x (codes "Object") || bytes_eq x (codes "Thread")) ||
    ((bytes_eq x (codes "Runnable") || bytes_eq x (codes "String")) ||
    (bytes_eq x (codes "System") || is_some (fault_named x)))

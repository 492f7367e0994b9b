-- What the letters of an instruction's row stand for where the instruction stands.
use Rattle.std.specs.Prelude.{◌≡◌, ◌≢◌, true, false, length, Some, None, slice_get}
use Rattle.jr_base.specs.declared.kind.SlotKind.TheVariants.{Caught as CaughtKind}
use Rattle.jr_arith.specs.Kinds.{kind_of_element}
use Rattle.jr_ops.specs.Instructions.{Letters}
use Rattle.jr_code.specs.Instructions.{Instruction, Load, Store, GetField, PutField, GetStatic, PutStatic, GetElement, PutElement, CallStaticMethod, CallMethodOn, ReturnNothing, ReturnTop, AssertThat, PrintAll, ThrowLocal, Unknown, MethodCode, Code}
use Rattle.jr_code.specs.Machine.{method_code_at, values_printed}
use Rattle.jr_code.specs.Checked.{kinds_of_locals, NoneCaught, AreVariables}

-- A local, a field, an element, a formal or a result has the kind that the code gives it, and what is no value stands in
-- none of them but a local.
abbrev pub LettersFit : Code → MethodCode → Instruction → Letters → Type 0
LettersFit code c (Load x) l = slice_get (kinds_of_locals c) x ≡ Some l.x
LettersFit code c (Store x) l = slice_get (kinds_of_locals c) x ≡ Some l.x
LettersFit code c (GetField slot kind) l = (l.x ≡ kind) × (kind ≢ CaughtKind)
LettersFit code c (PutField slot kind) l = (l.x ≡ kind) × (kind ≢ CaughtKind)
LettersFit code c (GetStatic at kind) l = (l.x ≡ kind) × (kind ≢ CaughtKind)
LettersFit code c (PutStatic at kind) l = (l.x ≡ kind) × (kind ≢ CaughtKind)
LettersFit code c (GetElement element) l = l.x ≡ kind_of_element element
LettersFit code c (PutElement element) l = l.x ≡ kind_of_element element
LettersFit code c (CallStaticMethod m) l =
    (callee : MethodCode) × (method_code_at code m ≡ Some callee) × (callee.is_static ≡ true) × (l.arguments ≡ callee.formals)
    × (l.outcome ≡ callee.result)
LettersFit code c (CallMethodOn m) l =
    (callee : MethodCode) × (method_code_at code m ≡ Some callee) × (callee.is_static ≡ false) × (l.arguments ≡ callee.formals)
    × (l.outcome ≡ callee.result)
LettersFit code c ReturnNothing l = c.result ≡ None
LettersFit code c ReturnTop l = c.result ≡ Some l.x
LettersFit code c (AssertThat clause scope) l = AreVariables (kinds_of_locals c) scope
LettersFit code c (PrintAll parts) l = (length l.part_values ≡ values_printed parts) × NoneCaught l.part_values
LettersFit code c (ThrowLocal x) l = slice_get (kinds_of_locals c) x ≡ Some CaughtKind
LettersFit code c Unknown l = ⊥
LettersFit code c _ l = Unit {0}

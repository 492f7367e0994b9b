-- An index out of range is caught, and a zero divisor isn't.
use Rattle.std.proofs.Common.{◌≡◌, List, [], ◌∷◌, refl, None, Some, pos, codes, true, false}
use Rattle.std.specs.Int.{int_wrap}
use Rattle.jr_base.specs.declared.action.Reply.TheVariants as replies
use Rattle.jr_base.specs.declared.action.LeaveHow.TheVariants as leaves
use Rattle.jr_base.specs.declared.action.EndHow.TheVariants as ends
use Rattle.jr_base.specs.declared.action.NewKind.TheVariants as kinds
use Rattle.jr_base.specs.declared.action.Elem.TheVariants as elems
use Rattle.jr_base.specs.declared.action.PrintPart.TheVariants.{Text}
use Rattle.jr_base.specs.declared.value.Value.TheVariants as values
use Rattle.jr_base.specs.declared.finish.Fault.TheVariants as faults
use Rattle.jr_base.specs.Deed as deeds
use Rattle.jr_base.specs.declared.kind.SlotKind.TheVariants as kind
use Rattle.jr_arith.specs.declared.operator.Width.TheVariants as width
use Rattle.jr_arith.specs.declared.operator.Arithmetic.TheVariants as arithmetic
use Rattle.jr_arith.specs.declared.operator.Binary.TheVariants as binary
use Rattle.jr_program.specs.Programs.{Program, Number, Read, Binary, Assign, NewArray, Local, ElementOf, Literal, Shown, no_catch, or_catch, Then, Declare, Evaluate, Do, Try, Println}
use Rattle.jr_meaning.specs.Next.{Ended}
use Rattle.jr_meaning.specs.Objects.{cell}
use Rattle.jr_meaning.proofs.Guest.{Answered, class, method, text, object, does, each_of}

--   class A {
--     public static void main(String[] args) {
--       int[] a = new int[2];
--       try { a[2] = 5; } catch (IndexOutOfBoundsException e) { System.out.println("caught"); }
--       System.out.println(a[1] + 1 / a[0]);
--     }
--   }
caught_index : Program
caught_index = record {
  classes =
      record { name = []; extends_thread = false; implements_runnable = false; run = None; constructor = None }
      ∷ [];
  fields = [];
  methods =
      record {
        name = [];
        class = (class 0);
        is_static = true;
        is_constructor = false;
        is_synchronized = false;
        is_helper = false;
        formals = [];
        locals = (kind.Ref ∷ kind.Caught ∷ []);
        result = None;
        body = (Then (Declare 0 (NewArray elems.Int (Number width.Int (pos 2)))) (Then (Try (Do (Evaluate (Assign (ElementOf elems.Int (Read (Local 0)) (Number width.Int (pos 2))) (Number width.Int (pos 5))))) (or_catch faults.IndexOutOfBoundsException 1 (Println (Literal (text 0) ∷ [])) no_catch)) (Println (Shown (Binary (binary.Arithmetic arithmetic.Add width.Int) (Read (ElementOf elems.Int (Read (Local 0)) (Number width.Int (pos 1)))) (Binary (binary.Arithmetic arithmetic.Divide width.Int) (Number width.Int (pos 1)) (Read (ElementOf elems.Int (Read (Local 0)) (Number width.Int (pos 0)))))) ∷ []))));
      }
      ∷ [];
  clauses = [];
  notes = [];
  texts = (codes "caught" ∷ []);
  main = (method 0);
}

guest_1 : List Answered
guest_1 =
    record { deed = deeds.Call (method 0) None []; reply = replies.Unit }
    ∷ record { deed = deeds.New (kinds.Array elems.Int 2); reply = replies.Made (object 2) }
    ∷ record { deed = deeds.Put (cell (object 2) 2) (values.Int (pos 5)); reply = replies.Range }
    ∷ record { deed = deeds.Print (Text (text 0) ∷ []); reply = replies.Unit }
    ∷ record { deed = deeds.Get (cell (object 2) 1); reply = replies.Value (values.Int (pos 0)) }
    ∷ record { deed = deeds.Get (cell (object 2) 0); reply = replies.Value (values.Int (pos 0)) }
    ∷ record { deed = deeds.Leave (method 0) leaves.Abrupt; reply = replies.Unit }
    ∷ record { deed = deeds.End (ends.Uncaught faults.ArithmeticException); reply = replies.Unit }
    ∷ []

guest_1_does : does caught_index (Some (record { method = (method 0); this = None })) guest_1 ≡ each_of guest_1 Ended
unfolding caught_index guest_1 int_wrap
guest_1_does = refl

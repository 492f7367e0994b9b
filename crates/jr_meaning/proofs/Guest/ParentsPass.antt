-- A catch takes no exception of a class above its own.
use Rattle.std.proofs.Common.{◌≡◌, List, [], ◌∷◌, refl, None, Some, codes, true, false}
use Rattle.std.specs.Int.{int_wrap}
use Rattle.jr_base.specs.declared.action.Reply.TheVariants as replies
use Rattle.jr_base.specs.declared.action.LeaveHow.TheVariants as leaves
use Rattle.jr_base.specs.declared.action.EndHow.TheVariants as ends
use Rattle.jr_base.specs.declared.action.PrintPart.TheVariants.{Text}
use Rattle.jr_base.specs.declared.finish.Fault.TheVariants as faults
use Rattle.jr_base.specs.Deed as deeds
use Rattle.jr_base.specs.declared.kind.SlotKind.TheVariants as kind
use Rattle.jr_program.specs.Programs.{Program, Literal, no_catch, or_catch, Then, Try, Throw, Println}
use Rattle.jr_meaning.specs.Next.{Ended}
use Rattle.jr_meaning.proofs.Guest.{Answered, class, method, text, does, each_of}

--   class A {
--     public static void main(String[] args) {
--       try {
--         try { throw new Exception("e"); } catch (RuntimeException r) { System.out.println("runtime"); }
--       } catch (Exception e) { System.out.println("any"); }
--       try { throw new IndexOutOfBoundsException(); } catch (ArrayIndexOutOfBoundsException e) { System.out.println("array"); }
--     }
--   }
parents_pass : Program
parents_pass = record {
  classes =
      record { name = []; extends_thread = false; implements_runnable = false; run = None; constructor = None }
      ∷ [];
  fields = [];
  methods =
      record {
        name = [];
        class = (class 0);
        is_static = true;
        is_constructor = false;
        is_synchronized = false;
        is_helper = false;
        formals = [];
        locals = (kind.Caught ∷ kind.Caught ∷ kind.Caught ∷ []);
        result = None;
        body = (Then (Try (Try (Throw faults.Exception) (or_catch faults.RuntimeException 0 (Println (Literal (text 0) ∷ [])) no_catch)) (or_catch faults.Exception 1 (Println (Literal (text 1) ∷ [])) no_catch)) (Try (Throw faults.IndexOutOfBoundsException) (or_catch faults.ArrayIndexOutOfBoundsException 2 (Println (Literal (text 2) ∷ [])) no_catch)));
      }
      ∷ [];
  clauses = [];
  notes = [];
  texts = (codes "runtime" ∷ codes "any" ∷ codes "array" ∷ []);
  main = (method 0);
}

guest_1 : List Answered
guest_1 =
    record { deed = deeds.Call (method 0) None []; reply = replies.Unit }
    ∷ record { deed = deeds.Print (Text (text 1) ∷ []); reply = replies.Unit }
    ∷ record { deed = deeds.Leave (method 0) leaves.Abrupt; reply = replies.Unit }
    ∷ record { deed = deeds.End (ends.Uncaught faults.IndexOutOfBoundsException); reply = replies.Unit }
    ∷ []

guest_1_does : does parents_pass (Some (record { method = (method 0); this = None })) guest_1 ≡ each_of guest_1 Ended
unfolding parents_pass guest_1 int_wrap
guest_1_does = refl

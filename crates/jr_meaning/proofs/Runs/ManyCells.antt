-- A program and its run by the serial rule with seed 0.
--     class R {
--       static int n;
--       public static void main(String[] args) {
--         int[] a = new int[1048570];
--         a[1048569] = 7;
--         n = a[1048569];
--         int[] b = new int[5];
--         int[] c = new int[1];
--       }
--     }
use Rattle.std.specs.Prelude.{◌≡◌, pos, true, false, List, [], ◌∷◌, None}
use Rattle.jr_base.specs.Deed.{Deed}
use Rattle.jr_base.specs.Deed as deeds
use Rattle.jr_base.specs.declared.action.Elem.TheVariants as elems
use Rattle.jr_base.specs.declared.action.NewKind.TheVariants as makes
use Rattle.jr_base.specs.declared.action.Reply.TheVariants as replies
use Rattle.jr_base.specs.declared.value.Value.TheVariants as values
use Rattle.jr_base.specs.declared.finish.Finish.{Finish}
use Rattle.jr_base.specs.declared.finish.Finish.TheVariants as finishes
use Rattle.jr_base.specs.declared.finish.LimitKind.TheVariants as limits
use Rattle.jr_base.specs.declared.kind.SlotKind.TheVariants as kinds
use Rattle.jr_arith.specs.declared.operator.Width.TheVariants as widths
use Rattle.jr_program.specs.Programs as code
use Rattle.jr_program.specs.Programs.{Program}
use Rattle.jr_meaning.specs.Event.{Event}
use Rattle.jr_meaning.specs.Right.{IsRightRun}
use Rattle.jr_meaning.specs.Serial.{serial}
use Rattle.jr_meaning.proofs.SerialRuns.{serial-right}
use Rattle.jr_meaning.proofs.Runs.{made}
use Rattle.std.proofs.Common.{refl, subst}
use Rattle.std.specs.Int.{int_wrap}

abbrev pub program : Program
program = record {
  classes =
      record { name = []; extends_thread = false; implements_runnable = false; run = None; constructor = None }
      ∷ [];
  fields =
      record { class = (record { 0 = 0 }); is_static = true; is_volatile = false; kind = kinds.Int; constant = (values.Int (pos 0)) }
      ∷ [];
  methods =
      record {
        name = [];
        class = (record { 0 = 0 });
        is_static = true;
        is_constructor = false;
        is_synchronized = false;
        is_helper = false;
        formals = [];
        locals = (kinds.Ref ∷ kinds.Ref ∷ kinds.Ref ∷ []);
        result = None;
        body = (code.Then (code.Declare 0 (code.NewArray elems.Int (code.Number widths.Int (pos 1048570)))) (code.Then (code.Do (code.Evaluate (code.Assign (code.ElementOf elems.Int (code.Read (code.Local 0)) (code.Number widths.Int (pos 1048569))) (code.Number widths.Int (pos 7))))) (code.Then (code.Do (code.Evaluate (code.Assign (code.StaticField (record { 0 = 0 })) (code.Read (code.ElementOf elems.Int (code.Read (code.Local 0)) (code.Number widths.Int (pos 1048569))))))) (code.Then (code.Declare 1 (code.NewArray elems.Int (code.Number widths.Int (pos 5)))) (code.Declare 2 (code.NewArray elems.Int (code.Number widths.Int (pos 1))))))));
      }
      ∷ [];
  clauses = [];
  notes = [];
  texts = [];
  main = (record { 0 = 0 });
}

abbrev pub journal : List Event
journal =
    made 1 (deeds.Call (record { 0 = 0 }) None []) replies.Unit
    ∷ made 1 (deeds.New (makes.Array elems.Int 1048570)) (replies.Made (record { 0 = 2 }))
    ∷ made 1 (deeds.Put (record { obj = (record { 0 = 2 }); slot = 1048569 }) (values.Int (pos 7))) replies.Unit
    ∷ made 1 (deeds.Get (record { obj = (record { 0 = 2 }); slot = 1048569 })) (replies.Value (values.Int (pos 7)))
    ∷ made 1 (deeds.Put (record { obj = (record { 0 = 1 }); slot = 0 }) (values.Int (pos 7))) replies.Unit
    ∷ made 1 (deeds.New (makes.Array elems.Int 5)) (replies.Made (record { 0 = 3 }))
    ∷ []

abbrev pub finish : Finish
finish = (finishes.Limit limits.Cells (record { 0 = 1 }) 1048577)

pub is_serial : serial program 200000 0 0 ≡ record { history = journal; finish = finish }
unfolding int_wrap
is_serial = refl

pub is_right : IsRightRun program 200000 (record { history = journal; finish = finish })
is_right = subst (IsRightRun program 200000) is_serial (serial-right program 200000 0 0)

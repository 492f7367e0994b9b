-- A program and its run by the serial rule with seed 0.
--     class T extends Thread { public static void main(String[] args) { for (int i = 0; i < 16; i++) new T().start(); } }
use Rattle.std.specs.Prelude.{◌≡◌, pos, true, false, List, [], ◌∷◌, None}
use Rattle.jr_base.specs.Deed.{Deed}
use Rattle.jr_base.specs.Deed as deeds
use Rattle.jr_base.specs.declared.action.NewKind.TheVariants as makes
use Rattle.jr_base.specs.declared.action.Reply.TheVariants as replies
use Rattle.jr_base.specs.declared.finish.Finish.{Finish}
use Rattle.jr_base.specs.declared.finish.Finish.TheVariants as finishes
use Rattle.jr_base.specs.declared.finish.LimitKind.TheVariants as limits
use Rattle.jr_base.specs.declared.kind.SlotKind.TheVariants as kinds
use Rattle.jr_arith.specs.declared.operator.Width.TheVariants as widths
use Rattle.jr_arith.specs.declared.operator.Comparison.TheVariants as comparisons
use Rattle.jr_arith.specs.declared.operator.Binary.TheVariants as binaries
use Rattle.jr_base.specs.declared.kind.ObjectCall.TheVariants as calls
use Rattle.jr_program.specs.Programs as code
use Rattle.jr_program.specs.Programs.{Program}
use Rattle.jr_meaning.specs.Event.{Event}
use Rattle.jr_meaning.specs.Right.{IsRightRun}
use Rattle.jr_meaning.specs.Serial.{serial}
use Rattle.jr_meaning.proofs.SerialRuns.{serial-right}
use Rattle.jr_meaning.proofs.Runs.{made}
use Rattle.std.proofs.Common.{refl, subst}
use Rattle.std.specs.Int.{int_wrap}

abbrev pub program : Program
program = record {
  classes =
      record { name = []; extends_thread = true; implements_runnable = false; run = None; constructor = None }
      ∷ [];
  fields = [];
  methods =
      record {
        name = [];
        class = (record { 0 = 0 });
        is_static = true;
        is_constructor = false;
        is_synchronized = false;
        is_helper = false;
        formals = [];
        locals = (kinds.Int ∷ []);
        result = None;
        body = (code.Then (code.Declare 0 (code.Number widths.Int (pos 0))) (code.Loop (code.Binary (binaries.Compare comparisons.Less widths.Int) (code.Read (code.Local 0)) (code.Number widths.Int (pos 16))) ((code.Evaluate (code.PostfixIncrement widths.Int (code.Local 0) (pos 1))) ∷ []) (code.Do (code.CallObject calls.Start (code.NewObject (record { 0 = 0 }) code.no_more)))));
      }
      ∷ [];
  clauses = [];
  notes = [];
  texts = [];
  main = (record { 0 = 0 });
}

abbrev pub journal : List Event
journal =
    made 1 (deeds.Call (record { 0 = 0 }) None []) replies.Unit
    ∷ made 1 (deeds.New (makes.Object (record { 0 = 0 }))) (replies.Made (record { 0 = 2 }))
    ∷ made 1 (deeds.Start (record { 0 = 2 })) (replies.Started (record { 0 = 2 }) None)
    ∷ made 1 (deeds.Back) replies.Unit
    ∷ made 1 (deeds.New (makes.Object (record { 0 = 0 }))) (replies.Made (record { 0 = 3 }))
    ∷ made 1 (deeds.Start (record { 0 = 3 })) (replies.Started (record { 0 = 3 }) None)
    ∷ made 1 (deeds.Back) replies.Unit
    ∷ made 1 (deeds.New (makes.Object (record { 0 = 0 }))) (replies.Made (record { 0 = 4 }))
    ∷ made 1 (deeds.Start (record { 0 = 4 })) (replies.Started (record { 0 = 4 }) None)
    ∷ made 1 (deeds.Back) replies.Unit
    ∷ made 1 (deeds.New (makes.Object (record { 0 = 0 }))) (replies.Made (record { 0 = 5 }))
    ∷ made 1 (deeds.Start (record { 0 = 5 })) (replies.Started (record { 0 = 5 }) None)
    ∷ made 1 (deeds.Back) replies.Unit
    ∷ made 1 (deeds.New (makes.Object (record { 0 = 0 }))) (replies.Made (record { 0 = 6 }))
    ∷ made 1 (deeds.Start (record { 0 = 6 })) (replies.Started (record { 0 = 6 }) None)
    ∷ made 1 (deeds.Back) replies.Unit
    ∷ made 1 (deeds.New (makes.Object (record { 0 = 0 }))) (replies.Made (record { 0 = 7 }))
    ∷ made 1 (deeds.Start (record { 0 = 7 })) (replies.Started (record { 0 = 7 }) None)
    ∷ made 1 (deeds.Back) replies.Unit
    ∷ made 1 (deeds.New (makes.Object (record { 0 = 0 }))) (replies.Made (record { 0 = 8 }))
    ∷ made 1 (deeds.Start (record { 0 = 8 })) (replies.Started (record { 0 = 8 }) None)
    ∷ made 1 (deeds.Back) replies.Unit
    ∷ made 1 (deeds.New (makes.Object (record { 0 = 0 }))) (replies.Made (record { 0 = 9 }))
    ∷ made 1 (deeds.Start (record { 0 = 9 })) (replies.Started (record { 0 = 9 }) None)
    ∷ made 1 (deeds.Back) replies.Unit
    ∷ made 1 (deeds.New (makes.Object (record { 0 = 0 }))) (replies.Made (record { 0 = 10 }))
    ∷ made 1 (deeds.Start (record { 0 = 10 })) (replies.Started (record { 0 = 10 }) None)
    ∷ made 1 (deeds.Back) replies.Unit
    ∷ made 1 (deeds.New (makes.Object (record { 0 = 0 }))) (replies.Made (record { 0 = 11 }))
    ∷ made 1 (deeds.Start (record { 0 = 11 })) (replies.Started (record { 0 = 11 }) None)
    ∷ made 1 (deeds.Back) replies.Unit
    ∷ made 1 (deeds.New (makes.Object (record { 0 = 0 }))) (replies.Made (record { 0 = 12 }))
    ∷ made 1 (deeds.Start (record { 0 = 12 })) (replies.Started (record { 0 = 12 }) None)
    ∷ made 1 (deeds.Back) replies.Unit
    ∷ made 1 (deeds.New (makes.Object (record { 0 = 0 }))) (replies.Made (record { 0 = 13 }))
    ∷ made 1 (deeds.Start (record { 0 = 13 })) (replies.Started (record { 0 = 13 }) None)
    ∷ made 1 (deeds.Back) replies.Unit
    ∷ made 1 (deeds.New (makes.Object (record { 0 = 0 }))) (replies.Made (record { 0 = 14 }))
    ∷ made 1 (deeds.Start (record { 0 = 14 })) (replies.Started (record { 0 = 14 }) None)
    ∷ made 1 (deeds.Back) replies.Unit
    ∷ made 1 (deeds.New (makes.Object (record { 0 = 0 }))) (replies.Made (record { 0 = 15 }))
    ∷ made 1 (deeds.Start (record { 0 = 15 })) (replies.Started (record { 0 = 15 }) None)
    ∷ made 1 (deeds.Back) replies.Unit
    ∷ made 1 (deeds.New (makes.Object (record { 0 = 0 }))) (replies.Made (record { 0 = 16 }))
    ∷ made 1 (deeds.Start (record { 0 = 16 })) (replies.Started (record { 0 = 16 }) None)
    ∷ made 1 (deeds.Back) replies.Unit
    ∷ made 1 (deeds.New (makes.Object (record { 0 = 0 }))) (replies.Made (record { 0 = 17 }))
    ∷ []

abbrev pub finish : Finish
finish = (finishes.Limit limits.Guests (record { 0 = 1 }) 17)

pub is_serial : serial program 200000 0 0 ≡ record { history = journal; finish = finish }
unfolding int_wrap
is_serial = refl

pub is_right : IsRightRun program 200000 (record { history = journal; finish = finish })
is_right = subst (IsRightRun program 200000) is_serial (serial-right program 200000 0 0)

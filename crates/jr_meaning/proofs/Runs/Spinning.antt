-- A program and its run by the serial rule with seed 0.
--     class L { public static void main(String[] args) { while (true) { } } }
use Rattle.std.specs.Prelude.{◌≡◌, true, false, List, [], ◌∷◌, None}
use Rattle.jr_base.specs.Deed.{Deed}
use Rattle.jr_base.specs.Deed as deeds
use Rattle.jr_base.specs.declared.action.Reply.TheVariants as replies
use Rattle.jr_base.specs.declared.finish.Finish.{Finish}
use Rattle.jr_base.specs.declared.finish.Finish.TheVariants as finishes
use Rattle.jr_program.specs.Programs as code
use Rattle.jr_program.specs.Programs.{Program}
use Rattle.jr_meaning.specs.Event.{Event}
use Rattle.jr_meaning.specs.Right.{IsRightRun}
use Rattle.jr_meaning.specs.Serial.{serial}
use Rattle.jr_meaning.proofs.SerialRuns.{serial-right}
use Rattle.jr_meaning.proofs.Runs.{made}
use Rattle.std.proofs.Common.{refl, subst}
use Rattle.std.specs.Int.{int_wrap}

abbrev pub program : Program
program = record {
  classes =
      record { name = []; extends_thread = false; implements_runnable = false; run = None; constructor = None }
      ∷ [];
  fields = [];
  methods =
      record {
        name = [];
        class = (record { 0 = 0 });
        is_static = true;
        is_constructor = false;
        is_synchronized = false;
        is_helper = false;
        formals = [];
        locals = [];
        result = None;
        body = (code.Loop (code.Truth true) [] code.Skip);
      }
      ∷ [];
  clauses = [];
  notes = [];
  texts = [];
  main = (record { 0 = 0 });
}

abbrev pub journal : List Event
journal =
    made 1 (deeds.Call (record { 0 = 0 }) None []) replies.Unit
    ∷ made 1 (deeds.Back) replies.Unit
    ∷ made 1 (deeds.Back) replies.Unit
    ∷ made 1 (deeds.Back) replies.Unit
    ∷ made 1 (deeds.Back) replies.Unit
    ∷ made 1 (deeds.Back) replies.Unit
    ∷ made 1 (deeds.Back) replies.Unit
    ∷ made 1 (deeds.Back) replies.Unit
    ∷ made 1 (deeds.Back) replies.Unit
    ∷ made 1 (deeds.Back) replies.Unit
    ∷ made 1 (deeds.Back) replies.Unit
    ∷ made 1 (deeds.Back) replies.Unit
    ∷ made 1 (deeds.Back) replies.Unit
    ∷ made 1 (deeds.Back) replies.Unit
    ∷ made 1 (deeds.Back) replies.Unit
    ∷ made 1 (deeds.Back) replies.Unit
    ∷ made 1 (deeds.Back) replies.Unit
    ∷ made 1 (deeds.Back) replies.Unit
    ∷ made 1 (deeds.Back) replies.Unit
    ∷ made 1 (deeds.Back) replies.Unit
    ∷ made 1 (deeds.Back) replies.Unit
    ∷ made 1 (deeds.Back) replies.Unit
    ∷ made 1 (deeds.Back) replies.Unit
    ∷ made 1 (deeds.Back) replies.Unit
    ∷ made 1 (deeds.Back) replies.Unit
    ∷ made 1 (deeds.Back) replies.Unit
    ∷ made 1 (deeds.Back) replies.Unit
    ∷ made 1 (deeds.Back) replies.Unit
    ∷ made 1 (deeds.Back) replies.Unit
    ∷ made 1 (deeds.Back) replies.Unit
    ∷ made 1 (deeds.Back) replies.Unit
    ∷ made 1 (deeds.Back) replies.Unit
    ∷ made 1 (deeds.Back) replies.Unit
    ∷ made 1 (deeds.Back) replies.Unit
    ∷ made 1 (deeds.Back) replies.Unit
    ∷ made 1 (deeds.Back) replies.Unit
    ∷ made 1 (deeds.Back) replies.Unit
    ∷ made 1 (deeds.Back) replies.Unit
    ∷ made 1 (deeds.Back) replies.Unit
    ∷ made 1 (deeds.Back) replies.Unit
    ∷ made 1 (deeds.Back) replies.Unit
    ∷ made 1 (deeds.Back) replies.Unit
    ∷ made 1 (deeds.Back) replies.Unit
    ∷ made 1 (deeds.Back) replies.Unit
    ∷ made 1 (deeds.Back) replies.Unit
    ∷ made 1 (deeds.Back) replies.Unit
    ∷ made 1 (deeds.Back) replies.Unit
    ∷ made 1 (deeds.Back) replies.Unit
    ∷ made 1 (deeds.Back) replies.Unit
    ∷ made 1 (deeds.Back) replies.Unit
    ∷ []

abbrev pub finish : Finish
finish = (finishes.Budget 50)

pub is_serial : serial program 50 0 0 ≡ record { history = journal; finish = finish }
unfolding int_wrap
is_serial = refl

pub is_right : IsRightRun program 50 (record { history = journal; finish = finish })
is_right = subst (IsRightRun program 50) is_serial (serial-right program 50 0 0)

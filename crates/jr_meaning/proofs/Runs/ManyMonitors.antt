-- A program and its run by the serial rule with seed 0.
--     class R {
--       static void f() { synchronized (new Object()) { f(); } }
--       public static void main(String[] args) { f(); }
--     }
use Rattle.std.specs.Prelude.{◌≡◌, true, false, List, [], ◌∷◌, None}
use Rattle.jr_base.specs.Deed.{Deed}
use Rattle.jr_base.specs.Deed as deeds
use Rattle.jr_base.specs.declared.action.NewKind.TheVariants as makes
use Rattle.jr_base.specs.declared.action.Reply.TheVariants as replies
use Rattle.jr_base.specs.declared.action.Way.TheVariants as ways
use Rattle.jr_base.specs.declared.finish.Finish.{Finish}
use Rattle.jr_base.specs.declared.finish.Finish.TheVariants as finishes
use Rattle.jr_base.specs.declared.finish.LimitKind.TheVariants as limits
use Rattle.jr_program.specs.Programs as code
use Rattle.jr_program.specs.Programs.{Program}
use Rattle.jr_meaning.specs.Event.{Event}
use Rattle.jr_meaning.specs.Right.{IsRightRun}
use Rattle.jr_meaning.specs.Serial.{serial}
use Rattle.jr_meaning.proofs.SerialRuns.{serial-right}
use Rattle.jr_meaning.proofs.Runs.{made}
use Rattle.std.proofs.Common.{refl, subst}
use Rattle.std.specs.Int.{int_wrap}

abbrev pub program : Program
program = record {
  classes =
      record { name = []; extends_thread = false; implements_runnable = false; run = None; constructor = None }
      ∷ [];
  fields = [];
  methods =
      record {
        name = [];
        class = (record { 0 = 0 });
        is_static = true;
        is_constructor = false;
        is_synchronized = false;
        is_helper = false;
        formals = [];
        locals = [];
        result = None;
        body = (code.Synchronized code.NewPlain (code.Do (code.Invoke (code.CallStatic (record { 0 = 0 }) code.no_more))));
      }
      ∷ record {
        name = [];
        class = (record { 0 = 0 });
        is_static = true;
        is_constructor = false;
        is_synchronized = false;
        is_helper = false;
        formals = [];
        locals = [];
        result = None;
        body = (code.Do (code.Invoke (code.CallStatic (record { 0 = 0 }) code.no_more)));
      }
      ∷ [];
  clauses = [];
  notes = [];
  texts = [];
  main = (record { 0 = 1 });
}

abbrev pub journal : List Event
journal =
    made 1 (deeds.Call (record { 0 = 1 }) None []) replies.Unit
    ∷ made 1 (deeds.Call (record { 0 = 0 }) None []) replies.Unit
    ∷ made 1 (deeds.New makes.Plain) (replies.Made (record { 0 = 2 }))
    ∷ made 1 (deeds.Enter (record { 0 = 2 }) ways.Block) replies.Unit
    ∷ made 1 (deeds.Call (record { 0 = 0 }) None []) replies.Unit
    ∷ made 1 (deeds.New makes.Plain) (replies.Made (record { 0 = 3 }))
    ∷ made 1 (deeds.Enter (record { 0 = 3 }) ways.Block) replies.Unit
    ∷ made 1 (deeds.Call (record { 0 = 0 }) None []) replies.Unit
    ∷ made 1 (deeds.New makes.Plain) (replies.Made (record { 0 = 4 }))
    ∷ made 1 (deeds.Enter (record { 0 = 4 }) ways.Block) replies.Unit
    ∷ made 1 (deeds.Call (record { 0 = 0 }) None []) replies.Unit
    ∷ made 1 (deeds.New makes.Plain) (replies.Made (record { 0 = 5 }))
    ∷ made 1 (deeds.Enter (record { 0 = 5 }) ways.Block) replies.Unit
    ∷ made 1 (deeds.Call (record { 0 = 0 }) None []) replies.Unit
    ∷ made 1 (deeds.New makes.Plain) (replies.Made (record { 0 = 6 }))
    ∷ made 1 (deeds.Enter (record { 0 = 6 }) ways.Block) replies.Unit
    ∷ made 1 (deeds.Call (record { 0 = 0 }) None []) replies.Unit
    ∷ made 1 (deeds.New makes.Plain) (replies.Made (record { 0 = 7 }))
    ∷ made 1 (deeds.Enter (record { 0 = 7 }) ways.Block) replies.Unit
    ∷ made 1 (deeds.Call (record { 0 = 0 }) None []) replies.Unit
    ∷ made 1 (deeds.New makes.Plain) (replies.Made (record { 0 = 8 }))
    ∷ made 1 (deeds.Enter (record { 0 = 8 }) ways.Block) replies.Unit
    ∷ made 1 (deeds.Call (record { 0 = 0 }) None []) replies.Unit
    ∷ made 1 (deeds.New makes.Plain) (replies.Made (record { 0 = 9 }))
    ∷ made 1 (deeds.Enter (record { 0 = 9 }) ways.Block) replies.Unit
    ∷ made 1 (deeds.Call (record { 0 = 0 }) None []) replies.Unit
    ∷ made 1 (deeds.New makes.Plain) (replies.Made (record { 0 = 10 }))
    ∷ made 1 (deeds.Enter (record { 0 = 10 }) ways.Block) replies.Unit
    ∷ made 1 (deeds.Call (record { 0 = 0 }) None []) replies.Unit
    ∷ made 1 (deeds.New makes.Plain) (replies.Made (record { 0 = 11 }))
    ∷ made 1 (deeds.Enter (record { 0 = 11 }) ways.Block) replies.Unit
    ∷ made 1 (deeds.Call (record { 0 = 0 }) None []) replies.Unit
    ∷ made 1 (deeds.New makes.Plain) (replies.Made (record { 0 = 12 }))
    ∷ made 1 (deeds.Enter (record { 0 = 12 }) ways.Block) replies.Unit
    ∷ made 1 (deeds.Call (record { 0 = 0 }) None []) replies.Unit
    ∷ made 1 (deeds.New makes.Plain) (replies.Made (record { 0 = 13 }))
    ∷ made 1 (deeds.Enter (record { 0 = 13 }) ways.Block) replies.Unit
    ∷ made 1 (deeds.Call (record { 0 = 0 }) None []) replies.Unit
    ∷ made 1 (deeds.New makes.Plain) (replies.Made (record { 0 = 14 }))
    ∷ made 1 (deeds.Enter (record { 0 = 14 }) ways.Block) replies.Unit
    ∷ made 1 (deeds.Call (record { 0 = 0 }) None []) replies.Unit
    ∷ made 1 (deeds.New makes.Plain) (replies.Made (record { 0 = 15 }))
    ∷ made 1 (deeds.Enter (record { 0 = 15 }) ways.Block) replies.Unit
    ∷ made 1 (deeds.Call (record { 0 = 0 }) None []) replies.Unit
    ∷ made 1 (deeds.New makes.Plain) (replies.Made (record { 0 = 16 }))
    ∷ made 1 (deeds.Enter (record { 0 = 16 }) ways.Block) replies.Unit
    ∷ made 1 (deeds.Call (record { 0 = 0 }) None []) replies.Unit
    ∷ made 1 (deeds.New makes.Plain) (replies.Made (record { 0 = 17 }))
    ∷ made 1 (deeds.Enter (record { 0 = 17 }) ways.Block) replies.Unit
    ∷ made 1 (deeds.Call (record { 0 = 0 }) None []) replies.Unit
    ∷ made 1 (deeds.New makes.Plain) (replies.Made (record { 0 = 18 }))
    ∷ made 1 (deeds.Enter (record { 0 = 18 }) ways.Block) replies.Unit
    ∷ made 1 (deeds.Call (record { 0 = 0 }) None []) replies.Unit
    ∷ made 1 (deeds.New makes.Plain) (replies.Made (record { 0 = 19 }))
    ∷ made 1 (deeds.Enter (record { 0 = 19 }) ways.Block) replies.Unit
    ∷ made 1 (deeds.Call (record { 0 = 0 }) None []) replies.Unit
    ∷ made 1 (deeds.New makes.Plain) (replies.Made (record { 0 = 20 }))
    ∷ made 1 (deeds.Enter (record { 0 = 20 }) ways.Block) replies.Unit
    ∷ made 1 (deeds.Call (record { 0 = 0 }) None []) replies.Unit
    ∷ made 1 (deeds.New makes.Plain) (replies.Made (record { 0 = 21 }))
    ∷ made 1 (deeds.Enter (record { 0 = 21 }) ways.Block) replies.Unit
    ∷ made 1 (deeds.Call (record { 0 = 0 }) None []) replies.Unit
    ∷ made 1 (deeds.New makes.Plain) (replies.Made (record { 0 = 22 }))
    ∷ made 1 (deeds.Enter (record { 0 = 22 }) ways.Block) replies.Unit
    ∷ made 1 (deeds.Call (record { 0 = 0 }) None []) replies.Unit
    ∷ made 1 (deeds.New makes.Plain) (replies.Made (record { 0 = 23 }))
    ∷ made 1 (deeds.Enter (record { 0 = 23 }) ways.Block) replies.Unit
    ∷ made 1 (deeds.Call (record { 0 = 0 }) None []) replies.Unit
    ∷ made 1 (deeds.New makes.Plain) (replies.Made (record { 0 = 24 }))
    ∷ made 1 (deeds.Enter (record { 0 = 24 }) ways.Block) replies.Unit
    ∷ made 1 (deeds.Call (record { 0 = 0 }) None []) replies.Unit
    ∷ made 1 (deeds.New makes.Plain) (replies.Made (record { 0 = 25 }))
    ∷ made 1 (deeds.Enter (record { 0 = 25 }) ways.Block) replies.Unit
    ∷ made 1 (deeds.Call (record { 0 = 0 }) None []) replies.Unit
    ∷ made 1 (deeds.New makes.Plain) (replies.Made (record { 0 = 26 }))
    ∷ made 1 (deeds.Enter (record { 0 = 26 }) ways.Block) replies.Unit
    ∷ made 1 (deeds.Call (record { 0 = 0 }) None []) replies.Unit
    ∷ made 1 (deeds.New makes.Plain) (replies.Made (record { 0 = 27 }))
    ∷ made 1 (deeds.Enter (record { 0 = 27 }) ways.Block) replies.Unit
    ∷ made 1 (deeds.Call (record { 0 = 0 }) None []) replies.Unit
    ∷ made 1 (deeds.New makes.Plain) (replies.Made (record { 0 = 28 }))
    ∷ made 1 (deeds.Enter (record { 0 = 28 }) ways.Block) replies.Unit
    ∷ made 1 (deeds.Call (record { 0 = 0 }) None []) replies.Unit
    ∷ made 1 (deeds.New makes.Plain) (replies.Made (record { 0 = 29 }))
    ∷ made 1 (deeds.Enter (record { 0 = 29 }) ways.Block) replies.Unit
    ∷ made 1 (deeds.Call (record { 0 = 0 }) None []) replies.Unit
    ∷ made 1 (deeds.New makes.Plain) (replies.Made (record { 0 = 30 }))
    ∷ made 1 (deeds.Enter (record { 0 = 30 }) ways.Block) replies.Unit
    ∷ made 1 (deeds.Call (record { 0 = 0 }) None []) replies.Unit
    ∷ made 1 (deeds.New makes.Plain) (replies.Made (record { 0 = 31 }))
    ∷ made 1 (deeds.Enter (record { 0 = 31 }) ways.Block) replies.Unit
    ∷ made 1 (deeds.Call (record { 0 = 0 }) None []) replies.Unit
    ∷ made 1 (deeds.New makes.Plain) (replies.Made (record { 0 = 32 }))
    ∷ made 1 (deeds.Enter (record { 0 = 32 }) ways.Block) replies.Unit
    ∷ made 1 (deeds.Call (record { 0 = 0 }) None []) replies.Unit
    ∷ made 1 (deeds.New makes.Plain) (replies.Made (record { 0 = 33 }))
    ∷ made 1 (deeds.Enter (record { 0 = 33 }) ways.Block) replies.Unit
    ∷ made 1 (deeds.Call (record { 0 = 0 }) None []) replies.Unit
    ∷ made 1 (deeds.New makes.Plain) (replies.Made (record { 0 = 34 }))
    ∷ made 1 (deeds.Enter (record { 0 = 34 }) ways.Block) replies.Unit
    ∷ made 1 (deeds.Call (record { 0 = 0 }) None []) replies.Unit
    ∷ made 1 (deeds.New makes.Plain) (replies.Made (record { 0 = 35 }))
    ∷ made 1 (deeds.Enter (record { 0 = 35 }) ways.Block) replies.Unit
    ∷ made 1 (deeds.Call (record { 0 = 0 }) None []) replies.Unit
    ∷ made 1 (deeds.New makes.Plain) (replies.Made (record { 0 = 36 }))
    ∷ made 1 (deeds.Enter (record { 0 = 36 }) ways.Block) replies.Unit
    ∷ made 1 (deeds.Call (record { 0 = 0 }) None []) replies.Unit
    ∷ made 1 (deeds.New makes.Plain) (replies.Made (record { 0 = 37 }))
    ∷ made 1 (deeds.Enter (record { 0 = 37 }) ways.Block) replies.Unit
    ∷ made 1 (deeds.Call (record { 0 = 0 }) None []) replies.Unit
    ∷ made 1 (deeds.New makes.Plain) (replies.Made (record { 0 = 38 }))
    ∷ made 1 (deeds.Enter (record { 0 = 38 }) ways.Block) replies.Unit
    ∷ made 1 (deeds.Call (record { 0 = 0 }) None []) replies.Unit
    ∷ made 1 (deeds.New makes.Plain) (replies.Made (record { 0 = 39 }))
    ∷ made 1 (deeds.Enter (record { 0 = 39 }) ways.Block) replies.Unit
    ∷ made 1 (deeds.Call (record { 0 = 0 }) None []) replies.Unit
    ∷ made 1 (deeds.New makes.Plain) (replies.Made (record { 0 = 40 }))
    ∷ made 1 (deeds.Enter (record { 0 = 40 }) ways.Block) replies.Unit
    ∷ made 1 (deeds.Call (record { 0 = 0 }) None []) replies.Unit
    ∷ made 1 (deeds.New makes.Plain) (replies.Made (record { 0 = 41 }))
    ∷ made 1 (deeds.Enter (record { 0 = 41 }) ways.Block) replies.Unit
    ∷ made 1 (deeds.Call (record { 0 = 0 }) None []) replies.Unit
    ∷ made 1 (deeds.New makes.Plain) (replies.Made (record { 0 = 42 }))
    ∷ made 1 (deeds.Enter (record { 0 = 42 }) ways.Block) replies.Unit
    ∷ made 1 (deeds.Call (record { 0 = 0 }) None []) replies.Unit
    ∷ made 1 (deeds.New makes.Plain) (replies.Made (record { 0 = 43 }))
    ∷ made 1 (deeds.Enter (record { 0 = 43 }) ways.Block) replies.Unit
    ∷ made 1 (deeds.Call (record { 0 = 0 }) None []) replies.Unit
    ∷ made 1 (deeds.New makes.Plain) (replies.Made (record { 0 = 44 }))
    ∷ made 1 (deeds.Enter (record { 0 = 44 }) ways.Block) replies.Unit
    ∷ made 1 (deeds.Call (record { 0 = 0 }) None []) replies.Unit
    ∷ made 1 (deeds.New makes.Plain) (replies.Made (record { 0 = 45 }))
    ∷ made 1 (deeds.Enter (record { 0 = 45 }) ways.Block) replies.Unit
    ∷ made 1 (deeds.Call (record { 0 = 0 }) None []) replies.Unit
    ∷ made 1 (deeds.New makes.Plain) (replies.Made (record { 0 = 46 }))
    ∷ made 1 (deeds.Enter (record { 0 = 46 }) ways.Block) replies.Unit
    ∷ made 1 (deeds.Call (record { 0 = 0 }) None []) replies.Unit
    ∷ made 1 (deeds.New makes.Plain) (replies.Made (record { 0 = 47 }))
    ∷ made 1 (deeds.Enter (record { 0 = 47 }) ways.Block) replies.Unit
    ∷ made 1 (deeds.Call (record { 0 = 0 }) None []) replies.Unit
    ∷ made 1 (deeds.New makes.Plain) (replies.Made (record { 0 = 48 }))
    ∷ made 1 (deeds.Enter (record { 0 = 48 }) ways.Block) replies.Unit
    ∷ made 1 (deeds.Call (record { 0 = 0 }) None []) replies.Unit
    ∷ made 1 (deeds.New makes.Plain) (replies.Made (record { 0 = 49 }))
    ∷ made 1 (deeds.Enter (record { 0 = 49 }) ways.Block) replies.Unit
    ∷ made 1 (deeds.Call (record { 0 = 0 }) None []) replies.Unit
    ∷ made 1 (deeds.New makes.Plain) (replies.Made (record { 0 = 50 }))
    ∷ made 1 (deeds.Enter (record { 0 = 50 }) ways.Block) replies.Unit
    ∷ made 1 (deeds.Call (record { 0 = 0 }) None []) replies.Unit
    ∷ made 1 (deeds.New makes.Plain) (replies.Made (record { 0 = 51 }))
    ∷ made 1 (deeds.Enter (record { 0 = 51 }) ways.Block) replies.Unit
    ∷ made 1 (deeds.Call (record { 0 = 0 }) None []) replies.Unit
    ∷ made 1 (deeds.New makes.Plain) (replies.Made (record { 0 = 52 }))
    ∷ made 1 (deeds.Enter (record { 0 = 52 }) ways.Block) replies.Unit
    ∷ made 1 (deeds.Call (record { 0 = 0 }) None []) replies.Unit
    ∷ made 1 (deeds.New makes.Plain) (replies.Made (record { 0 = 53 }))
    ∷ made 1 (deeds.Enter (record { 0 = 53 }) ways.Block) replies.Unit
    ∷ made 1 (deeds.Call (record { 0 = 0 }) None []) replies.Unit
    ∷ made 1 (deeds.New makes.Plain) (replies.Made (record { 0 = 54 }))
    ∷ made 1 (deeds.Enter (record { 0 = 54 }) ways.Block) replies.Unit
    ∷ made 1 (deeds.Call (record { 0 = 0 }) None []) replies.Unit
    ∷ made 1 (deeds.New makes.Plain) (replies.Made (record { 0 = 55 }))
    ∷ made 1 (deeds.Enter (record { 0 = 55 }) ways.Block) replies.Unit
    ∷ made 1 (deeds.Call (record { 0 = 0 }) None []) replies.Unit
    ∷ made 1 (deeds.New makes.Plain) (replies.Made (record { 0 = 56 }))
    ∷ made 1 (deeds.Enter (record { 0 = 56 }) ways.Block) replies.Unit
    ∷ made 1 (deeds.Call (record { 0 = 0 }) None []) replies.Unit
    ∷ made 1 (deeds.New makes.Plain) (replies.Made (record { 0 = 57 }))
    ∷ made 1 (deeds.Enter (record { 0 = 57 }) ways.Block) replies.Unit
    ∷ made 1 (deeds.Call (record { 0 = 0 }) None []) replies.Unit
    ∷ made 1 (deeds.New makes.Plain) (replies.Made (record { 0 = 58 }))
    ∷ made 1 (deeds.Enter (record { 0 = 58 }) ways.Block) replies.Unit
    ∷ made 1 (deeds.Call (record { 0 = 0 }) None []) replies.Unit
    ∷ made 1 (deeds.New makes.Plain) (replies.Made (record { 0 = 59 }))
    ∷ made 1 (deeds.Enter (record { 0 = 59 }) ways.Block) replies.Unit
    ∷ made 1 (deeds.Call (record { 0 = 0 }) None []) replies.Unit
    ∷ made 1 (deeds.New makes.Plain) (replies.Made (record { 0 = 60 }))
    ∷ made 1 (deeds.Enter (record { 0 = 60 }) ways.Block) replies.Unit
    ∷ made 1 (deeds.Call (record { 0 = 0 }) None []) replies.Unit
    ∷ made 1 (deeds.New makes.Plain) (replies.Made (record { 0 = 61 }))
    ∷ made 1 (deeds.Enter (record { 0 = 61 }) ways.Block) replies.Unit
    ∷ made 1 (deeds.Call (record { 0 = 0 }) None []) replies.Unit
    ∷ made 1 (deeds.New makes.Plain) (replies.Made (record { 0 = 62 }))
    ∷ made 1 (deeds.Enter (record { 0 = 62 }) ways.Block) replies.Unit
    ∷ made 1 (deeds.Call (record { 0 = 0 }) None []) replies.Unit
    ∷ made 1 (deeds.New makes.Plain) (replies.Made (record { 0 = 63 }))
    ∷ made 1 (deeds.Enter (record { 0 = 63 }) ways.Block) replies.Unit
    ∷ made 1 (deeds.Call (record { 0 = 0 }) None []) replies.Unit
    ∷ made 1 (deeds.New makes.Plain) (replies.Made (record { 0 = 64 }))
    ∷ made 1 (deeds.Enter (record { 0 = 64 }) ways.Block) replies.Unit
    ∷ made 1 (deeds.Call (record { 0 = 0 }) None []) replies.Unit
    ∷ made 1 (deeds.New makes.Plain) (replies.Made (record { 0 = 65 }))
    ∷ made 1 (deeds.Enter (record { 0 = 65 }) ways.Block) replies.Unit
    ∷ made 1 (deeds.Call (record { 0 = 0 }) None []) replies.Unit
    ∷ made 1 (deeds.New makes.Plain) (replies.Made (record { 0 = 66 }))
    ∷ []

abbrev pub finish : Finish
finish = (finishes.Limit limits.Held (record { 0 = 1 }) 65)

pub is_serial : serial program 200000 0 0 ≡ record { history = journal; finish = finish }
unfolding int_wrap
is_serial = refl

pub is_right : IsRightRun program 200000 (record { history = journal; finish = finish })
is_right = subst (IsRightRun program 200000) is_serial (serial-right program 200000 0 0)

use Rattle.std.proofs.Common.{◌≡◌, List, Option}
use Rattle.jr_base.specs.declared.action.Body.{Body}
use Rattle.jr_base.specs.declared.action.Reply.{Reply}
use Rattle.jr_program.specs.UnitViews.{program_of}
use Rattle.jr_meaning.specs.Next.{next}
use Rattle.jr_code.specs.Views.{plain_of}
use Rattle.jr_thread_machine.specs.Machines.{held_of}
use Rattle.jr_thread_machine.specs.Saying.{Says}
use Rattle.jr_thread_machine.specs.Standing.{StandsFor, next_of}
use Rattle.jr_thread_machine.proofs.Standing.{right_in, held_in, turned, answers, settled}
use Rattle.jr_thread_machine.proofs.Tables.{mapped_ok}
use Rattle.jr_thread_machine.proofs.machine.Machine.next.Goals as goal

pub ready-requires-clause-right : goal.ready-requires-clause-right
ready-requires-clause-right c =
    right_in (program_of c.args.program.now) c.well_formed-2.ensures (plain_of c.code.result.now) c.code.ensures

pub ready-requires-clause-fits : goal.ready-requires-clause-fits
ready-requires-clause-fits c =
    held_in (program_of c.args.program.now) c.args.self.now c.requires (plain_of c.code.result.now) c.code.ensures

pub returns-clause-next : goal.returns-clause-next
returns-clause-next c =
    let program = program_of c.args.program.now in
    let old = c.args.self.now in
    let now = c.ready.new.self in
    mapped_ok (λ a. Says a (held_of now))
    (λ a. (start : Option Body) (replies : List Reply) → StandsFor program start replies old → next program start replies ≡ next_of a) c.action.result
    (λ a says start replies stands. answers program c.well_formed-2.ensures start replies now
    (turned program start replies old now stands (plain_of c.code.result.now) c.code.ensures c.ready.ensures.turned) a says) c.action.ensures

pub returns-clause-stands : goal.returns-clause-stands
returns-clause-stands c = λ start replies stands.
    turned (program_of c.args.program.now) start replies c.args.self.now c.ready.new.self stands (plain_of c.code.result.now) c.code.ensures
    c.ready.ensures.turned

pub returns-clause-same : goal.returns-clause-same
returns-clause-same c = λ answer says. c.ready.ensures.same (settled answer c.args.self.now says)

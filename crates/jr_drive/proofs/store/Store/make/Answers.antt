use Rattle.std.proofs.Common.{◌∙◌, ap, subst, sym, true, false, [], ◌∷◌}
use Rattle.std.proofs.lemmas.Result.{on_err_weaker}
use Rattle.jr_base.specs.declared.value.Value.TheVariants.{Null}
use Rattle.jr_meaning.specs.World.{Made}
use Rattle.jr_drive.specs.Blanks.{blank_of}
use Rattle.jr_drive.specs.Counted.{IsMadeOf}
use Rattle.jr_drive.proofs.Making.{of-object, of-thread, of-plain, of-array}
use Rattle.jr_drive.proofs.Stores.{stored-same, on-err, next-of, made-of, kept-of}
use Rattle.jr_drive.proofs.store.Store.make.Goals as goal

-- an object of a class

pub returns-in-Object-clause-object : goal.returns-in-Object-clause-object
returns-in-Object-clause-object c = next-of _ _ c.add.new.self _ c.self.view_is c.add.result c.add.ensures.object

pub returns-in-Object-clause-stands : goal.returns-in-Object-clause-stands
returns-in-Object-clause-stands c =
    let same = c.blank_in.ensures ∙ ap (λ bs. blank_of bs c.in-Object.class) c.as_slice.ensures in
    let values = c.blank_in.result.now in
    made-of _ _ c.add.new.self _ c.self.view_is c.add.result c.args.kind false values
    (λ program blanks. subst (λ k. IsMadeOf program (Made k) false values) (sym c.in-Object.is) (of-object program c.self.inside.blanks c.in-Object.class values same blanks)) c.add.ensures.stands

pub returns-in-Object-clause-memory : goal.returns-in-Object-clause-memory
returns-in-Object-clause-memory c = on_err_weaker c.add.result (kept-of _ _ c.add.new.self _ c.self.view_is) c.add.ensures.memory

-- one of class Thread

pub returns-in-Thread-clause-object : goal.returns-in-Thread-clause-object
returns-in-Thread-clause-object c = next-of _ _ c.add-in-Thread.new.self _ c.self.view_is c.add-in-Thread.result c.add-in-Thread.ensures.object

pub returns-in-Thread-clause-stands : goal.returns-in-Thread-clause-stands
returns-in-Thread-clause-stands c = made-of _ _ c.add-in-Thread.new.self _ c.self.view_is c.add-in-Thread.result c.args.kind false (Null ∷ [])
    (λ program blanks. subst (λ k. IsMadeOf program (Made k) false (Null ∷ [])) (sym c.in-Thread.is) (of-thread program)) c.add-in-Thread.ensures.stands

pub returns-in-Thread-clause-memory : goal.returns-in-Thread-clause-memory
returns-in-Thread-clause-memory c = on_err_weaker c.add-in-Thread.result (kept-of _ _ c.add-in-Thread.new.self _ c.self.view_is) c.add-in-Thread.ensures.memory

-- one of class Object

pub returns-in-Plain-clause-object : goal.returns-in-Plain-clause-object
returns-in-Plain-clause-object c = next-of _ _ c.add-in-Plain.new.self _ c.self.view_is c.add-in-Plain.result c.add-in-Plain.ensures.object

pub returns-in-Plain-clause-stands : goal.returns-in-Plain-clause-stands
returns-in-Plain-clause-stands c = made-of _ _ c.add-in-Plain.new.self _ c.self.view_is c.add-in-Plain.result c.args.kind false []
    (λ program blanks. subst (λ k. IsMadeOf program (Made k) false []) (sym c.in-Plain.is) (of-plain program)) c.add-in-Plain.ensures.stands

pub returns-in-Plain-clause-memory : goal.returns-in-Plain-clause-memory
returns-in-Plain-clause-memory c = on_err_weaker c.add-in-Plain.result (kept-of _ _ c.add-in-Plain.new.self _ c.self.view_is) c.add-in-Plain.ensures.memory

-- an array

pub returns-in_ok-add-in-Array-clause-object : goal.returns-in_ok-add-in-Array-clause-object
returns-in_ok-add-in-Array-clause-object c = λ program world stored. c.in_ok-add-in-Array.ensures.object program world (stored-same program _ _ world c.self.view_is stored).made

pub returns-in_ok-add-in-Array-clause-stands : goal.returns-in_ok-add-in-Array-clause-stands
returns-in_ok-add-in-Array-clause-stands c = λ program world stored.
    let before = stored-same program _ _ world c.self.view_is stored in
    let values = c.as_slice-in-Array.result.now in
    let made : IsMadeOf program (Made c.args.kind) true values =
    subst (λ k. IsMadeOf program (Made k) true values) (sym c.in-Array.is)
    (of-array program c.in-Array.element c.in-Array.length values (c.as_slice-in-Array.ensures.value ∙ c.in_ok-values-in-Array.ensures)) in
    record { made = c.in_ok-add-in-Array.ensures.stands program world (Made c.args.kind) made before.made; blanks = before.blanks }

pub returns-in_err-add-in-Array-clause-memory : goal.returns-in_err-add-in-Array-clause-memory
returns-in_err-add-in-Array-clause-memory c =
    on-err c.from_residual-in_err-add-in-Array.result _ (kept-of _ _ c.add-in-Array.new.self _ c.self.view_is c.in_err-add-in-Array.ensures.memory)

-- What clauses are worth in a run of a built program is what they are worth at the moment alone.
use Rattle.std.proofs.Common.{◌≡◌, ◌≢◌, Bool, true, false, List, [], ◌∷◌, map, drop, Option, Some, None, slice_get, cond, refl, sym, ap, ◌∙◌}
use Rattle.std.specs.Option.{option_map, option_map_or}
use Rattle.jr_base.specs.Deed.{Deed, Call, Leave, Commit, Assert, Get, Put, Enter}
use Rattle.jr_base.specs.declared.number.GuestNo.{GuestNo}
use Rattle.jr_base.specs.declared.number.ObjId.{ObjId}
use Rattle.jr_base.specs.declared.number.FieldId.{FieldId}
use Rattle.jr_base.specs.declared.number.ClauseId.{ClauseId}
use Rattle.jr_base.specs.declared.action.LeaveHow.TheVariants.{Normal, Abrupt}
use Rattle.jr_base.specs.declared.action.Way.TheVariants.{Block, Method as ByMethod}
use Rattle.jr_base.specs.declared.finish.Verdict.TheVariants.{Undefined}
use Rattle.jr_program.specs.declared.words.ClauseKind.{ClauseKind}
use Rattle.jr_program.specs.declared.words.ClauseKind.TheVariants.{Atomic}
use Rattle.jr_program.specs.declared.words.Site.TheVariants as sites
use Rattle.jr_program.specs.Sites.{due_at_site}
use Rattle.jr_program.specs.Clauses.{Clause}
use Rattle.jr_program.specs.Programs.{Program, clause_at}
use Rattle.jr_meaning.specs.Event.{Event}
use Rattle.jr_meaning.specs.World.{World}
use Rattle.jr_meaning.specs.Machine.{owns}
use Rattle.jr_meaning.specs.Frames.{Frame, frames_of}
use Rattle.jr_meaning.specs.Heap.{Heap, heap_of}
use Rattle.jr_meaning.specs.History.{world_after}
use Rattle.jr_meaning.specs.Worth.{Environment, Setting}
use Rattle.jr_meaning.specs.Judge.{clause_value}
use Rattle.jr_meaning.specs.Due.{Due, Passing, looks_back, due_on, due_of, field_at_cell, constructs, with_variables, frame_environment, object_in, passing_leave, passing_enter}
use Rattle.jr_meaning.specs.Verdicts.{Moment, setting, value_by_kind, clause_value_at, clause_values_at}
use Rattle.jr_built.specs.OneThread.{LooksAtTheMoment}
use Rattle.jr_drive.specs.Moment.{moment_setting, moment_value, site_values, moment_values}
use Rattle.jr_drive.specs.StandsAt.{StandsAt}
use Rattle.jr_drive.proofs.NothingDue.{no-locks-due, no-monitors-due}

same-function : {A B : Type 0} {f g : A → B} → ((x : A) → f x ≡ g x) → f ≡ g
same-function h = λ i x. h x i

-- what the laws say of a built program and of older heaps
abbrev pub Looks : Program → Type 0
Looks program = (c : ClauseId) (clause : Clause) → clause_at program c ≡ Some clause → LooksAtTheMoment clause

abbrev pub OldIsUnseen : Type 0
OldIsUnseen = (other : Heap) (s : Setting) (clause : Clause) → looks_back clause ≡ false → clause_value (record s { old = other }) clause ≡ clause_value s clause

module _ (program : Program) (look : Looks program) (unseen : OldIsUnseen) (h : List Event) (g : GuestNo) (frames : List Frame) (shown : Heap) (stands : StandsAt program h g frames shown) where
  abbrev before : Deed → Moment
  before deed = record { before = h; guest = g; deed = deed }

  -- ---- a clause

  by-kind : (deed : Deed) (d : Due) (clause : Clause) (kind : ClauseKind) → kind ≢ Atomic →
      value_by_kind program (before deed) d clause kind ≡ clause_value (setting program (before deed) d) clause
  by-kind deed d clause Atomic n = absurd (n refl)
  by-kind deed d clause _ n = refl

  same-heap : heap_of (world_after program h) ≡ shown
  same-heap = same-function (λ what. sym (stands.heap what))

  none-owned : owns (world_after program h) g ≡ (λ (object : ObjId). false)
  none-owned = same-function (λ object. stands.alone.nobody_owns g object)

  abbrev setting-with : Environment → Heap → (ObjId → Bool) → Setting
  setting-with environment heap owned = record { environment = environment; heap = heap; old = shown; owned = owned; bound = [] }

  same-setting : (environment : Environment) →
      setting-with environment (heap_of (world_after program h)) (owns (world_after program h) g) ≡ moment_setting shown environment
  same-setting environment =
      ap (λ heap. setting-with environment heap (owns (world_after program h) g)) same-heap ∙ ap (setting-with environment shown) none-owned

  value-of-clause : (deed : Deed) (d : Due) (clause : Clause) → LooksAtTheMoment clause →
      value_by_kind program (before deed) d clause clause.kind ≡ clause_value (moment_setting shown d.environment) clause
  value-of-clause deed d clause looks =
      by-kind deed d clause clause.kind looks.no_atomic
      ∙ sym (unseen shown (setting program (before deed) d) clause looks.looks_not_back)
      ∙ ap (λ s. clause_value s clause) (same-setting d.environment)

  value-as : (deed : Deed) (d : Due) → clause_value_at program (before deed) d ≡ moment_value program shown d.environment d.clause
  value-as deed d = by (clause_at program d.clause) refl
    where
      by : (found : Option Clause) → clause_at program d.clause ≡ found →
          option_map_or (λ (clause : Clause). value_by_kind program (before deed) d clause clause.kind) found Undefined
          ≡ option_map_or (clause_value (moment_setting shown d.environment)) found Undefined
      by None e = refl
      by (Some clause) e = value-of-clause deed d clause (look d.clause clause e)

  -- ---- those of a site

  abbrev due-there : Passing → ClauseId → Due
  due-there p c = record { clause = c; environment = p.environment; frame_call = p.frame_call }

  each-value : (deed : Deed) (p : Passing) (cs : List ClauseId) → map (clause_value_at program (before deed)) (map (due-there p) cs) ≡ map (moment_value program shown p.environment) cs
  each-value deed p [] = refl
  each-value deed p (c ∷ cs) = ap (λ v. v ∷ map (clause_value_at program (before deed)) (map (due-there p) cs)) (value-as deed (due-there p c))
      ∙ ap (λ vs. moment_value program shown p.environment c ∷ vs) (each-value deed p cs)

  at-site : (deed : Deed) (p : Passing) → map (clause_value_at program (before deed)) (due_on program p) ≡ site_values program shown p.site p.environment
  at-site deed p = each-value deed p (due_at_site program p.site)

  none-accessed : (own : Bool) (field : Option FieldId) (cell_of : ObjId) →
      option_map_or (due_on program) (cond own None (option_map (λ (f : FieldId). record { site = sites.Access f; environment = with_variables (Some cell_of) []; frame_call = None }) field)) [] ≡ []
  none-accessed true field object = refl
  none-accessed false None object = refl
  none-accessed false (Some f) object =
      ap (map (due-there (record { site = sites.Access f; environment = with_variables (Some object) []; frame_call = None })))
      (no-monitors-due program (λ c clause at. (look c clause at).no_monitors_for) f)

  none-entered : (owned : Bool) (object : ObjId) (frame : Option Frame) → option_map_or (due_on program) (cond owned None (option_map (passing_enter object) frame)) [] ≡ []
  none-entered true object frame = refl
  none-entered false object None = refl
  none-entered false object (Some frame) = ap (map (due-there (passing_enter object frame))) (no-locks-due program (λ c clause at. (look c clause at).no_locks) frame.method)

  by-deed : (frame : Option Frame) (deed : Deed) →
      map (clause_value_at program (before deed)) (due_of program (world_after program h) frame g deed) ≡ moment_values program shown frame deed
  by-deed frame (Call method this arguments) =
      at-site (Call method this arguments) (record { site = sites.Entry method; environment = with_variables this arguments; frame_call = None })
  by-deed None (Commit method) = refl
  by-deed (Some frame) (Commit method) =
      at-site (Commit method) (record { site = sites.Commit method; environment = frame_environment frame; frame_call = None })
  by-deed None (Leave method (Normal result)) = refl
  by-deed (Some frame) (Leave method (Normal result)) = at-site (Leave method (Normal result)) (passing_leave method result frame)
  by-deed frame (Leave method Abrupt) = refl
  by-deed frame (Assert clause values) = at-site (Assert clause values)
      (record { site = sites.Assert clause; environment = with_variables (object_in (slice_get values 0)) (drop 1 values); frame_call = None })
  by-deed frame (Get cell) = ap (map (clause_value_at program (before (Get cell))))
      (none-accessed (option_map_or (constructs program cell.obj) frame false) (field_at_cell program (world_after program h) cell) cell.obj)
  by-deed frame (Put cell value) = ap (map (clause_value_at program (before (Put cell value))))
      (none-accessed (option_map_or (constructs program cell.obj) frame false) (field_at_cell program (world_after program h) cell) cell.obj)
  by-deed frame (Enter object Block) = ap (map (clause_value_at program (before (Enter object Block))))
      (none-entered (owns (world_after program h) g object) object frame)
  by-deed frame (Enter object ByMethod) = refl
  by-deed frame _ = refl

  pub values-at-moment : (deed : Deed) → moment_values program shown (slice_get frames 0) deed ≡ clause_values_at program (before deed)
  values-at-moment deed = ap (λ fs. moment_values program shown (slice_get fs 0) deed) stands.frames ∙ sym (by-deed (slice_get (frames_of h g) 0) deed)

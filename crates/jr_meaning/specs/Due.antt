-- Which clauses are due at a step, and what they speak of. The clauses are those of the JML Reference Manual ("Method
-- Specification Clauses", "Type Specifications"), and of Rodríguez, Dwyer, Flanagan, Hatcliff, Leavens and Robby (ECOOP
-- 2005) for threads; at which steps they are judged is this language's own.
use Rattle.std.specs.Prelude.{◌&&◌, ◌||◌, ℕ, Bool, true, false, cond, List, [], ◌∷◌, map, drop, Option, Some, None, slice_get}
use Rattle.std.specs.Option.{option_map, option_map_or}
use Rattle.std.specs.List.{list_any}
use Rattle.jr_base.specs.Deed.{Deed, Call, Leave, Commit, Assert, Get, Put, Enter}
use Rattle.jr_base.specs.declared.number.ObjId.{ObjId}
use Rattle.jr_base.specs.declared.number.GuestNo.{GuestNo}
use Rattle.jr_base.specs.declared.number.FieldId.{FieldId}
use Rattle.jr_base.specs.declared.number.MethodId.{MethodId}
use Rattle.jr_base.specs.declared.number.ClauseId.{ClauseId}
use Rattle.jr_base.specs.declared.action.LeaveHow.TheVariants.{Normal, Abrupt}
use Rattle.jr_base.specs.declared.action.Way.TheVariants.{Block, Method as ByMethod}
use Rattle.jr_base.specs.declared.action.NewKind.TheVariants as kinds
use Rattle.jr_base.specs.declared.value.Value.{Value}
use Rattle.jr_base.specs.declared.value.Value.TheVariants.{Ref}
use Rattle.jr_base.specs.declared.value.Cell.{Cell}
use Rattle.jr_program.specs.declared.words.ClauseKind.{ClauseKind}
use Rattle.jr_program.specs.declared.words.ClauseKind.TheVariants as clause_kinds
use Rattle.jr_program.specs.Clauses.{Clause, Spec}
use Rattle.jr_program.specs.Clauses as specs
use Rattle.jr_program.specs.Programs.{Program, Method, method_at, clause_at}
use Rattle.jr_program.specs.declared.words.Site.{Site}
use Rattle.jr_program.specs.declared.words.Site.TheVariants as sites
use Rattle.jr_program.specs.Sites.{due_at_site}
use Rattle.jr_program.specs.Slots.{field_in}
use Rattle.jr_meaning.specs.World.{World, ObjectKind, ClassObject, Made, kind_of, same_object}
use Rattle.jr_meaning.specs.Machine.{owns}
use Rattle.jr_meaning.specs.Frames.{Frame}
use Rattle.jr_meaning.specs.Worth.{Environment}

-- A site that is passed: on what its clauses are judged, and at a return and at an Enter the step of the
-- frame's Call, whose heap is the old one.
pub record Passing : Type 0 where
  pub site : Site
  pub environment : Environment
  pub frame_call : Option ℕ

-- a clause that is due, on what it is judged, and the step whose heap is the old one
pub record Due : Type 0 where
  pub clause : ClauseId
  pub environment : Environment
  pub frame_call : Option ℕ

-- `this` and variables
abbrev pub with_variables : Option ObjId → List Value → Environment
with_variables this values = record { this = this; variables = values; result = None; entered = None }

-- a frame's receiver and arguments
abbrev pub frame_environment : Frame → Environment
frame_environment frame = with_variables frame.this frame.arguments

-- ---- fields

-- the field that lies in a cell, if one does
abbrev pub field_of_kind : Program → Option ObjectKind → ℕ → Option FieldId
field_of_kind program (Some (ClassObject class)) slot = field_in program class true slot
field_of_kind program (Some (Made (kinds.Object class))) slot = field_in program class false slot
field_of_kind program _ slot = None

abbrev pub field_at_cell : Program → World → Cell → Option FieldId
field_at_cell program world cell = field_of_kind program (kind_of world cell.obj) cell.slot

-- the frame is a constructor's, of that object
abbrev pub constructs : Program → ObjId → Frame → Bool
constructs program object frame =
    option_map_or (λ (method : Method). method.is_constructor) (method_at program frame.method) false
    && option_map_or (same_object object) frame.this false

-- A field's read or write passes its site, but not in a constructor's own frame on its own object.
abbrev pub access : Program → World → Option Frame → Cell → Option Passing
access program world frame cell =
    cond (option_map_or (constructs program cell.obj) frame false) None
    (option_map (λ field. record { site = sites.Access field; environment = with_variables (Some cell.obj) []; frame_call = None }) (field_at_cell program world cell))

-- ---- which site a step passes

-- `this` of an assert's environment
abbrev pub object_in : Option Value → Option ObjId
object_in (Some (Ref object)) = Some object
object_in _ = None

abbrev pub passing_leave : MethodId → Option Value → Frame → Passing
passing_leave method result frame =
    record { site = sites.Return method; environment = record (frame_environment frame) { result = result }; frame_call = Some frame.call }

abbrev pub passing_enter : ObjId → Frame → Passing
passing_enter object frame =
    record { site = sites.Edge frame.method; environment = record (frame_environment frame) { entered = Some object }; frame_call = Some frame.call }

-- The newest frame is that which makes the step; of a Call it is the caller's. An Enter of a monitor that the
-- guest owns already, or by a synchronized method, passes none, and so does a Leave by an exception.
abbrev pub passing : Program → World → Option Frame → GuestNo → Deed → Option Passing
passing program world frame g (Call method this arguments) =
    Some (record { site = sites.Entry method; environment = with_variables this arguments; frame_call = None })
passing program world frame g (Commit method) =
    option_map (λ (f : Frame). record { site = sites.Commit method; environment = frame_environment f; frame_call = None }) frame
passing program world frame g (Leave method (Normal result)) = option_map (passing_leave method result) frame
passing program world frame g (Leave method Abrupt) = None
passing program world frame g (Get cell) = access program world frame cell
passing program world frame g (Put cell value) = access program world frame cell
passing program world frame g (Enter object Block) = cond (owns world g object) None (option_map (passing_enter object) frame)
passing program world frame g (Enter object ByMethod) = None
passing program world frame g (Assert clause values) =
    Some (record { site = sites.Assert clause; environment = with_variables (object_in (slice_get values 0)) (drop 1 values); frame_call = None })
passing program world frame g _ = None

-- the clauses due there, in order
abbrev pub due_on : Program → Passing → List Due
due_on program p = map (λ clause. record { clause = clause; environment = p.environment; frame_call = p.frame_call }) (due_at_site program p.site)

-- the clauses due at a guest's step, in order
abbrev pub due_of : Program → World → Option Frame → GuestNo → Deed → List Due
due_of program world frame g deed = option_map_or (due_on program) (passing program world frame g deed) []

-- ---- which clauses look back

-- `\old` stands in it
abbrev pub has_old : Spec → Bool
has_old (specs.Number w n) = false
has_old (specs.Truth b) = false
has_old specs.Null = false
has_old specs.This = false
has_old (specs.Variable number) = false
has_old (specs.Bound depth) = false
has_old specs.Result = false
has_old (specs.StaticField field at) = false
has_old (specs.FieldOf object field slot) = has_old object
has_old (specs.ElementOf array index) = has_old array || has_old index
has_old (specs.LengthOf array) = has_old array
has_old (specs.ClassObject class) = false
has_old (specs.Convert w operand) = has_old operand
has_old (specs.Unary operator operand) = has_old operand
has_old (specs.Binary operator left right) = has_old left || has_old right
has_old (specs.And left right) = has_old left || has_old right
has_old (specs.Or left right) = has_old left || has_old right
has_old (specs.Choice condition first second) = has_old condition || (has_old first || has_old second)
has_old (specs.Implies left right) = has_old left || has_old right
has_old (specs.ImpliedBy left right) = has_old left || has_old right
has_old (specs.Old value) = true
has_old (specs.InLockset object) = has_old object
has_old (specs.Quantified quantifier low low_bound high high_bound conjuncts body) =
    has_old low || (has_old high || (has_old conjuncts || has_old body))

-- the members of `locks` are read on the old heap, and `atomic` speaks of the steps since the Call
abbrev pub kind_looks_back : ClauseKind → Bool
kind_looks_back clause_kinds.Locks = true
kind_looks_back clause_kinds.Atomic = true
kind_looks_back _ = false

abbrev pub looks_back : Clause → Bool
looks_back clause = kind_looks_back clause.kind || list_any has_old clause.states

-- the step of the Call, where a clause that is due looks back
abbrev pub old_place : Program → List Due → Option ℕ
old_place program [] = None
old_place program (d ∷ ds) = cond (option_map_or looks_back (clause_at program d.clause) false) d.frame_call (old_place program ds)

-- a return, and an Enter of a `synchronized` statement
abbrev pub has_old_place : Deed → Bool
has_old_place (Leave method (Normal result)) = true
has_old_place (Enter object Block) = true
has_old_place _ = false

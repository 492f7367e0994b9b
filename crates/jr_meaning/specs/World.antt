-- The world that guests act on (JLS 14.19, 17.1, 17.2). A guest is a thread of the program that runs.
use Rattle.std.specs.Prelude.{◌==◌, ◌+◌, ◌&&◌, ℕ, zero, suc, Bool, true, false, not, cond, nat_lt, List, [], ◌∷◌, length, map, Option, Some, None}
use Rattle.std.specs.Option.{option_map, option_map_or}
use Rattle.std.specs.List.{find, range_with_len}
use Rattle.jr_base.specs.declared.number.ObjId.{ObjId}
use Rattle.jr_base.specs.declared.number.ClassId.{ClassId}
use Rattle.jr_base.specs.declared.number.MethodId.{MethodId}
use Rattle.jr_base.specs.declared.number.GuestNo.{GuestNo}
use Rattle.jr_base.specs.declared.action.Body.{Body}
use Rattle.jr_base.specs.declared.action.NewKind.{NewKind}
use Rattle.jr_base.specs.declared.action.NewKind.TheVariants as kinds
use Rattle.jr_base.specs.declared.value.Value.{Value}
use Rattle.jr_base.specs.declared.value.Value.TheVariants.{Null, Ref}
use Rattle.jr_base.specs.declared.value.Cell.{Cell}
use Rattle.jr_base.specs.Content.{default_value}
use Rattle.jr_arith.specs.Kinds.{kind_of_element}
use Rattle.jr_program.specs.Programs.{Program, numbered, run_of}
use Rattle.jr_program.specs.Slots.{constant_in, field_count, class_count}

-- what an object is: a class object, or what a `new` made
pub data ObjectKind : Type 0 where
  ClassObject : (class : ClassId) → ObjectKind
  Made : (kind : NewKind) → ObjectKind

-- which guest owns a monitor, and how often it has entered
pub record Hold : Type 0 where
  pub guest : GuestNo
  pub depth : ℕ

-- a guest in a wait set, and whether it waits for some time only
pub record Waiter : Type 0 where
  pub guest : GuestNo
  pub is_timed : Bool

-- A monitor (JLS 17.1): its owner, its wait set in rising order (JLS 17.2), and the depth that a guest keeps
-- from its Wait to its Resume.
pub record Monitor : Type 0 where
  pub hold : Option Hold
  pub waiting : List Waiter
  pub kept : GuestNo → Option ℕ

-- a guest that was started: its Thread object, which main has not; what it runs; and whether it has ended
pub record Guest : Type 0 where
  pub object : Option ObjId
  pub body : Option Body
  pub ended : Bool

-- the cells with their values; the objects, number 1 first; their monitors; the guests, number 1 first
pub record World : Type 0 where
  pub cells : Cell → Option Value
  pub objects : List ObjectKind
  pub monitors : ObjId → Monitor
  pub guests : List Guest

-- ---- numbers

abbrev pub same_object : ObjId → ObjId → Bool
same_object a b = a.0 == b.0

abbrev pub same_guest : GuestNo → GuestNo → Bool
same_guest a b = a.0 == b.0

abbrev pub same_cell : Cell → Cell → Bool
same_cell a b = same_object a.obj b.obj && (a.slot == b.slot)

-- ---- objects and cells

abbrev pub kind_of : World → ObjId → Option ObjectKind
kind_of world object = numbered world.objects object.0

-- all objects, in rising order
abbrev pub objects_of : World → List ObjId
objects_of world = map (λ n. record { 0 = n }) (range_with_len 1 (length world.objects))

-- the number of the next object that is made
abbrev pub next_object : World → ObjId
next_object world = record { 0 = length world.objects + 1 }

-- the cells after a write to one of them
abbrev pub written : (Cell → Option Value) → Cell → Value → Cell → Option Value
written cells at value cell = cond (same_cell cell at) (Some value) (cells cell)

-- the cells with those of one object more, by slot
abbrev pub with_slots : (Cell → Option Value) → ObjId → (ℕ → Option Value) → Cell → Option Value
with_slots cells object slots cell = cond (same_object cell.obj object) (slots cell.slot) (cells cell)

-- The cells of an object that is made, by slot: its fields with their constants, a Thread's one that holds
-- what it runs, an array's elements with their default (JLS 4.12.5, 10.3).
abbrev pub slots_of : Program → NewKind → ℕ → Option Value
slots_of program (kinds.Object class) slot = constant_in program class false slot
slots_of program kinds.Thread slot = cond (slot == 0) (Some Null) None
slots_of program kinds.Plain slot = None
slots_of program (kinds.Array elem n) slot = cond (nat_lt slot n) (Some (default_value (kind_of_element elem))) None

-- how many cells an object that is made has
abbrev pub size_of : Program → NewKind → ℕ
size_of program (kinds.Object class) = field_count program class false
size_of program kinds.Thread = 1
size_of program kinds.Plain = 0
size_of program (kinds.Array elem n) = n

-- an array's length: what isn't an array has none
abbrev pub length_in : ObjectKind → Option ℕ
length_in (Made (kinds.Array elem n)) = Some n
length_in _ = None

abbrev pub length_of : World → ObjId → Option ℕ
length_of world object = option_map_or length_in (kind_of world object) None

-- ---- the start

-- a monitor that nobody has entered yet
abbrev pub free_monitor : Monitor
free_monitor = record { hold = None; waiting = []; kept = λ g. None }

-- the cells of class objects, by the object's number: static fields with their constants (JLS 8.3.2, 12.4)
abbrev pub class_slots : Program → ℕ → ℕ → Option Value
class_slots program zero slot = None
class_slots program (suc n) slot = constant_in program (record { 0 = n }) true slot

-- The class objects stand with their constants, and guest 1 is there, live, with main.
abbrev pub start_world : Program → World
start_world program = record {
  cells = λ cell. class_slots program cell.obj.0 cell.slot;
  objects = map (λ n. ClassObject (record { 0 = n })) (range_with_len 0 (class_count program));
  monitors = λ object. free_monitor;
  guests = record { object = None; body = Some (record { method = program.main; this = None }); ended = false } ∷ [];
}

-- ---- guests

abbrev pub guest_at : World → GuestNo → Option Guest
guest_at world g = numbered world.guests g.0

-- all guests that were started, in rising order
abbrev pub guests_of : World → List GuestNo
guests_of world = map (λ n. record { 0 = n }) (range_with_len 1 (length world.guests))

-- started, and not ended
abbrev pub is_live : World → GuestNo → Bool
is_live world g = option_map_or (λ (guest : Guest). not guest.ended) (guest_at world g) false

-- that guest is the run of that Thread object
abbrev pub runs_object : ObjId → Guest → Bool
runs_object object guest = option_map_or (same_object object) guest.object false

-- the guest of a Thread object, if it was started
abbrev pub guest_of : World → ObjId → Option Guest
guest_of world object = find (runs_object object) world.guests

-- ---- what a Thread object runs

-- `run` of an object's class, if it has one
abbrev pub run_on : Program → ObjId → Option ObjectKind → Option Body
run_on program object (Some (Made (kinds.Object class))) = option_map (λ (m : MethodId). record { method = m; this = Some object }) (run_of program class)
run_on program object _ = None

-- `run` of what a value refers to
abbrev pub run_on_value : Program → World → Option Value → Option Body
run_on_value program world (Some (Ref object)) = run_on program object (kind_of world object)
run_on_value program world _ = None

-- what a guest that is started with an object runs: the object's own `run`, or for an object of class
-- Thread the `run` of what it was made with
abbrev pub body_by : Program → World → ObjId → Option ObjectKind → Option Body
body_by program world object (Some (Made kinds.Thread)) = run_on_value program world (world.cells (record { obj = object; slot = 0 }))
body_by program world object kind = run_on program object kind

abbrev pub body_for : Program → World → ObjId → Option Body
body_for program world object = body_by program world object (kind_of world object)

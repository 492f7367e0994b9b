-- What a roster stands for.
use Rattle.std.specs.Prelude.{◌≡◌, ◌≤◌, ◌+◌, ◌%◌, ℕ, false, cond, IsTrue, IsSome, List, length, map, slice_get, Option, Some, None}
use Rattle.jr_base.specs.Deed.{Deed, Get, Put, New, Len, Enter, Start}
use Rattle.jr_base.specs.declared.number.ObjId.{ObjId}
use Rattle.jr_base.specs.declared.number.GuestNo.{GuestNo}
use Rattle.jr_base.specs.declared.action.Body.{Body}
use Rattle.jr_base.specs.declared.action.Reply.{Reply}
use Rattle.jr_base.specs.declared.action.Reply.TheVariants as replies
use Rattle.jr_program.specs.Programs.{Program}
use Rattle.jr_meaning.specs.World.{World, Guest, Waiter, kind_of, length_of, next_object, body_for, is_live, same_guest}
use Rattle.jr_meaning.specs.Machine.{holds, get_reply, put_reply, len_reply, is_ready, is_timed_waiter}
use Rattle.jr_monitors.specs.Roster.{Roster, world_of, parked_of}

abbrev pub without_body : Guest → Guest
without_body guest = record guest { body = None }

-- both have the same monitors, and the same guests but for what these run
pub record Agree (a b : World) : Type 0 where
  pub holds : (object : ObjId) → (a.monitors object).hold ≡ (b.monitors object).hold
  pub waiting : (object : ObjId) → (a.monitors object).waiting ≡ (b.monitors object).waiting
  pub kept : (object : ObjId) (g : GuestNo) → (a.monitors object).kept g ≡ (b.monitors object).kept g
  pub guests : map without_body a.guests ≡ map without_body b.guests

-- what is owned, and what a depth is kept for, are objects of the world
pub record HasItsObjects (world : World) : Type 0 where
  pub owned : (object : ObjId) (g : GuestNo) → IsTrue (holds g (world.monitors object).hold) → IsSome (kind_of world object)
  pub kept : (object : ObjId) (g : GuestNo) → IsSome ((world.monitors object).kept g) → IsSome (kind_of world object)

-- A roster stands for a world where it shows the world's monitors and guests, and these are of objects of the world.
pub record StandsFor (roster : Roster) (world : World) : Type 0 where
  pub agrees : Agree (world_of roster) world
  pub objects : HasItsObjects world

-- ---- replies

abbrev pub with_body : Option Body → Reply → Reply
with_body body (replies.Started g _) = replies.Started g body
with_body body reply = reply

-- The machine's reply, where the monitors reply so: the heap answers a read, a write, a `new` and a length, and the
-- program has what a guest that is started runs.
abbrev pub completed : Program → World → Deed → Reply → Reply
completed program world (Get cell) reply = get_reply (world.cells cell)
completed program world (Put cell value) reply = put_reply (world.cells cell)
completed program world (New kind) reply = replies.Made (next_object world)
completed program world (Len object) reply = len_reply (length_of world object)
completed program world (Start object) reply = with_body (body_for program world object) reply
completed program world deed reply = reply

-- only an object of the world is entered
abbrev pub EntersAnObject : World → Deed → Type 0
EntersAnObject world (Enter object way) = IsSome (kind_of world object)
EntersAnObject world deed = Unit {0}

-- that guest is the one at index `pick` of the wait set, modulo how many wait
abbrev pub IsPicked : ℕ → List Waiter → GuestNo → Type 0
IsPicked pick waiting g = slice_get (map (λ (w : Waiter). w.guest) waiting) (pick % length waiting) ≡ Some g

-- ---- parked guests

-- each guest is parked as before, and at most one monitor more is owned
pub record KeepsRest (old new : Roster) : Type 0 where
  pub parked : (g : GuestNo) → parked_of new g ≡ parked_of old g
  pub spare : old.owned.spare ≤ new.owned.spare + 1

-- that guest is parked at such an action, and each other one as before
abbrev pub Parks : Roster → GuestNo → Option Deed → Roster → Type 0
Parks old g deed new = (other : GuestNo) → parked_of new other ≡ cond (same_guest other g) deed (parked_of old other)

-- a guest cannot go on: it is parked, at an action that isn't ready, and doesn't wait for some time only
pub record IsStuck (roster : Roster) (world : World) (g : GuestNo) : Type 0 where
  pub deed : Deed
  pub parked : parked_of roster g ≡ Some deed
  pub blocked : is_ready world g deed ≡ false
  pub untimed : is_timed_waiter world g ≡ false

-- each live guest is stuck
abbrev pub AllStuck : Roster → World → Type 0
AllStuck roster world = (g : GuestNo) → IsTrue (is_live world g) → IsStuck roster world g

-- What a run must keep of the past: the steps whose heap may still be read, and the versions of cells that stand in
-- those heaps.
use Rattle.std.specs.Prelude.{◌≤◌, ◌<◌, ◌++◌, ◌∷◌, [], ℕ, List, map, flat_map, Contains, Bool, false, Option, Some, None}
use Rattle.std.specs.Option.{option_map_or}
use Rattle.std.specs.List.{filter, list_any, cons_option, range_with_len}
use Rattle.jr_base.specs.declared.number.GuestNo.{GuestNo}
use Rattle.jr_base.specs.declared.number.ClauseId.{ClauseId}
use Rattle.jr_base.specs.declared.number.MethodId.{MethodId}
use Rattle.jr_program.specs.declared.words.Site.TheVariants.{Return, Edge}
use Rattle.jr_program.specs.Programs.{Program, clause_at}
use Rattle.jr_program.specs.Sites.{due_at_site}
use Rattle.jr_meaning.specs.Event.{Event}
use Rattle.jr_meaning.specs.World.{guests_of}
use Rattle.jr_meaning.specs.Frames.{Frame, frames_of}
use Rattle.jr_meaning.specs.History.{world_after, step_count}
use Rattle.jr_meaning.specs.Due.{looks_back}
use Rattle.jr_meaning.specs.Verdicts.{old_place_of, owed_at}

-- ---- which heaps may still be read

-- a step with clauses that are owed a verdict, and its old place where it has one
abbrev pub kept_for_step : ℕ → Option ℕ → List ℕ → List ℕ
kept_for_step k old [] = []
kept_for_step k old (place ∷ places) = k ∷ cons_option old []

abbrev pub wanted_by_step : Program → List Event → ℕ → List ℕ
wanted_by_step program h k = kept_for_step k (old_place_of program h k) (owed_at program h k)

abbrev pub some_looks_back : Program → List ClauseId → Bool
some_looks_back program clauses = list_any (λ c. option_map_or looks_back (clause_at program c) false) clauses

-- a clause that looks back is due where the method returns, or where it enters a monitor
abbrev pub may_look_back : Program → MethodId → Bool
may_look_back program m = some_looks_back program (due_at_site program (Return m) ++ due_at_site program (Edge m))

-- the Call of each frame of a guest that may look back
abbrev pub wanted_by_guest : Program → List Event → GuestNo → List ℕ
wanted_by_guest program h g = map (λ (frame : Frame). frame.call) (filter (λ (frame : Frame). may_look_back program frame.method) (frames_of h g))

-- The steps whose heap may still be read: the heap of step k is the one just before it. The order means nothing, nor
-- that a step may stand there twice.
abbrev pub wanted : Program → List Event → List ℕ
wanted program h =
    flat_map (wanted_by_step program h) (range_with_len 0 (step_count h)) ++ flat_map (wanted_by_guest program h) (guests_of (world_after program h))

-- ---- which versions are needed

-- a value that a cell held: it was written at a step, or was there before step 0, and it was replaced at a step, or is
-- the newest
pub record Version : Type 0 where
  pub written : Option ℕ
  pub replaced : Option ℕ

abbrev pub IsBehind : Option ℕ → ℕ → Type 0
IsBehind None k = Unit {0}
IsBehind (Some written) k = written < k

-- the newest one is always needed, and each other one that stands in a heap which may still be read
abbrev pub IsNeeded : Program → List Event → Version → Type 0
IsNeeded program h version = by version.replaced
  where
    by : Option ℕ → Type 0
    by None = Unit {0}
    by (Some replaced) = (k : ℕ) × Contains (wanted program h) k × IsBehind version.written k × (k ≤ replaced)

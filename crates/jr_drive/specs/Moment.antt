-- What the clauses due at a step are worth where they look at the moment alone.
use Rattle.std.specs.Prelude.{ℕ, false, List, [], ◌∷◌, map, drop, Option, Some, None, slice_get}
use Rattle.std.specs.Option.{option_map, option_map_or}
use Rattle.jr_base.specs.Deed.{Deed, Call, Leave, Commit, Assert}
use Rattle.jr_base.specs.declared.number.ClauseId.{ClauseId}
use Rattle.jr_base.specs.declared.action.LeaveHow.TheVariants.{Normal}
use Rattle.jr_base.specs.declared.finish.Verdict.{Verdict}
use Rattle.jr_base.specs.declared.finish.Verdict.TheVariants.{Undefined}
use Rattle.jr_program.specs.declared.words.Site.{Site}
use Rattle.jr_program.specs.declared.words.Site.TheVariants as sites
use Rattle.jr_program.specs.Programs.{Program, clause_at}
use Rattle.jr_program.specs.Sites.{due_at_site}
use Rattle.jr_meaning.specs.Frames.{Frame}
use Rattle.jr_meaning.specs.Heap.{Heap}
use Rattle.jr_meaning.specs.Worth.{Environment, Setting}
use Rattle.jr_meaning.specs.Judge.{clause_value}
use Rattle.jr_meaning.specs.Due.{with_variables, frame_environment, object_in}

-- no monitor is owned, and there is no older heap
abbrev pub moment_setting : Heap → Environment → Setting
moment_setting heap environment = record { environment = environment; heap = heap; old = heap; owned = λ object. false; bound = [] }

-- what a clause is worth then, and Undefined where there is none of that number
abbrev pub moment_value : Program → Heap → Environment → ClauseId → Verdict
moment_value program heap environment c = option_map_or (clause_value (moment_setting heap environment)) (clause_at program c) Undefined

abbrev pub site_values : Program → Heap → Site → Environment → List Verdict
site_values program heap site environment = map (moment_value program heap environment) (due_at_site program site)

-- The site that a step passes. At those of fields and of monitors nothing is due in a built program.
abbrev pub site_of : Deed → Option Site
site_of (Call method this arguments) = Some (sites.Entry method)
site_of (Commit method) = Some (sites.Commit method)
site_of (Leave method (Normal result)) = Some (sites.Return method)
site_of (Assert clause values) = Some (sites.Assert clause)
site_of _ = None

-- and on what its clauses are judged, by the newest frame
abbrev pub environment_of : Option Frame → Deed → Option Environment
environment_of frame (Call method this arguments) = Some (with_variables this arguments)
environment_of frame (Commit method) = option_map frame_environment frame
environment_of frame (Leave method (Normal result)) = option_map (λ (f : Frame). record (frame_environment f) { result = result }) frame
environment_of frame (Assert clause values) = Some (with_variables (object_in (slice_get values 0)) (drop 1 values))
environment_of frame _ = None

abbrev pub values_at : Program → Heap → Option Site → Option Environment → List Verdict
values_at program heap (Some site) (Some environment) = site_values program heap site environment
values_at program heap _ _ = []

-- what the clauses due at a step are worth, in order
abbrev pub moment_values : Program → Heap → Option Frame → Deed → List Verdict
moment_values program heap frame deed = values_at program heap (site_of deed) (environment_of frame deed)

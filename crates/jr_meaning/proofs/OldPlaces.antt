-- Only a return and an Enter of a `synchronized` statement have an old place.
use Rattle.std.proofs.Common.{◌≡◌, ℕ, Bool, true, false, cond, List, [], ◌∷◌, map, Option, Some, None, refl}
use Rattle.std.specs.Option.{option_map, option_map_or}
use Rattle.jr_base.specs.Deed.{Deed, Call, Leave, Commit, Assert, Get, Put, Enter}
use Rattle.jr_base.specs.declared.number.ClauseId.{ClauseId}
use Rattle.jr_base.specs.declared.number.FieldId.{FieldId}
use Rattle.jr_base.specs.declared.number.GuestNo.{GuestNo}
use Rattle.jr_base.specs.declared.action.LeaveHow.TheVariants.{Normal, Abrupt}
use Rattle.jr_base.specs.declared.action.Way.TheVariants.{Block, Method as ByMethod}
use Rattle.jr_base.specs.declared.value.Cell.{Cell}
use Rattle.jr_program.specs.Programs.{Program, clause_at}
use Rattle.jr_program.specs.declared.words.Site.{Site}
use Rattle.jr_program.specs.declared.words.Site.TheVariants as sites
use Rattle.jr_program.specs.Sites.{due_at_site}
use Rattle.jr_meaning.specs.World.{World}
use Rattle.jr_meaning.specs.Frames.{Frame}
use Rattle.jr_meaning.specs.Worth.{Environment}
use Rattle.jr_meaning.specs.Due.{with_variables, Passing, passing, access, constructs, field_at_cell, due_on, due_of, looks_back, old_place, has_old_place}

-- a site where clauses don't look back
no-frame-call : (program : Program) (site : Site) (environment : Environment) (clauses : List ClauseId) →
    old_place program (map (λ clause. record { clause = clause; environment = environment; frame_call = None }) clauses) ≡ None
no-frame-call program site environment [] = refl
no-frame-call program site environment (c ∷ clauses) = by (option_map_or looks_back (clause_at program c) false) (no-frame-call program site environment clauses)
  where
    by : (b : Bool) → old_place program (map (λ clause. record { clause = clause; environment = environment; frame_call = None }) clauses) ≡ None →
        cond b None (old_place program (map (λ clause. record { clause = clause; environment = environment; frame_call = None }) clauses)) ≡ None
    by true rest = refl
    by false rest = rest

-- nor do those of a site that no Call is named for, or of none
abbrev Forgets : Option Passing → Type 0
Forgets None = Unit {0}
Forgets (Some p) = p.frame_call ≡ None

forgets : (program : Program) (p : Option Passing) → Forgets p → old_place program (option_map_or (due_on program) p []) ≡ None
forgets program None none = refl
forgets program (Some p) none = rw none (no-frame-call program p.site p.environment (due_at_site program p.site))

access-forgets : (program : Program) (world : World) (frame : Option Frame) (cell : Cell) → Forgets (access program world frame cell)
access-forgets program world frame cell = by (option_map_or (constructs program cell.obj) frame false) (field_at_cell program world cell)
  where
    by : (b : Bool) (f : Option FieldId) →
        Forgets (cond b None (option_map (λ field. record { site = sites.Access field; environment = with_variables (Some cell.obj) []; frame_call = None }) f))
    by true f = tt
    by false None = tt
    by false (Some f) = refl

pub only-returns-look-back : (program : Program) (world : World) (frame : Option Frame) (g : GuestNo) (deed : Deed) (c : ℕ) →
    old_place program (due_of program world frame g deed) ≡ Some c → has_old_place deed ≡ true
only-returns-look-back program world frame g (Leave m (Normal result)) c e = refl
only-returns-look-back program world frame g (Leave m Abrupt) c e = cc
only-returns-look-back program world frame g (Enter o Block) c e = refl
only-returns-look-back program world frame g (Enter o ByMethod) c e = cc
only-returns-look-back program world frame g (Call m this arguments) c e = let none = forgets program (passing program world frame g (Call m this arguments)) refl in cc
only-returns-look-back program world None g (Commit m) c e = cc
only-returns-look-back program world (Some f) g (Commit m) c e = let none = forgets program (passing program world (Some f) g (Commit m)) refl in cc
only-returns-look-back program world frame g (Get cell) c e = let none = forgets program (access program world frame cell) (access-forgets program world frame cell) in cc
only-returns-look-back program world frame g (Put cell value) c e = let none = forgets program (access program world frame cell) (access-forgets program world frame cell) in cc
only-returns-look-back program world frame g (Assert clause values) c e = let none = forgets program (passing program world frame g (Assert clause values)) refl in cc
only-returns-look-back program world frame g _ c e = cc

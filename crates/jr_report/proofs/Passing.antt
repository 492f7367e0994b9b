-- Which site each deed passes.
use Rattle.std.proofs.Common.{◌≡◌, Bool, true, false, cond, List, [], Option, Some, None, ap}
use Rattle.std.specs.Option.{option_map, option_map_or}
use Rattle.jr_base.specs.Deed.{Call, Leave, Commit, Assert, Get, Put, Enter}
use Rattle.jr_base.specs.declared.number.ObjId.{ObjId}
use Rattle.jr_base.specs.declared.number.GuestNo.{GuestNo}
use Rattle.jr_base.specs.declared.number.FieldId.{FieldId}
use Rattle.jr_base.specs.declared.number.MethodId.{MethodId}
use Rattle.jr_base.specs.declared.number.ClauseId.{ClauseId}
use Rattle.jr_base.specs.declared.action.LeaveHow.TheVariants.{Normal}
use Rattle.jr_base.specs.declared.action.Way.TheVariants.{Block}
use Rattle.jr_base.specs.declared.value.Value.{Value}
use Rattle.jr_base.specs.declared.value.Cell.{Cell}
use Rattle.jr_program.specs.Programs.{Program}
use Rattle.jr_program.specs.declared.words.Site.TheVariants as sites
use Rattle.jr_meaning.specs.World.{World}
use Rattle.jr_meaning.specs.Frames.{Frame}
use Rattle.jr_meaning.specs.Machine.{owns}
use Rattle.jr_meaning.specs.Due.{Passing, passing, passing_leave, passing_enter, access, constructs, frame_environment, with_variables, field_at_cell}

site_same : {p q : Passing} → Some p ≡ Some q → Some p.site ≡ Some q.site
site_same {p = p} {q = q} e = let same : p ≡ q = cc in ap (λ (x : Passing). Some x.site) same

module _ (program : Program) (world : World) (frame : Option Frame) (g : GuestNo) (p : Passing) where
  pub call-site : (m : MethodId) (this : Option ObjId) (arguments : List Value) → passing program world frame g (Call m this arguments) ≡ Some p → Some (sites.Entry m) ≡ Some p.site
  call-site m this arguments e = site_same e

  pub assert-site : (c : ClauseId) (values : List Value) → passing program world frame g (Assert c values) ≡ Some p → Some (sites.Assert c) ≡ Some p.site
  assert-site c values e = site_same e

  pub commit-site : (m : MethodId) → passing program world frame g (Commit m) ≡ Some p → Some (sites.Commit m) ≡ Some p.site
  commit-site m e = by frame e
    where
      by : (o : Option Frame) → option_map (λ (f : Frame). record { site = sites.Commit m; environment = frame_environment f; frame_call = None }) o ≡ Some p → Some (sites.Commit m) ≡ Some p.site
      by None e = cc
      by (Some f) e = site_same e

  pub leave-site : (m : MethodId) (result : Option Value) → passing program world frame g (Leave m (Normal result)) ≡ Some p → Some (sites.Return m) ≡ Some p.site
  leave-site m result e = by frame e
    where
      by : (o : Option Frame) → option_map (passing_leave m result) o ≡ Some p → Some (sites.Return m) ≡ Some p.site
      by None e = cc
      by (Some f) e = site_same e

  pub enter-site : (object : ObjId) → passing program world frame g (Enter object Block) ≡ Some p → option_map sites.Edge (option_map (λ (f : Frame). f.method) frame) ≡ Some p.site
  enter-site object e = by (owns world g object) frame e
    where
      by : (b : Bool) (o : Option Frame) → cond b None (option_map (passing_enter object) o) ≡ Some p → option_map sites.Edge (option_map (λ (f : Frame). f.method) o) ≡ Some p.site
      by true o e = cc
      by false None e = cc
      by false (Some f) e = site_same e

  access-at : (cell : Cell) → access program world frame cell ≡ Some p → option_map sites.Access (field_at_cell program world cell) ≡ Some p.site
  access-at cell e = by (option_map_or (constructs program cell.obj) frame false) (field_at_cell program world cell) e
    where
      by : (b : Bool) (o : Option FieldId) → cond b None (option_map (λ field. record { site = sites.Access field; environment = with_variables (Some cell.obj) []; frame_call = None }) o) ≡ Some p →
          option_map sites.Access o ≡ Some p.site
      by true o e = cc
      by false None e = cc
      by false (Some field) e = site_same e

  pub get-site : (cell : Cell) → passing program world frame g (Get cell) ≡ Some p → option_map sites.Access (field_at_cell program world cell) ≡ Some p.site
  get-site cell e = access-at cell e

  pub put-site : (cell : Cell) (value : Value) → passing program world frame g (Put cell value) ≡ Some p → option_map sites.Access (field_at_cell program world cell) ≡ Some p.site
  put-site cell value e = access-at cell e

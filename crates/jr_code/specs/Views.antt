-- Code as plain data.
use Rattle.std.specs.Prelude.{ℕ, ◌++◌, map, drop, length, Option}
use Rattle.jr_base.specs.Spare.{Spare}
use Rattle.jr_base.specs.declared.number.TextId.{TextId}
use Rattle.jr_code.specs.declared.code.Code.{Code as CodeOfLists}
use Rattle.jr_code.specs.declared.code.MethodCode.{MethodCode as MethodOfLists}
use Rattle.jr_code.specs.declared.code.FieldCode.{FieldCode as FieldOfLists}
use Rattle.jr_code.specs.declared.code.AssertCode.{AssertCode as AssertOfLists}
use Rattle.jr_code.specs.declared.code.Region.{Region as RegionOfLists}
use Rattle.jr_code.specs.declared.code.RegionKind.{RegionKind as KindOfRegion}
use Rattle.jr_code.specs.declared.code.RegionKind.TheVariants.{Catch, Exit}
use Rattle.jr_code.specs.Instructions.{RegionKind, CatchAt, ExitLocal, Region, MethodCode, Code}
use Rattle.jr_code.specs.Coded.{FieldCode, AssertCode, Tables, plain}
use Rattle.jr_code.specs.Checked.{this_kind}

abbrev pub field_of : FieldOfLists → FieldCode
field_of f = record { home = f.home; slot = f.slot; kind = f.kind }

abbrev pub assert_of : AssertOfLists → AssertCode
assert_of a = record { clause = a.clause; scope = a.scope.items }

abbrev pub kind_of_region : KindOfRegion → ℕ → RegionKind
kind_of_region (Catch fault) target = CatchAt fault target
kind_of_region (Exit place) target = ExitLocal place

abbrev pub region_of : RegionOfLists → Region
region_of r = record { first = r.first; past = r.past; kind = kind_of_region r.kind r.target }

-- the lists whose places instructions name
abbrev pub tables_of : CodeOfLists → Tables
tables_of code = record {
  longs = code.longs.items;
  fields = map field_of code.fields.items;
  classes = code.classes.items;
  makes = code.makes.items;
  elems = code.elems.items;
  faults = code.faults.items;
  prints = map (λ (parts : Spare (Option TextId)). parts.items) code.prints.items;
  asserts = map assert_of code.asserts.items;
}

-- the locals behind `this` and the formals stand apart
abbrev pub method_of : Tables → MethodOfLists → MethodCode
method_of t m = record {
  class = m.class;
  is_static = m.is_static;
  is_synchronized = m.is_synchronized;
  formals = m.formals.items;
  result = m.result;
  locals = drop (length (this_kind m.is_static ++ m.formals.items)) m.locals.items;
  instructions = map (plain t) m.instrs.items;
  regions = map region_of m.regions.items;
}

abbrev pub plain_of : CodeOfLists → Code
plain_of code = record { methods = map (method_of (tables_of code)) code.methods.items }

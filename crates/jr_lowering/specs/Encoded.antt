-- Code whose lists have grown.
use Rattle.std.specs.Prelude.{◌≡◌, ◌≢◌, List, [], ◌∷◌, map}
use Rattle.jr_code.specs.declared.code.Code.{Code as CodeOfLists}
use Rattle.jr_code.specs.declared.code.MethodCode.{MethodCode as MethodOfLists}
use Rattle.jr_code.specs.declared.instr.Instr.{Instr}
use Rattle.jr_code.specs.Instructions.{Instruction, MethodCode, Unknown}
use Rattle.jr_code.specs.Coded.{Tables, Grows, plain}
use Rattle.jr_code.specs.Views.{tables_of, method_of}
use Rattle.jr_code.specs.WellFormed.{LocalsBegin}

-- the methods are the same, and the lists that instructions name have grown at their ends
pub record KeepsMethods (old new : CodeOfLists) : Type 0 where
  pub methods : new.methods.items ≡ old.methods.items
  pub grows : Grows (tables_of old) (tables_of new)

abbrev pub NoneUnknown : List Instruction → Type 0
NoneUnknown [] = Unit {0}
NoneUnknown (i ∷ is) = (i ≢ Unknown) × NoneUnknown is

-- the coded instructions are these, over these lists
pub record AreCoded (t : Tables) (coded : List Instr) (is : List Instruction) : Type 0 where
  pub same : map (plain t) coded ≡ is
  pub known : NoneUnknown is

abbrev pub AllKnown : List MethodCode → Type 0
AllKnown [] = Unit {0}
AllKnown (c ∷ cs) = NoneUnknown c.instructions × AllKnown cs

-- the locals of each method begin as they have to
abbrev pub AllBegin : List MethodOfLists → Type 0
AllBegin [] = Unit {0}
AllBegin (m ∷ ms) = LocalsBegin m × AllBegin ms

-- the coded methods are these, over these lists
pub record AreMethods (t : Tables) (coded : List MethodOfLists) (cs : List MethodCode) : Type 0 where
  pub same : map (method_of t) coded ≡ cs
  pub known : AllKnown cs
  pub begin : AllBegin coded

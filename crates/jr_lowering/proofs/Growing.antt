-- The lists that instructions name places of, as they grow.
use Rattle.std.proofs.Common.{◌≡◌, ℤ, List, [], ◌∷◌, ◌++◌, length, map, Option, Some, slice_get, refl, sym, ap, ◌∙◌, append_assoc, append-nil}
use Rattle.std.proofs.lemmas.List.{map-append}
use Rattle.jr_base.specs.Spare.{Spare}
use Rattle.jr_base.specs.declared.number.ClassId.{ClassId}
use Rattle.jr_base.specs.declared.number.TextId.{TextId}
use Rattle.jr_base.specs.declared.action.Elem.{Elem}
use Rattle.jr_base.specs.declared.action.NewKind.{NewKind}
use Rattle.jr_base.specs.declared.finish.Fault.{Fault}
use Rattle.jr_code.specs.declared.code.Code.{Code as CodeOfLists}
use Rattle.jr_code.specs.declared.code.FieldCode.{FieldCode as FieldOfLists}
use Rattle.jr_code.specs.declared.code.AssertCode.{AssertCode as AssertOfLists}
use Rattle.jr_code.specs.Coded.{Tables, Begins, Grows}
use Rattle.jr_code.specs.Views.{tables_of, field_of, assert_of}
use Rattle.jr_lowering.specs.Encoded.{KeepsMethods}

-- the item that was added last
pub last : {A : Type 0} (xs : List A) (x : A) → slice_get (xs ++ x ∷ []) (length xs) ≡ Some x
last [] x = refl
last (y ∷ xs) x = last xs x

pub last_mapped : {A B : Type 0} (f : A → B) (xs : List A) (x : A) → slice_get (map f (xs ++ x ∷ [])) (length xs) ≡ Some (f x)
last_mapped f [] x = refl
last_mapped f (y ∷ xs) x = last_mapped f xs x

same : {A : Type 0} (xs : List A) → Begins xs xs
same xs = record { more = []; split = sym (append-nil xs) }

longer : {A : Type 0} (xs ys : List A) (x : A) → ys ≡ xs ++ x ∷ [] → Begins xs ys
longer xs ys x e = record { more = x ∷ []; split = e }

longer_mapped : {A B : Type 0} (f : A → B) (xs ys : List A) (x : A) → ys ≡ xs ++ x ∷ [] → Begins (map f xs) (map f ys)
longer_mapped f xs ys x e = record { more = f x ∷ []; split = ap (map f) e ∙ map-append f xs (x ∷ []) }

begins_on : {A : Type 0} (xs ys zs : List A) → Begins xs ys → Begins ys zs → Begins xs zs
begins_on xs ys zs a b = record { more = a.more ++ b.more; split = b.split ∙ ap (λ l. l ++ b.more) a.split ∙ append_assoc xs a.more b.more }

grows_on : (t u v : Tables) → Grows t u → Grows u v → Grows t v
grows_on t u v a b = record {
  longs = begins_on t.longs u.longs v.longs a.longs b.longs;
  fields = begins_on t.fields u.fields v.fields a.fields b.fields;
  classes = begins_on t.classes u.classes v.classes a.classes b.classes;
  makes = begins_on t.makes u.makes v.makes a.makes b.makes;
  elems = begins_on t.elems u.elems v.elems a.elems b.elems;
  faults = begins_on t.faults u.faults v.faults a.faults b.faults;
  prints = begins_on t.prints u.prints v.prints a.prints b.prints;
  asserts = begins_on t.asserts u.asserts v.asserts a.asserts b.asserts;
}

pub keeps_all : (code : CodeOfLists) → KeepsMethods code code
keeps_all code = record {
  methods = refl;
  grows = record {
    longs = same (tables_of code).longs;
    fields = same (tables_of code).fields;
    classes = same (tables_of code).classes;
    makes = same (tables_of code).makes;
    elems = same (tables_of code).elems;
    faults = same (tables_of code).faults;
    prints = same (tables_of code).prints;
    asserts = same (tables_of code).asserts;
  };
}

pub keeps_on : (a b c : CodeOfLists) → KeepsMethods a b → KeepsMethods b c → KeepsMethods a c
keeps_on a b c x y = record { methods = y.methods ∙ x.methods; grows = grows_on (tables_of a) (tables_of b) (tables_of c) x.grows y.grows }

-- ---- one item more

abbrev parts_of : Spare (Option TextId) → List (Option TextId)
parts_of parts = parts.items

pub long_keeps : (code : CodeOfLists) (more : Spare (ℤ)) (x : ℤ) → more.items ≡ code.longs.items ++ x ∷ [] →
    KeepsMethods code (record code { longs = more })
long_keeps code more x e = record {
  methods = refl;
  grows = record {
    longs = longer code.longs.items more.items x e;
    fields = same (tables_of code).fields;
    classes = same (tables_of code).classes;
    makes = same (tables_of code).makes;
    elems = same (tables_of code).elems;
    faults = same (tables_of code).faults;
    prints = same (tables_of code).prints;
    asserts = same (tables_of code).asserts;
  };
}

pub field_keeps : (code : CodeOfLists) (more : Spare (FieldOfLists)) (x : FieldOfLists) → more.items ≡ code.fields.items ++ x ∷ [] →
    KeepsMethods code (record code { fields = more })
field_keeps code more x e = record {
  methods = refl;
  grows = record {
    longs = same (tables_of code).longs;
    fields = longer_mapped field_of code.fields.items more.items x e;
    classes = same (tables_of code).classes;
    makes = same (tables_of code).makes;
    elems = same (tables_of code).elems;
    faults = same (tables_of code).faults;
    prints = same (tables_of code).prints;
    asserts = same (tables_of code).asserts;
  };
}

pub class_keeps : (code : CodeOfLists) (more : Spare (ClassId)) (x : ClassId) → more.items ≡ code.classes.items ++ x ∷ [] →
    KeepsMethods code (record code { classes = more })
class_keeps code more x e = record {
  methods = refl;
  grows = record {
    longs = same (tables_of code).longs;
    fields = same (tables_of code).fields;
    classes = longer code.classes.items more.items x e;
    makes = same (tables_of code).makes;
    elems = same (tables_of code).elems;
    faults = same (tables_of code).faults;
    prints = same (tables_of code).prints;
    asserts = same (tables_of code).asserts;
  };
}

pub made_keeps : (code : CodeOfLists) (more : Spare (NewKind)) (x : NewKind) → more.items ≡ code.makes.items ++ x ∷ [] →
    KeepsMethods code (record code { makes = more })
made_keeps code more x e = record {
  methods = refl;
  grows = record {
    longs = same (tables_of code).longs;
    fields = same (tables_of code).fields;
    classes = same (tables_of code).classes;
    makes = longer code.makes.items more.items x e;
    elems = same (tables_of code).elems;
    faults = same (tables_of code).faults;
    prints = same (tables_of code).prints;
    asserts = same (tables_of code).asserts;
  };
}

pub elem_keeps : (code : CodeOfLists) (more : Spare (Elem)) (x : Elem) → more.items ≡ code.elems.items ++ x ∷ [] →
    KeepsMethods code (record code { elems = more })
elem_keeps code more x e = record {
  methods = refl;
  grows = record {
    longs = same (tables_of code).longs;
    fields = same (tables_of code).fields;
    classes = same (tables_of code).classes;
    makes = same (tables_of code).makes;
    elems = longer code.elems.items more.items x e;
    faults = same (tables_of code).faults;
    prints = same (tables_of code).prints;
    asserts = same (tables_of code).asserts;
  };
}

pub fault_keeps : (code : CodeOfLists) (more : Spare (Fault)) (x : Fault) → more.items ≡ code.faults.items ++ x ∷ [] →
    KeepsMethods code (record code { faults = more })
fault_keeps code more x e = record {
  methods = refl;
  grows = record {
    longs = same (tables_of code).longs;
    fields = same (tables_of code).fields;
    classes = same (tables_of code).classes;
    makes = same (tables_of code).makes;
    elems = same (tables_of code).elems;
    faults = longer code.faults.items more.items x e;
    prints = same (tables_of code).prints;
    asserts = same (tables_of code).asserts;
  };
}

pub print_keeps : (code : CodeOfLists) (more : Spare (Spare (Option TextId))) (x : Spare (Option TextId)) → more.items ≡ code.prints.items ++ x ∷ [] →
    KeepsMethods code (record code { prints = more })
print_keeps code more x e = record {
  methods = refl;
  grows = record {
    longs = same (tables_of code).longs;
    fields = same (tables_of code).fields;
    classes = same (tables_of code).classes;
    makes = same (tables_of code).makes;
    elems = same (tables_of code).elems;
    faults = same (tables_of code).faults;
    prints = longer_mapped parts_of code.prints.items more.items x e;
    asserts = same (tables_of code).asserts;
  };
}

pub assert_keeps : (code : CodeOfLists) (more : Spare (AssertOfLists)) (x : AssertOfLists) → more.items ≡ code.asserts.items ++ x ∷ [] →
    KeepsMethods code (record code { asserts = more })
assert_keeps code more x e = record {
  methods = refl;
  grows = record {
    longs = same (tables_of code).longs;
    fields = same (tables_of code).fields;
    classes = same (tables_of code).classes;
    makes = same (tables_of code).makes;
    elems = same (tables_of code).elems;
    faults = same (tables_of code).faults;
    prints = same (tables_of code).prints;
    asserts = longer_mapped assert_of code.asserts.items more.items x e;
  };
}

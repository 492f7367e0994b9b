-- Well-formed code is right, and breaks no rule.
use Rattle.std.proofs.Common.{◌≡◌, ℕ, Option, Some, None, refl, sym, ap, ◌∙◌, subst}
use Rattle.std.specs.Prelude.{slice_get, option_map}
use Rattle.std.proofs.lemmas.Option.{slice_get-map}
use Rattle.jr_base.specs.declared.number.MethodId.{MethodId}
use Rattle.jr_code.specs.declared.code.Code.{Code as CodeOfLists}
use Rattle.jr_code.specs.declared.code.MethodCode.{MethodCode as MethodOfLists}
use Rattle.jr_code.specs.Instructions.{MethodCode}
use Rattle.jr_code.specs.Checked.{MethodRight, CodeRight}
use Rattle.jr_code.specs.Machine.{method_code_at}
use Rattle.jr_code.specs.Views.{tables_of, method_of, plain_of}
use Rattle.jr_code.specs.WellFormed.{LocalsBegin, plain_method, WellFormedMethod, WellFormedCode, BreaksRule, Locals, Rule, BadAt}
use Rattle.jr_code.proofs.Paths.{nothing_breaks}

mapped_at : {A B : Type 0} (f : A → B) (o : Option A) (b : B) → option_map f o ≡ Some b → (a : A) × (o ≡ Some a) × (f a ≡ b)
mapped_at f None b e = absurd (cc)
mapped_at f (Some a) b e = (a, refl, cc)

pub method_there : (code : CodeOfLists) (m : MethodId) (c : MethodCode) → method_code_at (plain_of code) m ≡ Some c →
    (l : MethodOfLists) × (slice_get code.methods.items m.0 ≡ Some l) × (plain_method code l ≡ c)
method_there code m c e = mapped_at (method_of (tables_of code)) (slice_get code.methods.items m.0) c (sym (slice_get-map (method_of (tables_of code)) code.methods.items m.0) ∙ e)

pub right : (code : CodeOfLists) → WellFormedCode code → CodeRight (plain_of code)
right code w = record {
  methods = λ m c e.
      let l = method_there code m c e in
      subst (MethodRight (plain_of code)) l.2 (w.methods m.0 l.0 l.1).right;
}

breaks_none : (code : CodeOfLists) (m : MethodOfLists) (at : ℕ) → WellFormedMethod code m → BreaksRule code m at → ⊥
breaks_none code m at w (Locals h) = h w.locals
breaks_none code m at w (Rule _ b) = nothing_breaks (plain_of code) (plain_method code m) w.right at b

pub unbroken : (code : CodeOfLists) → WellFormedCode code → (m : MethodId) (at : ℕ) → BadAt code m at → ⊥
unbroken code w m at b = breaks_none code b.method at (w.methods m.0 b.method b.stands) b.breaks

method_stands : (code : CodeOfLists) (at : ℕ) (m : MethodOfLists) → slice_get code.methods.items at ≡ Some m →
    method_code_at (plain_of code) (record { 0 = at }) ≡ Some (plain_method code m)
method_stands code at m e = slice_get-map (method_of (tables_of code)) code.methods.items at ∙ ap (option_map (method_of (tables_of code))) e

pub well_formed : (code : CodeOfLists) →
    ((at : ℕ) (m : MethodOfLists) → slice_get code.methods.items at ≡ Some m → LocalsBegin m) →
    CodeRight (plain_of code) → WellFormedCode code
well_formed code begins rights = record {
  methods = λ at m e. record {
    locals = begins at m e;
    right = rights.methods (record { 0 = at }) (plain_method code m) (method_stands code at m e);
  };
}

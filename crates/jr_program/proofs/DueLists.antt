-- What is due in a class with a clause of a method, an invariant and a helper:
--   class A { /*@ requires true; @*/ static void f(int x) { } /*@ static invariant true; @*/ /*@ helper @*/ static void g() { } .. }
use Rattle.std.proofs.Common.{◌≡◌, true, [], ◌∷◌, refl}
use Rattle.jr_base.specs.declared.kind.SlotKind.TheVariants.{Int}
use Rattle.jr_program.specs.declared.words.ClauseKind.TheVariants.{Invariant}
use Rattle.jr_program.specs.declared.words.Mode.TheVariants.{Java}
use Rattle.jr_program.specs.declared.words.Site.TheVariants.{Entry, Return}
use Rattle.jr_program.specs.Programs.{Program, Skip}
use Rattle.jr_program.specs.Clauses.{Clause, Truth, OfClass}
use Rattle.jr_program.specs.Sites.{due_at_site}
use Rattle.jr_program.proofs.SmallUnit.{method, requires_true, program}

abbrev invariant_true : Clause
invariant_true = record { kind = Invariant; owner = OfClass (record { 0 = 0 }); mode = Java; is_static = true; place = record { line = 1; column = 72 }; states = Truth true ∷ [] }

abbrev with_invariant : Program
with_invariant = record program {
  methods = method (Int ∷ []) Skip ∷ record (method [] Skip) { is_helper = true } ∷ [];
  clauses = requires_true ∷ invariant_true ∷ [];
}

at_call : due_at_site with_invariant (Entry (record { 0 = 0 })) ≡ record { 0 = 1 } ∷ record { 0 = 2 } ∷ []
at_call = refl

at_return : due_at_site with_invariant (Return (record { 0 = 0 })) ≡ record { 0 = 2 } ∷ []
at_return = refl

at_call_of_helper : due_at_site with_invariant (Entry (record { 0 = 1 })) ≡ []
at_call_of_helper = refl

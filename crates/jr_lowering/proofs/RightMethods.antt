-- The code of a program that is well formed keeps the rules of checked code.
use Rattle.std.proofs.Common.{◌≡◌, ◌≢◌, ℕ, zero, suc, ◌+◌, ◌<◌, Bool, true, false, List, [], ◌∷◌, ◌++◌, map, length, Option, Some, None, refl, sym, ap, ◌∙◌, subst, arith, append_assoc, length-append}
use Rattle.std.specs.Prelude.{slice_get}
use Rattle.std.specs.Option.{option_map}
use Rattle.std.specs.List.{repeat}
use Rattle.std.proofs.lemmas.Option.{slice_get-map, slice_get-get_or, slice_get_within}
use Rattle.std.proofs.Math.Seq.{get_or-append_seam}
use Rattle.jr_base.specs.declared.number.MethodId.{MethodId}
use Rattle.jr_base.specs.declared.action.Body.{Body}
use Rattle.jr_base.specs.declared.kind.SlotKind.{SlotKind}
use Rattle.jr_base.specs.declared.kind.SlotKind.TheVariants.{Int, Long, Bool as Boolean, Ref as Reference, Caught as CaughtKind}
use Rattle.jr_base.specs.Content.{default_value}
use Rattle.jr_program.specs.Programs.{Program, Method, method_at}
use Rattle.jr_program.specs.WellFormed.{Scope, scope_of, NoneCaught as NoneCaughtFormals, MethodFits, WellFormed, StartFits}
use Rattle.jr_code.specs.Instructions.{Push, ReturnNothing, ReturnTop, MethodCode}
use Rattle.jr_code.specs.Machine.{method_code_at}
use Rattle.jr_code.specs.Checked.{this_kind, kinds_of_locals, kind_of_value, NoneCaught, MethodRight, CodeRight}
use Rattle.jr_code.specs.Sound.{StartRight}
use Rattle.jr_lowering.specs.ExprCode.{shift, hidden}
use Rattle.jr_lowering.specs.StatementCode.{no_monitors, statement_size, statement_code, monitors_in}
use Rattle.jr_lowering.specs.ProgramCode.{setting_of, end_code, body_code, method_code, code_of}
use Rattle.jr_lowering.proofs.Places.{HasAt, has_front, has_back, has_all, statement_len}
use Rattle.jr_lowering.proofs.Shapes.{Shapes, Marks, ShapesAt, shapes_front, shapes_back, statement_shapes, statement_shapes_len}
use Rattle.jr_lowering.proofs.ValueKinds.{ResultsAreValues}
use Rattle.jr_lowering.proofs.RightExpressions.{Known, Good, join, single}
use Rattle.jr_lowering.proofs.RightStatements.{statement_right}

shapes_all : (l : Shapes) (pre : Marks) → ShapesAt (pre ++ map Some l) (length pre) l
shapes_all [] pre = tt
shapes_all (ks ∷ l) pre =
    let within : length pre < length (pre ++ Some ks ∷ map Some l) = omega (arith, length-append pre (Some ks ∷ map Some l)) in
    let here = slice_get-get_or (pre ++ Some ks ∷ map Some l) (length pre) (Some ks) within ∙ ap Some (get_or-append_seam pre (Some ks) (map Some l) (Some ks)) in
    let n : length (pre ++ Some ks ∷ []) ≡ length pre + 1 = omega (arith, length-append pre (Some ks ∷ [])) in
    let rest = shapes_all l (pre ++ Some ks ∷ []) in
    let rest' = subst (λ all. ShapesAt all (length (pre ++ Some ks ∷ [])) l) (append_assoc pre (Some ks ∷ []) (map Some l)) rest in
    (here, subst (λ m. ShapesAt (pre ++ Some ks ∷ map Some l) m l) n rest')

kind_front : (a b : List SlotKind) (p : ℕ) (k : SlotKind) → slice_get a p ≡ Some k → slice_get (a ++ b) p ≡ Some k
kind_front [] b p k e = absurd (cc)
kind_front (x ∷ a) b zero k e = e
kind_front (x ∷ a) b (suc p) k e = kind_front a b p k e

kind_back : (a b : List SlotKind) (p : ℕ) → slice_get (a ++ b) (length a + p) ≡ slice_get b p
kind_back [] b p = let e : zero + p ≡ p = omega arith in ap (λ i. slice_get b i) e
kind_back (x ∷ a) b p = let e : suc (length a) + p ≡ suc (length a + p) = omega arith in ap (λ i. slice_get (x ∷ (a ++ b)) i) e ∙ kind_back a b p

kind_shift : (static : Bool) (l : List SlotKind) (p : ℕ) → slice_get (this_kind static ++ l) (shift static + p) ≡ slice_get l p
kind_shift true l p = let e : 0 + p ≡ p = omega arith in ap (λ i. slice_get l i) e
kind_shift false l p = let e : 1 + p ≡ suc p = omega arith in ap (λ i. slice_get (Reference ∷ l) i) e

kind_this : (static : Bool) (l : List SlotKind) → static ≡ false → slice_get (this_kind static ++ l) 0 ≡ Some Reference
kind_this true l e = absurd (cc)
kind_this false l e = refl

kind_hidden : (n d : ℕ) → d < n → slice_get (repeat n (Reference ∷ [])) d ≡ Some Reference
kind_hidden zero d lt = absurd (omega arith)
kind_hidden (suc n) zero lt = refl
kind_hidden (suc n) (suc d) lt = kind_hidden n d (omega arith)

default_kind : (k : SlotKind) → k ≢ CaughtKind → kind_of_value (default_value k) ≡ k
default_kind Int n = refl
default_kind Long n = refl
default_kind Boolean n = refl
default_kind Reference n = refl
default_kind CaughtKind n = absurd (n refl)

marks_many : (l : Shapes) → length (map {A = List SlotKind} Some l) ≡ length l
marks_many [] = refl
marks_many (ks ∷ l) = ap (λ n. suc n) (marks_many l)

abbrev end_shapes : Option SlotKind → Shapes
end_shapes None = [] ∷ []
end_shapes (Some k) = [] ∷ ((k ∷ []) ∷ [])

abbrev end_size : Option SlotKind → ℕ
end_size None = 1
end_size (Some k) = 1 + 1

end_len : (r : Option SlotKind) → length (end_code r) ≡ end_size r
end_len None = refl
end_len (Some k) = refl

end_shapes_len : (r : Option SlotKind) → length (end_shapes r) ≡ end_size r
end_shapes_len None = refl
end_shapes_len (Some k) = refl

pub unmap : {A B : Type 0} (f : A → B) (o : Option A) (b : B) → option_map f o ≡ Some b → (a : A) × (o ≡ Some a) × (f a ≡ b)
unmap f None b e = absurd (cc)
unmap f (Some a) b e = (a, refl, cc)

none_caught : (ks : List SlotKind) → NoneCaughtFormals ks → NoneCaught ks
none_caught [] n = tt
none_caught (k ∷ ks) n = (n.0, none_caught ks n.1)

module _ (program : Program) (formed : WellFormed program) where
  results : ResultsAreValues program
  results m method is_method k e caught = (formed.methods m method is_method).result (e ∙ ap Some caught)

  callee_is : (m : MethodId) (method : Method) → method_at program m ≡ Some method → method_code_at (code_of program) m ≡ Some (method_code program method)
  callee_is m method e = slice_get-map (method_code program) program.methods m.0 ∙ ap (λ o. option_map (method_code program) o) e

  module _ (m : MethodId) (method : Method) (fits : MethodFits program m method) where
    abbrev c : MethodCode
    c = method_code program method

    abbrev base : Scope
    base = scope_of program m method

    abbrev room : ℕ
    room = monitors_in method.body

    abbrev size : ℕ
    size = statement_size program method.body no_monitors

    abbrev all_shapes : Shapes
    all_shapes = statement_shapes base method.body fits.body no_monitors ++ end_shapes method.result

    abbrev shapes : Marks
    shapes = map Some all_shapes

    locals_are : kinds_of_locals c ≡ this_kind method.is_static ++ ((method.formals ++ method.locals) ++ repeat room (Reference ∷ []))
    locals_are = ap (λ l. this_kind method.is_static ++ l) (sym (append_assoc method.formals method.locals (repeat room (Reference ∷ []))))

    known : Known base (code_of program) c room
    known = record {
      variable = λ p k e. ap (λ l. slice_get l (shift method.is_static + p)) locals_are ∙ kind_shift method.is_static _ p ∙ kind_front (method.formals ++ method.locals) (repeat room (Reference ∷ [])) p k e;
      this_is = λ e. kind_this method.is_static _ e;
      hidden_is = λ d lt. ap (λ l. slice_get l (hidden (setting_of program method) d)) locals_are ∙ kind_shift method.is_static _ (length (method.formals ++ method.locals) + d) ∙ kind_back (method.formals ++ method.locals) (repeat room (Reference ∷ [])) d ∙ kind_hidden room d lt;
      callee = callee_is;
      result_is = refl;
    }

    end_right : (r : Option SlotKind) → r ≡ method.result → HasAt c.instructions size (end_code r) → ShapesAt shapes size (end_shapes r) → Good base (code_of program) c room known shapes size (size + end_size r) []
    end_right None same x h = single base (code_of program) c room known shapes ReturnNothing size (size + 1) [] [] refl x.0 h.0 (sym same, refl) tt
    end_right (Some k) same x h =
        join base (code_of program) c room known shapes
        (single base (code_of program) c room known shapes (Push (default_value k)) size (size + 1) [] (k ∷ []) refl x.0 h.0 (ap (λ j. j ∷ []) (sym (default_kind k (λ caught. fits.result (sym same ∙ ap Some caught))))) h.1.0)
        (single base (code_of program) c room known shapes ReturnTop (size + 1) (size + (1 + 1)) (k ∷ []) [] (omega arith) x.1.0 h.1.0 (k, sym same, refl) tt)

    method_right : MethodRight (code_of program) c
    method_right =
        let s = setting_of program method in
        let x = has_all (body_code program method) [] in
        let h = shapes_all all_shapes [] in
        let zero_is : 0 + size ≡ size = omega arith in
        let x2 = subst (λ p. HasAt c.instructions p (end_code method.result)) zero_is (has_back c.instructions 0 (statement_code s method.body no_monitors 0 size size) (end_code method.result) size (statement_len s method.body no_monitors 0 size size) x) in
        let h2 = subst (λ p. ShapesAt shapes p (end_shapes method.result)) zero_is (shapes_back shapes 0 (statement_shapes base method.body fits.body no_monitors) (end_shapes method.result) size (statement_shapes_len base method.body fits.body no_monitors) h) in
        let end = end_right method.result refl x2 h2 in
        let body = statement_right base (code_of program) c room known results shapes method.body false fits.body no_monitors 0 size size size (omega arith) (omega arith) (λ t. absurd (cc)) (has_front c.instructions 0 (statement_code s method.body no_monitors 0 size size) _ x) (shapes_front shapes 0 (statement_shapes base method.body fits.body no_monitors) _ h) end.first in
        let whole = join base (code_of program) c room known shapes body.good end in
        record {
          shapes = shapes;
          begins = whole.first;
          each = λ at ks marked. whole.all at (omega arith) (omega (arith, slice_get_within shapes at (Some ks) marked, marks_many all_shapes, length-append (statement_shapes base method.body fits.body no_monitors) (end_shapes method.result), statement_shapes_len base method.body fits.body no_monitors, end_shapes_len method.result));
          regions = body.regions;
          formals = none_caught method.formals fits.formals;
          result = λ k e caught. fits.result (e ∙ ap Some caught);
        }

  pub code_right : CodeRight (code_of program)
  code_right = record {
    methods = λ m c e.
        let found = unmap (method_code program) (method_at program m) c (sym (slice_get-map (method_code program) program.methods m.0) ∙ e) in
        subst (λ c. MethodRight (code_of program) c) found.2 (method_right m found.0 (formed.methods m found.0 found.1));
  }

pub start_right : (program : Program) → WellFormed program → (start : Option Body) → StartFits program start → StartRight (code_of program) start
start_right program formed None fits = tt
start_right program formed (Some start) fits = (method_code program fits.0, callee_is program formed start.method fits.0 fits.1, fits.2)

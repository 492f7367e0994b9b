-- At each place of the code of a statement that fits the operands have the right kinds, and so have its regions.
use Rattle.std.proofs.Common.{◌≡◌, ℕ, zero, suc, ◌+◌, ◌<◌, ◌≤◌, Bool, true, List, [], ◌∷◌, ◌++◌, map, Some, refl, ap, ◌∙◌, arith, ⊎_elim}
use Rattle.std.specs.Prelude.{slice_get}
use Rattle.std.proofs.lemmas.Bool.{cases_lt}
use Rattle.jr_base.specs.declared.kind.SlotKind.{SlotKind}
use Rattle.jr_base.specs.declared.kind.SlotKind.TheVariants.{Bool as Boolean, Ref as Reference, Caught as CaughtKind}
use Rattle.jr_program.specs.Programs.{Catches, no_catch, or_catch, Statement, Skip, Then, Declare, Do, If, Loop, DoLoop, Break, Continue, Return, ReturnValue, Throw, ThrowCaught, Try, Synchronized, Commit, Println, Assert}
use Rattle.jr_program.specs.WellFormed.{Scope, AreVariables, Fits, CatchesFit}
use Rattle.jr_code.specs.Instructions.{Instruction, Load, Store, Dup, Jump, JumpNot, BackTo, EnterMonitor, ExitMonitor, ReturnNothing, ReturnTop, CommitNow, AssertThat, PrintAll, ThrowNew, ThrowLocal, Region, MethodCode, Code}
use Rattle.jr_code.specs.Checked.{kinds_of_locals, kinds_pushed, AreVariables as HoldValues, Effect, GoesTo, RightAt, RightRegions}
use Rattle.jr_lowering.specs.ExprCode.{Setting, shift, hidden, expr_size, expr_code}
use Rattle.jr_lowering.specs.StatementCode.{effects_size, effects_code, text_of_part, parts_size, parts_code, Around, inside_loop, inside_monitor, exit_code, exit_size, statement_size, catches_size, statement_code, catches_code, catch_regions, statement_regions, catches_regions, monitors_in, monitors_in_all}
use Rattle.jr_lowering.proofs.Places.{HasAt, has_front, has_back, expr_len, effects_len, parts_len, statement_len}
use Rattle.jr_lowering.proofs.Expressions.{setting_in}
use Rattle.jr_lowering.proofs.Statements.{flags, larger_left, larger_right}
use Rattle.jr_lowering.proofs.Shapes.{Marks, ShapesAt, shapes_front, shapes_back, expr_shapes, effects_shapes, parts_shapes, parts_kinds, exit_shapes, statement_shapes, catches_shapes, expr_shapes_len, effects_shapes_len, parts_shapes_len, statement_shapes_len}
use Rattle.jr_lowering.proofs.ValueKinds.{ResultsAreValues, parts_values, parts_count}
use Rattle.jr_lowering.proofs.RightExpressions.{Known, Good, join, nothing, single, next, choice_right}
use Rattle.jr_lowering.proofs.RightEffects.{expr_well, parts_right, uses, effect_right, effects_right}

module _ (base : Scope) (code : Code) (c : MethodCode) (room : ℕ) (known : Known base code c room) (results : ResultsAreValues base.program) (shapes : Marks) where
  abbrev is : List Instruction
  is = c.instructions

  abbrev st : Setting
  st = setting_in base

  abbrev Well : ℕ → ℕ → List SlotKind → Type 0
  Well lo hi ks = Good base code c room known shapes lo hi ks

  abbrev one : (i : Instruction) (at to : ℕ) (before after : List SlotKind) → at + 1 ≡ to → slice_get is at ≡ Some i → slice_get shapes at ≡ Some (Some before) → Effect code c i before after → GoesTo shapes at i after → Well at to before
  one = single base code c room known shapes

  abbrev then_well : {a b d : ℕ} {ks js : List SlotKind} → Well a b ks → Well b d js → Well a d ks
  then_well = join base code c room known shapes

  abbrev behind : (at to : ℕ) (ks : List SlotKind) → at + 1 ≡ to → slice_get shapes to ≡ Some (Some ks) → slice_get shapes (at + 1) ≡ Some (Some ks)
  behind = next base code c room known shapes

  -- a statement's places and regions are right
  pub record Placed (lo hi : ℕ) (rs : List Region) : Type 0 where
    pub good : Well lo hi []
    pub regions : RightRegions c shapes rs

  pub record PlacedCatches (lo hi : ℕ) (caught rs : List Region) : Type 0 where
    pub all : (p : ℕ) → lo ≤ p → p < hi → RightAt code c shapes p
    pub catches : RightRegions c shapes caught
    pub regions : RightRegions c shapes rs

  regions_both : (a b : List Region) → RightRegions c shapes a → RightRegions c shapes b → RightRegions c shapes (a ++ b)
  regions_both [] b x y = y
  regions_both (r ∷ a) b x y = (x.0, regions_both a b x.1 y)

  abbrev JumpsOut : ℕ → ℕ → ℕ → Type 0
  JumpsOut to break_to continue_to = (to ≤ break_to) × (slice_get shapes break_to ≡ Some (Some [])) × (to ≤ continue_to) × (slice_get shapes continue_to ≡ Some (Some []))

  -- leaving monitors
  exits : (depth n : ℕ) → depth ≤ room → (i : Instruction) (at to : ℕ) → at + exit_size depth n ≡ to → (ks : List SlotKind) → HasAt is at (exit_code st depth n i) → ShapesAt shapes at (exit_shapes depth n ks) → ((p : ℕ) → p + 1 ≡ to → slice_get is p ≡ Some i → slice_get shapes p ≡ Some (Some ks) → Well p to ks) → Well at to ks
  exits depth zero le i at to e ks x h last = last at e x.0 h.0
  exits zero (suc n) le i at to e ks x h last = last at e x.0 h.0
  exits (suc depth) (suc n) le i at to e ks x h last =
      let rest = exits depth n (omega arith) i (at + 1 + 1) to (omega arith) ks x.1.1 h.1.1 last in
      then_well (one (Load (hidden st depth)) at (at + 1) ks (Reference ∷ ks) refl x.0 h.0 (Reference, known.hidden_is depth (omega arith), refl) h.1.0)
      (then_well (one ExitMonitor (at + 1) (at + 1 + 1) (Reference ∷ ks) ks refl x.1.0 h.1.0 refl rest.first) rest)

  scope_right : (scope : List ℕ) (ks : List SlotKind) → AreVariables base.kinds scope ks → HoldValues (kinds_of_locals c) (map (λ number. shift base.is_static + number) scope)
  scope_right [] ks has = tt
  scope_right (number ∷ scope) [] has = absurd has
  scope_right (number ∷ scope) (k ∷ ks) has = ((k, known.variable number k has.0.0, has.0.1), scope_right scope ks has.1)

  mutual
    pub statement_right : (y : Statement) (l : Bool) (has : Fits (flags base l) y) (ar : Around) (at to break_to continue_to : ℕ) → at + statement_size st.program y ar ≡ to → ar.in_all + monitors_in y ≤ room → (l ≡ true → JumpsOut to break_to continue_to) → HasAt is at (statement_code st y ar at break_to continue_to) → ShapesAt shapes at (statement_shapes (flags base l) y has ar) → slice_get shapes to ≡ Some (Some []) → Placed at to (statement_regions st y ar at)
    statement_right Skip l has ar at to break_to continue_to e deep jo x h out = record { good = nothing base code c room known shapes at to [] (omega arith) out; regions = tt }
    statement_right (Then a b) l has ar at to break_to continue_to e deep jo x h out =
        let s = flags base l in
        let at1 = at + statement_size st.program a ar in
        let x2 = has_back is at (statement_code st a ar at break_to continue_to) _ (statement_size st.program a ar) (statement_len st a ar at break_to continue_to) x in
        let h2 = shapes_back shapes at (statement_shapes s a has.0 ar) _ (statement_size st.program a ar) (statement_shapes_len s a has.0 ar) h in
        let second = statement_right b l has.1 ar at1 to break_to continue_to (omega arith) (omega (arith, deep, larger_right (monitors_in a) (monitors_in b))) jo x2 h2 out in
        let first = statement_right a l has.0 ar at at1 break_to continue_to refl (omega (arith, deep, larger_left (monitors_in a) (monitors_in b))) (λ t. let j = jo t in (omega (arith, j.0), j.1, omega (arith, j.2), j.3)) (has_front is at (statement_code st a ar at break_to continue_to) _ x) (shapes_front shapes at (statement_shapes s a has.0 ar) _ h) second.good.first in
        record { good = then_well first.good second.good; regions = regions_both _ _ first.regions second.regions }
    statement_right (Declare number e) l has ar at to break_to continue_to len deep jo x h out =
        record { good = uses base code c room known shapes l e has.0 has.2 (Store (shift base.is_static + number)) at to (omega arith) x h (has.0, known.variable number has.0 has.1.0, refl) (λ g. g) out; regions = tt }
    statement_right (Do effect) l has ar at to break_to continue_to len deep jo x h out =
        record { good = effect_right base code c room known shapes l effect has at to len x h out; regions = tt }
    statement_right (If e a b) l has ar at to break_to continue_to len deep jo x h out =
        let s = flags base l in
        let n = expr_size st.program e in let na = statement_size st.program a ar in let nb = statement_size st.program b ar in
        let at1 = at + n in
        let at2 = at1 + 1 + na in
        let x2 = has_back is at (expr_code st e at) _ n (expr_len st e at) x in
        let x3 = has_back is (at1 + 1) (statement_code st a ar (at1 + 1) break_to continue_to) _ na (statement_len st a ar (at1 + 1) break_to continue_to) x2.1 in
        let h2 = shapes_back shapes at (expr_shapes s e Boolean has.0 []) _ n (expr_shapes_len s e Boolean has.0 []) h in
        let h3 = shapes_back shapes (at1 + 1) (statement_shapes s a has.1 ar) _ na (statement_shapes_len s a has.1 ar) h2.1 in
        let left = statement_right a l has.1 ar (at1 + 1) at2 break_to continue_to refl (omega (arith, deep, larger_left (monitors_in a) (monitors_in b))) (λ t. let j = jo t in (omega (arith, j.0), j.1, omega (arith, j.2), j.3)) (has_front is (at1 + 1) (statement_code st a ar (at1 + 1) break_to continue_to) _ x2.1) (shapes_front shapes (at1 + 1) (statement_shapes s a has.1 ar) _ h2.1) h3.0 in
        let right = statement_right b l has.2 ar (at2 + 1) to break_to continue_to (omega arith) (omega (arith, deep, larger_right (monitors_in a) (monitors_in b))) jo x3.1 h3.1 out in
        record {
          good = then_well (expr_well base code c room known shapes l e Boolean has.0 at at1 refl (has_front is at (expr_code st e at) _ x) (shapes_front shapes at (expr_shapes s e Boolean has.0 []) _ h) h2.0)
              (choice_right base code c room known shapes at1 na nb to (omega arith) [] [] x2.0 h2.0 left.good x3.0 h3.0 right.good out);
          regions = regions_both _ _ left.regions right.regions;
        }
    statement_right (Loop e us b) l has ar at to break_to continue_to len deep jo x h out =
        let s = flags base l in
        let ai = inside_loop ar in
        let n = expr_size st.program e in let nb = statement_size st.program b ai in let nu = effects_size st.program us in
        let at1 = at + n in
        let at2 = at1 + 1 + nb in
        let at3 = at2 + nu in
        let out3 : slice_get shapes (at3 + 1) ≡ Some (Some []) = behind at3 to [] (omega arith) out in
        let x2 = has_back is at (expr_code st e at) _ n (expr_len st e at) x in
        let x3 = has_back is (at1 + 1) (statement_code st b ai (at1 + 1) (at3 + 1) at2) _ nb (statement_len st b ai (at1 + 1) (at3 + 1) at2) x2.1 in
        let x4 = has_back is at2 (effects_code st us at2) _ nu (effects_len st us at2) x3 in
        let h2 = shapes_back shapes at (expr_shapes s e Boolean has.0 []) _ n (expr_shapes_len s e Boolean has.0 []) h in
        let h3 = shapes_back shapes (at1 + 1) (statement_shapes (flags base true) b has.2 ai) _ nb (statement_shapes_len (flags base true) b has.2 ai) h2.1 in
        let h4 = shapes_back shapes at2 (effects_shapes s us has.1) _ nu (effects_shapes_len s us has.1) h3 in
        let test = expr_well base code c room known shapes l e Boolean has.0 at at1 refl (has_front is at (expr_code st e at) _ x) (shapes_front shapes at (expr_shapes s e Boolean has.0 []) _ h) h2.0 in
        let update = effects_right base code c room known shapes l us has.1 at2 at3 refl (has_front is at2 (effects_code st us at2) _ x3) (shapes_front shapes at2 (effects_shapes s us has.1) _ h3) h4.0 in
        let body = statement_right b true has.2 ai (at1 + 1) at2 (at3 + 1) at2 refl deep (λ t. (omega arith, out3, omega arith, update.first)) (has_front is (at1 + 1) (statement_code st b ai (at1 + 1) (at3 + 1) at2) _ x2.1) (shapes_front shapes (at1 + 1) (statement_shapes (flags base true) b has.2 ai) _ h2.1) update.first in
        record {
          good = then_well test (then_well (one (JumpNot (at3 + 1)) at1 (at1 + 1) (Boolean ∷ []) [] refl x2.0 h2.0 refl (omega arith, out3, body.good.first))
              (then_well body.good (then_well update (one (BackTo at) at3 to [] [] (omega arith) x4.0 h4.0 refl (omega arith, test.first)))));
          regions = body.regions;
        }
    statement_right (DoLoop b e) l has ar at to break_to continue_to len deep jo x h out =
        let s = flags base l in
        let ai = inside_loop ar in
        let n = expr_size st.program e in let nb = statement_size st.program b ai in
        let at1 = at + nb in
        let at2 = at1 + n in
        let out3 : slice_get shapes (at2 + 1 + 1) ≡ Some (Some []) = behind (at2 + 1) to [] (omega arith) out in
        let x2 = has_back is at (statement_code st b ai at (at2 + 1 + 1) at1) _ nb (statement_len st b ai at (at2 + 1 + 1) at1) x in
        let x3 = has_back is at1 (expr_code st e at1) _ n (expr_len st e at1) x2 in
        let h2 = shapes_back shapes at (statement_shapes (flags base true) b has.1 ai) _ nb (statement_shapes_len (flags base true) b has.1 ai) h in
        let h3 = shapes_back shapes at1 (expr_shapes s e Boolean has.0 []) _ n (expr_shapes_len s e Boolean has.0 []) h2 in
        let test = expr_well base code c room known shapes l e Boolean has.0 at1 at2 refl (has_front is at1 (expr_code st e at1) _ x2) (shapes_front shapes at1 (expr_shapes s e Boolean has.0 []) _ h2) h3.0 in
        let body = statement_right b true has.1 ai at at1 (at2 + 1 + 1) at1 refl deep (λ t. (omega arith, out3, omega arith, test.first)) (has_front is at (statement_code st b ai at (at2 + 1 + 1) at1) _ x) (shapes_front shapes at (statement_shapes (flags base true) b has.1 ai) _ h) test.first in
        record {
          good = then_well body.good (then_well test (then_well (one (JumpNot (at2 + 1 + 1)) at2 (at2 + 1) (Boolean ∷ []) [] refl x3.0 h3.0 refl (omega arith, out3, h3.1.0))
              (one (BackTo at) (at2 + 1) to [] [] (omega arith) x3.1.0 h3.1.0 refl (omega arith, body.good.first))));
          regions = body.regions;
        }
    statement_right Break l has ar at to break_to continue_to e deep jo x h out =
        let j = jo has in
        record { good = exits ar.in_all ar.in_loop (omega arith) (Jump break_to) at to e [] x h (λ p q i g. one (Jump break_to) p to [] [] q i g refl (omega (arith, j.0, q), j.1)); regions = tt }
    statement_right Continue l has ar at to break_to continue_to e deep jo x h out =
        let j = jo has in
        record { good = exits ar.in_all ar.in_loop (omega arith) (Jump continue_to) at to e [] x h (λ p q i g. one (Jump continue_to) p to [] [] q i g refl (omega (arith, j.2, q), j.3)); regions = tt }
    statement_right Return l has ar at to break_to continue_to e deep jo x h out =
        record { good = exits ar.in_all ar.in_all (omega arith) ReturnNothing at to e [] x h (λ p q i g. one ReturnNothing p to [] [] q i g (known.result_is ∙ has, refl) tt); regions = tt }
    statement_right (ReturnValue e) l has ar at to break_to continue_to len deep jo x h out =
        let s = flags base l in
        let n = expr_size st.program e in
        let x2 = has_back is at (expr_code st e at) _ n (expr_len st e at) x in
        let h2 = shapes_back shapes at (expr_shapes s e has.0 has.2 []) _ n (expr_shapes_len s e has.0 has.2 []) h in
        let rest = exits ar.in_all ar.in_all (omega arith) ReturnTop (at + n) to (omega arith) (has.0 ∷ []) x2 h2 (λ p q i g. one ReturnTop p to (has.0 ∷ []) [] q i g (has.0, known.result_is ∙ has.1, refl) tt) in
        record { good = then_well (expr_well base code c room known shapes l e has.0 has.2 at (at + n) refl (has_front is at (expr_code st e at) _ x) (shapes_front shapes at (expr_shapes s e has.0 has.2 []) _ h) rest.first) rest; regions = tt }
    statement_right (Throw fault) l has ar at to break_to continue_to e deep jo x h out = record { good = one (ThrowNew fault) at to [] [] e x.0 h.0 refl tt; regions = tt }
    statement_right (ThrowCaught number) l has ar at to break_to continue_to e deep jo x h out =
        record { good = one (ThrowLocal (shift base.is_static + number)) at to [] [] e x.0 h.0 (known.variable number CaughtKind has, refl) tt; regions = tt }
    statement_right (Try b cs) l has ar at to break_to continue_to len deep jo x h out =
        let s = flags base l in
        let nb = statement_size st.program b ar in let nc = catches_size st.program cs ar in
        let at1 = at + nb in
        let end = at1 + 1 + nc in
        let end_is : end ≡ to = omega arith in
        let x2 = has_back is at (statement_code st b ar at break_to continue_to) _ nb (statement_len st b ar at break_to continue_to) x in
        let h2 = shapes_back shapes at (statement_shapes s b has.0 ar) _ nb (statement_shapes_len s b has.0 ar) h in
        let out2 : slice_get shapes end ≡ Some (Some []) = ap (λ p. slice_get shapes p) end_is ∙ out in
        let handlers = catches_right cs l has.1 ar at at1 (at1 + 1) end break_to continue_to refl (omega arith) (omega (arith, deep, larger_right (monitors_in b) (monitors_in_all cs))) (λ t. let j = jo t in (omega (arith, j.0), j.1, omega (arith, j.2), j.3)) x2.1 h2.1 out2 in
        let body = statement_right b l has.0 ar at at1 break_to continue_to refl (omega (arith, deep, larger_left (monitors_in b) (monitors_in_all cs))) (λ t. let j = jo t in (omega (arith, j.0), j.1, omega (arith, j.2), j.3)) (has_front is at (statement_code st b ar at break_to continue_to) _ x) (shapes_front shapes at (statement_shapes s b has.0 ar) _ h) h2.0 in
        let front = then_well body.good (one (Jump end) at1 (at1 + 1) [] [] refl x2.0 h2.0 refl (omega arith, out2)) in
        record {
          good = record { first = front.first; all = λ p low high. ⊎_elim (λ lt. front.all p low (omega arith)) (λ le. handlers.all p (omega arith) (omega arith)) (cases_lt p (at1 + 1)) };
          regions = regions_both _ _ body.regions (regions_both _ _ handlers.catches handlers.regions);
        }
    statement_right (Synchronized e b) l has ar at to break_to continue_to len deep jo x h out =
        let s = flags base l in
        let d = ar.in_all in
        let ai = inside_monitor ar in
        let n = expr_size st.program e in let nb = statement_size st.program b ai in
        let at1 = at + n in
        let at3 = at1 + 1 + 1 + 1 in
        let at4 = at3 + nb in
        let slot = known.hidden_is d (omega arith) in
        let x2 = has_back is at (expr_code st e at) _ n (expr_len st e at) x in
        let x3 = has_back is at3 (statement_code st b ai at3 break_to continue_to) _ nb (statement_len st b ai at3 break_to continue_to) x2.1.1.1 in
        let h2 = shapes_back shapes at (expr_shapes s e Reference has.0 []) _ n (expr_shapes_len s e Reference has.0 []) h in
        let h3 = shapes_back shapes at3 (statement_shapes s b has.1 ai) _ nb (statement_shapes_len s b has.1 ai) h2.1.1.1 in
        let body = statement_right b l has.1 ai at3 at4 break_to continue_to refl (omega arith) (λ t. let j = jo t in (omega (arith, j.0), j.1, omega (arith, j.2), j.3)) (has_front is at3 (statement_code st b ai at3 break_to continue_to) _ x2.1.1.1) (shapes_front shapes at3 (statement_shapes s b has.1 ai) _ h2.1.1.1) h3.0 in
        record {
          good = then_well (expr_well base code c room known shapes l e Reference has.0 at at1 refl (has_front is at (expr_code st e at) _ x) (shapes_front shapes at (expr_shapes s e Reference has.0 []) _ h) h2.0)
              (then_well (one Dup at1 (at1 + 1) (Reference ∷ []) (Reference ∷ (Reference ∷ [])) refl x2.0 h2.0 (Reference, [], refl, refl) h2.1.0)
              (then_well (one (Store (hidden st d)) (at1 + 1) (at1 + 1 + 1) (Reference ∷ (Reference ∷ [])) (Reference ∷ []) refl x2.1.0 h2.1.0 (Reference, slot, refl) h2.1.1.0)
              (then_well (one EnterMonitor (at1 + 1 + 1) at3 (Reference ∷ []) [] refl x2.1.1.0 h2.1.1.0 refl body.good.first)
              (then_well body.good
              (then_well (one (Load (hidden st d)) at4 (at4 + 1) [] (Reference ∷ []) refl x3.0 h3.0 (Reference, slot, refl) h3.1.0)
              (one ExitMonitor (at4 + 1) to (Reference ∷ []) [] (omega arith) x3.1.0 h3.1.0 refl (behind (at4 + 1) to [] (omega arith) out)))))));
          regions = regions_both _ _ body.regions (slot, tt);
        }
    statement_right (Commit b) l has ar at to break_to continue_to len deep jo x h out =
        let body = statement_right b l has ar (at + 1) to break_to continue_to (omega arith) deep jo x.1 h.1 out in
        record { good = then_well (one CommitNow at (at + 1) [] [] refl x.0 h.0 refl body.good.first) body.good; regions = body.regions }
    statement_right (Println parts) l has ar at to break_to continue_to len deep jo x h out =
        let s = flags base l in
        let n = parts_size st.program parts in
        let x2 = has_back is at (parts_code st parts at) _ n (parts_len st parts at) x in
        let h2 = shapes_back shapes at (parts_shapes s parts has.0 []) _ n (parts_shapes_len s parts has.0 []) h in
        record {
          good = then_well (parts_right base code c room known shapes l parts has.0 at (at + n) refl [] (has_front is at (parts_code st parts at) _ x) (shapes_front shapes at (parts_shapes s parts has.0 []) _ h) h2.0)
              (one (PrintAll (map text_of_part parts)) (at + n) to (kinds_pushed (parts_kinds s parts has.0) []) [] (omega arith) x2.0 h2.0 (parts_kinds s parts has.0, parts_count s parts has.0, parts_values s results parts has.0, refl) (behind (at + n) to [] (omega arith) out));
          regions = tt;
        }
    statement_right (Assert clause scope) l has ar at to break_to continue_to e deep jo x h out =
        record { good = one (AssertThat clause (map (λ number. shift base.is_static + number) scope)) at to [] [] e x.0 h.0 (scope_right scope has.0 has.1, refl) (behind at to [] e out); regions = tt }

    catches_right : (cs : Catches) (l : Bool) (has : CatchesFit (flags base l) cs) (ar : Around) (first past at end break_to continue_to : ℕ) → at + catches_size st.program cs ar ≡ end → past ≤ at → ar.in_all + monitors_in_all cs ≤ room → (l ≡ true → JumpsOut end break_to continue_to) → HasAt is at (catches_code st cs ar at end break_to continue_to) → ShapesAt shapes at (catches_shapes (flags base l) cs has ar) → slice_get shapes end ≡ Some (Some []) → PlacedCatches at end (catch_regions st cs ar first past at) (catches_regions st cs ar at)
    catches_right no_catch l has ar first past at end break_to continue_to e le deep jo x h out = record { all = λ p low high. absurd (omega arith); catches = tt; regions = tt }
    catches_right (or_catch fault number y rest) l has ar first past at end break_to continue_to e le deep jo x h out =
        let s = flags base l in
        let n = statement_size st.program y ar in
        let at1 = at + 1 + n in
        let x2 = has_back is (at + 1) (statement_code st y ar (at + 1) break_to continue_to) _ n (statement_len st y ar (at + 1) break_to continue_to) x.1 in
        let h2 = shapes_back shapes (at + 1) (statement_shapes s y has.1 ar) _ n (statement_shapes_len s y has.1 ar) h.1 in
        let handler = statement_right y l has.1 ar (at + 1) at1 break_to continue_to (omega arith) (omega (arith, deep, larger_left (monitors_in y) (monitors_in_all rest))) (λ t. let j = jo t in (omega (arith, j.0, e), j.1, omega (arith, j.2, e), j.3)) (has_front is (at + 1) (statement_code st y ar (at + 1) break_to continue_to) _ x.1) (shapes_front shapes (at + 1) (statement_shapes s y has.1 ar) _ h.1) h2.0 in
        let others = catches_right rest l has.2 ar first past (at1 + 1) end break_to continue_to (omega arith) (omega arith) (omega (arith, deep, larger_right (monitors_in y) (monitors_in_all rest))) jo x2.1 h2.1 out in
        let front = then_well (one (Store (shift base.is_static + number)) at (at + 1) (CaughtKind ∷ []) [] refl x.0 h.0 (CaughtKind, known.variable number CaughtKind has.0, refl) handler.good.first)
        (then_well handler.good (one (Jump end) at1 (at1 + 1) [] [] refl x2.0 h2.0 refl (omega arith, out))) in
        record {
          all = λ p low high. ⊎_elim (λ lt. front.all p low (omega arith)) (λ le. others.all p (omega arith) high) (cases_lt p (at1 + 1));
          catches = ((λ p ks low high marked. (omega arith, h.0)), others.catches);
          regions = regions_both _ _ handler.regions others.regions;
        }

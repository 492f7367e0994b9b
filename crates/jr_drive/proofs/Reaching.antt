-- Where a run by the serial rule comes to, turn by turn.
use Rattle.std.proofs.Common.{◌≡◌, ◌+◌, ◌-◌, ◌*◌, ◌≤◌, ◌<◌, ◌++◌, ℕ, zero, suc, List, [], ◌∷◌, refl, sym, ap, ◌∙◌, arith}
use Rattle.jr_base.specs.declared.finish.Finish.{Finish}
use Rattle.jr_base.specs.declared.finish.Finish.TheVariants.{Memory}
use Rattle.jr_program.specs.Programs.{Program}
use Rattle.jr_meaning.specs.Event.{Event}
use Rattle.jr_meaning.specs.History.{step_count}
use Rattle.jr_meaning.specs.Right.{Run}
use Rattle.jr_meaning.specs.Serial.{moved, Turn, Ends, Makes, turn, serial_from, serial, IsSerialPrefix}
use Rattle.jr_drive.specs.Reached.{HasReached, RunsTo, IsCutOff}

pub at-start : (program : Program) (budget : ℕ) → HasReached program budget []
at-start program budget seed = (seed, λ more. let none : 0 + more ≡ more = omega arith in ap (λ n. serial_from n program budget seed 0 [] seed) none)

module _ (program : Program) (budget : ℕ) (h : List Event) (reached : HasReached program budget h) where
  -- a turn more
  pub goes-on : (entries : List Event) → step_count (h ++ entries) ≡ step_count h + 1 →
      ((seed x : ℕ) → turn program budget 0 h seed x ≡ Makes entries (moved x)) → HasReached program budget (h ++ entries)
  goes-on entries one makes seed = (moved x, later)
    where
      x : ℕ
      x = (reached seed).0

      later : (more : ℕ) → serial_from (step_count (h ++ entries) + more) program budget seed 0 [] seed ≡ serial_from more program budget seed 0 (h ++ entries) (moved x)
      later more =
          let count : step_count (h ++ entries) + more ≡ step_count h + suc more = omega arith in
          ap (λ n. serial_from n program budget seed 0 [] seed) count ∙ (reached seed).1 (suc more)
          ∙ ap (λ (t : Turn). elim t as (λ t. Run) [ Ends finish ↦ record { history = h; finish = finish } | Makes entries x' ↦ serial_from more program budget seed 0 (h ++ entries) x' ])
          (makes seed x)

  -- the last turn
  pub ends : (finish : Finish) → step_count h ≤ budget → ((seed x : ℕ) → turn program budget 0 h seed x ≡ Ends finish) →
      (seed : ℕ) → record { history = h; finish = finish } ≡ serial program budget seed 0
  ends finish few end seed = sym (by (enough (step_count h) budget few))
    where
      x : ℕ
      x = (reached seed).0

      enough : (k budget : ℕ) → k ≤ budget → (more : ℕ) × (17 * (budget + 1) ≡ k + suc more)
      enough k budget few = (17 * budget + 16 - k, omega arith)

      by : (more : ℕ) × (17 * (budget + 1) ≡ step_count h + suc more) → serial program budget seed 0 ≡ record { history = h; finish = finish }
      by there =
          ap (λ n. serial_from n program budget seed 0 [] seed) there.1 ∙ (reached seed).1 (suc there.0)
          ∙ ap (λ (t : Turn). elim t as (λ t. Run) [ Ends finish ↦ record { history = h; finish = finish } | Makes entries x' ↦ serial_from there.0 program budget seed 0 (h ++ entries) x' ])
          (end seed x)

  -- cut off between two turns
  pub cut-off : (seed : ℕ) → IsSerialPrefix program budget seed 0 h
  cut-off seed = record {
    turns = step_count h;
    same = let none : step_count h + 0 ≡ step_count h = omega arith in
        ap (λ n. (serial_from n program budget seed 0 [] seed).history) (sym none) ∙ ap (λ (run : Run). run.history) ((reached seed).1 0);
  }

-- a whole run is cut off behind its last turn, if one likes
pub whole-cut-off : (program : Program) (budget : ℕ) (h : List Event) (finish : Finish) → RunsTo program budget h finish → IsCutOff program budget h
whole-cut-off program budget h finish whole seed = record { turns = 17 * (budget + 1); same = ap (λ (run : Run). run.history) (sym (whole seed)) }

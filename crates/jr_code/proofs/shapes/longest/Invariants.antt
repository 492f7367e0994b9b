use Rattle.std.proofs.Common.{◌≡◌, ℕ, ◌<◌, ◌≤◌, Some}
use Rattle.std.specs.Prelude.{slice_get}
use Rattle.jr_code.specs.declared.shapes.Span.{Span}
use Rattle.jr_code.proofs.shapes.longest.Given as goal

abbrev pub invariant-loop-place : goal.invariant-loop-place
invariant-loop-place l = record {
  each : (at : ℕ) (span : Span) → at < l.place-index → slice_get l.places at ≡ Some (Some span) → span.count ≤ l.most;
  some : (at : ℕ) × (span : Span) × (slice_get l.places at ≡ Some (Some span)) × (span.count ≡ l.most);
}

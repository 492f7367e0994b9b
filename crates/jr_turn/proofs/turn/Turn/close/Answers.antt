use Rattle.std.proofs.Common.{◌≡◌, ◌<◌, ◌≤◌, ℕ, All, Any, subst}
use Rattle.jr_turn.specs.Views.{StandsIn}
use Rattle.jr_turn.proofs.turn.Turn.close.Goals as goal

pub returns-clause-past : goal.returns-clause-past
returns-clause-past g c = subst (λ p. All (StandsIn g.V.Annal.guest (g.V.Annal.entries c.close.result)) p.view.past) c.pass.view_is c.close.ensures.past

pub returns-clause-none_missing : goal.returns-clause-none_missing
returns-clause-none_missing g c = subst (λ p. (n : ℕ) → 1 < n → n ≤ p.view.made → Any (λ q. q.number ≡ n) p.view.past) c.pass.view_is c.close.ensures.none_missing

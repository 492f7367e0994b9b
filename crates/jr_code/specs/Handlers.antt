-- The handlers of a method's catches.
use Rattle.std.specs.Prelude.{ℕ, ◌<◌, List, All}
use Rattle.jr_code.specs.declared.handler.Handler.{Handler}

-- each names one of so many regions
abbrev pub AreNumbers : ℕ → List Handler → Type 0
AreNumbers regions handlers = All (λ (h : Handler). h.region < regions) handlers

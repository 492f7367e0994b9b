-- Laws of monitors.
use Rattle.std.proofs.Common.{◌≡◌, true, IsTrue, Option, Some, None, ap, sym, ◌∙◌}
use Rattle.std.proofs.lemmas.Bool.{eqb-true}
use Rattle.jr_base.specs.declared.number.GuestNo.{GuestNo}
use Rattle.jr_base.specs.declared.number.ObjId.{ObjId}
use Rattle.jr_meaning.specs.World.{World, Hold, same_guest}
use Rattle.jr_meaning.specs.Machine.{holds, owns}

-- guests of one number are one
pub guest-same : (a b : GuestNo) → same_guest a b ≡ true → a ≡ b
guest-same a b e = let same : a.0 ≡ b.0 = eqb-true a.0 b.0 e in ap (λ n. record { 0 = n }) same

holder-same : (hold : Option Hold) (g other : GuestNo) → holds g hold ≡ true → holds other hold ≡ true → g ≡ other
holder-same None g other e f = cc
holder-same (Some hold) g other e f = sym (guest-same hold.guest g e) ∙ guest-same hold.guest other f

pub one-owner : (world : World) (object : ObjId) (g other : GuestNo) → IsTrue (owns world g object) → IsTrue (owns world other object) → g ≡ other
one-owner world object g other e f = holder-same (world.monitors object).hold g other e f

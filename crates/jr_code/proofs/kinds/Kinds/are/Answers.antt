use Rattle.std.proofs.Common.{◌≡◌, Bool, List, Decides, reverse, ap, sym, ◌∙◌}
use Rattle.std.proofs.lemmas.List.{reverse-reverse}
use Rattle.std.proofs.lemmas.Slice.Eq.{slice_eq-Decides}
use Rattle.jr_base.specs.declared.kind.SlotKind.{SlotKind}
use Rattle.jr_code.proofs.Stacks.{kinds_decide}
use Rattle.jr_code.proofs.kinds.Kinds.are.Goals as goal

turned_back : (xs ys : List SlotKind) → reverse xs ≡ reverse ys → xs ≡ ys
turned_back xs ys e = sym (reverse-reverse xs) ∙ ap reverse e ∙ reverse-reverse ys

turned : (xs ys a : List SlotKind) (r : Bool) → reverse xs ≡ a → Decides r (xs ≡ ys) → Decides r (a ≡ reverse ys)
turned xs ys a r ea d = (λ e. sym ea ∙ ap reverse (d.0 e), λ e. d.1 (turned_back xs ys (ea ∙ e)))

pub returns : goal.returns
returns c =
    let same = slice_eq-Decides kinds_decide c.as_slice.result.now c.args.kinds.now c.eq.result c.eq.ensures in
    turned c.as_slice.result.now c.args.kinds.now c.args.self.now c.eq.result (ap reverse c.as_slice.ensures.value ∙ c.self.view_is) same

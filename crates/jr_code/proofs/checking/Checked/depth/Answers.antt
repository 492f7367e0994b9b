use Rattle.std.proofs.Common.{◌≡◌, ◌<◌, Some, length, refl, sym, subst, arith}
use Rattle.std.specs.Prelude.{slice_get}
use Rattle.std.proofs.lemmas.Option.{slice_get_read}
use Rattle.jr_code.specs.declared.code.Code.{Code}
use Rattle.jr_code.specs.Depth.{IsDepthOf}
use Rattle.jr_code.specs.Views.{plain_of}
use Rattle.jr_code.proofs.Depths.{depth_kept}
use Rattle.jr_code.proofs.checking.Checked.depth.Goals as goal

pub returns : goal.returns
returns c =
    let depths = c.self.inside.depths.items in
    let number = c.args.method.0 in
    let kept = c.self.invariant.1 in
    let size = kept.size in
    let fits : number < length c.self.inside.code.methods.items = subst (λ (code : Code). number < length code.methods.items) (sym c.self.view_is) c.requires in
    let there : slice_get depths number ≡ Some c.index.result.now = slice_get_read depths (length depths) number c.index.result.now refl (omega arith) c.index.ensures in
    subst (λ (code : Code). IsDepthOf (plain_of code) c.args.method c.index.result.now) c.self.view_is
    (depth_kept c.self.inside.code depths c.args.method c.index.result.now kept there)

use Rattle.std.proofs.Common.{◌≡◌, refl, sym, ◌∙◌}
use denote.Enum.Bare.{same_true}
use Rattle.jr_lexer.specs.contracts.kind.Kind.{the_type}
use Rattle.jr_jml_parser.proofs.annotations.take.Goals as goal

pub returns-then-eq : goal.returns-then-eq
returns-then-eq c =
    let same : c.seen.result ≡ c.args.kind = same_true the_type tt c.seen.result c.args.kind (sym c.eq.ensures ∙ c.if-eq.true) in
    record {
      is = sym c.seen.ensures.value ∙ same;
      next = refl;
    }

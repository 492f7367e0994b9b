-- Where the classes of a source, the members of a class and the body of a method or constructor begin: behind
-- all that the grammar asks before them. And where a label stands.
use Rattle.std.specs.Prelude.{ℕ, List}
use Rattle.jr_lexer.specs.Token.{Token}
use Rattle.jr_ast.specs.Clauses.{MethodClause}
use Rattle.jr_ast.specs.Units.{Member, Class}
use Rattle.jr_jml_parser.specs.Grammar.{SpellsMethod}
use Rattle.jr_stmt_parser.specs.Labels as Labels
use Rattle.jr_unit_parser.specs.declared.head.Signature.{Signature}
use Rattle.jr_unit_parser.specs.declared.head.ClassHead.{ClassHead}
use Rattle.jr_unit_parser.specs.Grammar.{Many, Imports, ClassHeadAt, ClassAt, MemberAt, SignatureAt}

-- behind the imports and whole classes
pub record ClassBegins (ts : List Token) (i : ℕ) : Type 0 where
  pub front : ℕ
  pub classes : List Class
  pub imports : Imports ts 0 front
  pub before : Many (ClassAt ts) front classes i

-- behind the head of a class and whole members
pub record MemberBegins (ts : List Token) (i : ℕ) : Type 0 where
  pub class : ℕ
  pub first : ℕ
  pub head : ClassHead
  pub members : List Member
  pub begins : ClassBegins ts class
  pub opened : ClassHeadAt ts class head first
  pub before : Many (MemberAt ts) first members i

-- behind the clauses and the signature of a method or constructor
pub record BodyBegins (ts : List Token) (i : ℕ) : Type 0 where
  pub member : ℕ
  pub from : ℕ
  pub clauses : List MethodClause
  pub signature : Signature
  pub begins : MemberBegins ts member
  pub stated : Many (SpellsMethod ts) member clauses from
  pub signed : SignatureAt ts from signature i

-- a label that isn't `commit`, before a statement of a body
pub record OtherLabel (ts : List Token) (at : ℕ) : Type 0 where
  pub body : ℕ
  pub begins : BodyBegins ts body
  pub label : Labels.OtherLabel ts body at

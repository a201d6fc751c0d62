use Rattle.expr_parser.proofs.ExprForms.{formed}
use Rattle.expr_parser.proofs.TokenNames.{text_named, part_named}
use Rattle.expr_parser.proofs.TypeForms.{formed_type}
use Rattle.expr_parser.proofs.laws.law_formed.Goals as goal

pub returns-clause-formed_expr : goal.returns-clause-formed_expr
returns-clause-formed_expr c = formed 9

pub returns-clause-formed_type : goal.returns-clause-formed_type
returns-clause-formed_type c = formed_type

pub returns-clause-named : goal.returns-clause-named
returns-clause-named c = text_named

pub returns-clause-part : goal.returns-clause-part
returns-clause-part c = part_named

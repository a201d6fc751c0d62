use Rattle.soy_rules.specs.Templates.{declared}
use Rattle.soy_pieces.specs.Pieces.{template_run}
use Rattle.soy_pieces.specs.LanguageContext.{language_context}
use Rattle.template_ir.specs.Run.{template_gives}
use Rattle.template_ir.proofs.RunLaws.{entry_law, same_given}
use Rattle.template_ir.proofs.laws.law_run_is_pieces.Goals as goal

pub returns : goal.returns
returns c = λ trees places l p h number d found env placed.
    same_given (template_run (language_context l (declared trees)) d env) (template_gives p number env)
    (entry_law l (declared trees) places p h.templates h.direction h.plural h.ordinal number d found env placed)

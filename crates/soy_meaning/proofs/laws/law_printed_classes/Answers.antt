use Rattle.soy_meaning.proofs.Typing.PrintedClasses.{printed_value_class}
use Rattle.soy_meaning.proofs.laws.law_printed_classes.Goals as goal

pub returns : goal.returns
returns c = λ e scope env t v formed fits typed printed is. printed_value_class e scope env t v formed fits typed
    printed is

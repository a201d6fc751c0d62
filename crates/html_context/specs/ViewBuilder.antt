-- What the plan of a template goes by, of a `Builder` of the code.
use Rattle.soy_meaning.specs.Paths.PlanOfNodes.{PlanContext}
use Rattle.html_context.specs.ChosenTranslation.{chosen_translation}
use Rattle.soy_rules.specs.ViewTemplates.{view_all}
use Rattle.html_context.specs.declared.builder.Builder.{Builder}

abbrev pub plan_context : Builder → PlanContext
plan_context w =
    record {
      file = w.file;
      namespace = w.namespace.now;
      declared = view_all w.declared.now;
      translation = chosen_translation w.bundle.now.messages;
    }

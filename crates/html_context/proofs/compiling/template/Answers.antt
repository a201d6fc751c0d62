use Rattle.html_context.specs.ChosenTranslation.{chosen_translation}
use Rattle.soy_rules.specs.ViewTemplates.{view_all}
use Rattle.html_context.proofs.BuiltTemplates.{written_template}
use Rattle.html_context.proofs.compiling.template.Goals as goal

pub returns : goal.returns
returns c =
    written_template (record {
      file = c.args.one.now.file;
      namespace = c.args.one.now.namespace.now;
      declared = view_all c.args.all.now;
      translation = chosen_translation c.args.bundle.now.messages;
    })
    c.args.one.now.template.now c.items-2.result.now c.items.result.now c.in_ok-vars.vars c.args.rows.now.items
    c.nodes.new.rows.items c.write.new.rows.items c.in_ok-body.body c.write.result
    c.items-2.ensures c.items.ensures c.in_ok-vars.ensures c.in_ok-body.ensures.writes c.write.ensures.rows
    c.write.ensures.number

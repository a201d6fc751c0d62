use Rattle.std.proofs.Common.{◌∙◌}
use Rattle.soy_rules.specs.Templates.{callee}
use Rattle.soy_rules.specs.ViewTemplates.{view_all}
use Rattle.html_context.proofs.BuiltRows.{written_no_classes}
use Rattle.html_context.proofs.builder.Builder.call.Goals as goal

pub returns-in-None : goal.returns-in-None
returns-in-None c =
    written_no_classes c.args.at c.new-in-None.result (callee (view_all c.args.self.now.declared.now)
    c.args.self.now.namespace.now c.args.name.now)
    c.args.rows.now.items c.write.new.rows.items c.write.result (rw c.in-None.is at c.in_ok-callee.ensures)
    (c.new-in-None.ensures ∙ c.new.ensures.items) c.write.ensures.rows c.write.ensures.number

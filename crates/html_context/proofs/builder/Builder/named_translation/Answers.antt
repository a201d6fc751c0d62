use Rattle.std.proofs.Common.{sym}
use Rattle.soy_tree.specs.ViewMessageParts.{view_parts}
use Rattle.soy_tree.specs.ViewNodes.{view_message}
use Rattle.soy_expr.specs.ViewScope.{view_vars}
use Rattle.html_context.specs.ViewBuilder.{plan_context}
use Rattle.html_context.specs.Walks.{view_site}
use Rattle.html_context.proofs.BuiltRows.{one_translation}
use Rattle.html_context.proofs.builder.Builder.named_translation.Goals as goal

pub returns : goal.returns
returns c =
    one_translation (plan_context c.args.self.now) (view_message c.args.message.now) (view_vars c.args.vars.now)
    (view_site c.args.at)
    (view_parts c.in-Some.parts.now) c.args.rows.now.items c.translated_parts.new.rows.items c.args.before
    c.push.new.self c.in_ok-number.number
    c.requires (sym (rw c.in-Some.is at c.in_ok-parts.ensures)) c.in_ok-number.ensures c.in_ok-push.ensures.items

use Rattle.std.proofs.Common.{◌∙◌, sym}
use Rattle.soy_tree.specs.ViewNodes.{view_message}
use Rattle.soy_expr.specs.ViewScope.{view_vars}
use Rattle.msg_extract.specs.MessageId.{id_of}
use Rattle.msg_extract.proofs.FoundTranslations.{none_found}
use Rattle.html_context.specs.ViewBuilder.{plan_context}
use Rattle.html_context.specs.Walks.{view_site}
use Rattle.html_context.proofs.BuiltRows.{no_translation}
use Rattle.html_context.proofs.builder.Builder.translation.Goals as goal

pub returns-then-is_empty : goal.returns-then-is_empty
returns-then-is_empty c =
    no_translation (plan_context c.args.self.now) (view_message c.args.message.now) (view_vars c.args.vars.now)
    (view_site c.args.at) c.args.rows.now.items c.args.before c.requires
    (none_found c.args.self.now.bundle.now.messages (id_of (view_message c.args.message.now))
    (sym c.is_empty.ensures ∙ c.if-is_empty.true))

pub returns : goal.returns
returns c = rw c.in_ok-named.ensures at c.named_translation.ensures

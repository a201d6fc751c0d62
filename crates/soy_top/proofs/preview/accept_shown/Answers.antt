use Rattle.std.specs.Str.{chars}
use Rattle.soy_front.specs.ViewSources.{view_contents}
use Rattle.soy_top.specs.Answer.{preview_answer, shown_of}
use Rattle.soy_top.specs.Words.{command_words}
use Rattle.soy_top.proofs.Pages.{shown_numbered}
use Rattle.soy_top.proofs.Previews.ShownNumbers.{shown_html}
use Rattle.soy_top.proofs.Previews.ShownPages.{shown_refused, shown_then}
use Rattle.soy_rules.specs.Templates.{declared}
use Rattle.soy_tree.specs.ViewTrees.{view_trees}
use Rattle.soy_top.proofs.preview.accept_shown.Goals as goal

pub returns-in-Ok-accept_entry-clause-accepts : goal.returns-in-Ok-accept_entry-clause-accepts
returns-in-Ok-accept_entry-clause-accepts c =
    shown_then (command_words c.args.names.now) (view_contents c.args.sources.now) c.args.bundle.now _ c.in-Ok.compiled
    c.args.template.now c.args.json_name.now c.args.json.now c.in-Ok.ensures c.in-Ok-accept_entry.page
    (c.in-Ok-accept_entry.ensures.accepts _ c.in-Ok.ensures (shown_of c.in-Ok.ensures.of c.args.template.now)
    (shown_numbered _ _ c.in-Ok.compiled c.in-Ok.ensures c.args.template.now _ c.shown_number-entry.ensures))

pub returns-in-Ok-accept_entry-clause-text : goal.returns-in-Ok-accept_entry-clause-text
returns-in-Ok-accept_entry-clause-text c =
    c.in-Ok-accept_entry.ensures.text _ c.in-Ok.ensures (shown_of c.in-Ok.ensures.of c.args.template.now)
    (shown_numbered _ _ c.in-Ok.compiled c.in-Ok.ensures c.args.template.now _ c.shown_number-entry.ensures)
    (shown_html (chars c.args.template.now) (declared (view_trees c.in-Ok.ensures.of.files.trees)))

pub returns-in-Err-accept_entry-clause-accepts : goal.returns-in-Err-accept_entry-clause-accepts
returns-in-Err-accept_entry-clause-accepts c =
    shown_refused (command_words c.args.names.now) (view_contents c.args.sources.now) c.args.bundle.now _
    c.in-Ok.compiled c.args.template.now c.args.json_name.now c.args.json.now c.in-Ok.ensures
    c.in-Err-accept_entry.ending
    (c.in-Err-accept_entry.ensures.accepts _ c.in-Ok.ensures (shown_of c.in-Ok.ensures.of c.args.template.now)
    (shown_numbered _ _ c.in-Ok.compiled c.in-Ok.ensures c.args.template.now _ c.shown_number-entry.ensures))

pub returns-in-Err-clause-accepts : goal.returns-in-Err-clause-accepts
returns-in-Err-clause-accepts c =
    λ page. c.in-Err.ensures (preview_answer page c.args.template.now c.args.json_name.now c.args.json.now)

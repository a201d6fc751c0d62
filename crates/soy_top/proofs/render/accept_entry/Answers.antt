use Rattle.std.specs.Prelude.{IfOk}
use Rattle.soy_top.specs.Accepts.{AcceptsPage}
use Rattle.soy_top.specs.Line.{entry_line}
use Rattle.soy_top.specs.Answer.{run_text}
use Rattle.soy_top.specs.Shown.{IsHtml}
use Rattle.soy_top.specs.ShownPage.{IsPageText}
use Rattle.soy_top.specs.Runs.ViewOutput.{page_run}
use Rattle.soy_top.proofs.Pages.{numbered_found, numbered_missing}
use Rattle.soy_top.proofs.Previews.ShownPages.{numbered_there}
use Rattle.soy_rules.specs.Templates.{declared}
use Rattle.soy_tree.specs.ViewTrees.{view_trees}
use Rattle.soy_top.proofs.render.accept_entry.Goals as goal

pub returns-in-Some-clause-accepts : goal.returns-in-Some-clause-accepts
returns-in-Some-clause-accepts c = λ content are d numbered.
    numbered_found (declared (view_trees c.args.compiled.typed)) are.of c.args.template.now c.args.json_name.now
    c.args.json.now (λ answer. AcceptsPage answer c.accept_data.result) c.args.entry c.in-Some.number d c.in-Some.is
    numbered (c.accept_data.ensures.accepts content are)

pub returns-in-Some-clause-text : goal.returns-in-Some-clause-text
returns-in-Some-clause-text c = λ content are d numbered html.
    numbered_there (declared (view_trees c.args.compiled.typed))
    (IfOk c.accept_data.result (λ page. IsPageText (run_text (page_run page)))) IsHtml c.args.entry c.in-Some.number d
    c.in-Some.is numbered html (c.accept_data.ensures.text content are)

pub returns-in_ok-line-in-None-clause-accepts : goal.returns-in_ok-line-in-None-clause-accepts
returns-in_ok-line-in-None-clause-accepts c = λ content are d numbered page. (
  entry_line c.args.template.now,
  numbered_missing (declared (view_trees c.args.compiled.typed)) are.of c.args.template.now c.args.json_name.now
      c.args.json.now page c.args.entry d c.in-None.is numbered,
  c.in_ok-line-in-None.ensures,
)

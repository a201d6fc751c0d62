use Rattle.std.proofs.Common.{subst}
use Rattle.soy_front.specs.ViewSources.{view_contents}
use Rattle.soy_top.specs.ShownPage.{IsGathered}
use Rattle.soy_top.specs.Runs.ViewOutput.{page_run}
use Rattle.soy_top.specs.Words.{command_words}
use Rattle.soy_top.proofs.Previews.ShownPages.{shown_long}
use Rattle.soy_top.proofs.seen.show.Goals as goal

pub returns-in-TooLong : goal.returns-in-TooLong
returns-in-TooLong c =
    shown_long (command_words c.args.page.names.now) (view_contents c.args.page.sources.now) c.args.context
    (page_run c.args.page) c.in_ok-too_long_line-in-TooLong.field-0
    (subst (λ gathered. IsGathered (page_run c.args.page) gathered) c.in-TooLong.is c.in_ok-gather.ensures)
    c.in_ok-too_long_line-in-TooLong.ensures

use Rattle.std.proofs.Common.{ap, sym, ◌∙◌}
use Rattle.std.specs.Arc.{arc_value}
use Rattle.std.specs.List.{position}
use Rattle.std.specs.Str.{chars}
use Rattle.soy_front.specs.Entries.{is_entry_routine}
use Rattle.soy_page.proofs.Pages.{opens_page}
use Rattle.soy_page.specs.declared.templates.Templates.{Templates}
use Rattle.soy_page.proofs.page.Page.open.Goals as goal

pub returns-in-Some : goal.returns-in-Some
returns-in-Some c =
    opens_page (arc_value c.args.templates) c.args.name.now c.args.json.now c.in-Some.number
    (ap (λ (t : Templates). position (is_entry_routine (chars c.args.name.now)) t.compiled.program.templates)
    (sym c.deref.ensures) ∙ (sym c.entry.ensures ∙ c.in-Some.is)) c.open_at.result c.open_at.ensures

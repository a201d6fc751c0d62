use Rattle.std.proofs.Common.{Ok, Err, refl, subst, sym, codes}
use Rattle.std.proofs.lemmas.Result.{IfOk-weaker}
use Rattle.std.specs.Str.{chars}
use Rattle.soy_top.specs.Scripts.Played.{full_line, named_line}
use Rattle.soy_base.specs.declared.memory.Refusal.{Refusal}
use Rattle.soy_desk.specs.declared.fault.Full.{Full}
use Rattle.soy_top.specs.Scripts.DeskLines.{OpenShows}
use Rattle.soy_top.proofs.CheckedLines.{open_shows}
use Rattle.soy_top.proofs.play.Play.open.Goals as goal

pub returns-in-Ok-open : goal.returns-in-Ok-open
returns-in-Ok-open c =
    IfOk-weaker c.named_line.result _ _ (λ text is.
    open_shows c.args.self.now (chars c.args.template.now) (chars c.args.json.now) c.in-Ok.number c.in-Ok.input
    (Ok c.in-Ok-open.name) (named_line (codes "opened") c.in-Ok-open.name) _ _ _ c.in-Ok.ensures.reads
    c.in-Ok-open.ensures.opened refl is) c.named_line.ensures

pub returns-in-Because : goal.returns-in-Because
returns-in-Because c =
    IfOk-weaker c.full_line.result _ _ (λ text is.
    open_shows c.args.self.now (chars c.args.template.now) (chars c.args.json.now) c.in-Ok.number c.in-Ok.input
    (Err c.in-Err.field-0.cause) full_line _ _ _ c.in-Ok.ensures.reads c.in-Err.ensures.refused
    (subst (λ (r : Refusal Full). OpenShows (Err r) full_line) (sym c.in-Because.is) refl) is) c.full_line.ensures

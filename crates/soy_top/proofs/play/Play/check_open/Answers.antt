use Rattle.std.proofs.Common.{Some, subst, sym}
use Rattle.std.specs.Prelude.{Result}
use Rattle.std.specs.Str.{chars}
use Rattle.soy_base.specs.declared.code.Code.{Code}
use Rattle.soy_base.specs.declared.memory.Refusal.{Refusal}
use Rattle.soy_top.specs.Scripts.Script.{Open}
use Rattle.soy_top.specs.Scripts.ViewPlay.{ChecksLine}
use Rattle.soy_top.proofs.CheckedLines.{open_passes, open_stops}
use Rattle.soy_top.proofs.play.Play.check_open.Goals as goal
use Rattle.soy_top.proofs.play.Play.check_open.Goals.{in-Ok, in-Err}

pub returns : goal.returns
returns c =
    elim c.match-read_open.branch [
      | in-Ok w ↦ subst (λ (r : Result (Unit {0}) (Refusal Code)). ChecksLine c.args.self.now (Some
          (Open (chars c.args.template.now) (chars c.args.json.now))) r) (sym w.result-is)
          (open_passes c.args.self.now (chars c.args.template.now) (chars c.args.json.now) w.in-Ok.field-0
          w.in-Ok.ensures.reads w.in-Ok.ensures.short)
      | in-Err w ↦ subst (λ (r : Result (Unit {0}) (Refusal Code)). ChecksLine c.args.self.now (Some
          (Open (chars c.args.template.now) (chars c.args.json.now))) r) (sym w.result-is)
          (open_stops c.args.self.now (chars c.args.template.now) (chars c.args.json.now) w.in-Err.refusal
          w.in-Err.ensures.reads)
    ]

use Rattle.std.specs.Prelude.{◌≡◌, IfOk}
use Rattle.std.specs.String.{string_bytes}
use Rattle.soy_front.specs.ViewSources.{view_contents}
use Rattle.soy_top.specs.Line.{ended}
use Rattle.soy_top.specs.Words.{command_words}
use Rattle.soy_top.proofs.PastEnd.{numbered-shown}
use Rattle.soy_top.proofs.faults.numbered_line.Goals as goal

pub returns : goal.returns
returns c =
    numbered-shown (λ l. IfOk c.fault_line.result (λ line. string_bytes line ≡ ended l))
    (command_words c.args.names.now) (view_contents c.args.sources.now) c.name_at-name.result.now
    c.content_at-bytes.result.now c.args.fault c.within.result c.name_at-name.ensures c.content_at-bytes.ensures
    c.within.ensures c.fault_line.ensures

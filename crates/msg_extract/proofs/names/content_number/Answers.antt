use Rattle.std.proofs.Common.{◌∙◌}
use Rattle.msg_extract.specs.Views.ViewKeys.{view_key}
use Rattle.msg_extract.proofs.ContentKeys.{content_position}
use Rattle.msg_extract.proofs.names.content_number.Goals as goal

pub returns : goal.returns
returns c =
    c.get_index_of.ensures.index ∙ content_position (view_key c.args.content.now) c.args.group.now.keys

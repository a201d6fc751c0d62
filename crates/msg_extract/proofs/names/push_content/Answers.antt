use Rattle.msg_extract.specs.Views.ViewPieces.{content_of}
use Rattle.msg_extract.proofs.ContentKeys.{put_at, put_nowhere}
use Rattle.msg_extract.proofs.names.push_content.Goals as goal

pub returns-in_ok-push_named : goal.returns-in_ok-push_named
returns-in_ok-push_named c =
    put_at c.args.contents.now.items c.args.number c.in-Some.group.now c.push_named.new.group (content_of c.args.of.now)
    c.in-Some.ensures.item.3.0 c.in-Some.ensures.item.1 c.in_ok-push_named.ensures

pub returns-in_default : goal.returns-in_default
returns-in_default c =
    put_nowhere c.args.contents.now.items c.args.number (content_of c.args.of.now) c.in_default.ensures.item.3

use Rattle.std.proofs.Common.{◌≡◌, ◌∙◌, None, ap}
use Rattle.std.proofs.lemmas.Result.{IfOk-weaker}
use Rattle.msg_extract.specs.NameGroups.{found_name}
use Rattle.msg_extract.specs.Views.ViewKeys.{view_groups, view_key}
use Rattle.msg_extract.specs.Views.ViewNames.{named_uses}
use Rattle.msg_extract.proofs.Naming.NameGroups.{name_is_base}
use Rattle.msg_extract.proofs.names.name_by_keys.Goals as goal

pub returns-in-None : goal.returns-in-None
returns-in-None c =
    let absent : None ≡ found_name c.args.names.now.groups.bases.keys
    (view_groups c.args.names.now.groups.contents.items) c.args.names.now.texts c.args.base.now
    (view_key c.args.content.now) =
    c.in-None.ensures ∙ ap (λ texts. found_name c.args.names.now.groups.bases.keys
    (view_groups c.args.names.now.groups.contents.items) texts c.args.base.now (view_key c.args.content.now))
    c.items.ensures in
    IfOk-weaker c.copy-in-None.result _ _
    (λ name e. e ∙ (c.name.ensures ∙ name_is_base (named_uses c.args.names.now) c.args.names.now.groups.bases.keys
    (view_groups c.args.names.now.groups.contents.items) c.args.names.now.texts c.args.base.now
    (view_key c.args.content.now) c.requires absent)) c.copy-in-None.ensures

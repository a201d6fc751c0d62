use Rattle.std.proofs.Common.{ap, encode_utf8_all, ◌∙◌}
use Rattle.serde_json.specs.Data.{put, string}
use Rattle.serde_json.specs.View.{members_view, view}
use Rattle.serde_json.specs.declared.value.Value.TheVariants as value
use Rattle.serde_json.proofs.Views.{members_view-insert_entry}
use Rattle.soy_top.proofs.MadeBundles.{view_string}
use Rattle.soy_top.proofs.made_bundle.add_translation.Goals as goal

pub returns : goal.returns
returns c =
    let made = value.String c.in_ok-text.text in
    let old = c.args.translations.now.entries in
    ap members_view c.in_ok-insert.ensures.entries
    ∙ (members_view-insert_entry old c.in_ok-id.id made
    ∙ (ap (λ id. put id (view made) (members_view old)) (c.in_ok-id.ensures.ok ∙ c.text.ensures.bytes)
    ∙ ap (λ d. put (encode_utf8_all c.args.row.now.id) d (members_view old))
    (view_string c.in_ok-text.text ∙ ap string c.in_ok-text.ensures)))

use Rattle.std.proofs.Common.{◌≡◌, ◌∙◌, ap, encode_utf8_all, subst, sym}
use Rattle.std.specs.List.{flat_map, list_all}
use Rattle.std.specs.Str.{chars}
use Rattle.escapers.specs.Esc.{escaped_character}
use Rattle.value_cursor.specs.ByteForms.{byte_form, is_single}
use Rattle.value_cursor.proofs.ByteForms.{html_forms, single_forms}
use Rattle.value_cursor.proofs.whole.is_by_bytes.Goals as goal

pub returns-in-Html : goal.returns-in-Html
returns-in-Html c e =
    subst (λ how. encode_utf8_all (flat_map (escaped_character how) (chars c.args.text.now))
    ≡ flat_map (byte_form how) c.args.text.now) (sym c.in-Html.is) (html_forms c.args.text.now c.utf8.text)

pub returns-in_default : goal.returns-in_default
returns-in_default c e =
    single_forms c.args.how c.args.shares.now c.requires c.args.text.now c.utf8.text
    (ap (list_all (is_single c.args.shares.now)) (sym c.as_bytes.ensures.value) ∙ sym c.are_single.ensures ∙ e)

use Rattle.std.proofs.Common.{[], ◌∙◌, ap, encode_utf8_all, sym}
use Rattle.std.specs.Str.{chars}
use Rattle.std.proofs.lemmas.Bool.{cond-false}
use Rattle.escapers.specs.UriNormal.{uri_normal}
use Rattle.escapers.specs.UriStart.{invalid_uri, may_start_uri, uri_start}
use Rattle.value_cursor.proofs.Enclosed.{uri_instead}
use Rattle.value_cursor.proofs.Givings.{gives_same}
use Rattle.value_cursor.proofs.whole.give_uri_start.Goals as goal

pub returns-else-may_start_uri-clause-gives : goal.returns-else-may_start_uri-clause-gives
returns-else-may_start_uri-clause-gives c =
    let text = chars c.args.text.now in
    gives_same (encode_utf8_all (uri_start text)) (c.put_text.ensures.gives [])
    (ap encode_utf8_all (cond-false (may_start_uri text) (uri_normal text) invalid_uri
    (sym c.may_start_uri.ensures ∙ c.if-may_start_uri.false)) ∙ uri_instead)

use Rattle.std.proofs.Common.{◌++◌, ap, sym, ◌∙◌}
use Rattle.std.specs.Str.{chars}
use Rattle.std.specs.String.{string_bytes}
use Rattle.std.proofs.lemmas.Bool.{or_left}
use Rattle.std.proofs.lemmas.Str.{IsUtf8-string_bytes}
use Rattle.escapers.specs.UriNormal.{is_normal}
use Rattle.escapers.proofs.PercentBytes.{pushed_encoded}
use Rattle.escapers.proofs.AlphanumericTexts.{alphanumeric_stands}
use Rattle.escapers.proofs.UriSets.{normal_without, outside_uri}
use Rattle.escapers.proofs.uri.push_without_ampersand.Goals as goal

pub returns-then-is_alphanumeric : goal.returns-then-is_alphanumeric
returns-then-is_alphanumeric c =
    let same = sym (normal_without (chars c.args.text.now) c.requires)
    ∙ alphanumeric_stands is_normal (chars c.args.text.now) (λ c is. or_left _ _ (or_left _ _ is))
    (sym c.is_alphanumeric.ensures ∙ c.if-is_alphanumeric.true) in
    rw same c.push_text.ensures.ok

pub returns : goal.returns
returns c =
    pushed_encoded _ _ outside_uri (string_bytes c.args.out.now) _ c.args.text.now
    (IsUtf8-string_bytes c.args.out.now) c.utf8.text
    (c.in_ok-append_to.ensures.ok ∙ ap (λ l. string_bytes c.args.out.now ++ l) c.utf8_percent_encode.ensures.text)
    ∙ ap (λ l. chars (string_bytes c.args.out.now) ++ l) (normal_without (chars c.args.text.now) c.requires)

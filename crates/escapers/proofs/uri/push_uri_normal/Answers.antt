use Rattle.std.proofs.Common.{◌≡◌, ◌++◌, ◌∷◌, ap, sym, ◌∙◌, codes}
use Rattle.std.specs.Str.{chars}
use Rattle.std.specs.String.{string_bytes}
use Rattle.std.proofs.lemmas.Grind.{flat_map-append}
use Rattle.soy_base.specs.Characters.{ampersand}
use Rattle.escapers.specs.UriNormal.{normal_character, uri_normal}
use Rattle.escapers.proofs.Pushed.{three_pushed}
use Rattle.escapers.proofs.uri.push_uri_normal.Goals as goal

-- a part and its `&` were pushed
pub loop-part-preserved : goal.loop-part-preserved
unfolding chars
loop-part-preserved c =
    let start = chars (string_bytes c.loop-part.out) in
    let part = chars c.in-Some.part.now in
    let after = chars c.in-Some.after.now in
    let cut : uri_normal (chars c.loop-part.rest.now) ≡ uri_normal part ++ (codes "&amp;" ++ uri_normal after) =
    ap uri_normal c.in-Some.ensures.around.1 ∙ flat_map-append normal_character part (ampersand ∷ after) in
    let joined = three_pushed start (chars (string_bytes c.push_without_ampersand.new.out))
    (chars (string_bytes c.push_text.new.out)) (uri_normal part) (codes "&amp;") (uri_normal after)
    c.in_ok-push_without_ampersand.ensures c.in_ok-push_text.ensures.ok in
    (c.in-Some.ensures.around.2, joined ∙ ap (λ l. start ++ l) (sym cut) ∙ c.loop-part.invariant.1)

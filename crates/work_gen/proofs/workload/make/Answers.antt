use Rattle.std.proofs.Common.{◌≡◌, List, ℕ, [], ◌∷◌, ◌++◌, codes, refl, ap, ◌∙◌}
use Rattle.std.specs.Str.{chars}
use Rattle.std.specs.String.{string_bytes}
use Rattle.work_gen.specs.Data.{data_json}
use Rattle.work_gen.specs.Source.{source_text}
use Rattle.work_gen.proofs.Encoded.{chars-ascii}
use Rattle.work_gen.proofs.workload.make.Goals as goal

pub returns : goal.returns
returns c =
    let file : c.new.result ≡ source_text 200 = c.new.ensures ∙ c.in_ok-source_text.ensures in
    let files : c.new-2.result ≡ source_text 200 ∷ [] =
    c.new-2.ensures ∙ c.in_ok-push.ensures.items ∙ ap (λ items. items ++ c.new.result ∷ []) c.new-sources.ensures.items
    ∙ ap (λ text. text ∷ []) file in
    let json : c.new-3.result ≡ data_json 4000 c.args.number = c.new-3.ensures ∙ c.in_ok-data_json.ensures in
    let entry : c.new-4.result ≡ codes "gen.main" =
    c.new-4.ensures ∙ ap chars c.in_ok-from_str.ensures.ok ∙ chars-ascii (codes "gen.main") refl in
    λ i. record { sources = files i; json = json i; entry = entry i }

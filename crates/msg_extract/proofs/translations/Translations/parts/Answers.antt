use Rattle.std.proofs.Common.{◌∙◌, Some, ap, sym}
use Rattle.soy_rules.specs.FirstNames.{first_number}
use Rattle.msg_extract.specs.Translations.{translation_of}
use Rattle.msg_extract.proofs.FoundTranslations.{found_parts, parts_found}
use Rattle.msg_extract.proofs.translations.Translations.parts.Goals as goal

pub returns-in-Some : goal.returns-in-Some
returns-in-Some c =
    let all = c.self.inside.bundle.now.messages in
    c.parts_at.ensures ∙ ap (λ ts. found_parts ts (Some c.in-Some.number)) c.items.ensures
    ∙ ap (found_parts all) (sym c.in-Some.is ∙ c.number.ensures ∙ ap (first_number c.args.id.now) c.self.invariant)
    ∙ sym (parts_found c.args.id.now all) ∙ ap (λ b. translation_of b.messages c.args.id.now) c.self.view_is

pub returns-in-None : goal.returns-in-None
returns-in-None c =
    let all = c.self.inside.bundle.now.messages in
    ap (found_parts all) (sym c.in-None.is ∙ c.number.ensures ∙ ap (first_number c.args.id.now) c.self.invariant)
    ∙ sym (parts_found c.args.id.now all) ∙ ap (λ b. translation_of b.messages c.args.id.now) c.self.view_is

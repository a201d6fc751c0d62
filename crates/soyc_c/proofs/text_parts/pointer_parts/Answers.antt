use Rattle.std.proofs.Common.{◌-◌, [], ap, refl, ◌∙◌}
use Rattle.soyc_c.proofs.LineParts.{about_path, pointer_parts_are}
use Rattle.soyc_c.proofs.text_parts.pointer_parts.Goals as goal

pub returns : goal.returns
returns c = λ name path begins texts.
    let parts = c.line_parts-parts in
    pointer_parts_are name path c.args.code c.args.text_len c.args.begin c.saturating_sub-end.result
    parts.result.word.begin texts begins parts.ensures.word
    (c.saturating_sub-end.ensures ∙ ap (λ n. parts.result.word.begin - n) c.number_len.ensures) parts.result
    (parts.ensures.parts (about_path name path c.args.code) [] refl texts)

use Rattle.std.proofs.Common.{◌+◌, ◌++◌, [], ◌∷◌, if◌then◌else◌, ap, ◌∙◌}
use Rattle.std.specs.Str.{chars}
use Rattle.std.specs.String.{string_bytes}
use Rattle.std.proofs.lemmas.Str.{chars-nil}
use Rattle.soy_base.specs.Characters.{space}
use Rattle.soy_lexer.proofs.Represented.{other_represented, not_white, space_before}
use Rattle.soy_lexer.proofs.run.Run.add_other.Goals as goal

pub returns : goal.returns
returns c = λ run is_run.
    other_represented _ _ _ _ _ (record { offset = c.args.offset; character = c.args.c }) is_run c.requires.other
    (not_white c.args.c c.requires.other)
    (c.in_ok-push_char.ensures.ok ∙ ap (λ l. l ++ c.args.c ∷ [])
    (c.in_ok-push_text.ensures.ok
    ∙ (ap (λ l. l ++ chars c.as_str.result.now)
    (c.in_ok-push_space_if.ensures
    ∙ ap (λ b. chars (string_bytes c.args.self.now.text) ++ (if b then space ∷ [] else []))
    c.needs_space-needs_space.ensures)
    ∙ ap (λ l. (chars (string_bytes c.args.self.now.text)
    ++ space_before (chars (string_bytes c.args.self.now.text)) c.args.self.now.fresh c.args.self.now.angle
    c.is_angle-angle.result) ++ chars l) c.as_str.ensures.value)))
    (ap chars c.clear.ensures.bytes ∙ chars-nil)
    c.is_angle-angle.ensures
    c.start_with-self.ensures
    (ap (λ n. c.args.offset + n) c.len_utf8.ensures.value)

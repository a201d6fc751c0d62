use Rattle.std.proofs.Common.{◌+◌, ◌++◌, [], ◌∷◌, false, if◌then◌else◌, sym, ap, ◌∙◌}
use Rattle.std.specs.Str.{chars}
use Rattle.std.specs.String.{string_bytes}
use Rattle.std.proofs.lemmas.Str.{chars-nil}
use Rattle.soy_base.specs.Characters.{space}
use Rattle.soy_lexer.specs.IsRunOf.{IsRunOf}
use Rattle.soy_lexer.proofs.Represented.{space_before}
use Rattle.soy_lexer.proofs.ChunksAdded.{chunk_added, none_added}
use Rattle.soy_lexer.proofs.run.Run.add_chunk.Goals as goal

pub returns-then-is_empty : goal.returns-then-is_empty
returns-then-is_empty c = λ run is_run.
    none_added (λ l. IsRunOf c.args.self.now l) (chars c.args.chunk.now) c.args.offset
    (sym c.is_empty.ensures ∙ c.if-is_empty.true) run is_run

pub returns : goal.returns
returns c = λ run is_run.
    chunk_added (chars c.args.chunk.now) c.args.offset c.requires.chunk
    (sym c.is_empty.ensures ∙ c.if-is_empty.false) is_run _ _ _ _
    (c.in_ok-push_text-2.ensures.ok ∙ ap (λ l. l ++ chars c.args.chunk.now)
    (c.in_ok-push_text.ensures.ok
    ∙ (ap (λ l. l ++ chars c.as_str.result.now)
    (c.in_ok-push_space_if.ensures
    ∙ ap (λ b. chars (string_bytes c.args.self.now.text) ++ (if b then space ∷ [] else []))
    c.needs_space-needs_space.ensures)
    ∙ ap (λ l. (chars (string_bytes c.args.self.now.text)
    ++ space_before (chars (string_bytes c.args.self.now.text)) c.args.self.now.fresh c.args.self.now.angle
    false) ++ chars l) c.as_str.ensures.value)))
    (ap chars c.clear.ensures.bytes ∙ chars-nil)
    c.start_with-self.ensures
    (ap (λ n. c.args.offset + n) c.byte_len.ensures)

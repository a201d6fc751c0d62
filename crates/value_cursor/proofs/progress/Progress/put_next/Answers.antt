use Rattle.std.proofs.Common.{ℕ, ◌+◌, ◌∙◌, ◌++◌, ap, encode_utf8_all, subst, sym, arith}
use Rattle.std.specs.Str.{IsCharBoundary}
use Rattle.value_cursor.specs.BytesLeft.{bytes_from, form}
use Rattle.value_cursor.proofs.Forms.{char_boundary, char_bytes, no_character}
use Rattle.value_cursor.proofs.progress.Progress.put_next.Goals as goal

-- the form comes before those of the characters after it
pub returns-in-Some-clause-same : goal.returns-in-Some-clause-same
returns-in-Some-clause-same c =
    let offset = c.args.self.now.offset in
    ap (λ l. l ++ bytes_from c.args.plan.now c.args.source.now (offset + c.len_utf8.result)) c.put.ensures
    ∙ ap (λ n. encode_utf8_all (form c.args.plan.now offset c.in-Some.c) ++ bytes_from c.args.plan.now
    c.args.source.now (offset + n)) c.len_utf8.ensures.value
    ∙ sym (char_bytes c.args.plan.now c.args.source.now c.split_at.result.1.now offset c.utf8.source
    c.requires.boundary c.split_at.ensures.back c.in-Some.c c.in-Some.field-0-1.now c.in-Some.ensures)
    ∙ ap (λ l. l ++ bytes_from c.args.plan.now c.args.source.now offset) (sym c.requires.none_pending)

pub returns-in-Some-clause-boundary : goal.returns-in-Some-clause-boundary
returns-in-Some-clause-boundary c =
    let P : ℕ → Type 0 = λ n. IsCharBoundary c.args.source.now (c.args.self.now.offset + n) in
    subst P (sym c.len_utf8.ensures.value)
    (char_boundary c.args.plan.now c.args.source.now c.split_at.result.1.now c.args.self.now.offset c.utf8.source
    c.requires.boundary c.split_at.ensures.back c.in-Some.c c.in-Some.field-0-1.now c.in-Some.ensures)

-- where no character is left, none stands before the end
pub returns-in_default-clause-further : goal.returns-in_default-clause-further
returns-in_default-clause-further c inside =
    absurd (omega (
      arith,
      inside,
      no_character c.args.plan.now c.args.source.now c.split_at.result.1.now
          c.args.self.now.offset c.utf8.source c.requires.boundary c.split_at.ensures.back c.in_default.ensures,
    ))

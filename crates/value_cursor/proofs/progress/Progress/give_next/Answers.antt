use Rattle.std.proofs.Common.{◌≡◌, ℕ, ◌+◌, ◌∙◌, ◌++◌, ap, drop, length, refl, subst, sym}
use Rattle.std.specs.Char.{len_utf8}
use Rattle.std.specs.Str.{IsCharBoundary}
use Rattle.value_cursor.specs.BytesLeft.{bytes_from}
use Rattle.value_cursor.proofs.Forms.{char_boundary, char_bytes}
use Rattle.value_cursor.proofs.Givings.{all_given, gives_pending, gives_prefix, gives_same}
use Rattle.value_cursor.proofs.progress.Progress.give_next.Goals as goal

-- the form of one character comes before those of the characters after it
pub returns-in-Some-clause-gives : goal.returns-in-Some-clause-gives
returns-in-Some-clause-gives c =
    let plan = c.args.plan.now in
    let source = c.args.source.now in
    let offset = c.args.self.now.offset in
    let short = c.in-Some.ensures in
    let bytes = c.in-Some.form.now in
    let whole : bytes_from plan source offset ≡ bytes ++ bytes_from plan source (offset + 1) =
    char_bytes plan source c.split_at.result.1.now offset c.utf8.source c.requires.boundary c.split_at.ensures.back
    short.0 short.1 short.2
    ∙ ap (λ l. l ++ bytes_from plan source (offset + len_utf8 short.0)) (sym (short.4 offset))
    ∙ ap (λ n. bytes ++ bytes_from plan source (offset + n)) short.3 in
    gives_same _
    (gives_prefix bytes (c.args.self.now.pending ++ bytes_from plan source (offset + 1)) c.args.room.now _
    (length bytes) refl c.if-form-room.true
    (ap (λ l. l ++ drop (length bytes) c.args.room.now) (c.copy_from_slice.ensures.after ∙ c.as_bytes.ensures.value)))
    (ap (λ l. l ++ bytes_from plan source offset) c.requires.none_pending ∙ whole
    ∙ ap (λ l. bytes ++ (l ++ bytes_from plan source (offset + 1))) (sym c.requires.none_pending))

pub returns-in-Some-clause-boundary : goal.returns-in-Some-clause-boundary
returns-in-Some-clause-boundary c =
    let P : ℕ → Type 0 = λ n. IsCharBoundary c.args.source.now (c.args.self.now.offset + n) in
    subst P c.in-Some.ensures.3
    (char_boundary c.args.plan.now c.args.source.now c.split_at.result.1.now c.args.self.now.offset c.utf8.source
    c.requires.boundary c.split_at.ensures.back c.in-Some.ensures.0 c.in-Some.ensures.1 c.in-Some.ensures.2)

pub returns-in_default-clause-gives : goal.returns-in_default-clause-gives
returns-in_default-clause-gives c =
    gives_same _
    (gives_pending c.put_next.new.self.pending c.take.new.self
    (bytes_from c.args.plan.now c.args.source.now c.put_next.new.self.offset) c.args.room.now c.take.new.room
    c.take.result c.take.ensures.count c.take.ensures.given c.take.ensures.rest)
    (sym c.put_next.ensures.same)

pub returns-in_default-clause-full : goal.returns-in_default-clause-full
returns-in_default-clause-full c =
    all_given c.put_next.new.self.pending c.take.new.self c.args.room.now c.take.result c.take.ensures.count
    c.take.ensures.rest

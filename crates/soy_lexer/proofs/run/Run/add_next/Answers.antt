use Rattle.std.proofs.Common.{false, sym, ap, subst, arith}
use Rattle.std.specs.Str.{chars}
use Rattle.soy_base.specs.ByteLength.{byte_len}
use Rattle.soy_lexer.specs.Chunks.{AddsCharacters, AddsPiece, run_characters}
use Rattle.soy_lexer.proofs.PlainAdded.{character_piece, chunk_all, chunk_byte_len, chunk_piece}
use Rattle.soy_lexer.proofs.run.Run.add_next.Goals as goal

pub add_chunk-requires-clause-chunk : goal.add_chunk-requires-clause-chunk
add_chunk-requires-clause-chunk c = rw c.split_chunk.ensures.prefix (chunk_all (chars c.args.text.now))

pub add_chunk-requires-clause-offset : goal.add_chunk-requires-clause-offset
add_chunk-requires-clause-offset c =
    omega (arith, c.requires, ap byte_len c.split_chunk.ensures.prefix, chunk_byte_len (chars c.args.text.now))

pub returns-in_ok-add_chunk-in-Some-clause-adds : goal.returns-in_ok-add_chunk-in-Some-clause-adds
returns-in_ok-add_chunk-in-Some-clause-adds c =
    subst (λ l. AddsPiece c.args.self.now c.add_chunk.new.self c.args.offset (chars c.args.text.now) l false)
    (sym c.split_chunk.ensures.rest)
    (chunk_piece c.args.self.now c.add_chunk.new.self c.args.offset c.in-Some.c (chars c.args.text.now)
    (chars c.in-Some.rest.now) c.in-Some.ensures (sym c.if-is_chunk_character.ensures)
    (subst (λ l. AddsCharacters c.args.self.now c.add_chunk.new.self (run_characters c.args.offset l))
    c.split_chunk.ensures.prefix c.in_ok-add_chunk-in-Some.ensures))

pub returns-in_ok-add-in-Some-clause-adds : goal.returns-in_ok-add-in-Some-clause-adds
returns-in_ok-add-in-Some-clause-adds c =
    character_piece c.args.self.now c.add.new.self c.args.offset c.in-Some.c (chars c.args.text.now)
    (chars c.in-Some.rest.now) c.is_template_space-white.result c.in-Some.ensures (sym c.if-is_plain.ensures)
    c.is_template_space-white.ensures c.in_ok-add-in-Some.ensures

use Rattle.std.proofs.Common.{rules, ◌≡◌, Some, IfSome, subst, arith}
use Rattle.std.proofs.lemmas.Grind.{common_steps}
use Rattle.bidi_preview.specs.NextCharacter.{character_at}
use Rattle.bidi_preview.specs.SequenceSteps.{BeginsSequence}
use Rattle.bidi_preview.proofs.ReadSequences.{here_is}
use Rattle.bidi_preview.proofs.ResolveLines.{writes}
use Rattle.bidi_preview.proofs.sequence.resolve_from.Goals as goal

pub returns-in_ok-resolve_classes : goal.returns-in_ok-resolve_classes
returns-in_ok-resolve_classes c =
    let is : c.index-line-first.result ≡ Some c.in-Some.k = cc in
    let here : character_at c.args.line.now c.args.first ≡ Some c.in-Some.k =
    here_is c.args.line.now c.args.first c.index-line-first.result _ c.in-Some.k c.requires.within
    c.index-line-first.is is in
    writes c.args.base c.args.line.now c.requires.explicit c.args.first c.in-Some.k c.args.before
    c.read_sequence.new.sequence.beside c.read_sequence.new.sequence.indexes.items
    c.read_sequence.new.sequence.classes.items c.resolve_classes.new.classes.items
    c.read_sequence.new.sequence.brackets.items c.args.levels.now
    c.write_levels.new.levels here
    (subst (λ o. IfSome o (λ k. BeginsSequence c.args.base c.args.line.now c.args.first k c.args.before)) here
    c.requires.first)
    c.in_ok-read_sequence.ensures.chain c.in_ok-read_sequence.ensures.classes c.in_ok-read_sequence.ensures.brackets
    (first_of (cc, search rules, grind (arith, common_steps)))
    (first_of (omega arith, search rules, grind (arith, common_steps)))
    (first_of (cc, search rules, grind (arith, common_steps)))

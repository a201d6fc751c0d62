use Rattle.std.proofs.Common.{◌≡◌, ◌+◌, Some, sym, subst, arith}
use Rattle.bidi_preview.specs.NextCharacter.{character_at}
use Rattle.bidi_preview.specs.SequenceSteps.{ResolvedUpTo}
use Rattle.bidi_preview.proofs.ReadSequences.{here_is}
use Rattle.bidi_preview.proofs.ResolveLines.{up_new}
use Rattle.bidi_preview.proofs.sequence.resolve_at.Goals as goal

pub returns-in-Some : goal.returns-in-Some
returns-in-Some c =
    let is : c.index-line-index.result ≡ Some c.in-Some.k = cc in
    let here : character_at c.args.line.now c.args.index ≡ Some c.in-Some.k =
    here_is c.args.line.now c.args.index c.index-line-index.result _ c.in-Some.k c.requires.within
    c.index-line-index.is is in
    subst (λ n. ResolvedUpTo c.args.base c.args.line.now (c.args.index + 1) n c.resolve_from.new.levels)
    (sym c.level-level.ensures.value)
    (up_new c.args.base c.args.line.now c.args.index c.args.before c.args.levels.now c.requires.so_far c.in-Some.k
    c.resolve_from.new.levels here c.in_ok-resolve_from.ensures (omega arith))

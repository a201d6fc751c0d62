use Rattle.std.proofs.Common.{◌≡◌, ◌++◌, Some, sym, subst}
use Rattle.bidi_preview.specs.NextCharacter.{character_at}
use Rattle.bidi_preview.specs.SequenceSteps.{Chain}
use Rattle.bidi_preview.proofs.ReadSequences.{here_is, read_end, read_more}
use Rattle.bidi_preview.proofs.sequence.Sequence.read.Goals as goal

pub returns-in-GoesOn-clause-chain : goal.returns-in-GoesOn-clause-chain
returns-in-GoesOn-clause-chain c =
    let is : c.index-line-index.result ≡ Some c.in-Some.k = cc in
    let here : character_at c.args.line.now c.args.index ≡ Some c.in-Some.k =
    here_is c.args.line.now c.args.index c.index-line-index.result _ c.in-Some.k c.requires.within
    c.index-line-index.is is in
    λ first so_far rest level chain.
    subst (λ l. Chain c.args.base c.args.line.now first (l ++ rest) level) (sym c.in_ok-push.ensures.items)
    (read_more c.args.base c.args.line.now first c.args.index c.in-GoesOn.next c.in-Some.k
    c.args.self.now.indexes.items 0 0 here (sym c.in-GoesOn.ensures.value) so_far rest level chain)

pub returns-in-Ends-clause-chain : goal.returns-in-Ends-clause-chain
returns-in-Ends-clause-chain c =
    let is : c.index-line-index.result ≡ Some c.in-Some.k = cc in
    let here : character_at c.args.line.now c.args.index ≡ Some c.in-Some.k =
    here_is c.args.line.now c.args.index c.index-line-index.result _ c.in-Some.k c.requires.within
    c.index-line-index.is is in
    λ first so_far.
    subst (λ l. Chain c.args.base c.args.line.now first l c.in-Ends.level) (sym c.in_ok-push.ensures.items)
    (read_end c.args.base c.args.line.now first c.args.index c.in-Some.k c.args.self.now.indexes.items 0 c.in-Ends.level
    here (sym c.in-Ends.ensures.value) so_far)

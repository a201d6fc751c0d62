use Rattle.std.proofs.Common.{◌≡◌, drop, map}
use Rattle.soy_base.specs.Among.{is_among}
use Rattle.bidi_preview.proofs.names.is_among.Given as goal

abbrev pub invariant-loop-text : goal.invariant-loop-text
invariant-loop-text l = is_among (map (λ t. t.now) (drop l.text-index l.texts)) l.characters
    ≡ is_among (map (λ t. t.now) l.texts) l.characters

use Rattle.std.proofs.Common.{◌≡◌, drop, map}
use Rattle.bidi_order.specs.DecodedReferences.{named_character}
use Rattle.bidi_preview.proofs.reference.named_character.Given as goal

abbrev pub invariant-loop-text : goal.invariant-loop-text
invariant-loop-text l = named_character (map (λ r. (r.0.now, r.1)) (drop l.text-index l.rows)) l.name
    ≡ named_character (map (λ r. (r.0.now, r.1)) l.rows) l.name

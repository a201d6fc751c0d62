use Rattle.std.proofs.Common.{◌≡◌, drop, map}
use Rattle.soy_base.specs.Among.{is_among}
use Rattle.html_state.proofs.text.is_one.Given as goal

abbrev pub invariant-loop-text : goal.invariant-loop-text
invariant-loop-text l = is_among (map (λ t. t.now) (drop l.text-index l.texts)) l.one
    ≡ is_among (map (λ t. t.now) l.texts) l.one

use Rattle.std.proofs.Common.{◌≡◌, drop, map}
use Rattle.html_state.specs.Texts.{is_prefix_among}
use Rattle.html_state.proofs.text.begins_one.Given as goal

abbrev pub invariant-loop-text : goal.invariant-loop-text
invariant-loop-text l = is_prefix_among (map (λ t. t.now) (drop l.text-index l.texts)) l.prefix
    ≡ is_prefix_among (map (λ t. t.now) l.texts) l.prefix

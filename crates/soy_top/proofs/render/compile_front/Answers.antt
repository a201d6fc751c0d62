use Rattle.std.specs.Prelude.{option_map}
use Rattle.soy_top.proofs.render.compile_front.Goals as goal

pub returns : goal.returns
returns c =
    c.unless_refused.ensures (option_map (λ b. b.now) c.args.content) c.compile-compiled.ensures.compiles

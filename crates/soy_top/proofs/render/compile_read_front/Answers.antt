use Rattle.std.specs.Prelude.{option_map}
use Rattle.soy_front.specs.ViewSources.{view_contents}
use Rattle.soy_top.proofs.render.compile_read_front.Goals as goal

pub compile_read-compiled-requires : goal.compile_read-compiled-requires
compile_read-compiled-requires c = (view_contents c.args.sources.now, c.requires)

pub returns : goal.returns
returns c =
    c.unless_refused.ensures (option_map (λ b. b.now) c.args.content)
    (c.compile_read-compiled.ensures.compiles (view_contents c.args.sources.now) c.requires)

use Rattle.std.proofs.Common.{refl}
use Rattle.soy_types.proofs.Shapes.{set_filled}
use Rattle.soy_types.proofs.shape.fill.Goals as goal

pub returns : goal.returns
returns c =
    set_filled c.args.entries.now.items c.args.index _ c.index_mut.result.now c.args.value c.requires
    c.index_mut.ensures.value refl refl

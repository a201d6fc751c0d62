use Rattle.std.proofs.Common.{◌∙◌, ap, sym}
use Rattle.std.specs.Str.{chars}
use Rattle.soy_base.proofs.CutAt.{slice_split-cut, parts_of_cut}
use Rattle.soy_base.proofs.cuts.first_part.Goals as goal

pub returns-in-Some-clause-parts : goal.returns-in-Some-clause-parts
returns-in-Some-clause-parts c =
    slice_split-cut c.args.delimiter (chars c.args.text.now)
    ∙ ap (parts_of_cut c.args.delimiter (chars c.args.text.now)) (sym c.in-Some.ensures.parts)

pub returns-in-None-clause-parts : goal.returns-in-None-clause-parts
returns-in-None-clause-parts c =
    slice_split-cut c.args.delimiter (chars c.args.text.now)
    ∙ ap (parts_of_cut c.args.delimiter (chars c.args.text.now)) (sym c.in-None.ensures.parts)

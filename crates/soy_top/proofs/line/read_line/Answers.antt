use Rattle.std.proofs.Common.{◌∷◌, [], ◌∙◌, sym, append_assoc, codes}
use Rattle.soy_top.proofs.line.read_line.Goals as goal

pub returns : goal.returns
returns c = c.in_ok-format.ensures.ok ∙ sym (append_assoc c.args.file.now (codes ": read fault") (10 ∷ []))

use Rattle.std.proofs.Common.{rules, arith}
use Rattle.std.proofs.lemmas.Grind.{common_steps}
use Rattle.bidi_preview.proofs.Waiting.{matched_popped}
use Rattle.bidi_preview.proofs.links.match_at.Goals as goal

pub returns-in-Initiates : goal.returns-in-Initiates
returns-in-Initiates c = matched_popped c.args.line.now c.args.index c.args.waiting.now c.pop.new.self c.pop.result
    c.args.ends.now c.in-Some.k c.requires.within (first_of (search rules, grind (arith, common_steps)))
    (first_of (search rules, cc, grind (arith, common_steps))) c.pop.ensures c.requires.so_far

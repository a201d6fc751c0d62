use Rattle.std.proofs.Common.{◌++◌, ◌∙◌, sym, ap, length, drop}
use Rattle.std.proofs.lemmas.List.{take-append-drop}
use Rattle.soyc.proofs.library.FileLibraryLibrary.fetch.Goals as goal

pub returns-in-Ok-clause-answer : goal.returns-in-Ok-clause-answer
returns-in-Ok-clause-answer g c =
    let old = c.args.into.now.items in
    let new = c.append.new.into.items in
    let rest = drop (length old) new in
    (rest, sym (ap (λ prefix. prefix ++ rest) (sym c.in-Ok.ensures.unchanged) ∙ take-append-drop (length old) new), tt)

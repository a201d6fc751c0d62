use Rattle.stable_bidi.proofs.TypedPages.{typed_pages}
use Rattle.stable_bidi.proofs.laws.law_run_pages.Goals as goal

pub returns : goal.returns
returns c = λ run trees d env other are member typed fits accepted one two same.
    typed_pages run trees d are member typed fits accepted env other one two same

use Rattle.std.proofs.Common.{refl}
use Rattle.soyc_c.proofs.calls.pull_held.Goals as goal

pub returns-in-Page : goal.returns-in-Page
returns-in-Page c =
    rw c.in-Page.is (record { page = c.pulled.new.page; is_page = refl; pulls = c.pulled.ensures })

-- A pull of a page by the pull of its rendering, and an opening by name by that of a number.
use Rattle.std.proofs.Common.{ℕ, List, Bool, Ok, Err}
use Rattle.std.specs.Prelude.{Result}
use Rattle.soy_base.specs.declared.fault.TooDeep.{TooDeep}
use Rattle.soy_base.specs.declared.memory.Refusal.{Refusal}
use Rattle.soy_base.specs.declared.memory.Refusal.TheVariants as refusal
use Rattle.soy_page.specs.Opens.{IsNamed, OpensAt, OpensPage}
use Rattle.soy_page.specs.PageRest.{page_rest}
use Rattle.soy_page.specs.Pulled.{Gives}
use Rattle.soy_page.specs.declared.fault.PageFault.{PageFault}
use Rattle.soy_page.specs.declared.fault.PageFault.TheVariants as fault
use Rattle.soy_page.specs.PageState.{PageState}
use Rattle.soy_page.specs.declared.templates.Templates.{Templates}
use Rattle.soy_page.proofs.Pulls.{GivesRest}

module _ (old new : PageState) (d e : Bool) (room after : List ℕ) (b a : ℕ) where
  pub gives_page : (r : Result ℕ (Refusal TooDeep))
      → GivesRest (page_rest old) (page_rest new) d e room after b a r → Gives old room after r new
  gives_page (Ok n) h = record { bytes = h.0; within = h.1; ended = h.2 }
  gives_page (Err (refusal.Because call)) h = (record { bytes = h.0.0; unchanged = h.0.1 }, h.1)
  gives_page (Err refusal.OutOfMemory) h = record { bytes = h.0; unchanged = h.1 }

pub opens_page : (t : Templates) (name json : List ℕ) (number : ℕ) → IsNamed t name number
    → (r : Result PageState (Refusal PageFault)) → OpensAt t number json r → OpensPage t name json r
opens_page t name json number named (Ok page) h = (number, named, h)
opens_page t name json number named (Err (refusal.Because fault.Entry)) h = absurd h
opens_page t name json number named (Err (refusal.Because (fault.Data f))) h = (number, named, h)
opens_page t name json number named (Err refusal.OutOfMemory) h = tt

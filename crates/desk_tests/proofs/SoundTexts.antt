-- A program of one template without parameters, whose body is two texts, or a text and a call of itself, can't go wrong.
use Rattle.std.proofs.Common.{◌≡◌, ℕ, true, List, [], ◌∷◌, refl, ◌∙◌, ap}
use Rattle.std.specs.Bool.{IsTrue}
use Rattle.soy_base.specs.declared.kind.Kind.TheVariants as kind
use Rattle.soy_base.specs.declared.place.Place.TheVariants as place
use Rattle.template_ir.specs.Sound.{is_sound}
use Rattle.template_ir.specs.ViewOps.{view_program}
use Rattle.template_ir.specs.declared.op.Block.{Block}
use Rattle.template_ir.specs.declared.op.Callee.{Callee}
use Rattle.template_ir.specs.declared.op.Op.{Op}
use Rattle.template_ir.specs.declared.op.Op.TheVariants as op
use Rattle.template_ir.specs.declared.program.ProgramParts.{ProgramParts}
use Rattle.template_ir.specs.declared.program.Routine.{Routine}

abbrev both : Block
both = record { first = 0; end = 2 }

plain_sound : (p : ProgramParts) (r : Routine) (a b : List ℕ)
    → is_sound (view_program (record p {
      templates = record r { params = []; body = both } ∷ [];
      ops = op.Static a ∷ op.Static b ∷ [];
    })) ≡ true
plain_sound p r a b = refl

pub texts_sound : (p : ProgramParts) (r : Routine) (a b : List ℕ) → p.templates ≡ r ∷ []
    → p.ops ≡ op.Static a ∷ op.Static b ∷ [] → r.params ≡ [] → r.body ≡ both → IsTrue (is_sound (view_program p))
texts_sound p r a b templates ops params body =
    (λ i. is_sound (view_program (record p { templates = templates i; ops = ops i })))
    ∙ ((λ i. is_sound (view_program (record p {
      templates = record r { params = params i; body = body i } ∷ [];
      ops = op.Static a ∷ op.Static b ∷ [];
    })))
    ∙ plain_sound p r a b)

plain_endless : (p : ProgramParts) (r : Routine) (c : Callee) (a : List ℕ)
    → is_sound (view_program (record p {
      templates = record r { kind = kind.Text; params = []; body = both } ∷ [];
      ops = op.Static a ∷ op.Call (record c { template = 0; given = []; place = place.Plain }) ∷ [];
    })) ≡ true
plain_endless p r c a = refl

pub endless_sound : (p : ProgramParts) (r : Routine) (c : Callee) (a : List ℕ) → p.templates ≡ r ∷ []
    → p.ops ≡ op.Static a ∷ op.Call c ∷ [] → r.kind ≡ kind.Text → r.params ≡ [] → r.body ≡ both → c.template ≡ 0
    → c.given ≡ [] → c.place ≡ place.Plain → IsTrue (is_sound (view_program p))
endless_sound p r c a templates ops is_text params body template given plain =
    (λ i. is_sound (view_program (record p { templates = templates i; ops = ops i })))
    ∙ ((λ i. is_sound (view_program (record p {
      templates = record r { kind = is_text i; params = params i; body = body i } ∷ [];
      ops = op.Static a ∷ op.Call (record c { template = template i; given = given i; place = plain i }) ∷ [];
    })))
    ∙ plain_endless p r c a)

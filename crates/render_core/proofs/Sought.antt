-- Whether a variable is that of a name.
use Rattle.std.proofs.Common.{◌≡◌, ℕ, ◌&&◌, Bool, true, false, nat_eq, refl, sym, ap, ◌∙◌}
use Rattle.std.specs.Prelude.{bytes_eq}
use Rattle.std.proofs.lemmas.Slice.Eq.{bytes_eq-Decides}
use Rattle.soy_tree.specs.Types.{Name}
use Rattle.template_ir.specs.declared.program.ProgramParts.{ProgramParts}
use Rattle.render_core.specs.Keys.{fingerprint_of, fits_key}
use Rattle.render_core.specs.Linked.{is_sought}
use Rattle.render_core.specs.Variables.{name_or_none, name_there}
use Rattle.render_core.specs.declared.held.Bound.{Bound}
use Rattle.render_core.specs.declared.links.Links.{Links}
use Rattle.render_core.specs.declared.links.Links.TheVariants as links

-- a fingerprint that is compared where few variables are visible
pub few_fits : (x : Links) (n own sought : ℕ) (name : Name) → x ≡ links.Few n own → sought ≡ fingerprint_of name
    → nat_eq own sought ≡ fits_key x name
few_fits x n own sought name is same = ap (nat_eq own) same ∙ sym (ap (λ (y : Links). fits_key y name) is)

-- the links of a variable of this name fit it where they fit its own
fits_named : (x : Links) (own name : Name) (t : Bool) → bytes_eq own name ≡ t
    → (fits_key x name && t) ≡ (fits_key x own && t)
fits_named x own name true e = ap (λ (n : Name). fits_key x n && true) (sym ((bytes_eq-Decides own name).0 e))
fits_named x own name false e = neither (fits_key x name) (fits_key x own)
  where
    neither : (a b : Bool) → (a && false) ≡ (b && false)
    neither true true = refl
    neither true false = refl
    neither false true = refl
    neither false false = refl

module _ (p : ProgramParts) (b : Bound) (name : Name) where
  compared : (fits t : Bool) → fits ≡ fits_key b.links name → fits ≡ t
      → (t && bytes_eq (name_or_none (name_there p b.name)) name) ≡ is_sought p b name
  compared fits t is so =
      let own : Name = name_or_none (name_there p b.name) in
      ap (λ x. x && bytes_eq own name) (sym so ∙ is) ∙ fits_named b.links own name (bytes_eq own name) refl

  pub sought_fits : (fits : Bool) → fits ≡ fits_key b.links name → fits ≡ true
      → bytes_eq (name_or_none (name_there p b.name)) name ≡ is_sought p b name
  sought_fits fits is so = compared fits true is so

  pub sought_other : (fits : Bool) → fits ≡ fits_key b.links name → fits ≡ false → fits ≡ is_sought p b name
  sought_other fits is so = so ∙ compared fits false is so

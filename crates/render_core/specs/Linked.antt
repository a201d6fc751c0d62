-- Variables whose links are right: a search that goes on by them finds what one does that goes on from each to the next
-- below it, under every program and all data.
use Rattle.std.specs.Prelude.{◌≡◌, ℕ, ◌&&◌, Bool, true, List, [], ◌∷◌, ◌++◌, Some, bytes_eq, slice_get, slice_index_or}
use Rattle.std.specs.Prelude.{take}
use Rattle.soy_tree.specs.Types.{Name}
use Rattle.soy_rules.specs.Val.{binding}
use Rattle.soy_tree.specs.Values.{Value}
use Rattle.template_ir.specs.declared.program.ProgramParts.{ProgramParts}
use Rattle.render_core.specs.Keys.{agreed, fits_key, key_of, level_of, lowered, next_of}
use Rattle.render_core.specs.Variables.{cells_of, env_at, name_or_none, name_there}
use Rattle.render_core.specs.declared.held.Bound.{Bound}
use Rattle.render_core.specs.declared.held.Held.{Held}
use Rattle.render_core.specs.declared.held.Naming.{Naming}
use Rattle.render_core.specs.declared.links.Levels.{Levels}
use Rattle.render_core.specs.declared.links.Links.{Links}
use Rattle.render_core.specs.declared.links.Links.TheVariants as links

-- links of a variable over those of a number
abbrev pub Leads : List Bound → Links → ℕ → Type 0
Leads bound links below =
    (p : ProgramParts) (input : Value) (name : Name)
    → binding name (env_at (cells_of p input bound) below)
    ≡ binding name (env_at (cells_of p input bound) (next_of links below (key_of name)))

abbrev pub IsLinked : List Bound → Type 0
IsLinked bound = (n : ℕ) (b : Bound) → slice_get bound n ≡ Some b → Leads (take n bound) b.links b.below

-- the first levels of links by a key, and from where a search goes on past them
abbrev pub LeadsTo : List Bound → ℕ → List ℕ → ℕ → ℕ → Type 0
LeadsTo bound key to last below =
    (p : ProgramParts) (input : Value) (name : Name)
    → binding name (env_at (cells_of p input bound) below)
    ≡ binding name (env_at (cells_of p input bound) (slice_index_or to (agreed 32 key (key_of name)) last))

-- past the variable of a number, with these links, the search goes on for each name whose key isn't alike
abbrev pub Passes : List Bound → ℕ → Levels → Type 0
Passes bound number l =
    (p : ProgramParts) (input : Value) (name : Name) (key : ℕ) → (agreed 32 key (key_of name) ≡ agreed 32 key l.key → ⊥)
    → binding name (env_at (cells_of p input bound) number)
    ≡ binding name
    (env_at (cells_of p input bound) (lowered number (level_of l (agreed 32 l.key (key_of name)))))

-- whether a variable is that of a name
abbrev pub is_sought : ProgramParts → Bound → Name → Bool
is_sought p b name =
    fits_key b.links (name_or_none (name_there p b.name)) && bytes_eq (name_or_none (name_there p b.name)) name

-- a variable, of which it isn't said which links it has
abbrev pub bound_over : Naming → Held → ℕ → Bound
bound_over name to below = record { name = name; to = to; below = below; links = links.Few 0 0 }

-- one more variable, with some links
pub record Adds (p : ProgramParts) (b : Bound) (old new : List Bound) : Type 0 where
  pub links : Links
  pub is : new ≡ old ++ (record b { links = links }) ∷ []
  pub key : fits_key links (name_or_none (name_there p b.name)) ≡ true

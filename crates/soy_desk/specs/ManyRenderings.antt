-- What is claimed of the renderings on a desk.
--
-- The pulls of a name are pulls of its rendering alone, from its opening on; where it is still open, it has still to
-- give what these pulls leave, with the program and the input of its opening. So what is given for it is the beginning
-- of what the run of its program gives.
-- Example: of two openings, `pull 0`, `pull 1`, `pull 0` gives for 0 what two pulls of it give alone.
use Rattle.std.specs.Prelude.{◌≡◌, ℕ, Bool, List, [], ◌∷◌, ◌++◌, Some}
use Rattle.render_core.specs.Rest.{Rest}
use Rattle.soy_desk.specs.Alone.{Alone, Left, left_of}
use Rattle.soy_desk.specs.DeskRun.{PullCall, RenderingAnswer}
use Rattle.soy_desk.specs.DeskState.{DeskState, Entry, entry_named, first_entry, pulled_entry}
use Rattle.soy_desk.specs.Openings.{Opening}

abbrev pub entry_of : ℕ → Opening → Entry
entry_of name o = first_entry name o.program o.input o.template

-- pulls of the rendering of an entry alone, which leave what stands under its name
pub record IsAlone (e : Entry) (calls : List (PullCall RenderingAnswer)) (name : ℕ) (after : DeskState) : Type 0 where
  pub rest : Rest
  pub done : Bool
  pub alone : Alone e.rest e.done calls rest done
  pub open_still : (f : Entry) → entry_named name after.entries ≡ Some f → f ≡ pulled_entry e rest done

-- these bytes are the first of all
abbrev pub IsPrefix : List ℕ → List ℕ → Type 0
IsPrefix bytes all = (others : List ℕ) × (all ≡ bytes ++ others)

-- the names of those that are open, each with what is left to give and whether it is done
abbrev pub lefts : List Entry → List (ℕ × Left × Bool)
lefts [] = []
lefts (e ∷ es) = (e.name, left_of e.rest, e.done) ∷ lefts es

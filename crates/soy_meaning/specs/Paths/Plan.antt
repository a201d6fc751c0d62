-- The plan of a frame: how its static texts and its holes follow one another, as a regular expression.
--
-- A frame is a template or a block of one. A static text has the site at which its faults are reported; so has a hole,
-- which also has the classes that the printed value may have. One plan stands after another, or two stand side by side,
-- of which a path takes either. A meet is the end of a command's arms, and a loop is followed any number of times. A
-- frame within a frame has its kind and the site of its closing command; it stands beside the paths of the outer one.
-- Example: `{if $a}x{/if}` is `Meet at (Either (Either Nowhere (StaticText x ..)) Nothing)`.
use Rattle.std.specs.Prelude.{ℕ, List, [], ◌∷◌}
use Rattle.soy_base.specs.declared.kind.Kind.{Kind}
use Rattle.soy_base.specs.declared.place.ValueClass.{ValueClass}
use Rattle.soy_pieces.specs.Site.{Site}

pub data Plan : Type 0 where
  -- one path, the empty one
  Nothing : Plan
  -- no path
  Nowhere : Plan
  StaticText : Site → List ℕ → Plan
  Hole : Site → List ValueClass → Plan
  Then : Plan → Plan → Plan
  Either : Plan → Plan → Plan
  Meet : Site → Plan → Plan
  Loop : Site → Plan → Plan
  Frame : Kind → Site → Plan → Plan

-- these, one after the other
abbrev pub in_turn : List Plan → Plan
in_turn [] = Nothing
in_turn (p ∷ ps) = Then p (in_turn ps)

-- the first or one of these
abbrev pub any_of : Plan → List Plan → Plan
any_of p [] = p
any_of p (q ∷ qs) = any_of (Either p q) qs

-- a command whose arms these are, in their order
abbrev pub arms_meet : Site → List Plan → Plan
arms_meet at arms = Meet at (any_of Nowhere arms)

-- The translation that a bundle has of an id, of several the first.
-- Example: a bundle without translations has none of any id.
use Rattle.std.specs.Prelude.{ℕ, List, [], ◌∷◌, Option, Some, None, if◌then◌else◌, bytes_eq, map}
use Rattle.soy_tree.specs.declared.bundle.Translation.{Translation}
use Rattle.soy_tree.specs.MessageParts.{MsgParts}
use Rattle.soy_tree.specs.ViewMessageParts.{view_parts}

abbrev pub translation_of : List Translation → List ℕ → Option MsgParts
translation_of [] id = None
translation_of (t ∷ ts) id = if bytes_eq t.id id then Some (view_parts t.parts) else translation_of ts id

abbrev pub ids_of : List Translation → List (List ℕ)
ids_of = map (λ t. t.id)

abbrev pub parts_of : Translation → MsgParts
parts_of t = view_parts t.parts

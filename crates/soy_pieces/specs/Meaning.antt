-- What a template means: the bytes of its pieces, joined.
--
-- A block of kind text is bound as the string of its joined pieces, and one of another kind as the block itself.
-- Example: `{if $x}a{/if}{$y}` with `$x` true and `$y` `<` means the bytes of `a<span dir="ltr">&lt;</span>`.
use Rattle.std.specs.Prelude.{ℕ, List, [], ◌∷◌, ◌++◌, encode_utf8_all}
use Rattle.soy_base.specs.Piece.{Piece, Static, Value}
use Rattle.soy_rules.specs.Templates.{Declared}
use Rattle.soy_pieces.specs.Giving.{RunEnv, BoundBlock}
use Rattle.soy_pieces.specs.Outcome.{pieces_of_outcome, Outcome}
use Rattle.soy_pieces.specs.Pieces.{RunContext, template_run}
use Rattle.soy_base.specs.declared.kind.Kind.{Kind}
use Rattle.soy_base.specs.declared.kind.Kind.TheVariants as kind
use Rattle.soy_rules.specs.Val.{Binding, BlockOf, Known}
use Rattle.soy_tree.specs.Values.{StringValue}

abbrev pub joined_pieces : List Piece → List ℕ
joined_pieces [] = []
joined_pieces (Static text ∷ pieces) = text ++ joined_pieces pieces
joined_pieces (Value text ∷ pieces) = text ++ joined_pieces pieces

abbrev pub meaning : RunContext → Declared → RunEnv → List ℕ
meaning c d env = encode_utf8_all (joined_pieces (pieces_of_outcome (template_run c d env)))

abbrev pub bound_as : Kind → Outcome → Binding BoundBlock
bound_as kind.Text o = Known (StringValue (joined_pieces (pieces_of_outcome o)))
bound_as kind o = BlockOf (record { kind = kind; outcome = o })

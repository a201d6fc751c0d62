use Rattle.std.proofs.Common.{sym, subst, ◌∙◌}
use Rattle.bidi_preview.proofs.Numbers.{numeric_some}
use Rattle.std.specs.Char.{IsScalar}
use Rattle.std.specs.Option.{SomeIff}
use Rattle.bidi_preview.proofs.number.numeric_character.Goals as goal

pub returns-then-is_numeric : goal.returns-then-is_numeric
returns-then-is_numeric c = numeric_some c.args.characters.now c.from_u32.result
    (sym c.is_numeric.ensures ∙ c.if-is_numeric.true)
    (subst (λ n. SomeIff c.from_u32.result (IsScalar n) n) c.reference_number.ensures c.from_u32.ensures.value)

use Rattle.std.proofs.Common.{◌∙◌, ◌++◌, ap, length, sym, arith}
use Rattle.value_cursor.specs.ByteForms.{byte_form}
use Rattle.value_cursor.proofs.ByteForms.{other_form, other_low, own_byte, short_form}
use Rattle.value_cursor.proofs.Givings.{gives_same}
use Rattle.value_cursor.proofs.whole.put_form.Goals as goal

pub put_text-requires : goal.put_text-requires
put_text-requires c =
    let low = other_low c.args.shares.now c.args.byte (sym c.is_own.ensures ∙ c.if-is_own.false) in
    omega (arith, ap length c.text_of.ensures, short_form c.args._how c.args.byte c.requires.short low, c.requires.room)

pub returns-then-is_own-clause-gives : goal.returns-then-is_own-clause-gives
returns-then-is_own-clause-gives c after =
    gives_same (byte_form c.args._how c.args.byte ++ after) (c.put_byte.ensures.gives after)
    (ap (λ l. l ++ after) (own_byte c.args._how c.args.shares.now c.requires.shares c.args.byte
    (sym c.is_own.ensures ∙ c.if-is_own.true)))

pub returns-else-is_own-clause-gives : goal.returns-else-is_own-clause-gives
returns-else-is_own-clause-gives c after =
    let low = other_low c.args.shares.now c.args.byte (sym c.is_own.ensures ∙ c.if-is_own.false) in
    gives_same (byte_form c.args._how c.args.byte ++ after) (c.put_text.ensures.gives after)
    (ap (λ l. l ++ after) (other_form c.args._how c.args.byte low ∙ sym c.text_of.ensures))

pub returns-else-is_own-clause-bound : goal.returns-else-is_own-clause-bound
returns-else-is_own-clause-bound c =
    let low = other_low c.args.shares.now c.args.byte (sym c.is_own.ensures ∙ c.if-is_own.false) in
    omega (
      arith,
      c.put_text.ensures.size,
      ap length c.text_of.ensures,
      short_form c.args._how c.args.byte c.requires.short low,
    )

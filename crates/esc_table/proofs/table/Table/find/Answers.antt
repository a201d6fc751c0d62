-- A character whose first byte isn't flagged has no row; the closure gives a row's character.
use Rattle.std.proofs.Common.{[], ◌∙◌, ap, rules, sym}
use Rattle.std.proofs.lemmas.Bool.{and_parts}
use Rattle.std.proofs.lemmas.List.Sorted.{answers_always}
use Rattle.esc_table.specs.LeadBytes.{is_flagged}
use Rattle.esc_table.proofs.PlainTexts.{unflagged_none}
use Rattle.esc_table.proofs.RowSearch.{searched_none, searched_text}
use Rattle.esc_table.proofs.table.Table.find.Goals as goal

pub returns-then-not-self-lead_byte-clause-row : goal.returns-then-not-self-lead_byte-clause-row
returns-then-not-self-lead_byte-clause-row g c =
    rw (← c.self.view_is)
    (sym (unflagged_none _ c.self.inside.lead_bytes.now c.args.c (and_parts _ _ c.self.invariant.2).0
    (ap (is_flagged c.self.inside.lead_bytes.now) (sym c.lead_byte.ensures) ∙ c.if-not-self-lead_byte.true)))

pub returns-in-Ok-clause-row : goal.returns-in-Ok-clause-row
returns-in-Ok-clause-row g c =
    let facts = c.in-Ok.ensures in
    let by_key = facts.position (λ row. row.from) (answers_always _ _ _ (λ f a r h called. search rules)) in
    rw (← c.self.view_is) (searched_text _ c.self.inside.rows.now c.self.invariant.1 c.args.c c.in-Ok.at facts.bound
    by_key)

pub returns-in-Err-clause-row : goal.returns-in-Err-clause-row
returns-in-Err-clause-row g c =
    let facts = c.in-Err.ensures in
    let by_key = facts.position (λ row. row.from) (answers_always _ _ _ (λ f a r h called. search rules)) in
    rw (← c.self.view_is) (searched_none (record { from = 0; to = record { ref_ptr = (0, 0); now = [] } })
    c.self.inside.rows.now c.self.invariant.1 c.args.c c.in-Err.field-0 facts.bound by_key)

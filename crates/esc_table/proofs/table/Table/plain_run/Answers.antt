use Rattle.std.proofs.lemmas.Str.{IsUtf8-take}
use Rattle.esc_table.proofs.PlainTexts.{flag_cuts, plain_text}
use Rattle.esc_table.proofs.table.Table.plain_run.Goals as goal

pub returns-in-Some-clause-plain : goal.returns-in-Some-clause-plain
returns-in-Some-clause-plain g c =
    let facts = rw c.as_bytes.ensures.value at c.in-Some.ensures in
    let cuts = flag_cuts _ c.self.inside.lead_bytes.now c.self.invariant.2 c.args.text.now c.in-Some.at facts.0
    facts.2 in
    rw (← c.self.view_is, c.split_at.ensures.front) (plain_text _ c.self.inside.lead_bytes.now c.self.invariant.2 _
    (IsUtf8-take c.args.text.now c.in-Some.at c.utf8.text cuts) facts.1)

pub returns-in-None-clause-plain : goal.returns-in-None-clause-plain
returns-in-None-clause-plain g c =
    rw (← c.self.view_is) (plain_text _ c.self.inside.lead_bytes.now c.self.invariant.2 _ c.utf8.text
    (rw c.as_bytes.ensures.value at c.in-None.ensures))

pub split_at-requires : goal.split_at-requires
split_at-requires g c =
    let facts = rw c.as_bytes.ensures.value at c.in-Some.ensures in
    flag_cuts _ c.self.inside.lead_bytes.now c.self.invariant.2 c.args.text.now c.in-Some.at facts.0 facts.2

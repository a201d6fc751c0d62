use Rattle.std.proofs.Common.{◌∙◌, ap, sym, Ok, Err}
use Rattle.std.specs.List.{position}
use Rattle.std.specs.Str.{chars}
use Rattle.std.proofs.lemmas.Str.{encodes-chars}
use Rattle.soy_front.specs.Entries.{is_entry_routine}
use Rattle.soy_top.proofs.CheckedLines.{opens_read}
use Rattle.soy_tree.specs.ViewTrees.{view_params}
use Rattle.soy_tree.specs.ViewValues.{view_value}
use Rattle.soy_types.specs.ReadData.{data_at}
use Rattle.template_ir.specs.declared.program.ProgramParts.{ProgramParts}
use Rattle.soy_top.proofs.play.Play.read_open.Goals as goal

pub returns-in-Ok-clause-reads : goal.returns-in-Ok-clause-reads
returns-in-Ok-clause-reads c =
    opens_read c.args.self.now (chars c.args.template.now) (chars c.args.json.now) c.in-Some.number
    c.as_bytes.result.now (Ok (view_value c.in-Ok.input))
    (ap (λ (p : ProgramParts). position (is_entry_routine (chars c.args.template.now)) p.templates)
    (sym c.as_ref.ensures) ∙ (sym c.entry_number.ensures ∙ c.in-Some.is))
    (encodes-chars c.args.json.now c.utf8.json ∙ sym c.as_bytes.ensures.value)
    (ap (λ ps. data_at (view_params ps) c.as_bytes.result.now) (sym c.params.ensures) ∙ c.in-Ok.ensures.value)

pub returns-in-Err-Because-clause-reads : goal.returns-in-Err-Because-clause-reads
returns-in-Err-Because-clause-reads c =
    let fault = c.in-Err-Because.fault in
    opens_read c.args.self.now (chars c.args.template.now) (chars c.args.json.now) c.in-Some.number
    c.as_bytes.result.now (Err (fault.code, fault.path))
    (ap (λ (p : ProgramParts). position (is_entry_routine (chars c.args.template.now)) p.templates)
    (sym c.as_ref.ensures) ∙ (sym c.entry_number.ensures ∙ c.in-Some.is))
    (encodes-chars c.args.json.now c.utf8.json ∙ sym c.as_bytes.ensures.value)
    (ap (λ ps. data_at (view_params ps) c.as_bytes.result.now) (sym c.params.ensures)
    ∙ (rw c.in-Err-Because.field-0-is at c.in-Err-Because.ensures.value))

use Rattle.std.proofs.Common.{rules, ◌≡◌, ◌∙◌, ap}
use Rattle.std.specs.String.{string_bytes}
use Rattle.soy_front.specs.ViewSources.{view_contents}
use Rattle.soy_top.specs.Line.{refusal_line}
use Rattle.soyc_c.specs.DetailText.{detail_text}
use Rattle.soyc_c.specs.FaultNumbers.{numbers_in_file}
use Rattle.soyc_c.specs.FaultParts.{Absent, parts_in}
use Rattle.soyc_c.specs.SlotReply.{fault_reply}
use Rattle.soyc_c.proofs.FileReplies.{file_reply, reply_of}
use Rattle.soyc_c.proofs.said.fault_in_file.Goals as goal

pub returns : goal.returns
returns c = λ about some is_line.
    let code = c.args.fault.code in
    let detail = detail_text c.args.detail.now in
    let text = string_bytes c.push_detail.new.text in
    let old = string_bytes c.in-Ok.text in
    let numbers = numbers_in_file (view_contents c.args.sources.now) c.args.fault in
    let parts = c.line_parts-parts.result in (
      ap (λ n. reply_of c.args.status text n (parts_in text parts)) (search rules)
          ∙ file_reply about detail text old code (rw c.in-Ok.is at is_line) (search rules) c.args.status numbers parts
          (λ detail_len text_len. c.line_parts-parts.ensures.parts about detail (search rules) (search rules)),
      some,
    )

use Rattle.std.proofs.Common.{◌≡◌, ◌∙◌, length, arith}
use Rattle.std.specs.String.{string_bytes}
use Rattle.std.proofs.lemmas.Str.{IsUtf8-string_bytes}
use Rattle.esc_table.proofs.EscapedParts.{bytes_added, cut_at_old, prefix_stays}
use Rattle.esc_table.proofs.escape.escape_into.Goals as goal

pub truncate-requires : goal.truncate-requires
truncate-requires g c =
    let grown = c.push_escaped.ensures.grown in
    let old_len : c.len-old_len.result ≡ length (string_bytes c.args.out.now) =
    omega (arith, c.len-old_len.ensures, c.args.out.now.bytes.ok.0) in
    λ _. rw old_len (cut_at_old _ _ grown.0 (IsUtf8-string_bytes c.args.out.now)
    (IsUtf8-string_bytes c.push_escaped.new.out) grown.1)

pub returns-in-Err-clause-err : goal.returns-in-Err-clause-err
returns-in-Err-clause-err g c =
    let grown = c.push_escaped.ensures.grown in
    let old_len : c.len-old_len.result ≡ length (string_bytes c.args.out.now) =
    omega (arith, c.len-old_len.ensures, c.args.out.now.bytes.ok.0) in
    c.truncate.ensures.bytes
    ∙ rw old_len (prefix_stays _ _ grown.0 (IsUtf8-string_bytes c.args.out.now)
    (IsUtf8-string_bytes c.push_escaped.new.out) grown.1)

pub returns-in-Ok-clause-bytes : goal.returns-in-Ok-clause-bytes
returns-in-Ok-clause-bytes g c =
    bytes_added _ _ _ (IsUtf8-string_bytes c.args.out.now) (IsUtf8-string_bytes c.push_escaped.new.out)
    c.in-Ok.ensures.ok

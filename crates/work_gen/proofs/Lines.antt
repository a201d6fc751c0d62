-- The bytes of the lines that a number makes, and the texts of one more number.
use Rattle.std.proofs.Common.{◌≡◌, ℕ, ◌+◌, ◌^◌, ◌<◌, List, [], ◌++◌, codes, String, refl, ap, ◌∙◌, add-one}
use Rattle.std.proofs.Common.{append_assoc}
use Rattle.std.specs.Fmt.{decimal}
use Rattle.soy_base.specs.Appends.{Appends}
use Rattle.work_gen.specs.Source.{call_line, each_below, line}
use Rattle.work_gen.proofs.Encoded.{Spells, appends_none, appends_twice, joined, literal, number}

each_below-more : (k : ℕ) (text_of : ℕ → List ℕ) → each_below (k + 1) text_of ≡ each_below k text_of ++ text_of k
unfolding each_below
each_below-more k text_of = ap (λ n. each_below n text_of) (add-one k)

each_below-none : (text_of : ℕ → List ℕ) → each_below 0 text_of ≡ []
unfolding each_below
each_below-none text_of = refl

-- a string that grew by the texts of no number, and by that of one more
pub begins_each : {A : Type 0} (out : String A) (text_of : ℕ → List ℕ) → Appends out out (each_below 0 text_of)
begins_each out text_of = rw (each_below-none text_of) (appends_none out)

pub more_of_each : {A : Type 0} (begin old new : String A) (k : ℕ) (text_of : ℕ → List ℕ)
    → Appends begin old (each_below k text_of) → Appends old new (text_of k)
    → Appends begin new (each_below (k + 1) text_of)
more_of_each begin old new k text_of before more =
    rw (each_below-more k text_of) (appends_twice begin old new (each_below k text_of) (text_of k) before more)

pub call_bytes : (k : ℕ) → k < 2 ^ 64 → Spells (call_line k)
    (codes "{call t" ++ (decimal k ++ (codes "}{param n: " ++ (decimal k ++ codes " /}{/call}\n"))))
call_bytes k h =
    let digits = number k h in
    let spelled = joined
    (joined (literal (codes "{call t") refl) (joined digits (joined (literal (codes "}{param n: ") refl)
    (joined digits (literal (codes " /}{/call}") refl)))))
    (literal (codes "\n") refl)
    in record { bytes = spelled.bytes ∙ simp append_assoc }

pub template_bytes : (k : ℕ) → k < 2 ^ 64 → Spells (line (codes "{template t" ++ (decimal k ++ codes "}")))
    (codes "{template t" ++ (decimal k ++ codes "}\n"))
template_bytes k h =
    let spelled = joined (joined (literal (codes "{template t") refl) (joined (number k h) (literal (codes "}") refl)))
    (literal (codes "\n") refl)
    in record { bytes = spelled.bytes ∙ simp append_assoc }

pub message_bytes : (k : ℕ) → k < 2 ^ 64
    → Spells (line (codes "<p>{msg desc=\"" ++ (decimal k ++ (codes "\"}{plural $n}{case 1}one of " ++ (decimal k
    ++ (codes "{default}{$n} of " ++ (decimal k ++ codes "{/plural}{/msg}</p>")))))))
    (codes "<p>{msg desc=\"" ++ (decimal k ++ (codes "\"}{plural $n}{case 1}one of " ++ (decimal k
    ++ (codes "{default}{$n} of " ++ (decimal k ++ codes "{/plural}{/msg}</p>\n"))))))
message_bytes k h =
    let digits = number k h in
    let spelled = joined
    (joined (literal (codes "<p>{msg desc=\"") refl) (joined digits
    (joined (literal (codes "\"}{plural $n}{case 1}one of ") refl) (joined digits
    (joined (literal (codes "{default}{$n} of ") refl) (joined digits
    (literal (codes "{/plural}{/msg}</p>") refl)))))))
    (literal (codes "\n") refl)
    in record { bytes = spelled.bytes ∙ simp append_assoc }

use Rattle.std.specs.Prelude.{option_map}
use Rattle.std.proofs.lemmas.Result.{err_from_is_err_and}
use Rattle.soy_front.proofs.AcceptedParts.{all_accepted, language_refused}
use Rattle.soy_front.proofs.DetailParts.{language_detailed}
use Rattle.soy_front.proofs.accepting.accept_read.Goals as goal

pub returns-in_err-language-clause-accepts : goal.returns-in_err-language-clause-accepts
returns-in_err-language-clause-accepts c = λ contents is.
    let p = err_from_is_err_and c.from_residual.result c.from_residual.ensures.1 in
    rw (p.1, p.2) (language_refused contents (option_map (λ b. b.now) c.args.bundle) c.args.files _ is
    c.in_err-language.ensures.accepts)

pub returns-in_err-language-clause-detail : goal.returns-in_err-language-clause-detail
returns-in_err-language-clause-detail c = λ contents is.
    let p = err_from_is_err_and c.from_residual.result c.from_residual.ensures.1 in
    rw (p.1, p.2) (language_detailed contents (option_map (λ b. b.now) c.args.bundle) c.args.files _ is
    c.in_err-language.ensures.detail)

pub returns-clause-accepts : goal.returns-clause-accepts
returns-clause-accepts c = λ contents is.
    all_accepted contents (option_map (λ b. b.now) c.args.bundle) c.args.files c.in_ok-language.language is
    c.in_ok-language.ensures.accepts

use Rattle.std.proofs.Common.{sym, subst}
use Rattle.std.specs.Prelude.{option_map}
use Rattle.std.proofs.lemmas.Result.{err_from_is_err_and}
use Rattle.soy_front.specs.Accepted.{LanguageFault}
use Rattle.soy_front.specs.declared.fault.Detailed.{Detailed}
use Rattle.soy_front.specs.declared.fault.FrontFault.{FrontFault}
use Rattle.soy_front.proofs.AcceptedParts.{language_unread, walk_refused}
use Rattle.soy_front.proofs.DetailParts.{bundle_nothing, walk_placings}
use Rattle.soy_front.proofs.accepting.accept_language.Goals as goal

pub returns-in-Err-Because-clause-accepts : goal.returns-in-Err-Because-clause-accepts
returns-in-Err-Because-clause-accepts c =
    let trees = c.args.files.now.typed in
    let rows = c.args.files.now.catalogue.messages in
    let bundle = option_map (λ b. b.now) c.args.bundle in
    subst (λ (r : Detailed FrontFault). LanguageFault trees rows bundle r.fault) (sym c.of_walk.ensures)
    (walk_refused trees rows bundle c.in_ok-bundle.bundle c.in-Err-Because.found c.in_ok-bundle.ensures.reads
    (rw c.in-Err-Because.field-0-is at c.in-Err-Because.ensures.walk))

pub returns-in-Err-Because-clause-detail : goal.returns-in-Err-Because-clause-detail
returns-in-Err-Because-clause-detail c =
    walk_placings c.args.files.now.typed c.args.files.now.catalogue.messages (option_map (λ b. b.now) c.args.bundle)
    c.in_ok-bundle.bundle c.in-Err-Because.found c.of_walk.result c.in_ok-bundle.ensures.reads
    (rw c.in-Err-Because.field-0-is at c.in-Err-Because.ensures.walk) c.of_walk.ensures

pub returns-in_err-bundle-clause-accepts : goal.returns-in_err-bundle-clause-accepts
returns-in_err-bundle-clause-accepts c =
    let p = err_from_is_err_and c.from_residual.result c.from_residual.ensures.1 in
    rw (p.1, p.2) (language_unread c.args.files.now.typed c.args.files.now.catalogue.messages
    (option_map (λ b. b.now) c.args.bundle) _ c.in_err-bundle.ensures.reads)

pub returns-in_err-bundle-clause-detail : goal.returns-in_err-bundle-clause-detail
returns-in_err-bundle-clause-detail c =
    let p = err_from_is_err_and c.from_residual.result c.from_residual.ensures.1 in
    rw (p.1, p.2) (bundle_nothing c.args.files.now.typed c.args.files.now.catalogue.messages
    (option_map (λ b. b.now) c.args.bundle) _ c.in_err-bundle.ensures.reads c.in_err-bundle.ensures.detail)

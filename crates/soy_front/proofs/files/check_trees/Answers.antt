use Rattle.std.proofs.Common.{sym, subst}
use Rattle.soy_front.specs.DetailAnswer.{demand_detail}
use Rattle.soy_front.specs.HasDetail.{HasDetail}
use Rattle.soy_front.proofs.DetailParts.{demand_names, demand_refused}
use Rattle.soy_front.proofs.files.check_trees.Goals as goal

pub returns-in-Ok-clause-detail : goal.returns-in-Ok-clause-detail
returns-in-Ok-clause-detail c =
    subst (λ f. HasDetail (demand_detail f) c.catalogue.result) (sym c.in-Ok.ensures.1) c.catalogue.ensures.detail

pub returns-in-Err-Because-clause-reads : goal.returns-in-Err-Because-clause-reads
returns-in-Err-Because-clause-reads c =
    demand_refused c.args.trees.items c.in-Err-Because.found c.of_demand.result
    (rw c.in-Err-Because.field-0-is at c.in-Err-Because.ensures)
    (rw c.in-Err-Because.field-0-is at c.of_demand.ensures)

pub returns-in-Err-Because-clause-detail : goal.returns-in-Err-Because-clause-detail
returns-in-Err-Because-clause-detail c =
    demand_names c.args.trees.items c.in-Err-Because.found c.of_demand.result
    (rw c.in-Err-Because.field-0-is at c.in-Err-Because.ensures)
    (rw c.in-Err-Because.field-0-is at c.of_demand.ensures)

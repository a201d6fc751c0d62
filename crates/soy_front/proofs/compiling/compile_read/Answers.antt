use Rattle.std.proofs.Common.{sym, subst}
use Rattle.std.specs.Prelude.{Err, Ok, option_map}
use Rattle.soy_front.specs.Accepted.{Accepted}
use Rattle.soy_front.specs.Compiled.{AreCompiled}
use Rattle.soy_front.specs.HasDetail.{without_detail}
use Rattle.soy_front.specs.declared.accepting.AcceptedFiles.{AcceptedFiles}
use Rattle.soy_front.specs.declared.compiling.Compiled.{Compiled}
use Rattle.soy_front.proofs.CompiledFiles.{accepted_fits, accepted_walk, compiled_as, refused_decides, refused_same}
use Rattle.soy_front.proofs.FirstFaults.{decided}
use Rattle.soy_front.proofs.compiling.compile_read.Goals as goal

pub returns-in-Err-clause-compiles : goal.returns-in-Err-clause-compiles
returns-in-Err-clause-compiles c = λ contents is.
    refused_same contents (option_map (λ b. b.now) c.args.bundle) c.in-Err.refusal
    (c.in-Err.ensures.accepts contents is)

pub returns-in-Err-clause-decides : goal.returns-in-Err-clause-decides
returns-in-Err-clause-decides c = λ contents is.
    let bundle = option_map (λ b. b.now) c.args.bundle in
    refused_decides AcceptedFiles Compiled (Accepted contents bundle) c.in-Err.refusal
    (decided contents bundle (without_detail (Err c.in-Err.refusal)) (c.in-Err.ensures.accepts contents is))

pub returns-in-Err-clause-detail : goal.returns-in-Err-clause-detail
returns-in-Err-clause-detail c = λ contents is. c.in-Err.ensures.detail contents is

pub build-requires-clause-fits : goal.build-requires-clause-fits
build-requires-clause-fits c =
    accepted_fits c.requires.0 (option_map (λ b. b.now) c.args.bundle) c.in-Ok.accepted
    (c.in-Ok.ensures.accepts c.requires.0 c.requires.1)

pub build-requires-clause-places : goal.build-requires-clause-places
build-requires-clause-places c =
    accepted_walk c.requires.0 (option_map (λ b. b.now) c.args.bundle) c.in-Ok.accepted
    (c.in-Ok.ensures.accepts c.requires.0 c.requires.1)

pub returns-clause-compiles : goal.returns-clause-compiles
returns-clause-compiles c = λ contents is.
    let bundle = option_map (λ b. b.now) c.args.bundle in
    subst (λ (x : Compiled). AreCompiled contents bundle x) (sym c.with_program.ensures)
    (compiled_as contents bundle c.in-Ok.accepted (c.in-Ok.ensures.accepts contents is) c.in_ok-program.program
    c.in_ok-program.ensures)

pub returns-clause-decides : goal.returns-clause-decides
returns-clause-decides c = λ contents is.
    let bundle = option_map (λ b. b.now) c.args.bundle in
    decided contents bundle (Ok c.in-Ok.accepted) (c.in-Ok.ensures.accepts contents is)

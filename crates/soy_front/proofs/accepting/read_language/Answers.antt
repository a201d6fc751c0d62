use Rattle.soy_front.proofs.accepting.read_language.Goals as goal

pub returns-in-Some-clause-reads : goal.returns-in-Some-clause-reads
returns-in-Some-clause-reads c =
    rw c.in-Some.is
    (c.of_bundle.ensures.reads c.in-Some.bytes.now c.args.catalogue.now.messages c.read_bundle.ensures.read)

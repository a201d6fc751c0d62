use Rattle.std.proofs.Common.{refl, arith}
use Rattle.std.specs.Prelude.{None, Some, codes}
use Rattle.std.specs.Fmt.{digits}
use Rattle.bidi_class.specs.Class.{bidi_class}
use Rattle.bidi_text.specs.Estimate.{first_strong, is_address, word_kind}
use Rattle.soy_pieces.specs.Pieces.{called_within}
use Rattle.template_ir.specs.Run.{all_give, called_at}
use Rattle.template_ir.specs.ProgramRows.{block, every_branches, every_choices, every_handed, every_words, handed_value}
use Rattle.template_ir.specs.ProgramRows.{if_some, named_arms, one, one_less, only_one}
use Rattle.template_ir.proofs.laws.law_program_rows.Goals as goal

pub returns-clause-block_sound : goal.returns-clause-block_sound
returns-clause-block_sound c = refl

pub returns-clause-attributes_sound : goal.returns-clause-attributes_sound
returns-clause-attributes_sound c = refl

pub returns-clause-calls_sound : goal.returns-clause-calls_sound
returns-clause-calls_sound c = refl

pub returns-clause-plural_sound : goal.returns-clause-plural_sound
returns-clause-plural_sound c = refl

pub returns-clause-offset_sound : goal.returns-clause-offset_sound
returns-clause-offset_sound c = refl

pub returns-clause-every_sound : goal.returns-clause-every_sound
returns-clause-every_sound c = refl

pub returns-clause-block_runs : goal.returns-clause-block_runs
unfolding called_within called_at all_give
returns-clause-block_runs c = refl

pub returns-clause-attributes_run : goal.returns-clause-attributes_run
unfolding called_within called_at all_give
returns-clause-attributes_run c = refl

pub returns-clause-calls_run : goal.returns-clause-calls_run
unfolding called_within called_at all_give
returns-clause-calls_run c = refl

pub returns-clause-calls_stop : goal.returns-clause-calls_stop
unfolding called_within called_at all_give
returns-clause-calls_stop c = refl

pub returns-clause-plural_runs : goal.returns-clause-plural_runs
unfolding called_within called_at all_give
returns-clause-plural_runs c = refl

pub returns-clause-exact_runs : goal.returns-clause-exact_runs
unfolding called_within called_at all_give
returns-clause-exact_runs c = refl

pub returns-clause-offset_runs : goal.returns-clause-offset_runs
unfolding called_within called_at all_give
returns-clause-offset_runs c = refl

pub returns-clause-other_runs : goal.returns-clause-other_runs
unfolding called_within called_at all_give
returns-clause-other_runs c = refl

pub returns-clause-every_runs : goal.returns-clause-every_runs
unfolding called_within called_at all_give digits first_strong is_address word_kind bidi_class
returns-clause-every_runs c = refl

pub returns-clause-block_placed : goal.returns-clause-block_placed
returns-clause-block_placed c = ((refl, tt), λ whole again. tt)

pub returns-clause-block_compiles : goal.returns-clause-block_compiles
returns-clause-block_compiles c = record {
  templates = (
    record {
      name = refl;
      kind = refl;
      private = refl;
      params = refl;
      within = omega arith;
      body = (
        4,
        (
          block 0 3,
          omega arith,
          (1, (refl, refl), (2, (refl, refl), (3, (refl, refl), refl))),
          (
            refl,
            refl,
          ),
        ),
        (5, (refl, refl), (6, (refl, refl), refl)),
      );
    },
    tt,
  );
  direction = refl;
  plural = refl;
  ordinal = refl;
}

pub returns-clause-calls_compile : goal.returns-clause-calls_compile
returns-clause-calls_compile c = record {
  templates = (
    record {
      name = refl;
      kind = refl;
      private = refl;
      params = refl;
      within = omega arith;
      body = (
        3,
        (
          if_some,
          None,
          (
            refl,
            omega arith,
            (
              1,
              (refl, refl),
              (
                2,
                (
                  handed_value (codes "n") one_less,
                  (
                    refl,
                    refl,
                    refl,
                  ),
                  (refl, refl),
                ),
                refl,
              ),
            ),
            tt,
          ),
          tt,
          (refl, refl),
        ),
        refl,
      );
    },
    tt,
  );
  direction = refl;
  plural = refl;
  ordinal = refl;
}

pub returns-clause-plural_compiles : goal.returns-clause-plural_compiles
returns-clause-plural_compiles c = record {
  templates = (
    record {
      name = refl;
      kind = refl;
      private = refl;
      params = refl;
      within = omega arith;
      body = (
        4,
        (
          only_one,
          block 1 3,
          (refl, omega arith, (1, (refl, refl), refl), tt),
          omega arith,
          (
            2,
            (
              refl,
              refl,
            ),
            (3, (refl, refl), refl),
          ),
          (refl, refl),
        ),
        refl,
      );
    },
    tt,
  );
  direction = refl;
  plural = refl;
  ordinal = refl;
}

pub returns-clause-offset_compiles : goal.returns-clause-offset_compiles
returns-clause-offset_compiles c = record {
  templates = (
    record {
      name = refl;
      kind = refl;
      private = refl;
      params = refl;
      within = omega arith;
      body = (
        6,
        (
          6,
          (
            only_one,
            named_arms,
            (refl, omega arith, (1, (refl, refl), refl), tt),
            (
              refl,
              omega arith,
              (
                2,
                (refl, refl),
                (3, (refl, refl), (4, (refl, refl), refl)),
              ),
              (
                refl,
                omega arith,
                (5, (refl, refl), refl),
                tt,
              ),
            ),
            (refl, refl),
          ),
          refl,
        ),
        refl,
      );
    },
    tt,
  );
  direction = refl;
  plural = refl;
  ordinal = refl;
}

pub returns-clause-every_compiles : goal.returns-clause-every_compiles
returns-clause-every_compiles c = record {
  templates = (
    record {
      name = refl;
      kind = refl;
      private = refl;
      params = refl;
      within = omega arith;
      body = (
        15,
        (
          every_branches,
          Some (block 1 2),
          (refl, omega arith, (1, (refl, refl), refl), tt),
          (
            omega arith,
            (2, (refl, refl), refl),
          ),
          (refl, refl),
        ),
        (
          16,
          (
            every_choices,
            Some (block 3 4),
            (
              refl,
              omega arith,
              (
                3,
                (refl, refl),
                refl,
              ),
              tt,
            ),
            (omega arith, (4, (refl, refl), refl)),
            (refl, refl),
          ),
          (
            17,
            (
              block 4 6,
              omega
                  arith,
              (5, (refl, refl), (6, (refl, refl), refl)),
              (refl, refl),
            ),
            (
              18,
              (refl, refl),
              (
                19,
                (
                  block 6 8,
                  omega
                      arith,
                  (7, (refl, refl), (8, (refl, refl), refl)),
                  (refl, refl),
                ),
                (
                  20,
                  (refl, refl),
                  (
                    21,
                    (
                      every_handed,
                      (
                        refl,
                        (refl, omega arith, (9, (refl, refl), (10, (refl, refl), (11, (refl, refl), refl)))),
                        (
                          refl,
                          (
                            refl,
                            omega arith,
                            (12, (refl, refl), refl),
                          ),
                          refl,
                        ),
                      ),
                      (refl, refl),
                    ),
                    (
                      22,
                      (
                        every_words,
                        block 13 14,
                        (
                          refl,
                          omega
                              arith,
                          (13, (refl, refl), refl),
                          tt,
                        ),
                        omega arith,
                        (14, (refl, refl), refl),
                        (refl, refl),
                      ),
                      (
                        23,
                        (handed_value (codes "n") one, (refl, refl, refl), (refl, refl)),
                        refl,
                      ),
                    ),
                  ),
                ),
              ),
            ),
          ),
        ),
      );
    },
    (
      record {
        name = refl;
        kind = refl;
        private = refl;
        params = refl;
        within = omega arith;
        body = (24, (refl, refl), (25, (refl, refl), (26, (refl, refl), refl)));
      },
      (
        record {
          name = refl;
          kind = refl;
          private = refl;
          params = refl;
          within = omega arith;
          body = (27, (refl, refl), refl);
        },
        tt,
      ),
    ),
  );
  direction = refl;
  plural = refl;
  ordinal = refl;
}

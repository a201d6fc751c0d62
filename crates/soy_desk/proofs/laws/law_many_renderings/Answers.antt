use Rattle.soy_desk.proofs.Law.{desk_alone, desk_answers, desk_opened, desk_prefix, desk_published, desk_refused}
use Rattle.soy_desk.proofs.laws.law_many_renderings.Goals as goal

pub returns : goal.returns
returns c = record {
  alone = desk_alone;
  answers = desk_answers;
  prefix = desk_prefix;
  refused = desk_refused;
  opened = desk_opened;
  published = desk_published;
}

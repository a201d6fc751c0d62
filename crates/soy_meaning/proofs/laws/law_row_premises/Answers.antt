use Rattle.std.proofs.Common.{inl, refl}
use Rattle.soy_meaning.proofs.laws.law_row_premises.Goals as goal

pub returns-clause-block : goal.returns-clause-block
returns-clause-block c = record {
  declares = refl;
  member = inl refl;
  translations = (((tt, (tt, (tt, tt))), (tt, (tt, tt))), tt);
  picks = (((tt, (refl, (tt, tt))), (refl, (refl, tt))), tt);
  walks = refl;
}

pub returns-clause-attributes : goal.returns-clause-attributes
returns-clause-attributes c = record {
  declares = refl;
  member = inl refl;
  translations = (((tt, (tt, (tt, tt))), (tt, (tt, (tt, tt)))), tt);
  picks = (((tt, (refl, (tt, tt))), (tt, (refl, (tt, tt)))), tt);
  walks = refl;
}

pub returns-clause-calls : goal.returns-clause-calls
returns-clause-calls c = record {
  declares = refl;
  member = inl refl;
  translations = (((((tt, ((tt, tt), tt)), tt), tt), tt), tt);
  picks = (((((tt, ((refl, (refl, tt)), tt)), tt), tt), tt), tt);
  walks = refl;
}

pub returns-clause-source : goal.returns-clause-source
returns-clause-source c = record {
  declares = refl;
  member = inl refl;
  translations = (((tt, (((tt, tt), tt), (tt, (tt, tt))), tt), tt), tt);
  picks = (((refl, (((tt, tt), tt), (refl, (tt, tt))), tt), tt), tt);
  walks = refl;
}

pub returns-clause-plural : goal.returns-clause-plural
returns-clause-plural c = record {
  declares = refl;
  member = inl refl;
  translations = (((refl, (((tt, tt), tt), (tt, tt)), tt), tt), tt);
  picks = (((refl, (((tt, tt), tt), (tt, tt)), tt), tt), tt);
  walks = refl;
}

pub returns-clause-offset : goal.returns-clause-offset
returns-clause-offset c = record {
  declares = refl;
  member = inl refl;
  translations = (((refl, (((tt, tt), tt), (tt, tt)), tt), tt), tt);
  picks = (((refl, (((tt, tt), tt), (tt, tt)), tt), tt), tt);
  walks = refl;
}

pub returns-clause-values : goal.returns-clause-values
returns-clause-values c = λ n. tt

pub returns-clause-alike : goal.returns-clause-alike
returns-clause-alike c = λ n m body. (refl, refl, tt, tt)

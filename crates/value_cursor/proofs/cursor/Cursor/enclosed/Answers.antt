use Rattle.std.proofs.Common.{◌++◌, ap, length, length-append, subst, arith}
use Rattle.std.specs.Str.{IsUtf8}
use Rattle.std.proofs.lemmas.Str.{IsCharBoundary-start}
use Rattle.value_cursor.specs.BytesLeft.{bytes_from, source}
use Rattle.value_cursor.proofs.cursor.Cursor.enclosed.Goals as goal

pub returns-clause-fits : goal.returns-clause-fits
returns-clause-fits c =
    let body = bytes_from c.args.plan (source c.args.plan c.args.text.now) 0 in
    record {
      plan = c.requires.plan;
      boundary = IsCharBoundary-start (source c.args.plan c.args.text.now)
          (subst IsUtf8 c.source.ensures c.source.utf8);
      closing = c.requires.closing;
      count = omega (
        arith,
        length-append (c.push.new.self ++ body) c.args.closing.now,
        length-append c.push.new.self body,
        ap length c.push.ensures,
        length-append c.empty-pending.result c.args.opening.now,
        ap length c.empty-pending.ensures,
        c.len-len.ensures.count,
        ap (λ text. length (bytes_from c.args.plan text 0)) c.source.ensures,
      );
    }

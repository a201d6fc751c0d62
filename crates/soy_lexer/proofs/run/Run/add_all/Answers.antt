use Rattle.std.proofs.Common.{◌≡◌, ◌+◌, ◌-◌, IfSome, sym, ap, subst, arith}
use Rattle.std.specs.Str.{chars, IsUtf8}
use Rattle.soy_base.specs.ByteLength.{byte_len}
use Rattle.soy_lexer.specs.Chunks.{AddsAll, AddsNext}
use Rattle.soy_lexer.proofs.PlainAdded.{all_added, none_so_far, piece_more, rest_within}
use Rattle.soy_lexer.proofs.run.Run.add_all.Goals as goal

pub loop-after-init : goal.loop-after-init
loop-after-init c = record {
  utf8 = c.utf8.text;
  end = ap (λ n. c.args.offset + n) c.byte_len.ensures;
  so_far = none_so_far c.args.self.now c.args.offset c.args.white (chars c.args.text.now);
}

pub overflow_sub-end : goal.overflow_sub-end
overflow_sub-end c =
    omega (
      arith,
      rest_within c.args.self.now c.loop-after.self c.args.offset c.args.white (chars c.args.text.now)
          (chars c.loop-after.rest.now) c.loop-after.white c.loop-after.invariant.so_far,
      c.byte_len-in-loop-after.ensures,
      c.byte_len.ensures,
    )

pub add_next-requires : goal.add_next-requires
add_next-requires c =
    omega (
      arith,
      rest_within c.args.self.now c.loop-after.self c.args.offset c.args.white (chars c.args.text.now)
          (chars c.loop-after.rest.now) c.loop-after.white c.loop-after.invariant.so_far,
      c.byte_len-in-loop-after.ensures,
      c.byte_len.ensures,
      c.requires,
    )

pub loop-after-preserved : goal.loop-after-preserved
loop-after-preserved c =
    let text = chars c.args.text.now in
    let rest = chars c.loop-after.rest.now in
    let at = c.args.offset + c.byte_len.result - c.byte_len-in-loop-after.result in
    let within = rest_within c.args.self.now c.loop-after.self c.args.offset c.args.white text rest c.loop-after.white
    c.loop-after.invariant.so_far in
    let stands : at ≡ c.args.offset + byte_len c.loop-after.invariant.so_far.part.prefix =
    omega (arith, within, c.byte_len-in-loop-after.ensures, c.byte_len.ensures) in
    record {
      utf8 = subst (λ next. IfSome next (λ after. IsUtf8 after.rest.now)) c.in-Some.is c.in_ok-after.ensures.utf8;
      end = ap (λ n. c.args.offset + n) c.byte_len.ensures;
      so_far = piece_more c.args.self.now c.loop-after.self c.args.offset c.args.white text rest c.loop-after.white
          c.loop-after.invariant.so_far c.add_next.new.self at (chars c.in-Some.after.rest.now)
          c.in-Some.after.white stands
          (subst (λ next. AddsNext c.loop-after.self c.add_next.new.self at rest next) c.in-Some.is
          c.in_ok-after.ensures.adds);
    }

pub returns-in-None-clause-adds : goal.returns-in-None-clause-adds
returns-in-None-clause-adds c =
    let text = chars c.args.text.now in
    let rest = chars c.loop-after.rest.now in
    let at = c.args.offset + c.byte_len.result - c.byte_len-in-loop-after.result in
    let none = subst (λ next. AddsNext c.loop-after.self c.add_next.new.self at rest next) c.in-None.is
    c.in_ok-after.ensures.adds in
    subst (λ now. AddsAll c.args.self.now now c.args.offset c.args.white text rest c.loop-after.white)
    (sym none.0)
    (all_added c.args.self.now c.loop-after.self c.args.offset c.args.white text rest c.loop-after.white
    c.loop-after.invariant.so_far none.1)

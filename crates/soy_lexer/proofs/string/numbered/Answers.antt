use Rattle.std.proofs.Common.{arith, refl, ◌∙◌}
use Rattle.soy_lexer.proofs.StringReading.{hexadecimal_digit, no_hexadecimal_digit, numbered-digits}
use Rattle.soy_lexer.proofs.string.numbered.Goals as goal

pub overflow_add-a : goal.overflow_add-a
overflow_add-a c =
    let a = hexadecimal_digit c.args.a c.in_ok-a.a c.in_ok-a.ensures in
    let b = hexadecimal_digit c.args.b c.in_ok-b.b c.in_ok-b.ensures in
    omega (arith, a.2, b.2)

pub overflow_mul-a-2 : goal.overflow_mul-a-2
overflow_mul-a-2 c =
    let a = hexadecimal_digit c.args.a c.in_ok-a.a c.in_ok-a.ensures in
    let b = hexadecimal_digit c.args.b c.in_ok-b.b c.in_ok-b.ensures in
    omega (arith, a.2, b.2)

pub overflow_add-a-2 : goal.overflow_add-a-2
overflow_add-a-2 c =
    let a = hexadecimal_digit c.args.a c.in_ok-a.a c.in_ok-a.ensures in
    let b = hexadecimal_digit c.args.b c.in_ok-b.b c.in_ok-b.ensures in
    let third = hexadecimal_digit c.args.c c.in_ok-c.c c.in_ok-c.ensures in
    let fourth = hexadecimal_digit c.args.d c.in_ok-d.d c.in_ok-d.ensures in
    omega (arith, a.2, b.2, third.2)

pub overflow_mul-a-3 : goal.overflow_mul-a-3
overflow_mul-a-3 c =
    let a = hexadecimal_digit c.args.a c.in_ok-a.a c.in_ok-a.ensures in
    let b = hexadecimal_digit c.args.b c.in_ok-b.b c.in_ok-b.ensures in
    let third = hexadecimal_digit c.args.c c.in_ok-c.c c.in_ok-c.ensures in
    let fourth = hexadecimal_digit c.args.d c.in_ok-d.d c.in_ok-d.ensures in
    omega (arith, a.2, b.2, third.2)

pub overflow_add-a-3 : goal.overflow_add-a-3
overflow_add-a-3 c =
    let a = hexadecimal_digit c.args.a c.in_ok-a.a c.in_ok-a.ensures in
    let b = hexadecimal_digit c.args.b c.in_ok-b.b c.in_ok-b.ensures in
    let third = hexadecimal_digit c.args.c c.in_ok-c.c c.in_ok-c.ensures in
    let fourth = hexadecimal_digit c.args.d c.in_ok-d.d c.in_ok-d.ensures in
    omega (arith, a.2, b.2, third.2, fourth.2)

pub returns : goal.returns
returns c =
    let a = hexadecimal_digit c.args.a c.in_ok-a.a c.in_ok-a.ensures in
    let b = hexadecimal_digit c.args.b c.in_ok-b.b c.in_ok-b.ensures in
    let third = hexadecimal_digit c.args.c c.in_ok-c.c c.in_ok-c.ensures in
    let fourth = hexadecimal_digit c.args.d c.in_ok-d.d c.in_ok-d.ensures in
    numbered-digits c.args.a c.args.b c.args.c c.args.d c.in_ok-a.a c.in_ok-b.b c.in_ok-c.c c.in_ok-d.d
    c.from_u32.result a b third fourth c.from_u32.ensures.value

pub returns-in_err-d : goal.returns-in_err-d
returns-in_err-d c =
    let a = hexadecimal_digit c.args.a c.in_ok-a.a c.in_ok-a.ensures in
    let b = hexadecimal_digit c.args.b c.in_ok-b.b c.in_ok-b.ensures in
    let third = hexadecimal_digit c.args.c c.in_ok-c.c c.in_ok-c.ensures in
    c.from_residual-in_err-d.ensures ∙ rw (a.0, b.0, third.0, no_hexadecimal_digit c.args.d c.in_err-d.ensures) refl

pub overflow_mul-a : goal.overflow_mul-a
overflow_mul-a c = omega (arith, (hexadecimal_digit c.args.a c.in_ok-a.a c.in_ok-a.ensures).2)

pub returns-in_err-c : goal.returns-in_err-c
returns-in_err-c c =
    let a = hexadecimal_digit c.args.a c.in_ok-a.a c.in_ok-a.ensures in
    let b = hexadecimal_digit c.args.b c.in_ok-b.b c.in_ok-b.ensures in
    c.from_residual-in_err-c.ensures ∙ rw (a.0, b.0, no_hexadecimal_digit c.args.c c.in_err-c.ensures) refl

use Rattle.std.proofs.Common.{◌≡◌, ◌<◌, ◌∙◌, ℕ, List, Ok, length, arith, refl, subst, sym}
use Rattle.soy_tree.specs.ViewValues.{view_value}
use Rattle.render_core.specs.Stepping.{Gives, Spares, SteppedInto, output}
use Rattle.render_core.specs.declared.stack.Step.{Step}
use Rattle.render_core.proofs.Wents.{empty_falls, empty_spares, silent_falls, went_deep, went_done, went_empty}
use Rattle.render_core.proofs.Wents.{went_gives, went_memory, went_none, went_silent}
use Rattle.render_core.proofs.stack.Machine.advance_by_steps.Goals as goal

pub loop-n-init : goal.loop-n-init
loop-n-init g c = record {
  went =
      went_none c.args.scene.now.program.now (view_value c.args.scene.now.input.now) c.args.self.now c.args.steps.now
      c.requires.fits;
  room = refl;
  none = c.requires.none;
}

pub step-requires-clause-fits : goal.step-requires-clause-fits
step-requires-clause-fits g c = c.loop-n.invariant.went.fits

pub loop-n-smaller-in-Ok-Silent : goal.loop-n-smaller-in-Ok-Silent
loop-n-smaller-in-Ok-Silent g c =
    let p = c.args.scene.now.program.now in
    let input = view_value c.args.scene.now.input.now in
    let old = c.args.self.now in
    let mid = c.loop-n.self in
    let new = c.step.new.self in
    let b = c.args.steps.now in
    let m = c.loop-n.steps in
    let a = c.step.new.steps in
    let out = output c.loop-n.room c.step.new.room c.step.new.piece in
    let stepped = subst (λ (s : Step). SteppedInto p input mid new m a out (Ok s)) c.in-Ok-Silent.field-0-is
    c.in-Ok-Silent.ensures.stepped in
    silent_falls p input mid new m a stepped

pub loop-n-preserved-in-Ok-Silent : goal.loop-n-preserved-in-Ok-Silent
loop-n-preserved-in-Ok-Silent g c =
    let p = c.args.scene.now.program.now in
    let input = view_value c.args.scene.now.input.now in
    let old = c.args.self.now in
    let mid = c.loop-n.self in
    let new = c.step.new.self in
    let b = c.args.steps.now in
    let m = c.loop-n.steps in
    let a = c.step.new.steps in
    let out = output c.loop-n.room c.step.new.room c.step.new.piece in
    let stepped = subst (λ (s : Step). SteppedInto p input mid new m a out (Ok s)) c.in-Ok-Silent.field-0-is
    c.in-Ok-Silent.ensures.stepped in
    let spares = subst (λ (s : Step). Spares out (Ok s)) c.in-Ok-Silent.field-0-is c.in-Ok-Silent.ensures.spares in
    record {
      went = went_silent p input old mid new b m a c.loop-n.invariant.went stepped;
      room = spares.0 ∙ c.loop-n.invariant.room;
      none = spares.1;
    }

pub returns-then-n-gt0 : goal.returns-then-n-gt0
returns-then-n-gt0 g c =
    let p = c.args.scene.now.program.now in
    let input = view_value c.args.scene.now.input.now in
    let old = c.args.self.now in
    let mid = c.loop-n.self in
    let new = c.step.new.self in
    let b = c.args.steps.now in
    let m = c.loop-n.steps in
    let a = c.step.new.steps in
    let out = output c.loop-n.room c.step.new.room c.step.new.piece in
    let stepped = subst (λ (s : Step). SteppedInto p input mid new m a out (Ok s)) c.in-Ok-Gives.field-0-is
    c.in-Ok-Gives.ensures.stepped in
    let n = c.in-Ok-Gives.n in
    let given = subst (λ (room : List ℕ). Gives p input mid new m a (output room c.step.new.room c.step.new.piece) n)
    c.loop-n.invariant.room stepped in
    went_gives p input old mid new b m a (output c.args.room.now c.step.new.room c.step.new.piece) n
    c.loop-n.invariant.went given c.if-n-gt0.true

pub loop-n-smaller : goal.loop-n-smaller
loop-n-smaller g c =
    let p = c.args.scene.now.program.now in
    let input = view_value c.args.scene.now.input.now in
    let old = c.args.self.now in
    let mid = c.loop-n.self in
    let new = c.step.new.self in
    let b = c.args.steps.now in
    let m = c.loop-n.steps in
    let a = c.step.new.steps in
    let out = output c.loop-n.room c.step.new.room c.step.new.piece in
    let stepped = subst (λ (s : Step). SteppedInto p input mid new m a out (Ok s)) c.in-Ok-Gives.field-0-is
    c.in-Ok-Gives.ensures.stepped in
    let some : 0 < length c.loop-n.room =
    subst (λ (room : List ℕ). 0 < length room) (sym c.loop-n.invariant.room) c.requires.some in
    let none : c.in-Ok-Gives.n ≡ 0 = omega (arith, c.if-n-gt0.false) in
    empty_falls p input mid new m a out c.in-Ok-Gives.n stepped some none

pub loop-n-preserved : goal.loop-n-preserved
loop-n-preserved g c =
    let p = c.args.scene.now.program.now in
    let input = view_value c.args.scene.now.input.now in
    let old = c.args.self.now in
    let mid = c.loop-n.self in
    let new = c.step.new.self in
    let b = c.args.steps.now in
    let m = c.loop-n.steps in
    let a = c.step.new.steps in
    let out = output c.loop-n.room c.step.new.room c.step.new.piece in
    let stepped = subst (λ (s : Step). SteppedInto p input mid new m a out (Ok s)) c.in-Ok-Gives.field-0-is
    c.in-Ok-Gives.ensures.stepped in
    let some : 0 < length c.loop-n.room =
    subst (λ (room : List ℕ). 0 < length room) (sym c.loop-n.invariant.room) c.requires.some in
    let none : c.in-Ok-Gives.n ≡ 0 = omega (arith, c.if-n-gt0.false) in
    let spares = empty_spares p input mid new m a out c.in-Ok-Gives.n stepped some none in
    record {
      went = went_empty p input old mid new b m a out c.in-Ok-Gives.n c.loop-n.invariant.went stepped some none;
      room = spares.0 ∙ c.loop-n.invariant.room;
      none = spares.1;
    }

pub returns-in-Ok-Done : goal.returns-in-Ok-Done
returns-in-Ok-Done g c =
    let p = c.args.scene.now.program.now in
    let input = view_value c.args.scene.now.input.now in
    let old = c.args.self.now in
    let mid = c.loop-n.self in
    let new = c.step.new.self in
    let b = c.args.steps.now in
    let m = c.loop-n.steps in
    let a = c.step.new.steps in
    let out = output c.loop-n.room c.step.new.room c.step.new.piece in
    let stepped = subst (λ (s : Step). SteppedInto p input mid new m a out (Ok s)) c.in-Ok-Done.field-0-is
    c.in-Ok-Done.ensures.stepped in
    let spares = subst (λ (s : Step). Spares out (Ok s)) c.in-Ok-Done.field-0-is c.in-Ok-Done.ensures.spares in
    went_done p input old mid new b m a (output c.args.room.now c.step.new.room c.step.new.piece)
    c.loop-n.invariant.went (spares.0 ∙ c.loop-n.invariant.room, spares.1) stepped

pub returns-in-Ok-TooDeep : goal.returns-in-Ok-TooDeep
returns-in-Ok-TooDeep g c =
    let p = c.args.scene.now.program.now in
    let input = view_value c.args.scene.now.input.now in
    let old = c.args.self.now in
    let mid = c.loop-n.self in
    let new = c.step.new.self in
    let b = c.args.steps.now in
    let m = c.loop-n.steps in
    let a = c.step.new.steps in
    let out = output c.loop-n.room c.step.new.room c.step.new.piece in
    let stepped = subst (λ (s : Step). SteppedInto p input mid new m a out (Ok s)) c.in-Ok-TooDeep.field-0-is
    c.in-Ok-TooDeep.ensures.stepped in
    let spares = subst (λ (s : Step). Spares out (Ok s)) c.in-Ok-TooDeep.field-0-is c.in-Ok-TooDeep.ensures.spares in
    went_deep p input old mid new b m a c.in-Ok-TooDeep.call
    (output c.args.room.now c.step.new.room c.step.new.piece) c.loop-n.invariant.went
    (spares.0 ∙ c.loop-n.invariant.room, spares.1) stepped

pub returns-in-Err : goal.returns-in-Err
returns-in-Err g c =
    let p = c.args.scene.now.program.now in
    let input = view_value c.args.scene.now.input.now in
    let old = c.args.self.now in
    let mid = c.loop-n.self in
    let new = c.step.new.self in
    let b = c.args.steps.now in
    let m = c.loop-n.steps in
    let a = c.step.new.steps in
    let spares = c.in-Err.ensures.spares in
    went_memory p input old mid new b m a _ (output c.args.room.now c.step.new.room c.step.new.piece)
    c.loop-n.invariant.went (spares.0 ∙ c.loop-n.invariant.room, spares.1) c.in-Err.ensures.stepped

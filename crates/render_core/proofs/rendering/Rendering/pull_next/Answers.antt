use Rattle.std.proofs.Common.{ℕ, ◌∙◌, ◌<◌, Ok, Option, inl, inr, length, refl, subst, sym, true}
use Rattle.soy_tree.specs.ViewValues.{view_value}
use Rattle.render_core.specs.Stepping.{Advanced, output}
use Rattle.render_core.specs.declared.rendering.Rendering.{Rendering}
use Rattle.render_core.proofs.Pullings.{end_pulls, is_empty, isnt_empty, next_pulls, refused_pulls}
use Rattle.render_core.proofs.rendering.Rendering.pull_next.Goals as goal

pub returns-then-is_empty : goal.returns-then-is_empty
returns-then-is_empty g c = record {
  fits = c.requires.fits;
  pulls =
      inl (record {
        why = inl (is_empty (length c.args.room.now) (sym c.is_empty.ensures ∙ c.if-is_empty.true));
        none = refl;
        unchanged = refl;
        rest = refl;
        done = refl;
        cost = refl;
      });
}

pub returns-then-self : goal.returns-then-self
returns-then-self g c = record {
  fits = c.requires.fits;
  pulls =
      inl (record {
        why = inr c.if-self.true;
        none = refl;
        unchanged = refl;
        rest = refl;
        done = refl;
        cost = refl;
      });
}

pub advance-requires : goal.advance-requires
advance-requires g c = record {
  fits = c.requires.fits.machine;
  some = isnt_empty (length c.args.room.now) (sym c.is_empty.ensures ∙ c.if-is_empty.false);
  none = c.requires.none;
}

pub returns-in-Ok-Some : goal.returns-in-Ok-Some
returns-in-Ok-Some g c =
    let p = c.args.scene.now.program.now in
    let input = view_value c.args.scene.now.input.now in
    let old = c.args.self.now in
    let new : Rendering = record old { machine = c.advance.new.self; piece = c.advance.new.piece } in
    let out = output c.args.room.now c.advance.new.room c.advance.new.piece in
    let some : 0 < length c.args.room.now =
    isnt_empty (length c.args.room.now) (sym c.is_empty.ensures ∙ c.if-is_empty.false) in
    let next = subst (λ (b : Option ℕ). Advanced p input old.machine c.advance.new.self c.args.steps.now
    c.advance.new.steps out (Ok b)) c.in-Ok-Some.field-0-is c.in-Ok-Some.ensures in
    let pulls = next_pulls p input old new c.args.room.now c.advance.new.room c.args.steps.now c.advance.new.steps
    c.in-Ok-Some.n c.if-self.false some next refl in
    record { fits = pulls.0; pulls = pulls.1 }

pub returns-in-Ok-None : goal.returns-in-Ok-None
returns-in-Ok-None g c =
    let p = c.args.scene.now.program.now in
    let input = view_value c.args.scene.now.input.now in
    let old = c.args.self.now in
    let new : Rendering = record old { machine = c.advance.new.self; piece = c.advance.new.piece; done = true } in
    let out = output c.args.room.now c.advance.new.room c.advance.new.piece in
    let some : 0 < length c.args.room.now =
    isnt_empty (length c.args.room.now) (sym c.is_empty.ensures ∙ c.if-is_empty.false) in
    let next = subst (λ (b : Option ℕ). Advanced p input old.machine c.advance.new.self c.args.steps.now
    c.advance.new.steps out (Ok b)) c.in-Ok-None.field-0-is c.in-Ok-None.ensures in
    let pulls = end_pulls p input old new c.args.room.now c.advance.new.room c.args.steps.now c.advance.new.steps
    c.if-self.false some next refl in
    record { fits = pulls.0; pulls = pulls.1 }

pub returns-in-Err : goal.returns-in-Err
returns-in-Err g c =
    let p = c.args.scene.now.program.now in
    let input = view_value c.args.scene.now.input.now in
    let old = c.args.self.now in
    let new : Rendering = record old { machine = c.advance.new.self; piece = c.advance.new.piece } in
    let some : 0 < length c.args.room.now =
    isnt_empty (length c.args.room.now) (sym c.is_empty.ensures ∙ c.if-is_empty.false) in
    let pulls = refused_pulls p input old new c.args.room.now c.advance.new.room c.args.steps.now c.advance.new.steps
    c.in-Err.refusal c.if-self.false some c.in-Err.ensures refl in
    record { fits = pulls.0; pulls = pulls.1 }

use Rattle.std.proofs.Common.{refl, ap, ◌∙◌, arith}
use Rattle.bidi_class.specs.Class.{bidi_class}
use Rattle.bidi_order.specs.DirectionalStatus.{top_entry}
use Rattle.bidi_order.specs.Explicit.{kept_character}
use Rattle.bidi_order.specs.Explicit.IsolateRole.{Neither}
use Rattle.bidi_preview.specs.ExplicitSteps.{view_status}
use Rattle.bidi_preview.proofs.Tops.{IsPlain, plain, plain_character, plain_status}
use Rattle.bidi_preview.proofs.status.Status.read.Goals as goal

pub returns-in_default : goal.returns-in_default
returns-in_default c =
    let p : IsPlain c.args.class (bidi_class c.args.c) =
    plain c.args.class (bidi_class c.args.c) c.in_default.not-BN c.in_default.not-LRE c.in_default.not-LRO
    c.in_default.not-RLE c.in_default.not-RLO c.in_default.not-PDF c.in_default.not-LRI c.in_default.not-FSI
    c.in_default.not-RLI c.in_default.not-PDI c.requires.class in
    record {
      kept = c.kept-in_default.ensures
          ∙ ap (kept_character (top_entry (view_status c.args.self.now)) Neither c.args.class) c.bracket_of.ensures
          ∙ plain_character c.args.c c.args.class (view_status c.args.self.now) p;
      status = plain_status c.args.class (bidi_class c.args.c) (view_status c.args.self.now) p;
      base = refl;
      isolates = omega arith;
      embeddings = omega arith;
      valid = omega arith;
    }

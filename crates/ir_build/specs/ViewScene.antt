-- What the compiler goes by, as the definitions have it: templates, what a bundle brings, and what the ops of a
-- template go by.
use Rattle.std.specs.Prelude.{Bool, List, Option, map, ◌++◌}
use Rattle.soy_base.specs.declared.fault.Span.{Span}
use Rattle.soy_base.specs.declared.place.Place.{Place}
use Rattle.soy_pieces.specs.Site.{starts_at}
use Rattle.soy_rules.specs.Bodies.{names_given}
use Rattle.soy_tree.specs.MessageParts.{MsgParts}
use Rattle.soy_tree.specs.Nodes.{Arguments, Message}
use Rattle.soy_rules.specs.Templates.{callee}
use Rattle.soy_tree.specs.Types.{Name}
use Rattle.soy_rules.specs.ViewTemplates.{view_all}
use Rattle.soy_tree.specs.ViewTrees.{view_params}
use Rattle.template_ir.specs.Compiles.{CompileContext, callee_number, handed_on_names, params_there}
use Rattle.template_ir.specs.Compiles.{same_handed}
use Rattle.template_ir.specs.Ops.{CallOp, Handed, Op}
use Rattle.ir_build.specs.declared.scene.Scene.{Scene}
use Rattle.msg_extract.specs.LanguageOf.{language_of}

abbrev pub translation_in : Scene → Message → Option MsgParts
translation_in s = (language_of s.bundle.now).translation

-- what the ops of a template go by, where these are all ops
abbrev pub context_of : Scene → List Op → CompileContext
context_of s ops = record {
  file = s.file;
  namespace = s.namespace.now;
  params = view_params s.params.now;
  declared = view_all s.declared.now;
  translation = translation_in s;
  places = s.places.now;
  ops = ops;
}

-- the names that a call hands on
abbrev pub names_on : Scene → Name → Bool → Arguments → List Name
names_on s name all given =
    handed_on_names all (view_params s.params.now) (names_given given)
    (params_there (callee (view_all s.declared.now) s.namespace.now name))

-- the op of a call whose params are handed so
abbrev pub call_op : Scene → Name → Bool → Arguments → List Handed → Place → Span → Op
call_op s name all given handed point span = CallOp (record {
  template = callee_number (view_all s.declared.now) s.namespace.now name;
  given = handed ++ map same_handed (names_on s name all given);
  place = point;
  site = starts_at s.file span;
})

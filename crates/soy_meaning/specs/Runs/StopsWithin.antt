-- The call at which a run stops.
--
-- A run opens frames: itself, the blocks that are written in a frame which it opens, and the templates that are called
-- in one. It stops at a call that comes in a frame within which no more may be open.
-- Example: of an entry that calls itself the run stops at the call in the frame that the hundredth call has opened.
use Rattle.std.specs.Prelude.{◌≡◌, ◌⊎◌, Bool}
use Rattle.soy_base.specs.declared.fault.Span.{Span}
use Rattle.soy_base.specs.declared.kind.Kind.{Kind}
use Rattle.soy_tree.specs.Nodes.{Node, Nodes, Arguments, Call, LetBlock, node, no_argument, argument, Block, Plain}
use Rattle.soy_tree.specs.Types.{Name}
use Rattle.soy_rules.specs.TypeOf.{Scope}
use Rattle.soy_meaning.specs.Runs.ComesNext.{ComesNext}
use Rattle.soy_meaning.specs.Runs.FrameRun.{FrameRun, inner_frame}
use Rattle.soy_pieces.specs.Giving.{RunEnv}
use Rattle.soy_meaning.specs.Runs.GivenAt.{OpensCall}
use Rattle.soy_pieces.specs.Pieces.{RunContext}
use Rattle.soy_pieces.specs.Site.{Site}
use Rattle.soy_pieces.specs.Site.{starts_at}

abbrev pub GivesBlock : Arguments → Kind → Nodes → Type 0
GivesBlock no_argument kind body = ⊥
GivesBlock (argument name (Plain e) span rest) kind body = GivesBlock rest kind body
GivesBlock (argument name (Block k b) span rest) kind body = ((kind ≡ k) × (body ≡ b)) ⊎ GivesBlock rest kind body

-- a let, or a call, in which this block is written
abbrev pub WritesBlock : Node → Kind → Nodes → Type 0
WritesBlock (LetBlock name k b span) kind body = (kind ≡ k) × (body ≡ b)
WritesBlock (Call name all given span) kind body = GivesBlock given kind body
WritesBlock _ kind body = ⊥

pub data IsOpened (c : RunContext) (entry : FrameRun) : FrameRun → Type 0 where
  itself : IsOpened c entry entry
  a_block : {q : FrameRun} {n : Node} {ns : Nodes} {env : RunEnv} {kind : Kind} {body : Nodes} {scope : Scope}
      → IsOpened c entry q → ComesNext c q (node n ns) env → WritesBlock n kind body
      → IsOpened c entry (inner_frame q kind body scope env)
  a_call : {q inner : FrameRun} {name : Name} {all : Bool} {given : Arguments} {span : Span} {ns : Nodes} {env : RunEnv}
      → IsOpened c entry q → ComesNext c q (node (Call name all given span) ns) env
      → OpensCall c q name all given env inner → IsOpened c entry inner

pub record StopsWithin (c : RunContext) (entry : FrameRun) (call : Site) : Type 0 where
  pub frame : FrameRun
  pub opened : IsOpened c entry frame
  pub none_left : frame.left ≡ 0
  pub name : Name
  pub all : Bool
  pub given : Arguments
  pub span : Span
  pub rest : Nodes
  pub env : RunEnv
  pub comes : ComesNext c frame (node (Call name all given span) rest) env
  pub site : call ≡ starts_at frame.template.file span

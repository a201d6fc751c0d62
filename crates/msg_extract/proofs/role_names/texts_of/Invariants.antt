use Rattle.std.proofs.Common.{◌≡◌, take}
use Rattle.msg_extract.proofs.role_names.texts_of.Given as goal

abbrev pub invariant-loop-key : goal.invariant-loop-key
invariant-loop-key l = l.names ≡ take l.key-index l.keys

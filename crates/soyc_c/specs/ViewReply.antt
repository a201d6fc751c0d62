-- How a run ended, as the reply that it is.
--
-- Example: one that is done with nothing on its sinks is the reply of the status 0 without texts.
use Rattle.soyc_c.specs.Reply.{Reply, status_number}
use Rattle.soyc_c.specs.declared.reply.Ended.{Ended}

abbrev pub view_reply : Ended → Reply
view_reply ended = record { status = status_number ended.status; out = ended.out; err = ended.err }

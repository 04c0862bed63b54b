-- What the replay of a script gives.
use Rattle.std.specs.Prelude.{IsTrue, List}
use Rattle.ris_base.specs.Legal.{IsLegal}
use Rattle.ris_base.specs.Lists.{EachPair}
use Rattle.ris_base.specs.Replies.{can_have}
use Rattle.ris_base.specs.Transcript.{asked_in, replies_in, setup_of}
use Rattle.ris_base.specs.declared.analyses.Spec.{Spec}
use Rattle.ris_base.specs.declared.lines.Line.{Line}
use Rattle.ris_base.specs.declared.replies.LogLine.{LogLine}
use Rattle.ris_base.specs.declared.scripts.Script.{Script}

-- each command has a reply of its kind, and the replies and the serial list are legal
pub record AreAnswered (script : Script) (specs : List Spec) (logs : List (List LogLine)) (lines : List Line) : Type 0 where
  pub form : EachPair (EachPair (λ asked reply. IsTrue (can_have asked reply))) script.commands logs
  pub legal : IsLegal (setup_of script specs) (asked_in script.commands) (replies_in logs) lines

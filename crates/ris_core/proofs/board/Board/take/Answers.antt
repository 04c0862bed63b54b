use Rattle.ris_core.proofs.board.Board.take.Goals as goal

pub invariant_of-self : goal.invariant_of-self
invariant_of-self c = c.self.invariant

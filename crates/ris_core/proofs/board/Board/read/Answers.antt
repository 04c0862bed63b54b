use Rattle.std.proofs.Common.{◌≡◌, length, subst}
use Rattle.std.specs.List.{All}
use Rattle.ris_core.specs.Stands.{Listing}
use Rattle.ris_core.proofs.board.Board.read.Goals as goal

pub returns-in_default-clause-full : goal.returns-in_default-clause-full
returns-in_default-clause-full c = subst (λ (l : Listing). All (λ tables. length tables ≡ length l.specs) l.places) c.self.view_is c.self.invariant.2

pub returns-then-not-is_answered-clause-full : goal.returns-then-not-is_answered-clause-full
returns-then-not-is_answered-clause-full c = subst (λ (l : Listing). All (λ tables. length tables ≡ length l.specs) l.places) c.self.view_is c.self.invariant.2

pub returns-then-not-exists-clause-full : goal.returns-then-not-exists-clause-full
returns-then-not-exists-clause-full c = subst (λ (l : Listing). All (λ tables. length tables ≡ length l.specs) l.places) c.self.view_is c.self.invariant.2

pub returns-in_err-reply-clause-full : goal.returns-in_err-reply-clause-full
returns-in_err-reply-clause-full c = subst (λ (l : Listing). All (λ tables. length tables ≡ length l.specs) l.places) c.self.view_is c.self.invariant.2

pub returns-in_err-read-clause-full : goal.returns-in_err-read-clause-full
returns-in_err-read-clause-full c = subst (λ (l : Listing). All (λ tables. length tables ≡ length l.specs) l.places) c.self.view_is c.self.invariant.2

pub returns-clause-full : goal.returns-clause-full
returns-clause-full c = subst (λ (l : Listing). All (λ tables. length tables ≡ length l.specs) l.places) c.self.view_is c.self.invariant.2

pub invariant_of-self : goal.invariant_of-self
invariant_of-self c = c.self.invariant

pub invariant_of-self-2 : goal.invariant_of-self-2
invariant_of-self-2 c = c.self.invariant

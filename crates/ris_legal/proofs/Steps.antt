-- What a state keeps, each step of the machine keeps, and so does each run; so what a run leaves is legal.
use Rattle.std.proofs.Common.{List, [], ◌∷◌, arith, refl, sym, subst}
use Rattle.std.proofs.lemmas.Option.{slice_get_within}
use Rattle.ris_base.specs.Answers.{Setup}
use Rattle.ris_base.specs.Forest.{Forest, AreForests}
use Rattle.ris_base.specs.Graph.{IsProper}
use Rattle.ris_base.specs.Lines.{front}
use Rattle.ris_base.specs.Machine.{Happens, Run, State, Step, opened}
use Rattle.ris_base.specs.Requests.{after}
use Rattle.ris_legal.specs.Held.{IsKept, IsLegalState, account_in}
use Rattle.ris_legal.proofs.CellSteps.{kept-submit, kept-cell, kept-seal}
use Rattle.ris_legal.proofs.Legality.{legal}
use Rattle.ris_legal.proofs.Lists.{are-right}
use Rattle.ris_legal.proofs.OutsideSteps.{kept-begin, kept-leave, kept-mark, kept-publish, kept-serial, kept-take, kept-want}
use Rattle.ris_legal.proofs.ReadSteps.{kept-read, kept-want_read}
use Rattle.ris_legal.proofs.Telling.{opened-kept}

-- each step keeps it
pub step-kept : (old : State) (step : Step) (new : State) → Happens old step new → IsKept old → IsKept new
step-kept old (Step.Submit s r) new h k = kept-submit old s r new h k
step-kept old (Step.Take s) new h k = kept-take old s new h k
step-kept old (Step.Begin held) new h k = kept-begin old held new h k
step-kept old (Step.Cell n s) new h k = kept-cell old n s new h k
step-kept old (Step.Seal order) new h k = kept-seal old order new h k
step-kept old (Step.Serial s forests) new h k = kept-serial old s forests new h k
step-kept old (Step.Mark s) new h k = kept-mark old s new h k
step-kept old (Step.Leave s) new h k = kept-leave old s new h k
step-kept old Step.Publish new h k = kept-publish old new h k
step-kept old (Step.Read s q) new h k = kept-read old s q new h k
step-kept old (Step.Want s) new h k = kept-want old s new h k
step-kept old (Step.WantToRead s q) new h k = kept-want_read old s q new h k

-- and so does a run
pub run-kept : (old : State) (steps : List Step) (new : State) → Run old steps new → IsKept old → IsKept new
unfolding Run
run-kept old [] new h k = subst IsKept (sym h) k
run-kept old (step ∷ steps) new h k = run-kept h.0 steps new h.2 (step-kept old step h.0 h.1 k)

-- the state in which nothing has happened
pub opened-state : (setup : Setup) (forests : List Forest) → IsProper setup.opening → AreForests setup.opening setup.specs forests → IsKept (opened setup forests)
unfolding front after
opened-state setup forests proper right = record {
  book = record {
    account = opened-kept setup (λ s. []) forests (λ s p q x y less first second. absurd (let w = slice_get_within [] p x first in omega arith))
        (are-right setup.opening setup.specs forests right);
    right = right;
    within = omega arith;
    seats = λ n. record {
      given = omega arith;
      flight = λ f. absurd (f refl);
      waiting = λ q asked past at. absurd (let w = slice_get_within [] q asked at in omega arith);
      known = λ q known less at. absurd (omega arith);
      seen = omega arith;
    };
  };
  proper = proper;
  outside = λ p n. (λ e. cc, λ e. cc);
  empty = λ p n. refl;
  cells = λ p. absurd (cc);
}

-- a state that keeps it is legal
pub kept-legal : (s : State) → IsKept s → IsLegalState s
kept-legal s k = legal s.setup (account_in s.book) k.book.account

-- so what any list of steps leaves is legal
pub run-legal : (setup : Setup) (forests : List Forest) (steps : List Step) (new : State) → IsProper setup.opening
    → AreForests setup.opening setup.specs forests → Run (opened setup forests) steps new → IsLegalState new
run-legal setup forests steps new proper right h = kept-legal new (run-kept (opened setup forests) steps new h (opened-state setup forests proper right))

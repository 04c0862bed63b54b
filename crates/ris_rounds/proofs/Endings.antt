-- Where all players are done, what they were told is legal.
use Rattle.std.proofs.Common.{◌≡◌, ℕ, zero, suc, ◌+◌, ◌<◌, inl, inr, List, [], ◌∷◌, map, get_or, arith, refl, sym, subst, ap, ◌∙◌}
use Rattle.std.specs.Prelude.{IsTrue}
use Rattle.std.specs.List.{slice_get}
use Rattle.std.proofs.lemmas.List.{get_or_past, length-map}
use Rattle.std.proofs.lemmas.Bool.{cases_lt}
use Rattle.std.proofs.lemmas.Option.{get_or_from_slice_get}
use Rattle.ris_base.specs.Answers.{Setup}
use Rattle.ris_base.specs.Epoch.{Ground}
use Rattle.ris_base.specs.Legal.{Commands, IsLegal, Replies}
use Rattle.ris_base.specs.Lists.{EachPair}
use Rattle.ris_base.specs.Machine.{commands_of, replies_of}
use Rattle.ris_base.specs.Records.{lines_of, setup_for}
use Rattle.ris_base.specs.Replies.{can_have}
use Rattle.ris_base.specs.Transcript.{asked_in, replies_in}
use Rattle.ris_base.specs.declared.commands.Command.{Command}
use Rattle.ris_base.specs.declared.lines.Line.{Line}
use Rattle.ris_base.specs.declared.replies.LogLine.{LogLine}
use Rattle.ris_legal.proofs.Steps.{kept-legal}
use Rattle.ris_session.specs.PlayerView.{PlayerView, player_of, step_of}
use Rattle.ris_session.specs.declared.players.Next.TheVariants as step
use Rattle.ris_session.proofs.PlayerLaws.{given_of-done, length-log}
use Rattle.ris_rounds.specs.Rounds.{IsPlayed, RunView, commands_at, player_at}
use Rattle.ris_rounds.proofs.Lists.{each-pair, numbered-at}
use Rattle.std.proofs.Math.Path.{fun_ext}
use Rattle.ris_rounds.proofs.Sittings.{played-kept}

-- the log of each player
logs-at : (players : List PlayerView) (n m : ℕ) → get_or (map (λ (p : PlayerView). p.log) players) n [] ≡ (get_or players n (player_of m [])).log
logs-at [] n m = refl
logs-at (p ∷ players) zero m = refl
logs-at (p ∷ players) (suc n) m = logs-at players n m

module _ (ground : Ground) (lists : List (List Command)) (run : RunView) (p : IsPlayed ground lists run)
    (all_done : (n : ℕ) → n < ground.start.sessions → step_of (player_at run n) ≡ step.Done) where
  abbrev setup : Setup
  setup = setup_for ground.opening ground.specs ground.start

  abbrev logs : List (List LogLine)
  logs = map (λ (x : PlayerView). x.log) run.players

  -- a player that isn't there has nothing to do
  done : (n : ℕ) → step_of (player_at run n) ≡ step.Done
  done n = elim (cases_lt n ground.start.sessions) [
    | inl less ↦ all_done n less
    | inr past ↦ (let all = p.players in
        subst (λ (x : PlayerView). step_of x ≡ step.Done) (sym (get_or_past run.players n (player_of n []) (omega arith))) refl)
  ]

  commands-are : commands_of p.state ≡ asked_in lists
  commands-are = fun_ext
      (λ n. (p.stands.seats n).asked ∙ given_of-done (commands_at lists n) (player_at run n) (p.sessions n).plays (done n))

  replies-are : replies_of p.state ≡ replies_in (map (λ (x : PlayerView). x.log) run.players)
  replies-are = fun_ext
      (λ n. (p.stands.seats n).replies ∙ sym (logs-at run.players n n))

  -- the replies and the lines are legal
  pub ended-legal : IsLegal (setup_for ground.opening ground.specs ground.start) (asked_in lists) (replies_in (map (λ (x : PlayerView). x.log) run.players)) (lines_of run.records)
  ended-legal =
      subst (λ (s : Setup). IsLegal s (asked_in lists) (replies_in logs) (lines_of run.records)) p.stands.setup
      (subst (λ (cs : Commands). IsLegal p.state.setup cs (replies_in logs) (lines_of run.records)) commands-are
      (subst (λ (rs : Replies). IsLegal p.state.setup (commands_of p.state) rs (lines_of run.records)) replies-are
      (subst (λ (ls : List Line). IsLegal p.state.setup (commands_of p.state) (replies_of p.state) ls) p.stands.lines
      (kept-legal p.state (played-kept ground lists run p)))))

  -- a session has one reply to each command, of its kind
  ended-session : (n : ℕ) → EachPair (λ command reply. IsTrue (can_have command reply)) (commands_at lists n) (player_at run n).log
  ended-session n = each-pair (λ command reply. IsTrue (can_have command reply)) (commands_at lists n) (player_at run n).log
      (sym (length-log (player_at run n) (done n) ∙ (p.sessions n).plays.count))
      (λ k c reply at told. ended-legal.kinds.kinds n k (record { seq = 0 + k; command = c }) reply (numbered-at 0 (commands_at lists n) k c at)
      (ap (λ (ls : List LogLine). slice_get ls k) (logs-at run.players n n) ∙ told))

  pub ended-kinds : EachPair (EachPair (λ command reply. IsTrue (can_have command reply))) lists (map (λ (x : PlayerView). x.log) run.players)
  ended-kinds = each-pair (EachPair (λ command reply. IsTrue (can_have command reply))) lists (map (λ (x : PlayerView). x.log) run.players)
      (let few = p.players in let one_each = p.given.one_each in let all = length-map run.players (λ (x : PlayerView). x.log) in omega arith)
      (λ n cs log first second.
      subst (λ (x : List Command). EachPair (λ command reply. IsTrue (can_have command reply)) x log) (get_or_from_slice_get lists n cs [] first)
      (subst (λ (x : List LogLine). EachPair (λ command reply. IsTrue (can_have command reply)) (commands_at lists n) x)
      (sym (logs-at run.players n n) ∙ get_or_from_slice_get (map (λ (x : PlayerView). x.log) run.players) n log [] second) (ended-session n)))

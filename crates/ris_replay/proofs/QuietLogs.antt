-- Replies that don't want memory: what becomes of them where players go on or are told outcomes.
use Rattle.std.proofs.Common.{◌≡◌, ℕ, zero, suc, ◌<◌, ◌⊎◌, inl, inr, Bool, false, List, [], ◌∷◌, ◌++◌, length, map, get_or, set, arith, sym, subst, ◌∙◌}
use Rattle.std.specs.List.{Contains, fold, list_any}
use Rattle.std.proofs.lemmas.Bool.{or_from, or_parts}
use Rattle.std.proofs.lemmas.List.Folds.{list_any-append}
use Rattle.ris_base.specs.Epoch.{Resolved}
use Rattle.ris_base.specs.Replies.{wants_memory}
use Rattle.ris_base.specs.declared.replies.LogLine.TheVariants.{Reply}
use Rattle.ris_base.proofs.ListLemmas.{Contains-cases, Contains-none}
use Rattle.ris_rounds.specs.Rounds.{player_in, told_player}
use Rattle.ris_session.specs.PlayerView.{PlayerView, after_reply, player_of}
use Rattle.ris_replay.specs.RoundsView.{AllFit, AreQuiet}

-- where no item of one list more passes, no item of the list does, nor does the last
pub any-none : {X : Type 0} (p : X → Bool) (xs : List X) (x : X) → list_any p (xs ++ x ∷ []) ≡ false → (list_any p xs ≡ false) × (p x ≡ false)
any-none p xs x h =
    let split = or_parts (list_any p xs) (list_any p (x ∷ [])) (sym (list_any-append p xs (x ∷ [])) ∙ h) in
    (split.0, (or_parts (p x) false split.1).0)

-- the replies of one player don't want memory
abbrev pub IsQuiet : PlayerView → Type 0
IsQuiet p = list_any wants_memory p.log ≡ false

-- where another player is put in the place of one, and all are quiet, the new one is; and where the old one is too, so were all before
pub put-quiet : (players : List PlayerView) (n : ℕ) (p d : PlayerView) → n < length players → AreQuiet (set players n p)
    → IsQuiet p × (IsQuiet (get_or players n d) → AreQuiet players)
put-quiet [] n p d here h = absurd (omega arith)
put-quiet (x ∷ players) zero p d here h =
    let split = or_parts (list_any wants_memory p.log) (list_any (list_any wants_memory) (map (λ (y : PlayerView). y.log) players)) h in
    (split.0, λ own. or_from (list_any wants_memory x.log) (list_any (list_any wants_memory) (map (λ (y : PlayerView). y.log) players)) own split.1)
put-quiet (x ∷ players) (suc n) p d here h =
    let split = or_parts (list_any wants_memory x.log) (list_any (list_any wants_memory) (map (λ (y : PlayerView). y.log) (set players n p))) h in
    let more = put-quiet players n p d (omega arith) split.1 in
    (more.0, λ own. or_from (list_any wants_memory x.log) (list_any (list_any wants_memory) (map (λ (y : PlayerView). y.log) players)) split.0 (more.1 own))

-- where players that were told outcomes are quiet, they were before, and no outcome wants memory
pub told-quiet : (players : List PlayerView) (outcomes : List Resolved) → AllFit players outcomes → AreQuiet (fold told_player players outcomes)
    → AreQuiet players × ((o : Resolved) → Contains outcomes o → wants_memory (Reply o.outcome) ≡ false)
unfolding AllFit
told-quiet players [] fit h = (h, λ o has. absurd (Contains-none o has))
told-quiet players (o ∷ outcomes) fit h =
    let more = told-quiet (told_player players o) outcomes fit.1 h in
    let p : PlayerView = player_in players o.session in
    let put = put-quiet players o.session (after_reply p o.outcome) (player_of o.session []) fit.0.here more.0 in
    let split = any-none wants_memory p.log (Reply o.outcome) put.0 in
    (put.1 split.0, λ x has. later more.1 split.1 x (Contains-cases o outcomes x has))
  where
    later : ((x : Resolved) → Contains outcomes x → wants_memory (Reply x.outcome) ≡ false) → wants_memory (Reply o.outcome) ≡ false
        → (x : Resolved) → (o ≡ x) ⊎ Contains outcomes x → wants_memory (Reply x.outcome) ≡ false
    later more own x (inl first) = subst (λ (y : Resolved). wants_memory (Reply y.outcome) ≡ false) first own
    later more own x (inr rest) = more x rest

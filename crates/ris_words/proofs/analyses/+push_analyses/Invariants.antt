use Rattle.ris_words.proofs.analyses.+push_analyses.Given as goal

abbrev pub decreases-push_analyses : goal.decreases-push_analyses
decreases-push_analyses l = l.most

use Rattle.ris_words.proofs.analyses.+are_analyses.Given as goal

abbrev pub decreases-are_analyses : goal.decreases-are_analyses
decreases-are_analyses l = l.most

use Rattle.std.proofs.Common.{◌∙◌, ap, length}
use Rattle.ris_words.specs.Made.{random_of}
use Rattle.ris_words.proofs.MadeLemmas.{length-draw_edges, script-made}
use Rattle.ris_words.proofs.scripts.make_script.Goals as goal

pub put_commands-requires : goal.put_commands-requires
put_commands-requires c = ap length c.in_ok-base.ensures.value ∙ length-draw_edges 5000 c.new-random.result

pub returns : goal.returns
returns c =
    c.from_vec.ensures
    ∙ script-made c.args.seed c.args.size c.new-random.result c.draw_edges.new.random c.in_ok-base.base _ _ _ (c.new-random.ensures ∙ ap random_of c.from.ensures)
    c.in_ok-base.ensures.value c.in_ok-base.ensures.rest (rw c.in_ok-text.ensures.items at c.in_ok-put_word.ensures) c.in_ok-put_base.ensures
    c.in_ok-put_commands.ensures

use Rattle.std.proofs.Common.{◌∙◌, arith}
use Rattle.ris_words.proofs.MadeLemmas.{adde-put, dele-put, value-put, modified-put, addv-put}
use Rattle.ris_words.proofs.scripts.put_command.Goals as goal

pub returns-in_ok-put_edge-in-0-to-3-clause-text : goal.returns-in_ok-put_edge-in-0-to-3-clause-text
returns-in_ok-put_edge-in-0-to-3-clause-text c =
    (adde-put c.args.base.now c.args.random.now c.draw.new.random c.draw_edge.new.random c.draw.result c.draw_edge.result _ _ _ c.draw.ensures.value c.draw.ensures.rest
    (omega arith) c.draw_edge.ensures.value c.draw_edge.ensures.rest
    c.in_ok-put_word-in-0-to-3.ensures c.in_ok-put_edge-in-0-to-3.ensures).0

pub returns-in_ok-put_edge-in-0-to-3-clause-rest : goal.returns-in_ok-put_edge-in-0-to-3-clause-rest
returns-in_ok-put_edge-in-0-to-3-clause-rest c =
    (adde-put c.args.base.now c.args.random.now c.draw.new.random c.draw_edge.new.random c.draw.result c.draw_edge.result _ _ _ c.draw.ensures.value c.draw.ensures.rest
    (omega arith) c.draw_edge.ensures.value c.draw_edge.ensures.rest
    c.in_ok-put_word-in-0-to-3.ensures c.in_ok-put_edge-in-0-to-3.ensures).1

pub returns-in_ok-put_edge-in-4-to-6-clause-text : goal.returns-in_ok-put_edge-in-4-to-6-clause-text
returns-in_ok-put_edge-in-4-to-6-clause-text c =
    (dele-put c.args.base.now c.args.random.now c.draw.new.random c.draw-in-4-to-6.new.random c.draw.result c.from-in-4-to-6.result c.at.result.now _ _ _ c.draw.ensures.value c.draw.ensures.rest
    (omega arith) (omega arith) (c.from-in-4-to-6.ensures ∙ c.draw-in-4-to-6.ensures.value) c.draw-in-4-to-6.ensures.rest c.at.ensures
    c.in_ok-put_word-in-4-to-6.ensures c.in_ok-put_edge-in-4-to-6.ensures).0

pub returns-in_ok-put_edge-in-4-to-6-clause-rest : goal.returns-in_ok-put_edge-in-4-to-6-clause-rest
returns-in_ok-put_edge-in-4-to-6-clause-rest c =
    (dele-put c.args.base.now c.args.random.now c.draw.new.random c.draw-in-4-to-6.new.random c.draw.result c.from-in-4-to-6.result c.at.result.now _ _ _ c.draw.ensures.value c.draw.ensures.rest
    (omega arith) (omega arith) (c.from-in-4-to-6.ensures ∙ c.draw-in-4-to-6.ensures.value) c.draw-in-4-to-6.ensures.rest c.at.ensures
    c.in_ok-put_word-in-4-to-6.ensures c.in_ok-put_edge-in-4-to-6.ensures).1

pub returns-in_ok-put_word-in-7-2-clause-text : goal.returns-in_ok-put_word-in-7-2-clause-text
returns-in_ok-put_word-in-7-2-clause-text c =
    (value-put c.args.base.now c.args.random.now c.draw.new.random c.draw-in-7.new.random c.draw-in-7-2.new.random c.draw.result c.from.result c.from-in-7.result _ _ _ _ _ c.draw.ensures.value c.draw.ensures.rest
    c.in-7.is (c.from.ensures ∙ c.draw-in-7.ensures.value) c.draw-in-7.ensures.rest
    (c.from-in-7.ensures ∙ c.draw-in-7-2.ensures.value) c.draw-in-7-2.ensures.rest c.in_ok-put_word-in-7.ensures
    c.in_ok-put_number-in-7.ensures c.in_ok-put_field-in-7.ensures c.in_ok-put_word-in-7-2.ensures).0

pub returns-in_ok-put_word-in-7-2-clause-rest : goal.returns-in_ok-put_word-in-7-2-clause-rest
returns-in_ok-put_word-in-7-2-clause-rest c =
    (value-put c.args.base.now c.args.random.now c.draw.new.random c.draw-in-7.new.random c.draw-in-7-2.new.random c.draw.result c.from.result c.from-in-7.result _ _ _ _ _ c.draw.ensures.value c.draw.ensures.rest
    c.in-7.is (c.from.ensures ∙ c.draw-in-7.ensures.value) c.draw-in-7.ensures.rest
    (c.from-in-7.ensures ∙ c.draw-in-7-2.ensures.value) c.draw-in-7-2.ensures.rest c.in_ok-put_word-in-7.ensures
    c.in_ok-put_number-in-7.ensures c.in_ok-put_field-in-7.ensures c.in_ok-put_word-in-7-2.ensures).1

pub returns-in_ok-put_word-in-8-2-clause-text : goal.returns-in_ok-put_word-in-8-2-clause-text
returns-in_ok-put_word-in-8-2-clause-text c =
    (modified-put c.args.base.now c.args.random.now c.draw.new.random c.draw-in-8.new.random c.draw.result c.from-in-8.result _ _ _ _ c.draw.ensures.value c.draw.ensures.rest
    c.in-8.is (c.from-in-8.ensures ∙ c.draw-in-8.ensures.value) c.draw-in-8.ensures.rest
    c.in_ok-put_word-in-8.ensures c.in_ok-put_number-in-8.ensures c.in_ok-put_word-in-8-2.ensures).0

pub returns-in_ok-put_word-in-8-2-clause-rest : goal.returns-in_ok-put_word-in-8-2-clause-rest
returns-in_ok-put_word-in-8-2-clause-rest c =
    (modified-put c.args.base.now c.args.random.now c.draw.new.random c.draw-in-8.new.random c.draw.result c.from-in-8.result _ _ _ _ c.draw.ensures.value c.draw.ensures.rest
    c.in-8.is (c.from-in-8.ensures ∙ c.draw-in-8.ensures.value) c.draw-in-8.ensures.rest
    c.in_ok-put_word-in-8.ensures c.in_ok-put_number-in-8.ensures c.in_ok-put_word-in-8-2.ensures).1

pub returns-in_ok-put_word-in_default-2-clause-text : goal.returns-in_ok-put_word-in_default-2-clause-text
returns-in_ok-put_word-in_default-2-clause-text c =
    (addv-put c.args.base.now c.args.random.now c.draw.new.random c.draw-in_default.new.random c.draw.result c.from-in_default.result _ _ _ _ c.draw.ensures.value c.draw.ensures.rest
    (omega arith) (c.from-in_default.ensures ∙ c.draw-in_default.ensures.value) c.draw-in_default.ensures.rest
    c.in_ok-put_word-in_default.ensures c.in_ok-put_field-in_default.ensures c.in_ok-put_word-in_default-2.ensures).0

pub returns-in_ok-put_word-in_default-2-clause-rest : goal.returns-in_ok-put_word-in_default-2-clause-rest
returns-in_ok-put_word-in_default-2-clause-rest c =
    (addv-put c.args.base.now c.args.random.now c.draw.new.random c.draw-in_default.new.random c.draw.result c.from-in_default.result _ _ _ _ c.draw.ensures.value c.draw.ensures.rest
    (omega arith) (c.from-in_default.ensures ∙ c.draw-in_default.ensures.value) c.draw-in_default.ensures.rest
    c.in_ok-put_word-in_default.ensures c.in_ok-put_field-in_default.ensures c.in_ok-put_word-in_default-2.ensures).1

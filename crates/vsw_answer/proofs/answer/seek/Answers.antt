use Rattle.std.proofs.Common.{ap, ◌∙◌}
use Rattle.vsw_answer.proofs.Looks.{hit_at, miss_at}
use Rattle.vsw_words.specs.Key.{key_words}
use Rattle.vsw_words.specs.Slot.{slot}
use Rattle.vsw_answer.proofs.answer.seek.Goals as goal

pub returns-clause-miss : goal.returns-clause-miss
returns-clause-miss c =
    miss_at c.look.result c.look.new.pass.view c.key_words.new.out (key_words c.args.id.now.dir c.args.id.now.stack) c.slot_of-slot.result c.args.lookup.now.2 c.key_words.ensures.words
    (c.slot_of-slot.ensures.value ∙ ap (slot c.key_words.new.out) c.rows.ensures.rows) c.look.ensures.miss

pub returns-clause-found : goal.returns-clause-found
returns-clause-found c =
    hit_at c.look.result c.args.lookup.now c.args.id.now c.look.new.pass.view c.key_words.new.out c.look.new.body c.slot_of-slot.result c.key_words.ensures.words
    (c.slot_of-slot.ensures.value ∙ ap (slot c.key_words.new.out) c.rows.ensures.rows) c.look.ensures.found

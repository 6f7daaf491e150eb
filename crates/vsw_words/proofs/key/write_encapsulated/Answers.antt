use Rattle.vsw_words.proofs.Leveled.{words_are, fit_are}
use Rattle.vsw_words.proofs.key.write_encapsulated.Goals as goal

pub returns-clause-words : goal.returns-clause-words
returns-clause-words c = words_are c.args.dir c.args.headers.now c.after.result.now c.after-2.result.now c.after-3.result.now c.inner_of-last.result.now c.head-first.result c.bit_of.result c.count-count.result c.write_levels.new.out c.requires c.write_levels.ensures.words c.after.ensures c.after-2.ensures c.after-3.ensures c.head-first.ensures.value c.bit_of.ensures.value c.count-count.ensures.count c.inner_of-last.ensures

pub returns-clause-fit : goal.returns-clause-fit
returns-clause-fit c = fit_are c.args.headers.now c.after.result.now c.after-2.result.now c.after-3.result.now c.inner_of-last.result.now c.requires c.after.ensures c.after-2.ensures c.after-3.ensures c.inner_of-last.ensures c.write_levels.ensures.one c.write_levels.ensures.two c.write_levels.ensures.three c.write_levels.ensures.six c.head-first.ensures.fits

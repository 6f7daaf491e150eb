use Rattle.vsw_words.proofs.Passes.{last_pass_told, last_pass_read, last_drop_told, drop_rule, drop_default}
use Rattle.vsw_words.proofs.reading.read_last.Goals as goal

pub returns-in-Pass-clause-told : goal.returns-in-Pass-clause-told
returns-in-Pass-clause-told c done dropper = last_pass_told c.args.verdict.now c.args.count c.args.last.now c.read_pass.new.by c.in-Pass.is c.requires (c.read_pass.ensures.told done) (c.read_pass.ensures.form done)

pub returns-in-Pass-clause-back : goal.returns-in-Pass-clause-back
returns-in-Pass-clause-back c xs body acts are =
    let k = last_pass_read c.args.verdict.now c.args.count c.args.last.now xs c.in-Pass.is body acts are in
    c.read_pass.ensures.back xs k.1 k.2 k.3

pub returns-in-Rule-clause-told : goal.returns-in-Rule-clause-told
returns-in-Rule-clause-told c done dropper = last_drop_told c.args.verdict.now c.args.count c.args.last.now c.read_drop.new.by c.read_drop.result (drop_rule _ _ _ _ _ c.in-Rule.is) c.requires c.read_drop.ensures.value c.read_drop.ensures.bare done dropper

pub returns-in-Default-clause-told : goal.returns-in-Default-clause-told
returns-in-Default-clause-told c done dropper = last_drop_told c.args.verdict.now c.args.count c.args.last.now c.read_drop-in-Default.new.by c.read_drop-in-Default.result (drop_default _ _ _ _ c.in-Default.is) c.requires c.read_drop-in-Default.ensures.value c.read_drop-in-Default.ensures.bare done dropper

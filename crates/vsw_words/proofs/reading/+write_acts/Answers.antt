use Rattle.std.proofs.Common.{◌∙◌, sym, ◌-◌, arith, ap, length, length-append, ◌∷◌, []}
use Rattle.vsw_words.proofs.Taken.{one_taken, pair_long, pushed_on, told_long, two_taken}
use Rattle.vsw_words.specs.Reading.{src_of}
use Rattle.vsw_words.proofs.reading.+write_acts.Goals as goal

pub write_acts-requires : goal.write_acts-requires
write_acts-requires n c =
    let k = one_taken c.args.count c.args.words.now c.behind-rest.result.now c.first_three-head.result c.joined_act.result c.act_of.result (omega (arith, c.if-count-eq0.false)) (told_long c.args.count c.args.words.now (omega (arith, c.if-count-eq0.false)) c.requires.told) c.first_three-head.ensures c.behind-rest.ensures c.requires.told c.joined_act.ensures c.in-None.is c.act_of.ensures in
    (omega (arith, c.decreases, c.if-count-eq0.false), (k.0, omega (arith, c.requires.room, c.if-count-eq0.false, ap length c.push.ensures, length-append c.args.out.now (c.act_of.result ∷ []))))

pub write_acts-requires-in-Some : goal.write_acts-requires-in-Some
write_acts-requires-in-Some n c =
    let k = two_taken c.args.count c.args.words.now c.behind-rest.result.now c.behind.result.now c.first_three-head.result c.joined_act.result c.in-Some.both (omega (arith, c.if-count-eq0.false)) (told_long c.args.count c.args.words.now (omega (arith, c.if-count-eq0.false)) c.requires.told) c.first_three-head.ensures c.behind-rest.ensures c.behind.ensures c.requires.told c.joined_act.ensures c.in-Some.is in
    (omega (arith, c.decreases, k.0), (k.1.0, omega (arith, c.requires.room, k.0, ap length c.push-in-Some.ensures, length-append c.args.out.now (c.in-Some.both ∷ []))))

pub returns-in-None : goal.returns-in-None
returns-in-None n c =
    let k = one_taken c.args.count c.args.words.now c.behind-rest.result.now c.first_three-head.result c.joined_act.result c.act_of.result (omega (arith, c.if-count-eq0.false)) (told_long c.args.count c.args.words.now (omega (arith, c.if-count-eq0.false)) c.requires.told) c.first_three-head.ensures c.behind-rest.ensures c.requires.told c.joined_act.ensures c.in-None.is c.act_of.ensures in
    pushed_on _ _ _ _ _ _ c.push.ensures c.write_acts.ensures k.1

pub returns-in-Some : goal.returns-in-Some
returns-in-Some n c =
    let k = two_taken c.args.count c.args.words.now c.behind-rest.result.now c.behind.result.now c.first_three-head.result c.joined_act.result c.in-Some.both (omega (arith, c.if-count-eq0.false)) (told_long c.args.count c.args.words.now (omega (arith, c.if-count-eq0.false)) c.requires.told) c.first_three-head.ensures c.behind-rest.ensures c.behind.ensures c.requires.told c.joined_act.ensures c.in-Some.is in
    pushed_on _ _ _ _ _ _ c.push-in-Some.ensures c.write_acts-in-Some.ensures k.1.1

pub first_three-head-requires : goal.first_three-head-requires
first_three-head-requires n c = told_long c.args.count c.args.words.now (omega (arith, c.if-count-eq0.false)) c.requires.told

pub behind-rest-requires : goal.behind-rest-requires
behind-rest-requires n c = told_long c.args.count c.args.words.now (omega (arith, c.if-count-eq0.false)) c.requires.told

pub behind-requires : goal.behind-requires
behind-requires n c = pair_long (src_of c.first_three-head.result.0 c.first_three-head.result.1 c.first_three-head.result.2) (c.args.count - 1) c.behind-rest.result.now c.in-Some.both (sym c.joined_act.ensures ∙ c.in-Some.is)

use Rattle.std.proofs.Common.{◌∙◌, ap, sym, refl, arith, drop, length, List, ◌++◌, ◌-◌}
use Rattle.vsw_words.proofs.OfKind.{words_of}
use Rattle.vsw_words.proofs.Pairs.{pair_some}
use Rattle.vsw_words.specs.Reading.{dst_ahead, src_of}
use Rattle.vsw_words.proofs.Done.{both_step, none_appended, one_more, popped_step, pushed_step, stayed_step}
use Rattle.vsw_base.specs.declared.header.Header.{Header}
use Rattle.vsw_words.proofs.Taken.{pair_long, pushed_on, told_long}
use Rattle.vsw_words.proofs.pass.+do_acts.Goals as goal

pub push_new-requires : goal.push_new-requires
push_new-requires t c =
    let s = pushed_step c.args.count c.args.words.now c.behind-rest.result.now c.first_three-head.result c.args.headers.now (words_of c.args.count c.args.words.now c.behind-rest.result.now c.first_three-head.result (omega (arith, c.if-count-eq0.false)) c.first_three-head.ensures c.behind-rest.ensures c.requires.told) (omega (arith, c.if-kind-lt4.true)) in
    omega (arith, c.requires.room, ap length s.made)

pub do_acts-requires : goal.do_acts-requires
do_acts-requires t c =
    let s = pushed_step c.args.count c.args.words.now c.behind-rest.result.now c.first_three-head.result c.args.headers.now (words_of c.args.count c.args.words.now c.behind-rest.result.now c.first_three-head.result (omega (arith, c.if-count-eq0.false)) c.first_three-head.ensures c.behind-rest.ensures c.requires.told) (omega (arith, c.if-kind-lt4.true)) in
    (omega (arith, c.decreases, c.if-count-eq0.false), (s.left, omega (arith, c.requires.room, ap length s.made, one_more _ _ _ c.push_new.ensures)))

pub returns-then-kind-lt4 : goal.returns-then-kind-lt4
returns-then-kind-lt4 t c =
    let s = pushed_step c.args.count c.args.words.now c.behind-rest.result.now c.first_three-head.result c.args.headers.now (words_of c.args.count c.args.words.now c.behind-rest.result.now c.first_three-head.result (omega (arith, c.if-count-eq0.false)) c.first_three-head.ensures c.behind-rest.ensures c.requires.told) (omega (arith, c.if-kind-lt4.true)) in
    pushed_on _ _ _ _ _ _ c.push_new.ensures c.do_acts.ensures s.made

pub returns-in_default : goal.returns-in_default
returns-in_default t c =
    none_appended c.args.count c.args.words.now c.behind-rest.result.now c.first_three-head.result c.args.out.now c.args.headers.now
    (words_of c.args.count c.args.words.now c.behind-rest.result.now c.first_three-head.result (omega (arith, c.if-count-eq0.false)) c.first_three-head.ensures c.behind-rest.ensures c.requires.told) (omega (arith, c.if-kind-lt4.false)) c.in_default.ensures.cases

pub do_acts-requires-then-kind-eq4 : goal.do_acts-requires-then-kind-eq4
do_acts-requires-then-kind-eq4 t c =
    let s = popped_step c.args.count c.args.words.now c.behind-rest.result.now c.first_three-head.result c.args.headers.now c.in-Some.header.now c.in-Some.others.now
    (words_of c.args.count c.args.words.now c.behind-rest.result.now c.first_three-head.result (omega (arith, c.if-count-eq0.false)) c.first_three-head.ensures c.behind-rest.ensures c.requires.told) (omega (arith, c.if-kind-eq4.true)) c.in-Some.ensures.cases.0 in
    (omega (arith, c.decreases, c.if-count-eq0.false), (s.left, omega (arith, c.requires.room, ap length s.made)))

pub returns-then-kind-eq4 : goal.returns-then-kind-eq4
returns-then-kind-eq4 t c =
    let s = popped_step c.args.count c.args.words.now c.behind-rest.result.now c.first_three-head.result c.args.headers.now c.in-Some.header.now c.in-Some.others.now
    (words_of c.args.count c.args.words.now c.behind-rest.result.now c.first_three-head.result (omega (arith, c.if-count-eq0.false)) c.first_three-head.ensures c.behind-rest.ensures c.requires.told) (omega (arith, c.if-kind-eq4.true)) c.in-Some.ensures.cases.0 in
    c.do_acts-then-kind-eq4.ensures ∙ ap (λ (hs : List Header). c.args.out.now ++ hs) (sym s.made)

pub push_both-requires : goal.push_both-requires
push_both-requires t c =
    let s = both_step c.args.count c.args.words.now c.behind-rest.result.now (drop 3 c.behind-rest.result.now) c.first_three-head.result c.args.headers.now c.in-Some.header.now c.in-Some.others.now c.is_pair.result
    (words_of c.args.count c.args.words.now c.behind-rest.result.now c.first_three-head.result (omega (arith, c.if-count-eq0.false)) c.first_three-head.ensures c.behind-rest.ensures c.requires.told) refl c.in-Some.ensures.cases.0 c.is_pair.ensures c.if-is_pair.true in
    omega (arith, c.requires.room, ap length s.1.made)

pub do_acts-requires-then-is_pair : goal.do_acts-requires-then-is_pair
do_acts-requires-then-is_pair t c =
    let s = both_step c.args.count c.args.words.now c.behind-rest.result.now c.behind.result.now c.first_three-head.result c.args.headers.now c.in-Some.header.now c.in-Some.others.now c.is_pair.result
    (words_of c.args.count c.args.words.now c.behind-rest.result.now c.first_three-head.result (omega (arith, c.if-count-eq0.false)) c.first_three-head.ensures c.behind-rest.ensures c.requires.told) c.behind.ensures c.in-Some.ensures.cases.0 c.is_pair.ensures c.if-is_pair.true in
    (omega (arith, c.decreases, s.0), (s.1.left, omega (arith, c.requires.room, s.0, ap length s.1.made, one_more _ _ _ c.push_both.ensures)))

pub returns-then-is_pair : goal.returns-then-is_pair
returns-then-is_pair t c =
    let s = both_step c.args.count c.args.words.now c.behind-rest.result.now c.behind.result.now c.first_three-head.result c.args.headers.now c.in-Some.header.now c.in-Some.others.now c.is_pair.result
    (words_of c.args.count c.args.words.now c.behind-rest.result.now c.first_three-head.result (omega (arith, c.if-count-eq0.false)) c.first_three-head.ensures c.behind-rest.ensures c.requires.told) c.behind.ensures c.in-Some.ensures.cases.0 c.is_pair.ensures c.if-is_pair.true in
    pushed_on _ _ _ _ _ _ c.push_both.ensures c.do_acts-then-is_pair.ensures s.1.made

pub push_old-requires : goal.push_old-requires
push_old-requires t c =
    let s = stayed_step c.args.count c.args.words.now c.behind-rest.result.now c.first_three-head.result c.args.headers.now c.in-Some.header.now c.in-Some.others.now c.is_pair.result
    (words_of c.args.count c.args.words.now c.behind-rest.result.now c.first_three-head.result (omega (arith, c.if-count-eq0.false)) c.first_three-head.ensures c.behind-rest.ensures c.requires.told) (omega (arith, c.if-kind-lt4.false, c.if-kind-eq4.false)) c.in-Some.ensures.cases.0 c.is_pair.ensures c.if-is_pair.false in
    omega (arith, c.requires.room, ap length s.made)

pub do_acts-requires-2 : goal.do_acts-requires-2
do_acts-requires-2 t c =
    let s = stayed_step c.args.count c.args.words.now c.behind-rest.result.now c.first_three-head.result c.args.headers.now c.in-Some.header.now c.in-Some.others.now c.is_pair.result
    (words_of c.args.count c.args.words.now c.behind-rest.result.now c.first_three-head.result (omega (arith, c.if-count-eq0.false)) c.first_three-head.ensures c.behind-rest.ensures c.requires.told) (omega (arith, c.if-kind-lt4.false, c.if-kind-eq4.false)) c.in-Some.ensures.cases.0 c.is_pair.ensures c.if-is_pair.false in
    (omega (arith, c.decreases, c.if-count-eq0.false), (s.left, omega (arith, c.requires.room, ap length s.made, one_more _ _ _ c.push_old.ensures)))

pub returns : goal.returns
returns t c =
    let s = stayed_step c.args.count c.args.words.now c.behind-rest.result.now c.first_three-head.result c.args.headers.now c.in-Some.header.now c.in-Some.others.now c.is_pair.result
    (words_of c.args.count c.args.words.now c.behind-rest.result.now c.first_three-head.result (omega (arith, c.if-count-eq0.false)) c.first_three-head.ensures c.behind-rest.ensures c.requires.told) (omega (arith, c.if-kind-lt4.false, c.if-kind-eq4.false)) c.in-Some.ensures.cases.0 c.is_pair.ensures c.if-is_pair.false in
    pushed_on _ _ _ _ _ _ c.push_old.ensures c.do_acts-2.ensures s.made

pub first_three-head-requires : goal.first_three-head-requires
first_three-head-requires t c = told_long c.args.count c.args.words.now (omega (arith, c.if-count-eq0.false)) c.requires.told

pub behind-rest-requires : goal.behind-rest-requires
behind-rest-requires t c = told_long c.args.count c.args.words.now (omega (arith, c.if-count-eq0.false)) c.requires.told

pub behind-requires : goal.behind-requires
behind-requires t c =
    let d = dst_ahead (c.args.count - 1) c.behind-rest.result.now in
    pair_long (src_of c.first_three-head.result.0 c.first_three-head.result.1 c.first_three-head.result.2) (c.args.count - 1) c.behind-rest.result.now _ (pair_some c.first_three-head.result.0 c.first_three-head.result.1 c.first_three-head.result.2 d (sym c.is_pair.ensures ∙ c.if-is_pair.true))

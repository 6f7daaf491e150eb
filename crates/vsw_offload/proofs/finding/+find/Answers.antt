use Rattle.std.proofs.Common.{◌≡◌, ◌<◌, ◌∷◌, ◌++◌, length, sym, ap, ◌∙◌, arith, rules, length-append}
use Rattle.vsw_offload.specs.Private.Finding.{HasNone, HasOne}
use Rattle.vsw_offload.proofs.Found.{back_rises, front_rises, none_ahead, none_behind, none_on, one_behind, some_on}
use Rattle.vsw_offload.proofs.finding.+find.Goals as goal

pub find-requires : goal.find-requires
find-requires t c =
    let is : c.args.rows.now ≡ c.in-Some.front.now ++ c.in-Some.row.now ∷ c.in-Some.behind.now = c.in-Some.ensures.some in
    let fewer : length c.in-Some.behind.now < length c.args.rows.now = omega (arith, ap length is ∙ length-append c.in-Some.front.now (c.in-Some.row.now ∷ c.in-Some.behind.now)) in
    (search (rules, fewer), back_rises c.args.rows.now c.in-Some.front.now c.in-Some.row.now c.in-Some.behind.now is c.requires.rise)

pub find-requires-else-has_key : goal.find-requires-else-has_key
find-requires-else-has_key t c =
    let is : c.args.rows.now ≡ c.in-Some.front.now ++ c.in-Some.row.now ∷ c.in-Some.behind.now = c.in-Some.ensures.some in
    let fewer : length c.in-Some.front.now < length c.args.rows.now = omega (arith, ap length is ∙ length-append c.in-Some.front.now (c.in-Some.row.now ∷ c.in-Some.behind.now)) in
    (search (rules, fewer), front_rises c.args.rows.now c.in-Some.front.now c.in-Some.row.now c.in-Some.behind.now is c.requires.rise)

pub returns-then-is_below-clause-one : goal.returns-then-is_below-clause-one
returns-then-is_below-clause-one t c =
    some_on c.find.result (λ words. HasOne c.in-Some.behind.now words.now) (λ words. HasOne c.args.rows.now words.now) (λ words one. one_behind c.args.rows.now c.in-Some.front.now c.in-Some.row.now c.in-Some.behind.now words.now c.in-Some.ensures.some one) c.find.ensures.one

pub returns-then-is_below-clause-none : goal.returns-then-is_below-clause-none
returns-then-is_below-clause-none t c =
    none_on c.find.result (HasNone c.in-Some.behind.now c.args.key.now) (HasNone c.args.rows.now c.args.key.now)
    (none_behind c.args.rows.now c.in-Some.front.now c.in-Some.row.now c.in-Some.behind.now c.args.key.now c.in-Some.ensures.some c.requires.rise (sym c.is_below.ensures ∙ c.if-is_below.true)) c.find.ensures.none

pub returns-else-has_key-clause-none : goal.returns-else-has_key-clause-none
returns-else-has_key-clause-none t c =
    none_on c.find-else-has_key.result (HasNone c.in-Some.front.now c.args.key.now) (HasNone c.args.rows.now c.args.key.now)
    (none_ahead c.args.rows.now c.in-Some.front.now c.in-Some.row.now c.in-Some.behind.now c.args.key.now c.in-Some.ensures.some c.requires.rise (sym c.is_below.ensures ∙ c.if-is_below.false) c.if-has_key.ensures.back) c.find-else-has_key.ensures.none

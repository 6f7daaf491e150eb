use Rattle.std.proofs.Common.{◌≡◌, ◌∙◌, ◌≤◌, ◌-◌, ◌*◌, ◌+◌, ℕ, List, ◌++◌, drop, length, length-take, ap, arith}
use Rattle.vsw_base.specs.Frame.{Level, Parts}
use Rattle.vsw_base.specs.Shape.{encaps, inner}
use Rattle.vsw_frame.specs.Bytes.{outgoing}
use Rattle.vsw_frame.specs.Frame.{parts}
use Rattle.vsw_frame.specs.Levels.{Stand, level_fields, levels_of, more_levels}
use Rattle.vsw_frame.proofs.Edits.{Computes, long_answer, short_answer, size_is, room_fits, outgoing_is}
use Rattle.vsw_frame.proofs.writing.rewrite_to.Goals as goal

pub returns-then-total-gt-TOTAL_MAX-clause-answer : goal.returns-then-total-gt-TOTAL_MAX-clause-answer
returns-then-total-gt-TOTAL_MAX-clause-answer c =
    let p : Parts = parts c.args.frame.now in
    let ls = c.levels_without-levels.result in
    let rest : List Level = more_levels ls.second ++ more_levels ls.third in
    let from : ℕ = c.encaps.result in
    let known : Computes p c.args.edited.now c.args.kept (level_fields ls.first) rest from c.encaps-2.result c.outer_total-total.result = record {
      of_stack = c.encaps.ensures.count ∙ ap encaps c.stack-stack.ensures;
      of_edited = c.encaps-2.ensures.count;
      levels = c.levels_without-levels.ensures.levels ∙ ap (drop (from - c.args.kept)) c.all_levels.ensures.levels;
      total_is = c.outer_total-total.ensures;
    } in
    long_answer p c.args.edited.now c.args.kept (level_fields ls.first) rest from c.encaps-2.result c.outer_total-total.result known c.if-total-gt-TOTAL_MAX.true

pub write-requires-clause-fits : goal.write-requires-clause-fits
write-requires-clause-fits c = λ h.
    let n : ℕ = length c.levels_without-levels.result.first.bytes.now in
    let k : ℕ = c.encaps-2.result - c.args.kept in
    let short = room_fits k n (omega (arith, c.outer_total-total.ensures)) h in
    omega (arith, short, c.from.ensures, length-take (50 * c.from.result + n) c.args.out.now)

pub returns-clause-answer : goal.returns-clause-answer
returns-clause-answer c =
    let p : Parts = parts c.args.frame.now in
    let ls = c.levels_without-levels.result in
    let rest : List Level = more_levels ls.second ++ more_levels ls.third in
    let from : ℕ = c.encaps.result in
    let n : ℕ = length ls.first.bytes.now in
    let of_stack : from ≡ encaps p.stack = c.encaps.ensures.count ∙ ap encaps c.stack-stack.ensures in
    let levels : levels_of ls ≡ drop (from - c.args.kept) p.levels = c.levels_without-levels.ensures.levels ∙ ap (drop (from - c.args.kept)) c.all_levels.ensures.levels in
    let known : Computes p c.args.edited.now c.args.kept (level_fields ls.first) rest from c.encaps-2.result c.outer_total-total.result = record {
      of_stack = of_stack;
      of_edited = c.encaps-2.ensures.count;
      levels = levels;
      total_is = c.outer_total-total.ensures;
    } in
    let bytes : c.write.new.out ≡ outgoing p c.args.edited.now c.args.kept = c.write.ensures ∙ outgoing_is p c.args.edited.now c.args.kept c.inner.result.now (levels_of ls) from c.encaps-2.result of_stack c.encaps-2.ensures.count (c.inner.ensures ∙ ap inner c.stack-stack.ensures) levels in
    let stand : Stand (inner p.stack) ls = c.levels_without-levels.ensures.stand (inner p.stack) c.all_levels.ensures.stand in
    let short : n ≤ 65600 = stand.short in
    let len : 50 * c.from.result + n ≡ length (outgoing p c.args.edited.now c.args.kept) = omega (arith, short, c.from.ensures, c.encaps-2.ensures.few, ap length bytes, length-take (50 * c.from.result + n) c.args.out.now) in
    short_answer p c.args.edited.now c.args.kept (level_fields ls.first) rest from c.encaps-2.result c.outer_total-total.result (50 * c.from.result + n) known c.if-total-gt-TOTAL_MAX.false len

pub returns-clause-size : goal.returns-clause-size
returns-clause-size c =
    let p : Parts = parts c.args.frame.now in
    let ls = c.levels_without-levels.result in
    let rest : List Level = more_levels ls.second ++ more_levels ls.third in
    let known : Computes p c.args.edited.now c.args.kept (level_fields ls.first) rest c.encaps.result c.encaps-2.result c.outer_total-total.result = record {
      of_stack = c.encaps.ensures.count ∙ ap encaps c.stack-stack.ensures;
      of_edited = c.encaps-2.ensures.count;
      levels = c.levels_without-levels.ensures.levels ∙ ap (drop (c.encaps.result - c.args.kept)) c.all_levels.ensures.levels;
      total_is = c.outer_total-total.ensures;
    } in
    omega (arith, c.from.ensures, size_is p c.args.edited.now c.args.kept (level_fields ls.first) rest c.encaps.result c.encaps-2.result c.outer_total-total.result known)

use Rattle.std.proofs.Common.{arith, subst, refl, ap, ◌∙◌, ◌≡◌, ◌+◌, ◌-◌, ◌++◌, length, max, length-append, replicate}
use Rattle.vsw_table.proofs.Parts.{far_is, other_behind}
use Rattle.vsw_table.proofs.Tries.{read_more, top_more}
use Rattle.vsw_table.specs.Held.{HasTop}
use Rattle.vsw_table.specs.Steps.{appended, grown}
use Rattle.vsw_table.proofs.look.read_far.Goals as goal

pub has_words-requires-clause-top : goal.has_words-requires-clause-top
has_words-requires-clause-top g c =
    let v = c.args.seat.now.me.0 in
    let near = c.read_words.new.words in
    let is : 7 + length near ≡ 31 = omega (arith, c.read_words.ensures.length, c.split_at_mut-near.ensures.front_len) in
    rw c.read_words.ensures.seat.1 (
      subst (λ k. HasTop (appended v.tried near) (grown v.shown.rows near) c.args.row k) is (top_more v.tried v.shown.rows c.args.row 7 near c.requires.top.0),
      omega (arith, c.told-others),
      c.requires.top.2,
    )

pub returns-then-not-has_words-clause-seat : goal.returns-then-not-has_words-clause-seat
returns-then-not-has_words-clause-seat g c =
    let near = c.read_words.new.words in
    let m = c.if-not-has_words.ensures in (
      near ++ m.1.0,
      read_more c.args.seat.now.me.0 near m.1.0 c.read_words.new.seat.me c.has_words.new.seat.me c.read_words.ensures.seat.1 m.1.1,
      other_behind near m.1.0 c.args.others.now (omega (arith, c.read_words.ensures.length, c.split_at_mut-near.ensures.front_len)) m.1.2,
    )

pub read_words-requires-2-clause-top : goal.read_words-requires-2-clause-top
read_words-requires-2-clause-top g c =
    let v = c.args.seat.now.me.0 in
    let near = c.read_words.new.words in
    let m = c.if-not-has_words.ensures in
    let both = near ++ m.1.0 in
    let is : 7 + length both ≡ 43 = omega (arith, length-append near m.1.0, ap length m.1.2, c.told-others, c.read_words.ensures.length, c.split_at_mut-near.ensures.front_len) in
    rw (read_more v near m.1.0 c.read_words.new.seat.me c.has_words.new.seat.me c.read_words.ensures.seat.1 m.1.1) (
      subst (λ k. HasTop (appended v.tried both) (grown v.shown.rows both) c.args.row k) is (top_more v.tried v.shown.rows c.args.row 7 both c.requires.top.0),
      omega (arith, c.split_at_mut-read.ensures.front_len, c.requires.used),
      c.requires.top.2,
    )

pub returns-clause-seat : goal.returns-clause-seat
returns-clause-seat g c =
    let v = c.args.seat.now.me.0 in
    let near = c.read_words.new.words in
    let m = c.if-not-has_words.ensures in
    let far = c.read_words-2.new.words in
    let cut = c.split_at_mut-read.ensures in
    let far_long : length far ≡ max c.args.used 43 - 43 = omega (arith, c.read_words-2.ensures.length, cut.front_len) in
    let cleared : c.clear.new.words ≡ replicate (30 - length far) 0 = c.clear.ensures ∙ ap (λ n. replicate n 0) (omega (arith, cut.back_len, c.split_at_mut-near.ensures.back_len, c.requires.top.1, far_long, c.requires.used)) in (
      (near ++ m.1.0) ++ far,
      read_more v (near ++ m.1.0) far c.has_words.new.seat.me c.read_words-2.new.seat.me (read_more v near m.1.0 c.read_words.new.seat.me c.has_words.new.seat.me c.read_words.ensures.seat.1 m.1.1) c.read_words-2.ensures.seat.1,
      far_is c.args.used near m.1.0 c.args.others.now far _ c.clear.new.words (omega (arith, c.read_words.ensures.length, c.split_at_mut-near.ensures.front_len)) m.1.2 far_long c.requires.used cleared refl,
    )

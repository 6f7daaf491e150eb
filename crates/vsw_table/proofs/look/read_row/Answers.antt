use Rattle.std.proofs.Common.{arith, subst, refl, ap, ◌∙◌, ◌≡◌, ◌+◌, ◌++◌, [], length, length-append}
use Rattle.vsw_table.proofs.Parts.{in_steps, plain_differs, plain_told, told_or_differs}
use Rattle.vsw_table.proofs.Tries.{read_more, top_more}
use Rattle.vsw_table.specs.Held.{HasTop}
use Rattle.vsw_table.specs.Steps.{appended, grown, worded}
use Rattle.vsw_table.proofs.look.read_row.Goals as goal

pub returns-then-not-has_words-clause-seat : goal.returns-then-not-has_words-clause-seat
returns-then-not-has_words-clause-seat g c =
    let m = c.if-not-has_words.ensures in
    let p = c.plain_words-plain in
    (m.1.0, m.1.1, plain_differs c.args.key.now p.result m.1.0 p.ensures.long p.ensures.words m.1.2)

pub read_words-requires-clause-top : goal.read_words-requires-clause-top
read_words-requires-clause-top g c =
    let v = c.args.seat.now.me.0 in
    let m = c.if-not-has_words.ensures in
    let is : 0 + length m.1.0 ≡ 4 = omega (arith, ap length m.1.2, c.plain_words-plain.ensures.long) in
    rw m.1.1 (
      subst (λ k. HasTop (appended v.tried m.1.0) (grown v.shown.rows m.1.0) c.args.row k) is (top_more v.tried v.shown.rows c.args.row 0 m.1.0 c.requires.top.0),
      omega (arith, c.split_at_mut-three.ensures.front_len),
      c.requires.top.1,
    )

pub read_near-requires-clause-top : goal.read_near-requires-clause-top
read_near-requires-clause-top g c =
    let v = c.args.seat.now.me.0 in
    let m = c.if-not-has_words.ensures in
    let three = c.read_words.new.words in
    let both = m.1.0 ++ three in
    let is : 0 + length both ≡ 7 = omega (arith, length-append m.1.0 three, ap length m.1.2, c.plain_words-plain.ensures.long, c.read_words.ensures.length, c.split_at_mut-three.ensures.front_len) in
    rw (read_more v m.1.0 three c.has_words.new.seat.me c.read_words.new.seat.me m.1.1 c.read_words.ensures.seat.1) (
      subst (λ k. HasTop (appended v.tried both) (grown v.shown.rows both) c.args.row k) is (top_more v.tried v.shown.rows c.args.row 0 both c.requires.top.0),
      omega (arith, c.split_at_mut-three.ensures.back_len, c.told-body),
      c.requires.top.1,
    )

pub returns-then-is_plain-clause-seat : goal.returns-then-is_plain-clause-seat
returns-then-is_plain-clause-seat g c =
    let v = c.args.seat.now.me.0 in
    let m = c.if-not-has_words.ensures in
    let p = c.plain_words-plain in
    let u = c.words_used-used in
    let three = c.read_words.new.words in
    let near = c.read_near.ensures.seat.0 in
    let read = read_more v m.1.0 three c.has_words.new.seat.me c.read_words.new.seat.me m.1.1 c.read_words.ensures.seat.1 in
    let three_long : length three ≡ 3 = c.read_words.ensures.length ∙ c.split_at_mut-three.ensures.front_len in (
      p.result ++ (three ++ near),
      read_more v (m.1.0 ++ three) near c.read_words.new.seat.me c.read_near.new.seat.me read c.read_near.ensures.seat.1 ∙ ap (λ ws. (worded v ws, [])) (in_steps p.result m.1.0 three near m.1.2),
      plain_told g.S.Story.used c.args.key.now p.result three u.result c.told-key p.ensures.long three_long p.ensures.words (c.if-is_plain.ensures refl) (u.ensures.used ∙ ap g.S.Story.used c.front_of.ensures) u.ensures.range.0 c.if-used-le31.true near c.read_near.new.rest
          c.read_near.ensures.seat.2 c.read_near.ensures.seat.3,
    )

pub read_far-requires-clause-top : goal.read_far-requires-clause-top
read_far-requires-clause-top g c =
    let v = c.args.seat.now.me.0 in
    let m = c.if-not-has_words.ensures in
    let three = c.read_words.new.words in
    let both = m.1.0 ++ three in
    let is : 0 + length both ≡ 7 = omega (arith, length-append m.1.0 three, ap length m.1.2, c.plain_words-plain.ensures.long, c.read_words.ensures.length, c.split_at_mut-three.ensures.front_len) in
    rw (read_more v m.1.0 three c.has_words.new.seat.me c.read_words.new.seat.me m.1.1 c.read_words.ensures.seat.1) (
      subst (λ k. HasTop (appended v.tried both) (grown v.shown.rows both) c.args.row k) is (top_more v.tried v.shown.rows c.args.row 0 both c.requires.top.0),
      omega (arith, c.split_at_mut-three.ensures.back_len, c.told-body),
      c.requires.top.1,
    )

pub returns-clause-seat : goal.returns-clause-seat
returns-clause-seat g c =
    let v = c.args.seat.now.me.0 in
    let m = c.if-not-has_words.ensures in
    let p = c.plain_words-plain in
    let o = c.other_words in
    let u = c.words_used-used in
    let three = c.read_words.new.words in
    let far = c.read_far.ensures.seat in
    let read = read_more v m.1.0 three c.has_words.new.seat.me c.read_words.new.seat.me m.1.1 c.read_words.ensures.seat.1 in
    let three_long : length three ≡ 3 = c.read_words.ensures.length ∙ c.split_at_mut-three.ensures.front_len in (
      p.result ++ (three ++ far.0),
      read_more v (m.1.0 ++ three) far.0 c.read_words.new.seat.me c.read_far.new.seat.me read far.1 ∙ ap (λ ws. (worded v ws, [])) (in_steps p.result m.1.0 three far.0 m.1.2),
      told_or_differs g.S.Story.used c.args.key.now p.result three o.result u.result c.told-key p.ensures.long three_long o.ensures.long p.ensures.words o.ensures.words (u.ensures.used ∙ ap g.S.Story.used c.front_of.ensures) u.ensures.range.0 u.ensures.range.1 far.0 c.read_far.new.rest c.read_far.result far.2,
    )

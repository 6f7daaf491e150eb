use Rattle.std.proofs.Common.{arith, ap, ◌++◌}
use Rattle.vsw_table.proofs.Tries.{read_row, missed_zero, missed_key, counted_top, missed_again, hit_seen, hit_found, hit_good, opens_on}
use Rattle.vsw_table.proofs.look.try_row.Goals as goal

pub returns-then-stamp-eq0-clause-found : goal.returns-then-stamp-eq0-clause-found
returns-then-stamp-eq0-clause-found g c = missed_zero c.args.seat.now.me.0 c.args.row c.read_stamp-stamp.result c.args.key.now c.read_stamp-stamp.new.seat.me c.read_stamp-stamp.ensures.1 c.if-stamp-eq0.true

pub returns-then-not-read_row-clause-found : goal.returns-then-not-read_row-clause-found
returns-then-not-read_row-clause-found g c =
    let v = c.args.seat.now.me.0 in
    let row = c.args.row in
    let stamp = c.read_stamp-stamp.result in
    let m = c.if-not-read_row.ensures.seat in
    let read = read_row v row stamp m.0 c.read_stamp-stamp.new.seat.me c.read_row.new.seat.me c.read_stamp-stamp.ensures.1 m.1 in
    missed_key v row stamp c.args.key.now m.0 c.read_row.new.seat.me read m.2

pub read_again-requires-clause-top : goal.read_again-requires-clause-top
read_again-requires-clause-top g c =
    let v = c.args.seat.now.me.0 in
    let row = c.args.row in
    let stamp = c.read_stamp-stamp.result in
    let m = c.if-not-read_row.ensures.seat in
    let ws = m.0 in
    let is = ap (λ a. a.0) (read_row v row stamp ws c.read_stamp-stamp.new.seat.me c.read_row.new.seat.me c.read_stamp-stamp.ensures.1 m.1) in
    let u = c.read_row.new.seat.me.0 in
    let w = c.count-word.new.seat.me.0 in
    let n = c.count-word.result in
    let looks = c.count-word.ensures.2 in
    counted_top v row stamp ws n u w is looks

pub returns-then-read_again-stamp-clause-found : goal.returns-then-read_again-stamp-clause-found
returns-then-read_again-stamp-clause-found g c =
    let v = c.args.seat.now.me.0 in
    let row = c.args.row in
    let stamp = c.read_stamp-stamp.result in
    let m = c.if-not-read_row.ensures.seat in
    let ws = m.0 in
    let is = ap (λ a. a.0) (read_row v row stamp ws c.read_stamp-stamp.new.seat.me c.read_row.new.seat.me c.read_stamp-stamp.ensures.1 m.1) in
    let u = c.read_row.new.seat.me.0 in
    let w = c.count-word.new.seat.me.0 in
    let n = c.count-word.result in
    let looks = c.count-word.ensures.2 in
    missed_again v row stamp ws n u w is looks c.args.key.now c.read_again.result c.read_again.new.seat.me c.read_again.ensures.seat.1 c.if-read_again-stamp.true

pub returns-clause-hit : goal.returns-clause-hit
returns-clause-hit g c =
    let v = c.args.seat.now.me.0 in
    let row = c.args.row in
    let stamp = c.read_stamp-stamp.result in
    let m = c.if-not-read_row.ensures.seat in
    let ws = m.0 in
    let is = ap (λ a. a.0) (read_row v row stamp ws c.read_stamp-stamp.new.seat.me c.read_row.new.seat.me c.read_stamp-stamp.ensures.1 m.1) in
    let u = c.read_row.new.seat.me.0 in
    let w = c.count-word.new.seat.me.0 in
    let n = c.count-word.result in
    let looks = c.count-word.ensures.2 in
    let whole = c.args.key.now ++ c.read_row.new.body in
    let seen = hit_seen v row stamp ws n u w is looks c.read_again.result c.read_again.new.seat.me c.read_again.ensures.seat.1 c.if-read_again-stamp.false in (
      seen.0,
      omega arith,
      seen.1,
      λ o opens. hit_good v row stamp ws n u w is looks (g.S.Story.good o) g.S.Story.used (λ h r. g.met.S.Story.zeros_beyond o h r) whole c.read_again.result c.read_again.new.seat.me c.read_again.ensures.seat.1 c.if-read_again-stamp.false c.if-stamp-eq0.false m.2
          (c.read_again.ensures.right o (opens_on v row stamp ws n u w is looks o opens)),
    )

pub returns-clause-found : goal.returns-clause-found
returns-clause-found g c =
    let v = c.args.seat.now.me.0 in
    let row = c.args.row in
    let stamp = c.read_stamp-stamp.result in
    let m = c.if-not-read_row.ensures.seat in
    let ws = m.0 in
    let is = ap (λ a. a.0) (read_row v row stamp ws c.read_stamp-stamp.new.seat.me c.read_row.new.seat.me c.read_stamp-stamp.ensures.1 m.1) in
    let u = c.read_row.new.seat.me.0 in
    let w = c.count-word.new.seat.me.0 in
    let n = c.count-word.result in
    let looks = c.count-word.ensures.2 in
    let whole = c.args.key.now ++ c.read_row.new.body in
    hit_found v row stamp ws n u w is looks g.S.Story.used whole c.read_again.result c.read_again.new.seat.me c.read_again.ensures.seat.1 c.if-read_again-stamp.false c.if-stamp-eq0.false m.2

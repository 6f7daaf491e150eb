use Rattle.std.proofs.Common.{◌∙◌, sym, true≢false}
use Rattle.vsw_core.specs.Private.Comparing.{IsCompared}
use Rattle.vsw_core.proofs.Compared.{changed_is, kept_is, none_made, others_stay, pair_cleared, short_is}
use Rattle.vsw_core.proofs.Walked.{whole_at}
use Rattle.vsw_table.specs.Rules.{row_at}
use Rattle.vsw_rows.specs.Rows.{layers_after}
use Rattle.vsw_core.proofs.reconciling.renew.Goals as goal

pub returns-then-wants_change-clause-reconciles : goal.returns-then-wants_change-clause-reconciles
returns-then-wants_change-clause-reconciles c =
    let ls = layers_after c.args.lookup.now.1 c.args.rows.now.view.history in
    let x = c.args.former.now.crossing in
    let w = c.walk_now-walked.result in
    let t = c.walk_now-walked.new.scratch in
    pair_cleared ls c.args.rows.now c.args.row x c.args.former.now.body w t c.requires.old c.requires.read (whole_at _ ls x w t c.requires.layers c.walk_now-walked.ensures.walk) (sym c.wants_change.ensures ∙ c.if-wants_change.true)

pub returns-then-keep-clause-reconciles : goal.returns-then-keep-clause-reconciles
returns-then-keep-clause-reconciles c =
    let v = c.args.rows.now in
    let ls = layers_after c.args.lookup.now.1 v.view.history in
    let x = c.args.former.now.crossing in
    let b = c.args.former.now.body in
    let w = c.walk_now-walked.result in
    let t = c.walk_now-walked.new.scratch in
    let compared : IsCompared ls (row_at v.view.rows c.args.row) x b w t = record {
      read = c.requires.read;
      walk = whole_at _ ls x w t c.requires.layers c.walk_now-walked.ensures.walk;
      quiet = none_made w t (sym c.wants_change.ensures ∙ c.if-wants_change.false);
    } in
    kept_is ls v c.keep.new.rows c.args.row x b w t c.keep.new.words c.keep.result c.if-keep.true c.keep.ensures.puts c.requires.old compared (c.is_same.ensures.told c.if-is_same.true) c.keep.ensures.says

pub returns-then-is_same-clause-reconciles : goal.returns-then-is_same-clause-reconciles
returns-then-is_same-clause-reconciles c =
    let v = c.args.rows.now in
    let ls = layers_after c.args.lookup.now.1 v.view.history in
    let x = c.args.former.now.crossing in
    let b = c.args.former.now.body in
    let w = c.walk_now-walked.result in
    let t = c.walk_now-walked.new.scratch in
    let compared : IsCompared ls (row_at v.view.rows c.args.row) x b w t = record {
      read = c.requires.read;
      walk = whole_at _ ls x w t c.requires.layers c.walk_now-walked.ensures.walk;
      quiet = none_made w t (sym c.wants_change.ensures ∙ c.if-wants_change.false);
    } in
    short_is ls v c.keep.new.rows c.args.row x b w t c.keep.new.words c.keep.result c.if-keep.false c.keep.ensures.puts c.requires.old compared

pub returns-then-write_row-clause-reconciles : goal.returns-then-write_row-clause-reconciles
returns-then-write_row-clause-reconciles c =
    let v = c.args.rows.now in
    let ls = layers_after c.args.lookup.now.1 v.view.history in
    let x = c.args.former.now.crossing in
    let b = c.args.former.now.body in
    let w = c.walk_now-walked.result in
    let t = c.walk_now-walked.new.scratch in
    let compared : IsCompared ls (row_at v.view.rows c.args.row) x b w t = record {
      read = c.requires.read;
      walk = whole_at _ ls x w t c.requires.layers c.walk_now-walked.ensures.walk;
      quiet = none_made w t (sym c.wants_change.ensures ∙ c.if-wants_change.false);
    } in
    changed_is ls v c.write_row.new.rows c.args.row x b w t c.write_row.new.rooms.words c.write_row.result c.if-write_row.true c.write_row.ensures.puts c.requires.old compared
    (λ s. true≢false (sym (c.is_same.ensures.back s) ∙ c.if-is_same.false)) c.write_row.ensures.row

pub returns-clause-reconciles : goal.returns-clause-reconciles
returns-clause-reconciles c =
    let v = c.args.rows.now in
    let ls = layers_after c.args.lookup.now.1 v.view.history in
    let x = c.args.former.now.crossing in
    let b = c.args.former.now.body in
    let w = c.walk_now-walked.result in
    let t = c.walk_now-walked.new.scratch in
    let compared : IsCompared ls (row_at v.view.rows c.args.row) x b w t = record {
      read = c.requires.read;
      walk = whole_at _ ls x w t c.requires.layers c.walk_now-walked.ensures.walk;
      quiet = none_made w t (sym c.wants_change.ensures ∙ c.if-wants_change.false);
    } in
    short_is ls v c.write_row.new.rows c.args.row x b w t c.write_row.new.rooms.words c.write_row.result c.if-write_row.false c.write_row.ensures.puts c.requires.old compared

pub returns-then-keep-clause-others : goal.returns-then-keep-clause-others
returns-then-keep-clause-others c = others_stay c.args.rows.now c.keep.new.rows c.args.row c.keep.new.words c.keep.result c.keep.ensures.puts

pub returns-then-is_same-clause-others : goal.returns-then-is_same-clause-others
returns-then-is_same-clause-others c = others_stay c.args.rows.now c.keep.new.rows c.args.row c.keep.new.words c.keep.result c.keep.ensures.puts

pub returns-then-write_row-clause-others : goal.returns-then-write_row-clause-others
returns-then-write_row-clause-others c = others_stay c.args.rows.now c.write_row.new.rows c.args.row c.write_row.new.rooms.words c.write_row.result c.write_row.ensures.puts

pub returns-clause-others : goal.returns-clause-others
returns-clause-others c = others_stay c.args.rows.now c.write_row.new.rows c.args.row c.write_row.new.rooms.words c.write_row.result c.write_row.ensures.puts

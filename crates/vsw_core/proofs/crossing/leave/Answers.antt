use Rattle.std.proofs.Common.{◌≡◌, ◌≤◌, ◌∙◌, true, arith, subst, sym}
use Rattle.vsw_base.specs.Shape.{is_stack}
use Rattle.vsw_core.proofs.Published.{Looks, own_stands, row_left, short_left, wants_as}
use Rattle.vsw_core.specs.Private.Steps.{Publishes}
use Rattle.vsw_core.specs.Walks.{SaysRowOf}
use Rattle.vsw_rows.specs.Rows.{layers_after}
use Rattle.vsw_flows.specs.Finding.{IsFound}
use Rattle.vsw_flows.specs.Flows.{Puts, Writing}
use Rattle.vsw_walk.specs.Walk.{greatest}
use Rattle.vsw_core.proofs.crossing.leave.Goals as goal

pub returns-in-Own : goal.returns-in-Own
returns-in-Own c =
    let ls = layers_after c.args.lookup.now.1 c.args.rows.now.view.history in
    let l : Looks c.args.lookup.now.1 c.args.crossing.now c.key_words.new.out c.args.rows.now = record {
      plain = c.requires.control;
      small = subst (λ n. n ≤ greatest) c.micros_of.ensures.value c.micros_of.ensures.small;
      id = record { stack = subst (λ hs. is_stack hs ≡ true) c.headers.ensures.all c.headers.ensures.shape; fit = c.key_words.ensures.fit };
      key_is = c.key_words.ensures.words;
      still = wants_as ls c.args.crossing.now c.args.walked.now c.args.scratch.now c.requires.walk (sym c.wants_change.ensures ∙ c.if-wants_change.false);
    } in
    subst (λ (q : Writing). Publishes c.args.lookup.now.2 ls c.args.crossing.now c.args.rows.now q true) (sym c.find.ensures.same)
    (own_stands c.args.lookup.now.1 c.args.lookup.now.2 c.args.crossing.now c.key_words.new.out c.in-Own.row c.args.rows.now l (subst (IsFound c.args.lookup.now.2 c.key_words.new.out c.args.rows.now) c.in-Own.is c.find.ensures.found) (c.find.ensures.good c.in-Own.row c.in-Own.is))

pub returns-then-not-write_row : goal.returns-then-not-write_row
returns-then-not-write_row c =
    let v = c.args.rows.now in
    let ls = layers_after c.args.lookup.now.1 v.view.history in
    let l : Looks c.args.lookup.now.1 c.args.crossing.now c.key_words.new.out v = record {
      plain = c.requires.control;
      small = subst (λ n. n ≤ greatest) c.micros_of.ensures.value c.micros_of.ensures.small;
      id = record { stack = subst (λ hs. is_stack hs ≡ true) c.headers.ensures.all c.headers.ensures.shape; fit = c.key_words.ensures.fit };
      key_is = c.key_words.ensures.words;
      still = wants_as ls c.args.crossing.now c.args.walked.now c.args.scratch.now c.requires.walk (sym c.wants_change.ensures ∙ c.if-wants_change.false);
    } in
    let found = subst (IsFound c.args.lookup.now.2 c.key_words.new.out v) c.in-Free.is c.find.ensures.found in
    let said = subst (λ (q : Writing). SaysRowOf (layers_after c.args.lookup.now.1 q.view.history) c.args.crossing.now c.write_row.new.rooms.words) c.find.ensures.same c.write_row.ensures.row in
    let puts = subst (λ (q : Writing). Puts q c.write_row.new.rows c.in-Free.row c.write_row.new.rooms.words c.write_row.result) c.find.ensures.same c.write_row.ensures.puts in
    short_left c.args.lookup.now.1 c.args.lookup.now.2 c.args.crossing.now c.key_words.new.out c.in-Free.row c.write_row.new.rooms.words c.write_row.result v c.write_row.new.rows l found said (grind (arith, c.if-not-write_row.true)) puts

pub returns-else-not-write_row : goal.returns-else-not-write_row
returns-else-not-write_row c =
    let v = c.args.rows.now in
    let ls = layers_after c.args.lookup.now.1 v.view.history in
    let l : Looks c.args.lookup.now.1 c.args.crossing.now c.key_words.new.out v = record {
      plain = c.requires.control;
      small = subst (λ n. n ≤ greatest) c.micros_of.ensures.value c.micros_of.ensures.small;
      id = record { stack = subst (λ hs. is_stack hs ≡ true) c.headers.ensures.all c.headers.ensures.shape; fit = c.key_words.ensures.fit };
      key_is = c.key_words.ensures.words;
      still = wants_as ls c.args.crossing.now c.args.walked.now c.args.scratch.now c.requires.walk (sym c.wants_change.ensures ∙ c.if-wants_change.false);
    } in
    let found = subst (IsFound c.args.lookup.now.2 c.key_words.new.out v) c.in-Free.is c.find.ensures.found in
    let said = subst (λ (q : Writing). SaysRowOf (layers_after c.args.lookup.now.1 q.view.history) c.args.crossing.now c.write_row.new.rooms.words) c.find.ensures.same c.write_row.ensures.row in
    let puts = subst (λ (q : Writing). Puts q c.write_row.new.rows c.in-Free.row c.write_row.new.rooms.words c.write_row.result) c.find.ensures.same c.write_row.ensures.puts in
    subst (λ (q : Writing). Publishes c.args.lookup.now.2 ls c.args.crossing.now v q c.is_current.result) (sym c.is_current.ensures.same)
    (row_left c.args.lookup.now.1 c.args.lookup.now.2 c.args.crossing.now c.key_words.new.out c.in-Free.row c.write_row.new.rooms.words c.write_row.result c.is_current.result v c.write_row.new.rows l found said (grind (arith, c.if-not-write_row.false)) puts c.is_current.ensures.told c.is_current.ensures.back)

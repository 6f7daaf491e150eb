use Rattle.std.proofs.Common.{rules, ◌<◌, ◌≤◌, subst, ℕ}
use Rattle.vsw_answer.proofs.Rows.{found_good, found_of, found_whole, said, said_late, says_of}
use Rattle.vsw_answer.proofs.answer.answer.Goals as goal

pub outcome_by-requires : goal.outcome_by-requires
outcome_by-requires c = let found = c.requires.found.2 in record { body = (says_of found.row, found_of c.requires.found.0 c.requires.found.1 c.args.crossing.now c.args.words.now c.requires.id found) }

pub returns-then-micros : goal.returns-then-micros
returns-then-micros c =
    let late : c.until_in.result < c.args.crossing.now.moment = search rules in
    record {
      says = λ o h found many.
          let b = says_of found.row in
          let is = found_of o h c.args.crossing.now c.args.words.now c.requires.id found in
          said_late o h c.args.crossing.now c.args.words.now b (found_good o h c.args.crossing.now c.args.words.now c.requires.id found) (found_whole o h c.args.crossing.now c.args.words.now c.requires.id found)
          (subst (λ (n : ℕ). n < c.args.crossing.now.moment) (c.until_in.ensures b.verdict b.by b.until is.0) late);
    }

pub returns : goal.returns
returns c =
    let time : c.args.crossing.now.moment ≤ c.until_in.result = search rules in
    record {
      says = λ o h found many.
          let b = says_of found.row in
          let is = found_of o h c.args.crossing.now c.args.words.now c.requires.id found in
          said o h c.args.crossing.now c.args.words.now b c.outcome_by.new.edited c.outcome_by.result c.args.count c.requires.control (found_good o h c.args.crossing.now c.args.words.now c.requires.id found) (found_whole o h c.args.crossing.now c.args.words.now c.requires.id found)
          (subst (λ (n : ℕ). c.args.crossing.now.moment ≤ n) (c.until_in.ensures b.verdict b.by b.until is.0) time) many (c.outcome_by.ensures.fate b is) (c.outcome_by.ensures.edited b is) c.outcome_by.ensures.own c.outcome_by.ensures.entry;
    }

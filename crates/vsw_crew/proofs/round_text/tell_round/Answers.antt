use Rattle.std.proofs.Common.{◌≡◌, ◌++◌, ℕ, List, codes, decimal, ap, sym, ◌∙◌, subst, length, map}
use Rattle.std.specs.List.{concat, flat_map}
use Rattle.vsw_report.specs.Whole.{whole_text}
use Rattle.vsw_report.specs.Line.{TextLine}
use Rattle.vsw_report.specs.Print.{loose_text}
use Rattle.vsw_policy.specs.Layers.{place_of}
use Rattle.vsw_crew.specs.Texts.{texts_at, texts_by_port}
use Rattle.vsw_crew.specs.Private.Port.{AreOnce, lines_at}
use Rattle.vsw_crew.proofs.GoneAtPort.{gone_all, texts_are}
use Rattle.vsw_crew.proofs.Once.{once}
use Rattle.vsw_crew.proofs.ToldPorts.{AreOf, counted_all, round_told, short_all, three_behind, told_all, two_behind}
use Rattle.vsw_crew.proofs.round_text.tell_round.Goals as goal

pub tell_ports-requires-clause-once : goal.tell_ports-requires-clause-once
tell_ports-requires-clause-once c = subst AreOnce (sym (c.deref.ensures.value ∙ c.in_ok-places.ensures)) (once c.args.controllers.now c.args.listed.now c.requires.listed)

pub returns-clause-text : goal.returns-clause-text
returns-clause-text c ps hs gs n b a counts =
    let cs = c.args.controllers.now in
    let listed = c.args.listed.now in
    let lines = c.args.lines.now in
    let firsts = c.args.firsts.now in
    let numbers = c.args.numbers.now in
    let befores = c.args.befores.now in
    let afters = c.args.afters.now in
    let told : ℕ → List (List TextLine) = lines_at c.args.workers c.deref.result.now lines firsts in
    let texts : ℕ → List (List TextLine) = texts_at c.args.workers cs listed lines firsts in
    let places : c.deref.result.now ≡ map (λ m. place_of m cs) listed = c.deref.ensures.value ∙ c.in_ok-places.ensures in
    let same : (k : ℕ) → told k ≡ texts k = λ k. ap (λ ms. lines_at c.args.workers ms lines firsts k) places ∙ texts_are c.args.workers cs listed lines firsts k in
    let o : AreOf numbers befores afters ps hs gs = record { numbers_are = n; befores_are = b; afters_are = a; before_each = c.requires.sizes.befores_are; after_each = c.requires.sizes.afters_are } in
    round_told c.args.first ps hs gs (texts_by_port c.args.workers cs listed lines firsts (length numbers)) c.args.loose.now _ (whole_text c.args.out.now) (concat c.args.out.now.sheets ++ c.round_line.new.out.items) (whole_text c.tell_ports.new.out) (concat c.tell_ports.new.out.sheets ++ c.loose_part.new.out.items)
    (three_behind (concat c.args.out.now.sheets) c.args.out.now.end.items c.round_line.new.out.items (codes "round ") (decimal c.args.first) (codes "\n") c.in_ok-round_line.ensures)
    (c.in_ok-short.ensures.text (counted_all numbers befores afters ps hs gs told texts o same counts)) (told_all numbers befores afters ps hs gs told texts o same)
    (two_behind (concat c.tell_ports.new.out.sheets) c.tell_ports.new.out.end.items c.loose_part.new.out.items (codes "loose\n") (flat_map loose_text c.args.loose.now) c.in_ok-loose_part.ensures)

pub returns-clause-short : goal.returns-clause-short
returns-clause-short c ps hs gs n b a counts =
    let cs = c.args.controllers.now in
    let listed = c.args.listed.now in
    let lines = c.args.lines.now in
    let firsts = c.args.firsts.now in
    let numbers = c.args.numbers.now in
    let befores = c.args.befores.now in
    let afters = c.args.afters.now in
    let told : ℕ → List (List TextLine) = lines_at c.args.workers c.deref.result.now lines firsts in
    let texts : ℕ → List (List TextLine) = texts_at c.args.workers cs listed lines firsts in
    let places : c.deref.result.now ≡ map (λ m. place_of m cs) listed = c.deref.ensures.value ∙ c.in_ok-places.ensures in
    let same : (k : ℕ) → told k ≡ texts k = λ k. ap (λ ms. lines_at c.args.workers ms lines firsts k) places ∙ texts_are c.args.workers cs listed lines firsts k in
    let o : AreOf numbers befores afters ps hs gs = record { numbers_are = n; befores_are = b; afters_are = a; before_each = c.requires.sizes.befores_are; after_each = c.requires.sizes.afters_are } in
    c.in_ok-short.ensures.short (counted_all numbers befores afters ps hs gs told texts o same counts) ∙ short_all numbers befores afters ps hs gs told texts o same

pub returns-clause-taken : goal.returns-clause-taken
returns-clause-taken c = c.in_ok-short.ensures.lines ∙ gone_all (length c.args.numbers.now) c.args.lines.now c.requires.sizes.wide

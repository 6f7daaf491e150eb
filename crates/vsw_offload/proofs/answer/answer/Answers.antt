use Rattle.std.proofs.Common.{◌∙◌, ap, get_or, subst, sym, refl}
use Rattle.std.specs.Prelude.{[]}
use Rattle.vsw_base.specs.declared.flow.Ufid.{Ufid}
use Rattle.vsw_frame.specs.Frame.{parts}
use Rattle.vsw_offload.specs.Private.Finding.{HasNone, HasOne}
use Rattle.vsw_offload.specs.Private.Heading.{AreMade}
use Rattle.vsw_offload.specs.Private.Saying.{SaysRow}
use Rattle.vsw_offload.specs.Answered.{rows_at}
use Rattle.vsw_offload.specs.Rows.{IsRow, Rise}
use Rattle.vsw_offload.proofs.ByRow.{by_found, fits_frame, none_of, row_among, rows_are, rows_rise}
use Rattle.vsw_offload.proofs.Found.{one_there}
use Rattle.vsw_offload.proofs.Headed.{found_by_head, no_port, of_port}
use Rattle.vsw_offload.proofs.Noted.{free_none, noted_at}
use Rattle.vsw_offload.specs.Private.Noting.{is_taken}
use Rattle.vsw_words.specs.Key.{key_words}
use Rattle.vsw_offload.proofs.answer.answer.Goals as goal

pub returns-in_default-clause-answered : goal.returns-in_default-clause-answered
returns-in_default-clause-answered c x of =
    none_of (rows_at c.args.ports.now c.args.place.port) x c.write_key.new.out (c.write_key.ensures.key ∙ ap (λ (i : Ufid). key_words i.dir i.stack) (sym of.id)) (no_port c.args.ports.now c.args.edits.now c.args.place.port c.write_key.new.out c.requires.made c.in_default.ensures.none)

pub returns-in-Some-by_heads-clause-answered : goal.returns-in-Some-by_heads-clause-answered
returns-in-Some-by_heads-clause-answered c x of =
    let p = parts c.args.frame.now in
    let ps = c.args.ports.now in
    let n = c.args.place.port in
    let id : Ufid = record { dir = c.args.place.dir; stack = p.stack } in
    let made = of_port ps c.args.edits.now n c.in-Some.edits.now c.requires.made c.in-Some.ensures.some in
    let by = c.in-Some-by_heads.ensures.answered (rows_at ps n) made (rows_are ps n c.requires.are) id c.write_key.ensures.id c.write_key.ensures.key refl in
    found_by_head (rows_at ps n) x p c.write_key.new.out c.by_heads.new.out c.args.moment id c.in-Some-by_heads.given by c.write_key.ensures.id c.write_key.ensures.key of.id (of.control ∙ c.if-not-is_plain.ensures.told refl) of.moment_is

pub by_heads-requires-clause-made : goal.by_heads-requires-clause-made
by_heads-requires-clause-made c =
    let ps = c.args.ports.now in
    let n = c.args.place.port in
    (rows_at ps n, of_port ps c.args.edits.now n c.in-Some.edits.now c.requires.made c.in-Some.ensures.some, rows_are ps n c.requires.are)

pub by_heads-requires-clause-id : goal.by_heads-requires-clause-id
by_heads-requires-clause-id c =
    let id : Ufid = record { dir = c.args.place.dir; stack = (parts c.args.frame.now).stack } in
    (id, c.write_key.ensures.id, c.write_key.ensures.key, refl)

pub returns-then-is_free-clause-answered : goal.returns-then-is_free-clause-answered
returns-then-is_free-clause-answered c x of =
    let g = c.args.guesses.now in
    let rows = rows_at c.args.ports.now c.args.place.port in
    let free = ap (is_taken g.places.items) (sym c.slot-slot.ensures) ∙ c.if-is_free.ensures refl in
    none_of rows x c.write_key.new.out (c.write_key.ensures.key ∙ ap (λ (i : Ufid). key_words i.dir i.stack) (sym of.id)) (free_none g.places.items g.slots rows c.write_key.new.out (noted_at g.places.items g.slots c.args.ports.now c.args.place.port c.requires.noted) free)

pub by_place-requires-clause-row : goal.by_place-requires-clause-row
by_place-requires-clause-row c =
    let words = get_or c.rows_at-rows.result.now c.in-Some-guessed.at [] in
    let one : HasOne (rows_at c.args.ports.now c.args.place.port) words = subst (λ rs. HasOne rs words) c.rows_at-rows.ensures (one_there c.rows_at-rows.result.now c.in-Some-guessed.at c.in-Some-guessed.ensures.within) in
    let r : IsRow words = row_among c.args.ports.now c.args.place.port words c.requires.are one in
    let id : Ufid = record { dir = c.args.place.dir; stack = (parts c.args.frame.now).stack } in
    (r.row, record { says = r.says; fits = fits_frame words id r c.write_key.ensures.id (c.in-Some-guessed.ensures.key ∙ c.write_key.ensures.key) })

pub by_place-requires-clause-made : goal.by_place-requires-clause-made
by_place-requires-clause-made c =
    let made = of_port c.args.ports.now c.args.edits.now c.args.place.port c.in-Some.edits.now c.requires.made c.in-Some.ensures.some in
    subst (λ rs. AreMade rs c.in-Some.edits.now) (sym c.rows_at-rows.ensures) made

pub find-requires : goal.find-requires
find-requires c = record { rise = subst Rise (sym c.rows_at-rows.ensures) (rows_rise c.args.ports.now c.args.place.port c.requires.are) }

pub returns-in-None-find-clause-answered : goal.returns-in-None-find-clause-answered
returns-in-None-find-clause-answered c x of =
    none_of (rows_at c.args.ports.now c.args.place.port) x c.write_key.new.out (c.write_key.ensures.key ∙ ap (λ (i : Ufid). key_words i.dir i.stack) (sym of.id)) (subst (λ rs. HasNone rs c.write_key.new.out) c.rows_at-rows.ensures c.in-None-find.ensures.none)

pub by_row-requires-clause-row : goal.by_row-requires-clause-row
by_row-requires-clause-row c =
    let one : HasOne (rows_at c.args.ports.now c.args.place.port) c.in-Some-find.words.now = subst (λ rs. HasOne rs c.in-Some-find.words.now) c.rows_at-rows.ensures c.in-Some-find.ensures.one in
    let r : IsRow c.in-Some-find.words.now = row_among c.args.ports.now c.args.place.port c.in-Some-find.words.now c.requires.are one in
    let id : Ufid = record { dir = c.args.place.dir; stack = (parts c.args.frame.now).stack } in
    (r.row, record { says = r.says; fits = fits_frame c.in-Some-find.words.now id r c.write_key.ensures.id (c.in-Some-find.ensures.key ∙ c.write_key.ensures.key) })

pub returns-in-Some-guessed-clause-answered : goal.returns-in-Some-guessed-clause-answered
returns-in-Some-guessed-clause-answered c x of =
    let rows = rows_at c.args.ports.now c.args.place.port in
    let words = get_or c.rows_at-rows.result.now c.in-Some-guessed.at [] in
    let one : HasOne rows words = subst (λ rs. HasOne rs words) c.rows_at-rows.ensures (one_there c.rows_at-rows.result.now c.in-Some-guessed.at c.in-Some-guessed.ensures.within) in
    let r : IsRow words = row_among c.args.ports.now c.args.place.port words c.requires.are one in
    let id : Ufid = record { dir = c.args.place.dir; stack = (parts c.args.frame.now).stack } in
    let row : SaysRow words r.row (parts c.args.frame.now) = record { says = r.says; fits = fits_frame words id r c.write_key.ensures.id (c.in-Some-guessed.ensures.key ∙ c.write_key.ensures.key) } in
    by_found rows x (parts c.args.frame.now) words c.by_place.new.out c.args.moment id c.by_place.result one r c.write_key.ensures.id (c.in-Some-guessed.ensures.key ∙ c.write_key.ensures.key) of.id (of.control ∙ c.if-not-is_plain.ensures.told refl) of.moment_is
    (c.by_place.ensures.early r.row row) (c.by_place.ensures.fate r.row row) (c.by_place.ensures.bytes r.row row) (c.by_place.ensures.late r.row row)

pub returns-in-Some-find-clause-answered : goal.returns-in-Some-find-clause-answered
returns-in-Some-find-clause-answered c x of =
    let rows = rows_at c.args.ports.now c.args.place.port in
    let words = c.in-Some-find.words.now in
    let one : HasOne rows words = subst (λ rs. HasOne rs words) c.rows_at-rows.ensures c.in-Some-find.ensures.one in
    let r : IsRow words = row_among c.args.ports.now c.args.place.port words c.requires.are one in
    let id : Ufid = record { dir = c.args.place.dir; stack = (parts c.args.frame.now).stack } in
    let row : SaysRow words r.row (parts c.args.frame.now) = record { says = r.says; fits = fits_frame words id r c.write_key.ensures.id (c.in-Some-find.ensures.key ∙ c.write_key.ensures.key) } in
    by_found rows x (parts c.args.frame.now) words c.by_row.new.out c.args.moment id c.by_row.result one r c.write_key.ensures.id (c.in-Some-find.ensures.key ∙ c.write_key.ensures.key) of.id (of.control ∙ c.if-not-is_plain.ensures.told refl) of.moment_is
    (c.by_row.ensures.early r.row row) (c.by_row.ensures.fate r.row row) (c.by_row.ensures.bytes r.row row) (c.by_row.ensures.late r.row row)
